use Rattle.std.proofs.Common.{◌≡◌, ◌++◌, drop, map, decimal}
use Rattle.client_words.specs.Words.{texts}
use Rattle.client_words.proofs.status.ids.Given as goal

-- the words are the ids that are read, spelled, and the words that are left
abbrev pub invariant-loop-word : goal.invariant-loop-word
invariant-loop-word l = texts l.words ≡ map decimal l.nodes.items ++ texts (drop l.word-index l.words)

use Rattle.std.proofs.Common.{◌≡◌, take}
use Rattle.client_words.specs.Words.{words_read}
use Rattle.client_words.proofs.whole.reading_of.Given as goal

abbrev pub invariant-loop-word : goal.invariant-loop-word
invariant-loop-word g l = l.reading ≡ words_read g.S.AsStr.text (take l.word-index l.fn.words)

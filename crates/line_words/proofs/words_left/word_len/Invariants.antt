use Rattle.std.proofs.Common.{◌≡◌, ◌+◌, drop}
use Rattle.line_words.specs.Words.{word_len}
use Rattle.line_words.proofs.words_left.word_len.Given as goal

abbrev pub invariant-loop-i : goal.invariant-loop-i
invariant-loop-i l = word_len l.line ≡ l.i + word_len (drop l.i l.line)

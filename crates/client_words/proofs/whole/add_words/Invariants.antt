use Rattle.std.proofs.Common.{◌≡◌, ◌++◌, drop}
use Rattle.client_words.specs.Words.{texts, text_if, placed, nothing_read}
use Rattle.client_words.proofs.whole.add_words.Given as goal

abbrev pub invariant-loop-word : goal.invariant-loop-word
invariant-loop-word g l =
    texts l.whole.items ++ placed g.S.AsStr.text (text_if l.node) l.reading (drop l.word-index l.fn.words)
    ≡ texts l.initial.whole.items ++ placed g.S.AsStr.text (text_if l.fn.node) nothing_read l.fn.words

use Rattle.std.proofs.Common.{refl}
use Rattle.line_words.proofs.FirstWords.{first-words, after-first}
use Rattle.line_words.proofs.words_left.Words.next.Goals as goal

pub returns-clause-word : goal.returns-clause-word
returns-clause-word c = rw (← c.self.view_is, c.in_ok-line.was, c.word_len-len.ensures.len, first-words) refl

pub returns-clause-rest : goal.returns-clause-rest
returns-clause-rest c =
    rw (← c.self.view_is, c.in_ok-line.was) (after-first
    c.in_ok-line.line.now
    c.word_len-len.result
    c.get-self-inside.result
    c.word_len-len.ensures.len
    c.word_len-len.ensures.within
    c.get-self-inside.ensures.lookup)

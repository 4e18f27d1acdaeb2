use Rattle.std.proofs.Common.{sym}
use Rattle.line_words.proofs.FirstWords.{ends-words}
use Rattle.line_words.proofs.words_left.Words.end.Goals as goal

pub returns-in-Some : goal.returns-in-Some
returns-in-Some g c = rw (← c.self.view_is, c.in-Some.is) (sym (ends-words c.args.value c.in-Some.field-0.now))

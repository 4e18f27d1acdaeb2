use Rattle.std.proofs.Common.{◌∙◌, ap, is_some}
use Rattle.memchr.specs.Find.{is_byte}
use Rattle.memchr.proofs.lemmas.ValueLemmas.{IsFirstByte-value}
use Rattle.command_parts.proofs.returns.has_return.Goals as goal

pub returns : goal.returns
returns c = c.is_some.ensures ∙ ap is_some (IsFirstByte-value (is_byte 13) c.args.bytes.now c.memchr.result c.memchr.ensures)

use Rattle.std.proofs.Common.{rules}
use Rattle.events_text.proofs.UsualLines.{one_in_front, two_in_front}
use Rattle.events_text.proofs.usual.short_number.Goals as goal

pub returns-in-len2-up : goal.returns-in-len2-up
returns-in-len2-up c =
    one_in_front c.args.text.now c.args.end c.from.result (search rules) (search rules) (search rules) (search rules)

pub returns-in-49-to-57 : goal.returns-in-49-to-57
returns-in-49-to-57 c =
    two_in_front c.args.text.now c.args.end _ (search rules) (search rules) (search rules) (search rules) (search rules) (search rules)

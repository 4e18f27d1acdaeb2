use Rattle.desk_sockets.proofs.DeskNames.{of-name}
use Rattle.desk_sockets.proofs.sockets.node_of.Goals as goal

pub returns : goal.returns
returns c =
    let prefix = c.in_ok-strip_prefix.ensures.cases in
    let suffix = c.in_ok-strip_suffix.ensures.cases in
    of-name c.one_spelling.ensures.numbers_read c.one_spelling.ensures.numbers_spelled
    c.args.name.now c.in_ok-strip_prefix.field-0.now c.in_ok-strip_suffix.field-0.now
    c.number.result prefix.0 prefix.1 suffix.0 suffix.1 c.number.ensures

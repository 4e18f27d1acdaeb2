use Rattle.gather_command.proofs.gathered.weave_out.Goals as goal

pub returns-clause-woven : goal.returns-clause-woven
returns-clause-woven g c =
    let (ms, has, none) = c.in_ok-weave_all.ensures in
    record { moments = ms; woven = has; none_left = none; shown = c.in_ok-gathered.ensures }

-- What a tick did at a desk.
use Rattle.std.specs.Prelude.{ℕ, Option, Some, None}
use Rattle.lock_desk.specs.Desk.{DeskState}
use Rattle.lock_desk.specs.declared.act.DeskAct.{DeskAct}
use Rattle.lock_desk.specs.declared.act.DeskAct.TheVariants.{Quiet, Granted, Lost}

-- what a tick did, from the tickets lent before and after: it began a loan, ended one, or neither
abbrev pub act_between : Option ℕ → Option ℕ → DeskAct
act_between None (Some t) = Granted t
act_between (Some t) None = Lost t
act_between _ _ = Quiet

-- the same, from the desk before and after
abbrev pub desk_act : DeskState → DeskState → DeskAct
desk_act old new = act_between old.lent new.lent

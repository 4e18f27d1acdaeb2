-- What a node answers to a client's line.
use Rattle.std.specs.Prelude.{ℕ, Bool, true, false, List, Option, Some, None, if◌then◌else◌, codes, []}
use Rattle.lock_desk.specs.Desk.{ask_fault, after_leave, is_stranger}
use Rattle.lock_desk.specs.declared.act.DeskAct.{DeskAct}
use Rattle.lock_desk.specs.declared.act.DeskAct.TheVariants.{Granted}
use Rattle.lock_desk.specs.declared.fault.AskFault.{AskFault}
use Rattle.lock_desk.specs.declared.fault.AskFault.TheVariants.{Full, Twice}
use Rattle.lock_desk.specs.declared.client_line.ClientLine.{ClientLine}
use Rattle.lock_desk.specs.declared.client_line.ClientLine.TheVariants.{Lock, Unlock, Status, Unknown}
use Rattle.node_core.specs.Site.{Site}
use Rattle.node_core.specs.State.{LocalState}
use Rattle.node_core.specs.Status.{status_line}
use Rattle.node_service.specs.Deeds.{after_ask}

-- the answer to `lock`: none yet if the ticket may wait
abbrev pub lock_answer : Option AskFault → List ℕ
lock_answer None = []
lock_answer (Some Full) = codes "full\n"
lock_answer (Some Twice) = codes "twice\n"

-- the answer to a line of the client with ticket t, with its newline
abbrev pub answer_text : Site → ℕ → ClientLine → LocalState → List ℕ
answer_text site t Lock s = lock_answer (ask_fault t s.desk)
answer_text site t Unlock s =
    if is_stranger t s.desk then codes "stranger\n" else codes "released\n"
answer_text site t Status s = status_line site s
answer_text site t Unknown s = codes "unknown\n"

-- what a line of the client with ticket t makes of the node: `lock` asks, `unlock` leaves
abbrev pub after_line : ℕ → ClientLine → LocalState → LocalState
after_line t Lock s = record s { desk = after_ask t s.desk }
after_line t Unlock s = record s { desk = after_leave t s.desk }
after_line t Status s = s
after_line t Unknown s = s

-- a tick by which a loan began
abbrev pub grants : DeskAct → Bool
grants (Granted t) = true
grants _ = false

-- Laws of a desk: what the layers above may rely on.
use Rattle.std.specs.Prelude.{◌≡◌, ◌⊎◌, ℕ, ◌<◌, Bool, true, false, not, ◌&&◌, ◌||◌, if◌then◌else◌, List, [], ◌∷◌, length, Option, None, is_some}
use Rattle.lock_desk.specs.Desk.{DeskState, lends, is_number, desk_fits, ask_fault, asked, after_leave, desk_ticked, loan_fits, with_loan}
use Rattle.lock_desk.specs.Act.{desk_act}
use Rattle.lock_desk.specs.declared.act.DeskAct.{DeskAct}
use Rattle.lock_desk.specs.declared.act.DeskAct.TheVariants.{Quiet, Granted, Lost}

-- a desk lends after a tick only if the node was privileged: a loan begins in a tick, or outlasts
-- one, only with privilege
abbrev pub LoansNeedPrivilege : Type 0
LoansNeedPrivilege =
    (lease : ℕ) (privileged : Bool) (d : DeskState) → lends (desk_ticked lease privileged d) ≡ true
    → privileged ≡ true

-- asking begins no loan, and leaving begins none: a desk that lends after it lent before
abbrev pub OnlyTicksLend : Type 0
OnlyTicksLend =
    (t : ℕ) (d : DeskState)
    → (lends (asked t d) ≡ true → lends d ≡ true)
    × (lends (after_leave t d) ≡ true → lends d ≡ true)

-- a loan that outlasts a tick is the same as before it: no tick ends one and begins another
abbrev pub LoansAreNotExchanged : Type 0
LoansAreNotExchanged =
    (lease : ℕ) (privileged : Bool) (d : DeskState) → lends d ≡ true
    → lends (desk_ticked lease privileged d) ≡ true
    → (desk_ticked lease privileged d).lent ≡ d.lent

-- an ask, a leave or a tick at a desk; a tick comes with privilege or without
pub data DeskCall : Type 0 where
  Asks : ℕ → DeskCall
  Leaves : ℕ → DeskCall
  Ticks : Bool → DeskCall

-- the desk after it; a refused call changes nothing
abbrev pub after_call : ℕ → DeskCall → DeskState → DeskState
after_call lease (Asks t) d = if is_some (ask_fault t d) then d else asked t d
after_call lease (Leaves t) d = after_leave t d
after_call lease (Ticks privileged) d = desk_ticked lease privileged d

-- it is a full tick: a tick after which the desk lends to nobody
abbrev pub is_full_tick : ℕ → DeskCall → DeskState → Bool
is_full_tick lease (Asks t) d = false
is_full_tick lease (Leaves t) d = false
is_full_tick lease (Ticks privileged) d = not (lends (desk_ticked lease privileged d))

-- a loan begins in it
abbrev pub begins_loan : ℕ → DeskCall → DeskState → Bool
begins_loan lease call d = not (lends d) && lends (after_call lease call d)

-- no loan begins in these calls, up to and including the first full tick
abbrev pub LendsNoMore : ℕ → DeskState → List DeskCall → Type 0
LendsNoMore lease d [] = Unit {0}
LendsNoMore lease d (call ∷ calls) =
    (begins_loan lease call d ≡ false)
    × (is_full_tick lease call d ≡ false → LendsNoMore lease (after_call lease call d) calls)

-- a desk that lends, or has served, begins no loan before the next full tick is over, whatever
-- asks, leaves and ticks come
abbrev pub OneLoanAStay : Type 0
OneLoanAStay =
    (lease : ℕ) (d : DeskState) (calls : List DeskCall) → lends d || d.served ≡ true
    → LendsNoMore lease d calls

-- if a tick with privilege is full while somebody waits, the desk was marked as having served
-- before, or the tick ended a loan
abbrev pub PassesOnlyServed : Type 0
PassesOnlyServed =
    (lease : ℕ) (d : DeskState) → 0 < length d.waiting → lends (desk_ticked lease true d) ≡ false
    → (d.served ≡ true) ⊎ ((t : ℕ) × (desk_act d (desk_ticked lease true d) ≡ Lost t))

-- a full tick leaves the desk ready to lend: it has not served
abbrev pub FullTicksClear : Type 0
FullTicksClear =
    (lease : ℕ) (privileged : Bool) (d : DeskState) → lends (desk_ticked lease privileged d) ≡ false
    → (desk_ticked lease privileged d).served ≡ false

-- those who wait after a tick: if a loan began, all but the first, which the lock is lent to;
-- otherwise all
abbrev pub IsTurn : List ℕ → List ℕ → DeskAct → Type 0
IsTurn before after (Granted t) = before ≡ t ∷ after
IsTurn before after (Lost t) = before ≡ after
IsTurn before after Quiet = before ≡ after

-- tickets are served in the order in which they wait
abbrev pub FirstComeFirstServed : Type 0
FirstComeFirstServed =
    (lease : ℕ) (privileged : Bool) (d : DeskState)
    → IsTurn d.waiting (desk_ticked lease privileged d).waiting
    (desk_act d (desk_ticked lease privileged d))

-- a desk in range stays in range in a tick
abbrev pub TicksKeepRanges : Type 0
TicksKeepRanges =
    (lease : ℕ) (privileged : Bool) (d : DeskState) → desk_fits lease d ≡ true
    → desk_fits lease (desk_ticked lease privileged d) ≡ true

-- it does so if a ticket asks and is not refused
abbrev pub AsksKeepRanges : Type 0
AsksKeepRanges =
    (lease t : ℕ) (d : DeskState) → is_number t ≡ true → desk_fits lease d ≡ true
    → ask_fault t d ≡ None → desk_fits lease (asked t d) ≡ true

-- and if a ticket leaves
abbrev pub LeavesKeepRanges : Type 0
LeavesKeepRanges =
    (lease t : ℕ) (d : DeskState) → desk_fits lease d ≡ true
    → desk_fits lease (after_leave t d) ≡ true

-- and if a loan that fits is written
abbrev pub LoansKeepRanges : Type 0
LoansKeepRanges =
    (lease left : ℕ) (lent : Option ℕ) (served : Bool) (d : DeskState) → desk_fits lease d ≡ true
    → loan_fits lease d lent left ≡ true
    → desk_fits lease (with_loan d lent left served) ≡ true

-- What a node remembers of its own haste.
use Rattle.std.specs.Prelude.{ℕ, ◌+◌, ◌-◌, ◌*◌, Bool, not, ◌&&◌, ◌||◌, if◌then◌else◌, nat_lt, nat_le}
use Rattle.pace.specs.Clock.{is_over}
use Rattle.pace.specs.declared.node.Outlook.{Outlook}
use Rattle.pace.specs.declared.node.NodePace.{NodePace}
use Rattle.pace.specs.declared.pace.Manner.{Manner}

-- a node that has nothing to remember
abbrev pub quiet_node : NodePace
quiet_node = record { hold_until = 0; credit = 0; called_at = 0; ticked_at = 0 }

-- it keeps the news of its machines to itself: its hold ends later than now, and no later than a
-- hold can; nobody waits, and nobody has just let go
abbrev pub holds : Outlook → Manner → ℕ → NodePace → Bool
holds outlook manner now node =
    nat_lt now node.hold_until
    && (nat_le (node.hold_until - now) manner.hold && (not outlook.waits && not outlook.let_go))

-- a loan with a lease runs
abbrev pub lease_runs : Outlook → Bool
lease_runs outlook = outlook.lends && outlook.has_lease

-- a tick is left out only while a loan with a lease runs, and within 2 milliseconds of the last one
abbrev pub may_tick : Outlook → ℕ → NodePace → Bool
may_tick outlook now node = not (lease_runs outlook) || is_over node.ticked_at 2000 now

-- it was called within the last 25 milliseconds, and has more than the haste of three circuits left
abbrev pub was_called : ℕ → ℕ → NodePace → Bool
was_called trees now node = nat_lt (3 * trees) node.credit && not (is_over node.called_at 25000 now)

-- it is called: it has haste for four circuits, each of which passes it once for each tree
-- neighbour, and no hold
abbrev pub called : ℕ → ℕ → NodePace → NodePace
called trees now node = record node { hold_until = 0; credit = 4 * trees; called_at = now }

-- some haste is left of a call within the last 100 milliseconds
abbrev pub is_hasty : ℕ → NodePace → Bool
is_hasty now node = nat_lt 0 node.credit && not (is_over node.called_at 100000 now)

-- no more credit than a call gives
abbrev pub cut_credit : ℕ → ℕ → ℕ
cut_credit trees credit = if nat_le credit (4 * trees) then credit else 4 * trees

-- a sum, capped at 2^64 - 1
abbrev pub later : ℕ → ℕ → ℕ
later now span =
    if nat_le (now + span) 18446744073709551615 then now + span else 18446744073709551615

-- after a tick in which a machine moved: a hasty move uses one credit up, any other begins a hold
abbrev pub after_move : Manner → ℕ → NodePace → NodePace
after_move manner now node =
    if is_hasty now node then record node { credit = node.credit - 1; hold_until = 0 }
    else record node { hold_until = later now manner.hold }

abbrev pub moved_on : Bool → ℕ → Manner → ℕ → NodePace → NodePace
moved_on moved trees manner now node =
    let ticked : NodePace =
    record node { ticked_at = now; credit = cut_credit trees node.credit } in
    if moved then after_move manner now ticked else ticked

-- it calls: somebody waits and nobody borrows, and at most the haste of one circuit is left, or its
-- last call is at least 50 milliseconds ago
abbrev pub calls_for_haste : Outlook → ℕ → ℕ → NodePace → Bool
calls_for_haste outlook trees now node =
    outlook.waits
    && (not outlook.lends && (nat_le node.credit trees || is_over node.called_at 50000 now))

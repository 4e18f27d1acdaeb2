-- The tickets that wait, as they are noted one by one, since the start of each node's state.
use Rattle.std.specs.Prelude.{ℕ, nat_lt, if◌then◌else◌, List, [], ◌∷◌, ◌++◌, length, slice_index_or, slice_set}
use Rattle.flight_records.specs.declared.entry.Noted.{Noted}
use Rattle.flight_records.specs.declared.entry.Noted.TheVariants as noted
use Rattle.flight_records.specs.declared.entry.StatePart.{StatePart}
use Rattle.flight_records.specs.declared.entry.StatePart.TheVariants as part

-- the queue of a node
abbrev pub queue_of : List (List ℕ) → ℕ → List ℕ
queue_of queues v = slice_index_or queues v []

-- one more ticket waits; a desk has at most 64
abbrev pub with_ticket : List ℕ → ℕ → List ℕ
with_ticket queue t = if nat_lt (length queue) 64 then queue ++ t ∷ [] else queue

-- a queue after a part of its node's state
abbrev pub queue_after_part : List ℕ → StatePart → List ℕ
queue_after_part queue (part.Start network node) = []
queue_after_part queue (part.Own distance parent) = queue
queue_after_part queue (part.Port neighbour seq last staged copy value) = queue
queue_after_part queue (part.Waits ticket) = with_ticket queue ticket
queue_after_part queue (part.Loan lent left served) = queue
queue_after_part queue part.Whole = queue

-- a queue after an entry of its node's record
abbrev pub queue_after : List ℕ → Noted → List ℕ
queue_after queue (noted.State p) = queue_after_part queue p
queue_after queue (noted.Deed d) = queue

-- an entry of v's record changes v's queue alone
abbrev pub queues_after : List (List ℕ) → ℕ → Noted → List (List ℕ)
queues_after queues v n = slice_set queues v (queue_after (queue_of queues v) n)

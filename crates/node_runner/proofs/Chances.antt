-- What a link offers at the start of a run: a place for each item that it has room for, and each
-- item on it.
use Rattle.std.proofs.Common.{◌≡◌, ℕ, ◌<◌, ◌≤◌, nat_lt, false, true, IsTrue, List, [], length, ap, arith}
use Rattle.std.proofs.lemmas.Grind.{common_steps}
use Rattle.rtrb.specs.Ring.{known_free, known_items}
use Rattle.run_model.specs.World.{World}
use Rattle.run_model.specs.Step.{has_room}
use Rattle.weaving.specs.Account.{Note, sent_to, taken_from}
use Rattle.node_runner.specs.declared.runner.RunnerPort.{RunnerPort}
use Rattle.node_runner.specs.Ports.{IsSender, IsReceiver}

-- nothing is both there and absent
pub none-there : false ≡ true → ⊥
none-there same = grind (arith, common_steps, same)

less-than : (a b : ℕ) → IsTrue (nat_lt a b) → a < b
less-than a b test = grind (arith, common_steps, test)

pub place-at-hand : {A : Type 0} (w : World) (v n : ℕ) (past : List Note) (p : RunnerPort A) → IsSender w.net.capacity (w.link v n) (sent_to n past) p.outgoing
    → IsTrue (has_room w v n) → sent_to n past ≡ [] → (0 < p.outgoing.free) × (0 < known_free p.outgoing.frames)
place-at-hand w v n past p sender room none =
    let less = less-than (length (w.link v n)) w.net.capacity room in
    let nought = ap length none in
    let spent = sender.spent in
    let free = sender.room in
    (omega (arith, less, nought, spent), omega (arith, less, nought, free))

pub item-at-hand : {A : Type 0} (w : World) (v n : ℕ) (past : List Note) (p : RunnerPort A) → IsReceiver w.net.capacity (length (w.link n v)) (taken_from n past) p.incoming
    → length (w.link n v) ≤ w.net.capacity → length (taken_from n past) < length (w.link n v)
    → (0 < known_free p.incoming.places) × (0 < length (known_items p.incoming.frames))
item-at-hand w v n past p receiver within less =
    let here = receiver.here in
    let room = receiver.room in
    (omega (arith, within, less, room), omega (arith, less, here))

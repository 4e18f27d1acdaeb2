use Rattle.std.proofs.Common.{◌≡◌, ◌≢◌, ℕ, Contains, slice_get, refl}
use Rattle.std.proofs.lemmas.Bool.{false≢true}
use Rattle.node_connections.proofs.Loose.{loose-others}
use Rattle.node_loop.proofs.run.NodeRun.speak_to.Goals as goal

pub invariant_of-self-clause-strangers : goal.invariant_of-self-clause-strangers
invariant_of-self-clause-strangers g c =
    let self = c.args.self.now in
    let ns = self.node.registers.neighbours in
    let has : Contains ns c.args.id = c.if-not-is_neighbour.ensures.neighbour.0 refl in
    let new = c.speak_at-is_accepted.new.ports.items in
    let others : (w : ℕ) → w ≢ c.args.id → slice_get new w ≡ slice_get self.ports.items w = λ w other. (c.speak_at-is_accepted.ensures.others w other).0 in
    loose-others ns self.ports.items new c.args.id has others self.strangers

-- ---- the node is no neighbour

pub returns-then-not-is_neighbour-clause-spoken : goal.returns-then-not-is_neighbour-clause-spoken
returns-then-not-is_neighbour-clause-spoken g c has = absurd (false≢true (c.if-not-is_neighbour.ensures.neighbour.1 has))

pub returns-then-not-is_neighbour-clause-silent : goal.returns-then-not-is_neighbour-clause-silent
returns-then-not-is_neighbour-clause-silent g c _ = (refl, refl)

pub returns-then-not-is_neighbour-clause-known : goal.returns-then-not-is_neighbour-clause-known
returns-then-not-is_neighbour-clause-known g c accepted = absurd (false≢true accepted)

pub returns-then-not-is_neighbour-clause-noted : goal.returns-then-not-is_neighbour-clause-noted
returns-then-not-is_neighbour-clause-noted g c = refl

pub returns-then-not-is_neighbour-clause-others : goal.returns-then-not-is_neighbour-clause-others
returns-then-not-is_neighbour-clause-others g c w other = (refl, refl)

-- ---- it is one

pub returns-clause-spoken : goal.returns-clause-spoken
returns-clause-spoken g c _ = rw c.frame_for-frame.ensures.frame at c.speak_at-is_accepted.ensures.spoken

pub returns-clause-silent : goal.returns-clause-silent
returns-clause-silent g c stranger = absurd (stranger (c.if-not-is_neighbour.ensures.neighbour.0 refl))

pub returns-clause-known : goal.returns-clause-known
returns-clause-known g c _ = c.if-not-is_neighbour.ensures.neighbour.0 refl

pub returns-clause-noted : goal.returns-clause-noted
returns-clause-noted g c = rw c.frame_for-frame.ensures.frame at c.offers.ensures

pub returns-clause-others : goal.returns-clause-others
returns-clause-others g c = c.speak_at-is_accepted.ensures.others

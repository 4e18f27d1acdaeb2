-- Tests of equality decide equality.
use Rattle.std.proofs.Common.{◌≡◌, ℕ, Bool, true, false, refl, arith, Option, None, Some}
use Rattle.std.proofs.lemmas.Grind.{common_steps}
use Rattle.topology.specs.declared.frame.Frame.{Frame}
use Rattle.topology.specs.declared.frame.Payload.{Payload}
use Rattle.flight_records.specs.Again.{same_frame, same_node, same_payload}
use Rattle.record_gathering.specs.Differences.{same_truth}

pub node-self : (o : Option ℕ) → same_node o o ≡ true
node-self None = refl
node-self (Some n) = grind (arith, common_steps)

pub node-same : (o p : Option ℕ) → same_node o p ≡ true → o ≡ p
node-same None None s = refl
node-same (Some n) (Some m) s = grind (arith, common_steps)
node-same None (Some m) s = absurd cc
node-same (Some n) None s = absurd cc

pub payload-self : (p : Payload) → same_payload p p ≡ true
payload-self p = grind (arith, common_steps, node-self)

pub payload-same : (p q : Payload) → same_payload p q ≡ true → p ≡ q
payload-same p q s = grind (arith, common_steps, node-same)

pub frame-self : (f : Frame) → same_frame f f ≡ true
frame-self f = grind (arith, common_steps, payload-self)

pub frame-same : (f g : Frame) → same_frame f g ≡ true → f ≡ g
frame-same f g s = grind (arith, common_steps, payload-same)

pub truth-self : (b : Bool) → same_truth b b ≡ true
truth-self true = refl
truth-self false = refl

pub truth-same : (b c : Bool) → same_truth b c ≡ true → b ≡ c
truth-same true true s = refl
truth-same false false s = refl
truth-same true false s = absurd cc
truth-same false true s = absurd cc

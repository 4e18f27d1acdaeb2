-- What a test chooses.
use Rattle.std.proofs.Common.{◌≡◌, ◌<◌, ℕ, Bool, true, false, Option, None, Some, eqb, IsTrue, arith, if◌then◌else◌}
use Rattle.std.specs.Option.{option_eq}
use Rattle.std.proofs.lemmas.Bool.Decides.{nat_tests}
use Rattle.registers.specs.topology.declared.frame.Payload.{Payload}
use Rattle.registers.specs.topology.declared.frame.Ranges.{Ranges}
use Rattle.registers.specs.topology.Ranges.{payload_fits}
use Rattle.euler_ring.specs.Cycle.{is_named}

pub then_is : {X : Type 0} (b : Bool) (x y z : X) → true ≡ b → z ≡ x → z ≡ (if b then x else y)
then_is true x y z on is = is
then_is false x y z on is = absurd cc

pub else_is : {X : Type 0} (b : Bool) (x y z : X) → false ≡ b → z ≡ y → z ≡ (if b then x else y)
else_is false x y z off is = is
else_is true x y z off is = absurd cc

-- a choice is compared in the way that the definition says
pub named_test : (chosen : Option ℕ) (t : ℕ) (b : Bool) → b ≡ option_eq eqb chosen (Some t) → b ≡ is_named chosen t
named_test None t b is = is
named_test (Some p) t b is = is

-- a payload in range has a ring value
pub ring_below : (r : Ranges) (p : Payload) → IsTrue (payload_fits r p) → p.ring < r.ring
ring_below r p fits = grind (arith, nat_tests)

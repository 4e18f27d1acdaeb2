use Rattle.std.proofs.Common.{◌∙◌, ◌<◌, ap, sym, subst, arith}
use Rattle.registers.specs.topology.declared.frame.Payload.{Payload}
use Rattle.registers.specs.topology.declared.frame.Ranges.{Ranges}
use Rattle.registers.specs.k_state.Machine.{root_moved}
use Rattle.euler_ring.specs.Cycle.{is_named}
use Rattle.node_core.proofs.Chosen.{then_is, else_is, named_test, ring_below}
use Rattle.node_core.proofs.machines.moved_value.Goals as goal

pub value-value-requires : goal.value-value-requires
value-value-requires g c = c.requires

pub root_move-requires : goal.root_move-requires
root_move-requires g c = subst (λ (r : Ranges). c.value-value.result < r.ring) (sym c.ranges-then-eq.ensures.ranges) c.value-value.ensures.below

pub copy_of-requires : goal.copy_of-requires
copy_of-requires g c = c.requires

pub returns-then-eq-clause-value : goal.returns-then-eq-clause-value
returns-then-eq-clause-value g c =
    let modulus = ap (λ (r : Ranges). root_moved c.value-value.result r.ring) c.ranges-then-eq.ensures.ranges in
    let moved = c.root_move.ensures ∙ modulus ∙ ap (λ x. root_moved x c.args.registers.now.ranges.ring) c.value-value.ensures.value in
    then_is (is_named c.args.chosen c.args.t) _ _ _ (named_test c.args.chosen c.args.t _ c.if-eq.ensures) moved

pub returns-then-eq-clause-below : goal.returns-then-eq-clause-below
returns-then-eq-clause-below g c =
    omega (arith, c.root_move.ensures, c.value-value.ensures.below, ap (λ (r : Ranges). r.ring) c.ranges-then-eq.ensures.ranges)

pub returns-else-eq-clause-value : goal.returns-else-eq-clause-value
returns-else-eq-clause-value g c =
    else_is (is_named c.args.chosen c.args.t) _ _ _ (named_test c.args.chosen c.args.t _ c.if-eq.ensures) (c.copy_move.ensures ∙ ap (λ (p : Payload). p.ring) c.copy_of.ensures.copy)

pub returns-else-eq-clause-below : goal.returns-else-eq-clause-below
returns-else-eq-clause-below g c = subst (λ x. x < c.args.registers.now.ranges.ring) (sym c.copy_move.ensures) (ring_below c.args.registers.now.ranges c.copy_of.result c.copy_of.ensures.fits)

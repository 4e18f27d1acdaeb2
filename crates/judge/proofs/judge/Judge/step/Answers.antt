use Rattle.std.proofs.Common.{◌≡◌, ◌∙◌, ap, sym, subst, IsTrue, [], ◌∷◌, inl, inr, arith, refl}
use Rattle.topology.specs.Network.{IsAcceptedNetwork, are_joined}
use Rattle.configuration.specs.ConfigurationView.{world_of}
use Rattle.judge.specs.Stretch.{names_below, names_place}
use Rattle.judge.proofs.JudgeSteps.{names, names-after, placed, accepted-damage, no-damage, refused-step, damage-step, other-step, sweep-step, sweep-ends, few-looks, room-cleared, room-empty, room-after}
use Rattle.judge.proofs.Visits.{visited-refused, visited-damage, visited-goes_on}
use Rattle.judge.proofs.judge.Judge.step.Goals as goal

pub returns-in-Err-clause-judging : goal.returns-in-Err-clause-judging
returns-in-Err-clause-judging g c = rw (← c.self.view_is) (λ start es seen. record {
  judging = refused-step c.below.ensures start es c.args.event.now (world_of c.self.inside.configuration) (world_of c.step.new.self) c.self.inside.stretch
      c.clear_looked.new.self c.self.inside.sweeps c.self.inside.refused c.step.ensures.world c.clear_looked.ensures seen.judging c.in-Err.fault
      c.saturating_add-self-inside.result c.in-Err.ensures.err c.saturating_add-self-inside.ensures;
  visited = visited-refused c.below.ensures start es c.args.event.now (world_of c.self.inside.configuration) (world_of c.step.new.self) c.step.ensures.world
      seen.judging.in_range seen.judging.now_is c.self.inside.visited seen.visited (rw c.in-Err.ensures.err refl);
})

pub returns-in-Damaged-clause-judging : goal.returns-in-Damaged-clause-judging
returns-in-Damaged-clause-judging g c =
    let damage = accepted-damage (world_of c.self.inside.configuration) c.args.event.now (sym c.in-Ok.ensures.did ∙ c.in-Damaged.is) c.in-Ok.ensures.ok in
    rw (← c.self.view_is) (λ start es seen. record {
      judging = damage-step c.below.ensures start es c.args.event.now (world_of c.self.inside.configuration) (world_of c.step.new.self) c.self.inside.stretch
          c.clear_looked.new.self c.self.inside.sweeps c.self.inside.refused c.step.ensures.world c.clear_looked.ensures seen.judging c.begin.new.stretch
          c.in-Ok.ensures.ok damage c.begin.ensures.kept;
      visited = visited-damage c.below.ensures start es c.args.event.now (world_of c.self.inside.configuration) (world_of c.step.new.self) c.step.ensures.world
          seen.judging.in_range seen.judging.now_is c.privileged_nodes-self-inside.result damage c.privileged_nodes-self-inside.ensures;
    })

pub visited_after-self-inside-requires : goal.visited_after-self-inside-requires
visited_after-self-inside-requires g c =
    names-after c.below.ensures (world_of c.self.inside.configuration) (world_of c.step.new.self) c.args.event.now c.in-Ok.happened c.step.ensures.world
    c.in-Ok.ensures.did c.in-Ok.ensures.ok

pub begin-requires : goal.begin-requires
begin-requires g c =
    let net = c.net-in-Damaged.ensures in
    room-empty (world_of c.step.new.self).net c.lay.new.self (c.lay.ensures.nodes ∙ ap (λ n. n.nodes) net)
    (λ u v joined. c.lay.ensures.placed u v (subst (λ n. IsTrue (are_joined n.edges u v)) (sym net) joined)) c.lay.ensures.empty

-- an event leaves the number of nodes, even if edges join or go
pub lay-requires : goal.lay-requires
lay-requires g c =
    let now = world_of c.self.inside.configuration in
    let frame = c.below.ensures.frame now (c.args.event.now ∷ []) in
    ap (λ s. s.tallies.table.nodes) c.clear_looked.ensures ∙ c.self.invariant.nodes ∙ sym frame.nodes ∙ sym (ap (λ w. w.net.nodes) c.step.ensures.world) ∙ sym (ap (λ n. n.nodes) c.net-in-Damaged.ensures)

pub note-requires : goal.note-requires
note-requires g c =
    let w = world_of c.self.inside.configuration in
    let ok : IsAcceptedNetwork w.net = rw c.net.ensures at c.nodes-known_nodes.ensures.network in
    let limits = c.below.ensures.limits w.net ok in
    let same : c.clear_looked.new.self.tallies.table.nodes ≡ w.net.nodes = ap (λ s. s.tallies.table.nodes) c.clear_looked.ensures ∙ c.self.invariant.nodes in
    let room = room-cleared w.net c.self.inside.stretch c.clear_looked.new.self c.clear_looked.ensures c.self.invariant in
    record {
      few = omega (arith, limits.1, same);
      placed = subst (λ did. IsTrue (names_place c.clear_looked.new.self.tallies.table did)) (sym c.in-Ok.ensures.did)
          (placed w c.args.event.now c.clear_looked.new.self.tallies.table room.placed c.in-Ok.ensures.ok);
      nodes = subst (λ n. IsTrue (names_below n c.in-Ok.happened)) (sym same)
          (subst (λ did. IsTrue (names_below w.net.nodes did)) (sym c.in-Ok.ensures.did) (names w c.args.event.now c.in-Ok.ensures.ok));
    }

pub returns-then-is_complete : goal.returns-then-is_complete
returns-then-is_complete g c = record {
  world = rw (← c.self.view_is) c.step.ensures.world;
  ok = rw (← c.self.view_is) c.in-Ok.ensures.ok;
  err = tt;
  judging = rw (← c.self.view_is) (λ start es seen. record {
    judging = sweep-step c.below.ensures start es c.args.event.now (world_of c.self.inside.configuration) (world_of c.step.new.self) c.self.inside.stretch c.clear_looked.new.self
        c.self.inside.sweeps c.self.inside.refused c.step.ensures.world c.clear_looked.ensures seen.judging c.in-Ok.ensures.ok
        (no-damage (world_of c.self.inside.configuration) c.args.event.now (λ damaged. c.in_default.not-Damaged (c.in-Ok.ensures.did ∙ damaged)))
        c.note.new.self c.in-Ok.happened c.in-Ok.ensures.did (ap (λ t. t.nodes) c.note.ensures.table) c.note.ensures.lacking c.note.ensures.tallies
        c.begin-then-is_complete.new.stretch c.saturating_add-self-inside-then-is_complete.result (c.if-is_complete.ensures.0 refl) c.begin-then-is_complete.ensures.kept
        c.saturating_add-self-inside-then-is_complete.ensures;
    visited = visited-goes_on c.below.ensures start es c.args.event.now (world_of c.self.inside.configuration) (world_of c.step.new.self) c.step.ensures.world
        seen.judging.in_range seen.judging.now_is c.self.inside.visited seen.visited c.visited_after-self-inside.result c.in-Ok.happened c.in-Ok.ensures.ok
        c.in-Ok.ensures.did c.in_default.not-Damaged c.visited_after-self-inside.ensures;
  });
  looked = rw (← c.self.view_is) (inr (inr (λ start es seen.
      sweep-ends c.below.ensures start es c.args.event.now (world_of c.self.inside.configuration) (world_of c.step.new.self) c.self.inside.stretch c.clear_looked.new.self
      c.self.inside.sweeps c.self.inside.refused c.step.ensures.world c.clear_looked.ensures seen.judging c.in-Ok.ensures.ok
      (no-damage (world_of c.self.inside.configuration) c.args.event.now (λ damaged. c.in_default.not-Damaged (c.in-Ok.ensures.did ∙ damaged)))
      c.note.new.self c.in-Ok.happened c.in-Ok.ensures.did (ap (λ t. t.nodes) c.note.ensures.table) c.note.ensures.lacking c.note.ensures.tallies (c.if-is_complete.ensures.0 refl))));
}

pub returns-else-is_complete : goal.returns-else-is_complete
returns-else-is_complete g c = record {
  world = rw (← c.self.view_is) c.step.ensures.world;
  ok = rw (← c.self.view_is) c.in-Ok.ensures.ok;
  err = tt;
  judging = rw (← c.self.view_is) (λ start es seen. record {
    judging = other-step c.below.ensures start es c.args.event.now (world_of c.self.inside.configuration) (world_of c.step.new.self) c.self.inside.stretch c.clear_looked.new.self
        c.self.inside.sweeps c.self.inside.refused c.step.ensures.world c.clear_looked.ensures seen.judging c.in-Ok.ensures.ok
        (no-damage (world_of c.self.inside.configuration) c.args.event.now (λ damaged. c.in_default.not-Damaged (c.in-Ok.ensures.did ∙ damaged)))
        c.note.new.self c.in-Ok.happened c.in-Ok.ensures.did (ap (λ t. t.nodes) c.note.ensures.table) c.note.ensures.lacking c.note.ensures.tallies
        (λ complete. let wrong = c.if-is_complete.ensures.1 complete in absurd cc);
    visited = visited-goes_on c.below.ensures start es c.args.event.now (world_of c.self.inside.configuration) (world_of c.step.new.self) c.step.ensures.world
        seen.judging.in_range seen.judging.now_is c.self.inside.visited seen.visited c.visited_after-self-inside.result c.in-Ok.happened c.in-Ok.ensures.ok
        c.in-Ok.ensures.did c.in_default.not-Damaged c.visited_after-self-inside.ensures;
  });
  looked = inl (few-looks c.self.inside.stretch c.clear_looked.new.self c.note.new.self c.clear_looked.ensures c.note.ensures.looked);
}

pub invariant_of-self-else-is_complete : goal.invariant_of-self-else-is_complete
invariant_of-self-else-is_complete g c =
    room-after c.below.ensures (world_of c.self.inside.configuration) (world_of c.step.new.self) c.args.event.now c.in-Ok.happened c.self.inside.stretch c.clear_looked.new.self
    c.note.new.self c.step.ensures.world (no-damage (world_of c.self.inside.configuration) c.args.event.now (λ damaged. c.in_default.not-Damaged (c.in-Ok.ensures.did ∙ damaged)))
    c.clear_looked.ensures c.self.invariant c.note.ensures.table c.note.ensures.tallies

pub begin-requires-then-is_complete : goal.begin-requires-then-is_complete
begin-requires-then-is_complete g c =
    room-after c.below.ensures (world_of c.self.inside.configuration) (world_of c.step.new.self) c.args.event.now c.in-Ok.happened c.self.inside.stretch c.clear_looked.new.self
    c.note.new.self c.step.ensures.world (no-damage (world_of c.self.inside.configuration) c.args.event.now (λ damaged. c.in_default.not-Damaged (c.in-Ok.ensures.did ∙ damaged)))
    c.clear_looked.ensures c.self.invariant c.note.ensures.table c.note.ensures.tallies

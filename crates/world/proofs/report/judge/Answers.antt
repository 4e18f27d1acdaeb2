use Rattle.std.proofs.Common.{◌≡◌, ◌≤◌, ◌+◌, ◌-◌, ◌*◌, ℕ, ap, sym, subst, take}
use Rattle.std.proofs.lemmas.List.{take_more, take_all}
use Rattle.topology.specs.Network.{Network, bound_of}
use Rattle.topology.specs.Eccentricity.{sharp_of}
use Rattle.judge.specs.run_model.World.{World}
use Rattle.judge.specs.run_model.Links.{AreLinksStable}
use Rattle.judge.specs.run_model.Tree.{IsTreeReached}
use Rattle.judge.specs.run_model.Count.{IsSweepCount}
use Rattle.judge.specs.run_model.Headline.{IsServing}
use Rattle.convergence.specs.Ring.{IsTokenRingGood}
use Rattle.convergence.specs.Legitimate.{IsLegitimate}
use Rattle.judge.specs.configuration.ConfigurationView.{world_of}
use Rattle.judge.specs.JudgeView.{HasSeen}
use Rattle.judge.specs.Judging.{counted_up_to}
use Rattle.judge.specs.run_model.Run.{run}
use Rattle.judge.specs.Visited.{AreVisited}
use Rattle.world.proofs.Visits.{from-legitimate, from-each_state, from-each_bound}
use Rattle.world.proofs.Headline.{LeadsTo, closed, fresh, led, moved, reached}
use Rattle.world.proofs.report.judge.Given as given
use Rattle.world.proofs.report.judge.Goals as goal

pub loop-event-preserved : goal.loop-event-preserved
loop-event-preserved g c =
    let i = c.loop-event.event-index in
    subst (λ l. HasSeen c.step-answer.new.self (world_of c.args.start) l) (sym (take_more c.args.events.now i _ c.loop-event-test.true))
    (c.step-answer.ensures.judging (world_of c.args.start) (take i c.args.events.now) c.loop-event.invariant)

module _ (g : given.Over) (c : goal.After-into_world g) where
  seen-all : HasSeen c.loop-event.judge (world_of c.args.start) c.args.events.now
  seen-all = subst (HasSeen c.loop-event.judge (world_of c.args.start)) (take_all c.loop-event.event-index c.args.events.now c.loop-event-test.false) c.loop-event.invariant

  counted : (count : ℕ) × IsSweepCount (world_of c.args.start) c.args.events.now count × (c.sweeps-sweeps.result ≡ counted_up_to count)
  counted = c.sweeps-sweeps.ensures.sweeps (world_of c.args.start) c.args.events.now seen-all

  after : (needed : Network → ℕ) (P : World → Type 0) → LeadsTo needed P → needed (world_of c.into_world.result).net ≤ c.sweeps-sweeps.result → P (world_of c.into_world.result)
  after = reached c.runs.ensures.network c.moments.ensures.leads (world_of c.args.start) c.args.events.now c.loop-event.judge seen-all c.into_world.result c.into_world.ensures
      c.sweep_numbers.ensures.fewer c.sweeps-sweeps.result counted.0 counted.1 counted.2

  mask-is : AreVisited (world_of c.args.start) c.args.events.now c.visited-visited.result
  mask-is = c.visited-visited.ensures.visited (world_of c.args.start) c.args.events.now seen-all

  end-net : (world_of c.into_world.result).net ≡ (run (world_of c.args.start) c.args.events.now).net
  end-net = ap (λ w. w.net) (sym (led c.runs.ensures.network c.moments.ensures.leads (world_of c.args.start) c.args.events.now c.loop-event.judge seen-all c.into_world.result c.into_world.ensures))

pub returns-clause-world : goal.returns-clause-world
returns-clause-world g c = sym (led c.runs.ensures.network c.moments.ensures.leads _ _ _ (seen-all g c) _ c.into_world.ensures)

pub returns-clause-sweeps : goal.returns-clause-sweeps
returns-clause-sweeps g c = counted g c

pub returns-clause-refused : goal.returns-clause-refused
returns-clause-refused g c = c.refused-refused.ensures.refused (world_of c.args.start) c.args.events.now (seen-all g c)

pub returns-clause-payloads : goal.returns-clause-payloads
returns-clause-payloads g c = fresh c.runs.ensures.network c.moments.ensures.leads _ _ _ (seen-all g c) _ c.into_world.ensures c.runs.ensures.join c.converge.ensures.payloads

pub returns-clause-numbers : goal.returns-clause-numbers
returns-clause-numbers g c =
    moved c.runs.ensures.network c.moments.ensures.leads _ _ _ (seen-all g c) _ c.into_world.ensures c.runs.ensures.undamaged_splits c.in_range.ensures
    c.links.ensures.numbers_move

pub returns-clause-links : goal.returns-clause-links
returns-clause-links g c = after g c (λ net. 4 * (net.capacity + 1)) AreLinksStable c.converge.ensures.links

pub returns-clause-tree : goal.returns-clause-tree
returns-clause-tree g c = after g c (λ net. 4 * (net.capacity + 1) + 4 * (net.nodes + 1)) IsTreeReached c.converge.ensures.tree

pub returns-clause-token_ring : goal.returns-clause-token_ring
returns-clause-token_ring g c = after g c (λ net. bound_of net - 1) IsTokenRingGood c.converge.ensures.token_ring

pub returns-clause-legitimate : goal.returns-clause-legitimate
returns-clause-legitimate g c = after g c bound_of IsLegitimate c.converge.ensures.world

pub returns-clause-serving : goal.returns-clause-serving
returns-clause-serving g c = after g c bound_of IsServing c.converge.ensures.headline

pub returns-clause-closure : goal.returns-clause-closure
returns-clause-closure g c =
    let law = c.closure.ensures in
    closed c.runs.ensures.undamaged_splits c.in_range.ensures law.stays law.serves _ _ (seen-all g c).judging.in_range

pub returns-clause-sharp_legitimate : goal.returns-clause-sharp_legitimate
returns-clause-sharp_legitimate g c = after g c sharp_of IsLegitimate c.sharp.ensures.world

pub returns-clause-sharp_serving : goal.returns-clause-sharp_serving
returns-clause-sharp_serving g c = after g c sharp_of IsServing c.sharp.ensures.headline

pub returns-clause-visited : goal.returns-clause-visited
returns-clause-visited g c = mask-is g c

pub returns-clause-visits : goal.returns-clause-visits
returns-clause-visits g c =
    let n = counted g c in
    from-legitimate c.sweep_numbers.ensures.fewer c.runs.ensures.network c.runs.ensures.frame c.moments.ensures.leads (world_of c.args.start) c.args.events.now
    (seen-all g c).judging.in_range
    c.sweeps-sweeps.result n.0 n.1 n.2 c.visited-visited.result (mask-is g c) c.service.ensures.legitimate

pub returns-clause-sharp_visits : goal.returns-clause-sharp_visits
returns-clause-sharp_visits g c =
    let n = counted g c in
    from-each_state c.sweep_numbers.ensures.fewer c.runs.ensures.network c.runs.ensures.frame c.moments.ensures.leads (world_of c.args.start) c.args.events.now
    (seen-all g c).judging.in_range
    c.sweeps-sweeps.result n.0 n.1 n.2 c.visited-visited.result (mask-is g c) c.service.ensures.each_state _ (end-net g c)

pub returns-clause-each_state_visits : goal.returns-clause-each_state_visits
returns-clause-each_state_visits g c =
    let n = counted g c in
    from-each_bound c.sweep_numbers.ensures.fewer c.runs.ensures.network c.runs.ensures.frame c.moments.ensures.leads (world_of c.args.start) c.args.events.now
    (seen-all g c).judging.in_range
    c.sweeps-sweeps.result n.0 n.1 n.2 c.visited-visited.result (mask-is g c) c.service.ensures.each_state _ (end-net g c) c.eccentricity.ensures.sharp

use Rattle.std.proofs.Common.{◌+◌, [], ◌∷◌, ◌++◌, ◌∙◌, All, map, arith, refl, sym, subst, ap}
use Rattle.run_model.specs.node_core.Step.{ticked}
use Rattle.run_model.specs.node_core.View.{site_in, state_of}
use Rattle.weaving.specs.Account.{Ticked}
use Rattle.node_runner.specs.Runner.{IsPortNoted, AreSamePorts}
use Rattle.node_runner.proofs.Deeds.{Noted, does-one}
use Rattle.node_runner.proofs.PortLists.{all-same, ports-stay}
use Rattle.node_runner.proofs.runner.Runner.tick.Goals as goal

pub returns : goal.returns
returns g c =
    let a = c.args.self.now in
    let t = a.clock + 1 in
    let rest = c.note.ensures.rest in
    let noted : Noted (Ticked t) a c.note.new.self = record {
      id = rest.0;
      site = ap site_in rest.1 ∙ c.tick-ticked.ensures.site;
      entries = c.note.ensures.entries;
      room = c.note.ensures.room;
      later = omega arith;
      clock = c.note.ensures.clock;
      bound = let r = c.requires.ready.clock in let e = c.note.ensures.clock in omega arith;
      neighbours = ap (λ ps. map (λ p. p.neighbour) ps.items) rest.2;
      ports = subst (λ ps. AreSamePorts a.ports.items ps.items) (sym rest.2) (all-same a.ports.items);
      leads = λ net v at site. (tt, ap state_of rest.1 ∙ (c.tick-ticked.ensures.state ∙ ap (λ s. ticked s (state_of a.node)) site));
      said = λ w v past was.
          subst (λ ps. All (IsPortNoted w v (past ++ Ticked t ∷ [])) ps.items) (sym rest.2) (ports-stay w v past (Ticked t ∷ []) a.ports.items (λ u. (refl, refl)) was.ports);
    } in (t, does-one (Ticked t) a c.note.new.self c.requires.ready noted, λ bound late up. let e = c.note.ensures.clock in omega (arith, e, up))

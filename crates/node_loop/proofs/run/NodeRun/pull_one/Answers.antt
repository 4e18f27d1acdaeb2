use Rattle.std.proofs.Common.{◌≡◌, ◌<◌, ◌∷◌, Contains, length, ap, refl, rules, subst, sym, []}
use Rattle.std.specs.Prelude.{slice_set}
use Rattle.std.proofs.lemmas.Bool.{false≢true, true≢false}
use Rattle.node_core.specs.Site.{Site, site_of}
use Rattle.topology.specs.Ranges.{ranges_of}
use Rattle.node_connections.specs.socket_links.Links.{Pulled}
use Rattle.node_connections.specs.socket_links.declared.link.Pull.TheVariants as pull
use Rattle.node_connections.specs.Hearing.{Comes, Pulls}
use Rattle.node_connections.proofs.Hearing.{both-set, others-set, frame-came, later-came, broken-came, pulls-same}
use Rattle.node_loop.proofs.Hearing.{counted-set, takes-none, takes-one, takes-set}
use Rattle.node_connections.specs.Loose.{AreLoose}
use Rattle.node_connections.proofs.Loose.{loose-set}
use Rattle.node_loop.proofs.Remembering.{remembers-heard, remembers-same}
use Rattle.node_loop.proofs.run.NodeRun.pull_one.Goals as goal

pub returns-then-not-is_neighbour-clause-ended : goal.returns-then-not-is_neighbour-clause-ended
returns-then-not-is_neighbour-clause-ended g c _ =
    let self = c.args.self.now in
    let r = self.node.registers.ranges in
    record { takes = takes-none (Pulls r g.D.P.Pipe.gave g.D.P.Pipe.took g.D.P.Pipe.counts) (pulls-same r g.D.P.Pipe.gave g.D.P.Pipe.took g.D.P.Pipe.counts) c.args.id self.node self.ports.items; noted = refl }

pub returns-in-Later-clause-ended : goal.returns-in-Later-clause-ended
returns-in-Later-clause-ended g c _ =
    let self = c.args.self.now in
    let r = self.node.registers.ranges in
    let ranges : r ≡ ranges_of self.net = ap (λ s. s.ranges) self.wired in
    let pulled : Pulled r g.D.P.Pipe.gave g.D.P.Pipe.took g.D.P.Pipe.counts c.index_mut.result.now.link c.pull.new.self.link pull.Later = rw ranges (rw c.in-Later.is at c.pull.ensures.pulled) in
    record {
      takes = takes-set (Pulls r g.D.P.Pipe.gave g.D.P.Pipe.took g.D.P.Pipe.counts) self.node self.ports.items c.args.id self.net.nodes c.index_mut.result.now c.pull.new.self self.ports_are (search rules) c.index_mut.ensures.value
          (later-came r g.D.P.Pipe.gave g.D.P.Pipe.took g.D.P.Pipe.counts c.index_mut.result.now c.pull.new.self pulled c.pull.ensures.rest);
      noted = refl;
    }

pub returns-in-Broken-clause-ended : goal.returns-in-Broken-clause-ended
returns-in-Broken-clause-ended g c _ =
    let self = c.args.self.now in
    let r = self.node.registers.ranges in
    let pulled : Pulled r g.D.P.Pipe.gave g.D.P.Pipe.took g.D.P.Pipe.counts c.index_mut.result.now.link c.pull.new.self.link pull.Broken = rw c.in-Broken.is at c.pull.ensures.pulled in
    record {
      takes = takes-set (Pulls r g.D.P.Pipe.gave g.D.P.Pipe.took g.D.P.Pipe.counts) self.node self.ports.items c.args.id self.net.nodes c.index_mut.result.now c.pull.new.self self.ports_are (search rules) c.index_mut.ensures.value
          (broken-came r g.D.P.Pipe.gave g.D.P.Pipe.took g.D.P.Pipe.counts c.index_mut.result.now c.pull.new.self pulled c.pull.ensures.rest);
      noted = refl;
    }

pub returns-clause-came : goal.returns-clause-came
returns-clause-came g c _ =
    let self = c.args.self.now in
    let r = self.node.registers.ranges in
    let id = c.args.id in
    let old = c.index_mut.result.now in
    let new = c.pull.new.self in
    let frame = c.in-Frame.frame in
    let ranges : r ≡ ranges_of self.net = ap (λ s. s.ranges) self.wired in
    let has : Contains self.node.registers.neighbours id = search rules in
    let within : id < length self.ports.items = search rules in
    let pulled : Pulled r g.D.P.Pipe.gave g.D.P.Pipe.took g.D.P.Pipe.counts old.link new.link (pull.Frame frame) = rw ranges (rw c.in-Frame.is at c.pull.ensures.pulled) in
    record {
      takes = takes-one (Comes r g.D.P.Pipe.gave g.D.P.Pipe.took) id frame self.node c.take.new.self self.ports.items _ has c.take.ensures.site c.take.ensures.state
          (both-set (Comes r g.D.P.Pipe.gave g.D.P.Pipe.took (frame ∷ [])) self.ports.items id old new within c.index_mut.ensures.value
          (frame-came r g.D.P.Pipe.gave g.D.P.Pipe.took g.D.P.Pipe.counts frame old new pulled (rw c.in-Frame.is at c.pull.ensures.loose) c.pull.ensures.rest))
          (others-set self.ports.items id new);
      noted = c.takes.ensures;
    }

pub invariant_of-self-2-clause-strangers : goal.invariant_of-self-2-clause-strangers
invariant_of-self-2-clause-strangers g c =
    let self = c.args.self.now in
    let ns = self.node.registers.neighbours in
    let has : Contains ns c.args.id = search rules in
    subst (λ (site : Site). AreLoose site.neighbours (slice_set self.ports.items c.args.id c.pull.new.self)) (sym c.take.ensures.site) (loose-set ns self.ports.items c.args.id c.pull.new.self has self.strangers)

pub invariant_of-self-2-clause-wired : goal.invariant_of-self-2-clause-wired
invariant_of-self-2-clause-wired g c =
    let self = c.args.self.now in
    subst (λ (site : Site). site ≡ site_of self.net site.id) (sym c.take.ensures.site) self.wired

pub invariant_of-self-2-clause-ports_are : goal.invariant_of-self-2-clause-ports_are
invariant_of-self-2-clause-ports_are g c = counted-set c.args.self.now.ports.items c.args.id c.pull.new.self c.args.self.now.net.nodes c.args.self.now.ports_are

pub invariant_of-self-in-Later-clause-ports_are : goal.invariant_of-self-in-Later-clause-ports_are
invariant_of-self-in-Later-clause-ports_are g c = counted-set c.args.self.now.ports.items c.args.id c.pull.new.self c.args.self.now.net.nodes c.args.self.now.ports_are

pub invariant_of-self-in-Later-clause-strangers : goal.invariant_of-self-in-Later-clause-strangers
invariant_of-self-in-Later-clause-strangers g c = loose-set c.args.self.now.node.registers.neighbours c.args.self.now.ports.items c.args.id c.pull.new.self (search rules) c.args.self.now.strangers

pub invariant_of-self-in-Broken-clause-ports_are : goal.invariant_of-self-in-Broken-clause-ports_are
invariant_of-self-in-Broken-clause-ports_are g c = counted-set c.args.self.now.ports.items c.args.id c.pull.new.self c.args.self.now.net.nodes c.args.self.now.ports_are

pub invariant_of-self-in-Broken-clause-strangers : goal.invariant_of-self-in-Broken-clause-strangers
invariant_of-self-in-Broken-clause-strangers g c = loose-set c.args.self.now.node.registers.neighbours c.args.self.now.ports.items c.args.id c.pull.new.self (search rules) c.args.self.now.strangers

pub returns-then-not-is_neighbour-clause-came : goal.returns-then-not-is_neighbour-clause-came
returns-then-not-is_neighbour-clause-came g c goes = absurd (false≢true goes)

pub returns-then-not-is_neighbour-clause-pace : goal.returns-then-not-is_neighbour-clause-pace
returns-then-not-is_neighbour-clause-pace g c = remembers-same c.args.self.now.pace

pub returns-in-Later-clause-came : goal.returns-in-Later-clause-came
returns-in-Later-clause-came g c goes = absurd (false≢true goes)

pub returns-in-Later-clause-pace : goal.returns-in-Later-clause-pace
returns-in-Later-clause-pace g c = remembers-same c.args.self.now.pace

pub returns-in-Broken-clause-came : goal.returns-in-Broken-clause-came
returns-in-Broken-clause-came g c goes = absurd (false≢true goes)

pub returns-in-Broken-clause-pace : goal.returns-in-Broken-clause-pace
returns-in-Broken-clause-pace g c = remembers-same c.args.self.now.pace

pub returns-clause-ended : goal.returns-clause-ended
returns-clause-ended g c ends = absurd (true≢false ends)

pub returns-clause-pace : goal.returns-clause-pace
returns-clause-pace g c =
    let heard = c.heard-hearing.ensures in
    let new = c.heard-hearing.new.self in
    remembers-heard c.args.self.now.pace new c.args.id c.args.now c.in-Frame.frame _ heard.port heard.others heard.manner

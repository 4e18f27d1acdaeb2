use Rattle.std.proofs.Common.{◌≡◌, ◌∙◌, ap, sym, subst, IsTrue, take, get_or, Some}
use Rattle.std.proofs.lemmas.List.{take_all, take_more}
use Rattle.topology.specs.Network.{neighbours_of}
use Rattle.topology.specs.Ranges.{ranges_of}
use Rattle.topology.specs.declared.frame.Ranges.{Ranges}
use Rattle.state_writing.specs.node_core.Site.{Site}
use Rattle.state_writing.specs.node_core.State.{LocalState}
use Rattle.state_writing.specs.node_core.View.{site_in, state_of}
use Rattle.state_writing.specs.node_core.Writes.{own_fits}
use Rattle.node_state_file.specs.Reading.{found, saved_port_fits}
use Rattle.node_state_file.proofs.Fits.{own_of, ports_of}
use Rattle.node_state_file.proofs.Restored.{at_first, found_fits, matched_to, none_more, written_more}
use Rattle.node_state_file.proofs.Written.{on_ok, port_written}
use Rattle.node_state_file.proofs.reading.restore.Goals as goal
use Rattle.node_state_file.proofs.reading.restore.Goals.{in-Some, in_default}

pub loop-neighbour-init : goal.loop-neighbour-init
loop-neighbour-init g c =
    let r = ranges_of c.args.net.now in
    let h = c.args.saved.now.header in
    let ports = c.args.saved.now.ports.items in
    let same : (site_in c.args.node.now).ranges ≡ r = ap (λ (s : Site). s.ranges) c.requires.site in
    let own = own_of r h ports c.requires.fits in
    let fits = c.set_own-own.ensures.variant.1 (subst (λ (k : Ranges). IsTrue (own_fits k h.distance h.parent)) (sym same) own) in (
      on_ok c.set_own-own.result fits c.set_own-own.ensures.ok
          ∙ ap (λ (s : LocalState). record s { distance = h.distance; parent = h.parent }) c.requires.start
          ∙ at_first r h ports,
      c.set_own-own.ensures.site,
    )

pub write_port-requires-clause-fits : goal.write_port-requires-clause-fits
write_port-requires-clause-fits g c =
    let r = ranges_of c.args.net.now in
    let ports = c.args.saved.now.ports.items in
    let w = get_or c.neighbours-neighbours.result.now c.loop-neighbour.neighbour-index 0 in
    let port = c.in-Some.port in
    let is : found ports w ≡ Some port = sym (c.found.ensures ∙ ap (λ ps. found ps w) c.deref.ensures.0) ∙ c.in-Some.is in
    let same : (site_in c.loop-neighbour.node).ranges ≡ r = ap (λ (s : Site). s.ranges) (c.loop-neighbour.invariant.1 ∙ c.requires.site) in
    let fits = found_fits r ports w port is (ports_of r c.args.saved.now.header ports c.requires.fits) in
    subst (λ (k : Ranges). IsTrue (saved_port_fits k port)) (sym same) fits

pub loop-neighbour-preserved : goal.loop-neighbour-preserved
loop-neighbour-preserved g c =
    let r = ranges_of c.args.net.now in
    let h = c.args.saved.now.header in
    let ports = c.args.saved.now.ports.items in
    let ns = c.neighbours-neighbours.result.now in
    let i = c.loop-neighbour.neighbour-index in
    let w = get_or ns i 0 in
    let looked = sym (c.found.ensures ∙ ap (λ ps. found ps w) c.deref.ensures.0) in
    let more = ap (matched_to r h ports) (sym (take_more ns i 0 c.loop-neighbour-test.true)) in
    let (state, site) = c.loop-neighbour.invariant in
    elim c.match-found.branch [
      | in-Some b ↦ (
        ap state_of b.node-is
            ∙ b.write_port.ensures.state
            ∙ ap (port_written w b.in-Some.port) state
            ∙ written_more r h ports (take i ns) w b.in-Some.port (looked ∙ b.in-Some.is)
            ∙ more,
        ap site_in b.node-is ∙ b.write_port.ensures.site ∙ site,
      )
      | in_default b ↦ (
        ap state_of b.node-is ∙ state ∙ none_more r h ports (take i ns) w (looked ∙ b.in_default.is) ∙ more,
        ap site_in b.node-is ∙ site,
      )
    ]

pub returns-clause-state : goal.returns-clause-state
returns-clause-state g c =
    let all = take_all c.loop-neighbour.neighbour-index c.neighbours-neighbours.result.now c.loop-neighbour-test.false in
    let id = c.id.ensures ∙ ap (λ (s : Site). s.id) c.set_own-own.ensures.site in
    let done = all ∙ c.neighbours-neighbours.ensures ∙ ap (neighbours_of c.args.net.now) id in
    let saved = c.args.saved.now in
    c.loop-neighbour.invariant.0 ∙ ap (matched_to (ranges_of c.args.net.now) saved.header saved.ports.items) done

pub returns-clause-site : goal.returns-clause-site
returns-clause-site g c = c.loop-neighbour.invariant.1

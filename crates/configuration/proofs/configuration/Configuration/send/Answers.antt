use Rattle.std.proofs.Common.{◌≡◌, ◌<◌, ◌∙◌, ap, sym, subst, IsTrue}
use Rattle.topology.specs.Ranges.{frame_fits}
use Rattle.run_model.specs.data_link.Port.{frame_of}
use Rattle.configuration.specs.ConfigurationView.{ConfigurationView, states_of}
use Rattle.configuration.proofs.NodePlaces.{IsPortAt, port-at, site-is, state-is}
use Rattle.configuration.proofs.WorldSteps.{send-answers}
use Rattle.configuration.proofs.configuration.Configuration.send.Goals as goal

pub frame_for-frame-requires : goal.frame_for-frame-requires
frame_for-frame-requires g c =
    let ok = rw (← c.self.view_is) at c.in_ok-find_link.ensures.ok in
    let port = port-at c.self.view_is c.self.invariant c.in_ok-find_link.ensures.ok c.in_ok-find_link.ensures.near c.from.ensures c.index.ensures in
    subst (λ s. c.args.to < s.ranges.nodes) (sym (site-is _ _ _ _ _ port.here)) ok.1

pub put-requires-clause-fits : goal.put-requires-clause-fits
put-requires-clause-fits g c =
    let port = port-at c.self.view_is c.self.invariant c.in_ok-find_link.ensures.ok c.in_ok-find_link.ensures.near c.from.ensures c.index.ensures in
    subst (λ s. IsTrue (frame_fits s.ranges c.frame_for-frame.result)) (site-is _ _ _ _ _ port.here) c.frame_for-frame.ensures.fits

pub returns : goal.returns
returns g c =
    let old : ConfigurationView = record { nodes = c.self.inside.nodes.items; links = c.self.inside.links } in
    let port : IsPortAt old c.args.from c.args.to c.from.result c.index.result.now =
    port-at c.self.view_is c.self.invariant c.in_ok-find_link.ensures.ok c.in_ok-find_link.ensures.near c.from.ensures c.index.ensures in
    let frame : c.frame_for-frame.result ≡ frame_of ((states_of old.links.net old.nodes c.args.from).port c.args.to) =
    c.frame_for-frame.ensures.frame ∙ ap (λ s. frame_of (s.port c.args.to)) (sym (state-is _ _ _ _ _ port.here)) in
    rw (← c.self.view_is) (send-answers old c.put.new.self c.args.from c.args.to port.found (record { net = c.put.ensures.net; spares = c.put.ensures.spares }) (rw (← frame) c.put.ensures.put))

-- A replay goes where the records say.
use Rattle.std.proofs.Common.{◌≡◌, ℕ, ◌<◌, Bool, true, List, [], ◌∷◌, ◌++◌, refl, sym, subst, arith, IsTrue, drop}
use Rattle.std.proofs.lemmas.Grind.{common_steps}
use Rattle.std.specs.Prelude.{if◌then◌else◌}
use Rattle.topology.specs.Laws.{JoinedAreNodes}
use Rattle.topology.specs.Network.{are_joined}
use Rattle.topology.specs.Ranges.{ranges_of, frame_fits}
use Rattle.topology.specs.declared.frame.Frame.{Frame}
use Rattle.flight_records.specs.declared.entry.StatePart.{StatePart}
use Rattle.flight_records.specs.declared.entry.StatePart.TheVariants as part
use Rattle.configuration.specs.link_model.declared.item.Item.TheVariants as item
use Rattle.configuration.specs.node_core.Step.{taken}
use Rattle.configuration.specs.data_link.Port.{PortState}
use Rattle.configuration.specs.run_model.World.{World, IsWorldInRange, site}
use Rattle.configuration.specs.run_model.Step.{has_room}
use Rattle.configuration.specs.run_model.Run.{run}
use Rattle.configuration.specs.run_model.Laws.{RunsJoin}
use Rattle.record_gathering.specs.Differences.{harms_in, port_harms}
use Rattle.record_gathering.specs.Entries.{is_of_link, part_events, taken_events, sent_events}
use Rattle.record_gathering.specs.Laws.{IsReached}
use Rattle.record_gathering.specs.Standing.{IsPartInRange}
use Rattle.record_gathering.proofs.Reached.{own-reached, port-reached, port-is}
use Rattle.record_gathering.proofs.Desks.{desk-reached, desk-is}
use Rattle.record_gathering.proofs.Links.{taken-leads, sent-leads}

joined-part : (w : World) (v u : ℕ) (f : Frame) → IsTrue (is_of_link w v u f) → are_joined w.net.edges v u ≡ true
joined-part w v u f t = grind (arith, common_steps)

fits-part : (w : World) (v u : ℕ) (f : Frame) → IsTrue (is_of_link w v u f) → frame_fits (ranges_of w.net) f ≡ true
fits-part w v u f t = grind (arith, common_steps)

-- a part that is in range is reached
abbrev pub PartsReached : Type 0
PartsReached =
    (w : World) (queue : List ℕ) (v : ℕ) (p : StatePart) → IsWorldInRange w → v < w.net.nodes
    → IsPartInRange w queue v p → IsReached w queue v p (run w (part_events w queue v p))

module _ (join : RunsJoin) (nodes : JoinedAreNodes) where
  pub parts-reached : (w : World) (queue : List ℕ) (v : ℕ) (p : StatePart) → IsWorldInRange w → v < w.net.nodes
      → IsPartInRange w queue v p → IsReached w queue v p (run w (part_events w queue v p))
  parts-reached w queue v (part.Start network node) range here fits =
      record { stands = tt; beside = refl; others = λ _ _. refl; links = refl; network = refl }
  parts-reached w queue v (part.Own d p) range here fits = own-reached w queue v d p here fits
  parts-reached w queue v (part.Port u seq last staged copy x) range here (joined, fits, below) =
      let p : PortState = record { seq = seq; last = last; staged = staged; copy = copy } in
      subst (λ (b : Bool). IsReached w queue v (part.Port u seq last staged copy x)
      (run w (if b then harms_in (port_harms v u (w.node v) p x) else []))) (sym joined)
      (port-is w queue v u p x _
      (port-reached w v u here (nodes w.net v u range.network joined).1 joined p x fits below))
  parts-reached w queue v (part.Waits t) range here fits =
      record { stands = tt; beside = refl; others = λ _ _. refl; links = refl; network = refl }
  parts-reached w queue v (part.Loan lent left served) range here fits =
      desk-is w queue v lent left served _
      (desk-reached w v here join (range.nodes v here).desk queue lent left served fits)
  parts-reached w queue v part.Whole range here fits =
      record { stands = tt; beside = refl; others = λ _ _. refl; links = refl; network = refl }

  pub taken-follows : (w : World) (u v : ℕ) (f : Frame) → IsWorldInRange w → IsTrue (is_of_link w u v f)
      → (run w (taken_events w u v f)).node v ≡ taken (site w v) u (item.Frame f) (w.node v)
  taken-follows w u v f range link =
      let joined = joined-part w u v f link in
      let ends = nodes w.net u v range.network joined in
      taken-leads join w u v f ends.0 ends.1 joined (fits-part w u v f link) range.network.limits.some_capacity

  pub sent-follows : (w : World) (v u : ℕ) (f : Frame) → IsWorldInRange w → IsTrue (is_of_link w v u f)
      → (run w (sent_events w v u f)).link v u
      ≡ (if has_room w v u then w.link v u else drop 1 (w.link v u)) ++ item.Frame f ∷ []
  sent-follows w v u f range link =
      let joined = joined-part w v u f link in
      let ends = nodes w.net v u range.network joined in
      sent-leads join w v u f ends.0 ends.1 joined (fits-part w v u f link) range.network.limits.some_capacity
      (range.capacity v u joined)

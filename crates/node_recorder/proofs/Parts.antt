-- The parts of a state that are noted one after the other are the state's.
use Rattle.std.proofs.Common.{◌≡◌, ◌∙◌, ap, ℕ, List, [], ◌∷◌, ◌++◌}
use Rattle.std.specs.Prelude.{fold, map}
use Rattle.std.proofs.lemmas.List.Sums.{fold-append}
use Rattle.std.proofs.lemmas.List.Folds.{fold-map}
use Rattle.flight_recorder.specs.flight_records.declared.entry.Noted.TheVariants as noted
use Rattle.flight_recorder.specs.flight_records.declared.entry.StatePart.{StatePart}
use Rattle.flight_recorder.specs.flight_records.declared.entry.StatePart.TheVariants.{Start, Waits, Whole}
use Rattle.flight_recorder.specs.View.{RecorderView}
use Rattle.flight_recorder.specs.Recorder.{after_note}
use Rattle.node_follower.specs.node_core.Site.{Site}
use Rattle.node_follower.specs.node_core.State.{LocalState}
use Rattle.node_follower.specs.Parts.{loan_part, own_part, port_part, state_parts}
use Rattle.node_recorder.specs.Turns.{after_parts, after_ports, after_queue, after_state}

module _ (now : ℕ) where
  abbrev note : RecorderView → StatePart → RecorderView
  note r p = after_note now (noted.State p) r

  -- the ports, the queue, and the rest, after what was noted first
  later : (s : LocalState) (ws : List ℕ) (r : RecorderView) (more : List StatePart)
      → fold note r (map (port_part s) ws ++ (map Waits s.desk.waiting ++ more))
      ≡ fold note (after_queue now s.desk.waiting (after_ports now s ws r)) more
  later s ws r more =
      let ports = map (port_part s) ws in
      let queue = map Waits s.desk.waiting in
      fold-append note r ports (queue ++ more)
      ∙ ap (λ (x : RecorderView). fold note x (queue ++ more)) (fold-map note (port_part s) r ws)
      ∙ fold-append note (after_ports now s ws r) queue more
      ∙ ap (λ (x : RecorderView). fold note x more) (fold-map note Waits (after_ports now s ws r) s.desk.waiting)

  pub all-parts : (network : ℕ) (site : Site) (s : LocalState) (r : RecorderView)
      → after_parts now (state_parts network site s) r
      ≡ after_state now network site s r
  all-parts network site s r = later s site.neighbours (note (note r (Start network site.id)) (own_part s)) (loan_part s ∷ Whole ∷ [])

-- Turns in time and links that are up: small examples, and what looks like them and is none.
use Rattle.std.proofs.Common.{◌≡◌, ℕ, List, [], ◌∷◌, Option, Some, true, false, slice_get, refl, sym, ap, ◌∙◌, inl, arith}
use Rattle.node_core.specs.Deeds.{Sends, Ticks}
use Rattle.pace.specs.declared.pace.Plan.{Plan}
use Rattle.node_loop.specs.node_connections.declared.port.NodePort.{NodePort}
use Rattle.node_loop.specs.Moments.{Moment}
use Rattle.node_loop.specs.node_connections.Speaking.{takes_frames}
use Rattle.node_core.specs.declared.ticked.Ticked.{Ticked}
use Rattle.node_loop.specs.Turns.{Attends, Turns}
use Rattle.processes.specs.Accounts.{Timed, deeds}
use Rattle.processes.specs.Turns.{Turn}
use Rattle.socket_links.specs.Counts.{Counts}
use Rattle.processes.proofs.RowsLinks.{numbered}
use Rattle.running_nodes.specs.Repeating.{BeginsBy, GoesUp, IsInTime, IsTurnUp, TimedTurn, WasUp, all_did, whens}

-- a frame is due at the port to node 1
abbrev offers_one : Plan
offers_one = record { ticks = true; offers = false ∷ true ∷ [] }

module _ {P : Type 0} (at : Moment P) (port : NodePort P) (ports : at.ports ≡ port ∷ port ∷ []) where
  abbrev turn : ℕ → ℕ → List Timed → TimedTurn P
  turn begins ends did = record { when = record { begins = begins; ends = ends }; did = did; after = at }

  abbrev ticks_at : ℕ → List Timed
  ticks_at a = record { instant = a; deed = Ticks } ∷ []

  -- the tick is done in the turn, and the next turn begins after it
  in-time : IsInTime (turn 0 3 (ticks_at 2)) (turn 5 6 [] ∷ [])
  in-time = record { lasts = omega arith; deeds_are = ((omega arith, omega arith), tt); later = (omega arith, tt) }

  -- a turn begins before the last one ended
  in_not-time : ¬ IsInTime (turn 0 3 []) (turn 2 6 [] ∷ [])
  in_not-time t = grind (arith, t.later.0)

  -- the tick is done after the turn
  in_not-turn : ¬ IsInTime (turn 0 3 (ticks_at 4)) []
  in_not-turn t = grind (arith, t.deeds_are.0.1)

  begins-by : BeginsBy 5 (turn 5 6 [] ∷ [])
  begins-by = omega arith

  begins_not-later : ¬ BeginsBy 4 (turn 5 6 [] ∷ [])
  begins_not-later l = grind (arith, l)

  -- the port took frames, and accepted the one that was offered
  was-up : takes_frames (Some port) ≡ true → WasUp 1 at offers_one (Sends 1 (numbered 1) ∷ [])
  was-up ready = record { takes = ap (λ xs. takes_frames (slice_get xs 1)) ports ∙ ready; accepts = λ e none. absurd cc }

  -- the port took no frames
  was_not-ready : takes_frames (Some port) ≡ false → ¬ WasUp 1 at offers_one (Sends 1 (numbered 1) ∷ [])
  was_not-ready stuck up = let e : true ≡ false = sym up.takes ∙ (ap (λ xs. takes_frames (slice_get xs 1)) ports ∙ stuck) in absurd cc

  -- the frame that was offered was not accepted
  was_not-taken : ¬ WasUp 1 at offers_one (Ticks ∷ [])
  was_not-taken up = up.accepts refl refl

  -- two turns: their instants, and what was done in them, in order
  whens-two : whens (turn 0 3 (ticks_at 2) ∷ turn 5 6 [] ∷ []) ≡ record { begins = 0; ends = 3 } ∷ record { begins = 5; ends = 6 } ∷ []
  whens-two = refl

  did-two : all_did (turn 0 3 (ticks_at 2) ∷ turn 5 6 (ticks_at 6) ∷ []) ≡ record { instant = 2; deed = Ticks } ∷ record { instant = 6; deed = Ticks } ∷ []
  did-two = refl

  did_not-turned : ¬ (all_did (turn 0 3 (ticks_at 2) ∷ turn 5 6 (ticks_at 6) ∷ []) ≡ record { instant = 6; deed = Ticks } ∷ record { instant = 2; deed = Ticks } ∷ [])
  did_not-turned e = grind (arith, e)

  module _ (gave took : P → Option (List ℕ)) (counts : P → Counts) where
    goes-nowhere : GoesUp gave took counts 1 at []
    goes-nowhere = tt

    -- a turn that begins before the last one ended is no turn of a node
    goes_not-back : ¬ GoesUp gave took counts 1 at (turn 0 3 [] ∷ turn 2 6 [] ∷ [])
    goes_not-back up = in_not-time up.1

    -- a turn whose link was up, by its own account
    turn-up : (says : Ticked) (new : Moment P) (t : Turns gave took counts says 5 at new) → WasUp 1 t.acted t.plan t.account → IsTurnUp gave took counts 1 5 t.account at new
    turn-up says new t up = inl (says, t, refl, up)

    goes-up : (says : Ticked) (new : Moment P) (t : Turns gave took counts says 5 at new) (did : List Timed) → deeds did ≡ t.account → WasUp 1 t.acted t.plan t.account
        → IsInTime (record { when = record { begins = 5; ends = 6 }; did = did; after = new }) []
        → GoesUp gave took counts 1 at (record { when = record { begins = 5; ends = 6 }; did = did; after = new } ∷ [])
    goes-up says new t did are up in_time = (rw are (turn-up says new t up), in_time, tt)

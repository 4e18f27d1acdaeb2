-- All marks, one after the other, are a run: by induction on the marks.
use Rattle.std.proofs.Common.{◌≡◌, ℕ, ◌<◌, List, [], ◌∷◌, map, IsTrue, Bool, true, false, refl, sym, subst}
use Rattle.std.proofs.Math.Path.{fun_ext}
use Rattle.topology.specs.Network.{are_joined}
use Rattle.topology.specs.Laws.{NeighboursAreJoined, JoinedBack}
use Rattle.run_model.specs.World.{World}
use Rattle.run_model.specs.Step.{step}
use Rattle.run_model.specs.Run.{run}
use Rattle.node_core.specs.Deeds.{Ticks, Sends, Takes, Asks, Leaves}
use Rattle.processes.specs.Marks.{Mark, Does, Drops, event_of}
use Rattle.processes.specs.Through.{GoesThrough}
use Rattle.processes.proofs.Steps.{Holds, GoesOn, AreNodes, ticks, sends, takes, asks, leaves, drops}

-- when nothing is to come, the last world is reached
reached : (w last : World) → Holds w [] last → w ≡ last
reached w last h =
    let node-same : w.node ≡ last.node = fun_ext (λ v. sym (h.nodes v)) in
    let at-link : (u v : ℕ) → w.link u v ≡ last.link u v = λ u v. by-edge w last h u v (are_joined w.net.edges u v) refl in
    let link-same : w.link ≡ last.link = fun_ext (λ u. fun_ext (λ v. at-link u v)) in
    let net-same = sym h.network in
    let spares-same = sym h.spares in
    λ i. record { net = net-same i; spares = spares-same i; node = node-same i; link = link-same i }
  where
    by-edge : (w last : World) → Holds w [] last → (u v : ℕ) (b : Bool) → are_joined w.net.edges u v ≡ b → w.link u v ≡ last.link u v
    by-edge w last h u v true e = sym (h.links u v e)
    by-edge w last h u v false e = sym (h.nowhere u v e).1

module _ (near : NeighboursAreJoined) (back : JoinedBack) where
  pub mark-goes-on : (w last : World) (m : Mark) (ms : List Mark) → AreNodes w → Holds w (m ∷ ms) last → GoesOn w last (event_of m) ms
  mark-goes-on w last (Does t v Ticks) ms nodes h = ticks near back w last ms nodes t v h
  mark-goes-on w last (Does t v (Sends u f)) ms nodes h = sends near back w last ms nodes t v u f h
  mark-goes-on w last (Does t v (Takes u f)) ms nodes h = takes near back w last ms nodes t v u f h
  mark-goes-on w last (Does t v (Asks k)) ms nodes h = asks near back w last ms nodes t v k h
  mark-goes-on w last (Does t v (Leaves k)) ms nodes h = leaves near back w last ms nodes t v k h
  mark-goes-on w last (Drops t u v i) ms nodes h = drops near back w last ms nodes t u v i h

  pub marks-run : (ms : List Mark) (w last : World) → AreNodes w → Holds w ms last → (run w (map event_of ms) ≡ last) × GoesThrough w (map event_of ms)
  marks-run [] w last nodes h = (reached w last h, tt)
  marks-run (m ∷ ms) w last nodes h =
      let on = mark-goes-on w last m ms nodes h in
      let now = step w (event_of m) in
      let nodes-next : AreNodes now = subst (λ net. (u v : ℕ) → IsTrue (are_joined net.edges u v) → (u < net.nodes) × (v < net.nodes)) (sym on.network) nodes in
      let rest = marks-run ms now last nodes-next on.holds in
      (rest.0, (on.done, rest.1))

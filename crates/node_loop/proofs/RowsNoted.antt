-- What is noted of frames that a node took and of what it said, and notes that are not of that.
use Rattle.std.proofs.Common.{◌≡◌, ◌++◌, ◌∷◌, ℕ, false, Bool, List, Option, refl, ap, []}
use Rattle.topology.specs.declared.frame.Frame.{Frame}
use Rattle.node_core.specs.View.{NodeView}
use Rattle.node_connections.specs.socket_links.Counts.{Counts}
use Rattle.node_connections.specs.declared.port.NodePort.{NodePort}
use Rattle.node_service.specs.Deeds.{Became, Deed, IsLeave, IsTake, Leaves, Sends, Takes}
use Rattle.node_service.specs.NotesView.{NotesView}
use Rattle.node_service.specs.Noting.{after_all, as_entry}
use Rattle.node_service.proofs.Became.{stays}
use Rattle.node_loop.specs.Hearing.{Hears, TakesAt}
use Rattle.node_loop.specs.Moments.{Moment}
use Rattle.node_loop.specs.Noting.{DidHear, DidSpeak, DidTake}
use Rattle.node_loop.specs.Speaking.{Speaks}

-- notes with room for two deeds: none yet, one, and two
abbrev blank : NotesView
blank = record { deeds = []; room = 2; is_torn = false }

abbrev with_one : Deed → NotesView
with_one d = record blank { deeds = as_entry d ∷ [] }

abbrev with_two : Deed → Deed → NotesView
with_two d e = record blank { deeds = as_entry d ∷ as_entry e ∷ [] }

-- a deed that was done is noted, and none that was not
not-left_out : (d : Deed) (ds : List Deed) → ds ≡ d ∷ [] → blank ≡ after_all ds blank → ⊥
not-left_out d ds one noted = let e : blank ≡ with_one d = rw one at noted in let f = ap (λ (n : NotesView). n.deeds) e in absurd cc

not-made_up : (d : Deed) (ds : List Deed) → ds ≡ [] → with_one d ≡ after_all ds blank → ⊥
not-made_up d ds none noted = let e : with_one d ≡ blank = rw none at noted in let f = ap (λ (n : NotesView). n.deeds) e in absurd cc

module _ {P : Type 0} (R : List Frame → NodePort P → NodePort P → Type 0) (node other : NodeView) (port : NodePort P) (frame : Frame) where
  -- no frame came at the one port that there is, and nothing is noted
  took-nothing : R [] port port → DidTake R 0 node node (port ∷ []) (port ∷ []) blank blank
  took-nothing same = record {
    takes = record { takes = stays IsTake node; at_port = same; others = λ w apart. (refl, refl) };
    noted = refl;
  }

  -- a frame that came is noted
  took-one : (t : TakesAt R 0 node other (port ∷ []) (port ∷ [])) → t.takes.deeds ≡ Takes 0 frame ∷ []
      → DidTake R 0 node other (port ∷ []) (port ∷ []) blank (with_one (Takes 0 frame))
  took-one t one = record { takes = t; noted = rw one refl }

  took_not-left_out : (did : DidTake R 0 node other (port ∷ []) (port ∷ []) blank blank) → did.takes.takes.deeds ≡ Takes 0 frame ∷ [] → ⊥
  took_not-left_out did one = not-left_out (Takes 0 frame) did.takes.takes.deeds one did.noted

  took_not-made_up : (did : DidTake R 0 node other (port ∷ []) (port ∷ []) blank (with_one (Takes 0 frame)))
      → did.takes.takes.deeds ≡ [] → ⊥
  took_not-made_up did none = not-made_up (Takes 0 frame) did.takes.takes.deeds none did.noted

module _ {P : Type 0} (gave took : P → Option (List ℕ)) (counts : P → Counts) (f g : Frame) where
  -- so it is of all ports
  module _ (node other : NodeView) (ports pulled : List (NodePort P)) where
    heard-two : (h : Hears gave took counts node other ports pulled) → h.takes.deeds ≡ Takes 0 f ∷ Takes 2 g ∷ []
        → DidHear gave took counts node other ports pulled blank (with_two (Takes 0 f) (Takes 2 g))
    heard-two h two = record { hears = h; noted = rw two refl }

    heard_not-left_out : (did : DidHear gave took counts node other ports pulled blank blank) → did.hears.takes.deeds ≡ Takes 2 g ∷ [] → ⊥
    heard_not-left_out did one = not-left_out (Takes 2 g) did.hears.takes.deeds one did.noted

  -- first what was sent is noted, and then the tickets that left
  module _ (offers : List Bool) (old new : Moment P) where
    spoke-first : (s : Speaks gave took counts offers 5 old new) (l : Became IsLeave old.node new.node)
        → s.sends ≡ Sends 2 f ∷ [] → l.deeds ≡ Leaves 7 ∷ []
        → DidSpeak IsLeave gave took counts offers 5 old new blank (with_two (Sends 2 f) (Leaves 7))
    spoke-first s l said left = record { speaks = s; leaves = l; kinds = l.kinds; noted = rw (said, left) refl }

    spoke_not-left_out : (did : DidSpeak IsLeave gave took counts offers 5 old new blank blank)
        → did.speaks.sends ++ did.leaves.deeds ≡ Leaves 7 ∷ [] → ⊥
    spoke_not-left_out did one = not-left_out (Leaves 7) (did.speaks.sends ++ did.leaves.deeds) one did.noted

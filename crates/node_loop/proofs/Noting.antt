-- What is noted of deeds one after the other.
use Rattle.std.proofs.Common.{◌≡◌, ℕ, Bool, List, Option, ◌∷◌, ◌++◌, ◌+◌, refl, subst, append_assoc}
use Rattle.topology.specs.declared.frame.Frame.{Frame}
use Rattle.node_connections.specs.socket_links.Counts.{Counts}
use Rattle.node_core.specs.View.{NodeView}
use Rattle.node_service.specs.Deeds.{Deed, Ticks}
use Rattle.node_connections.specs.declared.port.NodePort.{NodePort}
use Rattle.node_service.specs.NotesView.{NotesView}
use Rattle.node_service.specs.Noting.{after_all}
use Rattle.node_service.proofs.Noting.{grown}
use Rattle.node_loop.specs.Noting.{DidTake}
use Rattle.node_loop.specs.Moments.{Moment}
use Rattle.node_loop.proofs.Speaking.{SpokenTo}
use Rattle.node_loop.proofs.Hearing.{HeardBelow, heard-next, heard-start, takes-join}

module _ {P : Type 0} (R : List Frame → NodePort P → NodePort P → Type 0) where
  -- the nodes below i were heard, and just the frames that were taken are noted
  pub record HeardNoted (x y : NodeView) (a b : List (NodePort P)) (i : ℕ) (n m : NotesView) : Type 0 where
    pub heard : HeardBelow R x y a b i
    pub noted : m ≡ after_all heard.takes.deeds n

  pub noted-start : (x : NodeView) (a : List (NodePort P)) (n : NotesView) → HeardNoted x x a a 0 n n
  noted-start x a n = record { heard = heard-start R x a; noted = refl }

  pub noted-next : (x y z : NodeView) (a b c : List (NodePort P)) (i : ℕ) (n m o : NotesView) → HeardNoted x y a b i n m → DidTake R i y z b c m o → HeardNoted x z a c (i + 1) n o
  noted-next x y z a b c i n m o f g = record {
    heard = heard-next R x y z a b c i f.heard g.takes;
    noted = grown f.heard.takes.deeds g.takes.takes.deeds n m o f.noted g.noted;
  }

  -- frames of one port, and then frames of it
  pub take-join : (S T : List Frame → NodePort P → NodePort P → Type 0)
      → ((xs ys : List Frame) (p q s : NodePort P) → R xs p q → S ys q s → T (xs ++ ys) p s)
      → (i : ℕ) (x y z : NodeView) (a b c : List (NodePort P)) (n m o : NotesView) → DidTake R i x y a b n m → DidTake S i y z b c m o → DidTake T i x z a c n o
  take-join S T join i x y z a b c n m o f g = record {
    takes = takes-join R S T join i x y z a b c f.takes g.takes;
    noted = grown f.takes.takes.deeds g.takes.takes.deeds n m o f.noted g.noted;
  }

-- the node spoke to each neighbour below i, and just what was accepted is noted
pub record SpokenNoted {P : Type 0} (gave took : P → Option (List ℕ)) (counts : P → Counts) (offers : List Bool) (now : ℕ)
    (old new : Moment P) (i : ℕ) (n m : NotesView) : Type 0 where
  pub spoken : SpokenTo gave took counts offers now old new i
  pub noted : m ≡ after_all spoken.sends n

-- the parts of a turn, and of what is done between two turns, one after the other
pub turn-grown : (takes serves goes sends leaves : List Deed) (n m o p : NotesView) → m ≡ after_all (takes ++ serves) n → o ≡ after_all (Ticks ∷ goes) m → p ≡ after_all (sends ++ leaves) o
    → p ≡ after_all (takes ++ (serves ++ (Ticks ∷ (goes ++ (sends ++ leaves))))) n
turn-grown takes serves goes sends leaves n m o p f g h =
    let rest = Ticks ∷ (goes ++ (sends ++ leaves)) in
    subst (λ ds. p ≡ after_all ds n) (append_assoc takes serves rest) (grown (takes ++ serves) rest n m p f (grown (Ticks ∷ goes) (sends ++ leaves) m o p g h))

pub attend-grown : (takes serves sends leaves : List Deed) (n m p : NotesView) → m ≡ after_all (takes ++ serves) n → p ≡ after_all (sends ++ leaves) m
    → p ≡ after_all (takes ++ (serves ++ (sends ++ leaves))) n
attend-grown takes serves sends leaves n m p f h =
    subst (λ ds. p ≡ after_all ds n) (append_assoc takes serves (sends ++ leaves)) (grown (takes ++ serves) (sends ++ leaves) n m p f h)

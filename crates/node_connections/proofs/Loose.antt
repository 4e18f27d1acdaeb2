-- Ports without a connection, one after the other.
use Rattle.std.proofs.Common.{◌≡◌, ◌≢◌, ◌<◌, ◌≤◌, ◌+◌, ◌-◌, ◌⊎◌, ◌∷◌, ◌++◌, ℕ, Bool, ◌||◌, true, false, List, Option, None, Some, is_some, IfSome, Contains, length, slice_get, refl, inl, inr, sym, subst, arith, ◌∙◌, []}
use Rattle.std.specs.Prelude.{slice_set}
use Rattle.std.proofs.lemmas.List.{length-set}
use Rattle.std.proofs.lemmas.Option.{slice_get_past}
use Rattle.std.proofs.lemmas.Bool.{cases_lt}
use Rattle.circular_buffer.proofs.Places.{slice_get-set_same, slice_get-last, slice_get-append_left, slice_get-append_right}
use Rattle.node_connections.specs.declared.port.NodePort.{NodePort}
use Rattle.node_connections.specs.LinkSights.{link_at}
use Rattle.node_connections.specs.Loose.{AreKept, AreLoose, is_linked}
use Rattle.node_connections.proofs.Hearing.{others-set}
use Rattle.node_connections.proofs.Places.{apart, below-or-last, none-below, none-there}

module _ {P : Type 0} where
  unlinked : (q : NodePort P) → q.link.pipe ≡ None → q.greeting ≡ None → is_linked (Some q) ≡ false
  unlinked q pipe greeting = rw (pipe, greeting) refl

  -- of the ports below i, those to nodes that are no neighbours are closed; all others are as
  -- before
  pub record AreClosed (ns : List ℕ) (old new : List (NodePort P)) (i : ℕ) : Type 0 where
    pub kept : AreKept ns old new
    pub closed : (w : ℕ) → w < i → ¬ Contains ns w → is_linked (slice_get new w) ≡ false
    pub count : length new ≡ length old

  pub closed-start : (ns : List ℕ) (ports : List (NodePort P)) → AreClosed ns ports ports 0
  closed-start ns ports = record { kept = λ w has. refl; closed = λ w below. elim (none-below w below) [ ]; count = refl }

  pub closed-on : (ns : List ℕ) (old new : List (NodePort P)) (i : ℕ) → Contains ns i → AreClosed ns old new i → AreClosed ns old new (i + 1)
  closed-on ns old new i has so = record {
    kept = so.kept;
    closed = λ w below not.
        elim (below-or-last w i below) [
          | inl less ↦ so.closed w less not
          | inr last ↦ elim (not (subst (λ v. Contains ns v) (sym last) has)) [ ]
        ];
    count = so.count;
  }

  pub closed-next : (ns : List ℕ) (old new : List (NodePort P)) (i : ℕ) (q : NodePort P) → (¬ Contains ns i) → i < length new → q.link.pipe ≡ None → q.greeting ≡ None
      → AreClosed ns old new i → AreClosed ns old (slice_set new i q) (i + 1)
  closed-next ns old new i q none within pipe greeting so = record {
    kept = λ w has. (let other : w ≢ i = λ e. elim (none (subst (λ v. Contains ns v) e has)) [ ] in others-set new i q w other ∙ so.kept w has);
    closed = λ w below not.
        elim (below-or-last w i below) [
          | inl less ↦ (let other : w ≢ i = λ e. elim (apart w i less e) [ ] in rw (others-set new i q w other) (so.closed w less not))
          | inr last ↦ rw (last, slice_get-set_same new i q within) (unlinked q pipe greeting)
        ];
    count = length-set new i q ∙ so.count;
  }

  pub all-closed : (ns : List ℕ) (old new : List (NodePort P)) (i : ℕ) → length new ≤ i → AreClosed ns old new i → AreLoose ns new
  all-closed ns old new i all so w not =
      elim (cases_lt w i) [
        | inl less ↦ so.closed w less not
        | inr from ↦ (let past : length new ≤ w = omega arith in rw (slice_get_past new w past) refl)
      ]

one-of-three : (w i : ℕ) → (w ≡ i) ⊎ ((w < i) ⊎ (i + 1 ≤ w))
one-of-three w i = grind arith

module _ {P : Type 0} where
  -- one more port without a connection
  pub loose-pushed : (ns : List ℕ) (ports : List (NodePort P)) (q : NodePort P) → q.link.pipe ≡ None → q.greeting ≡ None → AreLoose ns ports → AreLoose ns (ports ++ q ∷ [])
  loose-pushed ns ports q pipe greeting so w not =
      elim (one-of-three w (length ports)) [
        | inl same ↦ rw (slice_get-last ports q w same) (unlinked q pipe greeting)
        | inr (inl less) ↦ rw (slice_get-append_left ports (q ∷ []) w less) (so w not)
        | inr (inr more) ↦ rw (slice_get-append_right ports (q ∷ []) w (w - length ports) (omega arith), slice_get_past (q ∷ []) (w - length ports) (omega arith)) refl
      ]

left-of : (a b : Bool) → (a || b) ≡ false → a ≡ false
left-of false b e = refl
left-of true b e = e

module _ {P : Type 0} where
  -- if no port has a connection, no stranger's has one
  pub loose-all : (ns : List ℕ) (ports : List (NodePort P)) → AreLoose [] ports → AreLoose ns ports
  loose-all ns ports so w not = so w (none-there w)

  -- the port of a neighbour may change
  pub loose-set : (ns : List ℕ) (ports : List (NodePort P)) (i : ℕ) (q : NodePort P) → Contains ns i → AreLoose ns ports → AreLoose ns (slice_set ports i q)
  loose-set ns ports i q has so w not =
      let other : w ≢ i = λ e. elim (not (subst (λ v. Contains ns v) (sym e) has)) [ ] in rw (others-set ports i q w other) (so w not)

  -- the same for a port that changed in some way
  pub loose-others : (ns : List ℕ) (old new : List (NodePort P)) (i : ℕ) → Contains ns i → ((w : ℕ) → w ≢ i → slice_get new w ≡ slice_get old w) → AreLoose ns old → AreLoose ns new
  loose-others ns old new i has others so w not =
      let other : w ≢ i = λ e. elim (not (subst (λ v. Contains ns v) (sym e) has)) [ ] in rw (others w other) (so w not)

  -- the link of a port without a connection is down
  pub loose-down : (x : Option (NodePort P)) → is_linked x ≡ false → IfSome (link_at x) (λ sight. sight.is_up ≡ false)
  loose-down None e = tt
  loose-down (Some port) e = left-of (is_some port.link.pipe) (is_some port.greeting) e

-- Connections that come, and frames that come on them, one after the other.
use Rattle.std.proofs.Common.{◌≡◌, ◌≢◌, ◌<◌, ◌≤◌, ◌+◌, ℕ, List, ◌∷◌, ◌++◌, Contains, Option, length, slice_get, slice_index_or, refl, inl, inr, subst, ap, arith, ◌∙◌, append-nil, []}
use Rattle.std.proofs.lemmas.Grind.{common_steps}
use Rattle.std.specs.Prelude.{slice_set}
use Rattle.std.proofs.lemmas.Bool.{cases_lt}
use Rattle.std.proofs.lemmas.List.{length-set}
use Rattle.topology.specs.declared.frame.Frame.{Frame}
use Rattle.topology.specs.declared.frame.Ranges.{Ranges}
use Rattle.link_model.specs.declared.item.Item.TheVariants as item
use Rattle.node_core.specs.Step.{taken}
use Rattle.node_core.specs.View.{NodeView, site_in, state_of}
use Rattle.node_connections.specs.socket_links.Counts.{Counts}
use Rattle.node_connections.specs.declared.port.NodePort.{NodePort}
use Rattle.node_service.specs.Deeds.{Became, IsTake, Takes, taken_from}
use Rattle.node_connections.specs.Hearing.{Comes, Pulls}
use Rattle.node_loop.specs.Hearing.{Hears, TakesAt}
use Rattle.node_connections.specs.Ports.{AtBoth}
use Rattle.node_service.proofs.Became.{joins, one, stays, taken-join}
use Rattle.node_connections.proofs.Places.{apart, below-or-last, none-below, past}
use Rattle.node_connections.proofs.Hearing.{Same, both-join, both-same, both-set, comes-end, others-set, pulls-same}

module _ {P : Type 0} where
  -- takes at one port
  module _ (R : List Frame → NodePort P → NodePort P → Type 0) where
    abbrev pub takes-none : ((p : NodePort P) → R [] p p) → (i : ℕ) (x : NodeView) (ports : List (NodePort P)) → TakesAt R i x x ports ports
    takes-none self i x ports = record {
      takes = stays IsTake x;
      at_port = both-same (R []) self (slice_get ports i);
      others = λ w n. (refl, refl);
    }

    abbrev pub takes-nothing : (i : ℕ) (x : NodeView) (a b : List (NodePort P)) → AtBoth (R []) (slice_get a i) (slice_get b i) → ((w : ℕ) → w ≢ i → slice_get b w ≡ slice_get a w) → TakesAt R i x x a b
    takes-nothing i x a b there others = record { takes = stays IsTake x; at_port = there; others = λ w n. (refl, others w n) }

    pub taken-here : (i : ℕ) (f : Frame) → taken_from i (Takes i f ∷ []) ≡ f ∷ []
    taken-here i f = grind (arith, common_steps)

    pub taken-there : (i w : ℕ) (f : Frame) → w ≢ i → taken_from w (Takes i f ∷ []) ≡ []
    taken-there i w f n = grind (arith, common_steps)

    abbrev pub takes-one : (i : ℕ) (f : Frame) (x y : NodeView) (a b : List (NodePort P)) → Contains (site_in x).neighbours i → site_in y ≡ site_in x
        → state_of y ≡ taken (site_in x) i (item.Frame f) (state_of x) → AtBoth (R (f ∷ [])) (slice_get a i) (slice_get b i)
        → ((w : ℕ) → w ≢ i → slice_get b w ≡ slice_get a w) → TakesAt R i x y a b
    takes-one i f x y a b has site state there others = record {
      takes = one IsTake (Takes i f) x y tt site (has, state);
      at_port = rw (taken-here i f) there;
      others = λ w n. (taken-there i w f n, others w n);
    }

    abbrev pub takes-join : (S T : List Frame → NodePort P → NodePort P → Type 0)
        → ((xs ys : List Frame) (p q s : NodePort P) → R xs p q → S ys q s → T (xs ++ ys) p s)
        → (i : ℕ) (x y z : NodeView) (a b c : List (NodePort P)) → TakesAt R i x y a b → TakesAt S i y z b c → TakesAt T i x z a c
    takes-join S T join i x y z a b c f g = record {
      takes = joins IsTake x y z f.takes g.takes;
      at_port = rw (taken-join i f.takes.deeds g.takes.deeds)
          (both-join (R (taken_from i f.takes.deeds)) (S (taken_from i g.takes.deeds)) (T (taken_from i f.takes.deeds ++ taken_from i g.takes.deeds))
          (join (taken_from i f.takes.deeds) (taken_from i g.takes.deeds)) (slice_get a i) (slice_get b i) (slice_get c i) f.at_port g.at_port);
      others = λ w n.
          (taken-join w f.takes.deeds g.takes.deeds ∙ (ap (λ zs. zs ++ taken_from w g.takes.deeds) (f.others w n).0 ∙ (g.others w n).0), (g.others w n).1 ∙ (f.others w n).1);
    }

  -- one port changed: there are as many ports, and it stands to its old one as the change says
  pub counted-set : (ports : List (NodePort P)) (i : ℕ) (q : NodePort P) (n : ℕ) → (length ports ≡ n) × (n ≤ 64) → (length (slice_set ports i q) ≡ n) × (n ≤ 64)
  counted-set ports i q n are = (length-set ports i q ∙ are.0, are.1)

  pub changed-there : (R : NodePort P → NodePort P → Type 0) (ports : List (NodePort P)) (i n : ℕ) (old new : NodePort P) → (length ports ≡ n) × (n ≤ 64) → i < n → old ≡ slice_index_or ports i old → R old new
      → AtBoth R (slice_get ports i) (slice_get (slice_set ports i new) i)
  changed-there R ports i n old new are below read did = let size = are.0 in both-set R ports i old new (omega arith) read did

  -- the port with an id was pulled, and no frame came
  abbrev pub takes-set : (R : List Frame → NodePort P → NodePort P → Type 0) (x : NodeView) (ports : List (NodePort P)) (i n : ℕ) (old new : NodePort P)
      → (length ports ≡ n) × (n ≤ 64) → i < n → old ≡ slice_index_or ports i old → R [] old new → TakesAt R i x x ports (slice_set ports i new)
  takes-set R x ports i n old new are below read did = takes-nothing R i x ports (slice_set ports i new) (changed-there (R []) ports i n old new are below read did) (others-set ports i new)

  abbrev pub takes-end : (r : Ranges) (gave took : P → Option (List ℕ)) (counts : P → Counts) (i : ℕ) (x y : NodeView) (a b : List (NodePort P))
      → TakesAt (Comes r gave took) i x y a b → TakesAt (Pulls r gave took counts) i x y a b
  takes-end r gave took counts i x y a b f = record {
    takes = f.takes;
    at_port = both-join (Comes r gave took (taken_from i f.takes.deeds)) Same (Pulls r gave took counts (taken_from i f.takes.deeds)) (λ p q s come e. rw e (comes-end r gave took counts (taken_from i f.takes.deeds) p q come))
        (slice_get a i) (slice_get b i) (slice_get b i) f.at_port (both-same Same (λ p. refl) (slice_get b i));
    others = f.others;
  }

  -- the nodes below i were heard; of the others nothing was taken
  pub record HeardBelow (R : List Frame → NodePort P → NodePort P → Type 0) (x y : NodeView) (a b : List (NodePort P)) (i : ℕ) : Type 0 where
    pub takes : Became IsTake x y
    pub below : (w : ℕ) → w < i → AtBoth (R (taken_from w takes.deeds)) (slice_get a w) (slice_get b w)
    pub above : (w : ℕ) → i ≤ w → (taken_from w takes.deeds ≡ []) × (slice_get b w ≡ slice_get a w)

  module _ (R : List Frame → NodePort P → NodePort P → Type 0) where
    abbrev pub heard-start : (x : NodeView) (a : List (NodePort P)) → HeardBelow R x x a a 0
    heard-start x a = record { takes = stays IsTake x; below = λ w below. elim (none-below w below) [ ]; above = λ w from. (refl, refl) }

    abbrev pub heard-next : (x y z : NodeView) (a b c : List (NodePort P)) (i : ℕ) → HeardBelow R x y a b i → TakesAt R i y z b c → HeardBelow R x z a c (i + 1)
    heard-next x y z a b c i f g = record {
      takes = joins IsTake x y z f.takes g.takes;
      below = λ w below.
          elim (below-or-last w i below) [
            | inl less ↦ (let other : w ≢ i = λ e. elim (apart w i less e) [ ] in
                rw (taken-join w f.takes.deeds g.takes.deeds, (g.others w other).0, append-nil (taken_from w f.takes.deeds), (g.others w other).1) (f.below w less))
            | inr last ↦ (let before = f.above i (omega arith) in
                rw (last, taken-join i f.takes.deeds g.takes.deeds, before.0) (subst (λ o. AtBoth (R (taken_from i g.takes.deeds)) o (slice_get c i)) before.1 g.at_port))
          ];
      above = λ w from.
          let other : w ≢ i = λ e. elim (past w i from e) [ ] in
          let before = f.above w (omega arith) in
          (taken-join w f.takes.deeds g.takes.deeds ∙ (ap (λ zs. zs ++ taken_from w g.takes.deeds) before.0 ∙ (g.others w other).0), (g.others w other).1 ∙ before.1);
    }

  abbrev pub heard-all : (gave took : P → Option (List ℕ)) (counts : P → Counts) (x y : NodeView) (a b : List (NodePort P)) (i : ℕ)
      → HeardBelow (Pulls (site_in x).ranges gave took counts) x y a b i → Hears gave took counts x y a b
  heard-all gave took counts x y a b i f = record {
    takes = f.takes;
    pulls = λ w.
        elim (cases_lt w i) [
          | inl less ↦ f.below w less
          | inr from ↦ (let rest = f.above w from in rw (rest.0, rest.1) (both-same (Pulls (site_in x).ranges gave took counts []) (pulls-same (site_in x).ranges gave took counts) (slice_get a w)))
        ];
  }

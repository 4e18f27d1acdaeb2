-- Connections that come, and frames that come on them, at a port.
use Rattle.std.proofs.Common.{◌≡◌, ◌≢◌, ◌⊎◌, ◌<◌, ◌≤◌, ℕ, true, List, ◌∷◌, ◌++◌, Option, None, Some, is_some, slice_get, slice_index_or, refl, inl, inr, sym, subst, arith, ◌∙◌, append-nil, append_assoc, []}
use Rattle.std.specs.Prelude.{MatchOption, ⊤, length, slice_set}
use Rattle.std.proofs.lemmas.Grind.{common_steps}
use Rattle.std.proofs.lemmas.Option.{slice_get_read}
use Rattle.std.proofs.lemmas.Bool.{cases_eq}
use Rattle.circular_buffer.proofs.Places.{slice_get-set_same, slice_get-set_other}
use Rattle.topology.specs.declared.frame.Frame.{Frame}
use Rattle.topology.specs.declared.frame.Ranges.{Ranges}
use Rattle.socket_links.specs.Counts.{Counts}
use Rattle.socket_links.specs.Links.{IsPulled, Pulled, PullsOn, SaidLater, GaveBytes}
use Rattle.socket_links.specs.declared.link.SocketLink.{SocketLink}
use Rattle.socket_links.specs.declared.link.Pull.{Pull}
use Rattle.socket_links.specs.declared.link.Pull.TheVariants as pull
use Rattle.node_connections.specs.declared.port.NodePort.{NodePort}
use Rattle.node_connections.specs.Hearing.{AreWired, Comes, HasCome, IsWiredAt, Pulls, Wires}
use Rattle.node_connections.specs.Ports.{AtBoth}
use Rattle.node_connections.proofs.Pushing.{goes-on, stays-on}

module _ {P : Type 0} where
  -- what is so at each place stays so, and goes on
  pub both-same : (R : NodePort P → NodePort P → Type 0) → ((p : NodePort P) → R p p) → (x : Option (NodePort P)) → AtBoth R x x
  both-same R self None = tt
  both-same R self (Some p) = self p

  pub both-join : (R S T : NodePort P → NodePort P → Type 0) → ((p q r : NodePort P) → R p q → S q r → T p r)
      → (x y z : Option (NodePort P)) → AtBoth R x y → AtBoth S y z → AtBoth T x z
  both-join R S T join None None None f g = tt
  both-join R S T join None None (Some r) f g = g
  both-join R S T join None (Some q) z f g = elim f [ ]
  both-join R S T join (Some p) None z f g = elim f [ ]
  both-join R S T join (Some p) (Some q) None f g = g
  both-join R S T join (Some p) (Some q) (Some r) f g = join p q r f g

  -- a port that is written, and the others
  pub both-set : (R : NodePort P → NodePort P → Type 0) (ports : List (NodePort P)) (i : ℕ) (p q : NodePort P) → i < length ports → p ≡ slice_index_or ports i p → R p q
      → AtBoth R (slice_get ports i) (slice_get (slice_set ports i q) i)
  both-set R ports i p q within is f = rw (slice_get_read ports (length ports) i p refl within is, slice_get-set_same ports i q within) f

  pub others-set : (ports : List (NodePort P)) (i : ℕ) (q : NodePort P) (w : ℕ) → w ≢ i → slice_get (slice_set ports i q) w ≡ slice_get ports w
  others-set ports i q w n = slice_get-set_other ports i w q n

  abbrev pub Same : NodePort P → NodePort P → Type 0
  Same p q = q ≡ p

  -- connections, one after the other
  wires-same : (p : NodePort P) → Wires p p
  wires-same p = inl (refl, refl)

  pub wires-join : (p q r : NodePort P) → Wires p q → Wires q r → Wires p r
  wires-join p q r f (inr new) = inr new
  wires-join p q r (inl e) (inl d) = inl (d.0 ∙ e.0, d.1 ∙ e.1)
  wires-join p q r (inr new) (inl d) = inr (rw d.0 new.0, rw d.0 new.1, d.1 ∙ new.2)

  pub wired-same : (ports : List (NodePort P)) → AreWired ports ports
  wired-same ports w = both-same Wires wires-same (slice_get ports w)

  pub wired-join : (a b c : List (NodePort P)) → AreWired a b → AreWired b c → AreWired a c
  wired-join a b c f g w = both-join Wires Wires Wires wires-join (slice_get a w) (slice_get b w) (slice_get c w) (f w) (g w)

  -- at one place, and at no other
  pub wired-at : (a b : List (NodePort P)) (i : ℕ) → IsWiredAt i a b → AreWired a b
  wired-at a b i (there, others) w =
      elim (cases_eq w i) [
        | inl e ↦ rw e there
        | inr n ↦ rw (others w n) (wired-same a w)
      ]

  pub wired-set : (ports : List (NodePort P)) (i n : ℕ) (old new : NodePort P) → (length ports ≡ n) × (n ≤ 64) → i < n → old ≡ slice_index_or ports i old → Wires old new
      → IsWiredAt i ports (slice_set ports i new)
  wired-set ports i n old new are below read did = (let size = are.0 in both-set Wires ports i old new (omega arith) read did, others-set ports i new)

  is-loose : (a b : Option P) → is_some b ≡ is_some a → a ≡ None → b ≡ None
  is-loose None None s e = refl
  is-loose None (Some q) s e = grind (arith, s)
  is-loose (Some p) b s e = grind (arith, e)

  module _ (r : Ranges) (gave took : P → Option (List ℕ)) (counts : P → Counts) where
    -- nothing came
    pulls-none : (link : SocketLink P) → PullsOn r gave [] link link
    pulls-none link start frames was = subst (λ xs. IsPulled r gave start xs link) (sym (append-nil frames)) was

    come-none : (link : SocketLink P) → HasCome r gave took [] link link
    come-none link = record { pulled = pulls-none link; pushed = stays-on took link; stands = refl; loose = λ _. refl }

    pub comes-none : (p : NodePort P) → Comes r gave took [] p p
    comes-none p = record { come = come-none p.link; rest = (refl, refl) }

    pub pulls-same : (p : NodePort P) → Pulls r gave took counts [] p p
    pulls-same p = record { last = p; comes = comes-none p; ends = inl refl }

    -- frames and then frames
    come-join : (xs ys : List Frame) (a b c : SocketLink P) → HasCome r gave took xs a b → HasCome r gave took ys b c → HasCome r gave took (xs ++ ys) a c
    come-join xs ys a b c f g = record {
      pulled = λ start frames was. subst (λ zs. IsPulled r gave start zs c) (append_assoc frames xs ys) (g.pulled start (frames ++ xs) (f.pulled start frames was));
      pushed = goes-on took [] a b c f.pushed g.pushed;
      stands = g.stands ∙ f.stands;
      loose = λ e. rw (f.loose e) (g.loose (is-loose a.pipe b.pipe f.stands e));
    }

    pub comes-join : (xs ys : List Frame) (p q s : NodePort P) → Comes r gave took xs p q → Comes r gave took ys q s → Comes r gave took (xs ++ ys) p s
    comes-join xs ys p q s f g = record {
      come = come-join xs ys p.link q.link s.link f.come g.come;
      rest = (g.rest.0 ∙ f.rest.0, g.rest.1 ∙ f.rest.1);
    }

    pub comes-then : (xs ys : List Frame) (p q s : NodePort P) → Comes r gave took xs p q → Pulls r gave took counts ys q s → Pulls r gave took counts (xs ++ ys) p s
    comes-then xs ys p q s f g = record { last = g.last; comes = comes-join xs ys p q g.last f g.comes; ends = g.ends }

    pub comes-end : (xs : List Frame) (p q : NodePort P) → Comes r gave took xs p q → Pulls r gave took counts xs p q
    comes-end xs p q f = record { last = q; comes = f; ends = inl refl }

    -- what a pull says
    there : (a b : Option P) → is_some b ≡ true → (a ≡ None → ⊥) → is_some b ≡ is_some a
    there None b s n = elim (n refl) [ ]
    there (Some p) b s n = s

    pub frame-came : (f : Frame) (p q : NodePort P) → Pulled r gave took counts p.link q.link (pull.Frame f)
        → (p.link.pipe ≡ None → ◌≡◌ {A = Pull} (pull.Frame f) pull.Later) → (q.greeting ≡ p.greeting) × (q.is_stuck ≡ p.is_stuck) → Comes r gave took (f ∷ []) p q
    frame-came f p q h loose rest =
        let attached : p.link.pipe ≡ None → ⊥ = λ e. (let no = loose e in grind (arith, no)) in
        record {
          come = record {
            pulled = h.0;
            pushed = h.1;
            stands = there p.link.pipe q.link.pipe h.2 attached;
            loose = λ e. elim (attached e) [ ];
          };
          rest = rest;
        }

    stood : (a b : Option P) → MatchOption a (b ≡ None) (λ before. MatchOption a ⊥ (λ x. MatchOption b ⊥ (λ y. ⊤))) → is_some b ≡ is_some a
    stood None b h = rw h refl
    stood (Some p) None h = elim h [ ]
    stood (Some p) (Some q) h = refl

    said : (a b : SocketLink P) → MatchOption a.pipe (b.pipe ≡ None) (λ _. SaidLater counts a b ⊎ GaveBytes gave a b) → is_some b.pipe ≡ is_some a.pipe
    said a b h = grind (arith, common_steps)

    pub later-came : (p q : NodePort P) → Pulled r gave took counts p.link q.link pull.Later
        → (q.greeting ≡ p.greeting) × (q.is_stuck ≡ p.is_stuck) → Pulls r gave took counts [] p q
    later-came p q h rest = record {
      last = q;
      comes = record {
        come = record { pulled = h.0; pushed = h.1; stands = said p.link q.link h.3; loose = λ _. refl };
        rest = rest;
      };
      ends = inl refl;
    }

    pub broken-came : (p q : NodePort P) → Pulled r gave took counts p.link q.link pull.Broken
        → (q.greeting ≡ p.greeting) × (q.is_stuck ≡ p.is_stuck) → Pulls r gave took counts [] p q
    broken-came p q h rest = record { last = p; comes = comes-none p; ends = inr (h, rest) }

-- Small examples of what a port says and hears, and some that look like them but are not.
use Rattle.std.proofs.Common.{◌≡◌, ℕ, Bool, true, false, List, ◌∷◌, Option, None, Some, codes, refl, ap, sym, subst, inl, arith, append-nil, []}
use Rattle.topology.specs.declared.frame.Frame.{Frame}
use Rattle.topology.specs.declared.frame.Ranges.{Ranges}
use Rattle.socket_links.specs.Counts.{Counts}
use Rattle.socket_links.specs.Links.{IsPulled, IsPushed, Offered, PullsOn, PushesOn, unsent}
use Rattle.socket_links.specs.declared.link.Offer.{Offer}
use Rattle.socket_links.specs.declared.link.Offer.TheVariants as offer
use Rattle.socket_links.specs.declared.link.SocketLink.{SocketLink}
use Rattle.socket_links.specs.declared.writing.Flow.TheVariants as flow
use Rattle.node_connections.specs.declared.greeting.Greeting.{Greeting}
use Rattle.node_connections.specs.declared.greeting.Greeted.TheVariants as greeted
use Rattle.node_connections.specs.declared.port.NodePort.{NodePort}
use Rattle.node_connections.specs.Greetings.{Greets}
use Rattle.node_connections.specs.Hearing.{AreWired, Breaks, Comes, HasCome, Pulls}
use Rattle.node_connections.specs.LinkSights.{link_at, link_sight}
use Rattle.node_connections.specs.Ports.{AtBoth}
use Rattle.node_connections.specs.Speaking.{Follows, is_left, OffersIf, OffersLine, PortSpeaks, PushesOut}

module _ {P : Type 0} (gave took : P → Option (List ℕ)) (counts : P → Counts) (old new : NodePort P) where
  pulls-nothing : (r : Ranges) (link : SocketLink P) → PullsOn r gave [] link link
  pulls-nothing r link start frames was = subst (λ xs. IsPulled r gave start xs link) (sym (append-nil frames)) was

  pushes-nothing : (link : SocketLink P) → PushesOn took [] link link
  pushes-nothing link lines was = subst (λ xs. IsPushed took xs link) (sym (append-nil lines)) was

  -- ---- what a port says

  module _ (loose : old.link.pipe ≡ None) where
    -- a port without a connection, to which nothing is left to write, stays
    pushes-loose : unsent old.link ≡ [] → old.is_stuck ≡ false → PushesOut gave took counts old old
    pushes-loose written free = record {
      came = flow.Done;
      pushed = (pushes-nothing old.link, (λ r. pulls-nothing r old.link), written, refl);
      loose = λ e. refl;
      stuck = free;
      greeting = refl;
    }

    -- and is not stuck then
    pushes_not-stuck : new.is_stuck ≡ true → ¬ PushesOut gave took counts old new
    pushes_not-stuck stuck p = grind (arith, stuck, p.stuck, ap (λ came. is_left came) (p.loose loose))

    -- it accepts no line
    offers-loose : (line : List ℕ) → OffersLine gave took counts line old old false
    offers-loose line = record { answer = offer.Loose; accepted = old; offered = (loose, refl); stuck = refl; greeting = refl; follows = (refl, refl) }

    no-offer : (line : List ℕ) (a : Offer) (accepted : NodePort P) → Offered line old.link accepted.link a → Follows gave took counts a accepted new true → ⊥
    no-offer line offer.Taken accepted o f = grind (arith, loose, o.3)
    no-offer line offer.Busy accepted o f = (let e : ◌≡◌ {A = Bool} true false = f.1 in absurd cc)
    no-offer line offer.Loose accepted o f = (let e : ◌≡◌ {A = Bool} true false = f.1 in absurd cc)

    offers_not-taken : (line : List ℕ) → ¬ OffersLine gave took counts line old new true
    offers_not-taken line o = no-offer line o.answer o.accepted o.offered o.follows

    pub silent : (line : List ℕ) → unsent old.link ≡ [] → old.is_stuck ≡ false → PortSpeaks gave took counts line false old old false
    silent line written free = record { pushed = old; pushes = pushes-loose written free; offers = (refl, refl) }

    -- nothing comes on it
    come_not-loose : (r : Ranges) (f : Frame) → ¬ HasCome r gave took (f ∷ []) old.link new.link
    come_not-loose r f h = (let e : ◌≡◌ {A = List Frame} (f ∷ []) [] = h.loose loose in absurd cc)

    pulls_not-loose : (r : Ranges) (f : Frame) → ¬ Pulls r gave took counts (f ∷ []) old new
    pulls_not-loose r f p = (let e : ◌≡◌ {A = List Frame} (f ∷ []) [] = p.comes.come.loose loose in absurd cc)

    link-down : link_sight old ≡ record { is_up = false; made = old.made }
    link-down = rw loose refl

  offers_not-unasked : (line : List ℕ) → ¬ OffersIf gave took counts false line old new true
  offers_not-unasked line o = (let e : ◌≡◌ {A = Bool} true false = o.1 in absurd cc)

  speaks_not-unasked : (line : List ℕ) → ¬ PortSpeaks gave took counts line false old new true
  speaks_not-unasked line s = (let e : ◌≡◌ {A = Bool} true false = s.offers.1 in absurd cc)

  -- ---- what a port hears

  come-nothing : (r : Ranges) → HasCome r gave took [] old.link old.link
  come-nothing r = record { pulled = pulls-nothing r old.link; pushed = pushes-nothing old.link; stands = refl; loose = λ e. refl }

  pub comes-nothing : (r : Ranges) → Comes r gave took [] old old
  comes-nothing r = record { come = come-nothing r; rest = (refl, refl) }

  comes_not-stuck : (r : Ranges) (fs : List Frame) → old.is_stuck ≡ false → new.is_stuck ≡ true → ¬ Comes r gave took fs old new
  comes_not-stuck r fs before after c = grind (arith, before, after, c.rest.1)

  pulls-none : (r : Ranges) → Pulls r gave took counts [] old old
  pulls-none r = record { last = old; comes = comes-nothing r; ends = inl refl }

  -- a port that still has a pipe has not broken
  breaks_not-standing : (p q : P) → old.link.pipe ≡ Some p → new.link.pipe ≡ Some q → ¬ Breaks counts old new
  breaks_not-standing p q was is b = (let broken = rw was at b.0 in grind (arith, is, broken.1))

  link-none : link_at {P = P} None ≡ None
  link-none = refl

  link-up : (p : P) → old.link.pipe ≡ Some p → old.made ≡ 2 → link_at (Some old) ≡ Some (record { is_up = true; made = 2 })
  link-up p pipe made = rw (pipe, made) refl

  pub both-lost : (R S : NodePort P → NodePort P → Type 0) (x : Option (NodePort P)) → AtBoth R (Some old) x → AtBoth S x None → ⊥
  both-lost R S None f g = f
  both-lost R S (Some p) f g = g

  -- ---- all ports

  wired-none : AreWired {P = P} [] []
  wired-none w = tt

  wired_not-gone : ¬ AreWired (old ∷ []) []
  wired_not-gone w = w 0

module _ {P : Type 0} (took : P → Option (List ℕ)) (old new : Greeting P) (before : took old.pipe ≡ Some []) (none : old.sent ≡ 0) (two : new.sent ≡ 2) where
  -- a hello goes out byte by byte
  greets-two : took new.pipe ≡ Some (codes "H0") → Greets took (codes "H0001\n") old (greeted.Later new)
  greets-two after = (omega (arith, none, two), rw (before, after, none, two) refl)

  greets_not-other : took new.pipe ≡ Some (codes "H1") → ¬ Greets took (codes "H0001\n") old (greeted.Later new)
  greets_not-other after g = (let e : ◌≡◌ {A = Option (List ℕ)} (Some (codes "H1")) (Some (codes "H0")) = rw (before, after, none, two) at g.1 in grind (arith, e))

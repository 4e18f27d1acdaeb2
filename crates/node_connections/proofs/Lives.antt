-- Clients that live on, one call after the other.
use Rattle.std.proofs.Common.{◌≡◌, ◌≢◌, ◌∙◌, ◌&&◌, ◌==◌, not, ℕ, true, false, List, Option, None, Some, refl, sym, subst, ap, inl, inr, arith, []}
use Rattle.std.specs.Prelude.{is_some, IsSome}
use Rattle.std.proofs.lemmas.Grind.{common_steps}
use Rattle.std.proofs.lemmas.Bool.{both_ways, cases_Bool, cases_eq}
use Rattle.std.proofs.lemmas.Bool.Decides.{nat_tests}
use Rattle.slab.specs.Slab.{Slab, get, with_value}
use Rattle.slab.proofs.SlabLemmas.{Updates-with_value}
use Rattle.socket_links.specs.Counts.{Counts}
use Rattle.socket_links.specs.declared.pipe.ReadAnswer.TheVariants as read
use Rattle.node_connections.specs.declared.clients.Client.{Client}
use Rattle.node_connections.specs.declared.clients.Clients.{Clients}
use Rattle.node_connections.specs.Clients.{answers_of, is_connected}
use Rattle.node_connections.specs.Heard.{HasNewReader}
use Rattle.node_connections.specs.Lives.{Lives, Stays, Gave, Gives_later, Then, LivesAt, LiveOn, ReadsAt, OthersStay, Admits, StillLive, FailsAt}

pub nobody : {X : Type 0} (x : Option X) → is_some x ≡ false → x ≡ None
nobody None e = refl
nobody (Some c) e = grind (arith, e)

pub there : {P : Type 0} (s : Slab (Client P)) (k : ℕ) (old : Client P) → Some old ≡ get s k → IsSome (get s k)
there s k old e = subst (λ x. IsSome x) e refl

module _ {P : Type 0} (gave took : P → Option (List ℕ)) (counts : P → Counts) where
  pub stays-at : (x : Option (Client P)) → LivesAt gave took counts x x
  stays-at None = tt
  stays-at (Some c) = Stays

  pub same-at : (x y : Option (Client P)) → y ≡ x → LivesAt gave took counts x y
  same-at x y e = subst (λ z. LivesAt gave took counts x z) (sym e) (stays-at x)

  pub gone-at : (x y : Option (Client P)) → y ≡ None → LivesAt gave took counts x y
  gone-at x y e = subst (λ z. LivesAt gave took counts x z) (sym e) tt

  pub join-at : (x y z : Option (Client P)) → LivesAt gave took counts x y → LivesAt gave took counts y z → LivesAt gave took counts x z
  join-at x y None f g = tt
  join-at x None (Some c) f g = elim g [ ]
  join-at None (Some b) (Some c) f g = elim f [ ]
  join-at (Some a) (Some b) (Some c) f g = Then f g

  -- a client that gave bytes, or none now
  pub got-at : (n : ℕ) (bytes : List ℕ) (x y : Option (Client P)) → ReadsAt gave took counts (read.Got n) bytes x y → LivesAt gave took counts x y
  got-at n bytes None y f = gone-at None y f.0
  got-at n bytes (Some a) None f = tt
  got-at n bytes (Some a) (Some b) (f, same) = Gave n bytes f same

  pub later-at : (bytes : List ℕ) (x y : Option (Client P)) → ReadsAt gave took counts read.Later bytes x y → LivesAt gave took counts x y
  later-at bytes None y f = gone-at None y f.0
  later-at bytes (Some a) None f = tt
  later-at bytes (Some a) (Some b) (f, same) = Gives_later bytes f same

  -- a client whose pipe lives on is written back to its place
  pub touched-here : (s : Slab (Client P)) (k : ℕ) (old new : Client P) → Some old ≡ get s k → Lives gave took counts old.pipe new.pipe
      → LivesAt gave took counts (get s k) (get (with_value s k new) k)
  touched-here s k old new e l =
      let changed : get (with_value s k new) k ≡ Some new = (Updates-with_value s k new (there s k old e)).changed in
      subst (λ x. LivesAt gave took counts x (get (with_value s k new) k)) e (subst (λ y. LivesAt gave took counts (Some old) y) (sym changed) l)

  pub touched-at : (s : Slab (Client P)) (k : ℕ) (old new : Client P) → Some old ≡ get s k → Lives gave took counts old.pipe new.pipe
      → (t : ℕ) → LivesAt gave took counts (get s t) (get (with_value s k new) t)
  touched-at s k old new e l t =
      elim (cases_eq t k) [
        | inl same ↦ subst (λ u. LivesAt gave took counts (get s u) (get (with_value s k new) u)) (sym same) (touched-here s k old new e l)
        | inr other ↦ same-at (get s t) (get (with_value s k new) t) ((Updates-with_value s k new (there s k old e)).others t other)
      ]

module _ {P A : Type 0} (gave took : P → Option (List ℕ)) (counts : P → Counts) where
  pub stay : (old new : Clients P A) → new.table ≡ old.table → LiveOn gave took counts old new
  stay old new e t = same-at gave took counts (get old.table t) (get new.table t) (ap (λ table. get table t) e)

  pub live-join : (a b c : Clients P A) → LiveOn gave took counts a b → LiveOn gave took counts b c → LiveOn gave took counts a c
  live-join a b c f g t = join-at gave took counts (get a.table t) (get b.table t) (get c.table t) (f t) (g t)

  -- it is enough to look at the one ticket that was touched
  pub live-one : (k : ℕ) (old new : Clients P A) → OthersStay k old new → LivesAt gave took counts (get old.table k) (get new.table k) → LiveOn gave took counts old new
  live-one k old new others at t =
      elim (cases_eq t k) [
        | inl same ↦ subst (λ u. LivesAt gave took counts (get old.table u) (get new.table u)) (sym same) at
        | inr other ↦ same-at gave took counts (get old.table t) (get new.table t) (others t other)
      ]

  -- and nothing at one that is gone
  pub live-gone : (k : ℕ) (old new : Clients P A) → OthersStay k old new → is_connected new k ≡ false → LiveOn gave took counts old new
  live-gone k old new others gone = live-one k old new others (gone-at gave took counts (get old.table k) (get new.table k) (nobody (get new.table k) gone))

module _ {P A : Type 0} where
  pub others-join : (k : ℕ) (a b c : Clients P A) → OthersStay k a b → OthersStay k b c → OthersStay k a c
  others-join k a b c f g t other = g t other ∙ f t other

module _ {P A : Type 0} where
  -- a ticket that was closed
  pub closed-gone : (k : ℕ) (old new : Clients P A) → ((t : ℕ) → is_connected new t ≡ (is_connected old t && not (t == k))) → is_connected new k ≡ false
  closed-gone k old new closed = grind (arith, common_steps, nat_tests, closed k)

module _ {P A : Type 0} where
  -- nobody came
  pub admits-none : (clients : Clients P A) → Admits clients clients
  admits-none clients t = (λ was. (refl, refl), λ n y. absurd (both_ways (is_connected clients t) n y))

  connected-still : (a b : Clients P A) (t : ℕ) → Admits a b → is_connected a t ≡ true → is_connected b t ≡ true
  connected-still a b t f was = ap (λ x. is_some x) ((f t).0 was).0 ∙ was

  -- some came, and then some more
  pub admits-join : (a b c : Clients P A) → Admits a b → Admits b c → Admits a c
  admits-join a b c f g t = (
    λ was. (let more = (g t).0 (connected-still a b t f was) in let first = (f t).0 was in (more.0 ∙ first.0, more.1 ∙ first.1)),
    λ n y.
        elim (cases_Bool (is_connected b t)) [
          | inl there ↦ (
            ((g t).0 there).1 ∙ ((f t).1 n there).0,
            subst (λ x. HasNewReader x) (sym ((g t).0 there).0) ((f t).1 n there).1,
          )
          | inr none ↦ (g t).1 none y
        ],
  )

  -- one client came, to a ticket that was free
  pub admits-one : (k : ℕ) (old new : Clients P A) → is_connected old k ≡ false → ((t : ℕ) → t ≢ k → (get new.table t ≡ get old.table t) × (answers_of new t ≡ answers_of old t))
      → (is_connected new k ≡ true → answers_of new k ≡ []) → (is_connected new k ≡ true → HasNewReader (get new.table k)) → Admits old new
  admits-one k old new free others silent fresh t =
      elim (cases_eq t k) [
        | inl same ↦ (
          λ was. absurd (both_ways (is_connected old t) (subst (λ u. is_connected old u ≡ false) (sym same) free) was),
          λ n y. (
            subst (λ u. is_connected new u ≡ true → answers_of new u ≡ []) (sym same) silent y,
            subst (λ u. is_connected new u ≡ true → HasNewReader (get new.table u)) (sym same) fresh y,
          ),
        )
        | inr other ↦ (
          λ was. others t other,
          λ n y. absurd (both_ways (is_connected new t) (ap (λ x. is_some x) (others t other).0 ∙ n) y),
        )
      ]

module _ {P A : Type 0} (gave took : P → Option (List ℕ)) (counts : P → Counts) where
  -- some came, and all that are there live on
  pub still-live : (a b c : Clients P A) → Admits a b → LiveOn gave took counts b c → StillLive gave took counts a c
  still-live a b c f g t was = subst (λ x. LivesAt gave took counts x (get c.table t)) ((f t).0 was).0 (g t)

  pub still-join : (a b c : Clients P A) → StillLive gave took counts a b → LiveOn gave took counts b c → StillLive gave took counts a c
  still-join a b c f g t was = join-at gave took counts (get a.table t) (get b.table t) (get c.table t) (f t was) (g t)

-- a client to which a write failed is written back to its place
pub failed-here : {P : Type 0} (gave took : P → Option (List ℕ)) (counts : P → Counts) (s : Slab (Client P)) (k : ℕ) (old new : Client P) → Some old ≡ get s k → FailsAt gave took counts (Some old) (Some new)
    → FailsAt gave took counts (get s k) (get (with_value s k new) k)
failed-here gave took counts s k old new e fails =
    let changed : get (with_value s k new) k ≡ Some new = (Updates-with_value s k new (subst (λ x. IsSome x) e refl)).changed in
    subst (λ x. FailsAt gave took counts x (get (with_value s k new) k)) e (subst (λ y. FailsAt gave took counts (Some old) y) (sym changed) fails)

-- Small examples of what is said to clients, and some that look like them and are not.
use Rattle.std.proofs.Common.{◌≡◌, ◌≢◌, ◌∙◌, ℕ, true, List, ◌∷◌, ◌++◌, Option, None, Some, codes, refl, sym, subst, ap, inl, inr, arith, []}
use Rattle.std.specs.Prelude.{option_map}
use Rattle.std.proofs.lemmas.Grind.{common_steps}
use Rattle.byte_streams.specs.Streams.{Rose}
use Rattle.slab.specs.Slab.{get}
use Rattle.socket_links.specs.Counts.{Counts}
use Rattle.socket_links.specs.Pipes.{GoesOn}
use Rattle.node_connections.specs.declared.clients.Client.{Client}
use Rattle.node_connections.specs.declared.clients.Clients.{Clients}
use Rattle.node_connections.specs.Clients.{answers_of, is_connected, Reports}
use Rattle.node_connections.specs.Lives.{GoesOutAt}
use Rattle.node_connections.specs.Said.{IsSaid, NothingSaid, said, SaidAt, WritesOut}
use Rattle.node_connections.proofs.Served.{ends-same}
use Rattle.node_connections.proofs.GoingOut.{out-nothing}
use Rattle.node_connections.proofs.Heard.{unheard-same}
use Rattle.node_connections.proofs.Lives.{stay}
use Rattle.node_connections.proofs.Saying.{nothing-same}

abbrev bytes-of : Option (List ℕ) → List ℕ
bytes-of None = []
bytes-of (Some bytes) = bytes

-- a client to which nothing was said did not hear that
pub not-nothing : (more : List ℕ) (x : ℕ) (xs : List ℕ) → more ++ (x ∷ xs) ≡ [] → ⊥
not-nothing [] x xs e = absurd cc
not-nothing (y ∷ more) x xs e = absurd cc

module _ {P : Type 0} (took : P → Option (List ℕ)) (a b : Client P) (before : took a.pipe ≡ Some []) where
  says-waiting : said took a (codes "lost\n") ≡ Some (codes "lost\n")
  says-waiting = rw before refl

  -- a part of what waited went out, and the rest waits
  said-part : took b.pipe ≡ Some (codes "lo") → SaidAt took [] (Some a) (codes "lost\n") (Some b) (codes "st\n")
  said-part after = rw (before, after) refl

  -- nothing of it is dropped, and nothing goes out twice
  said_not-dropped : took b.pipe ≡ Some [] → ¬ SaidAt took [] (Some a) (codes "lost\n") (Some b) []
  said_not-dropped after s = (let e : ◌≡◌ {A = Option (List ℕ)} (Some []) (Some (codes "lost\n")) = rw (before, after) at s in grind (arith, e))

  said_not-twice : took b.pipe ≡ Some (codes "lo") → ¬ SaidAt took [] (Some a) (codes "lost\n") (Some b) (codes "lost\n")
  said_not-twice after s = (let e : ◌≡◌ {A = Option (List ℕ)} (Some (codes "lolost\n")) (Some (codes "lost\n")) = rw (before, after) at s in grind (arith, e))

  -- nobody comes
  said_not-newcomer : ¬ SaidAt took [] None [] (Some b) []
  said_not-newcomer s = s

-- if both took nothing, what waits now is what was said
plain-said : {P : Type 0} (took : P → Option (List ℕ)) (a b : Client P) (more waits : List ℕ) → took a.pipe ≡ Some [] → took b.pipe ≡ Some [] → SaidAt took more (Some a) [] (Some b) waits → waits ≡ more
plain-said took a b more waits before after f =
    let g = subst (λ o. GoesOn more (option_map (λ bytes. bytes ++ []) o) (option_map (λ bytes. bytes ++ waits) (took b.pipe))) before f in
    let e : ◌≡◌ {A = Option (List ℕ)} (Some waits) (Some more) = subst (λ o. GoesOn more (Some []) (option_map (λ bytes. bytes ++ waits) o)) after g in ap bytes-of e

module _ {P A : Type 0} (old new : Clients P A) where
  -- the text waits, and nothing changes for any other client
  reports-lost : answers_of old 3 ≡ [] → answers_of new 3 ≡ codes "lost\n" → new.table ≡ old.table → ((t : ℕ) → t ≢ 3 → answers_of new t ≡ answers_of old t) → Reports (codes "lost\n") 3 old new
  reports-lost before after table others = (inl (rw (before, after) refl, ap (λ x. get x 3) table), λ t o. (others t o, ap (λ x. get x t) table))

  reports_not-silent : answers_of old 3 ≡ [] → answers_of new 3 ≡ [] → is_connected new 3 ≡ true → ¬ Reports (codes "lost\n") 3 old new
  reports_not-silent before after there (inl reported, others) = grind (arith, common_steps, before, after, reported.0)
  reports_not-silent before after there (inr closed, others) = grind (arith, there, closed.1)

  reports_not-elsewhere : get old.table 4 ≡ None → is_connected new 4 ≡ true → ¬ Reports (codes "lost\n") 3 old new
  reports_not-elsewhere before after (_, others) = grind (arith, common_steps, before, after, (others 4 (λ e. omega (arith, e))).1)

rose_not-same : ¬ Rose 5 5
rose_not-same (inl more) = omega (arith, more)
rose_not-same (inr most) = grind (arith, most)

module _ {P A : Type 0} (gave took : P → Option (List ℕ)) (counts : P → Counts) (old new : Clients P A) (a b : Client P) where
  pub nothing-still : NothingSaid took old old
  nothing-still = nothing-same took old old refl refl

  -- nothing waits for anybody
  abbrev NoneWaits : Clients P A → Type 0
  NoneWaits clients = (t : ℕ) → answers_of clients t ≡ []

  pub writes-nothing : (clients : Clients P A) → NoneWaits clients → WritesOut gave took counts clients clients
  writes-nothing clients none = record {
    lives = stay gave took counts clients clients refl;
    hears_nothing = unheard-same gave clients clients refl;
    says_nothing = nothing-same took clients clients refl refl;
    goes_out = λ t. out-nothing counts (get clients.table t) (get clients.table t) (answers_of clients t) (answers_of clients t) (none t);
    ends = ends-same gave took counts clients clients (λ t. refl);
  }

  -- an answer of which a part goes out, and one that a full pipe does not take
  out-part : GoesOutAt counts (Some a) (codes "lost\n") (Some b) (codes "st\n")
  out-part = inr (inl (omega arith))

  out-full : (counts a.pipe).later ≡ 4 → (counts b.pipe).later ≡ 5 → GoesOutAt counts (Some a) (codes "x") (Some b) (codes "x")
  out-full was is = inr (inr (inl (omega (arith, was, is))))

  -- one to which nobody wrote
  out_not-left : (counts a.pipe).later ≡ 5 → ¬ GoesOutAt counts (Some a) (codes "x") (Some a) (codes "x")
  out_not-left five (inl none) = absurd cc
  out_not-left five (inr (inl less)) = omega (arith, less)
  out_not-left five (inr (inr rose)) = rose_not-same (subst (λ n. Rose n n) five rose)

  writes_not-left : get old.table 3 ≡ Some a → answers_of old 3 ≡ codes "x" → (counts a.pipe).later ≡ 5 → ¬ WritesOut gave took counts old old
  writes_not-left there waits five writes =
      let out = writes.goes_out 3 in
      let here = subst (λ xs. GoesOutAt counts (get old.table 3) xs (get old.table 3) xs) waits out in
      out_not-left five (subst (λ x. GoesOutAt counts x (codes "x") x (codes "x")) there here)

  module _ (was : get old.table 3 ≡ Some a) (is : get new.table 3 ≡ Some b) (before : took a.pipe ≡ Some []) (after : took b.pipe ≡ Some []) (waits : answers_of old 3 ≡ []) where
    -- what waits now is what was said
    pub waits-said : (more : List ℕ) → IsSaid took more 3 old new → answers_of new 3 ≡ more
    waits-said more s =
        let f = subst (λ x. SaidAt took more x (answers_of old 3) (get new.table 3) (answers_of new 3)) was s in
        let g = subst (λ y. SaidAt took more (Some a) (answers_of old 3) y (answers_of new 3)) is f in
        let h = subst (λ xs. SaidAt took more (Some a) xs (Some b) (answers_of new 3)) waits g in plain-said took a b more (answers_of new 3) before after h

    -- nothing is said unasked
    nothing_not-said : answers_of new 3 ≡ codes "x" → ¬ NothingSaid took old new
    nothing_not-said text s = (let e : ◌≡◌ {A = List ℕ} (codes "x") [] = sym text ∙ waits-said [] (s 3) in absurd cc)

-- Small examples of clients that are closed, and some that look like them and are not.
use Rattle.std.proofs.Common.{◌≡◌, ◌≢◌, ◌⊎◌, ◌<◌, ◌∙◌, ℕ, List, ◌∷◌, ◌++◌, Option, None, Some, codes, length, refl, sym, subst, inl, inr, arith, []}
use Rattle.std.proofs.lemmas.List.{length-append}
use Rattle.byte_streams.specs.Streams.{Rose}
use Rattle.slab.specs.Slab.{get}
use Rattle.lock_desk.specs.declared.client_line.ClientLine.{ClientLine}
use Rattle.lock_desk.specs.declared.client_line.ClientLine.TheVariants.{Lock, Status}
use Rattle.socket_links.specs.Counts.{Counts}
use Rattle.socket_links.specs.declared.pipe.ReadAnswer.TheVariants as read
use Rattle.node_connections.specs.declared.clients.Client.{Client}
use Rattle.node_connections.specs.declared.clients.Clients.{Clients}
use Rattle.node_connections.specs.Clients.{answers_of}
use Rattle.node_connections.specs.Ends.{EndsAt, EndsByWrite, EndsWithin, Fares, HasNoRoom, IsGone, IsOfGone, SaysGone}
use Rattle.node_connections.specs.Heard.{HasNewReader, HeardAt}
use Rattle.node_connections.specs.Lives.{Admits, FailsAt, Lives, Stays}
use Rattle.node_connections.specs.Said.{IsServed, IsServedAlone, WritesOut}
use Rattle.node_connections.proofs.Heard.{heard-same, unheard-same}
use Rattle.node_connections.proofs.Served.{served-alone-none, served-none}

not-rose : (n m : ℕ) → Rose n m → m ≡ 0 → ⊥
not-rose n m (inl more) none = omega (arith, more, none)
not-rose n m (inr most) none = grind (arith, most, none)

front-none : (xs ys : List ℕ) → xs ++ ys ≡ [] → xs ≡ []
front-none [] ys none = refl
front-none (x ∷ xs) ys none = absurd cc

nothing-or : {X : Type 0} (x : Option X) → (x ≡ None) ⊎ ((y : X) × (x ≡ Some y))
nothing-or None = inl refl
nothing-or (Some y) = inr (y, refl)

of-gone : IsOfGone read.Closed
of-gone = tt

gone_not-later : ¬ IsOfGone read.Later
gone_not-later f = f

module _ {P : Type 0} (gave took : P → Option (List ℕ)) (counts : P → Counts) (a b : Client P) where
  -- a read that says Closed, and a client that said nothing before it
  says-closed : gave b.pipe ≡ gave a.pipe → took b.pipe ≡ took a.pipe → counts a.pipe ≡ (record { later = 2; closed = 0; failed = 0 }) → counts b.pipe ≡ (record { later = 2; closed = 1; failed = 0 })
      → SaysGone gave took counts a.pipe
  says-closed gives takes before after =
      (b.pipe, read.Closed, [], tt, (gives, rw (before, after) (omega arith, omega arith, omega arith), rw (before, after) (inl (omega arith))), takes)

  gone-closed : SaysGone gave took counts a.pipe → IsGone gave took counts a []
  gone-closed says = record {
    last = a;
    bytes = [];
    lives = Stays;
    heard = heard-same gave (Some a) (Some a) refl;
    gone = says;
  }

  ends-gone : IsGone gave took counts a [] → EndsAt gave took counts (Some a) (codes "lost\n") None (codes "lost\n") [] []
  ends-gone gone = inl gone

  -- it had no lines that it did not say
  gone_not-unsaid : HasNewReader (Some a) → (gone : IsGone gave took counts a (Lock ∷ [])) → gone.bytes ≢ []
  gone_not-unsaid new gone none =
      let heard : HeardAt gave [] [] (Lock ∷ []) (Some a) (Some gone.last) = subst (λ bytes. HeardAt gave bytes bytes (Lock ∷ []) (Some a) (Some gone.last)) none gone.heard in
      let e : ◌≡◌ {A = List ClientLine} (Lock ∷ []) [] = sym (heard.1 [] new).1 in absurd cc

  -- of 256 bytes 250 wait, and `stranger` has no room
  no-room : (given front rest waited : List ℕ) (lines : List ClientLine) → Lives gave took counts a.pipe b.pipe → HeardAt gave given front lines (Some a) (Some b) → length waited ≡ 250
      → HasNoRoom gave took counts given (front ++ rest) a waited lines (codes "stranger\n")
  no-room given front rest waited lines lives heard long = record {
    last = b;
    front = front;
    rest = rest;
    lives = lives;
    heard = heard;
    bytes_are = refl;
    no_room = (let all = length-append waited (codes "stranger\n") in omega (arith, all, long));
  }

  -- after 240 it has
  room_not-full : (given bytes waited : List ℕ) (lines : List ClientLine) → length waited ≡ 240 → ¬ HasNoRoom gave took counts given bytes a waited lines (codes "stranger\n")
  room_not-full given bytes waited lines long f =
      let less = f.no_room in
      let all = length-append waited (codes "stranger\n") in omega (arith, less, all, long)

  -- its reader reads no line in no bytes
  room_not-unread : (given waited answers : List ℕ) → HasNewReader (Some a) → ¬ HasNoRoom gave took counts given [] a waited (Status ∷ []) answers
  room_not-unread given waited answers new f =
      let heard : HeardAt gave given [] (Status ∷ []) (Some a) (Some f.last) = subst (λ front. HeardAt gave given front (Status ∷ []) (Some a) (Some f.last)) (front-none f.front f.rest (sym f.bytes_are)) f.heard in
      let e : ◌≡◌ {A = List ClientLine} (Status ∷ []) [] = sym (heard.1 [] new).1 in absurd cc

  -- one that is there has its answer waiting
  ends-waits : EndsAt gave took counts (Some a) (codes "lost\n") (Some b) (codes "lost\nfull\n") (Lock ∷ []) (codes "full\n")
  ends-waits = refl

  ends_not-dropped : ¬ EndsAt gave took counts (Some a) (codes "lost\n") (Some b) (codes "full\n") (Lock ∷ []) (codes "full\n")
  ends_not-dropped e = absurd cc

  ends_not-nobody : ¬ EndsAt gave took counts None [] None [] (Lock ∷ []) []
  ends_not-nobody f = (let e = f.0 in absurd cc)

  within-waits : EndsWithin gave took counts (codes "lock\n") (Some a) [] (Some b) (codes "full\n") (Lock ∷ []) (codes "full\n")
  within-waits = refl

  -- one that still has room is not closed when its bytes are served
  within_not-closed : (bytes : List ℕ) → ¬ EndsWithin gave took counts bytes (Some a) [] None [] (Lock ∷ []) (codes "full\n")
  within_not-closed bytes f = (let less : 256 < 5 = f.no_room in omega (arith, less))

  fares-closed : Fares (λ client. client ≡ a) (Some a) [] None [] [] []
  fares-closed = refl

  fares_not-newcomer : ¬ Fares (λ client. client ≡ a) None [] (Some a) [] [] []
  fares_not-newcomer f = f

  write-fails : FailsAt gave took counts (Some a) (Some b) → EndsByWrite gave took counts (Some a) None
  write-fails fails = (a, b, Stays, fails)

  -- pipes that never close or fail
  module _ (sound : (p : P) → ((counts p).closed ≡ 0) × ((counts p).failed ≡ 0)) where
    says_not-gone : (p : P) → ¬ SaysGone gave took counts p
    says_not-gone p (q, read.Got n, bytes, gone, reads, same) = gone
    says_not-gone p (q, read.Later, bytes, gone, reads, same) = gone
    says_not-gone p (q, read.Closed, bytes, gone, reads, same) = not-rose (counts p).closed (counts q).closed reads.2 (sound q).0
    says_not-gone p (q, read.Failed, bytes, gone, reads, same) = not-rose (counts p).failed (counts q).failed reads.2 (sound q).1

    gone_not-sound : (lines : List ClientLine) → ¬ IsGone gave took counts a lines
    gone_not-sound lines gone = says_not-gone gone.last.pipe gone.gone

    -- a client that has nothing to say is not closed
    pub ends_not-quiet : (waits : List ℕ) → ¬ EndsAt gave took counts (Some a) [] None waits [] []
    ends_not-quiet waits (inl gone) = gone_not-sound [] gone
    ends_not-quiet waits (inr (bytes, f)) = (let less : 256 < 0 = f.no_room in omega (arith, less))

    write_not-sound : ¬ EndsByWrite gave took counts (Some a) None
    write_not-sound (last, failed, lives, (bytes, f, gives)) = not-rose (counts last.pipe).failed (counts failed.pipe).failed f.2 (sound failed.pipe).1

module _ {P A : Type 0} (gave took : P → Option (List ℕ)) (counts : P → Counts) (old new : Clients P A) (a b : Client P) where
  served-nothing : (t : ℕ) → IsServed gave took counts old old t [] []
  served-nothing = served-none gave took counts old old (unheard-same gave old old refl) (λ t. refl) refl

  served-nothing-alone : (t : ℕ) → IsServedAlone gave took counts old old 3 [] t [] []
  served-nothing-alone = served-alone-none gave took counts 3 old

  module _ (was : get old.table 3 ≡ Some a) (is : get new.table 3 ≡ None) (waits : answers_of old 3 ≡ []) where
    -- nobody is closed while its bytes are served, if it has room
    served_not-alone : (bytes : List ℕ) → ¬ IsServedAlone gave took counts old new 3 bytes 3 (Lock ∷ []) (codes "full\n")
    served_not-alone bytes f =
        let ends : EndsWithin gave took counts bytes (get old.table 3) (answers_of old 3) (get new.table 3) (answers_of new 3) (Lock ∷ []) (codes "full\n") = f.1 refl in
        let here : EndsWithin gave took counts bytes (Some a) [] None (answers_of new 3) (Lock ∷ []) (codes "full\n") = rw (was, is, waits) at ends in
        within_not-closed gave took counts a b bytes here

    module _ (sound : (p : P) → ((counts p).closed ≡ 0) × ((counts p).failed ≡ 0)) where
      served_not-quiet : ¬ IsServed gave took counts old new 3 [] []
      served_not-quiet f =
          let ends : EndsAt gave took counts (get old.table 3) (answers_of old 3) (get new.table 3) (answers_of new 3) [] [] = f.1 in
          let here : EndsAt gave took counts (Some a) [] None (answers_of new 3) [] [] = rw (was, is, waits) at ends in
          ends_not-quiet gave took counts a b sound (answers_of new 3) here

      -- a client that says nothing, on a pipe that never closes or fails, is not closed when answers
      -- are written
      writes_not-closed : ¬ WritesOut gave took counts old new
      writes_not-closed f =
          let here : EndsByWrite gave took counts (Some a) None = rw (was, is) at (f.ends 3) in
          write_not-sound gave took counts a b sound here

      pub still-there : (c : Clients P A) → Admits old c → (get c.table 3 ≡ Some a) × (answers_of c 3 ≡ [])
      still-there c admits = (let same = (admits 3).0 (rw was refl) in (same.0 ∙ was, same.1 ∙ waits))

      pub not-written : (heard : Clients P A) → WritesOut gave took counts heard new → get heard.table 3 ≢ None → ⊥
      not-written heard f there =
          elim (nothing-or (get heard.table 3)) [
            | inl none ↦ there none
            | inr (c, some) ↦ (let here : EndsByWrite gave took counts (Some c) None = rw (some, is) at (f.ends 3) in write_not-sound gave took counts c b sound here)
          ]

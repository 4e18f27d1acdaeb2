-- Small examples of clients that live on, and some that look like them and do not.
use Rattle.std.proofs.Common.{◌≡◌, ◌≢◌, ◌<◌, ◌≤◌, ◌∙◌, ◌++◌, ◌∷◌, ℕ, zero, suc, Bool, true, false, List, Option, None, Some, codes, length, take, refl, sym, subst, ap, inl, inr, arith, []}
use Rattle.std.proofs.lemmas.Bool.{cases_eq}
use Rattle.byte_streams.specs.Streams.{Rose}
use Rattle.slab.specs.Slab.{get}
use Rattle.socket_links.specs.Counts.{Counts}
use Rattle.socket_links.specs.Pipes.{GoesOn}
use Rattle.socket_links.specs.declared.pipe.ReadAnswer.{ReadAnswer}
use Rattle.socket_links.specs.declared.pipe.ReadAnswer.TheVariants as read
use Rattle.node_connections.specs.declared.clients.Client.{Client}
use Rattle.node_connections.specs.declared.clients.Clients.{Clients}
use Rattle.node_connections.specs.Clients.{answers_of, SameClients}
use Rattle.node_connections.proofs.BeingRead.{read-here}
use Rattle.node_connections.proofs.GoingOut.{out-nothing}
use Rattle.node_connections.specs.Heard.{HasNewReader}
use Rattle.node_connections.specs.Lives.{AllGoOut, AllRead, FailsAt, GoesOutAt, IsOfLive, IsRead, IsReadAt, Lives, LivesThroughRead, Stays, Gave, Gives_later, Took, Takes_later, Then, LivesAt, LiveOn, ReadsAt, OthersStay, Admits, StillLive}

not-rose : (n m : ℕ) → Rose n m → m ≡ 0 → ⊥
not-rose n m (inl more) none = omega (arith, more, none)
not-rose n m (inr most) none = grind (arith, most, none)

-- a pipe that gave or took a byte gave or took one
not-grown : (xs : Option (List ℕ)) (n : ℕ) (bytes : List ℕ) → 0 < n → n ≤ length bytes → GoesOn (take n bytes) xs (Some []) → ⊥
not-grown None n bytes some within goes = absurd cc
not-grown (Some xs) zero bytes some within goes = omega (arith, some)
not-grown (Some xs) (suc n) [] some within goes = omega (arith, within)
not-grown (Some []) (suc n) (b ∷ bytes) some within goes = (let e : ◌≡◌ {A = Option (List ℕ)} (Some []) (Some (b ∷ take n bytes)) = goes in absurd cc)
not-grown (Some (x ∷ xs)) (suc n) (b ∷ bytes) some within goes =
    (let e : ◌≡◌ {A = Option (List ℕ)} (Some []) (Some (x ∷ (xs ++ (b ∷ take n bytes)))) = goes in absurd cc)

-- a pipe that has nothing now is open, and one that said that it closed is not
of-live : IsOfLive read.Later
of-live = tt

of_not-closed : ¬ IsOfLive read.Closed
of_not-closed live = live

module _ {P : Type 0} (gave took : P → Option (List ℕ)) (counts : P → Counts) where
  -- the pipe gave nothing, took nothing, and never said Later
  abbrev IsFresh : P → Type 0
  IsFresh p = (gave p ≡ Some []) × (took p ≡ Some []) × ((counts p).later ≡ 0)

  -- nobody wrote to such a pipe or read it
  fresh-stays : {p q : P} → Lives gave took counts p q → IsFresh q → q ≡ p
  fresh-stays Stays f = refl
  fresh-stays (Gave {p = p} n bytes r same) f = absurd (not-grown (gave p) n bytes r.0 r.1 (subst (λ x. GoesOn (take n bytes) (gave p) x) f.0 r.2))
  fresh-stays (Gives_later {p = p} {q = q} bytes r same) f = absurd (not-rose (counts p).later (counts q).later r.2 f.2)
  fresh-stays (Took {p = p} n bytes w same) f = absurd (not-grown (took p) n bytes w.0 w.1 (subst (λ x. GoesOn (take n bytes) (took p) x) f.1 w.2))
  fresh-stays (Takes_later {p = p} {q = q} bytes w same) f = absurd (not-rose (counts p).later (counts q).later w.2 f.2)
  fresh-stays (Then a b) f = (let e = fresh-stays b f in e ∙ fresh-stays a (subst (λ x. IsFresh x) e f))

  -- so one that failed does not live on
  lives_not-failed : (p q : P) → IsFresh q → (counts p).failed ≡ 0 → (counts q).failed ≡ 1 → ¬ Lives gave took counts p q
  lives_not-failed p q fresh before after lives =
      let e = fresh-stays lives fresh in
      let n : 1 ≡ 0 = sym after ∙ (ap (λ x. (counts x).failed) e ∙ before) in omega (arith, n)

  -- one that gave a byte does
  lives-reads : (p q : P) → gave p ≡ Some [] → gave q ≡ Some (codes "u") → took q ≡ took p → counts q ≡ counts p → Lives gave took counts p q
  lives-reads p q before after wrote same =
      Gave 1 (codes "u") (omega arith, omega arith, rw (before, after) refl, rw same (omega arith, omega arith, omega arith)) wrote

  at-gone : (c : Client P) → LivesAt gave took counts (Some c) None
  at-gone c = tt

  at_not-from-nowhere : (c : Client P) → ¬ LivesAt gave took counts None (Some c)
  at_not-from-nowhere c l = l

  reads-nobody : ReadsAt gave took counts read.Closed [] None None
  reads-nobody = (refl, refl)

  -- a client that gave a byte was read, and one that is closed need not have been
  read-got : (a b : Client P) → gave a.pipe ≡ Some [] → gave b.pipe ≡ Some (codes "u") → took b.pipe ≡ took a.pipe → counts b.pipe ≡ counts a.pipe
      → IsReadAt gave took counts (Some a) (Some b)
  read-got a b before after wrote same =
      read-here gave took counts (read.Got 1) (codes "u") (Some a) (Some b) tt ((omega arith, omega arith, rw (before, after) refl, rw same (omega arith, omega arith, omega arith)), wrote)

  read-closed : (a : Client P) → IsReadAt gave took counts (Some a) None
  read-closed a = tt

  unread : (p q : P) → IsRead gave took counts p q → IsFresh q → ⊥
  unread p q (read.Got n, bytes, live, reads, same) f = not-grown (gave p) n bytes reads.0 reads.1 (subst (λ x. GoesOn (take n bytes) (gave p) x) f.0 reads.2)
  unread p q (read.Later, bytes, live, reads, same) f = not-rose (counts p).later (counts q).later reads.2 f.2
  unread p q (read.Closed, bytes, live, reads, same) f = elim live [ ]
  unread p q (read.Failed, bytes, live, reads, same) f = elim live [ ]

  -- its pipe gave that byte in a read, and then was written to
  through-read : (p q r : P) → gave p ≡ Some [] → gave q ≡ Some (codes "u") → took q ≡ took p → counts q ≡ counts p
      → Lives gave took counts q r → LivesThroughRead gave took counts p r
  through-read p q r before after wrote same lives = record {
    before = p;
    after = q;
    lives = Stays;
    read = (
      read.Got 1,
      codes "u",
      tt,
      (omega arith, omega arith, rw (before, after) refl, rw same (omega arith, omega arith, omega arith)),
      wrote,
    );
    lives_on = lives;
  }

  -- one that gave nothing and said nothing was not read
  through_not-fresh : (p : P) → IsFresh p → ¬ LivesThroughRead gave took counts p p
  through_not-fresh p fresh lived =
      unread lived.before lived.after lived.read (subst (λ x. IsFresh x) (fresh-stays lived.lives_on fresh) fresh)

  -- nor was a client with such a pipe
  read_not-fresh : (a : Client P) → IsFresh a.pipe → ¬ IsReadAt gave took counts (Some a) (Some a)
  read_not-fresh a fresh lived = through_not-fresh a.pipe fresh lived

  reads_not-of-nobody : ¬ ReadsAt gave took counts (read.Got 1) (codes "u") None None
  reads_not-of-nobody r = (let e : ◌≡◌ {A = ReadAnswer} (read.Got 1) read.Closed = r.1 in absurd cc)

  -- a read that writes is not a read
  reads_not-writes : (a b : Client P) → took a.pipe ≡ Some [] → took b.pipe ≡ Some (codes "u") → ¬ ReadsAt gave took counts read.Later [] (Some a) (Some b)
  reads_not-writes a b before after r = grind (arith, before, after, r.1)

module _ {P : Type 0} (gave took : P → Option (List ℕ)) (counts : P → Counts) (a b : Client P) where
  fails-once : gave b.pipe ≡ gave a.pipe → took b.pipe ≡ took a.pipe → counts a.pipe ≡ (record { later = 2; closed = 0; failed = 0 }) → counts b.pipe ≡ (record { later = 2; closed = 0; failed = 1 })
      → FailsAt gave took counts (Some a) (Some b)
  fails-once gives takes before after = ([], (takes, rw (before, after) (omega arith, omega arith, omega arith), rw (before, after) (inl (omega arith))), gives)

  fails_not-still : (counts b.pipe).failed ≡ 0 → ¬ FailsAt gave took counts (Some a) (Some b)
  fails_not-still after (bytes, f, gives) = not-rose (counts a.pipe).failed (counts b.pipe).failed f.2 after

  -- a write that takes a byte does not fail
  fails_not-takes : took a.pipe ≡ Some [] → took b.pipe ≡ Some (codes "u") → ¬ FailsAt gave took counts (Some a) (Some b)
  fails_not-takes before after (bytes, f, gives) = (let e : ◌≡◌ {A = Option (List ℕ)} (Some (codes "u")) (Some []) = rw (before, after) at f.0 in absurd cc)

  fails_not-nobody : ¬ FailsAt gave took counts None (Some b)
  fails_not-nobody f = f

module _ {P A : Type 0} (gave took : P → Option (List ℕ)) (counts : P → Counts) (old new : Clients P A) (a b : Client P) (t : ℕ) where
  -- the entry of a client whose connection failed is not kept
  still_not-kept : get old.table t ≡ Some a → get new.table t ≡ Some b → IsFresh gave took counts b.pipe → (counts a.pipe).failed ≡ 0 → (counts b.pipe).failed ≡ 1
      → ¬ StillLive gave took counts old new
  still_not-kept was is fresh before after s =
      let lives : LivesAt gave took counts (Some a) (Some b) = rw (was, is) at (s t (rw was refl)) in
      lives_not-failed gave took counts a.pipe b.pipe fresh before after lives

  live_not-kept : get old.table t ≡ Some a → get new.table t ≡ Some b → IsFresh gave took counts b.pipe → (counts a.pipe).failed ≡ 0 → (counts b.pipe).failed ≡ 1
      → ¬ LiveOn gave took counts old new
  live_not-kept was is fresh before after l =
      let lives : LivesAt gave took counts (Some a) (Some b) = rw (was, is) at (l t) in
      lives_not-failed gave took counts a.pipe b.pipe fresh before after lives

  -- it is closed; and a client that came to a free ticket may be there
  still-closed : ((u : ℕ) → get new.table u ≡ None) → StillLive gave took counts old new
  still-closed gone u was = rw (gone u) tt

  still-came : ((u : ℕ) → get old.table u ≡ None) → StillLive gave took counts old new
  still-came none u was = (let e : ◌≡◌ {A = Bool} false true = rw (none u) at was in absurd cc)

  -- somebody comes to a ticket that is free, and nothing waits for it
  admits-free : ((u : ℕ) → get old.table u ≡ None) → ((u : ℕ) → answers_of new u ≡ []) → ((u : ℕ) → HasNewReader (get new.table u)) → Admits old new
  admits-free none silent fresh u = (λ was. (let e : ◌≡◌ {A = Bool} false true = rw (none u) at was in absurd cc), λ n y. (silent u, fresh u))

  -- not to one that is taken
  admits_not-taken : get old.table t ≡ Some a → get new.table t ≡ None → ¬ Admits old new
  admits_not-taken was is f = (let e : ◌≡◌ {A = Option (Client P)} None (Some a) = rw (was, is) at ((f t).0 (rw was refl)).0 in absurd cc)

  -- and nothing that was for an earlier client with that ticket waits for it
  admits_not-reported : get old.table t ≡ None → get new.table t ≡ Some b → answers_of new t ≡ codes "lost\n" → ¬ Admits old new
  admits_not-reported was is waits f = (let e : ◌≡◌ {A = List ℕ} (codes "lost\n") [] = rw waits at ((f t).1 (rw was refl) (rw is refl)).0 in absurd cc)

  others_not-changed : (u : ℕ) → t ≢ u → get old.table t ≡ Some a → get new.table t ≡ None → ¬ OthersStay u old new
  others_not-changed u other was is f = (let e : ◌≡◌ {A = Option (Client P)} None (Some a) = rw (was, is) at (f t other) in absurd cc)

  same_not-closed : get old.table t ≡ Some a → get new.table t ≡ None → ¬ SameClients old new
  same_not-closed was is f = (let e : ◌≡◌ {A = Bool} false true = rw (was, is) at (f t) in absurd cc)

  -- all clients are read if the only one gave a byte
  all-read : get old.table t ≡ Some a → get new.table t ≡ Some b → ((u : ℕ) → u ≢ t → get new.table u ≡ None)
      → gave a.pipe ≡ Some [] → gave b.pipe ≡ Some (codes "u") → took b.pipe ≡ took a.pipe → counts b.pipe ≡ counts a.pipe
      → AllRead gave took counts old new
  all-read was is alone before after wrote same u few =
      elim (cases_eq u t) [
        | inl e ↦ rw e (rw (was, is) (read-got gave took counts a b before after wrote same))
        | inr other ↦ rw (alone u other) tt
      ]

  -- not if one that is still there gave nothing and said nothing
  all_not-unread : t < 128 → get old.table t ≡ Some a → get new.table t ≡ Some a → IsFresh gave took counts a.pipe
      → ¬ AllRead gave took counts old new
  all_not-unread few was is fresh all =
      let here : IsReadAt gave took counts (Some a) (Some a) = rw (was, is) at (all t few) in
      read_not-fresh gave took counts a fresh here

  -- if nothing waits for anybody, there is nothing to go out
  out-nobody : ((u : ℕ) → answers_of old u ≡ []) → AllGoOut counts old new
  out-nobody silent u = out-nothing counts (get old.table u) (get new.table u) (answers_of old u) (answers_of new u) (silent u)

  -- an answer that waits on, for a client whose pipe never said Later, has not begun to go out
  here_not-waits_on : (counts b.pipe).later ≡ 0 → ¬ GoesOutAt counts (Some a) (codes "lost\n") (Some b) (codes "lost\n")
  here_not-waits_on never (inl none) = absurd cc
  here_not-waits_on never (inr (inl less)) = omega (arith, less)
  here_not-waits_on never (inr (inr rose)) = not-rose (counts a.pipe).later (counts b.pipe).later rose never

  out_not-waits_on : get old.table t ≡ Some a → get new.table t ≡ Some b → answers_of old t ≡ codes "lost\n"
      → answers_of new t ≡ codes "lost\n" → (counts b.pipe).later ≡ 0 → ¬ AllGoOut counts old new
  out_not-waits_on was is waited waits never out =
      at-once (get old.table t) (get new.table t) (answers_of old t) (answers_of new t) was is waited waits (out t)
    where
      at-once : (x y : Option (Client P)) (xs ys : List ℕ) → x ≡ Some a → y ≡ Some b → xs ≡ codes "lost\n"
          → ys ≡ codes "lost\n" → GoesOutAt counts x xs y ys → ⊥
      at-once x y xs ys was is waited waits out = here_not-waits_on never (rw (was, is, waited, waits) at out)

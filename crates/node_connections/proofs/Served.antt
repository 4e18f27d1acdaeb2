-- Clients that are served, one after the other: each that is closed has a cause.
use Rattle.std.proofs.Common.{◌≡◌, ◌≢◌, ◌⊎◌, ◌<◌, ◌∙◌, ℕ, true, false, List, ◌∷◌, ◌++◌, Option, None, length, refl, sym, subst, ap, inl, inr, arith, []}
use Rattle.std.specs.Prelude.{is_some}
use Rattle.std.proofs.lemmas.Bool.{both_ways, cases_eq, cases_lt}
use Rattle.std.proofs.lemmas.List.{length-append}
use Rattle.slab.specs.Slab.{get}
use Rattle.lock_desk.specs.declared.client_line.ClientLine.{ClientLine}
use Rattle.socket_links.specs.Counts.{Counts}
use Rattle.socket_links.specs.declared.pipe.ReadAnswer.{ReadAnswer}
use Rattle.node_connections.specs.declared.clients.Clients.{Clients}
use Rattle.node_connections.specs.Clients.{answers_of, is_connected, Reports, room_of, SameClients}
use Rattle.node_connections.specs.Ends.{EndsAt, EndsByWrite, EndsWithin, IsOfGone}
use Rattle.node_connections.specs.Heard.{HeardAt, NothingHeard}
use Rattle.node_connections.specs.Lives.{FailsAt, LiveOn, OthersStay, ReadsAt}
use Rattle.node_connections.specs.Said.{IsLineAlone, IsServed, IsServedAlone}
use Rattle.node_connections.proofs.Ends.{at-gone, at-join, at-silent, at-within, within-join, within-line, within-same, within-silent, write-failed, write-join, write-still}
use Rattle.node_connections.proofs.Heard.{others-unheard}
use Rattle.node_connections.proofs.Lives.{nobody}
use Rattle.node_connections.proofs.Saying.{answers-same}
use Rattle.node_connections.proofs.Serving.{alone-none, heard-all, heard-alone-join, heard-both, heard-byte, heard-line, heard-none}

module _ {P A : Type 0} where
  -- the ticket of a client is below 128
  few-there : (clients : Clients P A) (t : ℕ) → is_connected clients t ≡ true → t < 128
  few-there clients t there =
      elim (cases_lt t 128) [
        | inl less ↦ less
        | inr from ↦ absurd (let none = ap (λ x. is_some x) (clients.tickets t from) in both_ways (is_connected clients t) none there)
      ]

  -- there was no room for an answer after what waited
  no-room : (clients : Clients P A) (t : ℕ) (text : List ℕ) → t < 128 → (t < 128 → room_of clients t < length text) → 256 < length (answers_of clients t ++ text)
  no-room clients t text few less =
      let wide = clients.rooms t few in
      let full = less few in
      let long = length-append (answers_of clients t) text in omega (arith, wide, full, long)

  -- an answer waits, or there was no room for it
  answered-or-full : (t : ℕ) (text : List ℕ) (old new : Clients P A) → t < 128 → Reports text t old new
      → ((answers_of new t ≡ answers_of old t ++ text) × (get new.table t ≡ get old.table t)) ⊎ ((256 < length (answers_of old t ++ text)) × (get new.table t ≡ None))
  answered-or-full t text old new few (inl reported, others) = inl reported
  answered-or-full t text old new few (inr closed, others) = inr (no-room old t text few closed.0, nobody (get new.table t) closed.1)

module _ {P A : Type 0} (gave took : P → Option (List ℕ)) (counts : P → Counts) where
  pub served-alone-none : (k : ℕ) (clients : Clients P A) (t : ℕ) → IsServedAlone gave took counts clients clients k [] t [] []
  served-alone-none k clients t = (
    alone-none gave k clients t,
    λ same. within-same gave took counts [] (get clients.table t) (get clients.table t) (answers_of clients t) (answers_of clients t) refl refl,
    λ differ. within-same gave took counts [] (get clients.table t) (get clients.table t) (answers_of clients t) (answers_of clients t) refl refl,
  )

  pub served-alone-join : (k : ℕ) (r s : List ℕ) (a b c : Clients P A) → LiveOn gave took counts a b → (t : ℕ) (xs ys : List ClientLine) (ps qs : List ℕ)
      → IsServedAlone gave took counts a b k r t xs ps → IsServedAlone gave took counts b c k s t ys qs → IsServedAlone gave took counts a c k (r ++ s) t (xs ++ ys) (ps ++ qs)
  served-alone-join k r s a b c lives t xs ys ps qs f g = (
    heard-alone-join gave k r s a b c t xs ys f.0 g.0,
    λ same.
        within-join gave took counts r s (get a.table t) (get b.table t) (get c.table t) (answers_of a t) (answers_of b t) (answers_of c t) xs ys ps qs
        (lives t) (f.0.0 same) (f.1 same) (g.1 same),
    λ differ.
        within-join gave took counts [] [] (get a.table t) (get b.table t) (get c.table t) (answers_of a t) (answers_of b t) (answers_of c t) xs ys ps qs
        (lives t) (f.0.1 differ) (f.2 differ) (g.2 differ),
  )

  -- a reader took a byte, and the line that this ended was answered, or there was no room for the answer
  pub served-line : (k byte : ℕ) (line : ClientLine) (text : List ℕ) (a b c : Clients P A) → LiveOn gave took counts a b → HeardAt gave [] (byte ∷ []) (line ∷ []) (get a.table k) (get b.table k)
      → OthersStay k a b → b.answers ≡ a.answers → is_connected b k ≡ true → NothingHeard gave b c → Reports text k b c
      → (t : ℕ) (xs : List ClientLine) (ps : List ℕ) → IsLineAlone k line text t xs ps → IsServedAlone gave took counts a c k (byte ∷ []) t xs ps
  served-line k byte line text a b c lives heard others answers there unheard reported t xs ps f = (
    heard-line gave k byte line a b c heard others unheard text t xs ps f,
    λ same.
        subst (λ lines. EndsWithin gave took counts (byte ∷ []) (get a.table t) (answers_of a t) (get c.table t) (answers_of c t) lines ps) (sym (f.0 same).0)
        (subst (λ answers. EndsWithin gave took counts (byte ∷ []) (get a.table t) (answers_of a t) (get c.table t) (answers_of c t) (line ∷ []) answers) (sym (f.0 same).1)
        (subst (λ u. EndsWithin gave took counts (byte ∷ []) (get a.table u) (answers_of a u) (get c.table u) (answers_of c u) (line ∷ []) text) (sym same)
        (within-line gave took counts (byte ∷ []) line text (get a.table k) (get b.table k) (get c.table k) (answers_of a k) (answers_of b k) (answers_of c k)
        (lives k) heard there (answers-same took a b answers k) (answered-or-full k text b c (few-there b k there) reported)))),
    λ differ.
        subst (λ lines. EndsWithin gave took counts [] (get a.table t) (answers_of a t) (get c.table t) (answers_of c t) lines ps) (sym (f.1 differ).0)
        (subst (λ answers. EndsWithin gave took counts [] (get a.table t) (answers_of a t) (get c.table t) (answers_of c t) [] answers) (sym (f.1 differ).1)
        (within-same gave took counts [] (get a.table t) (get c.table t) (answers_of a t) (answers_of c t)
        ((reported.1 t differ).1 ∙ others t differ) ((reported.1 t differ).0 ∙ answers-same took a b answers t))),
  )

  -- a reader took a byte that ended no line
  pub served-byte : (k byte : ℕ) (a b : Clients P A) → HeardAt gave [] (byte ∷ []) [] (get a.table k) (get b.table k) → OthersStay k a b → SameClients a b → b.answers ≡ a.answers
      → (t : ℕ) → IsServedAlone gave took counts a b k (byte ∷ []) t [] []
  served-byte k byte a b heard others same answers t = (
    heard-byte gave k byte a b heard others t,
    λ here. within-silent gave took counts (byte ∷ []) (get a.table t) (get b.table t) (answers_of a t) (answers_of b t) (same t) (answers-same took a b answers t),
    λ differ. within-silent gave took counts [] (get a.table t) (get b.table t) (answers_of a t) (answers_of b t) (same t) (answers-same took a b answers t),
  )

  -- a client was read, and then the bytes that came were served
  pub served-all : (k : ℕ) (bytes : List ℕ) (a b c : Clients P A) → LiveOn gave took counts a b → HeardAt gave bytes [] [] (get a.table k) (get b.table k) → OthersStay k a b → SameClients a b
      → b.answers ≡ a.answers → (t : ℕ) (xs : List ClientLine) (ps : List ℕ) → IsServedAlone gave took counts b c k bytes t xs ps → IsServed gave took counts a c t xs ps
  served-all k bytes a b c lives heard others same answers t xs ps f = (
    heard-all gave k bytes a b c heard others t xs f.0,
    elim (cases_eq t k) [
      | inl here ↦ at-within gave took counts bytes (get a.table t) (get b.table t) (get c.table t) (answers_of a t) (answers_of b t) (answers_of c t) xs ps (lives t)
          (subst (λ u. HeardAt gave bytes [] [] (get a.table u) (get b.table u)) (sym here) heard) (same t) (answers-same took a b answers t) (f.1 here)
      | inr differ ↦ at-within gave took counts [] (get a.table t) (get b.table t) (get c.table t) (answers_of a t) (answers_of b t) (answers_of c t) xs ps (lives t)
          (others-unheard gave k a b others t differ) (same t) (answers-same took a b answers t) (f.2 differ)
    ],
  )

  pub served-both : (a b c : Clients P A) → LiveOn gave took counts a b → (t : ℕ) (xs ys : List ClientLine) (ps qs : List ℕ) → IsServed gave took counts a b t xs ps → IsServed gave took counts b c t ys qs
      → IsServed gave took counts a c t (xs ++ ys) (ps ++ qs)
  served-both a b c lives t xs ys ps qs f g = (
    heard-both gave a b c t xs ys f.0 g.0,
    at-join gave took counts f.0.0 (get a.table t) (get b.table t) (get c.table t) (answers_of a t) (answers_of b t) (answers_of c t) xs ys ps qs
        (lives t) f.0.1 f.1 g.1,
  )

  -- nothing came
  pub served-none : (a b : Clients P A) → NothingHeard gave a b → SameClients a b → b.answers ≡ a.answers → (t : ℕ) → IsServed gave took counts a b t [] []
  served-none a b unheard same answers t = (
    heard-none gave a b unheard t,
    at-silent gave took counts (get a.table t) (get b.table t) (answers_of a t) (answers_of b t) (same t) (answers-same took a b answers t),
  )

  -- a read said that a client is gone, and it was closed
  pub served-gone : (k : ℕ) (answer : ReadAnswer) (bytes : List ℕ) (a b c : Clients P A) → IsOfGone answer → ReadsAt gave took counts answer bytes (get a.table k) (get b.table k)
      → NothingHeard gave a c → OthersStay k a c → ((t : ℕ) → t ≢ k → answers_of c t ≡ answers_of a t) → get c.table k ≡ None → (t : ℕ) → IsServed gave took counts a c t [] []
  served-gone k answer bytes a b c gone reads unheard others answers closed t = (
    heard-none gave a c unheard t,
    elim (cases_eq t k) [
      | inl here ↦ subst (λ u. EndsAt gave took counts (get a.table u) (answers_of a u) (get c.table u) (answers_of c u) [] []) (sym here)
          (at-gone gave took counts answer bytes (get a.table k) (get b.table k) (get c.table k) (answers_of a k) (answers_of c k) gone reads closed)
      | inr differ ↦ at-silent gave took counts (get a.table t) (get c.table t) (answers_of a t) (answers_of c t) (ap (λ x. is_some x) (others t differ)) (answers t differ)
    ],
  )

  -- ---- answers that are written

  abbrev pub AllEndByWrite : Clients P A → Clients P A → Type 0
  AllEndByWrite old new = (t : ℕ) → EndsByWrite gave took counts (get old.table t) (get new.table t)

  -- nobody was closed
  pub ends-same : (a b : Clients P A) → SameClients a b → AllEndByWrite a b
  ends-same a b same t = write-still gave took counts (get a.table t) (get b.table t) (same t)

  pub ends-join : (a b c : Clients P A) → LiveOn gave took counts a b → AllEndByWrite a b → AllEndByWrite b c → AllEndByWrite a c
  ends-join a b c lives f g t = write-join gave took counts (get a.table t) (get b.table t) (get c.table t) (lives t) (f t) (g t)

  -- a client to which a write failed was closed
  pub ends-failed : (k : ℕ) (a b c : Clients P A) → FailsAt gave took counts (get a.table k) (get b.table k) → OthersStay k a c → is_connected c k ≡ false → AllEndByWrite a c
  ends-failed k a b c failed others gone t =
      elim (cases_eq t k) [
        | inl here ↦ subst (λ u. EndsByWrite gave took counts (get a.table u) (get c.table u)) (sym here)
            (write-failed gave took counts (get a.table k) (get b.table k) (get c.table k) failed (nobody (get c.table k) gone))
        | inr differ ↦ write-still gave took counts (get a.table t) (get c.table t) (ap (λ x. is_some x) (others t differ))
      ]

-- What is heard from clients while they are served.
use Rattle.std.proofs.Common.{◌≡◌, ℕ, false, List, ◌∷◌, ◌++◌, Option, None, Some, refl, sym, subst, inl, inr, append-nil, []}
use Rattle.std.specs.Prelude.{is_some}
use Rattle.std.proofs.lemmas.Bool.{cases_eq}
use Rattle.slab.specs.Slab.{get}
use Rattle.lock_desk.specs.declared.client_line.ClientLine.{ClientLine}
use Rattle.node_connections.specs.declared.clients.Client.{Client}
use Rattle.node_connections.specs.declared.clients.Clients.{Clients}
use Rattle.node_connections.specs.Clients.{answers_of, is_connected}
use Rattle.node_connections.specs.Heard.{HeardAt, NothingHeard}
use Rattle.node_connections.specs.Lives.{OthersStay}
use Rattle.node_connections.specs.Said.{IsHeard, IsHeardAlone, IsLineAlone, IsSaid, SaidAt}
use Rattle.node_connections.proofs.Heard.{heard-join, heard-same, others-unheard}
use Rattle.node_connections.proofs.Lives.{nobody}

module _ {P : Type 0} (took : P → Option (List ℕ)) where
  gone-said : (more : List ℕ) (x y : Option (Client P)) (xs ys : List ℕ) → SaidAt took more x xs y ys → x ≡ None → y ≡ None
  gone-said more x None xs ys f e = refl
  gone-said more None (Some c) xs ys f e = elim f [ ]
  gone-said more (Some b) (Some c) xs ys f e = absurd (let d = e in cc)

module _ {P A : Type 0} (took : P → Option (List ℕ)) where
  -- a client that is gone stays gone while others are served
  pub stays-gone : (more : List ℕ) (t : ℕ) (old new : Clients P A) → IsSaid took more t old new → is_connected old t ≡ false → is_connected new t ≡ false
  stays-gone more t old new f none =
      subst (λ (x : Option (Client P)). is_some x ≡ false) (sym (gone-said took more (get old.table t) (get new.table t) (answers_of old t) (answers_of new t) f (nobody (get old.table t) none))) refl

-- ---- what is heard while clients are served

module _ {P A : Type 0} (gave : P → Option (List ℕ)) where
  pub heard-alone-join : (k : ℕ) (r s : List ℕ) (a b c : Clients P A) (t : ℕ) (xs ys : List ClientLine) → IsHeardAlone gave a b k r t xs → IsHeardAlone gave b c k s t ys → IsHeardAlone gave a c k (r ++ s) t (xs ++ ys)
  heard-alone-join k r s a b c t xs ys f g = (
    λ same. heard-join gave [] [] r s xs ys (get a.table t) (get b.table t) (get c.table t) (f.0 same) (g.0 same),
    λ differ. heard-join gave [] [] [] [] xs ys (get a.table t) (get b.table t) (get c.table t) (f.1 differ) (g.1 differ),
  )

  -- a reader took a byte, and the line that this ended was served, or it ended none
  pub heard-line : (k byte : ℕ) (line : ClientLine) (a b c : Clients P A) → HeardAt gave [] (byte ∷ []) (line ∷ []) (get a.table k) (get b.table k) → OthersStay k a b → NothingHeard gave b c
      → (text : List ℕ) (t : ℕ) (xs : List ClientLine) (ps : List ℕ) → IsLineAlone k line text t xs ps → IsHeardAlone gave a c k (byte ∷ []) t xs
  heard-line k byte line a b c heard others unheard text t xs ps f = (
    λ same.
        subst (λ lines. HeardAt gave [] (byte ∷ []) lines (get a.table t) (get c.table t)) (sym (f.0 same).0)
        (subst (λ u. HeardAt gave [] (byte ∷ []) (line ∷ []) (get a.table u) (get c.table u)) (sym same)
        (heard-join gave [] [] (byte ∷ []) [] (line ∷ []) [] (get a.table k) (get b.table k) (get c.table k) heard (unheard k))),
    λ differ.
        subst (λ lines. HeardAt gave [] [] lines (get a.table t) (get c.table t)) (sym (f.1 differ).0)
        (heard-join gave [] [] [] [] [] [] (get a.table t) (get b.table t) (get c.table t) (others-unheard gave k a b others t differ) (unheard t)),
  )

  pub heard-byte : (k byte : ℕ) (a b : Clients P A) → HeardAt gave [] (byte ∷ []) [] (get a.table k) (get b.table k) → OthersStay k a b → (t : ℕ) → IsHeardAlone gave a b k (byte ∷ []) t []
  heard-byte k byte a b heard others t = (
    λ same. subst (λ u. HeardAt gave [] (byte ∷ []) [] (get a.table u) (get b.table u)) (sym same) heard,
    λ differ. others-unheard gave k a b others t differ,
  )

  pub alone-none : (k : ℕ) (clients : Clients P A) (t : ℕ) → IsHeardAlone gave clients clients k [] t []
  alone-none k clients t = (
    λ same. heard-same gave (get clients.table t) (get clients.table t) refl,
    λ differ. heard-same gave (get clients.table t) (get clients.table t) refl,
  )

  -- a client was read, and then its reader took the bytes that came
  pub heard-all : (k : ℕ) (bytes : List ℕ) (a b c : Clients P A) → HeardAt gave bytes [] [] (get a.table k) (get b.table k) → OthersStay k a b
      → (t : ℕ) (xs : List ClientLine) → IsHeardAlone gave b c k bytes t xs → IsHeard gave a c t xs
  heard-all k bytes a b c heard others t xs f =
      elim (cases_eq t k) [
        | inl same ↦ (
          bytes,
          subst (λ given. HeardAt gave given bytes xs (get a.table t) (get c.table t)) (append-nil bytes)
              (heard-join gave bytes [] [] bytes [] xs (get a.table t) (get b.table t) (get c.table t)
              (subst (λ u. HeardAt gave bytes [] [] (get a.table u) (get b.table u)) (sym same) heard) (f.0 same)),
        )
        | inr differ ↦ (
          [],
          heard-join gave [] [] [] [] [] xs (get a.table t) (get b.table t) (get c.table t) (others-unheard gave k a b others t differ) (f.1 differ),
        )
      ]

  pub heard-both : (a b c : Clients P A) (t : ℕ) (xs ys : List ClientLine) → IsHeard gave a b t xs → IsHeard gave b c t ys → IsHeard gave a c t (xs ++ ys)
  heard-both a b c t xs ys f g = (f.0 ++ g.0, heard-join gave f.0 g.0 f.0 g.0 xs ys (get a.table t) (get b.table t) (get c.table t) f.1 g.1)

  pub heard-none : (a b : Clients P A) → NothingHeard gave a b → (t : ℕ) → IsHeard gave a b t []
  heard-none a b f t = ([], f t)

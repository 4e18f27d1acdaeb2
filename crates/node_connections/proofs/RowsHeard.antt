-- Small examples of what is heard from clients, and some that look like them and are not.
use Rattle.std.proofs.Common.{◌≡◌, ◌∙◌, ℕ, List, ◌∷◌, Option, None, Some, codes, refl, sym, subst, ap, arith, []}
use Rattle.byte_lines.specs.Kept.{Kept, kept, StandsAfter}
use Rattle.slab.specs.Slab.{get}
use Rattle.lock_desk.specs.declared.client_line.ClientLine.{ClientLine}
use Rattle.lock_desk.specs.declared.client_line.ClientLine.TheVariants.{Lock, Unlock, Status, Unknown}
use Rattle.socket_links.specs.Counts.{Counts}
use Rattle.node_connections.specs.declared.clients.Client.{Client}
use Rattle.node_connections.specs.declared.clients.Clients.{Clients}
use Rattle.node_connections.specs.Heard.{HasNewReader, HeardAt, NothingHeard, SameReader}
use Rattle.node_connections.specs.Said.{IsHeard, IsHeardAlone, IsLineAlone}
use Rattle.node_connections.proofs.Heard.{heard-same, unheard-same}
use Rattle.node_connections.proofs.Serving.{alone-none, heard-none}

-- what is kept after `l`, the front of a line
half-line : StandsAfter 16 (codes "status\nl") (kept 16 (codes "l"))
half-line = refl

abbrev first-kept : Kept → List ℕ
first-kept k = k.first

module _ {P : Type 0} (gave : P → Option (List ℕ)) (a b : Client P) where
  same-reader : SameReader (Some a) (Some a)
  same-reader = refl

  same_not-read : a.reader ≡ kept 16 [] → b.reader ≡ kept 16 (codes "l") → SameReader (Some a) (Some b) → ⊥
  same_not-read none some same =
      let e : ◌≡◌ {A = List ℕ} (codes "l") [] = ap first-kept (sym some ∙ (same ∙ none)) in absurd cc

  new-reader : a.reader ≡ kept 16 [] → HasNewReader (Some a)
  new-reader none = none

  new_not-read : a.reader ≡ kept 16 (codes "l") → HasNewReader (Some a) → ⊥
  new_not-read some new = (let e : ◌≡◌ {A = List ℕ} (codes "l") [] = ap first-kept (sym some ∙ new) in absurd cc)

  heard-nothing : HeardAt gave [] [] [] (Some a) (Some a)
  heard-nothing = heard-same gave (Some a) (Some a) refl

  -- a reader that has taken nothing, and then takes these bytes, reads these lines and no others
  heard-status : HasNewReader (Some a) → (given : List ℕ) (lines : List ClientLine) → HeardAt gave given (codes "status\n") lines (Some a) (Some b) → lines ≡ Status ∷ []
  heard-status new given lines heard = sym (heard.1 [] new).1

  heard-three : HasNewReader (Some a) → (given : List ℕ) (lines : List ClientLine) → HeardAt gave given (codes "lock\nlocks\nunlo") lines (Some a) (Some b)
      → (lines ≡ Lock ∷ (Unknown ∷ [])) × (b.reader ≡ kept 16 (codes "unlo"))
  heard-three new given lines heard = (sym (heard.1 [] new).1, (heard.1 [] new).0)

  heard_not-unlock : HasNewReader (Some a) → (given : List ℕ) → HeardAt gave given (codes "status\n") (Unlock ∷ []) (Some a) (Some b) → ⊥
  heard_not-unlock new given heard = (let e : ◌≡◌ {A = List ClientLine} (Unlock ∷ []) (Status ∷ []) = heard-status new given (Unlock ∷ []) heard in absurd cc)

  -- nothing comes from a pipe that gave nothing
  heard_not-given : gave a.pipe ≡ Some [] → gave b.pipe ≡ Some [] → (read : List ℕ) (lines : List ClientLine) → HeardAt gave (codes "x") read lines (Some a) (Some b) → ⊥
  heard_not-given before after read lines heard =
      let e : ◌≡◌ {A = Option (List ℕ)} (Some []) (Some (codes "x")) = rw (before, after) at heard.0 in absurd cc

  heard_not-before : (read : List ℕ) → HeardAt gave [] read [] None (Some b) → ⊥
  heard_not-before read heard = heard

line-alone : IsLineAlone 3 Lock [] 4 [] []
line-alone = (λ same. absurd (omega (arith, same)), λ differ. (refl, refl))

line_not-nothing : IsLineAlone 3 Lock [] 3 [] [] → ⊥
line_not-nothing f = (let e : ◌≡◌ {A = List ClientLine} [] (Lock ∷ []) = (f.0 refl).0 in absurd cc)

-- a different answer is not an answer to that line
line_not-another : IsLineAlone 3 Unknown (codes "unknown\n") 3 (Unknown ∷ []) (codes "released\n") → ⊥
line_not-another f = (let e : ◌≡◌ {A = List ℕ} (codes "released\n") (codes "unknown\n") = (f.0 refl).1 in absurd cc)

abbrev bytes-of : Option (List ℕ) → List ℕ
bytes-of None = []
bytes-of (Some bytes) = bytes

module _ {P A : Type 0} (gave took : P → Option (List ℕ)) (counts : P → Counts) (old new : Clients P A) (a b : Client P) where
  pub nothing-heard : NothingHeard gave old old
  nothing-heard = unheard-same gave old old refl

  nothing_not-given : get old.table 3 ≡ Some a → get new.table 3 ≡ Some b → gave a.pipe ≡ Some [] → gave b.pipe ≡ Some (codes "x") → NothingHeard gave old new → ⊥
  nothing_not-given was is before after unheard =
      let heard : HeardAt gave [] [] [] (Some a) (Some b) = rw (was, is) at (unheard 3) in
      let e : ◌≡◌ {A = Option (List ℕ)} (Some (codes "x")) (Some []) = rw (before, after) at heard.0 in absurd cc

  heard-alone : IsHeardAlone gave old old 3 [] 4 []
  heard-alone = alone-none gave 3 old 4

  heard_not-alone : get old.table 3 ≡ Some a → get new.table 3 ≡ Some b → HasNewReader (Some a) → IsHeardAlone gave old new 3 (codes "status\n") 3 (Unlock ∷ []) → ⊥
  heard_not-alone was is fresh f =
      let heard : HeardAt gave [] (codes "status\n") (Unlock ∷ []) (Some a) (Some b) = rw (was, is) at (f.0 refl) in heard_not-unlock gave a b fresh [] heard

  heard-none-of : (t : ℕ) → IsHeard gave old old t []
  heard-none-of = heard-none gave old old nothing-heard

  module _ (was : get old.table 3 ≡ Some a) (is : get new.table 3 ≡ Some b) (fresh : HasNewReader (Some a)) (before : gave a.pipe ≡ Some []) (after : gave b.pipe ≡ Some (codes "lock\n")) where
    -- a client whose pipe gave `lock` has said so, and nothing else
    pub heard-lock : (lines : List ClientLine) → IsHeard gave old new 3 lines → lines ≡ Lock ∷ []
    heard-lock lines (bytes, f) =
        let heard : HeardAt gave bytes bytes lines (Some a) (Some b) = rw (was, is) at f in
        let given : ◌≡◌ {A = Option (List ℕ)} (Some (codes "lock\n")) (Some bytes) = rw (before, after) at heard.0 in
        let all : codes "lock\n" ≡ bytes = ap bytes-of given in
        let read : HeardAt gave bytes (codes "lock\n") lines (Some a) (Some b) = subst (λ xs. HeardAt gave bytes xs lines (Some a) (Some b)) (sym all) heard in
        sym (read.1 [] fresh).1

    heard_not-nothing : IsHeard gave old new 3 [] → ⊥
    heard_not-nothing f = (let e : ◌≡◌ {A = List ClientLine} [] (Lock ∷ []) = heard-lock [] f in absurd cc)

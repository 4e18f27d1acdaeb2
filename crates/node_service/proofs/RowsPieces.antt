-- Small examples of what clients give, and some that look like them and are not.
use Rattle.std.proofs.Common.{◌≡◌, ◌∙◌, ◌==◌, ◌∷◌, ℕ, Bool, true, false, List, Option, None, Some, codes, length, sym, subst, ap, refl, arith, []}
use Rattle.std.specs.Prelude.{replicate}
use Rattle.std.proofs.lemmas.Bool.{true≢false}
use Rattle.slab.specs.Slab.{get}
use Rattle.node_connections.specs.socket_links.Counts.{Counts}
use Rattle.node_connections.specs.socket_links.declared.pipe.ReadAnswer.TheVariants as read
use Rattle.node_connections.specs.declared.clients.Client.{Client}
use Rattle.node_connections.specs.declared.clients.Clients.{Clients}
use Rattle.node_service.specs.Pieces.{given_by, GivePieces, GivesAt, GivesPiece, IsGivenByRead}
use Rattle.node_service.proofs.Pieces.{gave-alone}

-- a read gives as many bytes of its buffer as it says
given-two : given_by (read.Got 2) (codes "abc") ≡ codes "ab"
given-two = refl

given_not-yet : given_by read.Later (codes "abc") ≡ []
given_not-yet = refl

-- a whole piece
abbrev pub whole : List ℕ
whole = replicate 64 7

abbrev first-of : List ℕ → ℕ
first-of [] = 0
first-of (x ∷ xs) = x

abbrev bytes-of : Option (List ℕ) → List ℕ
bytes-of None = []
bytes-of (Some bytes) = bytes

module _ {P : Type 0} (gave took : P → Option (List ℕ)) (counts : P → Counts) where
  -- what a read gave is what its pipe says
  is-given : (bytes xs : List ℕ) (p q : P) → gave p ≡ Some [] → gave q ≡ Some xs → IsGivenByRead gave took counts bytes p q → bytes ≡ xs
  is-given bytes xs p q before after (read.Got n, buffer, is, reads, same) = is ∙ sym (ap bytes-of (rw (before, after) at reads.2))
  is-given bytes xs p q before after (read.Later, buffer, is, reads, same) = is ∙ sym (ap bytes-of (rw (before, after) at reads.0))
  is-given bytes xs p q before after (read.Closed, buffer, is, reads, same) = is ∙ sym (ap bytes-of (rw (before, after) at reads.0))
  is-given bytes xs p q before after (read.Failed, buffer, is, reads, same) = is ∙ sym (ap bytes-of (rw (before, after) at reads.0))

  module _ (a b : Client P) (before : gave a.pipe ≡ Some []) where
    module _ (wrote : took b.pipe ≡ took a.pipe) (same : counts b.pipe ≡ counts a.pipe) where
      given-byte : gave b.pipe ≡ Some (codes "u") → IsGivenByRead gave took counts (codes "u") a.pipe b.pipe
      given-byte after = (read.Got 1, codes "u", refl, (omega arith, omega arith, rw (before, after) refl, rw same (omega arith, omega arith, omega arith)), wrote)

      given-whole : gave b.pipe ≡ Some whole → IsGivenByRead gave took counts whole a.pipe b.pipe
      given-whole after = (read.Got 64, whole, refl, (omega arith, omega arith, rw (before, after) refl, rw same (omega arith, omega arith, omega arith)), wrote)

      -- a client that gave a byte, and stays or is closed
      gives-byte : gave b.pipe ≡ Some (codes "u") → GivesAt gave took counts (codes "u") (Some a) (Some b)
      gives-byte after = (b.pipe, given-byte after, refl)

      gives-closed : gave b.pipe ≡ Some (codes "u") → GivesAt gave took counts (codes "u") (Some a) None
      gives-closed after = (b.pipe, given-byte after)

      -- it has no more, and one that gave a whole piece may have more
      piece-short : gave b.pipe ≡ Some (codes "u") → GivesPiece gave took counts false (Some a) (Some b)
      piece-short after = record { bytes = codes "u"; gives = gives-byte after; within = omega arith; whole = refl }

      piece-whole : gave b.pipe ≡ Some whole → GivesPiece gave took counts true (Some a) (Some b)
      piece-whole after = record { bytes = whole; gives = (b.pipe, given-whole after, refl); within = omega arith; whole = refl }

    given_not-nothing : gave b.pipe ≡ Some (codes "u") → ¬ IsGivenByRead gave took counts [] a.pipe b.pipe
    given_not-nothing after f = (let e = is-given [] (codes "u") a.pipe b.pipe before after f in absurd cc)

    -- what a client gave that is still there
    gave-all : (bytes xs : List ℕ) → gave b.pipe ≡ Some xs → GivesAt gave took counts bytes (Some a) (Some b) → bytes ≡ xs
    gave-all bytes xs after (q, given, same) = is-given bytes xs a.pipe q before (sym same ∙ after) given

    gives_not-another : gave b.pipe ≡ Some (codes "u") → ¬ GivesAt gave took counts (codes "v") (Some a) (Some b)
    gives_not-another after f = (let e : 118 ≡ 117 = ap first-of (gave-all (codes "v") (codes "u") after f) in omega (arith, e))

    piece_not-short : gave b.pipe ≡ Some (codes "u") → ¬ GivesPiece gave took counts true (Some a) (Some b)
    piece_not-short after f =
        let e : true ≡ false = subst (λ (xs : List ℕ). true ≡ (length xs == 64)) (gave-all f.bytes (codes "u") after f.gives) f.whole in absurd (true≢false e)

    piece_not-whole : gave b.pipe ≡ Some whole → ¬ GivesPiece gave took counts false (Some a) (Some b)
    piece_not-whole after f =
        let e : false ≡ true = subst (λ (xs : List ℕ). false ≡ (length xs == 64)) (gave-all f.bytes whole after f.gives) f.whole in absurd (true≢false (sym e))

  gives-nobody : GivesAt gave took counts [] None None
  gives-nobody = refl

  gives_not-nobody : ¬ GivesAt gave took counts (codes "u") None None
  gives_not-nobody e = absurd cc

module _ {P A : Type 0} (gave took : P → Option (List ℕ)) (counts : P → Counts) (old new : Clients P A) (a b : Client P) where
  -- nobody is there, and so nobody may have more
  module _ (alone : (t : ℕ) → get old.table t ≡ None) where
    pieces-nobody : GivePieces gave took counts false old old
    pieces-nobody = gave-alone gave took counts old alone

    pieces_not-nobody : ¬ GivePieces gave took counts true old old
    pieces_not-nobody f =
        let (t, full) = f.whole.0 refl in
        let none : f.bytes t ≡ [] = subst (λ x. GivesAt gave took counts (f.bytes t) x (get old.table t)) (alone t) (f.give t) in
        let e : length (f.bytes t) ≡ 0 = ap (λ (xs : List ℕ). length xs) none in omega (arith, e, full)

  -- a client that gave a whole piece may have more
  pub pieces_not-whole : get old.table 3 ≡ Some a → get new.table 3 ≡ Some b → gave a.pipe ≡ Some [] → gave b.pipe ≡ Some whole → ¬ GivePieces gave took counts false old new
  pieces_not-whole was is before after f =
      let gives : GivesAt gave took counts (f.bytes 3) (Some a) (Some b) =
      subst (λ y. GivesAt gave took counts (f.bytes 3) (Some a) y) is (subst (λ x. GivesAt gave took counts (f.bytes 3) x (get new.table 3)) was (f.give 3)) in
      let full : length (f.bytes 3) ≡ 64 = ap (λ (xs : List ℕ). length xs) (gave-all gave took counts a b before (f.bytes 3) whole after gives) in
      true≢false (sym (f.whole.1 (3, full)))

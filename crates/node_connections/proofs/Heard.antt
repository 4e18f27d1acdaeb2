-- What is heard from clients, one call after the other.
use Rattle.std.proofs.Common.{◌≡◌, ◌≢◌, ℕ, false, List, ◌∷◌, ◌++◌, Option, None, Some, map, take, refl, sym, subst, ap, inl, inr, ◌∙◌, append-nil, append_assoc, []}
use Rattle.std.proofs.lemmas.Bool.{cases_eq}
use Rattle.byte_lines.specs.Kept.{Kept, ReadsOn, StandsAfter}
use Rattle.byte_lines.specs.Lines.{whole_lines}
use Rattle.slab.specs.Slab.{Slab, get, with_value}
use Rattle.slab.proofs.SlabLemmas.{Updates-with_value}
use Rattle.lock_desk.specs.ClientText.{client_line}
use Rattle.lock_desk.specs.declared.client_line.ClientLine.{ClientLine}
use Rattle.socket_links.specs.Counts.{Counts}
use Rattle.socket_links.specs.Pipes.{GoesOn}
use Rattle.socket_links.specs.declared.pipe.ReadAnswer.TheVariants as read
use Rattle.node_connections.specs.declared.clients.Client.{Client}
use Rattle.node_connections.specs.declared.clients.Clients.{Clients}
use Rattle.node_connections.specs.Clients.{is_connected}
use Rattle.node_connections.specs.Heard.{HeardAt, NothingHeard, SameReader}
use Rattle.node_connections.specs.Lives.{OthersStay, ReadsAt}
use Rattle.node_connections.proofs.Lives.{nobody, there}

-- ---- bytes

pub goes-nothing : (x : Option (List ℕ)) → GoesOn [] x x
goes-nothing None = refl
goes-nothing (Some xs) = ap (λ ys. Some ys) (sym (append-nil xs))

pub goes-join : (m n : List ℕ) (x y z : Option (List ℕ)) → GoesOn m x y → GoesOn n y z → GoesOn (m ++ n) x z
goes-join m n None y z f g = subst (λ w. GoesOn n w z) f g
goes-join m n (Some xs) y z f g = subst (λ ys. z ≡ Some ys) (append_assoc xs m n) (subst (λ w. GoesOn n w z) f g)

-- ---- readers

reads-nothing : (k : Kept) → ReadsOn 16 client_line k k [] []
reads-nothing k bytes stands = (
  subst (λ all. StandsAfter 16 all k) (sym (append-nil bytes)) stands,
  ap (λ all. map client_line (whole_lines all)) (append-nil bytes) ∙ sym (append-nil (map client_line (whole_lines bytes))),
)

reads-join : (a b c : Kept) (m n : List ℕ) (xs ys : List ClientLine) → ReadsOn 16 client_line a b m xs → ReadsOn 16 client_line b c n ys → ReadsOn 16 client_line a c (m ++ n) (xs ++ ys)
reads-join a b c m n xs ys f g bytes stands =
    let first = f bytes stands in
    let second = g (bytes ++ m) first.0 in
    let all : (bytes ++ m) ++ n ≡ bytes ++ (m ++ n) = append_assoc bytes m n in (
      subst (λ text. StandsAfter 16 text c) all second.0,
      ap (λ text. map client_line (whole_lines text)) (sym all) ∙ (second.1 ∙ (ap (λ lines. lines ++ ys) first.1 ∙ append_assoc (map client_line (whole_lines bytes)) xs ys)),
    )

-- ---- one client

module _ {P : Type 0} (gave : P → Option (List ℕ)) where
  heard-alike : (a b : Client P) → gave b.pipe ≡ gave a.pipe → b.reader ≡ a.reader → HeardAt gave [] [] [] (Some a) (Some b)
  heard-alike a b pipe reader = (
    subst (λ o. GoesOn [] (gave a.pipe) o) (sym pipe) (goes-nothing (gave a.pipe)),
    subst (λ k. ReadsOn 16 client_line a.reader k [] []) (sym reader) (reads-nothing a.reader),
  )

  heard-here : (x : Option (Client P)) → HeardAt gave [] [] [] x x
  heard-here None = tt
  heard-here (Some c) = heard-alike c c refl refl

  pub heard-same : (x y : Option (Client P)) → y ≡ x → HeardAt gave [] [] [] x y
  heard-same x y e = subst (λ z. HeardAt gave [] [] [] x z) (sym e) (heard-here x)

  pub heard-gone : (given read : List ℕ) (lines : List ClientLine) (x y : Option (Client P)) → y ≡ None → HeardAt gave given read lines x y
  heard-gone given read lines x y e = subst (λ z. HeardAt gave given read lines x z) (sym e) tt

  pub heard-join : (g h r s : List ℕ) (xs ys : List ClientLine) (x y z : Option (Client P)) → HeardAt gave g r xs x y → HeardAt gave h s ys y z → HeardAt gave (g ++ h) (r ++ s) (xs ++ ys) x z
  heard-join g h r s xs ys x y None f k = tt
  heard-join g h r s xs ys x None (Some c) f k = elim k [ ]
  heard-join g h r s xs ys None (Some b) (Some c) f k = elim f [ ]
  heard-join g h r s xs ys (Some a) (Some b) (Some c) f k = (
    goes-join g h (gave a.pipe) (gave b.pipe) (gave c.pipe) f.0 k.0,
    reads-join a.reader b.reader c.reader r s xs ys f.1 k.1,
  )

  -- one that was read: its pipe gave bytes, or none now
  pub heard-got : (took : P → Option (List ℕ)) (counts : P → Counts) (n : ℕ) (bytes : List ℕ) (x y : Option (Client P)) → ReadsAt gave took counts (read.Got n) bytes x y → SameReader x y
      → HeardAt gave (take n bytes) [] [] x y
  heard-got took counts n bytes None y f same = heard-gone (take n bytes) [] [] None y f.0
  heard-got took counts n bytes (Some a) None f same = tt
  heard-got took counts n bytes (Some a) (Some b) f same = (f.0.2, (heard-alike a (record { pipe = a.pipe; reader = b.reader }) refl same).1)

  pub heard-later : (took : P → Option (List ℕ)) (counts : P → Counts) (bytes : List ℕ) (x y : Option (Client P)) → ReadsAt gave took counts read.Later bytes x y → SameReader x y
      → HeardAt gave [] [] [] x y
  heard-later took counts bytes None y f same = heard-gone [] [] [] None y f.0
  heard-later took counts bytes (Some a) None f same = tt
  heard-later took counts bytes (Some a) (Some b) f same = heard-alike a b f.0.0 same

  -- a client from which this was heard is written back to its place
  pub heard-put : (given read : List ℕ) (lines : List ClientLine) (s : Slab (Client P)) (k : ℕ) (old new : Client P) → Some old ≡ get s k → HeardAt gave given read lines (Some old) (Some new)
      → HeardAt gave given read lines (get s k) (get (with_value s k new) k)
  heard-put given read lines s k old new e f =
      let changed : get (with_value s k new) k ≡ Some new = (Updates-with_value s k new (there s k old e)).changed in
      subst (λ x. HeardAt gave given read lines x (get (with_value s k new) k)) e (subst (λ y. HeardAt gave given read lines (Some old) y) (sym changed) f)

  -- it was written to
  pub heard-written : (s : Slab (Client P)) (k : ℕ) (old new : Client P) → Some old ≡ get s k → gave new.pipe ≡ gave old.pipe → new.reader ≡ old.reader
      → (t : ℕ) → HeardAt gave [] [] [] (get s t) (get (with_value s k new) t)
  heard-written s k old new e pipe reader t =
      elim (cases_eq t k) [
        | inl same ↦ subst (λ u. HeardAt gave [] [] [] (get s u) (get (with_value s k new) u)) (sym same) (heard-put [] [] [] s k old new e (heard-alike old new pipe reader))
        | inr other ↦ heard-same (get s t) (get (with_value s k new) t) ((Updates-with_value s k new (there s k old e)).others t other)
      ]

  -- its reader took a byte
  pub heard-pushed : (byte : ℕ) (lines : List ClientLine) (s : Slab (Client P)) (k : ℕ) (old new : Client P) → Some old ≡ get s k → new.pipe ≡ old.pipe
      → ReadsOn 16 client_line old.reader new.reader (byte ∷ []) lines → HeardAt gave [] (byte ∷ []) lines (get s k) (get (with_value s k new) k)
  heard-pushed byte lines s k old new e pipe reads =
      heard-put [] (byte ∷ []) lines s k old new e (subst (λ o. GoesOn [] (gave old.pipe) o) (sym (ap gave pipe)) (goes-nothing (gave old.pipe)), reads)

-- ---- all clients

module _ {P A : Type 0} (gave : P → Option (List ℕ)) where
  pub unheard-same : (old new : Clients P A) → new.table ≡ old.table → NothingHeard gave old new
  unheard-same old new e t = heard-same gave (get old.table t) (get new.table t) (ap (λ table. get table t) e)

  pub unheard-join : (a b c : Clients P A) → NothingHeard gave a b → NothingHeard gave b c → NothingHeard gave a c
  unheard-join a b c f g t = heard-join gave [] [] [] [] [] [] (get a.table t) (get b.table t) (get c.table t) (f t) (g t)

  pub others-unheard : (k : ℕ) (old new : Clients P A) → OthersStay k old new → (t : ℕ) → t ≢ k → HeardAt gave [] [] [] (get old.table t) (get new.table t)
  others-unheard k old new others t other = heard-same gave (get old.table t) (get new.table t) (others t other)

  -- it is enough to look at the one ticket that was touched
  pub unheard-one : (k : ℕ) (old new : Clients P A) → OthersStay k old new → HeardAt gave [] [] [] (get old.table k) (get new.table k) → NothingHeard gave old new
  unheard-one k old new others here t =
      elim (cases_eq t k) [
        | inl same ↦ subst (λ u. HeardAt gave [] [] [] (get old.table u) (get new.table u)) (sym same) here
        | inr other ↦ others-unheard k old new others t other
      ]

  -- and nothing at one that was closed
  pub unheard-gone : (k : ℕ) (old new : Clients P A) → OthersStay k old new → is_connected new k ≡ false → NothingHeard gave old new
  unheard-gone k old new others gone = unheard-one k old new others (heard-gone gave [] [] [] (get old.table k) (get new.table k) (nobody (get new.table k) gone))

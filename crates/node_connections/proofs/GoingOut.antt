-- Answers that go out, one client after the other.
use Rattle.std.proofs.Common.{◌≡◌, ◌≢◌, ◌⊎◌, ◌<◌, ◌≤◌, ◌+◌, ◌-◌, ◌++◌, ◌∙◌, ℕ, List, ◌∷◌, min, take, drop, get_or, Option, None, Some, length, refl, sym, subst, ap, inl, inr, arith, []}
use Rattle.std.specs.Prelude.{Bool, false, slice_index_or, slice_set, IsSome, IsTrue}
use Rattle.std.proofs.lemmas.Bool.{cases_lt, true≢false}
use Rattle.std.proofs.lemmas.List.{drop_all, drop-append-le, get_or_default, get_or_past, get_or-set_same, get_or-set_other, length-drop, length-set, take_all, take-append-le}
use Rattle.byte_streams.specs.Streams.{Rose}
use Rattle.circular_buffer.specs.Buffer.{Buffer, buffer}
use Rattle.slab.specs.Slab.{Slab, get, slab_len, with_value}
use Rattle.slab.proofs.SlabLemmas.{Contains-entries, length-entries, Updates-with_value}
use Rattle.socket_links.specs.Counts.{Counts}
use Rattle.node_connections.specs.declared.clients.Client.{Client}
use Rattle.node_connections.specs.declared.clients.Clients.{Clients}
use Rattle.node_connections.specs.Clients.{answers_of}
use Rattle.node_connections.specs.Lives.{AllGoOut, GoesOutAt, OthersStay}
use Rattle.node_connections.proofs.Lives.{there}
use Rattle.node_connections.proofs.Places.{below-or-last}

module _ {P : Type 0} (counts : P → Counts) where
  -- for a client for whom nothing waits
  pub out-nothing : (x y : Option (Client P)) (xs ys : List ℕ) → xs ≡ [] → GoesOutAt counts x xs y ys
  out-nothing None y xs ys e = tt
  out-nothing (Some a) None xs ys e = tt
  out-nothing (Some a) (Some b) xs ys e = inl e

  -- for one that is closed
  pub out-gone : (x y : Option (Client P)) (xs ys : List ℕ) → y ≡ None → GoesOutAt counts x xs y ys
  out-gone None y xs ys e = tt
  out-gone (Some a) None xs ys e = tt
  out-gone (Some a) (Some b) xs ys e = absurd cc

  -- for one that was not there
  pub out-nobody : (x y : Option (Client P)) (xs ys : List ℕ) → x ≡ None → GoesOutAt counts x xs y ys
  out-nobody None y xs ys e = tt
  out-nobody (Some a) y xs ys e = absurd cc

  -- for one whose pipe took some of it, or none now
  pub out-here : (s : Slab (Client P)) (k : ℕ) (old new : Client P) (xs ys : List ℕ) → Some old ≡ get s k
      → (length ys < length xs) ⊎ Rose (counts old.pipe).later (counts new.pipe).later
      → GoesOutAt counts (get s k) xs (get (with_value s k new) k) ys
  out-here s k old new xs ys e out =
      let changed : get (with_value s k new) k ≡ Some new = (Updates-with_value s k new (there s k old e)).changed in
      subst (λ x. GoesOutAt counts x xs (get (with_value s k new) k) ys) e (subst (λ y. GoesOutAt counts (Some old) xs y ys) (sym changed) (inr out))

pub not-there : {C : Type 0} (x : Option C) (b : Bool) → (IsSome x → IsTrue b) → b ≡ false → x ≡ None
not-there None b there out = refl
not-there (Some c) b there out = absurd (true≢false (sym (there refl) ∙ out))

pub no-items : (xs : List ℕ) → length xs ≡ 0 → xs ≡ []
no-items [] none = refl
no-items (x ∷ xs) none = absurd (omega (arith, none))

-- a part of it went out
pub shorter : (xs ys : List ℕ) (n : ℕ) → ys ≡ drop n xs → 0 < n → n ≤ length xs → length ys < length xs
shorter xs ys n is some most =
    let size : length ys ≡ length xs - n = ap (λ zs. length zs) is ∙ length-drop n xs in
    omega (arith, size, some, most)

-- ---- a buffer from which what waits is moved, and to which the rest is put back

module _ (xs bytes more : List ℕ) (r count : ℕ) (read : r ≡ min 256 (length xs)) (few : length xs ≤ 256) (all : count ≡ length xs) (is : bytes ≡ take r xs ++ more) where
  moved : bytes ≡ xs ++ more
  moved = is ∙ ap (λ front. front ++ more) (take_all r xs (omega (arith, read, few)))

  -- what was moved is what waited
  pub front-moved : take count bytes ≡ xs
  front-moved =
      ap (λ b. take count b) moved ∙ (take-append-le count xs more (omega (arith, all)) ∙ take_all count xs (omega (arith, all)))

  -- what is put back is the rest of it
  pub rest-put : (w f room : ℕ) (left : List ℕ) → left ≡ drop r xs → w ≤ count → f ≡ min (length (take (count - w) (drop w bytes))) (room - length left) → room ≡ 256
      → left ++ take f (take (count - w) (drop w bytes)) ≡ drop w xs
  rest-put w f room left none within put wide =
      let nothing : left ≡ [] = none ∙ drop_all r xs (omega (arith, read, few)) in
      let dropped : drop w bytes ≡ drop w xs ++ more = ap (λ b. drop w b) moved ∙ drop-append-le w xs more (omega (arith, within, all)) in
      let long = length-drop w xs in
      let slice : take (count - w) (drop w bytes) ≡ drop w xs =
      ap (λ b. take (count - w) b) dropped
      ∙ (take-append-le (count - w) (drop w xs) more (omega (arith, long, all)) ∙ take_all (count - w) (drop w xs) (omega (arith, long, all))) in
      let size : f ≡ min (length (drop w xs)) (room - length left) = put ∙ ap (λ ys. min (length ys) (room - length left)) slice in
      let room-is : length left ≡ 0 = ap (λ ys. length ys) nothing in
      let whole : take f (drop w xs) ≡ drop w xs = take_all f (drop w xs) (omega (arith, size, wide, room-is, long, few)) in
      ap (λ ys. left ++ take f ys) slice ∙ (ap (λ ys. ys ++ take f (drop w xs)) nothing ∙ whole)

-- the buffer at a place does not depend on what stands in for a missing one
pub buffer-at : (bs : List (Buffer ℕ)) (k : ℕ) (b : Buffer ℕ) → k < length bs → b ≡ get_or bs k b → slice_index_or bs k (buffer [] 0) ≡ b
buffer-at bs k b less is = get_or_default bs k (buffer [] 0) b less ∙ sym is

pub buffer-set : (bs : List (Buffer ℕ)) (k : ℕ) (a b : Buffer ℕ) → k < length bs → slice_index_or (slice_set (slice_set bs k a) k b) k (buffer [] 0) ≡ b
buffer-set bs k a b less = get_or-set_same (slice_set bs k a) k b (buffer [] 0) (rw (length-set bs k a) less)

pub buffer-other : (bs : List (Buffer ℕ)) (k t : ℕ) (a b : Buffer ℕ) → t ≢ k → slice_index_or (slice_set (slice_set bs k a) k b) t (buffer [] 0) ≡ slice_index_or bs t (buffer [] 0)
buffer-other bs k t a b other = get_or-set_other (slice_set bs k a) k t b (buffer [] 0) other ∙ get_or-set_other bs k t a (buffer [] 0) other

module _ {T : Type 0} where
  slot-of_empty : (s : Slab T) (k : ℕ) (x : Option T) → slab_len s ≡ 0 → get s k ≡ x → x ≡ None
  slot-of_empty s k None empty e = refl
  slot-of_empty s k (Some v) empty e =
      let has = (Contains-entries s k v).1 e in
      let within = has.1 in
      let long = length-entries s in
      absurd (omega (arith, empty))

  -- nothing is in an empty table
  pub none-in_empty : (s : Slab T) (k : ℕ) → slab_len s ≡ 0 → get s k ≡ None
  none-in_empty s k empty = slot-of_empty s k (get s k) empty refl

-- nobody's answers wait from 128 on
module _ {P A : Type 0} where
  pub nothing-past : (clients : Clients P A) (t : ℕ) → length clients.answers.items ≡ 128 → 128 ≤ t → answers_of clients t ≡ []
  nothing-past clients t long from = ap (λ b. b.items) (get_or_past clients.answers.items t (buffer [] 0) (rw long from))

module _ {P A : Type 0} (counts : P → Counts) where
  pub out-of_none : (old new : Clients P A) → slab_len old.table ≡ 0 → AllGoOut counts old new
  out-of_none old new empty t =
      out-nobody counts (get old.table t) (get new.table t) (answers_of old t) (answers_of new t) (none-in_empty old.table t empty)

  -- so it is below this ticket, and from there on nothing has changed
  abbrev pub GoOutBelow : ℕ → Clients P A → Clients P A → Type 0
  GoOutBelow k old new =
      (t : ℕ)
      → (t < k → GoesOutAt counts (get old.table t) (answers_of old t) (get new.table t) (answers_of new t))
      × (k ≤ t → (get new.table t ≡ get old.table t) × (answers_of new t ≡ answers_of old t))

  pub below-start : (clients : Clients P A) → GoOutBelow 0 clients clients
  below-start clients t = (λ less. absurd (omega (arith, less)), λ from. (refl, refl))

  pub below-next : (k : ℕ) (old mid new : Clients P A) → GoOutBelow k old mid → OthersStay k mid new
      → ((t : ℕ) → t ≢ k → answers_of new t ≡ answers_of mid t)
      → GoesOutAt counts (get mid.table k) (answers_of mid k) (get new.table k) (answers_of new k) → GoOutBelow (k + 1) old new
  below-next k old mid new before others answers here t = (
    λ less.
        elim (below-or-last t k less) [
          | inl low ↦ (
              let other : t ≢ k = λ same. omega (arith, low, same) in
              rw (others t other, answers t other) ((before t).0 low)
              )
          | inr is ↦ (
              let same = (before k).1 (omega arith) in
              let first = subst (λ x. GoesOutAt counts x (answers_of mid k) (get new.table k) (answers_of new k)) same.0 here in
              let then = subst (λ xs. GoesOutAt counts (get old.table k) xs (get new.table k) (answers_of new k)) same.1 first in
              subst (λ u. GoesOutAt counts (get old.table u) (answers_of old u) (get new.table u) (answers_of new u)) (sym is) then
              )
        ],
    λ from. (
        let other : t ≢ k = λ same. omega (arith, from, same) in
        let same = (before t).1 (omega (arith, from)) in
        (others t other ∙ same.0, answers t other ∙ same.1)
        ),
  )

  pub below-all : (k : ℕ) (old new : Clients P A) → 128 ≤ k → length old.answers.items ≡ 128 → GoOutBelow k old new → AllGoOut counts old new
  below-all k old new end long so t =
      elim (cases_lt t 128) [
        | inl less ↦ (so t).0 (omega (arith, less, end))
        | inr from ↦ out-nothing counts (get old.table t) (get new.table t) (answers_of old t) (answers_of new t)
            (nothing-past old t long from)
      ]

-- The first of some next entries.
use Rattle.std.proofs.Common.{◌≡◌, ◌∙◌, ◌⊎◌, inl, inr, ℕ, ◌<◌, ◌+◌, Bool, true, false, List, refl, ap, sym, subst, arith, Option, None, Some}
use Rattle.std.proofs.lemmas.Grind.{common_steps}
use Rattle.std.proofs.lemmas.Bool.Decides.{nat_tests}
use Rattle.std.specs.Prelude.{option_map, if◌then◌else◌}
use Rattle.flight_records.specs.declared.entry.Entry.{Entry}
use Rattle.configuration.specs.run_model.World.{World}
use Rattle.record_gathering.specs.declared.order.First.{First}
use Rattle.record_gathering.specs.Firsts.{earlier, with_head}
use Rattle.record_gathering.specs.Order.{rank, is_no_later, head_of, IsNext}

-- the first of the first n records that was found
pub record IsFound (w : World) (heads : List (Option Entry)) (n : ℕ) (f : First) : Type 0 where
  pub within : f.node < n
  pub entry : Entry
  pub head : head_of heads f.node ≡ Some entry
  pub rank_is : f.rank ≡ rank w f.node entry
  pub instant_is : f.instant ≡ entry.instant
  pub least : (u : ℕ) (other : Entry) → u < n → head_of heads u ≡ Some other
      → is_no_later f.rank f.instant (rank w u other) other.instant ≡ true

abbrev pub IsFirst : World → List (Option Entry) → ℕ → Option First → Type 0
IsFirst w heads n None = (u : ℕ) → u < n → head_of heads u ≡ None
IsFirst w heads n (Some f) = IsFound w heads n f

pub is-next : (w : World) (heads : List (Option Entry)) (n : ℕ) (first : Option First) → IsFirst w heads n first
    → IsNext w heads n (option_map (λ f. f.node) first)
is-next w heads n None h = h
is-next w heads n (Some f) h = (
  h.within,
  h.entry,
  h.head,
  λ u other below head.
      subst (λ (i : ℕ). is_no_later (rank w f.node h.entry) i (rank w u other) other.instant ≡ true) h.instant_is
      (subst (λ (r : ℕ). is_no_later r f.instant (rank w u other) other.instant ≡ true) h.rank_is
      (h.least u other below head)),
)

later-itself : (r i : ℕ) → is_no_later r i r i ≡ true
later-itself r i = grind (arith, common_steps, nat_tests)

later-on : (r i s j q k : ℕ) → is_no_later r i s j ≡ true → is_no_later s j q k ≡ true → is_no_later r i q k ≡ true
later-on r i s j q k a b = grind (arith, common_steps, nat_tests)

later-not : (r i s j : ℕ) → is_no_later r i s j ≡ false → is_no_later s j r i ≡ true
later-not r i s j a = grind (arith, common_steps, nat_tests)

below-or_last : (u n : ℕ) → u < n + 1 → (u < n) ⊎ (u ≡ n)
below-or_last u n h = grind (arith, common_steps, nat_tests)

-- the first of the first n records is no later than the next one
still-found : (w : World) (heads : List (Option Entry)) (n : ℕ) (f : First) → IsFound w heads n f
    → ((other : Entry) → head_of heads n ≡ Some other → is_no_later f.rank f.instant (rank w n other) other.instant ≡ true)
    → IsFound w heads (n + 1) f
still-found w heads n f h next = record {
  within = let a = h.within in omega (arith, a);
  entry = h.entry;
  head = h.head;
  rank_is = h.rank_is;
  instant_is = h.instant_is;
  least = λ u other below there. by u other there (below-or_last u n below);
}
  where
    by : (u : ℕ) (other : Entry) → head_of heads u ≡ Some other → (u < n) ⊎ (u ≡ n)
        → is_no_later f.rank f.instant (rank w u other) other.instant ≡ true
    by u other there (inl less) = h.least u other less there
    by u other there (inr same) = rw same (next other (ap (head_of heads) (sym same) ∙ there))

-- a record that is read to its end
pub passed-over : (w : World) (heads : List (Option Entry)) (n : ℕ) (first : Option First) → head_of heads n ≡ None
    → IsFirst w heads n first → IsFirst w heads (n + 1) first
passed-over w heads n None none h = λ u below. by u (below-or_last u n below)
  where
    by : (u : ℕ) → (u < n) ⊎ (u ≡ n) → head_of heads u ≡ None
    by u (inl less) = h u less
    by u (inr same) = ap (head_of heads) same ∙ none
passed-over w heads n (Some f) none h =
    still-found w heads n f h (λ other there. let e : None ≡ Some other = sym none ∙ there in absurd cc)

-- one more next entry
module _ (w : World) (heads : List (Option Entry)) (n : ℕ) (e : Entry) (turn : First) (head : head_of heads n ≡ Some e) (node : turn.node ≡ n) (rank_is : turn.rank ≡ rank w n e) (instant : turn.instant ≡ e.instant) where
  same-entry : (other : Entry) → head_of heads n ≡ Some other → e ≡ other
  same-entry other h = let s : Some e ≡ Some other = sym head ∙ h in cc

  own-turn : is_no_later turn.rank turn.instant (rank w n e) e.instant ≡ true
  own-turn = rw (rank_is, instant) (later-itself (rank w n e) e.instant)

  turn-found : ((u : ℕ) (other : Entry) → u < n → head_of heads u ≡ Some other → is_no_later turn.rank turn.instant (rank w u other) other.instant ≡ true)
      → IsFound w heads (n + 1) turn
  turn-found h = record {
    within = omega (arith, node);
    entry = e;
    head = rw node head;
    rank_is = rw node rank_is;
    instant_is = instant;
    least = λ u other below there. by u other there (below-or_last u n below);
  }
    where
      by : (u : ℕ) (other : Entry) → head_of heads u ≡ Some other → (u < n) ⊎ (u ≡ n)
          → is_no_later turn.rank turn.instant (rank w u other) other.instant ≡ true
      by u other there (inl less) = h u other less there
      by u other there (inr same) =
          let there2 : head_of heads n ≡ Some other = ap (head_of heads) (sym same) ∙ there in
          rw (same, sym (same-entry other there2)) own-turn

  pub one-more : (first : Option First) → IsFirst w heads n first → IsFirst w heads (n + 1) (Some (earlier first turn))
  one-more None h = turn-found (λ u other less there. let s : None ≡ Some other = sym (h u less) ∙ there in absurd cc)
  one-more (Some f) h = by (is_no_later f.rank f.instant turn.rank turn.instant) refl
    where
      by : (b : Bool) → is_no_later f.rank f.instant turn.rank turn.instant ≡ b
          → IsFound w heads (n + 1) (if b then f else turn)
      by true le =
          still-found w heads n f h (λ other there. rw (sym (same-entry other there), sym rank_is, sym instant) le)
      by false late =
          turn-found (λ u other less there.
          later-on turn.rank turn.instant f.rank f.instant (rank w u other) other.instant
          (later-not f.rank f.instant turn.rank turn.instant late) (h.least u other less there))

-- whatever the next entry of the n-th record is
pub first-more : (w : World) (heads : List (Option Entry)) (n : ℕ) (first : Option First) → IsFirst w heads n first
    → IsFirst w heads (n + 1) (with_head w n (head_of heads n) first)
first-more w heads n first h = by (head_of heads n) refl
  where
    by : (o : Option Entry) → head_of heads n ≡ o → IsFirst w heads (n + 1) (with_head w n o first)
    by None e = passed-over w heads n first e h
    by (Some x) e =
        one-more w heads n x (record { node = n; rank = rank w n x; instant = x.instant }) e refl refl refl first h

-- Counts, number by number.
use Rattle.std.proofs.Common.{◌≡◌, ◌∙◌, ap, sym, ℕ, zero, suc, ◌+◌, ◌<◌, ◌≤◌, ◌^◌, ◌==◌, Bool, nat_lt, nat_le, if◌then◌else◌, List, [], ◌∷◌, length, take, slice_index_or, add-one, refl, arith}
use Rattle.std.specs.List.{count_by}
use Rattle.std.proofs.lemmas.Grind.{common_steps}
use Rattle.std.proofs.lemmas.List.Sums.{count_by-le-length}
use Rattle.settling_plot.specs.Tallies.{IsCountedIn, IsTally, runs_at, runs_by}

-- how many of the numbers are less than this one
abbrev pub runs_before : List ℕ → ℕ → ℕ
runs_before numbers n = count_by (λ k. nat_lt k n) numbers

-- those of one number more
pub by_more : (numbers : List ℕ) (n : ℕ) → runs_by numbers n ≡ runs_before numbers n + runs_at numbers n
by_more [] n = refl
by_more (k ∷ numbers) n = let rest = by_more numbers n in grind (arith, common_steps, rest)

pub before_more : (numbers : List ℕ) (n : ℕ) → runs_before numbers (n + 1) ≡ runs_by numbers n
before_more [] n = refl
before_more (k ∷ numbers) n = let rest = before_more numbers n in grind (arith, common_steps, rest)

-- none is less than 0
pub before_none : (numbers : List ℕ) → runs_before numbers 0 ≡ 0
before_none [] = refl
before_none (k ∷ numbers) = let rest = before_none numbers in grind (arith, common_steps, rest)

-- one item more of a list
count_more : (p : ℕ → Bool) (xs : List ℕ) (i d : ℕ) → i < length xs
    → count_by p (take (suc i) xs) ≡ count_by p (take i xs) + (if p (slice_index_or xs i d) then 1 else 0)
count_more p [] i d within = grind (arith, common_steps)
count_more p (x ∷ xs) zero d within = grind (arith, common_steps)
count_more p (x ∷ xs) (suc i) d within = let rest = count_more p xs i d (omega (arith, within)) in grind (arith, common_steps, rest)

-- nothing is counted yet
pub begun : (last : ℕ) (tally : List ℕ) → length tally ≡ last + 1 → ((n : ℕ) → n < length tally → slice_index_or tally n 0 ≡ 0) → IsTally [] last tally
begun last tally places none = record { places = places; counts = none }

-- one number more is counted
pub counted : (numbers : List ℕ) (i last number : ℕ) (old new : List ℕ) → i < length numbers → number ≡ slice_index_or numbers i 0
    → IsTally (take i numbers) last old → IsCountedIn old number new → IsTally (take (i + 1) numbers) last new
counted numbers i last number old new within is so_far one = record {
  places = one.places ∙ so_far.places;
  counts = λ n inside.
      let there : n < length old = rw one.places at inside in
      one.counts n there
      ∙ ap (λ k. k + (if number == n then 1 else 0)) (so_far.counts n there)
      ∙ ap (λ k. runs_at (take i numbers) n + (if k == n then 1 else 0)) is
      ∙ sym (count_more (λ k. k == n) numbers i 0 within)
      ∙ ap (λ k. runs_at (take k numbers) n) (sym (add-one i));
}

-- no count is greater than there are numbers
pub count_few : (numbers : List ℕ) (last : ℕ) (tally : List ℕ) → length numbers < 2 ^ 63 → IsTally numbers last tally
    → (n : ℕ) → n < length tally → slice_index_or tally n 0 < 2 ^ 63
count_few numbers last tally few t n there =
    let is = t.counts n there in
    let most = count_by-le-length (λ k. k == n) numbers in
    omega (arith, is, most, few)

pub by_few : (numbers : List ℕ) (n : ℕ) → runs_by numbers n ≤ length numbers
by_few numbers n = count_by-le-length (λ k. nat_le k n) numbers

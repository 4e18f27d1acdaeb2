-- One more send spends one more place.
use Rattle.std.proofs.Common.{◌≡◌, ℕ, zero, suc, ◌+◌, ◌<◌, List, [], ◌∷◌, ◌++◌, drop, length, refl, arith, length-append, length-drop}
use Rattle.weaving.specs.declared.journal.Stamped.{Stamped}
use Rattle.weaving.specs.Matched.{AreAbove, stamps}
use Rattle.node_runner.proofs.Stamps.{above-push, stamps-push, length-stamps, drop-push, drop-past}

-- what a sender knows about its places: the record IsSender without its ring
pub record Spends (f free : ℕ) (sends : List Stamped) (places : List ℕ) : Type 0 where
  pub spent : length sends + free ≡ f + length places
  pub first : 0 < free → places ≡ []
  pub later : AreAbove (drop f (stamps sends)) places

pub spends-more : (f free free' : ℕ) (sends : List Stamped) (s : Stamped) (places places' : List ℕ) → Spends f free sends places
    → (0 < free → (free' + 1 ≡ free) × (places' ≡ places))
    → (free ≡ 0 → (free' ≡ 0) × (place : ℕ) × (place < s.stamp) × (places' ≡ places ++ place ∷ []))
    → Spends f free' (sends ++ s ∷ []) places'
spends-more f zero free' sends s places places' was first back =
    let b = back refl in
    let long : length (stamps sends) ≡ f + length places = let n = length-stamps sends in let m = was.spent in omega arith in
    let same : length (drop f (stamps sends)) ≡ length places = omega (arith, length-drop f (stamps sends)) in
    let push = drop-push f (stamps sends) s.stamp (omega arith) in
    let above = above-push (drop f (stamps sends)) places s.stamp b.1 was.later same b.2 in
    record {
      spent = let n = length-append sends (s ∷ []) in let m = length-append places (b.1 ∷ []) in let k = was.spent in let z = b.0 in rw b.3 (omega arith);
      first = λ some. absurd (let z = b.0 in omega arith);
      later = rw (b.3, stamps-push sends s, push) above;
    }
spends-more f (suc free) free' sends s places places' was first back =
    let a = first (omega arith) in
    let none = was.first (omega arith) in
    let empty : length places ≡ 0 = rw none refl in
    let long = length-append sends (s ∷ []) in
    let many = length-stamps (sends ++ s ∷ []) in
    let fewer = a.0 in
    let k = was.spent in
    record {
      spent = rw a.1 (omega arith);
      first = λ some. rw a.1 none;
      later = rw (drop-past f (stamps (sends ++ s ∷ [])) (omega arith)) tt;
    }

-- What a reader with room for n bytes keeps of a line under way.
use Rattle.std.specs.Prelude.{◌≡◌, ℕ, Bool, ◌||◌, nat_lt, List, ◌++◌, length, take, map}
use Rattle.byte_lines.specs.Lines.{lines_after, half_after, whole_lines, half_line}

-- the first bytes of a line, and whether it has more
pub record Kept : Type 0 where
  pub first : List ℕ
  pub is_long : Bool

-- what is kept of a line
abbrev pub kept : ℕ → List ℕ → Kept
kept n line = record { first = take n line; is_long = nat_lt n (length line) }

-- what is kept of the line once more bytes have come after it
abbrev pub kept_more : ℕ → Kept → List ℕ → Kept
kept_more n k more = record {
  first = take n (k.first ++ more);
  is_long = k.is_long
      || nat_lt n (length (k.first ++ more));
}

-- Whatever half line was kept before, what is kept now is the half line at the end of these bytes;
-- and `said` is what the lines that end in them are read as.
pub record Reads {X : Type 0} (n : ℕ) (reading : List ℕ
    → X) (old new : Kept) (bytes : List ℕ) (said : List X) : Type 0 where
  pub half : (half : List ℕ) → old ≡ kept n half → new ≡ kept n (half_after half bytes)
  pub lines : (half : List ℕ) → old ≡ kept n half → said ≡ map reading (lines_after half bytes)

-- a reader stands after these bytes if it keeps their half line
abbrev pub StandsAfter : ℕ → List ℕ → Kept → Type 0
StandsAfter n bytes k = k ≡ kept n (half_line bytes)

-- whatever bytes a reader stood after, it now stands after those and these, and has said what each
-- line that these ended is read as
abbrev pub ReadsOn : {X : Type 0} → ℕ → (List ℕ → X) → Kept → Kept → List ℕ → List X → Type 0
ReadsOn n reading old new more said =
    (bytes : List ℕ) → StandsAfter n bytes old
    → StandsAfter n (bytes ++ more) new
    × (map reading (whole_lines (bytes ++ more)) ≡ map reading (whole_lines bytes) ++ said)

-- Stills, which moments they stand for, and what is joined.
use Rattle.std.specs.Prelude.{◌≡◌, ◌⊎◌, ◌<◌, length, ◌||◌, ◌&&◌, not, nat_le, max, if◌then◌else◌, Bool, true, false, IsTrue, List, [], ◌∷◌, ◌++◌}
use Rattle.std.specs.List.{AllByRecursion}
use Rattle.run_recording.specs.declared.still.Still.{Still}

-- there was damage, or two nodes are privileged, or two lend
abbrev pub is_weighty : Still → Bool
is_weighty s = s.damaged || nat_le 2 s.privileged || nat_le 2 s.lending

-- both show the same nodes in the same way, and the same edges
pub record IsLike (a b : Still) : Type 0 where
  pub looks : a.looks ≡ b.looks
  pub places : a.places ≡ b.places
  pub edges : a.edges ≡ b.edges

-- one still for the moments of two: it shows the later one, whether there was damage at either, and
-- the greater counts
abbrev pub joined : Still → Still → Still
joined a b = record b { damaged = a.damaged || b.damaged; privileged = max a.privileged b.privileged; lending = max a.lending b.lending }

-- one still for a moment and those after it
abbrev pub together : Still → List Still → Still
together first [] = first
together first (next ∷ later) = joined first (together next later)

-- each weighty one of these moments looks as the still shows it
abbrev pub IsFaithful : Still → List Still → Type 0
IsFaithful still moments = AllByRecursion (λ m. IsTrue (is_weighty m) → IsLike m still) moments

-- These stills stand for these moments, in their order: each for a stretch of them, of which it
-- shows the last. If they are not crowded, each weighty moment looks as its still shows it.
pub data StandFor (crowded : Bool) : List Still → List Still → Type 0 where
  Nothing : StandFor crowded [] []
  Further : (first : Still) (later : List Still) {moments stills : List Still}
      → (crowded ≡ false → IsFaithful (together first later) (first ∷ later))
      → StandFor crowded moments stills → StandFor crowded (first ∷ (later ++ moments)) (together first later ∷ stills)

-- the last still, if there is one, stands for one moment more
abbrev pub with_last : List Still → Still → List Still
with_last [] moment = []
with_last (a ∷ []) moment = joined a moment ∷ []
with_last (a ∷ b ∷ stills) moment = a ∷ with_last (b ∷ stills) moment

-- two neighbouring stills may be joined, since neither is weighty
abbrev pub are_calm : Still → Still → Bool
are_calm a b = not (is_weighty a) && not (is_weighty b)

-- neighbouring stills joined in pairs: all, or only those that are calm; the others stay, and so
-- does an odd one at the end
abbrev pub folded : Bool → List Still → List Still
folded all [] = []
folded all (a ∷ []) = a ∷ []
folded all (a ∷ b ∷ stills) = if all || are_calm a b then joined a b ∷ folded all stills else a ∷ folded all (b ∷ stills)

-- there is a last still, and it may stand for one moment more, since it shows what is seen then, or
-- since neither is weighty
abbrev pub MayJoin : List Still → Still → Type 0
MayJoin [] moment = ⊥
MayJoin (a ∷ []) moment = IsLike a moment ⊎ IsTrue (are_calm a moment)
MayJoin (a ∷ b ∷ stills) moment = MayJoin (b ∷ stills) moment

-- the same, or since the stills are crowded and there is a last one
abbrev pub MayLast : Bool → List Still → Still → Type 0
MayLast crowded stills moment = MayJoin stills moment ⊎ ((crowded ≡ true) × (0 < length stills))

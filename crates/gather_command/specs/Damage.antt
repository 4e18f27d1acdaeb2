-- How nodes differ from what their records led to: which node, when, and which field.
use Rattle.std.specs.Prelude.{ℕ, nat_lt, if◌then◌else◌, List, [], ◌∷◌, ◌++◌, Option, Some, None, length, fold}
use Rattle.record_gathering.specs.Counts.{one_more}
use Rattle.record_gathering.specs.declared.fields.Field.{Field}
use Rattle.gather_command.specs.declared.damage.Difference.{Difference}

-- the first differences, and how many there are
pub record DamageView : Type 0 where
  pub shown : List Difference
  pub count : ℕ

abbrev pub no_damage : DamageView
no_damage = record { shown = []; count = 0 }

-- one difference more; the first 64 are kept
abbrev pub with_difference : DamageView → Difference → DamageView
with_difference d x = record {
  shown = if nat_lt (length d.shown) 64 then d.shown ++ x ∷ [] else d.shown;
  count = one_more d.count;
}

-- a field of v differs too, at an instant, if there is one
abbrev pub with_field : ℕ → ℕ → DamageView → Option Field → DamageView
with_field v instant d None = d
with_field v instant d (Some f) = with_difference d (record { node = v; instant = instant; field = f })

-- these fields of v differ too, at an instant
abbrev pub with_fields : DamageView → ℕ → ℕ → List (Option Field) → DamageView
with_fields d v instant fs = fold (with_field v instant) d fs

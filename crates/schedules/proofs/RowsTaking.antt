-- Rows: a sink that counts what it takes.
use Rattle.std.proofs.Common.{◌≡◌, ℕ, ◌+◌, List, [], ◌∷◌, ◌++◌, length, length-append, refl, arith}
use Rattle.configuration.specs.run_model.declared.event.Event.{Event}
use Rattle.configuration.specs.run_model.declared.event.Event.TheVariants.{Tick}
use Rattle.schedules.specs.Taking.{TakesBoth, IsUnderWay}

-- from one count to another it has taken these events
abbrev counts : ℕ → List Event → ℕ → Type 0
counts a events b = b ≡ a + length events

-- it takes in two parts what it takes,
both : TakesBoth counts
both a b c xs ys one two = omega (arith, one, two, length-append xs ys)

-- and of three ticks it has taken the first if one is counted
first : IsUnderWay counts 5 (Tick 0 ∷ Tick 1 ∷ Tick 2 ∷ []) (Tick 1 ∷ Tick 2 ∷ []) 6
first = record { done = Tick 0 ∷ []; parts = refl; taken = refl }

none-taken : (done : List Event) → [] ≡ done ++ [] → 6 ≡ 5 + length done → ⊥
none-taken [] parts taken = grind arith
none-taken (e ∷ es) parts taken = grind arith

-- of an empty list there is nothing to count
not_first : IsUnderWay counts 5 [] [] 6 → ⊥
not_first way = none-taken way.done way.parts way.taken

-- What the answers of a store say.
use Rattle.std.proofs.Common.{[], ◌∷◌, Some, None, Ok, Err, refl, arith}
use Rattle.state_writing.specs.Stores.{MayBeAbsent, AreStored, Loads, Saves}
use Rattle.state_writing.specs.declared.store.StoreFault.TheVariants as store

absent : MayBeAbsent (Some None)
absent = tt

absent_not-stored : ¬ MayBeAbsent (Some (Some []))
absent_not-stored out = out

stored : AreStored (1 ∷ 2 ∷ []) (Some (Some (1 ∷ 2 ∷ [])))
stored = refl

stored_not-other : ¬ AreStored (1 ∷ []) (Some (Some (1 ∷ 2 ∷ [])))
stored_not-other are = grind (arith, are)

stored_not-nothing : ¬ AreStored [] (Some None)
stored_not-nothing out = out

-- a load gives what is stored, and leaves it
loads : Loads (Ok 2) (Some (Some (1 ∷ 2 ∷ []))) (Some (Some (1 ∷ 2 ∷ []))) (1 ∷ 2 ∷ 9 ∷ []) 3 3
loads = (omega arith, refl, refl, omega arith)

loads_not-less : ¬ Loads (Ok 1) (Some (Some (1 ∷ 2 ∷ []))) (Some (Some (1 ∷ 2 ∷ []))) (1 ∷ 2 ∷ 9 ∷ []) 3 3
loads_not-less gives = grind (arith, gives.1)

loads_not-taken : ¬ Loads (Ok 2) (Some (Some (1 ∷ 2 ∷ []))) (Some None) (1 ∷ 2 ∷ 9 ∷ []) 3 3
loads_not-taken gives = grind (arith, gives.2)

-- something stored is not absent, and a failure is counted
loads_not-absent : ¬ Loads (Err store.Absent) (Some (Some [])) (Some (Some [])) [] 3 3
loads_not-absent gives = gives.0

loads_not-uncounted : ¬ Loads (Err store.Device) (Some None) (Some None) [] 3 3
loads_not-uncounted gives = grind (arith, gives.2)

-- a save puts its bytes in place of what was there
saves : Saves (Ok tt) (7 ∷ []) (Some (Some (1 ∷ []))) (Some (Some (7 ∷ []))) 3 3
saves = (refl, omega arith)

saves_not-kept : ¬ Saves (Ok tt) (7 ∷ []) (Some (Some (1 ∷ []))) (Some (Some (1 ∷ []))) 3 3
saves_not-kept gives = grind (arith, gives.0)

saves_not-absent : ¬ Saves (Err store.Absent) (7 ∷ []) (Some None) (Some None) 3 4
saves_not-absent out = out

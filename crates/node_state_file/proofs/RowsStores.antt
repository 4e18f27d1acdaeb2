-- How a node starts from what is stored, and of which states bytes are the spelling.
use Rattle.std.proofs.Common.{◌≡◌, ℕ, ◌<◌, IsTrue, List, [], ◌∷◌, ◌++◌, subst, Some, None, Ok, Err, refl, arith}
use Rattle.std.proofs.lemmas.List.Elements.{All-nil, All-cons}
use Rattle.topology.specs.Ranges.{ranges_of}
use Rattle.state_writing.specs.node_core.data_link.Port.{port_fits}
use Rattle.state_writing.specs.node_core.lock_desk.Desk.{no_desk}
use Rattle.state_writing.specs.node_core.Rewire.{rewired}
use Rattle.state_writing.specs.node_core.State.{LocalState, default_node}
use Rattle.node_state_file.specs.declared.fault.FileFault.TheVariants.{Long, Short}
use Rattle.state_writing.specs.declared.layout.FileLayout.TheVariants.{Tkt1, Tkt2}
use Rattle.state_writing.specs.declared.layout.FileLayout.{FileLayout}
use Rattle.node_state_file.specs.declared.starting.StartFault.TheVariants as start
use Rattle.node_state_file.specs.Laws.{MayBeNeighbours, IsSavable, IsSpelled}
use Rattle.node_state_file.specs.Reading.{decoded}
use Rattle.state_writing.specs.Spelling.{magic}
use Rattle.node_state_file.specs.Stores.{Starts}
use Rattle.node_state_file.proofs.Rows.{two, newer}

-- ---- how a node starts

abbrev first : LocalState
first = default_node (ranges_of two)

starts-absent : Starts two 1 (Some None) 3 3 (Some start.Absent) first
starts-absent = (tt, refl)

-- a node that finds nothing starts with no other state
starts_not-other : ¬ Starts two 1 (Some None) 3 3 (Some start.Absent) (record first { distance = 0 })
starts_not-other starts = grind (arith, starts.1)

-- nor does one that finds a file say that there is none
starts_not-absent : ¬ Starts two 1 (Some (Some newer)) 3 3 (Some start.Absent) first
starts_not-absent starts = starts.0

-- a file of three bytes is short
starts-short : Starts two 1 (Some (Some (84 ∷ 75 ∷ 84 ∷ []))) 3 3 (Some (start.File Short)) first
starts-short = (84 ∷ 75 ∷ 84 ∷ [], refl, refl, refl)

starts_not-long : ¬ Starts two 1 (Some (Some (84 ∷ 75 ∷ 84 ∷ []))) 3 3 (Some (start.File Long)) first
starts_not-long starts =
    let short : decoded two 1 (84 ∷ 75 ∷ 84 ∷ []) ≡ Err Long = subst (λ bytes. decoded two 1 bytes ≡ Err Long) starts.1 starts.2 in
    grind (arith, short)

-- and a file with a fault is read as no state
starts_not-read : (s : LocalState) → ¬ Starts two 1 (Some (Some (84 ∷ 75 ∷ 84 ∷ []))) 3 3 None s
starts_not-read s starts =
    let short : decoded two 1 (84 ∷ 75 ∷ 84 ∷ []) ≡ Ok s = subst (λ bytes. decoded two 1 bytes ≡ Ok s) starts.1 starts.2 in
    grind (arith, short)

-- ---- spellings

neighbours : MayBeNeighbours 3 1 (0 ∷ 2 ∷ [])
neighbours = record { some = omega arith; few = omega arith; ascending = refl; others = refl }

neighbours_not-none : ¬ MayBeNeighbours 3 1 []
neighbours_not-none may = omega (arith, may.some)

neighbours_not-turned : ¬ MayBeNeighbours 3 1 (2 ∷ 0 ∷ [])
neighbours_not-turned may = grind (arith, may.ascending)

neighbours_not-itself : ¬ MayBeNeighbours 3 1 (1 ∷ [])
neighbours_not-itself may = grind (arith, may.others)

savable : IsSavable two (0 ∷ []) first
savable = record {
  own = refl;
  ports = All-cons (λ w. IsTrue (port_fits (ranges_of two) (first.port w))) 0 [] refl (All-nil (λ w. IsTrue (port_fits (ranges_of two) (first.port w))));
  values = All-cons (λ w. first.value w < (ranges_of two).ring) 0 [] (omega arith) (All-nil (λ w. first.value w < (ranges_of two).ring));
}

-- a distance of 3 is no distance on two nodes, and 7 is no value of a ring of 7
savable_not-distance : ¬ IsSavable two (0 ∷ []) (record first { distance = 3 })
savable_not-distance may = grind (arith, may.own)

savable_not-value : ¬ IsSavable two (0 ∷ []) (record first { value = λ w. 7 })
savable_not-value may = let low : 7 < 7 = may.values 0 0 (omega arith) in omega (arith, low)

spelled : IsSpelled two 1 newer (record (rewired (ranges_of two) (0 ∷ []) (0 ∷ []) first) { desk = no_desk })
spelled = record {
  layout = Tkt2;
  ids = 0 ∷ [];
  saved = first;
  neighbours = record { some = omega arith; few = omega arith; ascending = refl; others = refl };
  range = savable;
  bytes_are = refl;
  read = refl;
}

-- no bytes are the spelling of no state
none-spelled : (layout : FileLayout) (rest : List ℕ) → [] ≡ magic layout ++ rest → ⊥
none-spelled Tkt1 rest e = grind (arith, e)
none-spelled Tkt2 rest e = grind (arith, e)

spelled_not-empty : (s : LocalState) → ¬ IsSpelled two 1 [] s
spelled_not-empty s is = none-spelled is.layout _ is.bytes_are

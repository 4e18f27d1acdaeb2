-- What a node does after a turn that saved its state.
use Rattle.std.proofs.Common.{◌≡◌, ◌≢◌, ◌↔◌, Bool, true, false, if◌then◌else◌, refl, subst, arith}
use Rattle.std.proofs.lemmas.Grind.{common_steps}
use Rattle.node_keeping.specs.declared.sight.FileSight.TheVariants.{NotOwn}
use Rattle.node_keeping.specs.declared.saved.StopSight.{StopSight}
use Rattle.node_keeping.specs.declared.saved.StopSight.TheVariants.{Absent, Removed, Stays}
use Rattle.node_keeping.specs.declared.saved.Sights.{Sights}
use Rattle.node_keeping.specs.declared.saved.Lost.{Lost}
use Rattle.node_keeping.specs.declared.saved.AfterSave.{AfterSave}
use Rattle.node_keeping.specs.declared.saved.AfterSave.TheVariants.{Displaced, Stop, GoOn}
use Rattle.node_keeping.specs.AfterSave.{after_save, in_place, looks_for_stop, lost_of}

displaced-first : (sights : Sights) → after_save sights ≡ Displaced → sights.place ≡ NotOwn
displaced-first sights h = grind (arith, common_steps)

displaced-then : (sights : Sights) → sights.place ≡ NotOwn → after_save sights ≡ Displaced
displaced-then sights h = grind (arith, common_steps)

pub displaced : (sights : Sights) → (after_save sights ≡ Displaced) ↔ (sights.place ≡ NotOwn)
displaced sights = (displaced-first sights, displaced-then sights)

on-place : (sights : Sights) (lost : Lost) → after_save sights ≡ GoOn lost → sights.place ≢ NotOwn
on-place sights lost h = grind (arith, common_steps)

on-stop : (sights : Sights) (lost : Lost) → after_save sights ≡ GoOn lost → sights.stop ≡ Absent
on-stop sights lost h = grind (arith, common_steps)

on-asked : (sights : Sights) (lost : Lost) → after_save sights ≡ GoOn lost → sights.is_asked ≡ false
on-asked sights lost h = grind (arith, common_steps)

-- what is made again by whoever runs on; another value for whoever ends
abbrev lost_in : Lost → AfterSave → Lost
lost_in other (GoOn lost) = lost
lost_in other _ = other

by-asked : (lost : Lost) (ended : Bool) → lost_in lost (if ended then Stop else GoOn lost) ≡ lost
by-asked lost true = refl
by-asked lost false = refl

by-stop : (sights : Sights) (stop : StopSight) → lost_in (lost_of sights) (in_place sights stop) ≡ lost_of sights
by-stop sights Stays = refl
by-stop sights Removed = refl
by-stop sights Absent = by-asked (lost_of sights) sights.is_asked

by-place : (sights : Sights) (own : Bool)
    → lost_in (lost_of sights) (if own then in_place sights sights.stop else Displaced) ≡ lost_of sights
by-place sights true = by-stop sights sights.stop
by-place sights false = refl

on-lost : (sights : Sights) (lost : Lost) → after_save sights ≡ GoOn lost → lost ≡ lost_of sights
on-lost sights lost h =
    subst (λ next. lost_in (lost_of sights) next ≡ lost_of sights) h (by-place sights (looks_for_stop sights.place))

pub runs_on : (sights : Sights) (lost : Lost) → after_save sights ≡ GoOn lost
    → (sights.place ≢ NotOwn) × (sights.stop ≡ Absent) × (sights.is_asked ≡ false)
    × (lost ≡ lost_of sights)
runs_on sights lost h = (
  on-place sights lost h,
  on-stop sights lost h,
  on-asked sights lost h,
  on-lost sights lost h,
)

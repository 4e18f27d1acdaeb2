-- What `measure --csv` prints: a row for each run, after a header.
use Rattle.std.specs.Prelude.{◌≡◌, ℕ, Bool, ◌&&◌, nat_le, if◌then◌else◌, List, [], ◌∷◌, ◌++◌, All, IsTrue, ◌↔◌, codes, decimal}
use Rattle.topology.specs.Network.{Network}
use Rattle.topology.specs.Eccentricity.{sharp_of}
use Rattle.experiments.specs.Layered.{IsSettlingOf}
use Rattle.experiments.specs.declared.layered_run.Settling.{Settling}
use Rattle.subcommands.specs.Measured.{AreRunsOf}
use Rattle.subcommands.specs.declared.measure.MeasurePlan.{MeasurePlan}

-- a run had as many sweeps as the bound says, and served by then
abbrev pub has_settled : Settling → ℕ → Bool
has_settled s bound = nat_le bound s.seen && nat_le s.served bound

-- its seed, how many events it had, and after how many sweeps the links were stable, the tree was
-- reached, the token ring was good, and the network served, permanently; these four are empty if
-- the run has not served
abbrev pub csv_row : ℕ → Settling → List ℕ
csv_row bound s =
    decimal s.seed ++ (codes "," ++ (decimal s.events
    ++ ((if has_settled s bound
    then codes "," ++ (decimal s.links ++ (codes "," ++ (decimal s.tree ++ (codes "," ++ (decimal s.ring ++ (codes "," ++ decimal s.served))))))
    else codes ",,,,") ++ codes "\n")))

abbrev pub csv_rows : ℕ → List Settling → List ℕ
csv_rows bound [] = []
csv_rows bound (s ∷ ss) = csv_row bound s ++ csv_rows bound ss

-- the names of the columns, and the rows
abbrev pub csv_text : ℕ → List Settling → List ℕ
csv_text bound ss = codes "seed,events,links,tree,ring,served\n" ++ csv_rows bound ss

-- each run has served
abbrev pub HaveSettled : List Settling → ℕ → Type 0
HaveSettled ss bound = All (λ s. IsTrue (has_settled s bound)) ss

-- the text is that of the runs of a plan on a network, and the flag says whether each has served
pub record IsPlanCsv (net : Network) (plan : MeasurePlan) (text : List ℕ) (served : Bool) : Type 0 where
  pub runs : List Settling
  pub are_runs : AreRunsOf (IsSettlingOf net plan.scheduler) plan runs
  pub text_is : text ≡ csv_text (sharp_of net) runs
  pub served_is : IsTrue served ↔ HaveSettled runs (sharp_of net)

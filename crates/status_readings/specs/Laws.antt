-- Laws of verdicts.
use Rattle.std.specs.Prelude.{◌≡◌, ◌≢◌, ◌⊎◌, ◌≤◌, false, List, length, filter}
use Rattle.std.specs.List.{list_any}
use Rattle.topology.specs.Network.{Network}
use Rattle.status_readings.specs.declared.answers.NodeAnswer.{NodeAnswer}
use Rattle.status_readings.specs.Report.{lends}
use Rattle.status_readings.specs.declared.findings.Severity.TheVariants.{Fine, Critical}
use Rattle.status_readings.specs.Verdict.{finding, severity, is_faulty}

-- exactly one node lends
abbrev pub OneLends : List NodeAnswer → Type 0
OneLends answers = length (filter lends answers) ≡ 1

-- three readings are not critical if exactly one node lends in at least one of them
abbrev pub OneLoanIsNotCritical : Type 0
OneLoanIsNotCritical = (net : Network) (a b c : List NodeAnswer)
    → OneLends a ⊎ (OneLends b ⊎ OneLends c) → severity (finding net a b c) ≢ Critical

-- each answer is there and true of the node that it names, and at most one says that its node lends
abbrev pub IsWell : Network → List NodeAnswer → Type 0
IsWell net answers = (list_any (is_faulty net) answers ≡ false) × (length (filter lends answers) ≤ 1)

-- if all is said to be well, each reading is
abbrev pub FineIsTrue : Type 0
FineIsTrue = (net : Network) (a b c : List NodeAnswer)
    → severity (finding net a b c) ≡ Fine → IsWell net a × IsWell net b × IsWell net c

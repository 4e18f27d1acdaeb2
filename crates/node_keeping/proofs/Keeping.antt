-- What `up` makes of a node, whatever it sees.
use Rattle.std.proofs.Common.{◌≡◌, ◌≢◌, ◌<◌, ◌≤◌, ◌+◌, ◌⊎◌, inl, inr, ℕ, zero, suc, Bool, true, false, nat_lt, if◌then◌else◌, List, [], ◌∷◌}
use Rattle.std.proofs.Common.{length, filter, arith, refl}
use Rattle.std.proofs.lemmas.Grind.{common_steps}
use Rattle.std.proofs.lemmas.Bool.Decides.{nat_tests}
use Rattle.node_texts.specs.declared.lines.End.{End}
use Rattle.node_texts.specs.declared.lines.End.TheVariants.{Status}
use Rattle.node_keeping.specs.declared.keeper.KeeperStage.{KeeperStage}
use Rattle.node_keeping.specs.declared.keeper.KeeperStage.TheVariants.{Starts, Runs, Closes, Left, Over}
use Rattle.node_keeping.specs.declared.keeper.Seen.{Seen}
use Rattle.node_keeping.specs.declared.keeper.Seen.TheVariants.{Ended}
use Rattle.node_keeping.specs.declared.keeper.KeeperDeed.TheVariants.{Rest, Start, SayAgain}
use Rattle.node_keeping.specs.Steps.{stage_after, stage_after_all, failures_after, deed_at, deeds, asked_after, looks}
use Rattle.node_keeping.specs.Steps.{is_failed, failures_now}
use Rattle.node_keeping.specs.Laws.{is_start, is_kill}

-- a node that is to end, or is over
abbrev is_ending : KeeperStage → Bool
is_ending (Closes looks) = true
is_ending Over = true
is_ending _ = false

ends : (stage : KeeperStage) → is_ending (asked_after stage) ≡ true
ends stage = grind (arith, common_steps)

ending-stays : (seen : Seen) (failures : ℕ) (stage : KeeperStage) → is_ending stage ≡ true → is_ending (stage_after seen failures stage) ≡ true
ending-stays seen failures stage h = grind (arith, common_steps)

ending-rests : (seen : Seen) (failures : ℕ) (stage : KeeperStage) → is_ending stage ≡ true → is_start (deed_at seen failures stage) ≡ false
ending-rests seen failures stage h = grind (arith, common_steps)

nobody : (failures : ℕ) (stage : KeeperStage) (seen : List Seen) → is_ending stage ≡ true → filter is_start (deeds failures stage seen) ≡ []
nobody failures stage [] h = refl
nobody failures stage (s ∷ ss) h =
    let rests : _ = ending-rests s failures stage h in
    let rest : _ = nobody (failures_after s stage failures) (stage_after s failures stage) ss (ending-stays s failures stage h) in
    grind (arith, common_steps)

pub nobody_starts : (failures : ℕ) (stage : KeeperStage) (seen : List Seen) → filter is_start (deeds failures (asked_after stage) seen) ≡ []
nobody_starts failures stage seen = nobody failures (asked_after stage) seen (ends stage)

-- how often a node may still be killed
abbrev kills_left : KeeperStage → ℕ
kills_left Over = 0
kills_left _ = 1

kill-counted : (seen : Seen) (failures : ℕ) (stage : KeeperStage)
    → (if is_kill (deed_at seen failures stage) then 1 else 0) + kills_left (stage_after seen failures stage) ≤ kills_left stage
kill-counted seen failures stage = grind (arith, common_steps)

kills : (failures : ℕ) (stage : KeeperStage) (seen : List Seen) → length (filter is_kill (deeds failures stage seen)) ≤ kills_left stage
kills failures stage [] = omega arith
kills failures stage (s ∷ ss) =
    let one : _ = kill-counted s failures stage in
    let rest : _ = kills (failures_after s stage failures) (stage_after s failures stage) ss in
    grind (arith, common_steps)

once : (stage : KeeperStage) → kills_left stage ≤ 1
once stage = grind (arith, common_steps)

pub killed_once : (failures : ℕ) (stage : KeeperStage) (seen : List Seen) → length (filter is_kill (deeds failures stage seen)) ≤ 1
killed_once failures stage seen =
    let most : _ = kills failures stage seen in
    let few : _ = once stage in
    omega arith

pub over_in_time : (failures n : ℕ) → stage_after_all failures (Closes n) (looks (suc n)) ≡ Over
over_in_time failures zero = refl
over_in_time failures (suc n) = let rest : _ = over_in_time failures n in grind (arith, common_steps)

pub kills_in_time : (failures n : ℕ) → length (filter is_kill (deeds failures (Closes n) (looks (suc n)))) ≡ 1
kills_in_time failures zero = refl
kills_in_time failures (suc n) = let rest : _ = kills_in_time failures n in grind (arith, common_steps)

few : (n : ℕ) → n < 3 → nat_lt n 3 ≡ true
few n l = grind (arith, nat_tests, l)

pub again : (failures age : ℕ) (stage : KeeperStage) (end : End) → (stage ≡ Starts) ⊎ ((stage ≡ Runs age) × (failures_now end age failures < 3))
    → deeds failures stage (Ended end ∷ looks 11)
    ≡ SayAgain end ∷ Rest ∷ Rest ∷ Rest ∷ Rest ∷ Rest ∷ Rest ∷ Rest ∷ Rest ∷ Rest ∷ Rest ∷ Start ∷ []
again failures age stage end (inl starts) = rw starts refl
again failures age stage end (inr (runs, l)) = rw (runs, few (failures_now end age failures) l) refl

-- what is left alone failed
left-seen : (failures : ℕ) (stage : KeeperStage) (seen : Seen) → stage ≢ Left → stage_after seen failures stage ≡ Left
    → (status age : ℕ) × (seen ≡ Ended (Status status)) × (stage ≡ Runs age) × (is_failed (Status status) age ≡ true) × (2 ≤ failures)
left-seen failures (Runs age) (Ended (Status status)) n h =
    (status, age, refl, refl, grind (arith, common_steps), grind (arith, common_steps, nat_tests))
left-seen failures stage seen n h = grind (arith, common_steps)

pub left_alone : (failures : ℕ) (stage : KeeperStage) (seen : Seen) → stage ≢ Left → stage_after seen failures stage ≡ Left
    → (status age : ℕ) × (seen ≡ Ended (Status status)) × (stage ≡ Runs age) × (is_failed (Status status) age ≡ true) × (2 ≤ failures)
left_alone = left-seen

-- Premises, as the options of a command line give them.
use Rattle.std.specs.Prelude.{ℕ, ◌+◌, min, nat_le, if◌then◌else◌, List, ◌++◌, Option, Some, None, Result, Ok, Err, codes}
use Rattle.std.specs.Borrow.{Bor}
use Rattle.std.specs.Option.{option_map, unwrap_or}
use Rattle.recovery_times.specs.Reading.{micros_of}
use Rattle.recovery_times.specs.declared.premises.Premises.{Premises}
use Rattle.recovery_times.specs.declared.words.PremiseWords.{PremiseWords}
use Rattle.recovery_times.specs.declared.words.TimeFault.{TimeFault}
use Rattle.recovery_times.specs.declared.words.TimeFault.TheVariants.{Turn, Delay, Loan, Repeat}

-- the time, if it is one and no less than the least
abbrev pub no_less : ℕ → Option ℕ → Option ℕ
no_less least None = None
no_less least (Some micros) = if nat_le least micros then Some micros else None

-- the time that a word spells; without a word, the usual one
abbrev pub time_or : Option (Bor (List ℕ)) → ℕ → ℕ → Option ℕ
time_or None least usual = Some usual
time_or (Some word) least usual = no_less least (micros_of word.now)

-- what follows with the time, or the fault if there is none
abbrev pub or_fault : TimeFault → (ℕ → Result Premises TimeFault) → Option ℕ → Result Premises TimeFault
or_fault fault next None = Err fault
or_fault fault next (Some micros) = next micros

-- the longest loan that leaves the window as it is, and is at most an hour
abbrev pub free_loan : ℕ → ℕ → ℕ
free_loan repeat delay = min (repeat + delay) 3600000000

-- the time that a word spells; without a word there is none
abbrev pub time_if : Option (Bor (List ℕ)) → Option (Option ℕ)
time_if None = Some None
time_if (Some word) = option_map (λ micros. Some micros) (micros_of word.now)

-- what follows with that time, or the fault if there is a word and it is no time
abbrev pub if_or_fault : TimeFault → (Option ℕ → Result Premises TimeFault) → Option (Option ℕ) → Result Premises TimeFault
if_or_fault fault next None = Err fault
if_or_fault fault next (Some micros) = next micros

-- the premises that the words say, or the first option whose word is invalid; turns and repeated
-- frames take some time
abbrev pub premises_of : PremiseWords → Result Premises TimeFault
premises_of w =
    or_fault Turn (λ turn. or_fault Delay (λ delay. if_or_fault Loan (λ loan. or_fault Repeat (λ repeat.
    Ok (record { turn = turn; delay = delay; loan = unwrap_or loan (free_loan repeat delay); repeat = repeat }))
    (time_or w.repeat 1 8000)) (time_if w.loan)) (time_or w.delay 0 100))
    (time_or w.turn 1 2200)

-- the option, and the least time that it takes
abbrev pub option_name : TimeFault → List ℕ
option_name Turn = codes "--turn"
option_name Delay = codes "--delay"
option_name Loan = codes "--loan"
option_name Repeat = codes "--repeat"

abbrev pub least_text : TimeFault → List ℕ
least_text Turn = codes "0.001"
least_text Delay = codes "0"
least_text Loan = codes "0"
least_text Repeat = codes "0.001"

-- what the message says after the program's name
abbrev pub time_fault_text : TimeFault → List ℕ
time_fault_text fault =
    option_name fault
    ++ (codes " is no time from "
    ++ (least_text fault ++ codes " to 3600000 milliseconds, with at most 3 decimals"))

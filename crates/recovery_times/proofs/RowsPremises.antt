-- Premises by words, times of networks, and words that are invalid; by hand.
use Rattle.std.proofs.Common.{◌≡◌, ℕ, List, ◌∷◌, None, Some, [], Ok, Err, map, refl, ap, codes}
use Rattle.std.specs.Fmt.{digits}
use Rattle.std.specs.Borrow.{Bor}
use Rattle.std.specs.Option.{option_map, unwrap_or}
use Rattle.topology.specs.Network.{Network}
use Rattle.recovery_times.specs.declared.words.TimeFault.TheVariants.{Turn, Delay, Loan, Repeat}
use Rattle.recovery_times.specs.Times.{usual, lending_of, recovery_of}
use Rattle.line_words.specs.Numbers.{digits_up_to}
use Rattle.recovery_times.specs.Reading.{point_at, whole_of, thousandths_of, after_point, part_of, within_an_hour, micros_of}
use Rattle.recovery_times.specs.Text.{times_text}
use Rattle.recovery_times.specs.Words.{no_less, time_or, or_fault, free_loan, time_if, if_or_fault, premises_of, option_name, least_text, time_fault_text}

-- a ring of three: 51 sweeps and 8 * 2 * 2 for one who waits alone, of 12.5 ms each
abbrev ring_of_three : Network
ring_of_three = record { nodes = 3; root = 0; capacity = 64; lease = 0; edges = [] }

lends-alone : lending_of ring_of_three 0 usual ≡ 400000
lends-alone = refl

lends-third : lending_of ring_of_three 2 usual ≡ 800000
lends-third = refl

-- two nodes serve after 35 sweeps at the latest
abbrev two_nodes : Network
two_nodes = record { nodes = 2; root = 0; capacity = 1; lease = 0; edges = (0, 1) ∷ [] }

recovers : recovery_of two_nodes usual ≡ 437500
recovers = refl

recovers_not-sooner : recovery_of two_nodes (record usual { turn = 2300 }) ≡ 444500
recovers_not-sooner = refl

times-shown : times_text two_nodes usual ≡ codes "window 12.5 ms\nrecovers within 438 ms\nlends within 200 ms\n"
unfolding digits
times-shown = refl

-- ---- parts of a word

point-second : point_at (codes "2.2.1") ≡ 1
point-second = refl

point-none : point_at (codes "22") ≡ 2
point-none = refl

after-first : after_point (codes "2.2.1") ≡ Some (codes "2.1")
after-first = refl

after-none : after_point (codes "22") ≡ None
after-none = refl

digits-most : map (digits_up_to 3600000) (codes "3600000" ∷ codes "3600001" ∷ []) ≡ Some 3600000 ∷ None ∷ []
digits-most = refl

whole-zero : whole_of (codes "0") ≡ Some 0
whole-zero = refl

whole_not-leading : whole_of (codes "01") ≡ None
whole_not-leading = refl

thousandths : map thousandths_of (codes "2" ∷ codes "020" ∷ codes "0200" ∷ []) ≡ Some 200 ∷ Some 20 ∷ None ∷ []
thousandths = refl

part-none : part_of None ≡ Some 0
part-none = refl

part_not-empty : part_of (Some []) ≡ None
part_not-empty = refl

hour : within_an_hour 3600000000 ≡ Some 3600000000
hour = refl

hour_not-more : within_an_hour 3600000001 ≡ None
hour_not-more = refl

-- ---- options

least-taken : no_less 1 (Some 1) ≡ Some 1
least-taken = refl

least_not-below : no_less 1 (Some 0) ≡ None
least_not-below = refl

no-word : time_or None 1 2200 ≡ Some 2200
no-word = refl

-- the loan that is left out fits the other times, and is at most an hour
free-loan : free_loan 1000 500 ≡ 1500
free-loan = refl

free_loan-hour : free_loan 3600000000 1 ≡ 3600000000
free_loan-hour = refl

-- a loan may be left out, or be 0; a word that is no time is a fault
loan-none : time_if None ≡ Some None
loan-none = refl

loan-word : (word : Bor (List ℕ)) → word.now ≡ codes "0" → time_if (Some word) ≡ Some (Some 0)
loan-word word is = ap (λ text. option_map (λ micros. Some micros) (micros_of text)) is

loan_not-word : (word : Bor (List ℕ)) → word.now ≡ codes "x" → time_if (Some word) ≡ None
loan_not-word word is = ap (λ text. option_map (λ micros. Some micros) (micros_of text)) is

loan-left_out : if_or_fault Loan (λ loan. Ok (record usual { loan = unwrap_or loan 7 })) (Some None) ≡ Ok (record usual { loan = 7 })
loan-left_out = refl

loan_not-known : if_or_fault Loan (λ loan. Ok usual) None ≡ Err Loan
loan_not-known = refl

no-words : premises_of (record { turn = None; delay = None; loan = None; repeat = None }) ≡ Ok usual
no-words = refl

fault-first : or_fault Turn (λ micros. Ok usual) None ≡ Err Turn
fault-first = refl

fault_not-known : or_fault Turn (λ micros. Err Delay) (Some 1) ≡ Err Delay
fault_not-known = refl

names-option : option_name Loan ≡ codes "--loan"
names-option = refl

-- a loan may take no time, and a repetition must take some
least-loan : least_text Loan ≡ codes "0"
least-loan = refl

least-repeat : least_text Repeat ≡ codes "0.001"
least-repeat = refl

says-fault : time_fault_text Turn ≡ codes "--turn is no time from 0.001 to 3600000 milliseconds, with at most 3 decimals"
says-fault = refl

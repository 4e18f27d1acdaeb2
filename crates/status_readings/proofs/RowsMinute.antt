-- The last minute, by hand.
use Rattle.std.proofs.Common.{◌≡◌, None, Some, [], ◌∷◌, codes, refl}
use Rattle.std.specs.Fmt.{digits}
use Rattle.status_readings.specs.declared.minute.NodeLoans.{NodeLoans}
use Rattle.status_readings.specs.declared.minute.Sample.{Sample}
use Rattle.status_readings.specs.LookSaid.{at_root}
use Rattle.status_readings.specs.Minute.{capped, sample_of, with_sample, in_ten_seconds, longest_present, rates_of}
use Rattle.status_readings.specs.Picture.{rates_lines, tenths_text}

-- the root lent 5 times, 0.9 s at most, and the token came round 300 times; the other lends for 1.2 s
abbrev root : NodeLoans
root = record { node = 0; said = Some (record { count = 5; lately = 900000; present = None; rounds = 300 }) }

abbrev other : NodeLoans
other = record { node = 1; said = Some (record { count = 7; lately = 400; present = Some 1200000; rounds = 0 }) }

abbrev silent : NodeLoans
silent = record { node = 2; said = None }

adds-both : sample_of 2000 (root ∷ other ∷ [])
    ≡ Some (record { at = 2000; count = 12; lately = 900000; present = 1200000; rounds = 300 })
adds-both = refl

-- a node that says nothing leaves it open how many there are
adds-not-all : sample_of 2000 (root ∷ silent ∷ other ∷ []) ≡ None
adds-not-all = refl

counts-last : capped 18446744073709551616 ≡ 18446744073709551615
counts-last = refl

-- rounds count at the root alone
rounds-root : at_root (Some 0) (Some 41) ≡ Some 41
rounds-root = refl

rounds-other : at_root (Some 1) (Some 41) ≡ Some 0
rounds-other = refl

rounds-unknown : at_root (Some 0) None ≡ None
rounds-unknown = refl

abbrev at_one : Sample
at_one = record { at = 1000; count = 10; lately = 2000000; present = 0; rounds = 100 }

abbrev at_31 : Sample
at_31 = record { at = 31000; count = 12; lately = 900000; present = 1200000; rounds = 800 }

abbrev at_61 : Sample
at_61 = record { at = 61000; count = 16; lately = 1100000; present = 0; rounds = 1600 }

abbrev at_62 : Sample
at_62 = record { at = 62000; count = 16; lately = 1100000; present = 0; rounds = 1630 }

-- a sample of just a minute ago is kept, an older one is not
keeps-minute : with_sample at_61 (at_one ∷ at_31 ∷ []) ≡ at_one ∷ at_31 ∷ at_61 ∷ []
keeps-minute = refl

keeps_not-older : with_sample at_62 (at_one ∷ at_31 ∷ []) ≡ at_31 ∷ at_62 ∷ []
keeps_not-older = refl

-- 6 in a minute are one in ten seconds; none are none, in no time too
one-in-ten : in_ten_seconds 6 60000 ≡ 1
one-in-ten = refl

none-in-none : in_ten_seconds 0 0 ≡ 0
none-in-none = refl

-- 6 loans and 1500 rounds in a minute; a loan of 1.2 s was seen to stand, none that ended lately was longer
rates-three : rates_of (at_one ∷ at_31 ∷ at_61 ∷ []) ≡ Some (record { tenths = 1; longest = 1200000; rounds = 250 })
rates-three = refl

rates_not-one : rates_of (at_one ∷ []) ≡ None
rates_not-one = refl

rates_not-none : rates_of [] ≡ None
rates_not-none = refl

-- a node that was started again counts from 0: nothing is said to have happened
rates-less : rates_of (at_31 ∷ (record { at = 32000; count = 3; lately = 0; present = 0; rounds = 5 }) ∷ [])
    ≡ Some (record { tenths = 0; longest = 1200000; rounds = 0 })
rates-less = refl

stands-longest : longest_present (at_one ∷ at_31 ∷ at_61 ∷ []) ≡ 1200000
stands-longest = refl

shows-tenths : tenths_text 7 ≡ codes "0.7"
unfolding digits
shows-tenths = refl

shows-rates : rates_lines (Some (record { tenths = 123; longest = 1204567; rounds = 451 }))
    ≡ codes "last minute: 12.3 loans a second, longest 1.204 s\nlast minute: the token came round 45.1 times a second\n"
unfolding digits
shows-rates = refl

shows-nothing : rates_lines None ≡ []
shows-nothing = refl

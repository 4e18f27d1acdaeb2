-- Verdicts and texts, by hand.
use Rattle.std.proofs.Common.{◌≡◌, true, false, None, Some, List, [], ◌∷◌, codes, refl}
use Rattle.std.specs.Fmt.{digits}
use Rattle.topology.specs.Network.{Network}
use Rattle.status_readings.specs.declared.answers.NodeAnswer.{NodeAnswer}
use Rattle.status_readings.specs.declared.findings.Finding.TheVariants.{AllWell, Silent, Wrong, TwoLentOnce, Nobody, TwoLend}
use Rattle.status_readings.specs.CheckText.{check_line, figure_text}
use Rattle.status_readings.specs.Picture.{picture_text}
use Rattle.status_readings.specs.Verdict.{finding}

-- a line of three, whose root is node 0
abbrev line : Network
line = record { nodes = 3; root = 0; capacity = 1; lease = 0; edges = (0, 1) ∷ (1, 2) ∷ [] }

abbrev root : NodeAnswer
root = record { node = 0; line = Some (record { node = 0; distance = 0; parent = None; token = false; lent = None; waiting = 0 }) }

abbrev middle : NodeAnswer
middle = record { node = 1; line = Some (record { node = 1; distance = 1; parent = Some 0; token = true; lent = Some 7; waiting = 2 }) }

abbrev end : NodeAnswer
end = record { node = 2; line = Some (record { node = 2; distance = 2; parent = Some 1; token = false; lent = None; waiting = 0 }) }

abbrev end_lends : NodeAnswer
end_lends = record { node = 2; line = Some (record { node = 2; distance = 2; parent = Some 1; token = true; lent = Some 9; waiting = 0 }) }

abbrev silent : NodeAnswer
silent = record { node = 2; line = None }

abbrev wrong : NodeAnswer
wrong = record { node = 2; line = Some (record { node = 2; distance = 1; parent = Some 1; token = false; lent = None; waiting = 0 }) }

abbrev well : List NodeAnswer
well = root ∷ middle ∷ end ∷ []

abbrev two : List NodeAnswer
two = root ∷ middle ∷ end_lends ∷ []

abbrev nobody : List NodeAnswer
nobody = record { node = 0; line = None } ∷ record { node = 1; line = None } ∷ silent ∷ []

finds-well : finding line well well well ≡ AllWell
finds-well = refl

finds-silent : finding line well (root ∷ middle ∷ silent ∷ []) well ≡ Silent 2
finds-silent = refl

finds-wrong : finding line well well (root ∷ middle ∷ wrong ∷ []) ≡ Wrong 2
finds-wrong = refl

-- two lend in two readings of three
finds-two_once : finding line two well two ≡ TwoLentOnce
finds-two_once = refl

finds-two : finding line two two two ≡ TwoLend
finds-two = refl

finds-nobody : finding line nobody nobody nobody ≡ Nobody
finds-nobody = refl

-- somebody answered in the end
finds-not-nobody : finding line nobody nobody well ≡ Silent 0
finds-not-nobody = refl

says-silent : check_line (Silent 2) (record { nodes = 3; answering = 2; wrong = 0; privileged = 1; lending = 1 })
    ≡ codes "tokentree WARNING - node 2 does not answer | nodes=3;;;0;3 answering=2;;;0;3 wrong=0;;;0;3 privileged=1;;;0;3 lending=1;;;0;3"
unfolding figure_text digits
says-silent = refl

figure-one : figure_text (codes "answering") 11 12 ≡ codes " answering=11;;;0;12"
unfolding figure_text digits
figure-one = refl

-- the tree by indentation; a node without an answer stands at the left
shows : picture_text (root ∷ middle ∷ silent ∷ [])
    (record { node = 1; said = Some (record { count = 5; lately = 9000; present = Some 1204567; rounds = 0 }) } ∷ []) None
    ≡ codes "node 0 distance 0\n  node 1 distance 1 token lent 7 for 1.204 s waiting 2\nnode 2 no answer\nprivileged 1 lending 1\n"
unfolding digits
shows = refl

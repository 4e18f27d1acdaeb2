-- What is read of a line for whoever looks, and what is printed of it, by hand.
use Rattle.std.proofs.Common.{◌≡◌, None, Some, [], ◌∷◌, codes, map, replicate, refl}
use Rattle.serde_json.proofs.OnLiterals.{serde_json_on_literals}
use Rattle.std.specs.Fmt.{digits}
use Rattle.status_readings.specs.declared.premises.TurnsSaid.{TurnsSaid}
use Rattle.node_texts.specs.Thousandths.{millis_text}
use Rattle.status_readings.specs.PremisesText.{line_said, premises_text}

said : TurnsSaid
said = record { count = 512; longest = 2290; lately = 2190; late = 3 }

-- other members, and another order, do not matter
read-turns : line_said (codes "{\"node\":1,\"turns\":{\"late\":3,\"count\":512,\"longest_us\":2290,\"lately_us\":2190,\"limit_us\":2200}}") ≡ Some said
unfolding serde_json_on_literals said
read-turns = refl

-- a member that is missing, or no number, says nothing; nor does a status line
read-nothing : map line_said (codes "{\"turns\":{\"count\":512,\"longest_us\":2290,\"late\":3}}"
    ∷ codes "{\"turns\":{\"count\":512,\"longest_us\":2290,\"lately_us\":\"2\",\"late\":3}}" ∷ codes "node 1 distance 1" ∷ []) ≡ replicate 3 None
unfolding serde_json_on_literals
read-nothing = refl

millis : map millis_text (5 ∷ 1200070 ∷ []) ≡ codes "0.005" ∷ codes "1200.070" ∷ []
unfolding digits
millis = refl

-- the lines of two nodes, in their order, and of none
printed-two : premises_text (record { node = 1; said = Some said } ∷ record { node = 12; said = None } ∷ [])
    ≡ codes "node 1 turns 512 longest 2.290 ms lately 2.190 ms late 3\nnode 12 no answer\n"
unfolding said digits
printed-two = refl

printed-nobody : premises_text [] ≡ []
printed-nobody = refl

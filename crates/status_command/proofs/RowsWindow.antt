-- Nodes that have no room for a client: examples by hand.
use Rattle.std.proofs.Common.{◌≡◌, true, false, None, Some, [], ◌∷◌, refl}
use Rattle.status_readings.specs.declared.answers.NodeAnswer.{NodeAnswer}
use Rattle.status_command.specs.Windows.{is_closed, filled}
use Rattle.status_command.specs.declared.asking.Contact.TheVariants.{Closed, Done}

closed : is_closed Closed ≡ true
closed = refl

-- if nobody listens there is no node to look at
closed-not-done : is_closed Done ≡ false
closed-not-done = refl

abbrev said : NodeAnswer
said = record { node = 4; line = Some (record { node = 4; distance = 1; parent = Some 0; token = false; lent = None; waiting = 64 }) }

abbrev silent : NodeAnswer
silent = record { node = 5; line = None }

-- what a desk said stays; a node with no window stays unknown
stays : filled [] (said ∷ silent ∷ []) ≡ said ∷ silent ∷ []
stays = refl

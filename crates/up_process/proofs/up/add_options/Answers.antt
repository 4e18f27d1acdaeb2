use Rattle.std.proofs.Common.{◌∷◌, [], ◌++◌, codes, decimal}
use Rattle.std.specs.Process.{command_args}
use Rattle.process_parts.specs.node_texts.Thousandths.{millis_text}
use Rattle.up_process.proofs.Words.{added, both}
use Rattle.up_process.proofs.up.add_options.Goals as goal

pub returns : goal.returns
returns c =
    let old = command_args c.args.command.now in
    let child = codes "node" ∷ codes "--child" ∷ [] in
    let manner = codes "--hold" ∷ decimal c.args.manner.hold
    ∷ codes "--repeat" ∷ decimal c.args.manner.repeat ∷ [] in
    let late = codes "--turn" ∷ millis_text c.args.turn ∷ [] in
    let second = command_args c.add_manner.new.command in
    added c.add_turn.result (command_args c.add_turn.new.command) second old (child ++ manner) late
    c.add_turn.ensures
    (both second (command_args c.add_two.new.command) old child manner
    c.in_ok-add_manner.ensures c.in_ok-add_two.ensures)

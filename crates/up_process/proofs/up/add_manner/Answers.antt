use Rattle.std.proofs.Common.{◌∷◌, [], codes, decimal}
use Rattle.std.specs.Process.{command_args}
use Rattle.up_process.proofs.Words.{added}
use Rattle.up_process.proofs.up.add_manner.Goals as goal

pub returns : goal.returns
returns c =
    added c.add_option-2.result (command_args c.add_option-2.new.command)
    (command_args c.add_option.new.command) (command_args c.args.command.now)
    (codes "--hold" ∷ decimal c.args.manner.hold ∷ [])
    (codes "--repeat" ∷ decimal c.args.manner.repeat ∷ [])
    c.add_option-2.ensures c.in_ok-add_option.ensures

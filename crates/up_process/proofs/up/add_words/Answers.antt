use Rattle.std.proofs.Common.{◌∷◌, [], ◌++◌, codes, decimal}
use Rattle.std.specs.Process.{command_args}
use Rattle.up_process.specs.Children.{child_options, rights_options, log_options, record_options}
use Rattle.up_process.proofs.Words.{added}
use Rattle.up_process.proofs.up.add_words.Goals as goal

pub returns : goal.returns
returns c =
    let place = codes "--" ∷ c.args.words.now.file.now ∷ decimal c.args.id ∷ c.args.words.now.dir.now ∷ [] in
    let rights = rights_options c.args.words.now.rights in
    let log = log_options c.args.words.now.log in
    let kept = record_options c.args.words.now.record_size in
    let new = command_args c.add_place.new.command in
    let first = command_args c.add_options.new.command in
    let second = command_args c.add_rights.new.command in
    let third = command_args c.add_log.new.command in
    added c.add_place.result new first
    (command_args c.args.command.now) (child_options c.args.words.now.manner c.args.words.now.turn) (rights ++ (log ++ (kept ++ place)))
    (added c.add_place.result new second first rights (log ++ (kept ++ place))
    (added c.add_place.result new third second log (kept ++ place)
    (added c.add_place.result new (command_args c.add_record.new.command) third kept place
    c.add_place.ensures c.in_ok-add_record.ensures)
    c.in_ok-add_log.ensures)
    c.in_ok-add_rights.ensures)
    c.in_ok-add_options.ensures

use Rattle.std.proofs.Common.{◌∙◌, ◌++◌, ap, codes, string_bytes, Ok}
use Rattle.topology.specs.Network.{bound_of}
use Rattle.topology.specs.Eccentricity.{sharp_of}
use Rattle.network_commands.specs.Bound.{number_line}
use Rattle.subcommands.proofs.FourParts.{four-parts}
use Rattle.subcommands.proofs.worst.worst_text.Goals as goal

pub returns : goal.returns
returns c =
    let net = c.args.net.now in
    let found = c.args.found.now in
    let one = string_bytes c.push_number.new.text in
    let three = string_bytes c.push_count-2.new.text in
    let four = string_bytes c.push_number-2.new.text in
    let seed = number_line (codes "seed") found.seed in
    let sweeps = number_line (codes "sweeps") found.run.delay.sweeps in
    let sharp = number_line (codes "sharp") (sharp_of net) in
    let bound = number_line (codes "sweeps-bound") (bound_of net) in
    four-parts {E = Unit {0}} (Ok c.in_ok-push_number-3.field-0) one (string_bytes c.push_count.new.text) three four (string_bytes c.push_number-3.new.text)
    seed sweeps sharp bound c.in_ok-push_count.ensures c.in_ok-push_count-2.ensures
    (c.in_ok-push_number-2.ensures ∙ ap (λ n. three ++ number_line (codes "sharp") n) c.sharp_bound.ensures)
    (c.in_ok-push_number-3.ensures ∙ ap (λ n. four ++ number_line (codes "sweeps-bound") n) c.bound.ensures)
    ∙ ap (λ x. x ++ (seed ++ (sweeps ++ (sharp ++ bound))))
    (c.in_ok-push_number.ensures ∙ ap (λ x. x ++ number_line (codes "searches") found.searches) c.new-text.ensures.bytes)

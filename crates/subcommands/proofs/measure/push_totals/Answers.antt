use Rattle.std.proofs.Common.{◌≡◌, ◌∙◌, ◌++◌, ap, subst, OnOk, codes, string_bytes}
use Rattle.topology.specs.Network.{bound_of}
use Rattle.topology.specs.Eccentricity.{sharp_of}
use Rattle.network_commands.specs.Bound.{number_line}
use Rattle.subcommands.specs.Measured.{summary_line}
use Rattle.subcommands.proofs.FourParts.{four-parts}
use Rattle.subcommands.proofs.measure.push_totals.Goals as goal

pub returns : goal.returns
returns c =
    let net = c.args.net.now in
    let two = string_bytes c.push_summary.new.text in
    let three = string_bytes c.push_number.new.text in
    four-parts c.push_number-2.result (string_bytes c.args.text.now) (string_bytes c.writeln.new.self) two three (string_bytes c.push_number-2.new.text)
    (number_line (codes "runs") c.args.runs) (summary_line c.args.summary) (number_line (codes "sharp") (sharp_of net))
    (number_line (codes "sweeps-bound") (bound_of net)) c.in_ok-writeln.ensures.bytes c.in_ok-push_summary.ensures
    (c.in_ok-push_number.ensures ∙ ap (λ n. two ++ number_line (codes "sharp") n) c.sharp_bound.ensures)
    (subst (λ n. OnOk c.push_number-2.result (string_bytes c.push_number-2.new.text ≡ three ++ number_line (codes "sweeps-bound") n)) c.bound.ensures
    c.push_number-2.ensures)

use Rattle.std.proofs.Common.{◌≡◌, None, Some, refl}
use Rattle.std.specs.List.{slice_get}
use Rattle.std.proofs.lemmas.Option.{slice_get_past, slice_get_read}
use Rattle.node_connections.proofs.port.link_at.Goals as goal

pub returns-in_err-port : goal.returns-in_err-port
returns-in_err-port g c =
    let ports = c.args.ports.now in
    let gone : slice_get ports c.args.id ≡ None =
    rw c.from.ensures at (slice_get_past ports c.from.result c.in_err-port.ensures.lookup.3) in
    rw (c.from_residual.ensures, gone) refl

pub returns : goal.returns
returns g c =
    let ports = c.args.ports.now in
    let found = c.in_ok-port.ensures.lookup in
    let there : slice_get ports c.args.id ≡ Some c.in_ok-port.port.now =
    rw c.from.ensures at (slice_get_read ports _ c.from.result c.in_ok-port.port.now refl found.3.0 found.1) in
    rw (c.sight.ensures, there) refl

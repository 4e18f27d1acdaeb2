use Rattle.std.proofs.Common.{[], ◌∙◌, ap, length}
use Rattle.gather_command.specs.Weave.{Moment}
use Rattle.gather_command.specs.Watch.{WatchView}
use Rattle.gather_command.proofs.Sights.{watch-length}
use Rattle.gather_command.proofs.sight.watch_entry.Goals as goal

pub returns-clause-nodes : goal.returns-clause-nodes
returns-clause-nodes c =
    let m : Moment = record { node = c.args.node; entry = c.args.entry.now; events = []; lent = c.args.lent; fields = [] } in
    ap (λ (w : WatchView). length w.nodes) c.watch_parts.ensures ∙ watch-length c.args.watch.now m

use Rattle.std.proofs.Common.{subst}
use Rattle.command_parts.specs.world.judge.configuration.ConfigurationView.{world_of}
use Rattle.thread_net.specs.ThreadRun.{IsThreadRun}
use Rattle.live_commands.proofs.threads.run_nodes.Goals as goal

pub returns-in-Ok : goal.returns-in-Ok
returns-in-Ok g c =
    let woven = c.in-Ok.woven in
    subst (λ w. IsThreadRun (λ v. c.args.turns) w woven.events.items (world_of woven.world))
    c.in_ok-start.ensures.ok c.in-Ok.ensures.ok

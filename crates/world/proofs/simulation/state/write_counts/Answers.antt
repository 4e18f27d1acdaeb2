use Rattle.std.proofs.Common.{◌≡◌, ◌∙◌, ap, ◌++◌, codes, decimal}
use Rattle.judge.specs.run_model.NodeCounts.{privileged_count, lending_count}
use Rattle.world.specs.StateText.{counts_line}
use Rattle.judge.specs.configuration.ConfigurationView.{world_of}
use Rattle.world.proofs.simulation.state.write_counts.Goals as goal

pub returns : goal.returns
returns g c =
    let w = world_of c.args.configuration.now in
    let first : c.push_number.new.line.bytes ≡ codes "privileged " ++ decimal (privileged_count w) =
    c.push_number.ensures.bytes ∙ ap (λ n. c.new-line.result.bytes ++ codes "privileged " ++ decimal n) c.privileged.ensures ∙ ap (λ bytes. bytes ++ codes "privileged " ++ decimal (privileged_count w)) c.new-line.ensures in
    let second : c.push_number-2.new.line.bytes ≡ codes "privileged " ++ decimal (privileged_count w) ++ codes " lending " ++ decimal (lending_count w) =
    c.push_number-2.ensures.bytes ∙ ap (λ bytes. bytes ++ codes " lending " ++ decimal c.lending.result) first ∙ ap (λ n. codes "privileged " ++ decimal (privileged_count w) ++ codes " lending " ++ decimal n) c.lending.ensures in
    let text : c.as_bytes.result.now ≡ counts_line w =
    c.as_bytes.ensures.value ∙ c.deref.ensures.0 ∙ c.push_str.ensures.bytes ∙ ap (λ bytes. bytes ++ codes "\n") second in
    rw text at c.write_all.ensures

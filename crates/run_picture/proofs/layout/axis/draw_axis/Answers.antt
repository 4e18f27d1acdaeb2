use Rattle.std.proofs.Common.{◌∙◌, ap}
use Rattle.std.specs.List.{flat_map}
use Rattle.run_picture.specs.Axis.{number_shown}
use Rattle.run_picture.proofs.Axis.{some_step}
use Rattle.run_picture.proofs.Parts.{added_as}
use Rattle.run_picture.proofs.layout.axis.draw_axis.Goals as goal

pub axis_numbers-requires : goal.axis_numbers-requires
axis_numbers-requires c = some_step _ _ _ c.round_step-step.ensures

pub returns : goal.returns
returns c =
    added_as _ _ _ _ _ (record {
      step = c.round_step-step.result;
      round = c.round_step-step.ensures;
      are = ap (flat_map (number_shown c.args.page)) (c.as_slice.ensures.value ∙ c.in_ok-numbers.ensures);
    })
    c.draw_numbers.ensures

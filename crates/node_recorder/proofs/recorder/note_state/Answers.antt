use Rattle.std.proofs.Common.{◌∙◌, sym}
use Rattle.node_follower.specs.node_core.View.{site_in, state_of}
use Rattle.node_recorder.proofs.Parts.{all-parts}
use Rattle.node_recorder.proofs.recorder.note_state.Goals as goal

pub returns : goal.returns
returns g c = c.note_parts.ensures ∙ sym (all-parts c.args.now c.args.network (site_in c.args.node.now) (state_of c.args.node.now) c.args.pages.now)

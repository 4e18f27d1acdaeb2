-- What the description says is what the run was.
use Rattle.std.proofs.Common.{◌≡◌, ◌∙◌, ap, ℕ, ◌+◌, List, ◌++◌, length, append_assoc, arith}
use Rattle.topology.specs.Network.{bound_of}
use Rattle.std.proofs.lemmas.Grind.{common_steps}
use Rattle.run_recording.specs.run_model.World.{World}
use Rattle.run_recording.specs.run_model.declared.event.Event.{Event}
use Rattle.run_recording.specs.run_model.Run.{run}
use Rattle.run_recording.specs.judge.Judging.{counted_up_to, refused_in}
use Rattle.run_recording.specs.judge.JudgeView.{AreSweepsSeen}
use Rattle.run_recording.specs.configuration.ConfigurationView.{world_of}
use Rattle.run_recording.specs.Recordings.{RecordingView, IsRecorded}
use Rattle.run_picture.specs.Words.{event_words, node_words, sweep_words, description_words, DescribesRun}

refused_twice : (a b : ℕ) → counted_up_to (a + counted_up_to b) ≡ counted_up_to (a + b)
refused_twice a b = grind (arith, common_steps)

pub says_of : (start : World) (es : List Event) (r : RecordingView) (sweeps : ℕ) (words : List ℕ) → AreSweepsSeen r.judge sweeps
    → words ≡ description_words r.events (counted_up_to (r.unread + r.judge.refused)) (world_of r.judge.configuration) sweeps
    → IsRecorded start es r → DescribesRun start es r.unread words
says_of start es r sweeps words seen is recorded =
    let judging = recorded.seen.judging in
    let counted = seen start es recorded.seen in
    let refused : counted_up_to (r.unread + r.judge.refused) ≡ counted_up_to (r.unread + refused_in start es) =
    ap (λ n. counted_up_to (r.unread + n)) judging.refused_are ∙ refused_twice r.unread (refused_in start es) in
    record {
      sweeps = counted.0;
      are_sweeps = counted.1;
      says = is
          ∙ ap (λ n. description_words n (counted_up_to (r.unread + r.judge.refused)) (world_of r.judge.configuration) sweeps) recorded.events_are
          ∙ ap (λ n. description_words (length es) n (world_of r.judge.configuration) sweeps) refused
          ∙ ap (λ w. description_words (length es) (counted_up_to (r.unread + refused_in start es)) w sweeps) judging.now_is
          ∙ ap (λ n. description_words (length es) (counted_up_to (r.unread + refused_in start es)) (run start es) n) counted.2;
    }

-- ---- words one after the other

pub three_parts : (a b c first second third : List ℕ) → first ≡ a → second ≡ first ++ b → third ≡ second ++ c → third ≡ a ++ (b ++ c)
three_parts a b c first second third is is_second is_third =
    is_third ∙ ap (λ t. t ++ c) (is_second ∙ ap (λ t. t ++ b) is) ∙ append_assoc a b c

pub described : (events refused sweeps bound : ℕ) (end : World) (first second third : List ℕ) → first ≡ event_words events refused
    → second ≡ first ++ node_words end → third ≡ second ++ sweep_words sweeps bound → bound ≡ bound_of end.net
    → third ≡ description_words events refused end sweeps
described events refused sweeps bound end first second third is is_second is_third is_bound =
    three_parts (event_words events refused) (node_words end) (sweep_words sweeps bound) first second third is is_second is_third
    ∙ ap (λ n. event_words events refused ++ (node_words end ++ sweep_words sweeps n)) is_bound

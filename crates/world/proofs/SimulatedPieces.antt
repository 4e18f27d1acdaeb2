-- What becomes of a text that is read in pieces.
use Rattle.std.proofs.Common.{◌≡◌, ◌∙◌, ap, ℕ, ◌+◌, ◌-◌, ◌≤◌, List, ◌++◌, Option, take, drop, arith}
use Rattle.std.proofs.Math.Seq.{take-add}
use Rattle.byte_lines.specs.Laws.{LinesAreCut}
use Rattle.judge.specs.run_model.World.{World}
use Rattle.events_text.specs.EventsText.{ended_lines}
use Rattle.world.specs.SimulatedText.{refusals_of}
use Rattle.byte_streams.specs.Streams.{TakesABeginning}
use Rattle.world.proofs.SimulatedBytes.{beginning_of_bytes}

-- the refusal lines of the whole lines of some bytes come first for more bytes
pub beginning_of_lines : LinesAreCut → (start : World) (bytes : List ℕ) (n k : ℕ) (before after : Option (List ℕ)) → n ≤ k
    → TakesABeginning (refusals_of start (ended_lines (take n bytes))) before after → TakesABeginning (refusals_of start (ended_lines (take k bytes))) before after
beginning_of_lines cut start bytes n k before after few b =
    let more = take (k - n) (drop n bytes) in
    let all : take k bytes ≡ take n bytes ++ more =
    (let further : k ≡ n + (k - n) = omega (arith, few) in ap (λ m. take m bytes) further ∙ take-add n (k - n) bytes) in
    rw all (beginning_of_bytes cut start (take n bytes) more before after b)

-- Times in seconds.
use Rattle.std.specs.Prelude.{ℕ, ◌/◌, List}
use Rattle.node_texts.specs.Thousandths.{thousandths_text}

-- microseconds as seconds with three decimals
abbrev pub seconds_text : ℕ → List ℕ
seconds_text micros = thousandths_text (micros / 1000)

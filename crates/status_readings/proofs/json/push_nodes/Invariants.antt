use Rattle.std.proofs.Common.{◌≡◌, ◌++◌, drop, map}
use Rattle.serde_json.specs.View.{view}
use Rattle.status_readings.specs.JsonData.{node_data}
use Rattle.status_readings.proofs.json.push_nodes.Given as goal

-- what is there, and what is left, are all
abbrev pub invariant-loop-answer : goal.invariant-loop-answer
invariant-loop-answer l = map node_data l.answers
    ≡ map view l.list.items ++ map node_data (drop l.answer-index l.answers)

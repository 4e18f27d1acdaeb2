-- Small examples of what `status` prints.
use Rattle.std.proofs.Common.{◌≡◌, true, false, [], ◌∷◌, Some, None, codes, refl}
use Rattle.std.specs.Fmt.{digits}
use Rattle.node_texts.specs.declared.status_line.StatusLine.{StatusLine}
use Rattle.status_readings.specs.declared.answers.NodeAnswer.{NodeAnswer}
use Rattle.status_readings.specs.Report.{has_answered, report_text}

-- node 1, which lends to ticket 9 while two wait
abbrev lending : StatusLine
lending = record { node = 1; distance = 1; parent = Some 0; token = true; lent = Some 9; waiting = 2 }

abbrev idle : StatusLine
idle = record { node = 0; distance = 0; parent = None; token = false; lent = None; waiting = 0 }

abbrev answered : NodeAnswer
answered = record { node = 1; line = Some lending }

abbrev silent : NodeAnswer
silent = record { node = 2; line = None }

-- a node that lends and one that gave no answer
reports : report_text (answered ∷ silent ∷ [])
    ≡ codes "node 1 distance 1 parent 0 token yes lent 9 waiting 2\nnode 2 no answer\nprivileged 1 lending 1\n"
unfolding digits
reports = refl

-- one that gave no answer is not counted
reports-silent : report_text (silent ∷ []) ≡ codes "node 2 no answer\nprivileged 0 lending 0\n"
unfolding digits
reports-silent = refl

reports-idle : report_text (record { node = 0; line = Some idle } ∷ []) ≡ codes "node 0 distance 0 parent none token no lent none waiting 0\nprivileged 0 lending 0\n"
unfolding digits
reports-idle = refl

has : has_answered answered ≡ true
has = refl

has_not-silent : has_answered silent ≡ false
has_not-silent = refl

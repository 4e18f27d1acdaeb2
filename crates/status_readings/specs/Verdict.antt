-- What three readings of a network say.
use Rattle.std.specs.Prelude.{ℕ, Bool, true, false, not, ◌&&◌, ◌||◌, ◌==◌, if◌then◌else◌, nat_lt, nat_le, List, length, filter}
use Rattle.std.specs.Prelude.{Option, None, Some, option_map, unwrap_or, codes}
use Rattle.std.specs.List.{list_any, find}
use Rattle.topology.specs.Network.{Network}
use Rattle.topology.specs.Tree.{distance_of, parent_of}
use Rattle.node_texts.specs.declared.status_line.StatusLine.{StatusLine}
use Rattle.status_readings.specs.declared.answers.NodeAnswer.{NodeAnswer}
use Rattle.status_readings.specs.Report.{lends, has_answered}
use Rattle.status_readings.specs.declared.findings.Finding.{Finding}
use Rattle.status_readings.specs.declared.findings.Finding.TheVariants.{AllWell, Silent, Wrong, TwoLentOnce, Nobody, TwoLend}
use Rattle.status_readings.specs.declared.findings.Severity.{Severity}
use Rattle.status_readings.specs.declared.findings.Severity.TheVariants.{Fine, Warning, Critical, Unknown}

-- two equal ids, or twice none
abbrev pub same_id : Option ℕ → Option ℕ → Bool
same_id None None = true
same_id (Some v) (Some w) = v == w
same_id _ _ = false

-- the node that the line names is one of the network, and the line has the distance and the parent
-- that the network gives it
abbrev pub is_true : Network → StatusLine → Bool
is_true net line =
    nat_lt line.node net.nodes && (line.distance == distance_of net line.node)
    && same_id line.parent (parent_of net line.node)

abbrev pub line_is_faulty : Network → Option StatusLine → Bool
line_is_faulty net None = true
line_is_faulty net (Some line) = not (is_true net line)

-- the node gave no answer, or one that is not true of the node that it names
abbrev pub is_faulty : Network → NodeAnswer → Bool
is_faulty net answer = line_is_faulty net answer.line

abbrev pub line_fault : ℕ → Option StatusLine → Finding
line_fault node None = Silent node
line_fault node (Some line) = Wrong node

-- what is found of such a node
abbrev pub fault_of : NodeAnswer → Finding
fault_of answer = line_fault answer.node answer.line

-- what is found of the first such node of a reading
abbrev pub first_fault : Network → List NodeAnswer → Option Finding
first_fault net answers = option_map fault_of (find (is_faulty net) answers)

-- nobody answered
abbrev pub is_nobody : List NodeAnswer → Bool
is_nobody answers = not (list_any has_answered answers)

-- two or more lend
abbrev pub two_lend : List NodeAnswer → Bool
two_lend answers = nat_le 2 (length (filter lends answers))

-- two or more lent in some reading, or in none
abbrev pub lent_finding : List NodeAnswer → List NodeAnswer → List NodeAnswer → Finding
lent_finding a b c = if two_lend a || two_lend b || two_lend c then TwoLentOnce else AllWell

-- the first node that is silent or wrong in the first reading that has one; else what is found of
-- lending
abbrev pub lesser_finding : Network → List NodeAnswer → List NodeAnswer → List NodeAnswer → Finding
lesser_finding net a b c =
    unwrap_or (first_fault net a) (unwrap_or (first_fault net b) (unwrap_or (first_fault net c) (lent_finding a b c)))

-- no node answers in any reading; or two or more lend in each; or something less severe
abbrev pub finding : Network → List NodeAnswer → List NodeAnswer → List NodeAnswer → Finding
finding net a b c =
    if is_nobody a && is_nobody b && is_nobody c then Nobody
    else if two_lend a && two_lend b && two_lend c then TwoLend
    else lesser_finding net a b c

-- how bad it is
abbrev pub severity : Finding → Severity
severity AllWell = Fine
severity (Silent node) = Warning
severity (Wrong node) = Warning
severity TwoLentOnce = Warning
severity Nobody = Critical
severity TwoLend = Critical

-- the status of each, and its word, as plugins of monitors have them
abbrev pub severity_status : Severity → ℕ
severity_status Fine = 0
severity_status Warning = 1
severity_status Critical = 2
severity_status Unknown = 3

abbrev pub severity_word : Severity → List ℕ
severity_word Fine = codes "OK"
severity_word Warning = codes "WARNING"
severity_word Critical = codes "CRITICAL"
severity_word Unknown = codes "UNKNOWN"

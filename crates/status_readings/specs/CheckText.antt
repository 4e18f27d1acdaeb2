-- The line that a check prints, in the form of monitoring plugins: the text, a bar, and the figures.
use Rattle.std.specs.Prelude.{ℕ, Bool, ◌&&◌, List, ◌++◌, length, filter, codes, decimal}
use Rattle.topology.specs.Network.{Network}
use Rattle.status_readings.specs.declared.answers.NodeAnswer.{NodeAnswer}
use Rattle.status_readings.specs.Report.{is_privileged, lends, has_answered}
use Rattle.status_readings.specs.declared.check_line.Figures.{Figures}
use Rattle.status_readings.specs.declared.findings.Finding.{Finding}
use Rattle.status_readings.specs.declared.findings.Finding.TheVariants.{AllWell, Silent, Wrong, TwoLentOnce, Nobody, TwoLend}
use Rattle.status_readings.specs.Verdict.{is_faulty, severity, severity_word}

-- the node answered with a wrong distance or parent by the network, or with an id that is none of
-- its nodes
abbrev pub is_wrong : Network → NodeAnswer → Bool
is_wrong net answer = has_answered answer && is_faulty net answer

-- how many nodes were asked, and how many of them answered, are wrong, are privileged, or lend
abbrev pub figures : Network → List NodeAnswer → Figures
figures net answers = record {
  nodes = length answers;
  answering = length (filter has_answered answers);
  wrong = length (filter (is_wrong net) answers);
  privileged = length (filter is_privileged answers);
  lending = length (filter lends answers);
}

-- what was found, in words
abbrev pub finding_text : Finding → List ℕ
finding_text AllWell = codes "each node is in its place, and at most one lends"
finding_text (Silent node) = codes "node " ++ (decimal node ++ codes " does not answer")
finding_text (Wrong node) = codes "node " ++ (decimal node ++ codes " has a wrong distance or parent")
finding_text TwoLentOnce = codes "two nodes lent in a reading, but not in each"
finding_text Nobody = codes "no node answers"
finding_text TwoLend = codes "two nodes lend in each reading"

-- a figure, after a space: its name, the count, no limits, and the range of the count, from 0 to
-- `most`
unfoldable pub figure_text : List ℕ → ℕ → ℕ → List ℕ
figure_text label value most =
    codes " " ++ (label ++ (codes "=" ++ (decimal value ++ (codes ";;;0;" ++ decimal most))))

-- each figure
abbrev pub figures_text : Figures → List ℕ
figures_text f =
    figure_text (codes "nodes") f.nodes f.nodes ++ (figure_text (codes "answering") f.answering f.nodes
    ++ (figure_text (codes "wrong") f.wrong f.nodes ++ (figure_text (codes "privileged") f.privileged f.nodes
    ++ figure_text (codes "lending") f.lending f.nodes)))

-- the whole line
abbrev pub check_line : Finding → Figures → List ℕ
check_line finding figures =
    codes "tokentree " ++ (severity_word (severity finding)
    ++ (codes " - " ++ (finding_text finding ++ (codes " |" ++ figures_text figures))))

-- A node's own status line, as the text of what it says.
use Rattle.std.specs.Prelude.{◌≡◌, ◌++◌, length, codes}
use Rattle.node_core.specs.Site.{Site}
use Rattle.node_core.specs.State.{LocalState}
use Rattle.node_core.specs.Machines.{is_node_privileged}
use Rattle.node_core.specs.Status.{status_line}
use Rattle.node_texts.specs.declared.status_line.StatusLine.{StatusLine}
use Rattle.node_texts.specs.StatusText.{status_text}

-- what a node says about itself
abbrev pub line_of : Site → LocalState → StatusLine
line_of site s = record {
  node = site.id;
  distance = s.distance;
  parent = s.parent;
  token = is_node_privileged site s;
  lent = s.desk.lent;
  waiting = length s.desk.waiting;
}

-- a node writes the text of that, and a newline
abbrev pub NodesWriteTheirLines : Type 0
NodesWriteTheirLines =
    (site : Site) (s : LocalState)
    → status_line site s ≡ status_text (line_of site s) ++ codes "\n"

-- What `status --json` prints, as data. An object has its members in the order of their names.
use Rattle.std.specs.Prelude.{◌≡◌, ℕ, List, ◌++◌, map, length, filter, Option, None, Some, is_some, codes}
use Rattle.serde_json.specs.Data.{Data, Items, Members, null, boolean, number, unsigned, array, object, no_members, put}
use Rattle.serde_json.specs.View.{items_of}
use Rattle.serde_json.specs.Written.{IsInOrder}
use Rattle.node_texts.specs.declared.status_line.StatusLine.{StatusLine}
use Rattle.status_readings.specs.declared.answers.NodeAnswer.{NodeAnswer}
use Rattle.status_readings.specs.Report.{is_privileged, lends}

abbrev pub count : ℕ → Data
count n = number (unsigned n)

-- a number, or null
abbrev pub or_null : Option ℕ → Data
or_null None = null
or_null (Some n) = count n

-- what a status line says after the node, in members beside others
abbrev pub line_members : StatusLine → Members → Members
line_members line others =
    put (codes "waiting") (count line.waiting)
    (put (codes "lent") (or_null line.lent)
    (put (codes "token") (boolean line.token)
    (put (codes "parent") (or_null line.parent)
    (put (codes "distance") (count line.distance) others))))

abbrev pub said_members : Option StatusLine → Members → Members
said_members None others = others
said_members (Some line) others = line_members line others

-- the node, whether it answered, and what it answered
abbrev pub node_members : NodeAnswer → Members → Members
node_members answer others =
    said_members answer.line
    (put (codes "answer") (boolean (is_some answer.line)) (put (codes "node") (count answer.node) others))

abbrev pub node_data : NodeAnswer → Data
node_data answer = object (node_members answer no_members)

abbrev pub nodes_data : List NodeAnswer → Items
nodes_data answers = items_of (map node_data answers)

-- what each node answered, how many are privileged, and how many lend
abbrev pub status_members : List NodeAnswer → Members → Members
status_members answers others =
    put (codes "lending") (count (length (filter lends answers)))
    (put (codes "privileged") (count (length (filter is_privileged answers)))
    (put (codes "nodes") (array (nodes_data answers)) others))

abbrev pub status_data : List NodeAnswer → Data
status_data answers = object (status_members answers no_members)

-- a text is one line of JSON with these data
abbrev pub IsStatusLine : List NodeAnswer → List ℕ → Type 0
IsStatusLine answers text = (line : List ℕ) × IsInOrder line (status_data answers) × (text ≡ line ++ codes "\n")

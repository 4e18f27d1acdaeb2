-- What a node's line for whoever looks at it says of its loans, of the token, and of its links.
use Rattle.std.specs.Prelude.{ℕ, ◌==◌, if◌then◌else◌, Bool, List, [], ◌∷◌, Option, None, Some, codes, option_and_then}
use Rattle.serde_json.specs.Data.{Data, Items, no_items, item}
use Rattle.serde_json.specs.Find.{get, as_bool, as_array}
use Rattle.serde_json.specs.Read.{read}
use Rattle.status_readings.specs.PremisesText.{member_number}
use Rattle.status_readings.specs.declared.looks.LoansSaid.{LoansSaid}
use Rattle.status_readings.specs.declared.looks.LinkSaid.{LinkSaid}

-- three numbers, if each is there, and one that may be absent
abbrev pub all_loans : Option ℕ → Option ℕ → Option ℕ → Option ℕ → Option LoansSaid
all_loans (Some count) (Some lately) present (Some rounds) =
    Some (record { count = count; lately = lately; present = present; rounds = rounds })
all_loans _ _ _ _ = None

-- what an object says of loans, beside the rounds
abbrev pub members_loans : Option ℕ → Data → Option LoansSaid
members_loans rounds loans =
    all_loans (member_number (codes "count") loans) (member_number (codes "lately_us") loans)
    (member_number (codes "present_us") loans) rounds

abbrev pub at_root : Option ℕ → Option ℕ → Option ℕ
at_root (Some distance) (Some rounds) = Some (if distance == 0 then rounds else 0)
at_root _ _ = None

-- how often the token came round at a node that takes itself for the root; 0 at any other node
abbrev pub root_rounds : Data → Option ℕ
root_rounds value =
    at_root (member_number (codes "distance") value) (member_number (codes "rounds") value)

-- what a JSON value says of a node's loans
abbrev pub loans_said : Data → Option LoansSaid
loans_said value = option_and_then (members_loans (root_rounds value)) (get (codes "loans") value)

-- what a line says of a node's loans, if it is JSON
abbrev pub line_loans : List ℕ → Option LoansSaid
line_loans line = option_and_then loans_said (read line)

-- the truth value that is the member of this name
abbrev pub member_truth : List ℕ → Data → Option Bool
member_truth name value = option_and_then as_bool (get name value)

abbrev pub all_link : Option ℕ → Option Bool → Option ℕ → Option ℕ → Option LinkSaid
all_link (Some node) (Some up) (Some since) (Some breaks) =
    Some (record { node = node; is_up = up; since = since; breaks = breaks })
all_link _ _ _ _ = None

-- what a JSON value says of a link
abbrev pub link_said : Data → Option LinkSaid
link_said value =
    all_link (member_number (codes "node") value) (member_truth (codes "up") value)
    (member_number (codes "for_us") value) (member_number (codes "breaks") value)

abbrev pub with_link : Option LinkSaid → List LinkSaid → List LinkSaid
with_link None links = links
with_link (Some link) links = link ∷ links

-- those items of a list that are links
abbrev pub links_in : Items → List LinkSaid
links_in no_items = []
links_in (item value values) = with_link (link_said value) (links_in values)

abbrev pub all_links : Items → Option (List LinkSaid)
all_links values = Some (links_in values)

-- the list of a node's links in a JSON value
abbrev pub links_listed : Data → Option Items
links_listed value = option_and_then as_array (get (codes "links") value)

-- what a JSON value says of a node's links
abbrev pub links_said : Data → Option (List LinkSaid)
links_said value = option_and_then all_links (links_listed value)

-- what a line says of a node's links, if it is JSON
abbrev pub line_links : List ℕ → Option (List LinkSaid)
line_links line = option_and_then links_said (read line)

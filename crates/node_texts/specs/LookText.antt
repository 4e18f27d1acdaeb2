-- What a node says to whoever looks: one line, a JSON object (RFC 8259) without spaces.
use Rattle.std.specs.Prelude.{ℕ, ◌-◌, Bool, true, false, List, [], ◌∷◌, ◌++◌, Option, codes, decimal}
use Rattle.std.specs.Option.{option_map}
use Rattle.turn_watch.specs.declared.links.LinkTimes.{LinkTimes}
use Rattle.turn_watch.specs.declared.loans.LoanTimes.{LoanTimes}
use Rattle.turn_watch.specs.declared.turns.TurnTimes.{TurnTimes}
use Rattle.turn_watch.specs.Links.{break_count, link_of}
use Rattle.turn_watch.specs.Loans.{loan_length}
use Rattle.turn_watch.specs.Turns.{longest_lately}
use Rattle.node_texts.specs.StatusText.{or_word}
use Rattle.node_texts.specs.declared.status_line.StatusLine.{StatusLine}
use Rattle.node_texts.specs.declared.look_parts.LinkPart.{LinkPart}
use Rattle.node_texts.specs.declared.look_parts.LoanPart.{LoanPart}
use Rattle.node_texts.specs.declared.look_parts.ProcessPart.{ProcessPart}
use Rattle.node_texts.specs.declared.look_parts.TurnPart.{TurnPart}

-- what is said at a given time about what was noted
abbrev pub link_part : ℕ → LinkTimes → ℕ → LinkPart
link_part node l now = record {
  node = node;
  is_up = l.sight.is_up;
  since = now - l.since;
  breaks = break_count l.sight;
}

-- the links to these neighbours
abbrev pub link_parts : List LinkTimes → ℕ → List ℕ → List LinkPart
link_parts links now [] = []
link_parts links now (id ∷ ids) = link_part id (link_of links id) now ∷ link_parts links now ids

abbrev pub loan_part : LoanTimes → ℕ → LoanPart
loan_part l now = record {
  count = l.count;
  longest = l.longest;
  present = option_map (loan_length now) l.since;
  lately = longest_lately now l.lately;
}

abbrev pub turn_part : TurnTimes → ℕ → ℕ → TurnPart
turn_part t limit now = record {
  count = t.count;
  longest = t.longest;
  lately = longest_lately now t.lately;
  limit = limit;
  late = t.late;
}

abbrev pub or_null_text : Option ℕ → List ℕ
or_null_text number = or_word (codes "null") number

abbrev pub truth_text : Bool → List ℕ
truth_text true = codes "true"
truth_text false = codes "false"

-- what the status line says
abbrev pub status_part : StatusLine → List ℕ
status_part s =
    codes "\"node\":" ++ (decimal s.node
    ++ (codes ",\"distance\":" ++ (decimal s.distance
    ++ (codes ",\"parent\":" ++ (or_null_text s.parent
    ++ (codes ",\"token\":" ++ (truth_text s.token
    ++ (codes ",\"lent\":" ++ (or_null_text s.lent
    ++ (codes ",\"waiting\":" ++ decimal s.waiting))))))))))

abbrev pub link_text : LinkPart → List ℕ
link_text l =
    codes "{\"node\":" ++ (decimal l.node
    ++ (codes ",\"up\":" ++ (truth_text l.is_up
    ++ (codes ",\"for_us\":" ++ (decimal l.since
    ++ (codes ",\"breaks\":" ++ (decimal l.breaks ++ codes "}")))))))

-- links after the first
abbrev pub other_links_text : List LinkPart → List ℕ
other_links_text [] = []
other_links_text (link ∷ links) = (codes "," ++ link_text link) ++ other_links_text links

abbrev pub links_text : List LinkPart → List ℕ
links_text [] = []
links_text (link ∷ links) = link_text link ++ other_links_text links

abbrev pub loan_text : LoanPart → List ℕ
loan_text l =
    codes "{\"count\":" ++ (decimal l.count
    ++ (codes ",\"longest_us\":" ++ (decimal l.longest
    ++ (codes ",\"present_us\":" ++ (or_null_text l.present
    ++ (codes ",\"lately_us\":" ++ (decimal l.lately ++ codes "}")))))))

abbrev pub turn_text : TurnPart → List ℕ
turn_text t =
    codes "{\"count\":" ++ (decimal t.count
    ++ (codes ",\"longest_us\":" ++ (decimal t.longest
    ++ (codes ",\"lately_us\":" ++ (decimal t.lately
    ++ (codes ",\"limit_us\":" ++ (decimal t.limit
    ++ (codes ",\"late\":" ++ (decimal t.late ++ codes "}")))))))))

-- what comes between the links and the rounds
abbrev pub rest_text : LoanPart → TurnPart → ProcessPart → List ℕ → List ℕ
rest_text loans turns process version =
    codes ",\"loans\":" ++ (loan_text loans
    ++ (codes ",\"turns\":" ++ (turn_text turns
    ++ (codes ",\"process\":" ++ (or_null_text process.id
    ++ (codes ",\"version\":\"" ++ (version
    ++ (codes "\",\"start_ms\":" ++ or_null_text process.start))))))))

-- how often the token came round, and the end of the object and of the line
abbrev pub rounds_text : ℕ → List ℕ
rounds_text rounds = codes ",\"rounds\":" ++ (decimal rounds ++ codes "}\n")

-- the whole line
abbrev pub look_text : StatusLine → List LinkPart → LoanPart → TurnPart → ProcessPart → List ℕ → ℕ → List ℕ
look_text status links loans turns process version rounds =
    (codes "{" ++ status_part status)
    ++ ((codes ",\"links\":[" ++ (links_text links ++ codes "]"))
    ++ (rest_text loans turns process version ++ rounds_text rounds))

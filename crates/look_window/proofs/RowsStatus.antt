-- What a node says of itself, by hand.
use Rattle.std.proofs.Common.{◌≡◌, [], ◌∷◌, None, Some, true, false, codes, refl}
use Rattle.std.specs.Fmt.{digits}
use Rattle.turn_watch.specs.declared.notes.TurnNotes.{TurnNotes}
use Rattle.node_core.specs.Site.{Site}
use Rattle.node_core.specs.State.{default_node}
use Rattle.look_window.specs.NodeLook.{node_look}
use Rattle.look_window.specs.NodeStatus.{line_of}

-- what the root of two nodes says of itself as it starts
abbrev root : Site
root = record { id = 0; is_root = true; ranges = record { nodes = 2; counter = 5; ring = 7 }; lease = 0; neighbours = 1 ∷ [] }

line-root : line_of root (default_node root.ranges) ≡ record { node = 0; distance = 2; parent = None; token = false; lent = None; waiting = 0 }
line-root = refl

-- what it says to whoever looks 2 ms after its start, as process 4711; of its link nothing was noted yet
abbrev noted : TurnNotes
noted = record {
  turns = record {
    count = 512;
    ended = 1900;
    longest = 2290;
    late = 3;
    lately = record { half = 0; present = 2190; before = 0; earlier = 0 };
  };
  loans = record { count = 3; longest = 1204; since = None; lately = record { half = 0; present = 990; before = 0; earlier = 0 } };
  rounds = record { count = 58; last = None };
  links = [];
  limit = 2200;
  next = 0;
}

look-root : node_look root (default_node root.ranges) noted (record { id = Some 4711; start = None }) (codes "0.1.0") 2000
    ≡ codes "{\"node\":0,\"distance\":2,\"parent\":null,\"token\":false,\"lent\":null,\"waiting\":0,\"links\":[{\"node\":1,\"up\":false,\"for_us\":2000,\"breaks\":0}],\"loans\":{\"count\":3,\"longest_us\":1204,\"present_us\":null,\"lately_us\":990},\"turns\":{\"count\":512,\"longest_us\":2290,\"lately_us\":2190,\"limit_us\":2200,\"late\":3},\"process\":4711,\"version\":\"0.1.0\",\"start_ms\":null,\"rounds\":58}\n"
unfolding digits
look-root = refl

-- a node without neighbours shows no link, and the loan that its notes have has lasted 0.8 ms
look_not-linked : node_look (record root { neighbours = [] }) (default_node root.ranges)
    (record noted { loans = record noted.loans { since = Some 1200 } }) (record { id = None; start = Some 1790000000000 }) (codes "1") 2000
    ≡ codes "{\"node\":0,\"distance\":2,\"parent\":null,\"token\":false,\"lent\":null,\"waiting\":0,\"links\":[],\"loans\":{\"count\":3,\"longest_us\":1204,\"present_us\":800,\"lately_us\":990},\"turns\":{\"count\":512,\"longest_us\":2290,\"lately_us\":2190,\"limit_us\":2200,\"late\":3},\"process\":null,\"version\":\"1\",\"start_ms\":1790000000000,\"rounds\":58}\n"
unfolding digits
look_not-linked = refl

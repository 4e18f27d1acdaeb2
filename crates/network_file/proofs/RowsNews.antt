-- Small examples of what a node finds in its network file and says of it, and ones that fail.
use Rattle.std.proofs.Common.{◌≡◌, ◌≢◌, true, false, [], ◌∷◌, Ok, Err, map, refl, codes, arith}
use Rattle.std.specs.Fmt.{digits}
use Rattle.topology.specs.Network.{Network, Edge}
use Rattle.network_file.specs.declared.fault.NetworkFault.TheVariants.{Unreadable}
use Rattle.network_file.specs.declared.fault.NetworkFault.TheVariants as file
use Rattle.topology.specs.declared.fault.NetFault.TheVariants.{Apart, Shape}
use Rattle.network_file.specs.Reasons.{reason, fault_number}
use Rattle.network_file.specs.declared.news.Found.TheVariants.{Same, OtherEdges, Other, Refused}
use Rattle.network_file.specs.News.{found_in, has_new, new_news, news_then, is_said}
use Rattle.network_file.specs.Line.{edge_text, edge_if_new, new_edges_text, or_none, taken_line, not_taken_line, news_line}

-- a line of three, the same with its edges in another order, and a ring
abbrev row : Network
row = record { nodes = 3; root = 0; capacity = 64; lease = 0; edges = (0, 1) ∷ (1, 2) ∷ [] }

abbrev turned : Network
turned = record row { edges = (2, 1) ∷ (0, 1) ∷ [] }

abbrev ring : Network
ring = record row { edges = (0, 1) ∷ (1, 2) ∷ (0, 2) ∷ [] }

finds : map (found_in row) (Ok turned ∷ Ok ring ∷ Ok (record ring { lease = 5 }) ∷ Err Unreadable ∷ []) ≡ Same ∷ OtherEdges ∷ Other ∷ Refused Unreadable ∷ []
finds = refl

finds-gone : found_in ring (Ok row) ≡ OtherEdges
finds-gone = refl

new-edges : map (has_new row) (ring ∷ turned ∷ []) ≡ true ∷ false ∷ []
new-edges = refl

remembers : news_then (Refused Unreadable) ≡ record { refused = 2 }
remembers = refl

forgets : news_then OtherEdges ≡ new_news
forgets = refl

-- other edges each time, any other fault once
says : map (λ found. map (is_said found) (0 ∷ 1 ∷ [])) (OtherEdges ∷ Other ∷ Same ∷ []) ≡ (true ∷ true ∷ []) ∷ (true ∷ false ∷ []) ∷ (false ∷ false ∷ []) ∷ []
says = refl

says-another : is_said (Refused (file.Refused Apart)) (reason (Refused (file.Refused Shape))) ≡ true
says-another = refl

numbers_not-alike : fault_number Apart ≢ fault_number Shape
numbers_not-alike = grind arith

-- the words
spells-edge : edge_text (0, 12) ≡ codes " [0, 12]"
unfolding digits
spells-edge = refl

spells_not-old : edge_if_new ((0, 1) ∷ []) (1, 0) ≡ []
spells_not-old = refl

spells-new : new_edges_text row.edges ring.edges ≡ codes " [0, 2]"
unfolding digits
spells-new = refl

spells-none : or_none [] ≡ codes " none"
spells-none = refl

spells_not-none : or_none (codes " [0, 2]") ≡ codes " [0, 2]"
spells_not-none = refl

spells-taken : news_line 1 (codes "x.toml") row (Ok ring)
    ≡ codes "tokentree: node 1 takes up x.toml: edges that came: [0, 2]; that went: none"
unfolding digits
spells-taken = refl

spells-refused : news_line 1 (codes "x.toml") row (Err Unreadable)
    ≡ codes "tokentree: node 1 does not take up x.toml: network Unreadable"
unfolding digits
spells-refused = refl

spells-other : news_line 1 (codes "x.toml") row (Ok (record ring { root = 1 }))
    ≡ codes "tokentree: node 1 does not take up x.toml: while nodes run, only edges may change"
unfolding digits
spells-other = refl

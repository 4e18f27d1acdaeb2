-- A network as members, and how they are put under their keys.
use Rattle.std.proofs.Common.{◌≡◌, ◌∙◌, ℕ, ◌+◌, ◌<◌, ◌≤◌, suc, max, pos, List, [], ◌∷◌, ◌++◌, length, get_or, take, map, Some, String, Global, string_bytes, Ordering, Less, Equal, Greater, refl, sym, ap, arith}
use Rattle.std.specs.Prelude.{codes, Ok}
use Rattle.std.specs.Ordering.{match_ordering}
use Rattle.std.specs.String.{string_cmp}
use Rattle.std.specs.BTreeMap.{insert_entry}
use Rattle.std.proofs.Math.Nat.{max-le}
use Rattle.std.proofs.lemmas.List.{take_more}
use Rattle.toml.specs.Data.{Items, item, Members, no_members, integer, array, push_item, items_depth, members_depth}
use Rattle.toml.specs.View.{view, items_view, members_view}
use Rattle.toml.specs.Parse.{parse_document}
use Rattle.toml.specs.declared.value.Value.{Value}
use Rattle.toml.proofs.Views.{Entry, items_view-push}
use Rattle.topology.specs.Network.{Network, Edge}
use Rattle.topology.specs.Refusal.{values_of, as_ends}
use Rattle.topology.specs.Reading.{all_ends, read_document, read_text}
use Rattle.network_kinds.specs.Text.{with_member, edge_data, edges_data, network_data}

-- ---- a member more

match_entries : (o : Ordering) (a b c : List Entry) → members_view (match_ordering o a b c) ≡ match_ordering o (members_view a) (members_view b) (members_view c)
match_entries Less a b c = refl
match_entries Equal a b c = refl
match_entries Greater a b c = refl

entries_put : (es : List Entry) (k : String Global) (v : Value) → members_view (insert_entry string_cmp es k v) ≡ with_member (string_bytes k) (view v) (members_view es)
entries_put [] k v = refl
entries_put (e ∷ es) k v = match_entries (string_cmp k e.0) _ _ _ ∙ rw (entries_put es k v)

pub put_done : (k : String Global) (name : List ℕ) (v : Value) (old new : List Entry) → new ≡ insert_entry string_cmp old k v
    → string_bytes k ≡ name → members_view new ≡ with_member name (view v) (members_view old)
put_done k name v old new put same = rw (put, ← same) (entries_put old k v)

-- ---- the edges

edges_last : (es : List Edge) (e : Edge) → edges_data (es ++ e ∷ []) ≡ push_item (edges_data es) (edge_data e)
edges_last [] e = refl
edges_last (x ∷ es) e = ap (item (edge_data x)) (edges_last es e)

pub edges_more : (values after : List Value) (v : Value) (edges : List Edge) (i : ℕ) (d : Edge) → after ≡ values ++ v ∷ []
    → items_view values ≡ edges_data (take i edges) → view v ≡ edge_data (get_or edges i d) → i < length edges
    → items_view after ≡ edges_data (take (i + 1) edges)
edges_more values after v edges i d put done one there =
    let last : push_item (items_view values) (view v) ≡ edges_data (take i edges ++ get_or edges i d ∷ []) =
    rw (done, one) (sym (edges_last (take i edges) (get_or edges i d))) in
    ap items_view put ∙ (items_view-push values v ∙ (last ∙ ap edges_data (sym (take_more edges i d there))))

edges_read : (es : List Edge) → all_ends (edges_data es) ≡ Some (map as_ends es)
edges_read [] = refl
edges_read (e ∷ es) = rw (edges_read es) refl

edges_few : (es : List Edge) → items_depth (edges_data es) ≤ 1
edges_few [] = omega arith
edges_few (e ∷ es) = max-le (omega arith) (edges_few es)

-- ---- the five members

pub members_done : (net : Network) (m0 m1 m2 m3 m4 m5 : Members) (edges : Items) → m0 ≡ no_members
    → m1 ≡ with_member (codes "nodes") (integer (pos net.nodes)) m0
    → m2 ≡ with_member (codes "root") (integer (pos net.root)) m1
    → m3 ≡ with_member (codes "capacity") (integer (pos net.capacity)) m2
    → m4 ≡ with_member (codes "lease") (integer (pos net.lease)) m3
    → edges ≡ edges_data net.edges
    → m5 ≡ with_member (codes "edges") (array edges) m4
    → m5 ≡ network_data net
members_done net m0 m1 m2 m3 m4 m5 edges e0 e1 e2 e3 e4 is e5 = rw (e5, e4, e3, e2, e1, e0, is) refl

few : (d : ℕ) → d ≤ 1 → max 0 (max (suc d) (max 0 (max 0 (max 0 0)))) ≤ 80
few d h =
    let root : max 0 0 ≤ 80 = max-le {a = 0} {b = 0} {k = 80} (omega arith) (omega arith) in
    let nodes : max 0 (max 0 0) ≤ 80 = max-le {a = 0} {b = max 0 0} {k = 80} (omega arith) root in
    let lease : max 0 (max 0 (max 0 0)) ≤ 80 = max-le {a = 0} {b = max 0 (max 0 0)} {k = 80} (omega arith) nodes in
    let edges : max (suc d) (max 0 (max 0 (max 0 0))) ≤ 80 = max-le {a = suc d} {b = max 0 (max 0 (max 0 0))} {k = 80} (omega (arith, h)) lease in
    max-le {a = 0} {b = max (suc d) (max 0 (max 0 (max 0 0)))} {k = 80} (omega arith) edges

depth_few : (net : Network) → members_depth (network_data net) ≤ 80
depth_few net = few (items_depth (edges_data net.edges)) (edges_few net.edges)

read_members_of : (net : Network) → read_document (Some (network_data net)) ≡ Ok (values_of net)
read_members_of net = rw (edges_read net.edges) refl

-- a text that reads as the members of a network reads as its values
pub text_reads : (net : Network) (bytes : List ℕ) (members : Members) → members ≡ network_data net
    → (members_depth members ≤ 80 → parse_document bytes ≡ Some members)
    → read_text bytes ≡ Ok (values_of net)
text_reads net bytes members same reads =
    let known : parse_document bytes ≡ Some members = reads (rw same (depth_few net)) in
    rw (known, same) (read_members_of net)

-- What the members of a file give, and texts and values that are a network or none.
use Rattle.std.proofs.Common.{◌≡◌, ℕ, ℤ, pos, true, false, List, [], ◌∷◌, None, Some, Ok, Err, refl, ap, sym, inl, inr, codes, arith}
use Rattle.std.proofs.Common.{suc, ◌++◌, drop, map, replicate, take}
use Rattle.toml.specs.Data.{Data, Members, no_items, item, no_members, member, integer, boolean, array, string}
use Rattle.toml.specs.Parse.{parse_document}
use Rattle.topology.specs.Network.{Network}
use Rattle.topology.specs.declared.fault.NetFault.TheVariants.{NotToml, Missing, Shape, TooSmall, Apart, BadRoot}
use Rattle.topology.specs.Refusal.{as_ends, values_of, is_outside, is_twice}
use Rattle.topology.specs.Accept.{IsAccepted, IsRefused, IsNotJoined}
use Rattle.topology.specs.Reading.{has_key, has_keys, integer_at, ends_of, all_ends, edges_at}
use Rattle.topology.specs.Reading.{values_in, shaped, read_members, read_document, read_text}
use Rattle.topology.specs.ReadNet.{IsReadFrom, IsUnread}
use Rattle.topology.proofs.Rows.{two, line, apart, edge, values, two-accepted, two-connected, apart-refused}

abbrev pair : ℤ → ℤ → Data
pair a b = array (item (integer a) (item (integer b) no_items))

-- the members of a file of two nodes, with this root and with these edges
abbrev file : Data → Data → Members
file root edges =
    member (codes "nodes") (integer (pos 2)) (member (codes "root") root (member (codes "capacity") (integer (pos 1))
    (member (codes "lease") (integer (pos 0)) (member (codes "edges") edges no_members))))

abbrev one_edge : Data
one_edge = array (item (pair (pos 0) (pos 1)) no_items)

members-read : read_members (file (integer (pos 0)) one_edge) ≡ Ok (values (pos 2) (pos 0) (pos 1) (pos 0) edge)
members-read = refl

-- the root is a word, or no edge of the list is a number alone
members_not-a-word : read_members (file (boolean true) one_edge) ≡ Err Shape
members_not-a-word = refl

members_not-an-edge : read_members (file (integer (pos 0)) (array (item (pair (pos 0) (pos 1)) (item (integer (pos 1)) no_items)))) ≡ Err Shape
members_not-an-edge = refl

members_not-a-list : read_members (file (integer (pos 0)) (integer (pos 1))) ≡ Err Shape
members_not-a-list = refl

-- a key that is not there comes before a value of a wrong shape
members_not-complete : read_members (member (codes "nodes") (boolean true) (member (codes "edges") one_edge no_members)) ≡ Err Missing
members_not-complete = refl

members_not-there : read_document None ≡ Err NotToml
members_not-there = refl

key-there : has_key (codes "root") (file (integer (pos 0)) one_edge) ≡ true
key-there = refl

key_not-longer : has_key (codes "roots") (file (integer (pos 0)) one_edge) ≡ false
key_not-longer = refl

integer-there : integer_at (codes "nodes") (file (integer (pos 0)) one_edge) ≡ Some (pos 2)
integer-there = refl

integer_not-a-list : integer_at (codes "edges") (file (integer (pos 0)) one_edge) ≡ None
integer_not-a-list = refl

ends-read : ends_of (pair (pos 3) (pos 1)) ≡ Some (pos 3, pos 1)
ends-read = refl

ends_not-a-number : ends_of (integer (pos 3)) ≡ None
ends_not-a-number = refl

-- all edges are read in their order, or none is
all-read : all_ends (item (pair (pos 0) (pos 1)) (item (pair (pos 2) (pos 1)) no_items)) ≡ Some ((pos 0, pos 1) ∷ (pos 2, pos 1) ∷ [])
all-read = refl

all_not-some : all_ends (item (pair (pos 0) (pos 1)) (item (boolean true) no_items)) ≡ None
all_not-some = refl

edges-there : edges_at (codes "edges") (file (integer (pos 0)) one_edge) ≡ Some edge
edges-there = refl

edges_not-a-number : edges_at (codes "root") (file (integer (pos 0)) one_edge) ≡ None
edges_not-a-number = refl

-- ---- all five keys

abbrev five : List (List ℕ)
five = codes "lease" ∷ codes "edges" ∷ codes "capacity" ∷ codes "root" ∷ codes "nodes" ∷ []

-- the members with these keys, each of them `false`
abbrev under : List (List ℕ) → Members
under [] = no_members
under (key ∷ keys) = member key (boolean false) (under keys)

-- the keys are there in any order, whatever their values are
keys-there : has_keys (under five) ≡ true
keys-there = refl

-- four of them are not enough, whichever is missing
keys_not-four :
    map (λ i. has_keys (under (take i five ++ drop (suc i) five))) (0 ∷ 1 ∷ 2 ∷ 3 ∷ 4 ∷ []) ≡ replicate 5 false
keys_not-four = refl

-- a key that no file needs does not replace one that is missing
keys_not-other : has_keys (under (codes "notes" ∷ drop 1 five)) ≡ false
keys_not-other = refl

-- the members of a file with a title, in another order than that of the values
abbrev titled : Data → Data → Data → Data → Data → Members
titled nodes root capacity lease edges =
    member (codes "edges") edges (member (codes "lease") lease (member (codes "title") (string (codes "hall"))
    (member (codes "capacity") capacity (member (codes "root") root (member (codes "nodes") nodes no_members)))))

abbrev two_edges : Data
two_edges = array (item (pair (pos 0) (pos 1)) (item (pair (pos 2) (pos 1)) no_items))

-- each value is that of its own key
values-in : values_in (titled (integer (pos 3)) (integer (pos 7)) (integer (pos 5)) (integer (pos 9)) two_edges)
    ≡ Some (values (pos 3) (pos 7) (pos 5) (pos 9) ((pos 0, pos 1) ∷ (pos 2, pos 1) ∷ []))
values-in = refl

-- there are none if one value has a wrong shape, whichever it is
values_not-shape : map values_in (
    titled (string (codes "3")) (integer (pos 7)) (integer (pos 5)) (integer (pos 9)) two_edges
    ∷ titled (integer (pos 3)) (boolean true) (integer (pos 5)) (integer (pos 9)) two_edges
    ∷ titled (integer (pos 3)) (integer (pos 7)) two_edges (integer (pos 9)) two_edges
    ∷ titled (integer (pos 3)) (integer (pos 7)) (integer (pos 5)) (string []) two_edges
    ∷ titled (integer (pos 3)) (integer (pos 7)) (integer (pos 5)) (integer (pos 9)) (pair (pos 0) (pos 1)) ∷ [])
    ≡ replicate 5 None
values_not-shape = refl

-- there are none if a key is missing
values_not-four : values_in (member (codes "root") (integer (pos 0)) (member (codes "capacity") (integer (pos 1))
    (member (codes "lease") (integer (pos 0)) (member (codes "edges") one_edge no_members)))) ≡ None
values_not-four = refl

-- values are given as they are, even if no network has them
shaped-given : shaped (Some (values (pos 1) (pos 7) (pos 0) (pos 9) [])) ≡ Ok (values (pos 1) (pos 7) (pos 0) (pos 9) [])
shaped-given = refl

-- if there are none, that is a wrong shape, not a missing key
shaped_not-missing : shaped None ≡ Err Shape
shaped_not-missing = refl

-- ---- values and edges of a network

-- the values of a network are those that its file names
values-named : values_of line ≡ values (pos 3) (pos 0) (pos 1) (pos 0) ((pos 0, pos 1) ∷ (pos 1, pos 2) ∷ [])
values-named = refl

values_not-other : ¬ (values_of line ≡ values_of apart)
values_not-other e = grind (arith, e)

ends-named : as_ends (2, 5) ≡ (pos 2, pos 5)
ends-named = refl

outside : is_outside (pos 2) (pos 2) ≡ true
outside = refl

outside_not-the-last : is_outside (pos 2) (pos 1) ≡ false
outside_not-the-last = refl

twice : is_twice (pos 0, pos 1) (pos 1, pos 0) ≡ true
twice = refl

twice_not-one-end : is_twice (pos 0, pos 1) (pos 1, pos 2) ≡ false
twice_not-one-end = refl

-- ---- networks

accepted : IsAccepted (values_of two) two
accepted = record { same = refl; no_fault = refl; network = two-accepted }

accepted_not-another : ¬ IsAccepted (values_of two) line
accepted_not-another a = let e = ap (λ v. v.nodes) a.same in grind (arith, e)

refused : IsRefused (values (pos 1) (pos 0) (pos 1) (pos 0) edge) TooSmall
refused = refl

-- two nodes are not too few, and what is too small is not called apart
refused_not-two : ¬ IsRefused (values_of two) TooSmall
refused_not-two e = grind (arith, e)

refused-apart : IsRefused (values_of apart) Apart
refused-apart = (refl, (apart, refl, apart-refused))

refused_not-apart : ¬ IsRefused (values (pos 1) (pos 0) (pos 1) (pos 0) edge) Apart
refused_not-apart r = let e = r.0 in grind (arith, e)

not_joined : IsNotJoined apart Apart
not_joined = apart-refused

not_joined_not-two : ¬ IsNotJoined two Apart
not_joined_not-two apart = apart two-connected

not_joined_not-root : ¬ IsNotJoined apart BadRoot
not_joined_not-root none = none

-- ---- texts: of the grammar we say only what document it finds

module _ (text : List ℕ) where
  -- a text gives the values of its document, or no values if it has none
  text-values : parse_document text ≡ Some (file (integer (pos 0)) one_edge)
      → read_text text ≡ Ok (values (pos 2) (pos 0) (pos 1) (pos 0) edge)
  text-values found = ap read_document found

  text_not-toml : parse_document text ≡ None → read_text text ≡ Err NotToml
  text_not-toml found = ap read_document found

  read-from : parse_document text ≡ Some (file (integer (pos 0)) one_edge) → IsReadFrom text two
  read-from found = (values_of two, ap read_document found, accepted)

  read_not-without-document : parse_document text ≡ None → (net : Network) → ¬ IsReadFrom text net
  read_not-without-document found net (v, is, a) = let e = sym (ap read_document found) in grind (arith, e, is)

  unread : parse_document text ≡ None → IsUnread text NotToml
  unread found = inl (ap read_document found)

  unread-values : parse_document text ≡ Some (file (integer (pos 2)) one_edge) → IsUnread text BadRoot
  unread-values found = inr (values (pos 2) (pos 2) (pos 1) (pos 0) edge, ap read_document found, refl)

  -- a document is no reason to say that there is none, and one without a key is not of a wrong shape
  unread_not-a-document : parse_document text ≡ Some (file (integer (pos 0)) one_edge) → ¬ IsUnread text NotToml
  unread_not-a-document found (inl none) = let e = sym (ap read_document found) in grind (arith, e, none)
  unread_not-a-document found (inr (v, is, refused)) =
      let e = sym (ap read_document found) in
      let same : v ≡ values_of two = grind (arith, e, is) in
      grind (arith, same, refused)

  unread_not-shape : parse_document text ≡ Some no_members → ¬ IsUnread text Shape
  unread_not-shape found (inl shape) = let e = sym (ap read_document found) in grind (arith, e, shape)
  unread_not-shape found (inr (v, is, refused)) = let e = sym (ap read_document found) in grind (arith, e, is)

-- The spelling of a state in range is accepted, and read as that state.
use Rattle.std.proofs.Common.{◌≡◌, ◌<◌, ◌≤◌, ◌*◌, ◌∙◌, ap, refl, arith, true, false, ◌&&◌, ◌==◌, not, nat_lt, ℕ, List, [], ◌∷◌, length, drop, map, Option, Some, None, Ok, IsTrue, inl, inr}
use Rattle.std.specs.List.{AllByRecursion, flat_map, list_all}
use Rattle.std.proofs.Math.Path.{fun_ext}
use Rattle.std.proofs.lemmas.Bool.{cases_Bool, eqb-true}
use Rattle.std.proofs.lemmas.Bool.Decides.{nat_tests}
use Rattle.std.proofs.lemmas.List.Elements.{recursion_from_All}
use Rattle.topology.specs.Network.{Network, neighbours_of, IsAcceptedNetwork}
use Rattle.topology.specs.Ranges.{parent_fits, ranges_of}
use Rattle.topology.specs.declared.frame.Ranges.{Ranges}
use Rattle.topology.specs.Laws.{Limits}
use Rattle.state_writing.specs.node_core.data_link.Port.{PortState, port_fits}
use Rattle.state_writing.specs.node_core.lock_desk.Desk.{no_desk}
use Rattle.state_writing.specs.node_core.registers.Rewire.{is_among, rewired_ports, rewired_values}
use Rattle.state_writing.specs.node_core.State.{LocalState}
use Rattle.state_writing.specs.node_core.Rewire.{rewired}
use Rattle.state_writing.specs.declared.layout.FileLayout.{FileLayout}
use Rattle.state_writing.specs.declared.layout.FileLayout.TheVariants.{Tkt1, Tkt2}
use Rattle.node_state_file.specs.declared.saved.Header.{Header}
use Rattle.node_state_file.specs.declared.saved.SavedPort.{SavedPort}
use Rattle.state_writing.specs.Spelling.{header_numbers, parent_number, port_numbers, spelling}
use Rattle.node_state_file.specs.Reading.{are_ascending, are_others, decoded, fields_fit, first_fault, found, header_length, header_of, ids_of, is_header_of, layout_of, matched, parent_of, port_or_new, ports_in, saved_port_fits, value_or_new}
use Rattle.node_state_file.specs.Laws.{IsSavable, MayBeNeighbours}
use Rattle.node_state_file.proofs.ReadAgain.{IsSmall, bytes_of, parent_again, parent_small, plain, ports_long, ports_read, read_at, saved}

abbrev capacity_of : FileLayout → ℕ → Option ℕ
capacity_of Tkt1 capacity = None
capacity_of Tkt2 capacity = Some capacity

-- the header that a state is spelled with
abbrev header : FileLayout → Network → ℕ → ℕ → LocalState → Header
header l net id degree s = record {
  nodes = net.nodes;
  id = id;
  capacity = capacity_of l net.capacity;
  degree = degree;
  distance = s.distance;
  parent = s.parent;
}

layout_read : (l : FileLayout) (net : Network) (id : ℕ) (ids : List ℕ) (s : LocalState) → layout_of (spelling l net id ids s) ≡ Some l
layout_read Tkt1 net id ids s = refl
layout_read Tkt2 net id ids s = refl

ports_after : (l : FileLayout) (net : Network) (id : ℕ) (ids : List ℕ) (s : LocalState)
    → drop (header_length l) (spelling l net id ids s) ≡ bytes_of (flat_map (port_numbers s) ids)
ports_after Tkt1 net id ids s = refl
ports_after Tkt2 net id ids s = refl

header_there : (l : FileLayout) (net : Network) (id : ℕ) (ids : List ℕ) (s : LocalState) → header_length l ≤ length (spelling l net id ids s)
header_there Tkt1 net id ids s = omega arith
header_there Tkt2 net id ids s = omega arith

same_header : (a b : Header) → a.nodes ≡ b.nodes → a.id ≡ b.id → a.capacity ≡ b.capacity → a.degree ≡ b.degree → a.distance ≡ b.distance → a.parent ≡ b.parent → a ≡ b
same_header a b nodes id capacity degree distance parent i =
    record { nodes = nodes i; id = id i; capacity = capacity i; degree = degree i; distance = distance i; parent = parent i }

header_read : (l : FileLayout) (net : Network) (id : ℕ) (ids : List ℕ) (s : LocalState) → AllByRecursion IsSmall (header_numbers l net id (length ids) s)
    → parent_of (parent_number s.parent) ≡ s.parent → header_of l (spelling l net id ids s) ≡ header l net id (length ids) s
header_read Tkt1 net id ids s small again =
    let xs = header_numbers Tkt1 net id (length ids) s in
    let rest = bytes_of (flat_map (port_numbers s) ids) in
    same_header _ _ (read_at xs rest 0 (omega arith) small) (read_at xs rest 1 (omega arith) small) refl (read_at xs rest 2 (omega arith) small)
    (read_at xs rest 3 (omega arith) small) (ap parent_of (read_at xs rest 4 (omega arith) small) ∙ again)
header_read Tkt2 net id ids s small again =
    let xs = header_numbers Tkt2 net id (length ids) s in
    let rest = bytes_of (flat_map (port_numbers s) ids) in
    same_header _ _ (read_at xs rest 0 (omega arith) small) (read_at xs rest 1 (omega arith) small) (ap Some (read_at xs rest 2 (omega arith) small))
    (read_at xs rest 3 (omega arith) small) (read_at xs rest 4 (omega arith) small) (ap parent_of (read_at xs rest 5 (omega arith) small) ∙ again)

header_small : (l : FileLayout) (net : Network) (id degree : ℕ) (s : LocalState) → net.nodes ≤ 64 → net.capacity ≤ 4096 → id < net.nodes → degree < net.nodes → s.distance ≤ net.nodes
    → parent_number s.parent < 65536 → AllByRecursion IsSmall (header_numbers l net id degree s)
header_small Tkt1 net id degree s most capacity inside few near parent =
    (omega arith, (omega arith, (omega arith, (omega arith, (parent, tt)))))
header_small Tkt2 net id degree s most capacity inside few near parent =
    (omega arith, (omega arith, (omega arith, (omega arith, (omega arith, (parent, tt))))))

header_fits : (l : FileLayout) (net : Network) (id degree : ℕ) (s : LocalState) → 1 ≤ degree → degree < net.nodes → is_header_of net id (header l net id degree s) ≡ true
header_fits Tkt1 net id degree s some few = grind (arith, nat_tests, some, few)
header_fits Tkt2 net id degree s some few = grind (arith, nat_tests, some, few)

-- the ids of ports that were spelled
ids_again : (s : LocalState) (ids : List ℕ) → ids_of (map (saved s) ids) ≡ ids
ids_again s [] = refl
ids_again s (w ∷ ws) = ap (λ vs. w ∷ vs) (ids_again s ws)

others_again : (s : LocalState) (nodes id : ℕ) (ids : List ℕ)
    → list_all (λ p. nat_lt p.neighbour nodes && not (p.neighbour == id)) (map (saved s) ids) ≡ list_all (λ w. nat_lt w nodes && not (w == id)) ids
others_again s nodes id [] = refl
others_again s nodes id (w ∷ ws) = ap (λ b. (nat_lt w nodes && not (w == id)) && b) (others_again s nodes id ws)

ports_fit_again : (r : Ranges) (s : LocalState) (ids : List ℕ) → AllByRecursion (λ w. IsTrue (port_fits r (s.port w))) ids → AllByRecursion (λ w. s.value w < r.ring) ids
    → list_all (saved_port_fits r) (map (saved s) ids) ≡ true
ports_fit_again r s [] ports values = refl
ports_fit_again r s (w ∷ ws) ports values =
    let one : saved_port_fits r (saved s w) ≡ true = let p = ports.0 in let v = values.0 in grind (arith, nat_tests, p, v) in
    rw one (ports_fit_again r s ws ports.1 values.1)

-- a port that was spelled is found
found_again : (s : LocalState) (ids : List ℕ) (w : ℕ) → is_among ids w ≡ true → found (map (saved s) ids) w ≡ Some (saved s w)
found_again s [] w on = absurd (grind (arith, on))
found_again s (u ∷ us) w on = elim (cases_Bool (u == w)) [
  | inl same ↦ let is : u ≡ w = eqb-true u w same in rw same (ap (λ v. Some (saved s v)) is)
  | inr other ↦ rw other (found_again s us w (rw other at on))
]

port_again : (r : Ranges) (s : LocalState) (ids new : List ℕ) (w : ℕ)
    → rewired_ports r ids new (λ v. port_or_new r (found (map (saved s) ids) v)) w ≡ rewired_ports r ids new s.port w
port_again r s ids new w = elim (cases_Bool (is_among ids w)) [
  | inl on ↦ rw (found_again s ids w on) refl
  | inr off ↦ rw off refl
]

value_again : (s : LocalState) (ids new : List ℕ) (w : ℕ)
    → rewired_values ids new (λ v. value_or_new (found (map (saved s) ids) v)) w ≡ rewired_values ids new s.value w
value_again s ids new w = elim (cases_Bool (is_among ids w)) [
  | inl on ↦ rw (found_again s ids w on) refl
  | inr off ↦ rw off refl
]

-- a state's own distance and parent, with these ports and values, and an empty desk
abbrev with_ports : LocalState → (ℕ → PortState) → (ℕ → ℕ) → LocalState
with_ports s p v = record { distance = s.distance; parent = s.parent; port = p; value = v; desk = no_desk }

-- the ports that were spelled give the state, re-matched
matched_again : (l : FileLayout) (net : Network) (id degree : ℕ) (ids : List ℕ) (s : LocalState)
    → matched net id (header l net id degree s) (map (saved s) ids) ≡ record (rewired (ranges_of net) ids (neighbours_of net id) s) { desk = no_desk }
matched_again l net id degree ids s =
    let r = ranges_of net in
    let new = neighbours_of net id in
    let found_port : ℕ → PortState = λ v. port_or_new r (found (map (saved s) ids) v) in
    let found_value : ℕ → ℕ = λ v. value_or_new (found (map (saved s) ids) v) in
    ap (λ old. with_ports s (rewired_ports r old new found_port) (rewired_values old new found_value)) (ids_again s ids)
    ∙ ap (λ (p : ℕ → PortState). with_ports s p (rewired_values ids new found_value)) (fun_ext (port_again r s ids new))
    ∙ ap (λ (v : ℕ → ℕ). with_ports s (rewired_ports r ids new s.port) v) (fun_ext (value_again s ids new))

-- if all tests hold there is no fault
no_fault : (net : Network) (id : ℕ) (l : FileLayout) (bytes : List ℕ) (h : Header) (rest : List ℕ) (ports : List SavedPort) → header_length l ≤ length bytes
    → header_of l bytes ≡ h → drop (header_length l) bytes ≡ rest → ports_in h.degree rest ≡ ports → is_header_of net id h ≡ true → length rest ≡ 20 * h.degree
    → are_others net.nodes id ports ≡ true → fields_fit (ranges_of net) h ports ≡ true → first_fault net id l bytes ≡ None
no_fault net id l bytes h rest ports there h_is rest_is ports_are header long others fields =
    let a : nat_lt (length bytes) (header_length l) ≡ false = grind (arith, nat_tests, there) in
    let b : nat_lt (length rest) (20 * h.degree) ≡ false = grind (arith, nat_tests, long) in
    let c : nat_lt (20 * h.degree) (length rest) ≡ false = grind (arith, nat_tests, long) in
    rw (h_is, rest_is, ports_are, a, header, b, others, fields, c) refl

pub accepted : Limits → (net : Network) (id : ℕ) (l : FileLayout) (ids : List ℕ) (s : LocalState) → IsAcceptedNetwork net → id < net.nodes
    → MayBeNeighbours net.nodes id ids → IsSavable net ids s
    → decoded net id (spelling l net id ids s) ≡ Ok (record (rewired (ranges_of net) ids (neighbours_of net id) s) { desk = no_desk })
accepted limits net id l ids s good inside may fits =
    let r = ranges_of net in
    let bytes = spelling l net id ids s in
    let degree = length ids in
    let h = header l net id degree s in
    let rest = bytes_of (flat_map (port_numbers s) ids) in
    let ports = map (saved s) ids in
    let (two, most, c5, counter, r7, ring) = limits net good in
    let port_list = recursion_from_All (λ w. IsTrue (port_fits r (s.port w))) ids fits.ports in
    let value_list = recursion_from_All (λ w. s.value w < r.ring) ids fits.values in
    let own = fits.own in
    let near : s.distance ≤ net.nodes = grind (arith, nat_tests, own) in
    let parent : IsTrue (parent_fits net.nodes s.parent) = grind (arith, own) in
    let small = header_small l net id degree s most good.limits.most_capacity inside may.few near (parent_small net.nodes s.parent most parent) in
    let h_is = header_read l net id ids s small (parent_again net.nodes s.parent most parent) in
    let rest_is = ports_after l net id ids s in
    let ports_are = ports_read s ids (plain r s id ids most counter ring may.others port_list value_list) in
    let ascending : are_ascending (ids_of ports) ≡ true = ap are_ascending (ids_again s ids) ∙ may.ascending in
    let all_others = others_again s net.nodes id ids ∙ may.others in
    let others : are_others net.nodes id ports ≡ true = rw (ascending, all_others) refl in
    let fields : fields_fit r h ports ≡ true = rw (own, ports_fit_again r s ids port_list value_list) refl in
    let none = no_fault net id l bytes h rest ports (header_there l net id ids s) h_is rest_is ports_are (header_fits l net id degree s may.some may.few) (ports_long s ids) others fields in
    let is_read : decoded net id bytes ≡ Ok (matched net id h ports) = rw (layout_read l net id ids s, none, h_is, rest_is, ports_are) refl in
    is_read ∙ ap Ok (matched_again l net id degree ids s)

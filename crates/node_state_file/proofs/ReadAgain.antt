-- What is written is read again.
use Rattle.std.proofs.Common.{◌≡◌, ◌<◌, ◌≤◌, ◌*◌, ◌∙◌, ap, refl, arith, ◌&&◌, ◌==◌, not, nat_lt, ℕ, zero, suc, List, [], ◌∷◌, ◌++◌, length, map, slice_index, Option, Some, None, IsTrue}
use Rattle.std.specs.List.{AllByRecursion, flat_map, list_all}
use Rattle.std.proofs.lemmas.Bool.Decides.{nat_tests}
use Rattle.byteorder.specs.Endian.{big_bytes}
use Rattle.byteorder.specs.Numbers.{big_number-reads_back}
use Rattle.topology.specs.Ranges.{parent_fits, payload_fits}
use Rattle.topology.specs.declared.frame.Ranges.{Ranges}
use Rattle.state_writing.specs.node_core.data_link.Port.{port_fits}
use Rattle.state_writing.specs.node_core.State.{LocalState}
use Rattle.node_state_file.specs.declared.saved.SavedPort.{SavedPort}
use Rattle.state_writing.specs.Spelling.{parent_number, port_numbers}
use Rattle.node_state_file.specs.Reading.{number_at, parent_of, port_in, ports_in}

abbrev pub IsSmall : ℕ → Type 0
IsSmall x = x < 65536

-- the bytes of some numbers
abbrev pub bytes_of : List ℕ → List ℕ
bytes_of xs = flat_map (big_bytes 2) xs

-- the k-th number stands at place 2k
pub read_at : (xs rest : List ℕ) (k : ℕ) → k < length xs → AllByRecursion IsSmall xs → number_at (bytes_of xs ++ rest) (2 * k) ≡ slice_index xs k
read_at [] rest k below small = absurd (omega arith)
read_at (x ∷ xs) rest zero below small = big_number-reads_back 2 x (bytes_of xs ++ rest) small.0
read_at (x ∷ xs) rest (suc k) below small =
    ap (λ m. number_at (bytes_of (x ∷ xs) ++ rest) m) {x = 2 * suc k} {y = suc (suc (2 * k))} (omega arith) ∙ read_at xs rest k (omega arith) small.1

-- a parent differs from none
pub parent_again : (nodes : ℕ) (p : Option ℕ) → nodes ≤ 64 → IsTrue (parent_fits nodes p) → parent_of (parent_number p) ≡ p
parent_again nodes None most fits = refl
parent_again nodes (Some q) most fits = grind (arith, nat_tests, most, fits)

pub parent_small : (nodes : ℕ) (p : Option ℕ) → nodes ≤ 64 → IsTrue (parent_fits nodes p) → parent_number p < 65536
parent_small nodes None most fits = omega arith
parent_small nodes (Some q) most fits = grind (arith, nat_tests, most, fits)

-- what a file says of the port to w
abbrev pub saved : LocalState → ℕ → SavedPort
saved s w = let p = s.port w in record { neighbour = w; seq = p.seq; last = p.last; staged = p.staged; copy = p.copy; value = s.value w }

-- the numbers of a port are of two bytes, and its parents differ from none
pub record IsPlain (s : LocalState) (w : ℕ) : Type 0 where
  pub small : AllByRecursion IsSmall (port_numbers s w)
  pub staged : parent_of (parent_number (s.port w).staged.parent) ≡ (s.port w).staged.parent
  pub copy : parent_of (parent_number (s.port w).copy.parent) ≡ (s.port w).copy.parent

port_read : (s : LocalState) (w : ℕ) (rest : List ℕ) → IsPlain s w → port_in (bytes_of (port_numbers s w) ++ rest) ≡ saved s w
port_read s w rest plain =
    let at : (k : ℕ) → k < 10 → number_at (bytes_of (port_numbers s w) ++ rest) (2 * k) ≡ slice_index (port_numbers s w) k = λ k below. read_at (port_numbers s w) rest k below plain.small in
    let staged = ap parent_of (at 4 (omega arith)) ∙ plain.staged in
    let copy = ap parent_of (at 7 (omega arith)) ∙ plain.copy in
    λ i. record {
      neighbour = (at 0 (omega arith)) i;
      seq = (at 1 (omega arith)) i;
      last = (at 2 (omega arith)) i;
      staged = record { distance = (at 3 (omega arith)) i; parent = staged i; ring = (at 5 (omega arith)) i };
      copy = record { distance = (at 6 (omega arith)) i; parent = copy i; ring = (at 8 (omega arith)) i };
      value = (at 9 (omega arith)) i;
    }

pub ports_read : (s : LocalState) (ids : List ℕ) → AllByRecursion (IsPlain s) ids → ports_in (length ids) (bytes_of (flat_map (port_numbers s) ids)) ≡ map (saved s) ids
ports_read s [] plain = refl
ports_read s (w ∷ ws) plain = λ i. port_read s w (bytes_of (flat_map (port_numbers s) ws)) plain.0 i ∷ ports_read s ws plain.1 i

pub ports_long : (s : LocalState) (ids : List ℕ) → length (bytes_of (flat_map (port_numbers s) ids)) ≡ 20 * length ids
ports_long s [] = refl
ports_long s (w ∷ ws) = let rest = ports_long s ws in omega (arith, rest)

-- a port in range is plain
plain-one : (r : Ranges) (s : LocalState) (w : ℕ) → r.nodes ≤ 64 → r.counter ≤ 8195 → r.ring ≤ 379 → w < 64 → IsTrue (port_fits r (s.port w)) → s.value w < r.ring → IsPlain s w
plain-one r s w nodes counter ring below port value =
    let p = s.port w in
    let staged : IsTrue (payload_fits r p.staged) = grind (arith, port) in
    let copy : IsTrue (payload_fits r p.copy) = grind (arith, port) in
    let staged_parent : IsTrue (parent_fits r.nodes p.staged.parent) = grind (arith, staged) in
    let copy_parent : IsTrue (parent_fits r.nodes p.copy.parent) = grind (arith, copy) in
    record {
      small = (
        omega (arith, below),
        (
          grind (arith, nat_tests, port, counter),
          (
            grind (arith, nat_tests, port, counter),
            (
              grind (arith, nat_tests, staged, nodes),
              (
                parent_small r.nodes p.staged.parent nodes staged_parent,
                (
                  grind (arith, nat_tests, staged, ring),
                  (
                    grind (arith, nat_tests, copy, nodes),
                    (parent_small r.nodes p.copy.parent nodes copy_parent, (grind (arith, nat_tests, copy, ring), (omega (arith, value, ring), tt))),
                  ),
                ),
              ),
            ),
          ),
        ),
      );
      staged = parent_again r.nodes p.staged.parent nodes staged_parent;
      copy = parent_again r.nodes p.copy.parent nodes copy_parent;
    }

pub plain : (r : Ranges) (s : LocalState) (id : ℕ) (ids : List ℕ) → r.nodes ≤ 64 → r.counter ≤ 8195 → r.ring ≤ 379 → IsTrue (list_all (λ w. nat_lt w r.nodes && not (w == id)) ids)
    → AllByRecursion (λ w. IsTrue (port_fits r (s.port w))) ids → AllByRecursion (λ w. s.value w < r.ring) ids → AllByRecursion (IsPlain s) ids
plain r s id [] nodes counter ring others ports values = tt
plain r s id (w ∷ ws) nodes counter ring others ports values =
    let below : w < 64 = grind (arith, nat_tests, others, nodes) in
    let rest : IsTrue (list_all (λ v. nat_lt v r.nodes && not (v == id)) ws) = grind (arith, others) in
    (plain-one r s w nodes counter ring below ports.0 values.0, plain r s id ws nodes counter ring rest ports.1 values.1)

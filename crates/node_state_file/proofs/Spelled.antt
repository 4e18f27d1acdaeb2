-- A file that is read is the spelling of a state in range.
use Rattle.std.proofs.Common.{◌≡◌, ◌<◌, ◌≤◌, ◌+◌, ◌*◌, ◌/◌, ◌%◌, ◌∙◌, ap, sym, refl, arith, Bool, true, false, ◌&&◌, ◌==◌, not, nat_lt, if◌then◌else◌, ℕ, zero, suc, List, [], ◌∷◌, ◌++◌, length, take, drop, Option, Some, None, Ok, IsTrue, All, inl, inr, drop-drop, length-drop, take-append-drop}
use Rattle.std.specs.List.{AllByRecursion, flat_map, list_all}
use Rattle.std.specs.Str.{bytes_eq}
use Rattle.std.proofs.lemmas.Bool.{cases_Bool, eqb-true}
use Rattle.std.proofs.lemmas.Bool.Decides.{nat_tests}
use Rattle.std.proofs.lemmas.Grind.{common_steps, flat_map-append}
use Rattle.std.proofs.lemmas.List.Elements.{All-from_recursion, recursion_from_All}
use Rattle.std.proofs.lemmas.Slice.Eq.{bytes_eq-Decides}
use Rattle.byteorder.specs.Endian.{big_bytes, big_number}
use Rattle.topology.specs.Network.{Network, neighbours_of}
use Rattle.topology.specs.Ranges.{ranges_of}
use Rattle.topology.specs.declared.frame.Ranges.{Ranges}
use Rattle.state_writing.specs.node_core.data_link.Port.{port_fits}
use Rattle.state_writing.specs.node_core.lock_desk.Desk.{no_desk}
use Rattle.state_writing.specs.node_core.registers.Rewire.{is_among}
use Rattle.state_writing.specs.node_core.State.{LocalState}
use Rattle.state_writing.specs.node_core.Rewire.{rewired}
use Rattle.node_state_file.specs.declared.fault.FileFault.{FileFault}
use Rattle.node_state_file.specs.declared.fault.FileFault.TheVariants.{Short, Shape, Range, Long}
use Rattle.state_writing.specs.declared.layout.FileLayout.{FileLayout}
use Rattle.state_writing.specs.declared.layout.FileLayout.TheVariants.{Tkt1, Tkt2}
use Rattle.node_state_file.specs.declared.saved.Header.{Header}
use Rattle.node_state_file.specs.declared.saved.SavedPort.{SavedPort}
use Rattle.state_writing.specs.Spelling.{header_numbers, magic, parent_number, payload_numbers, port_numbers, spelling}
use Rattle.node_state_file.specs.Reading.{are_ascending, are_others, decoded, decoded_as, decoded_by, fields_fit, first_fault, found, header_length, header_of, ids_of, is_header_of, layout_of, matched, number_at, parent_of, port_in, port_or_new, ports_in, saved_port_fits, state_saved}
use Rattle.node_state_file.specs.Laws.{IsSpelled}
use Rattle.node_state_file.proofs.ReadAgain.{bytes_of}

abbrev IsByte : ℕ → Type 0
IsByte b = b < 256

-- the numbers of two bytes from a place on
abbrev numbers_from : ℕ → ℕ → List ℕ → List ℕ
numbers_from zero at bytes = []
numbers_from (suc k) at bytes = number_at bytes at ∷ numbers_from k (at + 2) bytes

small-drop : (n : ℕ) (xs : List ℕ) → AllByRecursion IsByte xs → AllByRecursion IsByte (drop n xs)
small-drop zero xs small = small
small-drop (suc n) [] small = tt
small-drop (suc n) (x ∷ xs) small = small-drop n xs small.1

high : (a b : ℕ) → b < 256 → a < 256 → (a * 256 + b) / 256 % 256 ≡ a
high a b small great = omega (arith, small, great)

low : (a b : ℕ) → b < 256 → (a * 256 + b) % 256 ≡ b
low a b small = omega (arith, small)

-- the bytes of the number that two bytes are
pair-back : (xs : List ℕ) → 2 ≤ length xs → AllByRecursion IsByte xs → big_bytes 2 (big_number 2 xs) ++ drop 2 xs ≡ xs
pair-back [] long small = absurd (omega arith)
pair-back (a ∷ []) long small = absurd (omega arith)
pair-back (a ∷ b ∷ xs) long small =
    let number : big_number 2 (a ∷ b ∷ xs) ≡ a * 256 + b = omega arith in
    rw number (λ i. high a b small.1.0 small.0 i ∷ low a b small.1.0 i ∷ xs)

numbers-back : (k at : ℕ) (bytes : List ℕ) → at + 2 * k ≤ length bytes → AllByRecursion IsByte bytes
    → bytes_of (numbers_from k at bytes) ++ drop (at + 2 * k) bytes ≡ drop at bytes
numbers-back zero at bytes long small = ap (λ m. drop m bytes) {x = at + 2 * 0} {y = at} (omega arith)
numbers-back (suc k) at bytes long small =
    let x : ℕ = number_at bytes at in
    let rest = numbers-back k (at + 2) bytes (omega arith) small in
    let more : bytes_of (numbers_from k (at + 2) bytes) ++ drop (at + 2 * suc k) bytes ≡ drop (at + 2) bytes =
    ap (λ m. bytes_of (numbers_from k (at + 2) bytes) ++ drop m bytes) {x = at + 2 * suc k} {y = at + 2 + 2 * k} (omega arith) ∙ rest in
    let long_enough : 2 ≤ length (drop at bytes) = omega (arith, length-drop at bytes) in
    let one : big_bytes 2 x ++ drop 2 (drop at bytes) ≡ drop at bytes = pair-back (drop at bytes) long_enough (small-drop at bytes small) in
    ap (λ ys. big_bytes 2 x ++ ys) more ∙ (ap (λ ys. big_bytes 2 x ++ ys) (sym (drop-drop 2 at bytes)) ∙ one)

parent-back : (n : ℕ) → parent_number (parent_of n) ≡ n
parent-back n = elim (cases_Bool (n == 65535)) [
  | inl is ↦ rw is (sym (eqb-true n 65535 is))
  | inr other ↦ rw other refl
]

-- the numbers of a port as a file has it
abbrev numbers_of : SavedPort → List ℕ
numbers_of p = p.neighbour ∷ p.seq ∷ p.last ∷ (payload_numbers p.staged ++ (payload_numbers p.copy ++ (p.value ∷ [])))

port-back : (bytes : List ℕ) → numbers_of (port_in bytes) ≡ numbers_from 10 0 bytes
port-back bytes =
    let n : ℕ → ℕ = number_at bytes in
    λ i. n 0 ∷ n 2 ∷ n 4 ∷ n 6 ∷ parent-back (n 8) i ∷ n 10 ∷ n 12 ∷ parent-back (n 14) i ∷ n 16 ∷ n 18 ∷ []

ports-back : (count : ℕ) (bytes : List ℕ) → length bytes ≡ 20 * count → AllByRecursion IsByte bytes → bytes_of (flat_map numbers_of (ports_in count bytes)) ≡ bytes
ports-back zero [] long small = refl
ports-back zero (b ∷ bytes) long small = absurd (omega (arith, long))
ports-back (suc count) bytes long small =
    let rest_long : length (drop 20 bytes) ≡ 20 * count = omega (arith, long, length-drop 20 bytes) in
    let rest = ports-back count (drop 20 bytes) rest_long (small-drop 20 bytes small) in
    let front = numbers-back 10 0 bytes (omega (arith, long)) small in
    flat_map-append (big_bytes 2) (numbers_of (port_in bytes)) (flat_map numbers_of (ports_in count (drop 20 bytes)))
    ∙ ap (λ ys. bytes_of (numbers_of (port_in bytes)) ++ ys) rest
    ∙ ap (λ xs. bytes_of xs ++ drop 20 bytes) (port-back bytes)
    ∙ front

-- ids that ascend are all above the first
above : (v w : ℕ) (ids : List ℕ) → v < w → are_ascending (w ∷ ids) ≡ true → AllByRecursion (λ u. v < u) (w ∷ ids)
above v w [] less up = (less, tt)
above v w (u ∷ us) less up =
    let next : w < u = grind (arith, nat_tests, up) in
    let rest : are_ascending (u ∷ us) ≡ true = grind (arith, up) in
    (less, above v u us (omega (arith, less, next)) rest)

abbrev IsFoundIn : List SavedPort → SavedPort → Type 0
IsFoundIn ports q = found ports q.neighbour ≡ Some q

found-kept : (p : SavedPort) (ports qs : List SavedPort) → AllByRecursion (λ u. p.neighbour < u) (ids_of qs) → AllByRecursion (IsFoundIn ports) qs → AllByRecursion (IsFoundIn (p ∷ ports)) qs
found-kept p ports [] less there = tt
found-kept p ports (q ∷ qs) less there =
    let one = less.0 in
    let other : (p.neighbour == q.neighbour) ≡ false = grind (arith, nat_tests, one) in
    (rw other there.0, found-kept p ports qs less.1 there.1)

-- if the ids ascend each port is found by its own
all-found : (ports : List SavedPort) → are_ascending (ids_of ports) ≡ true → AllByRecursion (IsFoundIn ports) ports
all-found [] up = tt
all-found (p ∷ []) up = let same : (p.neighbour == p.neighbour) ≡ true = grind (arith, nat_tests) in (rw same refl, tt)
all-found (p ∷ q ∷ ports) up =
    let same : (p.neighbour == p.neighbour) ≡ true = grind (arith, nat_tests) in
    let next : p.neighbour < q.neighbour = grind (arith, nat_tests, up) in
    let rest : are_ascending (ids_of (q ∷ ports)) ≡ true = grind (arith, up) in (
      rw same refl,
      found-kept p (q ∷ ports) (q ∷ ports) (above p.neighbour q.neighbour (ids_of ports) next rest) (all-found (q ∷ ports) rest),
    )

ports-again : (r : Ranges) (h : Header) (all ports : List SavedPort) → AllByRecursion (IsFoundIn all) ports
    → flat_map (port_numbers (state_saved r h all)) (ids_of ports) ≡ flat_map numbers_of ports
ports-again r h all [] there = refl
ports-again r h all (p ∷ ports) there =
    let one : port_numbers (state_saved r h all) p.neighbour ≡ numbers_of p = rw there.0 refl in
    λ i. one i ++ ports-again r h all ports there.1 i

-- each port and value is in range
ports-fit : (r : Ranges) (h : Header) (all ports : List SavedPort) → AllByRecursion (IsFoundIn all) ports → list_all (saved_port_fits r) ports ≡ true
    → AllByRecursion (λ w. IsTrue (port_fits r ((state_saved r h all).port w))) (ids_of ports)
ports-fit r h all [] there fits = tt
ports-fit r h all (p ∷ ports) there fits =
    let rest : list_all (saved_port_fits r) ports ≡ true = grind (arith, fits) in
    let one : IsTrue (port_fits r (port_or_new r (Some p))) = grind (arith, fits) in
    (rw there.0 one, ports-fit r h all ports there.1 rest)

values-fit : (r : Ranges) (h : Header) (all ports : List SavedPort) → AllByRecursion (IsFoundIn all) ports → list_all (saved_port_fits r) ports ≡ true
    → AllByRecursion (λ w. (state_saved r h all).value w < r.ring) (ids_of ports)
values-fit r h all [] there fits = tt
values-fit r h all (p ∷ ports) there fits =
    let rest : list_all (saved_port_fits r) ports ≡ true = grind (arith, fits) in
    let one : p.value < r.ring = grind (arith, nat_tests, fits) in
    (rw there.0 one, values-fit r h all ports there.1 rest)

others-are : (nodes id : ℕ) (ports : List SavedPort) → list_all (λ p. nat_lt p.neighbour nodes && not (p.neighbour == id)) ports ≡ true
    → list_all (λ w. nat_lt w nodes && not (w == id)) (ids_of ports) ≡ true
others-are nodes id [] all = refl
others-are nodes id (p ∷ ports) all =
    let rest : list_all (λ q. nat_lt q.neighbour nodes && not (q.neighbour == id)) ports ≡ true = grind (arith, all) in
    let one : (nat_lt p.neighbour nodes && not (p.neighbour == id)) ≡ true = grind (arith, all) in
    rw (one, others-are nodes id ports rest) refl

ids-many : (count : ℕ) (bytes : List ℕ) → length (ids_of (ports_in count bytes)) ≡ count
ids-many zero bytes = refl
ids-many (suc count) bytes = ap suc (ids-many count (drop 20 bytes))

-- All that was looked at was as it should be.
record Passed (net : Network) (id : ℕ) (l : FileLayout) (bytes : List ℕ) : Type 0 where
  pub there : header_length l ≤ length bytes
  pub header : is_header_of net id (header_of l bytes) ≡ true
  pub long : length (drop (header_length l) bytes) ≡ 20 * (header_of l bytes).degree
  pub others : are_others net.nodes id (ports_in (header_of l bytes).degree (drop (header_length l) bytes)) ≡ true
  pub fields : fields_fit (ranges_of net) (header_of l bytes) (ports_in (header_of l bytes).degree (drop (header_length l) bytes)) ≡ true

no-test : (a b c d e f : Bool)
    → (if a then Some Short else if not b then Some Shape else if c then Some Short else if not d then Some Shape else if not e then Some Range else if f then Some Long else None) ≡ None
    → (a ≡ false) × (b ≡ true) × (c ≡ false) × (d ≡ true) × (e ≡ true) × (f ≡ false)
no-test true b c d e f none = absurd (grind (arith, none))
no-test false false c d e f none = absurd (grind (arith, none))
no-test false true true d e f none = absurd (grind (arith, none))
no-test false true false false e f none = absurd (grind (arith, none))
no-test false true false true false f none = absurd (grind (arith, none))
no-test false true false true true true none = absurd (grind (arith, none))
no-test false true false true true false none = (refl, refl, refl, refl, refl, refl)

passed : (net : Network) (id : ℕ) (l : FileLayout) (bytes : List ℕ) → first_fault net id l bytes ≡ None → Passed net id l bytes
passed net id l bytes none =
    let h = header_of l bytes in
    let rest = drop (header_length l) bytes in
    let ports = ports_in h.degree rest in
    let (a, b, c, d, e, f) = no-test (nat_lt (length bytes) (header_length l)) (is_header_of net id h) (nat_lt (length rest) (20 * h.degree)) (are_others net.nodes id ports)
    (fields_fit (ranges_of net) h ports) (nat_lt (20 * h.degree) (length rest)) none in
    record {
      there = grind (arith, nat_tests, a);
      header = b;
      long = grind (arith, nat_tests, c, f);
      others = d;
      fields = e;
    }

read-as : (net : Network) (id : ℕ) (bytes : List ℕ) (l : FileLayout) (fault : Option FileFault) (s : LocalState) → decoded_as net id bytes l fault ≡ Ok s
    → (fault ≡ None) × (matched net id (header_of l bytes) (ports_in (header_of l bytes).degree (drop (header_length l) bytes)) ≡ s)
read-as net id bytes l (Some fault) s e = absurd (grind (arith, e))
read-as net id bytes l None s e = (refl, grind (arith, e))

read-by : (net : Network) (id : ℕ) (bytes : List ℕ) (named : Option FileLayout) (s : LocalState) → decoded_by net id bytes named ≡ Ok s
    → (l : FileLayout) × (named ≡ Some l) × (first_fault net id l bytes ≡ None) × (matched net id (header_of l bytes) (ports_in (header_of l bytes).degree (drop (header_length l) bytes)) ≡ s)
read-by net id bytes None s e = absurd (grind (arith, e))
read-by net id bytes (Some l) s e = let (none, is) = read-as net id bytes l (first_fault net id l bytes) s e in (l, refl, none, is)

word-is : (l : FileLayout) (word : List ℕ) (a b : Bool) → bytes_eq word (magic Tkt1) ≡ a → bytes_eq word (magic Tkt2) ≡ b
    → (if a then Some Tkt1 else if b then Some Tkt2 else None) ≡ Some l → word ≡ magic l
word-is Tkt1 word true b first second named = (bytes_eq-Decides word (magic Tkt1)).0 first
word-is Tkt2 word true b first second named = absurd (grind (arith, named))
word-is Tkt1 word false true first second named = absurd (grind (arith, named))
word-is Tkt2 word false true first second named = (bytes_eq-Decides word (magic Tkt2)).0 second
word-is l word false false first second named = absurd (grind (arith, named))

-- a first word, numbers and ports are all the bytes
whole : (k : ℕ) (bytes word numbers ports : List ℕ) → 4 + 2 * k ≤ length bytes → AllByRecursion IsByte bytes → take 4 bytes ≡ word → numbers ≡ numbers_from k 4 bytes
    → bytes_of ports ≡ drop (4 + 2 * k) bytes → word ++ bytes_of (numbers ++ ports) ≡ bytes
whole k bytes word numbers ports long small front middle back =
    ap (λ xs. word ++ xs) (flat_map-append (big_bytes 2) numbers ports ∙ ap (λ ys. bytes_of numbers ++ ys) back ∙ ap (λ xs. bytes_of xs ++ drop (4 + 2 * k) bytes) middle ∙ numbers-back k 4 bytes long small)
    ∙ ap (λ xs. xs ++ drop 4 bytes) (sym front)
    ∙ take-append-drop 4 bytes

abbrev HeaderNumbers : FileLayout → Network → ℕ → List ℕ → ℕ → LocalState → Type 0
HeaderNumbers Tkt1 net id bytes degree s = header_numbers Tkt1 net id degree s ≡ numbers_from 5 4 bytes
HeaderNumbers Tkt2 net id bytes degree s = header_numbers Tkt2 net id degree s ≡ numbers_from 6 4 bytes

header-back : (l : FileLayout) (net : Network) (id : ℕ) (bytes : List ℕ) (s : LocalState) → is_header_of net id (header_of l bytes) ≡ true
    → s.distance ≡ (header_of l bytes).distance → s.parent ≡ (header_of l bytes).parent → HeaderNumbers l net id bytes (header_of l bytes).degree s
header-back Tkt1 net id bytes s fits distance parent =
    let n : ℕ → ℕ = number_at bytes in
    let nodes : net.nodes ≡ n 4 = grind (arith, nat_tests, fits) in
    let own : id ≡ n 6 = grind (arith, nat_tests, fits) in
    let last : parent_number s.parent ≡ n 12 = ap parent_number parent ∙ parent-back (n 12) in
    λ i. nodes i ∷ own i ∷ n 8 ∷ distance i ∷ last i ∷ []
header-back Tkt2 net id bytes s fits distance parent =
    let n : ℕ → ℕ = number_at bytes in
    let nodes : net.nodes ≡ n 4 = grind (arith, nat_tests, fits) in
    let own : id ≡ n 6 = grind (arith, nat_tests, fits) in
    let capacity : net.capacity ≡ n 8 = grind (arith, nat_tests, fits) in
    let last : parent_number s.parent ≡ n 14 = ap parent_number parent ∙ parent-back (n 14) in
    λ i. nodes i ∷ own i ∷ capacity i ∷ n 10 ∷ distance i ∷ last i ∷ []

spelled-again : (l : FileLayout) (net : Network) (id : ℕ) (bytes ids : List ℕ) (s : LocalState) → header_length l ≤ length bytes → AllByRecursion IsByte bytes
    → take 4 bytes ≡ magic l → HeaderNumbers l net id bytes (length ids) s → bytes_of (flat_map (port_numbers s) ids) ≡ drop (header_length l) bytes
    → spelling l net id ids s ≡ bytes
spelled-again Tkt1 net id bytes ids s there small word header ports = whole 5 bytes (magic Tkt1) (header_numbers Tkt1 net id (length ids) s) (flat_map (port_numbers s) ids) there small word header ports
spelled-again Tkt2 net id bytes ids s there small word header ports = whole 6 bytes (magic Tkt2) (header_numbers Tkt2 net id (length ids) s) (flat_map (port_numbers s) ids) there small word header ports

some-ports : (net : Network) (id : ℕ) (h : Header) (count : ℕ) → is_header_of net id h ≡ true → count ≡ h.degree → 1 ≤ count
some-ports net id h count fits many = grind (arith, nat_tests, fits, many)

few-ports : (net : Network) (id : ℕ) (h : Header) (count : ℕ) → is_header_of net id h ≡ true → count ≡ h.degree → count < net.nodes
few-ports net id h count fits many = grind (arith, nat_tests, fits, many)

pub is_spelled : (net : Network) (id : ℕ) (bytes : List ℕ) (s : LocalState) → All IsByte bytes → decoded net id bytes ≡ Ok s → IsSpelled net id bytes s
is_spelled net id bytes s all is_read =
    let r = ranges_of net in
    let small = recursion_from_All IsByte bytes all in
    let (l, named, none, is) = read-by net id bytes (layout_of bytes) s is_read in
    let ok = passed net id l bytes none in
    let h = header_of l bytes in
    let rest = drop (header_length l) bytes in
    let ports = ports_in h.degree rest in
    let ids = ids_of ports in
    let kept = state_saved r h ports in
    let header = ok.header in
    let others = ok.others in
    let fields = ok.fields in
    let many : length ids ≡ h.degree = ids-many h.degree rest in
    let up : are_ascending ids ≡ true = grind (arith, others) in
    let all_others : list_all (λ p. nat_lt p.neighbour net.nodes && not (p.neighbour == id)) ports ≡ true = grind (arith, others) in
    let ports_fit : list_all (saved_port_fits r) ports ≡ true = grind (arith, fields) in
    let there = all-found ports up in
    let word = word-is l (take 4 bytes) (bytes_eq (take 4 bytes) (magic Tkt1)) (bytes_eq (take 4 bytes) (magic Tkt2)) refl refl named in
    let numbers : HeaderNumbers l net id bytes (length ids) kept = rw many (header-back l net id bytes kept header refl refl) in
    let back : bytes_of (flat_map (port_numbers kept) ids) ≡ rest = ap bytes_of (ports-again r h ports ports there) ∙ ports-back h.degree rest ok.long (small-drop (header_length l) bytes small) in
    record {
      layout = l;
      ids = ids;
      saved = kept;
      neighbours = record {
        some = some-ports net id h (length ids) header many;
        few = few-ports net id h (length ids) header many;
        ascending = up;
        others = others-are net.nodes id ports all_others;
      };
      range = record {
        own = grind (arith, fields);
        ports = All-from_recursion (λ w. IsTrue (port_fits r (kept.port w))) ids (ports-fit r h ports ports there ports_fit);
        values = All-from_recursion (λ w. kept.value w < r.ring) ids (values-fit r h ports ports there ports_fit);
      };
      bytes_are = sym (spelled-again l net id bytes ids kept ok.there small word numbers back);
      read = sym is;
    }

-- of neighbours that stay all is kept
among-more : (v : ℕ) (vs ws : List ℕ) → AllByRecursion (λ w. is_among vs w ≡ true) ws → AllByRecursion (λ w. is_among (v ∷ vs) w ≡ true) ws
among-more v vs [] all = tt
among-more v vs (w ∷ ws) all = let one = all.0 in (grind (arith, common_steps, one), among-more v vs ws all.1)

among-all : (ws : List ℕ) → AllByRecursion (λ w. is_among ws w ≡ true) ws
among-all [] = tt
among-all (w ∷ ws) = (grind (arith, common_steps, nat_tests), among-more w ws ws (among-all ws))

kept-ports : (r : Ranges) (all ws : List ℕ) (s : LocalState) → AllByRecursion (λ w. is_among all w ≡ true) ws
    → flat_map (port_numbers (rewired r all all s)) ws ≡ flat_map (port_numbers s) ws
kept-ports r all [] s among = refl
kept-ports r all (w ∷ ws) s among =
    let one : port_numbers (rewired r all all s) w ≡ port_numbers s w = rw among.0 refl in
    λ i. one i ++ kept-ports r all ws s among.1 i

kept-file : (net : Network) (id : ℕ) (s : LocalState) → let ids = neighbours_of net id in
    spelling Tkt2 net id ids (record (rewired (ranges_of net) ids ids s) { desk = no_desk }) ≡ spelling Tkt2 net id ids s
kept-file net id s =
    let ids = neighbours_of net id in
    ap (λ ports. magic Tkt2 ++ bytes_of (header_numbers Tkt2 net id (length ids) s ++ ports)) (kept-ports (ranges_of net) ids ids s (among-all ids))

pub spelled_again : (net : Network) (id : ℕ) (bytes : List ℕ) (s : LocalState) (f : IsSpelled net id bytes s) → f.layout ≡ Tkt2 → f.ids ≡ neighbours_of net id
    → spelling Tkt2 net id (neighbours_of net id) s ≡ bytes
spelled_again net id bytes s f layout_is ids_are =
    let ids = neighbours_of net id in
    let r = ranges_of net in
    ap (λ t. spelling Tkt2 net id ids t) f.read
    ∙ ap (λ old. spelling Tkt2 net id ids (record (rewired r old ids f.saved) { desk = no_desk })) ids_are
    ∙ kept-file net id f.saved
    ∙ ap (λ l. spelling l net id ids f.saved) (sym layout_is)
    ∙ ap (λ old. spelling f.layout net id old f.saved) (sym ids_are)
    ∙ sym f.bytes_are

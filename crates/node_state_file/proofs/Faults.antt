-- The tests on a file of one layout, in their order, find its first fault.
use Rattle.std.proofs.Common.{◌≡◌, ◌<◌, ◌≤◌, ◌-◌, ◌*◌, ◌∙◌, ℕ, Bool, true, false, not, nat_lt, ap, sym, refl, arith, List, length, take, drop, Option, Some, None, Ok, if◌then◌else◌}
use Rattle.std.proofs.lemmas.Bool.Decides.{nat_tests}
use Rattle.std.proofs.lemmas.List.{length-drop, take_all}
use Rattle.topology.specs.Network.{Network}
use Rattle.topology.specs.Ranges.{ranges_of}
use Rattle.topology.specs.declared.frame.Ranges.{Ranges}
use Rattle.state_writing.specs.declared.layout.FileLayout.{FileLayout}
use Rattle.node_state_file.specs.declared.fault.FileFault.{FileFault}
use Rattle.node_state_file.specs.declared.fault.FileFault.TheVariants.{Short, Shape, Range, Long}
use Rattle.node_state_file.specs.declared.saved.Header.{Header}
use Rattle.node_state_file.specs.declared.saved.SavedPort.{SavedPort}
use Rattle.node_state_file.specs.Reading.{header_length, header_of, is_header_of, are_others, ports_in, fields_fit, first_fault, decoded_as, matched}

abbrev fault_by : (short other few strange unfit many : Bool) → Option FileFault
fault_by short other few strange unfit many =
    if short then Some Short
    else if other then Some Shape
    else if few then Some Short
    else if strange then Some Shape
    else if unfit then Some Range
    else if many then Some Long
    else None

at_short : (a b c d e f : Bool) → a ≡ true → fault_by a b c d e f ≡ Some Short
at_short a b c d e f x = rw x refl

at_other : (a b c d e f : Bool) → a ≡ false → b ≡ true → fault_by a b c d e f ≡ Some Shape
at_other a b c d e f x y = rw (x, y) refl

at_few : (a b c d e f : Bool) → a ≡ false → b ≡ false → c ≡ true → fault_by a b c d e f ≡ Some Short
at_few a b c d e f x y z = rw (x, y, z) refl

at_strange : (a b c d e f : Bool) → a ≡ false → b ≡ false → c ≡ false → d ≡ true → fault_by a b c d e f ≡ Some Shape
at_strange a b c d e f x y z u = rw (x, y, z, u) refl

at_unfit : (a b c d e f : Bool) → a ≡ false → b ≡ false → c ≡ false → d ≡ false → e ≡ true → fault_by a b c d e f ≡ Some Range
at_unfit a b c d e f x y z u v = rw (x, y, z, u, v) refl

at_many : (a b c d e f : Bool) → a ≡ false → b ≡ false → c ≡ false → d ≡ false → e ≡ false → f ≡ true → fault_by a b c d e f ≡ Some Long
at_many a b c d e f x y z u v w = rw (x, y, z, u, v, w) refl

at_none : (a b c d e f : Bool) → a ≡ false → b ≡ false → c ≡ false → d ≡ false → e ≡ false → f ≡ false → fault_by a b c d e f ≡ None
at_none a b c d e f x y z u v w = rw (x, y, z, u, v, w) refl

below : (a b x y : ℕ) → x ≡ a → y ≡ b → x < y → nat_lt a b ≡ true
below a b x y p q less = grind (arith, nat_tests)

not_below : (a b x y : ℕ) → x ≡ a → y ≡ b → y ≤ x → nat_lt a b ≡ false
not_below a b x y p q most = grind (arith, nat_tests)

-- a slice to the end is what is left
pub rest_is : (n : ℕ) (l : FileLayout) (bytes : List ℕ) → n ≡ header_length l → take (length bytes - n) (drop n bytes) ≡ drop (header_length l) bytes
rest_is n l bytes is = take_all (length bytes - n) (drop n bytes) (omega (arith, length-drop n bytes)) ∙ ap (λ k. drop k bytes) is

module _ (net : Network) (id : ℕ) (l : FileLayout) (bytes : List ℕ) where
  abbrev fault : Option FileFault
  fault = first_fault net id l bytes

  abbrev head : Header
  head = header_of l bytes

  abbrev rest : List ℕ
  rest = drop (header_length l) bytes

  abbrev ports : List SavedPort
  ports = ports_in head.degree rest

  abbrev is_short : Bool
  is_short = nat_lt (length bytes) (header_length l)

  abbrev is_other : Bool
  is_other = not (is_header_of net id head)

  abbrev are_few : Bool
  are_few = nat_lt (length rest) (20 * head.degree)

  abbrev are_strange : Bool
  are_strange = not (are_others net.nodes id ports)

  abbrev are_unfit : Bool
  are_unfit = not (fields_fit (ranges_of net) head ports)

  abbrev are_many : Bool
  are_many = nat_lt (20 * head.degree) (length rest)

  pub short_head : (n : ℕ) → n ≡ header_length l → length bytes < n → fault ≡ Some Short
  short_head n is less = at_short is_short is_other are_few are_strange are_unfit are_many (below _ _ _ _ refl is less)

  -- the header was read
  pub record HasHead (h : Header) : Type 0 where
    pub long : is_short ≡ false
    pub is : h ≡ head

  pub has_head : (n : ℕ) (h : Header) → n ≡ header_length l → n ≤ length bytes → h ≡ head → HasHead h
  has_head n h n_is most is = record { long = not_below _ _ _ _ refl n_is most; is = is }

  pub other_head : (h : Header) → HasHead h → false ≡ is_header_of net id h → fault ≡ Some Shape
  other_head h read fails =
      let other : is_other ≡ true = sym (ap not (fails ∙ ap (is_header_of net id) read.is)) in
      at_other is_short is_other are_few are_strange are_unfit are_many read.long other

  -- it is of this node, and the ports follow
  pub record HasOwn (h : Header) (degree : ℕ) (left : List ℕ) : Type 0 where
    pub head_read : HasHead h
    pub own : is_other ≡ false
    pub degree_is : 20 * degree ≡ 20 * head.degree
    pub left_is : length left ≡ length rest

  pub has_own : (h : Header) (degree : ℕ) (left : List ℕ) → HasHead h → true ≡ is_header_of net id h → degree ≡ h.degree → left ≡ rest → HasOwn h degree left
  has_own h degree left read passes d is = record {
    head_read = read;
    own = sym (ap not (passes ∙ ap (is_header_of net id) read.is));
    degree_is = ap (λ k. 20 * k) (d ∙ ap (λ (x : Header). x.degree) read.is);
    left_is = ap length is;
  }

  pub few_ports : (h : Header) (degree : ℕ) (left : List ℕ) → HasOwn h degree left → length left < 20 * degree → fault ≡ Some Short
  few_ports h degree left read less =
      at_few is_short is_other are_few are_strange are_unfit are_many read.head_read.long read.own (below _ _ _ _ read.left_is read.degree_is less)

  -- they were read
  pub record HasPorts (h : Header) (degree : ℕ) (left : List ℕ) (ps : List SavedPort) : Type 0 where
    pub own_read : HasOwn h degree left
    pub enough : are_few ≡ false
    pub are : ps ≡ ports

  pub has_ports : (h : Header) (degree : ℕ) (left : List ℕ) (ps : List SavedPort) → HasOwn h degree left → left ≡ rest → 20 * degree ≤ length left → ps ≡ ports_in h.degree left
      → HasPorts h degree left ps
  has_ports h degree left ps read is most are = record {
    own_read = read;
    enough = not_below _ _ _ _ read.left_is read.degree_is most;
    are = are ∙ ap (λ (x : Header). ports_in x.degree left) read.head_read.is ∙ ap (ports_in head.degree) is;
  }

  pub strange_ports : (h : Header) (degree : ℕ) (left : List ℕ) (ps qs : List SavedPort) (nodes : ℕ) → HasPorts h degree left ps → qs ≡ ps → nodes ≡ net.nodes
      → false ≡ are_others nodes id qs → fault ≡ Some Shape
  strange_ports h degree left ps qs nodes read q n fails =
      let strange : are_strange ≡ true = sym (ap not (fails ∙ ap (λ k. are_others k id qs) n ∙ ap (are_others net.nodes id) (q ∙ read.are))) in
      at_strange is_short is_other are_few are_strange are_unfit are_many read.own_read.head_read.long read.own_read.own read.enough strange

  pub not_strange : (h : Header) (degree : ℕ) (left : List ℕ) (ps qs : List SavedPort) (nodes : ℕ) → HasPorts h degree left ps → qs ≡ ps → nodes ≡ net.nodes
      → true ≡ are_others nodes id qs → are_strange ≡ false
  not_strange h degree left ps qs nodes read q n passes =
      sym (ap not (passes ∙ ap (λ k. are_others k id qs) n ∙ ap (are_others net.nodes id) (q ∙ read.are)))

  -- the test of all fields, as it is made
  pub fits_as : (h : Header) (degree : ℕ) (left : List ℕ) (ps qs : List SavedPort) (ranges : Ranges) (b : Bool) → HasPorts h degree left ps → qs ≡ ps → ranges ≡ ranges_of net
      → b ≡ fields_fit ranges h qs → not (fields_fit (ranges_of net) head ports) ≡ not b
  fits_as h degree left ps qs ranges b read q r is =
      sym (ap not (is ∙ ap (λ k. fields_fit k h qs) r ∙ ap (λ x. fields_fit (ranges_of net) x qs) read.own_read.head_read.is ∙ ap (fields_fit (ranges_of net) head) (q ∙ read.are)))

  pub unfit_ports : (h : Header) (degree : ℕ) (left : List ℕ) (ps : List SavedPort) → HasPorts h degree left ps → are_strange ≡ false → are_unfit ≡ true → fault ≡ Some Range
  unfit_ports h degree left ps read known unfit =
      at_unfit is_short is_other are_few are_strange are_unfit are_many read.own_read.head_read.long read.own_read.own read.enough known unfit

  pub many_bytes : (h : Header) (degree : ℕ) (left : List ℕ) (ps : List SavedPort) → HasPorts h degree left ps → are_strange ≡ false → are_unfit ≡ false → 20 * degree < length left
      → fault ≡ Some Long
  many_bytes h degree left ps read known fit more =
      at_many is_short is_other are_few are_strange are_unfit are_many read.own_read.head_read.long read.own_read.own read.enough known fit
      (below _ _ _ _ read.own_read.degree_is read.own_read.left_is more)

  pub read_whole : (h : Header) (degree : ℕ) (left : List ℕ) (ps : List SavedPort) → HasPorts h degree left ps → are_strange ≡ false → are_unfit ≡ false → length left ≤ 20 * degree
      → decoded_as net id bytes l fault ≡ Ok (matched net id h ps)
  read_whole h degree left ps read known fit most =
      let none = at_none is_short is_other are_few are_strange are_unfit are_many read.own_read.head_read.long read.own_read.own read.enough known fit
      (not_below _ _ _ _ read.own_read.degree_is read.own_read.left_is most) in
      ap (decoded_as net id bytes l) none
      ∙ ap (λ x. Ok (matched net id x ports)) (sym read.own_read.head_read.is)
      ∙ ap (λ x. Ok (matched net id h x)) (sym read.are)

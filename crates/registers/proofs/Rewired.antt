-- Registers whose neighbours have changed.
use Rattle.std.proofs.Common.{◌≡◌, ◌∙◌, ap, sym, refl, Bool, true, false, not, ◌&&◌, ◌==◌, ℕ, ◌<◌, ◌≤◌, arith, IsTrue, List, length, take, drop, ◌++◌, Contains, get_or, All, nat_lt, slice_index, slice_index_or, inl, inr, if◌then◌else◌}
use Rattle.std.proofs.Math.Path.{fun_ext}
use Rattle.std.proofs.Math.Seq.{take-append_seam}
use Rattle.std.specs.List.{range_with_len}
use Rattle.std.specs.List.Sorted.{IsStrictlyIncreasing}
use Rattle.std.proofs.lemmas.Bool.{cases_Bool, cases_lt, eq-eqb, eqb-true, false≢true}
use Rattle.std.proofs.lemmas.Bool.Decides.{nat_tests}
use Rattle.std.proofs.lemmas.List.{get_or_past, get_or_default}
use Rattle.std.proofs.lemmas.List.Folds.{Any-from_list_any, list_any_at}
use Rattle.std.proofs.lemmas.List.Sums.{length-filter, count_by-le-length}
use Rattle.std.proofs.lemmas.List.FromFn.{length-range_with_len}
use Rattle.data_link.specs.topology.Network.{Network, are_joined, neighbours_of}
use Rattle.data_link.specs.Port.{PortView, port_fits, default_port}
use Rattle.registers.specs.Registers.{RegistersView, IsPortOf, IsRegisters, port_of, port_or_new, value_of}
use Rattle.registers.specs.Rewire.{is_among, rewired_ports, rewired_values}

-- whether w is a neighbour, as a test
among-from_Contains : (ns : List ℕ) (w : ℕ) → Contains ns w → is_among ns w ≡ true
among-from_Contains ns w (k, within, is) = list_any_at (λ u. u == w) ns k w within (eq-eqb (get_or ns k w) w is)

Contains-from_among : (ns : List ℕ) (w : ℕ) → is_among ns w ≡ true → Contains ns w
Contains-from_among ns w on =
    let (k, u, within, is, same) = Any-from_list_any (λ u. u == w) ns on in
    let e : u ≡ w = eqb-true u w same in
    (k, within, rw e at is)

not_among : (ns : List ℕ) (w : ℕ) → is_among ns w ≡ false → ¬ Contains ns w
not_among ns w off near = false≢true (sym off ∙ among-from_Contains ns w near)

off_the_list : (ns : List ℕ) (w : ℕ) → ¬ Contains ns w → is_among ns w ≡ false
off_the_list ns w far = elim (cases_Bool (is_among ns w)) [
  | inl on ↦ absurd (far (Contains-from_among ns w on))
  | inr off ↦ off
]

-- a node has at most as many neighbours as there are nodes
pub neighbours_few : (net : Network) (v : ℕ) → length (neighbours_of net v) ≤ net.nodes
neighbours_few net v = omega (arith, length-filter (are_joined net.edges v) (range_with_len 0 net.nodes), count_by-le-length (are_joined net.edges v) (range_with_len 0 net.nodes), length-range_with_len 0 net.nodes)

-- what writing through the slice of a vector leaves
pub written_back : {X : Type 0} (n : ℕ) (new old : List X) → length new ≡ n → take n (new ++ drop (length new) old) ≡ new
written_back n new old long = rw (← long) (take-append_seam new (drop (length new) old))

-- the ports and values that are no neighbour's are as at the start, and the others are as they were
pub record IsRewritten (r : RegistersView) (ns : List ℕ) (ports : List PortView) (values : List ℕ) : Type 0 where
  pub long_ports : length ports ≡ length r.ports
  pub each_port : (w : ℕ) (d : PortView) → slice_index_or ports w d ≡ port_or_new (nat_lt w r.ranges.nodes && not (is_among ns w)) (slice_index_or r.ports w d)
  pub long_values : length values ≡ length r.values
  pub each_value : (w : ℕ) → slice_index values w ≡ (if nat_lt w r.ranges.nodes && not (is_among ns w) then 0 else slice_index r.values w)

-- as the two loops leave them
pub is_rewritten : (r : RegistersView) (ns near : List ℕ) (nodes : ℕ) (ports old_ports : List PortView) (values old_values : List ℕ) → nodes ≡ r.ranges.nodes → near ≡ ns → old_ports ≡ r.ports → old_values ≡ r.values
    → length ports ≡ length old_ports
    → ((w : ℕ) (d : PortView) → slice_index_or ports w d ≡ port_or_new (nat_lt w nodes && not (is_among near w)) (slice_index_or old_ports w d))
    → length values ≡ length old_values
    → ((w : ℕ) → slice_index values w ≡ (if nat_lt w nodes && not (is_among near w) then 0 else slice_index old_values w))
    → IsRewritten r ns ports values
is_rewritten r ns near nodes ports old_ports values old_values n are p v long each longer each_value = record {
  long_ports = long ∙ ap length p;
  each_port = λ w d. rw (← n, ← are, ← p) (each w d);
  long_values = longer ∙ ap length v;
  each_value = λ w. rw (← n, ← are, ← v) (each_value w);
}

abbrev pub rewritten : RegistersView → List ℕ → List PortView → List ℕ → RegistersView
rewritten r ns ports values = record { ranges = r.ranges; neighbours = ns; ports = ports; values = values }

new_port : (p : PortView) (inside among : Bool) → inside ≡ true → among ≡ false → (port_or_new (inside && not among) p).state ≡ default_port p.ranges
new_port p inside among i a = rw (i, a) refl

kept_port : (p : PortView) (inside among : Bool) → among ≡ true → (port_or_new (inside && not among) p).state ≡ p.state
kept_port p true among a = rw a refl
kept_port p false among a = refl

module _ (r : RegistersView) (ns : List ℕ) (ports : List PortView) (values : List ℕ) (ok : IsRegisters r) (h : IsRewritten r ns ports values) where
  abbrev start : PortView
  start = record { ranges = r.ranges; state = default_port r.ranges }

  port_kept : (w : ℕ) → is_among ns w ≡ true → port_of (rewritten r ns ports values) w ≡ port_of r w
  port_kept w on = ap (λ p. p.state) (h.each_port w start) ∙ kept_port (slice_index_or r.ports w start) (nat_lt w r.ranges.nodes) (is_among ns w) on

  port_new : (w : ℕ) → is_among ns w ≡ false → port_of (rewritten r ns ports values) w ≡ default_port r.ranges
  port_new w off = elim (cases_lt w r.ranges.nodes) [
    | inl inside ↦
        let within : w < length r.ports = omega (arith, ok.ports) in
        let test : nat_lt w r.ranges.nodes ≡ true = grind (arith, nat_tests) in
        ap (λ p. p.state) (h.each_port w start) ∙ new_port (slice_index_or r.ports w start) (nat_lt w r.ranges.nodes) (is_among ns w) test off
        ∙ ap default_port (ok.ports_fit w start within).same
    | inr past ↦ ap (λ p. p.state) (get_or_past ports w start (omega (arith, h.long_ports, ok.ports, past)))
  ]

  gone_port : (w : ℕ) → is_among ns w ≡ false → default_port r.ranges ≡ rewired_ports r.ranges r.neighbours ns (port_of r) w
  gone_port w off = elim (cases_Bool (is_among r.neighbours w)) [
    | inl was ↦ rw (was, off) refl
    | inr new ↦ rw new refl
  ]

  gone_value : (w : ℕ) → is_among ns w ≡ false → 0 ≡ rewired_values r.neighbours ns (value_of r) w
  gone_value w off = elim (cases_Bool (is_among r.neighbours w)) [
    | inl was ↦ rw (was, off) refl
    | inr new ↦ rw new refl
  ]

  port_rewired : (w : ℕ) → port_of (rewritten r ns ports values) w ≡ rewired_ports r.ranges r.neighbours ns (port_of r) w
  port_rewired w = elim (cases_Bool (is_among ns w)) [
    | inr off ↦ port_new w off ∙ gone_port w off
    | inl on ↦ elim (cases_Bool (is_among r.neighbours w)) [
      | inl was ↦ port_kept w on ∙ rw (was, on) refl
      | inr new ↦ port_kept w on ∙ ok.other_ports w (not_among r.neighbours w new) ∙ rw new refl
    ]
  ]

  value_kept : (w : ℕ) → is_among ns w ≡ true → slice_index values w ≡ value_of r w
  value_kept w on = h.each_value w ∙ rw on (grind (arith, nat_tests))

  value_new : (w : ℕ) → is_among ns w ≡ false → slice_index values w ≡ 0
  value_new w off = elim (cases_lt w r.ranges.nodes) [
    | inl inside ↦ let is = h.each_value w in grind (arith, nat_tests)
    | inr past ↦ get_or_past values w 0 (omega (arith, h.long_values, ok.values, past))
  ]

  value_rewired : (w : ℕ) → slice_index values w ≡ rewired_values r.neighbours ns (value_of r) w
  value_rewired w = elim (cases_Bool (is_among ns w)) [
    | inr off ↦ value_new w off ∙ gone_value w off
    | inl on ↦ elim (cases_Bool (is_among r.neighbours w)) [
      | inl was ↦ value_kept w on ∙ rw (was, on) refl
      | inr new ↦ value_kept w on ∙ ok.other_values w (not_among r.neighbours w new) ∙ rw new refl
    ]
  ]

  pub ports_rewired : port_of (rewritten r ns ports values) ≡ rewired_ports r.ranges r.neighbours ns (port_of r)
  ports_rewired = fun_ext port_rewired

  pub values_rewired : value_of (rewritten r ns ports values) ≡ rewired_values r.neighbours ns (value_of r)
  values_rewired = fun_ext value_rewired

  below_still : (b : Bool) (x y : ℕ) → x ≡ (if b then 0 else y) → y < r.ranges.ring → x < r.ranges.ring
  below_still true x y is below = omega (arith, is, ok.some_values)
  below_still false x y is below = omega (arith, is)

  value_fits : (k d : ℕ) → k < length r.values → get_or values k d < r.ranges.ring
  value_fits k d within =
      let same : get_or values k 0 ≡ get_or values k d = get_or_default values k 0 d (omega (arith, h.long_values, within)) in
      rw (← same) (below_still (nat_lt k r.ranges.nodes && not (is_among ns k)) (slice_index values k) (slice_index r.values k) (h.each_value k) (ok.values_fit k 0 within))

  port_fits_still : (b : Bool) (p : PortView) → IsPortOf r.ranges p → IsTrue (port_fits r.ranges (default_port r.ranges)) → IsPortOf r.ranges (port_or_new b p)
  port_fits_still false p fits start_fits = fits
  port_fits_still true p fits start_fits = record { same = fits.same; fits = rw fits.same start_fits }

  pub registers-rewritten : IsTrue (port_fits r.ranges (default_port r.ranges)) → All (λ w. w < r.ranges.nodes) ns → IsStrictlyIncreasing ns → IsRegisters (rewritten r ns ports values)
  registers-rewritten start_fits ns_in ns_up = record {
    most = ok.most;
    some_values = ok.some_values;
    ports = h.long_ports ∙ ok.ports;
    values = h.long_values ∙ ok.values;
    ports_fit = λ k d within. rw (h.each_port k d) (port_fits_still (nat_lt k r.ranges.nodes && not (is_among ns k)) (slice_index_or r.ports k d) (ok.ports_fit k d (omega (arith, h.long_ports, within))) start_fits);
    values_fit = λ k d within. value_fits k d (omega (arith, h.long_values, within));
    neighbours_in = ns_in;
    ascending = ns_up;
    other_ports = λ w far. port_new w (off_the_list ns w far);
    other_values = λ w far. value_new w (off_the_list ns w far);
  }

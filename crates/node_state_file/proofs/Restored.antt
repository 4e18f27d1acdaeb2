-- A state that is written port by port.
use Rattle.std.proofs.Common.{◌≡◌, ◌∙◌, ap, sym, refl, arith, Bool, true, false, ◌&&◌, ◌||◌, ◌==◌, if◌then◌else◌, ℕ, List, [], ◌∷◌, ◌++◌, Some, None, inl, inr, IsTrue}
use Rattle.std.proofs.Math.Path.{fun_ext}
use Rattle.std.specs.List.{list_all}
use Rattle.std.proofs.lemmas.Grind.{common_steps}
use Rattle.std.proofs.lemmas.Bool.{cases_Bool, eqb-true}
use Rattle.std.proofs.lemmas.List.Folds.{list_any-append}
use Rattle.topology.specs.At.{at}
use Rattle.topology.specs.declared.frame.Ranges.{Ranges}
use Rattle.state_writing.specs.node_core.data_link.Port.{PortState, default_port}
use Rattle.state_writing.specs.node_core.registers.Rewire.{is_among, stays}
use Rattle.state_writing.specs.node_core.State.{LocalState, default_node}
use Rattle.state_writing.specs.node_core.Rewire.{rewired}
use Rattle.node_state_file.specs.declared.saved.Header.{Header}
use Rattle.node_state_file.specs.declared.saved.SavedPort.{SavedPort}
use Rattle.node_state_file.specs.Reading.{ids_of, found, port_or_new, value_or_new, state_saved, saved_port_fits}
use Rattle.node_state_file.proofs.Written.{port_written}

-- a port of the file is found if its neighbour is among the ids
missing : (ports : List SavedPort) (w : ℕ) → found ports w ≡ None → is_among (ids_of ports) w ≡ false
missing [] w e = refl
missing (p ∷ ports) w e = elim (cases_Bool (p.neighbour == w)) [
  | inl same ↦ absurd (grind (arith, same, e))
  | inr other ↦ rw other (missing ports w (rw other at e))
]

there : (ports : List SavedPort) (w : ℕ) (q : SavedPort) → found ports w ≡ Some q → is_among (ids_of ports) w ≡ true
there [] w q e = absurd (grind (arith, e))
there (p ∷ ports) w q e = elim (cases_Bool (p.neighbour == w)) [
  | inl same ↦ rw same refl
  | inr other ↦ rw other (there ports w q (rw other at e))
]

-- the port that is found is in range if all are
pub found_fits : (r : Ranges) (ports : List SavedPort) (w : ℕ) (q : SavedPort) → found ports w ≡ Some q → IsTrue (list_all (saved_port_fits r) ports) → IsTrue (saved_port_fits r q)
found_fits r [] w q e all = absurd (grind (arith, e))
found_fits r (p ∷ ports) w q e all = elim (cases_Bool (p.neighbour == w)) [
  | inl same ↦ grind (arith, same, e, all)
  | inr other ↦ found_fits r ports w q (rw other at e) (grind (arith, all))
]

-- the state that is matched to the neighbours looked at so far
abbrev pub matched_to : Ranges → Header → List SavedPort → List ℕ → LocalState
matched_to r h ports done = rewired r (ids_of ports) done (state_saved r h ports)

nothing : (b : Bool) → (b && false) ≡ false
nothing true = refl
nothing false = refl

-- at first that is nothing but distance and parent
pub at_first : (r : Ranges) (h : Header) (ports : List SavedPort) → record (default_node r) { distance = h.distance; parent = h.parent } ≡ matched_to r h ports []
at_first r h ports =
    let port_is : (w : ℕ) → default_port r ≡ (matched_to r h ports []).port w = λ w. rw (nothing (is_among (ids_of ports) w)) refl in
    let value_is : (w : ℕ) → 0 ≡ (matched_to r h ports []).value w = λ w. rw (nothing (is_among (ids_of ports) w)) refl in
    ap (λ (p : ℕ → PortState). record (default_node r) { distance = h.distance; parent = h.parent; port = p }) (fun_ext port_is)
    ∙ ap (λ (v : ℕ → ℕ). record (default_node r) { distance = h.distance; parent = h.parent; port = (matched_to r h ports []).port; value = v }) (fun_ext value_is)

-- one more neighbour, of which the file says nothing
among_more : (done : List ℕ) (w v : ℕ) → is_among (done ++ w ∷ []) v ≡ (is_among done v || (w == v || false))
among_more done w v = list_any-append (λ u. u == v) done (w ∷ [])

-- what is kept of the ids looked at so far
module _ {X : Type 0} (was done : List ℕ) (w : ℕ) (f : ℕ → X) (other : X) where
  abbrev kept : List ℕ → ℕ → X
  kept ids i = if stays was ids i then f i else other

  kept_more : is_among was w ≡ true → (i : ℕ) → at (kept done) w (f w) i ≡ kept (done ++ w ∷ []) i
  kept_more on i =
      elim (cases_Bool (i == w)) [
        | inl same ↦
            let is : i ≡ w = eqb-true i w same in
            rw (is, among_more done w w, on) (grind (arith, common_steps))
        | inr differ ↦ rw (among_more done w i) (grind (arith, common_steps, differ))
      ]

  kept_none : is_among was w ≡ false → (i : ℕ) → kept done i ≡ kept (done ++ w ∷ []) i
  kept_none off i =
      elim (cases_Bool (i == w)) [
        | inl same ↦
            let is : i ≡ w = eqb-true i w same in
            rw (is, off) refl
        | inr differ ↦ rw (among_more done w i) (grind (arith, common_steps, differ))
      ]

-- one more neighbour, whose port the file has
pub written_more : (r : Ranges) (h : Header) (ports : List SavedPort) (done : List ℕ) (w : ℕ) (q : SavedPort) → found ports w ≡ Some q
    → port_written w q (matched_to r h ports done) ≡ matched_to r h ports (done ++ w ∷ [])
written_more r h ports done w q e =
    let saved = state_saved r h ports in
    let port_is = λ (i : ℕ). ap (λ o. at (matched_to r h ports done).port w (port_or_new r o) i) (sym e) ∙ kept_more (ids_of ports) done w saved.port (default_port r) (there ports w q e) i in
    let value_is = λ (i : ℕ). ap (λ o. at (matched_to r h ports done).value w (value_or_new o) i) (sym e) ∙ kept_more (ids_of ports) done w saved.value 0 (there ports w q e) i in
    ap (λ (p : ℕ → PortState). record (matched_to r h ports done) { port = p; value = at (matched_to r h ports done).value w q.value }) (fun_ext port_is)
    ∙ ap (λ (v : ℕ → ℕ). record (matched_to r h ports (done ++ w ∷ [])) { value = v }) (fun_ext value_is)

-- one more neighbour, of which the file says nothing
pub none_more : (r : Ranges) (h : Header) (ports : List SavedPort) (done : List ℕ) (w : ℕ) → found ports w ≡ None
    → matched_to r h ports done ≡ matched_to r h ports (done ++ w ∷ [])
none_more r h ports done w e =
    let saved = state_saved r h ports in
    let off = missing ports w e in
    ap (λ (p : ℕ → PortState). record (matched_to r h ports done) { port = p }) (fun_ext (kept_none (ids_of ports) done w saved.port (default_port r) off))
    ∙ ap (λ (v : ℕ → ℕ). record (matched_to r h ports (done ++ w ∷ [])) { value = v }) (fun_ext (kept_none (ids_of ports) done w saved.value 0 off))

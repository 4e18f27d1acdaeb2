-- A tick of the code is a tick: what the desk and the machines made of a node is what the
-- definition says.
use Rattle.std.proofs.Common.{◌≡◌, ◌∙◌, ℕ, Bool, true, false, ◌&&◌, List, is_none, refl, sym, ap, if◌then◌else◌}
use Rattle.std.specs.List.{list_any}
use Rattle.lock_desk.specs.Desk.{desk_ticked}
use Rattle.lock_desk.specs.View.{DeskView}
use Rattle.registers.specs.Registers.{RegistersView, port_of, value_of}
use Rattle.euler_ring.specs.Cycle.{is_on, special}
use Rattle.node_core.specs.Machines.{tree_of, may_move, moved_value, is_node_privileged}
use Rattle.node_core.specs.Step.{desk_done, machines_moved}
use Rattle.node_core.specs.OnRegisters.{machine_may_move, values_moved}
use Rattle.node_core.specs.View.{NodeView, site_in, state_of}
use Rattle.node_core.proofs.Same.{same_state}

-- the desk after its tick
abbrev pub desk_after : NodeView → DeskView
desk_after v = record v.desk { state = desk_ticked v.desk.lease (is_node_privileged (site_in v) (state_of v)) v.desk.state }

-- the values if the machines move, or stay
abbrev pub values_where : NodeView → Bool → ℕ → ℕ
values_where v moves t =
    if moves && (is_on (tree_of (site_in v) (state_of v)) t && may_move (site_in v) (state_of v) t) then moved_value (site_in v) (state_of v) t else value_of v.registers t

-- after the desk and the machines, if these move
pub ticked_full : (v : NodeView) (registers : RegistersView) (desk : DeskView) (tree : List ℕ) → desk ≡ desk_after v → is_none desk.state.lent ≡ true
    → tree ≡ tree_of (site_in v) (state_of v) → value_of registers ≡ values_moved v.registers tree (special v.is_root tree)
    → registers ≡ record v.registers { values = registers.values }
    → state_of (record v { registers = registers; desk = desk }) ≡ machines_moved (site_in v) (desk_done (site_in v) (state_of v))
ticked_full v registers desk tree after none on moved rest =
    let full : true ≡ is_none (desk_after v).state.lent = sym none ∙ ap (λ d. is_none d.state.lent) after in
    same_state _ _ refl refl (ap port_of rest)
    (moved ∙ ap (λ ts. values_moved v.registers ts (special v.is_root ts)) on ∙ ap (values_where v) full)
    (ap (λ d. d.state) after)

-- and if they stay
pub ticked_lending : (v : NodeView) (desk : DeskView) → desk ≡ desk_after v → is_none desk.state.lent ≡ false
    → state_of (record v { desk = desk }) ≡ machines_moved (site_in v) (desk_done (site_in v) (state_of v))
ticked_lending v desk after some =
    let lends : false ≡ is_none (desk_after v).state.lent = sym some ∙ ap (λ d. is_none d.state.lent) after in
    same_state _ _ refl refl refl (ap (values_where v) lends) (ap (λ d. d.state) after)

-- the desk's tick is that of the definition, if it is given whether some machine may move
pub desk_is_after : (v : NodeView) (desk : DeskView) (privileged : Bool) (tree : List ℕ) → tree ≡ tree_of (site_in v) (state_of v)
    → privileged ≡ list_any (machine_may_move v.registers (special v.is_root tree)) tree
    → desk ≡ record v.desk { state = desk_ticked v.desk.lease privileged v.desk.state } → desk ≡ desk_after v
desk_is_after v desk privileged tree on some after =
    let may : privileged ≡ is_node_privileged (site_in v) (state_of v) = some ∙ ap (λ ts. list_any (machine_may_move v.registers (special v.is_root ts)) ts) on in
    after ∙ ap {B = DeskView} (λ p. record v.desk { state = desk_ticked v.desk.lease p v.desk.state }) may

-- A machine moves only in a full tick with privilege. So if a ticket waits at the desk, the machine
-- moves only if the desk is marked as having served or a loan ends.
use Rattle.std.proofs.Common.{◌≡◌, ◌≢◌, ℕ, inl, inr, true, false, ◌==◌, ◌&&◌, sym, ◌∙◌, ap}
use Rattle.std.specs.Prelude.{is_none, is_some, if◌then◌else◌}
use Rattle.std.specs.List.{list_any}
use Rattle.std.proofs.lemmas.Bool.{and_parts, cases_Bool, eqb-true}
use Rattle.std.proofs.lemmas.List.Folds.{Any-from_list_any, list_any-from_Any}
use Rattle.tree_convergence.specs.lock_desk.Desk.{DeskState, desk_ticked}
use Rattle.tree_convergence.specs.lock_desk.Act.{desk_act}
use Rattle.run_model.specs.node_core.Site.{Site}
use Rattle.run_model.specs.node_core.State.{LocalState}
use Rattle.run_model.specs.node_core.Machines.{tree_of, may_move, is_node_privileged, moved_value}
use Rattle.run_model.specs.node_core.Step.{ticked, recomputed, desk_done}
use Rattle.run_model.specs.World.{World, site}
use Rattle.run_model.specs.Step.{step}
use Rattle.run_model.specs.Run.{is_damage}
use Rattle.run_model.specs.Ticks.{IsTicking}
use Rattle.run_model.specs.declared.event.Event.{Event}
use Rattle.convergence.specs.Service.{MovesPassServed, MovesClearDesks}
use Rattle.convergence.specs.Below.{Below}
use Rattle.convergence.proofs.Desks.{none-not_some}

-- the tick is full, and the node was privileged
pub record IsFullWithPrivilege (site : Site) (s : LocalState) : Type 0 where
  pub desk : (ticked site s).desk ≡ desk_ticked site.lease true s.desk
  pub full : is_some (desk_ticked site.lease true s.desk).lent ≡ false

moves-with_privilege : (site : Site) (s : LocalState) (t : ℕ) → (ticked site s).value t ≢ s.value t → IsFullWithPrivilege site s
moves-with_privilege site s t ne =
    let old = recomputed site s in
    let done = desk_done site old in
    let here = list_any (λ u. u == t) (tree_of site done) && may_move site done t in
    elim (cases_Bool (is_none done.desk.lent && here)) [
      | inl y ↦ (let p = and_parts (is_none done.desk.lent) here y in
          let q = and_parts (list_any (λ u. u == t) (tree_of site done)) (may_move site done t) p.1 in
          let (k, u, below, at, is) = Any-from_list_any (λ u. u == t) (tree_of site old) q.0 in
          let privileged : is_node_privileged site old ≡ true =
          list_any-from_Any (may_move site old) (tree_of site old) (k, u, below, at, ap (may_move site old) (eqb-true u t is) ∙ q.1) in
          let desk : (ticked site s).desk ≡ desk_ticked site.lease true s.desk = ap (λ c. desk_ticked site.lease c s.desk) privileged in
          record { desk = desk; full = ap (λ (d : DeskState). is_some d.lent) (sym desk) ∙ none-not_some done.desk.lent p.0 })
      | inr n ↦ absurd (ne (ap (λ c. if c then moved_value site done t else s.value t) n))
    ]

module _ (b : Below) where
  moves-in_tick : (w : World) (e : Event) (v t : ℕ) → is_damage w e ≡ false → ((step w e).node v).value t ≢ (w.node v).value t
      → IsTicking w (step w e) v × IsFullWithPrivilege (site w v) (w.node v)
  moves-in_tick w e v t d ne = elim (b.moves w e v d) [
    | inl q ↦ absurd (ne (ap (λ f. f t) q.values))
    | inr k ↦ (k, moves-with_privilege (site w v) (w.node v) t (λ same. ne (ap (λ (s : LocalState). s.value t) k ∙ same)))
  ]

  pub moves-pass_served : MovesPassServed
  moves-pass_served w e v t d ne waits =
      let m = moves-in_tick w e v t d ne in
      let desk : ((step w e).node v).desk ≡ desk_ticked (site w v).lease true (w.node v).desk = ap (λ (s : LocalState). s.desk) m.0 ∙ m.1.desk in
      elim (b.passes (site w v).lease (w.node v).desk waits m.1.full) [
        | inl served ↦ inl served
        | inr ended ↦ inr (ended.0, ap (desk_act (w.node v).desk) desk ∙ ended.1)
      ]

  pub moves-clear : MovesClearDesks
  moves-clear w e v t d ne =
      let m = moves-in_tick w e v t d ne in
      let desk : ((step w e).node v).desk ≡ desk_ticked (site w v).lease true (w.node v).desk = ap (λ (s : LocalState). s.desk) m.0 ∙ m.1.desk in (
        ap (λ (x : DeskState). is_some x.lent) desk ∙ m.1.full,
        ap (λ (x : DeskState). x.served) desk ∙ b.clears (site w v).lease true (w.node v).desk m.1.full,
      )

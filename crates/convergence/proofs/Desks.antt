-- A node that lends moves no machine, so a loan with privilege keeps its privilege; and a full tick
-- ends every other loan.
use Rattle.std.proofs.Common.{◌≡◌, ℕ, ◌<◌, inl, inr, true, false, ◌==◌, ◌&&◌, List, [], ◌∷◌, Option, Some, None, refl, sym, ◌∙◌, ap, subst}
use Rattle.std.specs.Prelude.{is_some, is_none, if◌then◌else◌}
use Rattle.std.specs.List.{list_any}
use Rattle.std.proofs.Math.Path.{fun_ext}
use Rattle.std.proofs.lemmas.Bool.{and_parts, false≢true}
use Rattle.k_state.specs.Machine as machine
use Rattle.tree_convergence.specs.lock_desk.Laws.{LoansNeedPrivilege}
use Rattle.run_model.specs.node_core.Site.{Site, site_of}
use Rattle.run_model.specs.node_core.State.{LocalState}
use Rattle.run_model.specs.node_core.Machines.{tree_of, before, may_move, is_special, is_node_privileged, moved_value}
use Rattle.run_model.specs.node_core.Step.{ticked, recomputed, desk_done}
use Rattle.run_model.specs.World.{World, site}
use Rattle.run_model.specs.Step.{step}
use Rattle.run_model.specs.Run.{run, is_damage, IsUndamaged}
use Rattle.run_model.specs.Sweep.{is_full_tick, has_full_tick}
use Rattle.convergence.specs.Ring.{IsTokenRingGood}
use Rattle.convergence.specs.Settled.{IsSettled}
use Rattle.run_model.specs.Privilege.{is_privileged, is_lending}
use Rattle.run_model.specs.declared.event.Event.{Event}
use Rattle.run_model.proofs.Along as along
use Rattle.run_model.proofs.Along.{Course, undamaged-front, undamaged-one, kept}
use Rattle.run_model.specs.declared.event.Event.TheVariants.{Send, Take, Lose, Tick, Ask, Leave, Damage}
use Rattle.convergence.specs.Below.{Below}
use Rattle.convergence.specs.Laws.{LoansStayPrivileged}

some-not_none : (o : Option ℕ) → is_some o ≡ true → is_none o ≡ false
some-not_none None h = absurd (false≢true h)
some-not_none (Some t) h = refl

pub none-not_some : (o : Option ℕ) → is_none o ≡ true → is_some o ≡ false
none-not_some None h = refl
none-not_some (Some t) h = absurd (false≢true h)

-- a tick with a loan leaves each machine its value
loan_stops_machines : (site : Site) (s : LocalState) (t : ℕ) → is_none (ticked site s).desk.lent ≡ false → (ticked site s).value t ≡ s.value t
loan_stops_machines site s t h =
    ap (λ c. if c && (list_any (λ u. u == t) (tree_of site (ticked site s)) && may_move site (desk_done site (recomputed site s)) t) then moved_value site (desk_done site (recomputed site s)) t else s.value t) h

-- a node that lends after a tick is privileged: the loan needed privilege, and no machine moved
pub tick-keeps_privilege : LoansNeedPrivilege → (site : Site) (s : LocalState) → is_some (ticked site s).desk.lent ≡ true → is_node_privileged site (ticked site s) ≡ true
tick-keeps_privilege loans site s h =
    let old = recomputed site s in
    let p : is_node_privileged site old ≡ true = loans site.lease (is_node_privileged site old) s.desk h in
    let kept : may_move site (ticked site s) ≡ may_move site old =
    fun_ext (λ t. ap (λ x. machine.is_privileged (is_special site old t) x (before s t)) (loan_stops_machines site s t (some-not_none (ticked site s).desk.lent h))) in
    ap (λ test. list_any test (tree_of site old)) kept ∙ p

module _ (b : Below) where
  -- if the node lends, it is privileged
  abbrev pub IsLoanPrivileged : World → ℕ → Type 0
  IsLoanPrivileged w v = is_lending w v ≡ true → is_privileged w v ≡ true

  -- the world is settled, and its token ring good
  abbrev pub IsGoodWorld : World → Type 0
  IsGoodWorld w = IsSettled w × IsTokenRingGood w

  pub good-stays : (w : World) (es : List Event) → IsUndamaged w es → IsGoodWorld w → IsGoodWorld (run w es)
  good-stays w es u (s, g) = (b.settled w es s u, b.good w es s u g)

  -- no damage, on a network with v, from a good world
  abbrev good_course : ℕ → Course
  good_course v = record {
    holds = λ w es. IsUndamaged w es × IsGoodWorld w × (v < w.net.nodes);
    says = λ w e. (is_damage w e ≡ false) × IsGoodWorld w × (v < w.net.nodes);
    now = λ w e es h. ((undamaged-front w e es h.0).0, h.1, h.2);
    later = λ w e es h.
        let d = undamaged-front w e es h.0 in
        let one = undamaged-one w e d.0 in
        (d.1, good-stays w (e ∷ []) one h.1, subst (λ n. v < n.nodes) (sym (b.network w (e ∷ []) one)) h.2);
  }

  pub loan-event : LoansStayPrivileged
  loan-event w e v s d g h p lends = elim (b.moves w e v d) [
    | inl q ↦ b.privilege_stays w e v s d g h q.values (p (q.loan lends))
    | inr k ↦ (let after : is_node_privileged (site w v) (ticked (site w v) (w.node v)) ≡ true =
        tick-keeps_privilege b.loans (site w v) (w.node v) (ap (λ (x : LocalState). is_some x.desk.lent) (sym k) ∙ lends) in
        ap (λ n. is_node_privileged (site_of n v) ((step w e).node v)) (b.network w (e ∷ []) (undamaged-one w e d)) ∙ ap (is_node_privileged (site w v)) k ∙ after)
  ]

  pub loan-run : (w : World) (es : List Event) (v : ℕ) → IsUndamaged w es → IsGoodWorld w → v < w.net.nodes → IsLoanPrivileged w v → IsLoanPrivileged (run w es) v
  loan-run w es v u g h p = kept (good_course v) (λ x. IsLoanPrivileged x v) (λ x e now q. loan-event x e v now.1.0 now.0 now.1.1 now.2 q) w es (u, g, h) p

  full-lends_not : (w : World) (e : Event) (v : ℕ) → is_full_tick w e v ≡ true → is_lending (step w e) v ≡ false
  full-lends_not w (Tick u) v h =
      let p = and_parts (u == v) (is_none ((step w (Tick u)).node v).desk.lent) h in
      none-not_some ((step w (Tick u)).node v).desk.lent p.1
  full-lends_not w (Send u x) v h = absurd (false≢true h)
  full-lends_not w (Take u x) v h = absurd (false≢true h)
  full-lends_not w (Lose u x i) v h = absurd (false≢true h)
  full-lends_not w (Ask u x) v h = absurd (false≢true h)
  full-lends_not w (Leave u x) v h = absurd (false≢true h)
  full-lends_not w (Damage x) v h = absurd (false≢true h)

  -- after a full tick of the node its loans have privilege
  pub loan-after_full_tick : (w : World) (es : List Event) (v : ℕ) → IsUndamaged w es → IsGoodWorld w → v < w.net.nodes → has_full_tick w es v ≡ true
      → IsLoanPrivileged (run w es) v
  loan-after_full_tick w es v u g h t =
      along.ticked (good_course v) (λ x. Unit {0}) (λ x. IsLoanPrivileged x v) v (λ x e now p. p) (λ x e now p q. loan-event x e v now.1.0 now.0 now.1.1 now.2 q)
      (λ x e now p f l. absurd (false≢true (sym (full-lends_not x e v f) ∙ l))) w es (u, g, h) tt t

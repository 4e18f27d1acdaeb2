-- A node's whole state is noted: then the node is in that state, and there is damage only if it was not
-- before.
use Rattle.std.proofs.Common.{◌≡◌, ◌≢◌, ◌∙◌, ℕ, ◌+◌, ◌<◌, ◌≤◌, Bool, true, false, ◌&&◌, ◌||◌, nat_lt, nat_le, List, [], ◌∷◌, ◌++◌, length, map, refl, ap, sym, subst, arith, append_assoc, IsTrue, Option, None, Some, inl, inr}
use Rattle.std.proofs.lemmas.Bool.{cond_both, cases_eq}
use Rattle.std.proofs.lemmas.Grind.{common_steps}
use Rattle.std.proofs.lemmas.List.{append-nil, length-append}
use Rattle.std.proofs.lemmas.List.Elements.{All-from_recursion, recursion_from_All, filter_passes}
use Rattle.std.specs.List.{AllByRecursion}
use Rattle.std.specs.Str.{bytes_eq}
use Rattle.std.specs.Prelude.{is_some, is_none, if◌then◌else◌}
use Rattle.topology.specs.Laws.{JoinedAreNodes}
use Rattle.topology.specs.Network.{Network, are_joined}
use Rattle.topology.specs.Ranges.{ranges_of, parent_fits}
use Rattle.flight_records.specs.declared.entry.StatePart.{StatePart}
use Rattle.flight_records.specs.declared.entry.StatePart.TheVariants as part
use Rattle.node_follower.specs.Following.{AreSameAt, AreSame}
use Rattle.node_follower.specs.Parts.{own_part, port_part, loan_part}
use Rattle.configuration.specs.node_core.State.{LocalState, IsNodeInRange}
use Rattle.configuration.specs.node_core.lock_desk.Desk.{DeskState, desk_fits}
use Rattle.configuration.specs.data_link.Port.{port_fits}
use Rattle.configuration.specs.run_model.World.{World, IsWorldInRange, site}
use Rattle.configuration.specs.run_model.Step.{refusal, step}
use Rattle.configuration.specs.run_model.Run.{run, has_damage, IsUndamaged}
use Rattle.configuration.specs.run_model.Laws.{RunsJoin, RangesStay, UndamagedSplits}
use Rattle.configuration.specs.run_model.declared.event.Event.{Event}
use Rattle.configuration.specs.run_model.declared.event.Event.TheVariants.{Ask, Leave, Damage}
use Rattle.configuration.specs.run_model.declared.event.Harm.{Harm}
use Rattle.configuration.specs.run_model.declared.event.Harm.TheVariants as harm
use Rattle.record_gathering.specs.Differences.{harms_in, own_harm, port_harms, loan_harm}
use Rattle.record_gathering.specs.Entries.{part_events}
use Rattle.record_gathering.specs.Laws.{IsReached}
use Rattle.record_gathering.specs.Queues.{with_ticket, queue_after_part}
use Rattle.record_gathering.specs.Standing.{StandsAs, IsPartInRange}
use Rattle.record_gathering.specs.States.{parts_events, state_events, IsStateReached}
use Rattle.record_gathering.proofs.Accepted.{refused-stays}
use Rattle.record_gathering.proofs.Quiet.{parts-quiet}
use Rattle.record_gathering.proofs.Replays.{parts-reached}

-- what a port that is noted may be
abbrev IsPortNoted : Network → ℕ → LocalState → ℕ → Type 0
IsPortNoted net v s u =
    IsTrue (are_joined net.edges v u) × IsTrue (port_fits (ranges_of net) (s.port u))
    × IsTrue (nat_lt (s.value u) (ranges_of net).ring)

-- ---- tickets that wait are noted one by one

abbrev waits : List ℕ → List StatePart
waits ts = map part.Waits ts

-- they become no event
waits-noted : (w : World) (v : ℕ) (ts queue : List ℕ) (rest : List StatePart) → length queue + length ts ≤ 64
    → parts_events w queue v (waits ts ++ rest) ≡ parts_events w (queue ++ ts) v rest
waits-noted w v [] queue rest few = ap (λ (q : List ℕ). parts_events w q v rest) (sym (append-nil queue))
waits-noted w v (t ∷ ts) queue rest few =
    let room : nat_lt (length queue) 64 ≡ true = grind (arith, common_steps) in
    let q : with_ticket queue t ≡ queue ++ t ∷ [] = ap (λ (b : Bool). if b then queue ++ t ∷ [] else queue) room in
    let few_too : length (queue ++ t ∷ []) + length ts ≤ 64 = omega (arith, length-append queue (t ∷ []), few) in
    ap (λ (x : List ℕ). parts_events w x v (waits ts ++ rest)) q
    ∙ waits-noted w v ts (queue ++ t ∷ []) rest few_too
    ∙ ap (λ (x : List ℕ). parts_events w x v rest) (append_assoc queue (t ∷ []) ts)

few-wait : (lease : ℕ) (d : DeskState) → IsTrue (desk_fits lease d) → 0 + length d.waiting ≤ 64
few-wait lease d fits = grind (arith, common_steps)

-- ---- a node that was in that state before

module _ (w : World) (v : ℕ) (s : LocalState) where
  ports-quiet : (us queue : List ℕ) (rest : List StatePart) → AllByRecursion (λ u. AreSameAt u (w.node v) s) us
      → parts_events w queue v (map (port_part s) us ++ rest) ≡ parts_events w queue v rest
  ports-quiet [] queue rest same = refl
  ports-quiet (u ∷ us) queue rest same =
      let none : part_events w queue v (port_part s u) ≡ [] = parts-quiet w queue v (port_part s u) same.0 in
      ap (λ (es : List Event). es ++ parts_events (run w es) queue v (map (port_part s) us ++ rest)) none
      ∙ ports-quiet us queue rest same.1

  pub state-quiet : (queue : List ℕ) (network : ℕ) → IsNodeInRange (site w v) s → AreSame (site w v).neighbours (w.node v) s
      → state_events w queue v network s ≡ []
  state-quiet queue network fits same =
      let ports = map (port_part s) (site w v).neighbours in
      let end : List StatePart = loan_part s ∷ part.Whole ∷ [] in
      let own : part_events w [] v (own_part s) ≡ [] = parts-quiet w [] v (own_part s) (same.0.0, same.0.1) in
      let loan : part_events w s.desk.waiting v (loan_part s) ≡ [] = parts-quiet w s.desk.waiting v (loan_part s) same.0.2 in
      ap (λ (es : List Event). es ++ parts_events (run w es) [] v (ports ++ (waits s.desk.waiting ++ end))) own
      ∙ ports-quiet (site w v).neighbours [] (waits s.desk.waiting ++ end)
      (recursion_from_All (λ u. AreSameAt u (w.node v) s) (site w v).neighbours same.1)
      ∙ waits-noted w v s.desk.waiting [] end (few-wait (site w v).lease s.desk fits.desk)
      ∙ ap (λ (es : List Event). es ++ parts_events (run w es) s.desk.waiting v (part.Whole ∷ [])) loan

-- ---- where it leads

-- the ports to these neighbours became those of the state, and nothing else changed but such ports
record ArePorts (v : ℕ) (s : LocalState) (w new : World) (us : List ℕ) : Type 0 where
  pub done : AllByRecursion (λ u. AreSameAt u (new.node v) s) us
  pub kept : (u : ℕ) → AreSameAt u (w.node v) s → AreSameAt u (new.node v) s
  pub distance : (new.node v).distance ≡ (w.node v).distance
  pub parent : (new.node v).parent ≡ (w.node v).parent
  pub others : (x : ℕ) → x ≢ v → new.node x ≡ w.node x
  pub links : new.link ≡ w.link
  pub network : new.net ≡ w.net
  pub range : IsWorldInRange new

below : (a b : ℕ) → a < b → IsTrue (nat_lt a b)
below a b lt = grind (arith, common_steps)

own-fits : (n d : ℕ) (p : Option ℕ) → d ≤ n → IsTrue (parent_fits n p) → IsTrue (nat_le d n && parent_fits n p)
own-fits n d p le fits = let first : nat_le d n ≡ true = grind (arith, common_steps) in rw first fits

-- facts of each element
both : (P Q : ℕ → Type 0) (us : List ℕ) → AllByRecursion P us → AllByRecursion Q us → AllByRecursion (λ u. P u × Q u) us
both P Q [] ps qs = tt
both P Q (u ∷ us) ps qs = ((ps.0, qs.0), both P Q us ps.1 qs.1)

weaker : (P Q : ℕ → Type 0) (us : List ℕ) → ((u : ℕ) → P u → Q u) → AllByRecursion P us → AllByRecursion Q us
weaker P Q [] f ps = tt
weaker P Q (u ∷ us) f ps = (f u ps.0, weaker P Q us f ps.1)

-- a whole state's ports may be noted
ports-fit : (w : World) (v : ℕ) (s : LocalState) → IsNodeInRange (site w v) s
    → AllByRecursion (IsPortNoted w.net v s) (site w v).neighbours
ports-fit w v s fits =
    let us = (site w v).neighbours in
    let J : ℕ → Type 0 = λ u. are_joined w.net.edges v u ≡ true in
    let F : ℕ → Type 0 = λ u. IsTrue (port_fits (ranges_of w.net) (s.port u)) in
    let X : ℕ → Type 0 = λ u. s.value u < (ranges_of w.net).ring in
    let joined = recursion_from_All J us (filter_passes (are_joined w.net.edges v) _) in
    let ports = recursion_from_All F us fits.ports in
    let values = recursion_from_All X us fits.values in
    weaker (λ u. J u × (F u × X u)) (IsPortNoted w.net v s) us
    (λ u h. (h.0, h.1.0, below (s.value u) (ranges_of w.net).ring h.1.1))
    (both J (λ u. F u × X u) us joined (both F X us ports values))

module _ (join : RunsJoin) (ranges : RangesStay) (nodes : JoinedAreNodes) (v : ℕ) (s : LocalState) where
  ports-noted : (us : List ℕ) (m : World) (queue : List ℕ) (rest : List StatePart) → IsWorldInRange m → v < m.net.nodes
      → AllByRecursion (IsPortNoted m.net v s) us
      → (new : World) × ArePorts v s m new us
      × (run m (parts_events m queue v (map (port_part s) us ++ rest)) ≡ run new (parts_events new queue v rest))
  ports-noted [] m queue rest range here fits =
      let same : ArePorts v s m m [] = record {
        done = tt;
        kept = λ u h. h;
        distance = refl;
        parent = refl;
        others = λ x ne. refl;
        links = refl;
        network = refl;
        range = range;
      } in (m, same, refl)
  ports-noted (u ∷ us) m queue rest range here fits =
      let es = part_events m queue v (port_part s u) in
      let m1 = run m es in
      let h : IsReached m queue v (port_part s u) m1 = parts-reached join nodes m queue v (port_part s u) range here fits.0 in
      let there : AreSameAt u (m1.node v) s = h.stands in
      let next = ports-noted us m1 queue rest (ranges m es range)
      (subst (λ (n : Network). v < n.nodes) (sym h.network) here)
      (subst (λ (n : Network). AllByRecursion (IsPortNoted n v s) us) (sym h.network) fits.1) in
      let a = next.1 in
      let stays : (x : ℕ) → AreSameAt x (m.node v) s → AreSameAt x (m1.node v) s = λ x same.
      elim (cases_eq x u) [
        | inl e ↦ subst (λ (y : ℕ). AreSameAt y (m1.node v) s) (sym e) there
        | inr ne ↦ let b = h.beside.3 x ne in (sym b.0 ∙ same.0, sym b.1 ∙ same.1)
      ] in
      let all : ArePorts v s m next.0 (u ∷ us) = record {
        done = (a.kept u there, a.done);
        kept = λ x same. a.kept x (stays x same);
        distance = a.distance ∙ sym h.beside.0;
        parent = a.parent ∙ sym h.beside.1;
        others = λ x ne. a.others x ne ∙ h.others x ne;
        links = a.links ∙ h.links;
        network = a.network ∙ h.network;
        range = a.range;
      } in
      (next.0, all, join m es (parts_events m1 queue v (map (port_part s) us ++ rest)) ∙ next.2)

  pub state-reached : (w : World) (queue : List ℕ) (network : ℕ) → IsWorldInRange w → v < w.net.nodes
      → IsNodeInRange (site w v) s → IsStateReached w v s (run w (state_events w queue v network s))
  state-reached w queue network range here fits =
      let us = (site w v).neighbours in
      let ts = s.desk.waiting in
      let end : List StatePart = loan_part s ∷ part.Whole ∷ [] in
      let own = part_events w [] v (own_part s) in
      let w1 = run w own in
      let h1 : IsReached w [] v (own_part s) w1 =
      parts-reached join nodes w [] v (own_part s) range here (own-fits w.net.nodes s.distance s.parent fits.distance fits.parent) in
      let p = ports-noted us w1 [] (waits ts ++ end) (ranges w own range)
      (subst (λ (n : Network). v < n.nodes) (sym h1.network) here)
      (subst (λ (n : Network). AllByRecursion (IsPortNoted n v s) us) (sym h1.network) (ports-fit w v s fits)) in
      let w2 = p.0 in
      let a = p.1 in
      let here2 : v < w2.net.nodes = subst (λ (n : Network). v < n.nodes) (sym (a.network ∙ h1.network)) here in
      let desk : IsPartInRange w2 ts v (loan_part s) =
      subst (λ (n : Network). IsTrue (desk_fits n.lease s.desk)) (sym (a.network ∙ h1.network)) fits.desk in
      let loan = part_events w2 ts v (loan_part s) in
      let w3 = run w2 loan in
      let h3 : IsReached w2 ts v (loan_part s) w3 = parts-reached join nodes w2 ts v (loan_part s) a.range here2 desk in
      let to : run w (state_events w queue v network s) ≡ w3 =
      join w own (parts_events w1 [] v (map (port_part s) us ++ (waits ts ++ end))) ∙ p.2
      ∙ ap (λ (es : List Event). run w2 es) (waits-noted w2 v ts [] end (few-wait (site w v).lease s.desk fits.desk))
      ∙ join w2 loan [] in
      let at-ports = weaker (λ u. AreSameAt u (w2.node v) s) (λ u. AreSameAt u (w3.node v) s) us
      (λ u h. (sym (h3.beside.2 u) ∙ h.0, sym (h3.beside.3 u) ∙ h.1)) a.done in
      subst (IsStateReached w v s) (sym to)
      (record {
        same = (
          (sym h3.beside.0 ∙ a.distance ∙ h1.stands.0, sym h3.beside.1 ∙ a.parent ∙ h1.stands.1, h3.stands),
          All-from_recursion (λ u. AreSameAt u (w3.node v) s) us at-ports,
        );
        others = λ x ne. h3.others x ne ∙ a.others x ne ∙ h1.others x ne;
        links = h3.links ∙ a.links ∙ h1.links;
        network = h3.network ∙ a.network ∙ h1.network;
      })

-- ---- without damage

neither : (a b : Bool) → (a || b) ≡ false → (a ≡ false) × (b ≡ false)
neither true b h = absurd cc
neither false b h = (refl, h)

some-is : {X : Type 0} (o : Option X) → is_none o ≡ false → is_some o ≡ true
some-is None h = absurd cc
some-is (Some x) h = refl

-- harms that are all refused change nothing
harms-idle : (os : List (Option Harm)) (m : World) → has_damage m (harms_in os) ≡ false → run m (harms_in os) ≡ m
harms-idle [] m h = refl
harms-idle (None ∷ os) m h = harms-idle os m h
harms-idle (Some x ∷ os) m h =
    let a = neither (is_none (refusal m (Damage x))) (has_damage (step m (Damage x)) (harms_in os)) h in
    let stays : step m (Damage x) ≡ m = refused-stays m (Damage x) (some-is (refusal m (Damage x)) a.0) in
    ap (λ (k : World). run k (harms_in os)) stays
    ∙ harms-idle os m (subst (λ (k : World). has_damage k (harms_in os) ≡ false) stays a.1)

-- the end of a loan is never refused
ends : (m : World) (v : ℕ) → v < m.net.nodes → is_none (refusal m (Damage (harm.Desk v None 0 false))) ≡ true
ends m v here = grind (arith, common_steps)

-- a part without damage changes nothing
part-idle : (m : World) (queue : List ℕ) (v : ℕ) (p : StatePart) → v < m.net.nodes
    → has_damage m (part_events m queue v p) ≡ false → run m (part_events m queue v p) ≡ m
part-idle m queue v (part.Start network node) here h = refl
part-idle m queue v (part.Own d p) here h = harms-idle (own_harm v (m.node v) d p ∷ []) m h
part-idle m queue v (part.Port u seq last staged copy x) here h =
    let hs = port_harms v u (m.node v) (record { seq = seq; last = last; staged = staged; copy = copy }) x in
    cond_both (are_joined m.net.edges v u) (harms_in hs) []
    (λ (es : List Event). has_damage m es ≡ false → run m es ≡ m)
    (λ _ k. harms-idle hs m k) (λ _ k. refl) h
part-idle m queue v (part.Waits t) here h = refl
part-idle m queue v (part.Loan lent left served) here h =
    let d = (m.node v).desk in
    cond_both (bytes_eq d.waiting queue)
    (harms_in (loan_harm v d.lent d.left d.served lent left served ∷ []))
    (Damage (harm.Desk v None 0 false)
    ∷ (map (Leave v) d.waiting ++ (map (Ask v) queue ++ harms_in (loan_harm v None 0 false lent left served ∷ []))))
    (λ (es : List Event). has_damage m es ≡ false → run m es ≡ m)
    (λ _ k. harms-idle (loan_harm v d.lent d.left d.served lent left served ∷ []) m k)
    (λ _ k.
    let first = neither (is_none (refusal m (Damage (harm.Desk v None 0 false)))) _ k in
    let no : true ≡ false = sym (ends m v here) ∙ first.0 in absurd cc) h
part-idle m queue v part.Whole here h = refl

module _ (join : RunsJoin) (split : UndamagedSplits) (nodes : JoinedAreNodes) (w : World) (v : ℕ) (s : LocalState)
    (range : IsWorldInRange w) (here : v < w.net.nodes) where
  -- if the first part brings no damage, the node was already as it says, and what comes after it is read in
  -- the same world
  part-said : (queue : List ℕ) (p : StatePart) (ps : List StatePart) → IsPartInRange w queue v p
      → IsUndamaged w (parts_events w queue v (p ∷ ps))
      → StandsAs queue (w.node v) p × IsUndamaged w (parts_events w (queue_after_part queue p) v ps)
  part-said queue p ps fits h =
      let es = part_events w queue v p in
      let parts = split w es (parts_events (run w es) (queue_after_part queue p) v ps) h in
      let stays : run w es ≡ w = part-idle w queue v p here parts.0 in
      let r : IsReached w queue v p (run w es) = parts-reached join nodes w queue v p range here fits in (
        subst (λ (m : World). StandsAs queue (m.node v) p) stays r.stands,
        subst (λ (m : World). IsUndamaged m (parts_events m (queue_after_part queue p) v ps)) stays parts.1,
      )

  ports-said : (us queue : List ℕ) (rest : List StatePart) → AllByRecursion (IsPortNoted w.net v s) us
      → IsUndamaged w (parts_events w queue v (map (port_part s) us ++ rest))
      → AllByRecursion (λ u. AreSameAt u (w.node v) s) us × IsUndamaged w (parts_events w queue v rest)
  ports-said [] queue rest fits h = (tt, h)
  ports-said (u ∷ us) queue rest fits h =
      let one = part-said queue (port_part s u) (map (port_part s) us ++ rest) fits.0 h in
      let more = ports-said us queue rest fits.1 one.1 in
      ((one.0, more.0), more.1)

  pub state-said : (queue : List ℕ) (network : ℕ) → IsNodeInRange (site w v) s
      → IsUndamaged w (state_events w queue v network s) → AreSame (site w v).neighbours (w.node v) s
  state-said queue network fits h =
      let us = (site w v).neighbours in
      let ts = s.desk.waiting in
      let end : List StatePart = loan_part s ∷ part.Whole ∷ [] in
      let own = part-said [] (own_part s) (map (port_part s) us ++ (waits ts ++ end))
      (own-fits w.net.nodes s.distance s.parent fits.distance fits.parent) h in
      let ports = ports-said us [] (waits ts ++ end) (ports-fit w v s fits) own.1 in
      let at-end : IsUndamaged w (parts_events w ts v end) =
      subst (IsUndamaged w) (waits-noted w v ts [] end (few-wait (site w v).lease s.desk fits.desk)) ports.1 in
      let loan = part-said ts (loan_part s) (part.Whole ∷ []) fits.desk at-end in
      ((own.0.0, own.0.1, loan.0), All-from_recursion (λ u. AreSameAt u (w.node v) s) us ports.0)

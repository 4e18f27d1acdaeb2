-- Every harm of a scramble is accepted, one after the other.
use Rattle.std.proofs.Common.{◌≡◌, ◌∙◌, ℕ, ◌+◌, ◌<◌, ◌≤◌, Bool, true, false, None, Some, zero, suc, List, [], ◌∷◌, ◌++◌, length, filter, refl, ap, sym, subst, arith, length-append}
use Rattle.std.specs.Prelude.{◌==◌, if◌then◌else◌}
use Rattle.std.specs.List.{AllByRecursion, range_with_len}
use Rattle.std.proofs.lemmas.List.FromFn.{length-range_with_len}
use Rattle.rand_pcg.specs.Lcg.{Lcg}
use Rattle.topology.specs.Network.{Network, are_joined, neighbours_of}
use Rattle.topology.specs.Ranges.{ranges_of}
use Rattle.run_model.specs.lock_desk.Desk.{waits, is_in}
use Rattle.run_model.specs.World.{World}
use Rattle.run_model.specs.Step.{refusal, step, harmed}
use Rattle.run_model.specs.Run.{run}
use Rattle.run_model.specs.declared.event.Event.{Event}
use Rattle.run_model.specs.declared.event.Event.TheVariants.{Damage}
use Rattle.run_model.specs.declared.event.Harm.{Harm}
use Rattle.run_model.specs.declared.event.Harm.TheVariants as harm
use Rattle.damage_tool.specs.Draws.{draw, draw_parent, draw_payload}
use Rattle.damage_tool.specs.Harms.{draw_each, draw_port_harms, draw_desk, draw_node, draw_item, draw_item_harm, draw_link, draw_links_from, draw_world}
use Rattle.damage_tool.specs.Laws.{AreAccepted}
use Rattle.damage_tool.proofs.Accepted.{draw-below, parent-drawn, payload-drawn, counters-fit, item-fits, own-accepted, counters-accepted, staged-accepted, copy-accepted, value-accepted, empty-accepted, item-accepted, none-accepted, loan-accepted, accepted-step, harmed-waits, emptied, one-more}
use Rattle.damage_tool.proofs.Neighbours.{IsLink, all-range, all-neighbours}

-- the world has this network, and the ticket 65535 waits at none of its nodes
pub record IsOpen (net : Network) (w : World) : Type 0 where
  pub same : w.net ≡ net
  pub free : (v : ℕ) → v < net.nodes → waits (w.node v).desk 65535 ≡ false

-- none of the harms that are drawn changes the network
harmed-open : (net : Network) (w : World) (h : Harm) → (harmed w h).net ≡ w.net → IsOpen net w → IsOpen net (harmed w h)
harmed-open net w h still o = record {
  same = still ∙ o.same;
  free = λ v below. ap (λ tickets. is_in tickets 65535) (harmed-waits w h v) ∙ o.free v below;
}

-- the harm is accepted, and the world stays open
pub record Goes (net : Network) (w : World) (es : List Event) : Type 0 where
  pub accepted : AreAccepted w es
  pub open_then : IsOpen net (run w es)

goes-none : (net : Network) (w : World) → IsOpen net w → Goes net w []
goes-none net w o = record { accepted = tt; open_then = o }

goes-first : (net : Network) (w : World) (h : Harm) (es : List Event) → refusal w (Damage h) ≡ None → Goes net (harmed w h) es → Goes net w (Damage h ∷ es)
goes-first net w h es ok rest =
    let there = subst (λ w2. Goes net w2 es) (sym (accepted-step w (Damage h) ok)) rest in
    record { accepted = (ok, there.accepted); open_then = there.open_then }

goes-append : (net : Network) (w : World) (xs ys : List Event) → Goes net w xs → Goes net (run w xs) ys → Goes net w (xs ++ ys)
goes-append net w [] ys a b = b
goes-append net w (e ∷ xs) ys a b =
    let rest = goes-append net (step w e) xs ys (record { accepted = a.accepted.1; open_then = a.open_then }) b in
    record { accepted = (a.accepted.0, rest.accepted); open_then = rest.open_then }

-- whatever world it begins in, and whatever is drawn
abbrev pub AlwaysGoes : Network → (Lcg → List Event × Lcg) → Type 0
AlwaysGoes net drawn = (w : World) (g : Lcg) → IsOpen net w → Goes net w (drawn g).0

goes-each : (net : Network) (draws : ℕ → Lcg → List Event × Lcg) (xs : List ℕ) → AllByRecursion (λ x. AlwaysGoes net (draws x)) xs
    → AlwaysGoes net (draw_each draws xs)
goes-each net draws [] all w g o = goes-none net w o
goes-each net draws (x ∷ xs) (one, rest) w g o =
    let d = draws x g in
    let first = one w g o in
    goes-append net w d.0 (draw_each draws xs d.1).0 first (goes-each net draws xs rest (run w d.0) d.1 first.open_then)

-- ---- the parts

-- the moduli are positive
pub record HasRanges (net : Network) : Type 0 where
  pub counter : 0 < (ranges_of net).counter
  pub ring : 0 < (ranges_of net).ring

module _ (net : Network) (some : HasRanges net) where
  port-goes : (u v : ℕ) → IsLink net u v → AlwaysGoes net (draw_port_harms (ranges_of net) u v)
  port-goes u v link w g o =
      let r = ranges_of net in
      let seq = draw r.counter g in
      let last = draw r.counter seq.1 in
      let staged = draw_payload r last.1 in
      let copy = draw_payload r staged.1 in
      let value = draw r.ring copy.1 in
      let h1 : Harm = harm.Counters u v seq.0 last.0 in
      let h2 : Harm = harm.Staged u v staged.0 in
      let h3 : Harm = harm.Copy u v copy.0 in
      let h4 : Harm = harm.Value u v value.0 in
      let o1 = harmed-open net w h1 refl o in
      let o2 = harmed-open net (harmed w h1) h2 refl o1 in
      let o3 = harmed-open net (harmed (harmed w h1) h2) h3 refl o2 in
      let o4 = harmed-open net (harmed (harmed (harmed w h1) h2) h3) h4 refl o3 in
      goes-first net w h1 _
      (counters-accepted net w u v seq.0 last.0 o.same link
      (counters-fit r seq.0 last.0 (draw-below r.counter g some.counter) (draw-below r.counter seq.1 some.counter)))
      (goes-first net (harmed w h1) h2 _ (staged-accepted net (harmed w h1) u v staged.0 o1.same link (payload-drawn r last.1 some.ring))
      (goes-first net (harmed (harmed w h1) h2) h3 _ (copy-accepted net (harmed (harmed w h1) h2) u v copy.0 o2.same link (payload-drawn r staged.1 some.ring))
      (goes-first net (harmed (harmed (harmed w h1) h2) h3) h4 [] (value-accepted net (harmed (harmed (harmed w h1) h2) h3) u v value.0 o3.same link (draw-below r.ring copy.1 some.ring))
      (goes-none net _ o4))))

  either-goes : (b : Bool) (w : World) (x y : Event × Lcg) → Goes net w (x.0 ∷ []) → Goes net w (y.0 ∷ []) → Goes net w ((if b then x else y).0 ∷ [])
  either-goes true w x y a b = a
  either-goes false w x y a b = b

  desk-goes : (v : ℕ) → v < net.nodes → (w : World) (g : Lcg) → IsOpen net w → Goes net w ((draw_desk net.lease v g).0 ∷ [])
  desk-goes v node w g o =
      let served = draw 2 g in
      let loan = draw 3 served.1 in
      let left = draw (net.lease + 1) loan.1 in
      let no : Harm = harm.Desk v None 0 (served.0 == 1) in
      let yes : Harm = harm.Desk v (Some 65535) left.0 (served.0 == 1) in
      either-goes (loan.0 == 0) w _ _
      (goes-first net w no [] (none-accepted net w v (served.0 == 1) o.same node) (goes-none net _ (harmed-open net w no refl o)))
      (goes-first net w yes []
      (loan-accepted net w v left.0 (served.0 == 1) o.same node (draw-below (net.lease + 1) loan.1 (omega arith)) (o.free v node))
      (goes-none net _ (harmed-open net w yes refl o)))

  node-goes : (v : ℕ) → v < net.nodes → AlwaysGoes net (draw_node net v)
  node-goes v node w g o =
      let r = ranges_of net in
      let distance = draw (r.nodes + 1) g in
      let parent = draw_parent r distance.1 in
      let own : Harm = harm.Own v distance.0 parent.0 in
      let ports = draw_each (draw_port_harms r v) (neighbours_of net v) parent.1 in
      let o1 = harmed-open net w own refl o in
      let first : Goes net w (Damage own ∷ ports.0) =
      goes-first net w own ports.0
      (own-accepted net w v distance.0 parent.0 o.same node (draw-below (r.nodes + 1) g (omega arith)) (parent-drawn r distance.1))
      (goes-each net (draw_port_harms r v) (neighbours_of net v)
      (all-neighbours (λ u. AlwaysGoes net (draw_port_harms r v u)) net v node (λ u link. port-goes v u link)) (harmed w own) parent.1 o1)
      in
      goes-append net w (Damage own ∷ ports.0) _ first (desk-goes v node (run w (Damage own ∷ ports.0)) ports.1 first.open_then)

  items-go : (u v : ℕ) → IsLink net u v → (xs : List ℕ) (w : World) (g : Lcg) → IsOpen net w → length (w.link u v) + length xs ≤ net.capacity
      → Goes net w (draw_each (draw_item_harm (ranges_of net) u v) xs g).0
  items-go u v link [] w g o room = goes-none net w o
  items-go u v link (x ∷ xs) w g o room =
      let item = draw_item (ranges_of net) g in
      let h : Harm = harm.Item u v item.0 in
      let longer : length ((harmed w h).link u v) ≡ length (w.link u v) + 1 =
      ap length (one-more w u v item.0) ∙ length-append (w.link u v) (item.0 ∷ [])
      in
      goes-first net w h _
      (item-accepted net w u v item.0 o.same link (item-fits (ranges_of net) g some.counter some.ring) (omega arith))
      (items-go u v link xs (harmed w h) item.1 (harmed-open net w h refl o) (omega arith))

  link-goes : (u v : ℕ) → IsLink net u v → AlwaysGoes net (draw_link net u v)
  link-goes u v link w g o =
      let count = draw (net.capacity + 1) g in
      let h : Harm = harm.Empty u v in
      let few : count.0 < net.capacity + 1 = draw-below (net.capacity + 1) g (omega arith) in
      let empty : length ((harmed w h).link u v) ≡ 0 = ap length (emptied w u v) in
      let many : length (range_with_len 0 count.0) ≡ count.0 = length-range_with_len 0 count.0 in
      goes-first net w h _ (empty-accepted net w u v o.same link)
      (items-go u v link (range_with_len 0 count.0) (harmed w h) count.1 (harmed-open net w h refl o) (omega arith))

  links-go : (u : ℕ) → u < net.nodes → AlwaysGoes net (draw_links_from net u)
  links-go u node =
      goes-each net (draw_link net u) (neighbours_of net u) (all-neighbours (λ v. AlwaysGoes net (draw_link net u v)) net u node (λ v link. link-goes u v link))

  pub world-goes : AlwaysGoes net (draw_world net)
  world-goes w g o =
      let ids = range_with_len 0 net.nodes in
      let nodes = draw_each (draw_node net) ids g in
      let first =
      goes-each net (draw_node net) ids
      (all-range (λ v. AlwaysGoes net (draw_node net v)) 0 net.nodes (λ v below. node-goes v (omega arith))) w g o
      in
      goes-append net w nodes.0 (draw_each (draw_links_from net) ids nodes.1).0 first
      (goes-each net (draw_links_from net) ids
      (all-range (λ u. AlwaysGoes net (draw_links_from net u)) 0 net.nodes (λ u below. links-go u (omega arith))) (run w nodes.0) nodes.1 first.open_then)

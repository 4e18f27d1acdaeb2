-- Harms that write a node.
use Rattle.std.proofs.Common.{rules, ◌≡◌, ◌∙◌, ◌↔◌, ◌<◌, ap, subst, sym, arith, refl, ℕ, IsTrue, None, Some, Result, Ok, Err, IsOk, OnOk, OnErr, IfOk, IfErr, nat_lt, slice_set, Bool, true, false, ◌&&◌, ◌++◌, ◌∷◌, [], length, if◌then◌else◌}
use Rattle.std.proofs.lemmas.Grind.{common_steps}
use Rattle.run_model.specs.node_core.State.{LocalState}
use Rattle.run_model.specs.node_core.Site.{site_of}
use Rattle.run_model.specs.node_core.View.{NodeView, site_in, state_of}
use Rattle.run_model.specs.World.{World, at_pair, item_fits, with_node}
use Rattle.run_model.specs.Step.{harm_fault, harm_fits, harm_place_fault, harmed, has_room, link_fault, refusal, step, unless}
use Rattle.run_model.specs.declared.event.Event.TheVariants.{Damage}
use Rattle.run_model.specs.declared.event.EventFault.{EventFault}
use Rattle.run_model.specs.declared.event.EventFault.TheVariants.{OutOfRange}
use Rattle.run_model.specs.declared.event.Harm.{Harm}
use Rattle.run_model.specs.declared.event.Harm.TheVariants as harm
use Rattle.run_model.specs.link_model.declared.item.Item.{Item}
use Rattle.topology.specs.Ranges.{ranges_of}
use Rattle.topology.specs.declared.frame.Ranges.{Ranges}
use Rattle.configuration.specs.LinksView.{LinksView, under_way}
use Rattle.configuration.specs.ConfigurationView.{ConfigurationView, world_of}
use Rattle.configuration.proofs.NodePlaces.{IsNodeAt, IsPortAt, site-is}
use Rattle.run_model.specs.declared.happened.Happened.{Happened}
use Rattle.run_model.specs.declared.happened.Happened.TheVariants.{Damaged}
use Rattle.configuration.specs.Answers.{Answers}
use Rattle.configuration.proofs.WorldSteps.{IsBeside, accepted, first-none, links-world, step-is, unless-holds, unless-fails, node-done, node-refused}

-- a harm that writes a value
module _ (w : World) (harm : Harm) (found : harm_place_fault w harm ≡ None) (writes : harm_fault w harm ≡ unless (harm_fits w harm) OutOfRange) where
  refusal-is : refusal w (Damage harm) ≡ unless (harm_fits w harm) OutOfRange
  refusal-is = first-none (harm_place_fault w harm) (harm_fault w harm) found ∙ writes

  pub harm-none : IsTrue (harm_fits w harm) → refusal w (Damage harm) ≡ None
  harm-none fits = refusal-is ∙ unless-holds (harm_fits w harm) OutOfRange fits

  pub harm-some : ¬ IsTrue (harm_fits w harm) → refusal w (Damage harm) ≡ Some OutOfRange
  harm-some fails = refusal-is ∙ unless-fails (harm_fits w harm) OutOfRange fails

  -- the event has the answer of the writer
  module _ {T : Type 0} where
    harm-ok : (r : Result T EventFault) → (IsOk r ↔ IsTrue (harm_fits w harm)) → OnOk r (refusal w (Damage harm) ≡ None)
    harm-ok (Ok x) iff = harm-none (iff.0 refl)
    harm-ok (Err x) iff = search rules

    harm-err : (r : Result T EventFault) → (IsOk r ↔ IsTrue (harm_fits w harm)) → IfErr r (λ fault. fault ≡ OutOfRange)
        → IfErr r (λ fault. refusal w (Damage harm) ≡ Some fault)
    harm-err (Ok x) iff fault = search rules
    harm-err (Err x) iff fault = rw fault (harm-some (λ fits. let t = iff.1 fits in absurd cc))

-- two answers that are given in the same cases
same-cases : {A B C : Type 0} → (A ↔ B) → (B ↔ C) → A ↔ C
same-cases one two = (λ a. two.0 (one.0 a), λ c. one.1 (two.1 c))

-- a number below another, as a test
pub less-test : {A : Type 0} (x y : ℕ) → (A ↔ (x < y)) → A ↔ IsTrue (nat_lt x y)
less-test x y iff = (λ a. let less = iff.0 a in grind (arith, common_steps, less), λ t. iff.1 (grind (arith, common_steps, t)))

-- a node that a harm has written, or that the writer left unchanged
harm-world : {T E : Type 0} (w : ConfigurationView) (v p : ℕ) (old new : NodeView) (harm : Harm) (f : LocalState → LocalState) (r : Result T E) → IsNodeAt w.links.net w.nodes v p old
    → harm_place_fault (world_of w) harm ≡ None → harm_fault (world_of w) harm ≡ unless (harm_fits (world_of w) harm) OutOfRange → (IsOk r ↔ IsTrue (harm_fits (world_of w) harm))
    → harmed (world_of w) harm ≡ with_node (world_of w) v (f ((world_of w).node v)) → OnOk r (state_of new ≡ f (state_of old)) → OnErr r (new ≡ old)
    → world_of (record w { nodes = slice_set w.nodes p new }) ≡ step (world_of w) (Damage harm)
harm-world w v p old new harm f (Ok x) h found writes iff makes ok err =
    node-done w v p old h (Damage harm) f new (harm-none (world_of w) harm found writes (iff.0 refl)) makes ok
harm-world w v p old new harm f (Err x) h found writes iff makes ok err =
    node-refused w v p old h (Damage harm) OutOfRange new (harm-some (world_of w) harm found writes (λ fits. let t = iff.1 fits in absurd cc)) err

-- the answer of a writer, and so that of the damage
pub harm-answers : {T E : Type 0} (w : ConfigurationView) (v p : ℕ) (old new : NodeView) (harm : Harm) (f : LocalState → LocalState) (r : Result T E)
    (answer : Result Happened EventFault) → IsNodeAt w.links.net w.nodes v p old
    → harm_place_fault (world_of w) harm ≡ None → harm_fault (world_of w) harm ≡ unless (harm_fits (world_of w) harm) OutOfRange → (IsOk r ↔ IsTrue (harm_fits (world_of w) harm))
    → harmed (world_of w) harm ≡ with_node (world_of w) v (f ((world_of w).node v)) → OnOk r (state_of new ≡ f (state_of old)) → OnErr r (new ≡ old)
    → (IsOk answer ↔ IsOk r) → IfOk answer (λ did. did ≡ Damaged) → IfErr answer (λ fault. fault ≡ OutOfRange)
    → Answers w (Damage harm) (record w { nodes = slice_set w.nodes p new }) answer
harm-answers w v p old new harm f r answer h found writes iff makes ok err same did fault = record {
  world = harm-world w v p old new harm f r h found writes iff makes ok err;
  ok = harm-ok (world_of w) harm found writes answer (same-cases same iff);
  did = did;
  err = harm-err (world_of w) harm found writes answer (same-cases same iff) fault;
}

-- the same for a writer that is given the port of a link, and checks by the ranges of its node
pub port-answers : {T E : Type 0} {w seen : ConfigurationView} {v u p : ℕ} {old : NodeView} (new : NodeView) (r : Result T E) (answer : Result Happened EventFault)
    (harm : Harm) (fits : Ranges → Bool) (f : LocalState → LocalState) → w ≡ seen → IsPortAt w v u p old
    → harm_place_fault (world_of w) harm ≡ link_fault (world_of w) v u → harm_fault (world_of w) harm ≡ unless (harm_fits (world_of w) harm) OutOfRange
    → harm_fits (world_of w) harm ≡ fits (site_of w.links.net v).ranges → harmed (world_of w) harm ≡ with_node (world_of w) v (f ((world_of w).node v))
    → (IsOk r ↔ IsTrue (fits (site_in old).ranges)) → OnOk r (state_of new ≡ f (state_of old)) → OnErr r (new ≡ old)
    → (IsOk answer ↔ IsOk r) → IfOk answer (λ did. did ≡ Damaged) → IfErr answer (λ fault. fault ≡ OutOfRange)
    → Answers seen (Damage harm) (record w { nodes = slice_set w.nodes p new }) answer
port-answers {w = w} {v = v} {p = p} {old = old} new r answer harm fits f is port place writes in_range makes iff ok err same did fault =
    let ranged : IsOk r ↔ IsTrue (harm_fits (world_of w) harm) =
    rw in_range (subst (λ s. IsOk r ↔ IsTrue (fits s.ranges)) (site-is _ _ _ _ _ port.here) iff) in
    rw (← is) (harm-answers w v p old new harm f r answer port.here (place ∙ port.found) writes ranged makes ok err same did fault)

-- an item that fits, and finds room, is one more on its link
item-there : (a b : Bool) → IsTrue (a && b) → IsTrue a × IsTrue b
item-there true true both = (refl, refl)
item-there true false both = absurd cc
item-there false b both = absurd cc

module _ (w : ConfigurationView) (u v : ℕ) (it : Item) (fits : IsTrue (harm_fits (world_of w) (harm.Item u v it))) where
  pub item-fits : IsTrue (item_fits (ranges_of w.links.net) it)
  item-fits = (item-there (item_fits (ranges_of w.links.net) it) (has_room (world_of w) u v) fits).0

  room : has_room (world_of w) u v ≡ true
  room = (item-there (item_fits (ranges_of w.links.net) it) (has_room (world_of w) u v) fits).1

  item-world : (links : LinksView) → link_fault (world_of w) u v ≡ None → IsBeside w.links links
      → under_way links ≡ (if nat_lt (length (under_way w.links u v)) w.links.net.capacity
      then at_pair (under_way w.links) u v (under_way w.links u v ++ it ∷ []) else under_way w.links)
      → world_of (record w { links = links }) ≡ step (world_of w) (Damage (harm.Item u v it))
  item-world links found net is =
      links-world w links net
      ∙ ap (λ l. record (world_of w) { link = l }) (is ∙ ap (λ test. if test then at_pair (under_way w.links) u v (under_way w.links u v ++ it ∷ []) else under_way w.links) room)
      ∙ sym (step-is (world_of w) (Damage (harm.Item u v it)) (harm-none (world_of w) (harm.Item u v it) found refl fits))

  pub item-answers : (links : LinksView) → link_fault (world_of w) u v ≡ None → IsBeside w.links links
      → under_way links ≡ (if nat_lt (length (under_way w.links u v)) w.links.net.capacity
      then at_pair (under_way w.links) u v (under_way w.links u v ++ it ∷ []) else under_way w.links)
      → Answers w (Damage (harm.Item u v it)) (record w { links = links }) (Ok Damaged)
  item-answers links found net is =
      accepted w (record w { links = links }) (Damage (harm.Item u v it)) Damaged (harm-none (world_of w) (harm.Item u v it) found refl fits) (item-world links found net is) refl

-- What is seen of a world, and what an event changes in it.
use Rattle.std.proofs.Common.{◌≡◌, ◌≢◌, ◌∙◌, ap, sym, subst, refl, ℕ, zero, suc, ◌+◌, ◌<◌, ◌≤◌, cond, Bool, true, false, is_some, List, [], ◌∷◌, length, Option, None, map, slice_set, slice_index_or, arith}
use Rattle.std.specs.List.{range_with_len, count_by}
use Rattle.std.proofs.lemmas.Grind.{common_steps}
use Rattle.std.proofs.lemmas.List.Sums.{count_by-le-length}
use Rattle.std.proofs.lemmas.List.FromFn.{get_or-map-range_with_len, length-range_with_len}
use Rattle.topology.specs.Network.{Network}
use Rattle.topology.specs.At.{at}
use Rattle.world.specs.judge.node_core.State.{LocalState}
use Rattle.world.specs.judge.node_core.Machines.{is_node_privileged}
use Rattle.world.specs.judge.node_core.Site.{site_of}
use Rattle.topology.specs.declared.frame.Payload.{Payload}
use Rattle.world.specs.run_model.link_model.declared.item.Item.{Item}
use Rattle.world.specs.run_model.World.{World}
use Rattle.world.specs.run_model.Privilege.{is_privileged, is_lending}
use Rattle.world.specs.run_model.NodeCounts.{privileged_count, lending_count}
use Rattle.world.specs.run_model.Step.{step}
use Rattle.world.specs.run_model.declared.event.Event.TheVariants.{Send, Take, Lose, Tick, Ask, Leave, Damage}
use Rattle.world.specs.run_model.declared.event.Harm.{Harm}
use Rattle.world.specs.run_model.declared.event.Harm.TheVariants as harm
use Rattle.run_recording.specs.declared.look.Look.{Look}
use Rattle.run_recording.specs.declared.look.Place.{Place}
use Rattle.run_recording.specs.declared.mark.Mark.{Mark}
use Rattle.run_recording.specs.declared.mark.Mark.TheVariants.{Settled}
use Rattle.run_recording.specs.declared.sight.NodesSight.{NodesSight}
use Rattle.run_recording.specs.Seen.{is_at, look_at, look_by, look_of, looks_of, place_at, place_of, edges_of, mark_at, mark_of_look, marks_of, nothing, nowhere, places_of, sight_of}
use Rattle.run_recording.specs.SightSteps.{DiffersAt, recounted, with_look}

-- ---- the marks are those of the looks

mark_is : (w : World) (v : ℕ) → mark_of_look (look_at w v) ≡ mark_at w v
mark_is w v = grind (arith, common_steps)

marks_are : (w : World) (ids : List ℕ) → map mark_of_look (map (look_at w) ids) ≡ map (mark_at w) ids
marks_are w [] = refl
marks_are w (v ∷ ids) = ap (λ m. m ∷ map mark_of_look (map (look_at w) ids)) (mark_is w v) ∙ ap (λ ms. mark_at w v ∷ ms) (marks_are w ids)

pub marks_of_looks : (w : World) → map mark_of_look (looks_of w) ≡ marks_of w
marks_of_looks w = marks_are w (range_with_len 0 64)

-- a look by its parts
pub look_is : (w : World) (place : Place) (v distance : ℕ) (parent : Option ℕ) (settled privileged : Bool) (lent : Option ℕ)
    → distance ≡ (w.node v).distance → parent ≡ (w.node v).parent → settled ≡ is_at (record { distance = distance; parent = parent }) place
    → privileged ≡ is_privileged w v → lent ≡ (w.node v).desk.lent
    → record { own = record { distance = distance; parent = parent }; settled = settled; privileged = privileged; lent = lent } ≡ look_by w place v
look_is w place v distance parent settled privileged lent d p s q l = rw (s, q, l, d, p) refl

-- the true place of a node, among those of all ids
pub place_there : (net : Network) (v : ℕ) (d : Place) → v < net.nodes → v < 64 → slice_index_or (places_of net) v d ≡ place_of net v
place_there net v d there few =
    let at : slice_index_or (places_of net) v d ≡ place_at net v = get_or-map-range_with_len (place_at net) 0 64 v v d few (omega arith) in
    let is : place_at net v ≡ place_of net v = grind (arith, common_steps) in
    at ∙ is

-- a node's look is what is seen at its id
pub look_there : (w : World) (v : ℕ) → v < w.net.nodes → look_of w v ≡ look_at w v
look_there w v there = grind (arith, common_steps)

-- ---- functions of ids that differ at one id

-- in a range that does not have the id they are the same
same_map : {X : Type 0} (f g : ℕ → X) (v : ℕ) → ((u : ℕ) → u ≢ v → g u ≡ f u) → (a n : ℕ) → v < a
    → map g (range_with_len a n) ≡ map f (range_with_len a n)
same_map f g v same a zero above = refl
same_map f g v same a (suc n) above =
    ap (λ x. x ∷ map g (range_with_len (a + 1) n)) (same a (omega (arith, above)))
    ∙ ap (λ xs. f a ∷ xs) (same_map f g v same (a + 1) n (omega (arith, above)))

-- in a range that has it, one list is the other with the item there replaced
changed_map : {X : Type 0} (f g : ℕ → X) (v : ℕ) → ((u : ℕ) → u ≢ v → g u ≡ f u) → (a k n : ℕ) → a + k ≡ v
    → map g (range_with_len a n) ≡ slice_set (map f (range_with_len a n)) k (g v)
changed_map f g v same a k zero at = grind (arith, common_steps)
changed_map f g v same a zero (suc n) at =
    let here : a ≡ v = omega (arith, at) in
    ap (λ u. g u ∷ map g (range_with_len (a + 1) n)) here
    ∙ ap (λ xs. g v ∷ xs) (same_map f g v same (a + 1) n (omega (arith, at)))
changed_map f g v same a (suc k) (suc n) at =
    ap (λ x. x ∷ map g (range_with_len (a + 1) n)) (same a (omega (arith, at)))
    ∙ ap (λ xs. f a ∷ xs) (changed_map f g v same (a + 1) k n (omega (arith, at)))

same_count : (f g : ℕ → Bool) (v : ℕ) → ((u : ℕ) → u ≢ v → g u ≡ f u) → (a n : ℕ) → v < a
    → count_by g (range_with_len a n) ≡ count_by f (range_with_len a n)
same_count f g v same a zero above = refl
same_count f g v same a (suc n) above =
    let here = same a (omega (arith, above)) in
    let later = same_count f g v same (a + 1) n (omega (arith, above)) in
    grind (arith, common_steps, here, later)

-- the counts are equal, except for this one
changed_count : (f g : ℕ → Bool) (v : ℕ) → ((u : ℕ) → u ≢ v → g u ≡ f u) → (a k n : ℕ) → a + k ≡ v → k < n
    → count_by g (range_with_len a n) + cond (f v) 1 0 ≡ count_by f (range_with_len a n) + cond (g v) 1 0
changed_count f g v same a k zero at within = grind (arith, within)
changed_count f g v same a zero (suc n) at within =
    let here : a ≡ v = omega (arith, at) in
    let later = same_count f g v same (a + 1) n (omega (arith, at)) in
    grind (arith, common_steps, here, later)
changed_count f g v same a (suc k) (suc n) at within =
    let here = same a (omega (arith, at)) in
    let later = changed_count f g v same (a + 1) k n (omega (arith, at)) (omega (arith, within)) in
    grind (arith, common_steps, here, later)

recount : (count next : ℕ) (was is : Bool) → count < 65 → next + cond was 1 0 ≡ count + cond is 1 0 → recounted count was is ≡ next
recount count next false false few e = omega (arith, e)
recount count next false true few e = grind (arith, common_steps)
recount count next true false few e = omega (arith, e)
recount count next true true few e = omega (arith, e)

pub recount_is : (f g : ℕ → Bool) (v n : ℕ) → ((u : ℕ) → u ≢ v → g u ≡ f u) → v < n → n ≤ 64
    → recounted (count_by f (range_with_len 0 n)) (f v) (g v) ≡ count_by g (range_with_len 0 n)
recount_is f g v n same within few =
    let most = count_by-le-length f (range_with_len 0 n) in
    let long = length-range_with_len 0 n in
    recount _ _ (f v) (g v) (omega (arith, most, long, few)) (changed_count f g v same 0 v n (omega arith) within)

-- ---- the look of a node changes

-- what is equal in each part is equal
pub sight_is : (a b : NodesSight) → a.places ≡ b.places → a.edges ≡ b.edges → a.looks ≡ b.looks → a.marks ≡ b.marks → a.privileged ≡ b.privileged → a.lending ≡ b.lending → a ≡ b
sight_is a b places edges looks marks privileged lending = grind (arith, common_steps)

-- a world with only the network and the nodes
abbrev seen_world : Network → (ℕ → LocalState) → World
seen_world net node = record { net = net; spares = 0; node = node; link = λ u v. [] }

-- the look at an id depends on the network and on the node there
look_same : (w new : World) (u : ℕ) → new.net ≡ w.net → new.node u ≡ w.node u → look_at new u ≡ look_at w u
look_same w new u net node =
    ap (λ n. look_at (seen_world n (λ x. new.node u)) u) net
    ∙ ap (λ s. look_at (seen_world w.net (λ x. s)) u) node

same_look : (w new : World) (v u : ℕ) → DiffersAt v w new → u ≢ v → look_at new u ≡ look_at w u
same_look w new v u differs other = look_same w new u differs.net (differs.nodes u other)

same_privilege : (w new : World) (v : ℕ) → DiffersAt v w new → (u : ℕ) → u ≢ v → is_privileged new u ≡ is_privileged w u
same_privilege w new v differs u other =
    ap (λ net. is_node_privileged (site_of net u) (new.node u)) differs.net
    ∙ ap (λ s. is_node_privileged (site_of w.net u) s) (differs.nodes u other)

same_lending : (w new : World) (v : ℕ) → DiffersAt v w new → (u : ℕ) → u ≢ v → is_lending new u ≡ is_lending w u
same_lending w new v differs u other = ap (λ s. is_some s.desk.lent) (differs.nodes u other)

-- the look of a node, among those of all ids
looked_is : (w : World) (v : ℕ) (d : Look) → v < w.net.nodes → v < 64 → slice_index_or (looks_of w) v d ≡ look_of w v
looked_is w v d there few =
    get_or-map-range_with_len (look_at w) 0 64 v v d few (omega arith) ∙ sym (look_there w v there)

pub look_again_is : (w new : World) (v : ℕ) → DiffersAt v w new → v < new.net.nodes → new.net.nodes ≤ 64
    → with_look (sight_of w) v (look_of new v) ≡ sight_of new
look_again_is w new v differs within few =
    let before : v < w.net.nodes = rw (ap (λ net. net.nodes) differs.net) at within in
    let places : places_of w.net ≡ places_of new.net = ap places_of (sym differs.net) in
    let edges : edges_of w.net ≡ edges_of new.net = ap edges_of (sym differs.net) in
    let same : (u : ℕ) → u ≢ v → look_at new u ≡ look_at w u = λ u other. same_look w new v u differs other in
    let marks : (u : ℕ) → u ≢ v → mark_at new u ≡ mark_at w u = λ u other. sym (mark_is new u) ∙ ap mark_of_look (same u other) ∙ mark_is w u in
    let there : look_at new v ≡ look_of new v = sym (look_there new v within) in
    let looked = looked_is w v nothing before (omega (arith, within, few)) in
    let nodes = ap (λ net. net.nodes) differs.net in
    sight_is (with_look (sight_of w) v (look_of new v)) (sight_of new)
    places edges
    (sym (changed_map (look_at w) (look_at new) v same 0 v 64 (omega arith) ∙ ap (λ look. slice_set (looks_of w) v look) there))
    (sym (changed_map (mark_at w) (mark_at new) v marks 0 v 64 (omega arith) ∙ ap (λ mark. slice_set (marks_of w) v mark) (sym (mark_is new v) ∙ ap mark_of_look there)))
    (ap (λ look. recounted (privileged_count w) look.privileged (is_privileged new v)) looked
    ∙ recount_is (is_privileged w) (is_privileged new) v w.net.nodes (same_privilege w new v differs) before (rw nodes at few)
    ∙ ap (λ n. count_by (is_privileged new) (range_with_len 0 n)) (sym nodes))
    (ap (λ look. recounted (lending_count w) (is_some look.lent) (is_lending new v)) looked
    ∙ recount_is (is_lending w) (is_lending new) v w.net.nodes (same_lending w new v differs) before (rw nodes at few)
    ∙ ap (λ n. count_by (is_lending new) (range_with_len 0 n)) (sym nodes))

-- what a look-up past the end of a list of looks gives
abbrev pub no_look : Look
no_look = record { own = nowhere; settled = false; privileged = false; lent = None }

-- a node that looks as before changes nothing
pub same_look_is : (w new : World) (v : ℕ) → DiffersAt v w new → v < new.net.nodes → new.net.nodes ≤ 64
    → look_of new v ≡ slice_index_or (looks_of w) v no_look → sight_of w ≡ sight_of new
same_look_is w new v differs within few same =
    let nodes = ap (λ net. net.nodes) differs.net in
    let before : v < w.net.nodes = rw nodes at within in
    let at_most : w.net.nodes ≤ 64 = rw nodes at few in
    let unchanged : DiffersAt v w w = record { net = refl; nodes = λ u other. refl; nowhere = λ beyond. refl } in
    let looks : look_of new v ≡ look_of w v = same ∙ looked_is w v no_look before (omega (arith, within, few)) in
    sym (look_again_is w w v unchanged before at_most)
    ∙ ap (with_look (sight_of w) v) (sym looks)
    ∙ look_again_is w new v differs within few

-- ---- an event changes the look of one node at most

same_sight : (w new : World) → new.net ≡ w.net → new.node ≡ w.node → sight_of w ≡ sight_of new
same_sight w new net node =
    sym (ap (λ n. sight_of (seen_world n new.node)) net ∙ ap (λ f. sight_of (seen_world w.net f)) node)

pub send_same : (w : World) (u v : ℕ) → sight_of w ≡ sight_of (step w (Send u v))
send_same w u v = same_sight w (step w (Send u v)) (grind (arith, common_steps)) (grind (arith, common_steps))

pub lose_same : (w : World) (u v i : ℕ) → sight_of w ≡ sight_of (step w (Lose u v i))
lose_same w u v i = same_sight w (step w (Lose u v i)) (grind (arith, common_steps)) (grind (arith, common_steps))

pub take_differs : (w : World) (u v : ℕ) → DiffersAt v w (step w (Take u v))
take_differs w u v = record {
  net = grind (arith, common_steps);
  nodes = λ x other. grind (arith, common_steps);
  nowhere = λ beyond. grind (arith, common_steps);
}

pub tick_differs : (w : World) (v : ℕ) → DiffersAt v w (step w (Tick v))
tick_differs w v = record {
  net = grind (arith, common_steps);
  nodes = λ x other. grind (arith, common_steps);
  nowhere = λ beyond. grind (arith, common_steps);
}

pub ask_differs : (w : World) (v t : ℕ) → DiffersAt v w (step w (Ask v t))
ask_differs w v t = record {
  net = grind (arith, common_steps);
  nodes = λ x other. grind (arith, common_steps);
  nowhere = λ beyond. grind (arith, common_steps);
}

pub leave_differs : (w : World) (v t : ℕ) → DiffersAt v w (step w (Leave v t))
leave_differs w v t = record {
  net = grind (arith, common_steps);
  nodes = λ x other. grind (arith, common_steps);
  nowhere = λ beyond. grind (arith, common_steps);
}

-- ---- so does damage, unless an edge joins or parts

pub harm_differs : (w new : World) (v : ℕ) (h is : Harm) → new ≡ step w (Damage h) → h ≡ is → DiffersAt v w (step w (Damage is)) → DiffersAt v w new
harm_differs w new v h is stepped same differs = subst (DiffersAt v w) (sym (stepped ∙ ap (λ k. step w (Damage k)) same)) differs

pub own_differs : (w : World) (v : ℕ) (d : ℕ) (p : Option ℕ) → DiffersAt v w (step w (Damage (harm.Own v d p)))
own_differs w v d p = record {
  net = grind (arith, common_steps);
  nodes = λ x other. grind (arith, common_steps);
  nowhere = λ beyond. grind (arith, common_steps);
}

pub counters_differs : (w : World) (v : ℕ) (u seq last : ℕ) → DiffersAt v w (step w (Damage (harm.Counters v u seq last)))
counters_differs w v u seq last = record {
  net = grind (arith, common_steps);
  nodes = λ x other. grind (arith, common_steps);
  nowhere = λ beyond. grind (arith, common_steps);
}

pub staged_differs : (w : World) (v : ℕ) (u : ℕ) (payload : Payload) → DiffersAt v w (step w (Damage (harm.Staged v u payload)))
staged_differs w v u payload = record {
  net = grind (arith, common_steps);
  nodes = λ x other. grind (arith, common_steps);
  nowhere = λ beyond. grind (arith, common_steps);
}

pub copy_differs : (w : World) (v : ℕ) (u : ℕ) (payload : Payload) → DiffersAt v w (step w (Damage (harm.Copy v u payload)))
copy_differs w v u payload = record {
  net = grind (arith, common_steps);
  nodes = λ x other. grind (arith, common_steps);
  nowhere = λ beyond. grind (arith, common_steps);
}

pub value_differs : (w : World) (v : ℕ) (u x : ℕ) → DiffersAt v w (step w (Damage (harm.Value v u x)))
value_differs w v u x = record {
  net = grind (arith, common_steps);
  nodes = λ x other. grind (arith, common_steps);
  nowhere = λ beyond. grind (arith, common_steps);
}

pub desk_differs : (w : World) (v : ℕ) (lent : Option ℕ) (left : ℕ) (served : Bool) → DiffersAt v w (step w (Damage (harm.Desk v lent left served)))
desk_differs w v lent left served = record {
  net = grind (arith, common_steps);
  nodes = λ x other. grind (arith, common_steps);
  nowhere = λ beyond. grind (arith, common_steps);
}

pub item_same : (w : World) (u v : ℕ) (item : Item) → sight_of w ≡ sight_of (step w (Damage (harm.Item u v item)))
item_same w u v item = same_sight w (step w (Damage (harm.Item u v item))) (grind (arith, common_steps)) (grind (arith, common_steps))

pub empty_same : (w : World) (u v : ℕ) → sight_of w ≡ sight_of (step w (Damage (harm.Empty u v)))
empty_same w u v = same_sight w (step w (Damage (harm.Empty u v))) (grind (arith, common_steps)) (grind (arith, common_steps))

-- a mark that is written is the one that is read there
pub changed_at : (marks : List Mark) (v : ℕ) (m : Mark) → v < length marks → slice_set marks v m ≡ slice_set marks v (slice_index_or (slice_set marks v m) v Settled)
changed_at [] v m there = grind (arith, common_steps)
changed_at (a ∷ marks) zero m there = refl
changed_at (a ∷ marks) (suc v) m there = ap (λ ms. a ∷ ms) (changed_at marks v m (omega (arith, there)))

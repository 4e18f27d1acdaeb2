-- A judge's step, case by case.
use Rattle.std.proofs.Common.{◌≡◌, ◌∙◌, sym, ap, subst, ℕ, ◌+◌, ◌-◌, ◌^◌, ◌<◌, ◌≤◌, min, Bool, true, false, ◌&&◌, not, nat_lt, if◌then◌else◌, is_none, length, Option, IsTrue, Some, None, List, [], ◌∷◌, ◌++◌, arith, refl}
use Rattle.std.proofs.lemmas.Grind.{common_steps}
use Rattle.topology.specs.Network.{Network, are_joined}
use Rattle.configuration.specs.PairTable.{PairTableView}
use Rattle.configuration.specs.run_model.World.{World}
use Rattle.configuration.specs.run_model.Step.{first_fault, link_fault, node_fault, refusal, step, unless}
use Rattle.configuration.specs.run_model.Run.{is_damage, IsUndamaged}
use Rattle.configuration.specs.run_model.Happened.{happened, taken_of}
use Rattle.configuration.specs.run_model.Count.{IsSweepCount}
use Rattle.configuration.specs.run_model.declared.event.Event.{Event}
use Rattle.configuration.specs.run_model.declared.event.Event.TheVariants.{Send, Take, Lose, Tick, Ask, Leave, Damage}
use Rattle.configuration.specs.run_model.declared.happened.Happened.{Happened}
use Rattle.configuration.specs.run_model.declared.happened.Happened.TheVariants.{FullTick, LendingTick, Damaged}
use Rattle.configuration.specs.run_model.declared.event.EventFault.{EventFault}
use Rattle.configuration.specs.run_model.declared.event.EventFault.TheVariants.{NoItem}
use Rattle.configuration.specs.link_model.declared.item.Item.{Item}
use Rattle.judge.specs.Tallies.{has_place, no_tally, tally_of, tally_happened}
use Rattle.configuration.specs.ConfigurationView.{world_of}
use Rattle.judge.specs.JudgeView.{JudgeView, HasSeenSame}
use Rattle.judge.specs.Stretch.{StretchView, with_looks, IsRoomFor, has_bit, is_full_tick_of, names_below, names_place, IsComplete, IsKept}
use Rattle.judge.specs.Judging.{IsJudging}
use Rattle.judge.specs.Below.{Below}
use Rattle.judge.proofs.Kept.{IsNoted, noted, still-renewed}
use Rattle.judge.proofs.Judging.{judging-refused, judging-goes_on, judging-sweeps, judging-damage, judging-counts, sweep-counted}

-- no count of looks changes what was judged
pub judging-looked : (start : World) (es : List Event) (now : World) (s : StretchView) (looked sweeps refused : ℕ) → IsJudging start es now s sweeps refused
    → IsJudging start es now (with_looks s looked) sweeps refused
judging-looked start es now s looked sweeps refused j = record {
  in_range = j.in_range;
  now_is = j.now_is;
  count = j.count;
  done = j.done;
  stretch = j.stretch;
  since = j.since;
  counted = j.counted;
  kept = record { nodes = j.kept.nodes; lacking = j.kept.lacking; old = j.kept.old; renewed = j.kept.renewed; apart = j.kept.apart };
  sweeps_are = j.sweeps_are;
  refused_are = j.refused_are;
}

pub seen-looked : (old : JudgeView) (now : StretchView) (looked : ℕ) → now ≡ with_looks old.stretch looked → HasSeenSame old (record old { stretch = now })
seen-looked old now looked is_now start es seen =
    rw is_now (record { judging = judging-looked start es (world_of old.configuration) old.stretch looked old.sweeps old.refused seen.judging; visited = seen.visited })

pub few-looks : (s before new : StretchView) → before ≡ with_looks s 0 → new.tallies.looked ≤ before.tallies.looked + 2 → new.tallies.looked ≤ 2
few-looks s before new is_before few = let none = ap (λ k. k.tallies.looked) is_before in omega (arith, few, none)

-- ---- the room

pub room-cleared : (net : Network) (s before : StretchView) → before ≡ with_looks s 0 → IsRoomFor net s → IsRoomFor net before
room-cleared net s before is_before room = rw is_before (record { nodes = room.nodes; placed = room.placed; apart = room.apart })

pub room-noted : (net : Network) (did : Happened) (s new : StretchView) → IsRoomFor net s → new.tallies.table ≡ s.tallies.table
    → ((u v : ℕ) → v < s.tallies.table.nodes → tally_of new.tallies u v ≡ tally_happened u v did (tally_of s.tallies u v)) → IsRoomFor net new
room-noted net did s new room table tallies = record {
  nodes = ap (λ t. t.nodes) table ∙ room.nodes;
  placed = λ u v joined. rw table (room.placed u v joined);
  apart = λ u v un vn none.
      ap (λ t. t.renewed) (tallies u v (subst (λ n. v < n) (sym room.nodes) vn)) ∙ still-renewed did u v (tally_of s.tallies u v) (room.apart u v un vn none);
}

-- what an accepted event does names only nodes
tick-names : (b : Bool) (n v : ℕ) → IsTrue (nat_lt v n) → IsTrue (names_below n (if b then FullTick v else LendingTick v))
tick-names true n v there = there
tick-names false n v there = there

take-names : (n u v : ℕ) (items : List Item) → IsTrue (nat_lt u n && nat_lt v n) → IsTrue (names_below n (taken_of u v items))
take-names n u v [] there = refl
take-names n u v (item ∷ items) there = there

both-there : (w : World) (u v : ℕ) → link_fault w u v ≡ None → IsTrue (nat_lt u w.net.nodes && nat_lt v w.net.nodes)
both-there w u v none = grind (arith, common_steps)

node-there : (w : World) (v : ℕ) → node_fault w v ≡ None → IsTrue (nat_lt v w.net.nodes)
node-there w v none = grind (arith, common_steps)

first-none : (a b : Option EventFault) → first_fault a b ≡ None → a ≡ None
first-none None b none = refl
first-none (Some fault) b none = absurd cc

pub names : (w : World) (e : Event) → refusal w e ≡ None → IsTrue (names_below w.net.nodes (happened w e))
names w (Tick v) fits = tick-names (is_none ((step w (Tick v)).node v).desk.lent) w.net.nodes v (node-there w v fits)
names w (Take u v) fits = take-names w.net.nodes u v (w.link u v) (both-there w u v fits)
names w (Lose u v i) fits = both-there w u v (first-none (link_fault w u v) (unless (nat_lt i (length (w.link u v))) NoItem) fits)
names w (Send u v) fits = refl
names w (Ask v t) fits = refl
names w (Leave v t) fits = refl
names w (Damage h) fits = refl

-- after it there are as many nodes as before
pub names-after : Below → (now next : World) (e : Event) (did : Happened) → next ≡ step now e → did ≡ happened now e → refusal now e ≡ None
    → IsTrue (names_below next.net.nodes did)
names-after laws now next e did is_next is fits =
    let same : next.net.nodes ≡ now.net.nodes = ap (λ w. w.net.nodes) is_next ∙ (laws.frame now (e ∷ [])).nodes in
    subst (λ n. IsTrue (names_below n did)) (sym same) (subst (λ d. IsTrue (names_below now.net.nodes d)) (sym is) (names now e fits))

-- an event takes or loses an item only from a link that has a place
tick-placed : (b : Bool) (table : PairTableView) (v : ℕ) → IsTrue (names_place table (if b then FullTick v else LendingTick v))
tick-placed true table v = refl
tick-placed false table v = refl

take-placed : (table : PairTableView) (u v : ℕ) (items : List Item) → IsTrue (has_place table u v) → IsTrue (names_place table (taken_of u v items))
take-placed table u v [] there = refl
take-placed table u v (item ∷ items) there = there

both-joined : (w : World) (u v : ℕ) → link_fault w u v ≡ None → IsTrue (are_joined w.net.edges u v)
both-joined w u v none = grind (arith, common_steps)

pub placed : (w : World) (e : Event) (table : PairTableView) → ((u v : ℕ) → IsTrue (are_joined w.net.edges u v) → IsTrue (has_place table u v)) → refusal w e ≡ None
    → IsTrue (names_place table (happened w e))
placed w (Tick v) table all fits = tick-placed (is_none ((step w (Tick v)).node v).desk.lent) table v
placed w (Take u v) table all fits = take-placed table u v (w.link u v) (all u v (both-joined w u v fits))
placed w (Lose u v i) table all fits = all u v (both-joined w u v (first-none (link_fault w u v) (unless (nat_lt i (length (w.link u v))) NoItem) fits))
placed w (Send u v) table all fits = refl
placed w (Ask v t) table all fits = refl
placed w (Leave v t) table all fits = refl
placed w (Damage h) table all fits = refl

-- an event that is no damage is a list without damage
pub undamaged-one : (w : World) (e : Event) → is_damage w e ≡ false → IsUndamaged w (e ∷ [])
undamaged-one w e none = rw none refl

-- room for a network is still room for it after an event without damage whose take or loss was
-- noted
pub room-after : Below → (now next : World) (e : Event) (did : Happened) (s before new : StretchView) → next ≡ step now e → is_damage now e ≡ false
    → before ≡ with_looks s 0 → IsRoomFor now.net s → new.tallies.table ≡ before.tallies.table
    → ((u v : ℕ) → v < before.tallies.table.nodes → tally_of new.tallies u v ≡ tally_happened u v did (tally_of before.tallies u v)) → IsRoomFor next.net new
room-after laws now next e did s before new is_next calm is_before room table tallies =
    let same : now.net ≡ next.net = sym (ap (λ w. w.net) is_next ∙ laws.network now (e ∷ []) (undamaged-one now e calm)) in
    subst (λ net. IsRoomFor net new) same (room-noted now.net did before new (room-cleared now.net s before is_before room) table tallies)

-- unused room is room for every network of as many nodes whose links have places
pub room-empty : (net : Network) (s : StretchView) → s.tallies.table.nodes ≡ net.nodes
    → ((u v : ℕ) → IsTrue (are_joined net.edges u v) → IsTrue (has_place s.tallies.table u v)) → ((u v : ℕ) → tally_of s.tallies u v ≡ no_tally) → IsRoomFor net s
room-empty net s nodes placed empty = record { nodes = nodes; placed = placed; apart = λ u v un vn none. ap (λ t. t.renewed) (empty u v) }

pub accepted-damage : (w : World) (e : Event) → happened w e ≡ Damaged → refusal w e ≡ None → is_damage w e ≡ true
accepted-damage w e did fits = grind (arith, common_steps)

pub no-damage : (w : World) (e : Event) → ¬ (happened w e ≡ Damaged) → is_damage w e ≡ false
no-damage w e other = grind (arith, common_steps, other)

module _ (laws : Below) (start : World) (es : List Event) (e : Event) (now next : World) (s before : StretchView) (sweeps refused : ℕ) (is_next : next ≡ step now e)
    (is_before : before ≡ with_looks s 0) (j : IsJudging start es now s sweeps refused) where
  seen : IsJudging start es now before sweeps refused
  seen = rw is_before (judging-looked start es now s 0 sweeps refused j)

  pub refused-step : (fault : EventFault) (refused' : ℕ) → refusal now e ≡ Some fault → refused' ≡ min (refused + 1) (2 ^ 64 - 1)
      → IsJudging start (es ++ e ∷ []) next before sweeps refused'
  refused-step fault refused' refusing counts =
      rw (is_next, counts) (judging-refused laws start es e now before sweeps refused seen (rw refusing refl))

  pub damage-step : (fresh : StretchView) → refusal now e ≡ None → is_damage now e ≡ true → IsKept next [] fresh
      → IsJudging start (es ++ e ∷ []) next fresh 0 refused
  damage-step fresh fits damage kept =
      rw is_next (judging-damage laws start es e now before sweeps refused seen fresh (rw fits refl) damage (subst (λ w. IsKept w [] fresh) is_next kept))

  module _ (fits : refusal now e ≡ None) (other : is_damage now e ≡ false) (new : StretchView) (did : Happened) (is : did ≡ happened now e)
      (nodes : new.tallies.table.nodes ≡ before.tallies.table.nodes)
      (lacking : (v : ℕ) → has_bit new.lacking v ≡ (has_bit before.lacking v && not (is_full_tick_of v did)))
      (tallies : (u v : ℕ) → v < before.tallies.table.nodes → tally_of new.tallies u v ≡ tally_happened u v did (tally_of before.tallies u v)) where
    is-noted : IsNoted now e before new
    is-noted = noted now e did before new is nodes lacking tallies

    pub other-step : ¬ IsComplete new → IsJudging start (es ++ e ∷ []) next new sweeps refused
    other-step incomplete = rw is_next (judging-goes_on laws start es e now before sweeps refused seen new (rw fits refl) other is-noted incomplete)

    pub sweep-step : (fresh : StretchView) (sweeps' : ℕ) → IsComplete new → IsKept next [] fresh → sweeps' ≡ min (sweeps + 1) (2 ^ 64 - 1)
        → IsJudging start (es ++ e ∷ []) next fresh sweeps' refused
    sweep-step fresh sweeps' complete kept counts =
        rw (is_next, counts)
        (judging-sweeps laws start es e now before sweeps refused seen new fresh (rw fits refl) other is-noted complete (subst (λ w. IsKept w [] fresh) is_next kept))

    pub sweep-ends : IsComplete new → (count : ℕ) × IsSweepCount start es count × IsSweepCount start (es ++ e ∷ []) (count + 1)
    sweep-ends complete = (seen.count, judging-counts laws start es now before sweeps refused seen, sweep-counted laws start es e now before sweeps refused seen new other is-noted complete)

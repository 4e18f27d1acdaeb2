use Rattle.std.proofs.Common.{◌≡◌, ◌+◌, ◌<◌, ◌++◌, ℕ, true, List, length, take, ap, refl, arith, append-nil, length-append}
use Rattle.std.specs.Prelude.{nat_le, replicate}
use Rattle.std.proofs.lemmas.Grind.{common_steps}
use Rattle.std.proofs.lemmas.List.{take_all, length-replicate}
use borrow.Author.Tests.{leb-true}
use Rattle.node_recorder.proofs.Steps.{pushed-next, pushed-same}
use Rattle.node_recorder.proofs.backlog.Backlog.add.Given as given
use Rattle.node_recorder.proofs.backlog.Backlog.add.Goals as goal

module _ (count used i : ℕ) (room : nat_le (used + count) 1536 ≡ true) where
  -- there is room for one more of a list, and for one and the same once more
  room-next : {V : Type 0} (first xs vs : List V) → length first ≡ used → length vs ≡ count → i < length vs
      → xs ≡ first ++ take i vs → length xs < 1536
  room-next first xs vs old all less same = rw same (grind (arith, common_steps))

  room-same : {V : Type 0} (first xs : List V) (v : V) → length first ≡ used → i < count
      → xs ≡ first ++ replicate i v → length xs < 1536
  room-same first xs v old less same = rw same (grind (arith, common_steps))

pub loop-deed-init : goal.loop-deed-init
loop-deed-init g c = record {
  deeds = rw append-nil (ap (λ b. b.deeds) c.self.view_is);
  instants = rw append-nil (ap (λ b. b.instants) c.self.view_is);
  deeds_room = c.self.invariant.2;
  instants_room = c.self.invariant.3;
}

pub push_reserved-requires : goal.push_reserved-requires
push_reserved-requires g c =
    let less = room-next _ _ c.loop-deed.deed-index c.requires c.args.self.now.deeds _ c.args.deeds.now refl refl
    c.loop-deed-test.true c.loop-deed.invariant.deeds in
    omega (arith, less, c.loop-deed.self-inside.deeds.ok.0, c.loop-deed.invariant.deeds_room)

pub push_reserved-requires-in-loop-deed : goal.push_reserved-requires-in-loop-deed
push_reserved-requires-in-loop-deed g c =
    let alike : length c.args.self.now.instants ≡ length c.args.self.now.deeds =
    omega (
      arith,
      ap (λ b. length b.instants) c.self.view_is,
      ap (λ b. length b.deeds) c.self.view_is,
      c.self.invariant.0,
      c.self.inside.instants.ok.0,
      c.self.inside.deeds.ok.0,
    ) in
    let less = room-same _ _ c.loop-deed.deed-index c.requires c.args.self.now.instants _ c.args.now alike
    c.loop-deed-test.true c.loop-deed.invariant.instants in
    omega (arith, less, c.loop-deed.self-inside.instants.ok.0, c.loop-deed.invariant.instants_room)

pub loop-deed-preserved : goal.loop-deed-preserved
loop-deed-preserved g c = record {
  deeds = pushed-next c.args.self.now.deeds c.loop-deed.self-inside.deeds.items c.push_reserved.new.self.items c.args.deeds.now
      c.loop-deed.deed-index _ c.loop-deed-test.true c.loop-deed.invariant.deeds c.push_reserved.ensures.items;
  instants = pushed-same c.args.self.now.instants c.loop-deed.self-inside.instants.items c.push_reserved-in-loop-deed.new.self.items
      c.loop-deed.deed-index c.args.now c.loop-deed.invariant.instants c.push_reserved-in-loop-deed.ensures.items;
  deeds_room = omega (arith, c.push_reserved.ensures.capacity, c.loop-deed.invariant.deeds_room);
  instants_room = omega (arith, c.push_reserved-in-loop-deed.ensures.capacity, c.loop-deed.invariant.instants_room);
}

-- all of them wait, after those that waited
all-deeds : (g : given.Over) (c : goal.After-loop-deed g) → c.loop-deed.self-inside.deeds.items ≡ c.args.self.now.deeds ++ c.args.deeds.now
all-deeds g c = rw (take_all _ _ c.loop-deed-test.false) at c.loop-deed.invariant.deeds

all-instants : (g : given.Over) (c : goal.After-loop-deed g)
    → c.loop-deed.self-inside.instants.items ≡ c.args.self.now.instants ++ replicate (length c.args.deeds.now) c.args.now
all-instants g c =
    let all : c.loop-deed.deed-index ≡ length c.args.deeds.now = omega (arith, c.loop-deed-test.false, c.loop-deed.auto.deed-index-end) in
    rw all at c.loop-deed.invariant.instants

pub invariant_of-self : goal.invariant_of-self
invariant_of-self g c =
    let deeds = simp length-append at (ap length (all-deeds g c)) in
    let instants = simp (length-append, length-replicate) at (ap length (all-instants g c)) in
    let new = c.loop-deed.self-inside in
    let alike : length c.args.self.now.instants ≡ length c.args.self.now.deeds =
    omega (
      arith,
      ap (λ b. length b.instants) c.self.view_is,
      ap (λ b. length b.deeds) c.self.view_is,
      c.self.invariant.0,
      c.self.inside.instants.ok.0,
      c.self.inside.deeds.ok.0,
    ) in (
      omega (arith, deeds, instants, alike, new.deeds.ok.0, new.instants.ok.0),
      omega (arith, deeds, new.deeds.ok.0, leb-true _ _ c.requires),
      c.loop-deed.invariant.deeds_room,
      c.loop-deed.invariant.instants_room,
    )

pub returns : goal.returns
returns g c = rw (all-deeds g c, all-instants g c) refl

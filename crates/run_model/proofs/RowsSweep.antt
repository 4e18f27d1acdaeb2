-- Stretches of two nodes that are sweeps, and stretches that only look like sweeps.
use Rattle.std.proofs.Common.{◌≡◌, ◌<◌, List, [], ◌∷◌, true, false, refl, arith}
use Rattle.link_model.specs.declared.item.Item.TheVariants.{Noise}
use Rattle.run_model.specs.World.{World, with_link}
use Rattle.run_model.specs.Start.{default_world}
use Rattle.run_model.specs.Step.{step}
use Rattle.run_model.specs.Run.{has_damage}
use Rattle.run_model.specs.Sweep.{has_full_tick, is_renewed, IsSweep}
use Rattle.run_model.specs.Strict.{handed_in, IsStrictSweep}
use Rattle.run_model.specs.declared.event.Event.{Event}
use Rattle.run_model.specs.declared.event.Event.TheVariants.{Send, Take, Lose, Tick, Ask, Leave, Damage}
use Rattle.run_model.specs.declared.event.Harm.TheVariants as harm
use Rattle.run_model.proofs.RowsTwo.{two_nodes, each-node, each-link, calm}

-- nothing is under way yet
abbrev pub start : World
start = default_world two_nodes

-- ---- sweeps

-- both tick, and a frame goes each way
abbrev pub least : List Event
least = Tick 0 ∷ Tick 1 ∷ Send 0 1 ∷ Take 0 1 ∷ Send 1 0 ∷ Take 1 0 ∷ []

pub least-is_sweep : IsSweep start least
least-is_sweep = record {
  undamaged = refl;
  ticked = each-node (λ v. has_full_tick start least v ≡ true) refl refl;
  renewed = each-link (λ u v. is_renewed start least u v ≡ true) refl refl;
}

-- the order does not matter, nor does a loss, nor a refused event, nor a send that finds the link
-- full
abbrev mixed : List Event
mixed =
    Send 1 0 ∷ Send 1 0 ∷ Leave 0 9 ∷ Take 1 0 ∷ Tick 1 ∷ Send 0 1 ∷ Lose 0 1 0 ∷ Take 0 1 ∷ Send 0 1 ∷ Tick 0 ∷ Take 0 1 ∷ []

mixed-is_sweep : IsSweep start mixed
mixed-is_sweep = record {
  undamaged = refl;
  ticked = each-node (λ v. has_full_tick start mixed v ≡ true) refl refl;
  renewed = each-link (λ u v. is_renewed start mixed u v ≡ true) refl refl;
}

-- on links of capacity 1 a strict sweep hands over two items each way
abbrev twice : List Event
twice = Tick 0 ∷ Tick 1 ∷ Send 0 1 ∷ Take 0 1 ∷ Send 0 1 ∷ Take 0 1 ∷ Send 1 0 ∷ Take 1 0 ∷ Send 1 0 ∷ Take 1 0 ∷ []

twice-is_strict_sweep : IsStrictSweep start twice
twice-is_strict_sweep = record {
  undamaged = refl;
  ticked = each-node (λ v. has_full_tick start twice v ≡ true) refl refl;
  handed = each-link (λ u v. 1 < handed_in start twice u v) (omega arith) (omega arith);
}

least-is_not_strict : ¬ IsStrictSweep start least
least-is_not_strict s = absurd (let h = s.handed 0 1 refl in omega arith)

-- ---- stretches that only look like a sweep

-- noise is under way from 0 to 1, and that is what 1 takes
abbrev noisy : World
noisy = with_link start 0 1 (Noise ∷ [])

noise-is_taken : is_renewed noisy (Tick 0 ∷ Tick 1 ∷ Take 0 1 ∷ Send 1 0 ∷ Take 1 0 ∷ []) 0 1 ≡ false
noise-is_taken = refl

-- a frame is under way from 0 to 1; the new one finds the link full and is lost, and the old one is
-- taken
abbrev busy : World
busy = step start (Send 0 1)

old-item_is_taken : is_renewed busy (Tick 0 ∷ Tick 1 ∷ Send 0 1 ∷ Take 0 1 ∷ Send 1 0 ∷ Take 1 0 ∷ []) 0 1 ≡ false
old-item_is_taken = refl

-- the take comes before the send, and finds nothing
empty-link : is_renewed start (Tick 0 ∷ Tick 1 ∷ Take 0 1 ∷ Send 0 1 ∷ Send 1 0 ∷ Take 1 0 ∷ []) 0 1 ≡ false
empty-link = refl

-- the item that was sent inside is lost
fresh-item_is_lost : is_renewed start (Tick 0 ∷ Tick 1 ∷ Send 0 1 ∷ Lose 0 1 0 ∷ Take 0 1 ∷ Send 1 0 ∷ Take 1 0 ∷ []) 0 1 ≡ false
fresh-item_is_lost = refl

-- the other direction does not count
other-direction : is_renewed start (Tick 0 ∷ Tick 1 ∷ Send 1 0 ∷ Take 1 0 ∷ []) 0 1 ≡ false
other-direction = refl

-- node 0 is privileged and somebody asks, so its tick begins a loan and is not full
tick-that_lends : has_full_tick calm (Ask 0 5 ∷ Tick 0 ∷ Tick 1 ∷ []) 0 ≡ false
tick-that_lends = refl

-- once the loan has ended, the tick is full
tick-after_the_loan : has_full_tick calm (Ask 0 5 ∷ Tick 0 ∷ Leave 0 5 ∷ Tick 0 ∷ []) 0 ≡ true
tick-after_the_loan = refl

-- a stretch with an accepted harm is no sweep; a refused harm does not matter
harm-that_is_accepted : has_damage start (Damage (harm.Value 0 1 6) ∷ []) ≡ true
harm-that_is_accepted = refl

harm-that_is_refused : has_damage start (Damage (harm.Value 0 1 7) ∷ []) ≡ false
harm-that_is_refused = refl

damaged-is_no_sweep : ¬ IsSweep start (Damage (harm.Value 0 1 6) ∷ least)
damaged-is_no_sweep s = absurd (let h = s.undamaged in cc)

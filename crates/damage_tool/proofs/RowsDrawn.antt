-- What is drawn, in which order, and which lists of harms are accepted.
use Rattle.std.proofs.Common.{◌≡◌, ℕ, List, [], ◌∷◌, Some, None, false, refl, sym, arith}
use Rattle.std.proofs.lemmas.Bool.{false≢true}
use Rattle.rand_pcg.specs.Lcg.{Lcg}
use Rattle.topology.specs.declared.frame.Payload.{Payload}
use Rattle.run_model.specs.lock_desk.Desk.{waits}
use Rattle.run_model.specs.World.{World}
use Rattle.run_model.specs.Step.{with_desk}
use Rattle.run_model.specs.Start.{default_world}
use Rattle.run_model.specs.declared.event.Event.{Event}
use Rattle.run_model.specs.declared.event.Event.TheVariants.{Tick, Damage}
use Rattle.run_model.specs.declared.event.Harm.TheVariants as harm
use Rattle.run_model.proofs.RowsTwo.{two_nodes, each-node}
use Rattle.damage_tool.specs.declared.draws.PortDraw.{PortDraw}
use Rattle.damage_tool.specs.Appended.{appended}
use Rattle.damage_tool.specs.Draws.{number_or_none}
use Rattle.damage_tool.specs.Harms.{draw_each, port_harms}
use Rattle.damage_tool.specs.Laws.{AreAccepted, WaitsNowhere}
use Rattle.damage_tool.specs.Scrambled.{port_written}

-- of three nodes the number 3 is no parent, and each smaller one is its node
no-parent : number_or_none 3 3 ≡ None
no-parent = refl

a-parent : number_or_none 3 2 ≡ Some 2
a-parent = refl

-- one is drawn after the other, each from the generator as the one before left it
abbrev tick_of : ℕ → Lcg → List Event × Lcg
tick_of v g = (Tick v ∷ [], record g { state = v })

in-their_order : (g : Lcg) → draw_each tick_of (4 ∷ 2 ∷ 7 ∷ []) g ≡ (Tick 4 ∷ Tick 2 ∷ Tick 7 ∷ [], record g { state = 7 })
in-their_order g = refl

appended-the_others : (g : Lcg) → appended (Tick 0 ∷ []) (Tick 1 ∷ [], g) ≡ (Tick 0 ∷ Tick 1 ∷ [], g)
appended-the_others g = refl

-- a port is written whole: its numbers, what is staged, what is copied, and the machine's value
abbrev says : ℕ → Payload
says ring = record { distance = 1; parent = None; ring = ring }

abbrev drawn : PortDraw
drawn = record { seq = 4; last = 3; staged = says 5; copy = says 6; value = 2 }

harms-of_a_port :
    port_harms 1 0 drawn
    ≡ (Damage (harm.Counters 1 0 4 3) ∷ Damage (harm.Staged 1 0 (says 5)) ∷ Damage (harm.Copy 1 0 (says 6)) ∷ Damage (harm.Value 1 0 2) ∷ [])
harms-of_a_port = refl

abbrev start : World
start = default_world two_nodes

writes-that_port : (port_written 0 drawn (start.node 1)).port 0 ≡ record { seq = 4; last = 3; staged = says 5; copy = says 6 }
writes-that_port = refl

writes-its_value : (port_written 0 drawn (start.node 1)).value 0 ≡ 2
writes-its_value = refl

writes-no_other : (port_written 0 drawn (start.node 1)).port 3 ≡ (start.node 1).port 3
writes-no_other = refl

-- harms in range are accepted; one of them that is out of range makes the list none such
accepted : AreAccepted start (Damage (harm.Own 1 2 (Some 1)) ∷ Damage (harm.Value 0 1 6) ∷ [])
accepted = (refl, (refl, tt))

not-accepted : AreAccepted start (Damage (harm.Own 1 2 (Some 1)) ∷ Damage (harm.Value 0 1 7) ∷ []) → ⊥
not-accepted all = let second = all.1 in absurd (grind arith)

-- no ticket waits at the start; and one that does waits somewhere
nobody-waits : WaitsNowhere start 65535
nobody-waits = each-node (λ v. waits (start.node v).desk 65535 ≡ false) refl refl

abbrev asked_for : World
asked_for = with_desk start 1 (record { waiting = 65535 ∷ []; lent = None; left = 0; served = false })

somebody-waits : WaitsNowhere asked_for 65535 → ⊥
somebody-waits nowhere = false≢true (sym (nowhere 1 (omega arith)))

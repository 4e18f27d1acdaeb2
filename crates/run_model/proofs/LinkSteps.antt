-- What one event does to the items of one link.
use Rattle.std.proofs.Common.{◌≡◌, ◌≢◌, ℕ, ◌<◌, true, false, ap, arith}
use Rattle.std.proofs.lemmas.Grind.{common_steps}
use Rattle.link_model.specs.topology.Network.{are_joined}
use Rattle.link_model.specs.declared.item.Item.TheVariants.{Frame}
use Rattle.link_model.specs.Acts.{list_after}
use Rattle.node_core.specs.data_link.Port.{frame_of}
use Rattle.run_model.specs.World.{World}
use Rattle.run_model.specs.Step.{step}
use Rattle.run_model.specs.Run.{is_damage}
use Rattle.run_model.specs.Sweep.{link_act}
use Rattle.run_model.specs.declared.event.Event.{Event}
use Rattle.run_model.specs.declared.event.Event.TheVariants.{Send, Take, Lose, Tick, Ask, Leave, Damage}
use Rattle.run_model.specs.declared.event.Harm.{Harm}
use Rattle.run_model.proofs.Steps.{refused-stays}
use Rattle.run_model.proofs.EdgeSteps.{remove-beyond}

module _ (w : World) (u v : ℕ) (apart : u ≢ v) (there : u < w.net.nodes) (here : v < w.net.nodes) (joined : are_joined w.net.edges u v ≡ true) where
  abbrev WorksOn : Event → Type 0
  WorksOn e = (step w e).link u v ≡ list_after w.net.capacity (Frame (frame_of ((w.node u).port v))) (link_act u v e) (w.link u v)

  sends : (a b : ℕ) → WorksOn (Send a b)
  sends a b = grind (arith, common_steps)

  takes : (a b : ℕ) → WorksOn (Take a b)
  takes a b = grind (arith, common_steps)

  loses : (a b i : ℕ) → WorksOn (Lose a b i)
  loses a b i = grind (arith, common_steps, remove-beyond)

  damages : (h : Harm) → is_damage w (Damage h) ≡ false → WorksOn (Damage h)
  damages h fine = ap (λ x. x.link u v) (refused-stays w (Damage h) (grind (arith, common_steps)))

  pub one-link : (e : Event) → is_damage w e ≡ false → WorksOn e
  one-link (Send a b) fine = sends a b
  one-link (Take a b) fine = takes a b
  one-link (Lose a b i) fine = loses a b i
  one-link (Tick a) fine = grind (arith, common_steps)
  one-link (Ask a t) fine = grind (arith, common_steps)
  one-link (Leave a t) fine = grind (arith, common_steps)
  one-link (Damage h) fine = damages h fine

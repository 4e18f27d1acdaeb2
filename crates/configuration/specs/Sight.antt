-- What the headline says about one node.
use Rattle.std.specs.Prelude.{◌≡◌, ◌↔◌, ℕ, ◌<◌, false, IsTrue, Option, Some}
use Rattle.run_model.specs.World.{World}
use Rattle.run_model.specs.Step.{step}
use Rattle.run_model.specs.Privilege.{is_privileged, is_lending}
use Rattle.run_model.specs.Touched.{is_node_touched}
use Rattle.run_model.specs.declared.event.Event.{Event}
use Rattle.run_model.specs.declared.event.Event.TheVariants.{Damage}
use Rattle.run_model.specs.Headline.{IsServing}
use Rattle.run_model.specs.Run.{is_damage}
use Rattle.configuration.specs.declared.sight.Sight.{Sight}

-- a node's distance and parent, whether it is privileged, and whether it lends
abbrev pub sight_of : World → ℕ → Sight
sight_of w v = record {
  distance = (w.node v).distance;
  parent = (w.node v).parent;
  privileged = is_privileged w v;
  lending = is_lending w v;
}

-- if the event touches v, v is the named node; harms are left out
abbrev pub IsOwnNode : Event → Option ℕ → Type 0
IsOwnNode (Damage h) own = Unit {0}
IsOwnNode e own = (v : ℕ) → IsTrue (is_node_touched e v) → own ≡ Some v

-- The sight of the node that the event touches, if that is a node of the network. It says nothing
-- about a harm, which may touch two nodes or an edge.
abbrev pub IsTouchedSight : World → Event → Option Sight → Type 0
IsTouchedSight w (Damage h) sight = Unit {0}
IsTouchedSight w e sight = (v : ℕ) → v < w.net.nodes → IsTrue (is_node_touched e v) → sight ≡ Some (sight_of w v)

-- If an event is not damage, and leaves the sight of each node that it touches unchanged, the
-- network serves after it exactly if it served before.
abbrev pub SightsDecide : Type 0
SightsDecide =
    (w : World) (e : Event) → is_damage w e ≡ false
    → ((v : ℕ) → v < w.net.nodes → IsTrue (is_node_touched e v) → sight_of (step w e) v ≡ sight_of w v)
    → IsServing (step w e) ↔ IsServing w

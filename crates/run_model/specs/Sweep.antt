-- A sweep: a stretch of a run in which every node made a full tick and every link handed over an
-- item that was sent inside the stretch.
use Rattle.std.specs.Prelude.{◌≡◌, ℕ, ◌<◌, Bool, false, ◌==◌, ◌&&◌, ◌||◌, if◌then◌else◌, is_none, IsTrue, zero, suc, List, [], ◌∷◌, ◌++◌, map}
use Rattle.link_model.specs.topology.Network.{are_joined}
use Rattle.link_model.specs.Acts as link
use Rattle.link_model.specs.Acts.{LinkAct, Puts, Takes, Loses, Rests}
use Rattle.run_model.specs.World.{World}
use Rattle.run_model.specs.Step.{step}
use Rattle.run_model.specs.Run.{run, IsUndamaged}
use Rattle.run_model.specs.declared.event.Event.{Event}
use Rattle.run_model.specs.declared.event.Event.TheVariants.{Send, Take, Lose, Tick}

-- the event is a full tick of v: a tick after which v lends to nobody
abbrev pub is_full_tick : World → Event → ℕ → Bool
is_full_tick w (Tick u) v = (u == v) && is_none ((step w (Tick u)).node v).desk.lent
is_full_tick w _ v = false

-- some event of a list is a full tick of v
abbrev pub has_full_tick : World → List Event → ℕ → Bool
has_full_tick w [] v = false
has_full_tick w (e ∷ es) v = is_full_tick w e v || has_full_tick (step w e) es v

-- the link from a to b is the one from u to v
abbrev pub is_link : ℕ → ℕ → ℕ → ℕ → Bool
is_link u v a b = (a == u) && (b == v)

-- what an event does to the link from u to v: it puts an item there, takes the oldest, loses one,
-- or none of these
abbrev pub link_act : ℕ → ℕ → Event → LinkAct
link_act u v (Send a b) = if is_link u v a b then Puts else Rests
link_act u v (Take a b) = if is_link u v a b then Takes else Rests
link_act u v (Lose a b i) = if is_link u v a b then Loses i else Rests
link_act u v _ = Rests

-- a stretch renews the link from u to v if one of its takes meets an item that was sent inside
-- the stretch
abbrev pub is_renewed : World → List Event → ℕ → ℕ → Bool
is_renewed w es u v = link.is_renewed w.net.capacity (map (link_act u v) es) (w.link u v)

-- A sweep is without damage, has a full tick of each node, and renews each link in both directions.
pub record IsSweep (w : World) (es : List Event) : Type 0 where
  pub undamaged : IsUndamaged w es
  pub ticked : (v : ℕ) → v < w.net.nodes → IsTrue (has_full_tick w es v)
  pub renewed : (u v : ℕ) → IsTrue (are_joined w.net.edges u v) → IsTrue (is_renewed w es u v)

-- a list holds r sweeps if it splits into r sweeps, one after the other, and a rest
abbrev pub Sweeps : World → ℕ → List Event → Type 0
Sweeps w zero es = Unit {0}
Sweeps w (suc r) es = (first rest : List Event) × (es ≡ first ++ rest) × IsSweep w first × Sweeps (run w first) r rest

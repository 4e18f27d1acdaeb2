-- Runs of two lists, one after the other.
use Rattle.std.proofs.Common.{◌≡◌, List, [], ◌∷◌, ◌++◌, refl, ◌∙◌}
use Rattle.std.proofs.lemmas.Bool.{or_parts, or_from}
use Rattle.link_model.specs.topology.Network.{Network}
use Rattle.run_model.specs.World.{World}
use Rattle.run_model.specs.SameFrame.{IsSameFrame}
use Rattle.run_model.specs.Step.{step}
use Rattle.run_model.specs.Run.{run, is_damage, has_damage, IsUndamaged}
use Rattle.run_model.specs.declared.event.Event.{Event}
use Rattle.run_model.proofs.Steps.{step-network, step-frame}

pub run-network : (w : World) (es : List Event) → IsUndamaged w es → (run w es).net ≡ w.net
run-network w [] fine = refl
run-network w (e ∷ es) fine =
    let parts = or_parts (is_damage w e) (has_damage (step w e) es) fine in run-network (step w e) es parts.1 ∙ step-network w e parts.0

frames-join : (a b c : Network) → IsSameFrame a b → IsSameFrame b c → IsSameFrame a c
frames-join a b c x y =
    record { nodes = y.nodes ∙ x.nodes; root = y.root ∙ x.root; capacity = y.capacity ∙ x.capacity; lease = y.lease ∙ x.lease }

pub run-frame : (w : World) (es : List Event) → IsSameFrame w.net (run w es).net
run-frame w [] = record { nodes = refl; root = refl; capacity = refl; lease = refl }
run-frame w (e ∷ es) = frames-join w.net (step w e).net (run (step w e) es).net (step-frame w e) (run-frame (step w e) es)

pub runs-join : (w : World) (xs ys : List Event) → run w (xs ++ ys) ≡ run (run w xs) ys
runs-join w [] ys = refl
runs-join w (e ∷ xs) ys = runs-join (step w e) xs ys

pub undamaged-joins : (w : World) (xs ys : List Event) → IsUndamaged w xs → IsUndamaged (run w xs) ys → IsUndamaged w (xs ++ ys)
undamaged-joins w [] ys a b = b
undamaged-joins w (e ∷ xs) ys a b =
    let parts = or_parts (is_damage w e) (has_damage (step w e) xs) a in
    or_from (is_damage w e) (has_damage (step w e) (xs ++ ys)) parts.0 (undamaged-joins (step w e) xs ys parts.1 b)

pub undamaged-splits : (w : World) (xs ys : List Event) → IsUndamaged w (xs ++ ys) → IsUndamaged w xs × IsUndamaged (run w xs) ys
undamaged-splits w [] ys h = (refl, h)
undamaged-splits w (e ∷ xs) ys h =
    let parts = or_parts (is_damage w e) (has_damage (step w e) (xs ++ ys)) h in
    let later = undamaged-splits (step w e) xs ys parts.1 in
    (or_from (is_damage w e) (has_damage (step w e) xs) parts.0 later.0, later.1)

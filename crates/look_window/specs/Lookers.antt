-- What becomes of a looker.
use Rattle.std.specs.Prelude.{◌≡◌, ℕ, Bool, false, ◌==◌, List, length, Option}
use Rattle.node_connections.specs.socket_links.Counts.{Counts}
use Rattle.node_connections.specs.socket_links.Pipes.{Writes}
use Rattle.node_connections.specs.socket_links.declared.pipe.WriteAnswer.{WriteAnswer}
use Rattle.node_connections.specs.socket_links.declared.pipe.WriteAnswer.TheVariants.{Wrote, Later, Failed}

-- a write took all of these bytes
abbrev pub is_whole : WriteAnswer → List ℕ → Bool
is_whole (Wrote count) bytes = count == length bytes
is_whole _ bytes = false

-- the line was written to the looker once, as its pipe answered, and is reported as whole if the
-- looker took all of it
abbrev pub IsShown : {P : Type 0} → (P → Option (List ℕ)) → (P → Counts) → List ℕ → P → P → Bool → Type 0
IsShown took counts line old new whole =
    (answer : WriteAnswer) × Writes answer line (took old) (took new) (counts old) (counts new)
    × (whole ≡ is_whole answer line)

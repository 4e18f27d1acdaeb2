-- How far a line was written.
use Rattle.std.specs.Prelude.{◌≡◌, ℕ, List, Option, take, length}
use Rattle.byte_streams.specs.Streams.{Rose}
use Rattle.socket_links.specs.Counts.{Counts}
use Rattle.socket_links.specs.Pipes.{GoesOn}
use Rattle.socket_links.specs.declared.writing.Flow.{Flow}
use Rattle.socket_links.specs.declared.writing.Flow.TheVariants.{Done, Later, Broken}

-- the first `count` bytes were taken: all of them, or those up to where the pipe said Later or
-- failed
abbrev pub WritesLine : List ℕ → Option (List ℕ) → Option (List ℕ) → Counts → Counts → ℕ → Flow
    → Type 0
WritesLine bytes before after old new count Done =
    GoesOn (take count bytes) before after × (count ≡ length bytes)
WritesLine bytes before after old new count Later =
    GoesOn (take count bytes) before after × Rose old.later new.later
WritesLine bytes before after old new count Broken =
    GoesOn (take count bytes) before after × Rose old.failed new.failed

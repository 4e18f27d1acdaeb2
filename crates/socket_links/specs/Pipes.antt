-- What the answers of a pipe say, of its bytes and of its counts.
use Rattle.std.specs.Prelude.{◌≡◌, ℕ, ◌<◌, ◌≤◌, List, ◌++◌, Option, option_map, take, length}
use Rattle.byte_streams.specs.Streams.{Rose}
use Rattle.socket_links.specs.Counts.{Counts, NoneFell}
use Rattle.socket_links.specs.declared.pipe.ReadAnswer.{ReadAnswer}
use Rattle.socket_links.specs.declared.pipe.ReadAnswer.TheVariants as read
use Rattle.socket_links.specs.declared.pipe.WriteAnswer.{WriteAnswer}
use Rattle.socket_links.specs.declared.pipe.WriteAnswer.TheVariants as write

-- these bytes came after those before; nothing is said of a pipe that does not show its bytes
abbrev pub GoesOn : List ℕ → Option (List ℕ) → Option (List ℕ) → Type 0
GoesOn more before after = after ≡ option_map (λ bytes. bytes ++ more) before

-- a read gives the bytes at the front of the buffer, at least one; or it gives none, and then the
-- count of its answer rose
abbrev pub Reads : ReadAnswer → List ℕ → Option (List ℕ) → Option (List ℕ) → Counts → Counts
    → Type 0
Reads (read.Got n) buffer before after old new =
    (0 < n) × (n ≤ length buffer) × GoesOn (take n buffer) before after × NoneFell old new
Reads read.Later buffer before after old new =
    (after ≡ before) × NoneFell old new × Rose old.later new.later
Reads read.Closed buffer before after old new =
    (after ≡ before) × NoneFell old new × Rose old.closed new.closed
Reads read.Failed buffer before after old new =
    (after ≡ before) × NoneFell old new × Rose old.failed new.failed

-- a write takes the first bytes, at least one; or it takes none, and then the count of its answer
-- rose
abbrev pub Writes : WriteAnswer → List ℕ → Option (List ℕ) → Option (List ℕ) → Counts → Counts
    → Type 0
Writes (write.Wrote n) bytes before after old new =
    (0 < n) × (n ≤ length bytes) × GoesOn (take n bytes) before after × NoneFell old new
Writes write.Later bytes before after old new =
    (after ≡ before) × NoneFell old new × Rose old.later new.later
Writes write.Failed bytes before after old new =
    (after ≡ before) × NoneFell old new × Rose old.failed new.failed

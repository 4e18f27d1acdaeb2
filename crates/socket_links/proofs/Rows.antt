-- Small examples of what pipes answer and of what a link has pulled, and some that look like them
-- and are none.
use Rattle.std.proofs.Common.{codes, [], None, Some, refl, arith, inl}
use Rattle.topology.specs.declared.frame.Ranges.{Ranges}
use Rattle.byte_lines.specs.Kept.{kept}
use Rattle.socket_links.specs.Counts.{Counts}
use Rattle.socket_links.specs.Pipes.{GoesOn, Reads}
use Rattle.socket_links.specs.Writing.{WritesLine}
use Rattle.socket_links.specs.Links.{HasPulled}
use Rattle.socket_links.specs.declared.pipe.ReadAnswer.TheVariants as read
use Rattle.socket_links.specs.declared.writing.Flow.TheVariants as flow

abbrev none : Counts
none = record { later = 0; closed = 0; failed = 0 }

abbrev once_later : Counts
once_later = record { later = 1; closed = 0; failed = 0 }

-- bytes come after those before, and in front of none
goes-on : GoesOn (codes "b") (Some (codes "a")) (Some (codes "ab"))
goes-on = refl

goes_not-in_front : ¬ GoesOn (codes "b") (Some (codes "a")) (Some (codes "ba"))
goes_not-in_front = λ e. grind (arith, e)

-- Later is said only if its count rose
reads-later : Reads read.Later [] None None none once_later
reads-later = (refl, (omega arith, omega arith, omega arith), inl (omega arith))

reads_not-later : ¬ Reads read.Later [] None None none none
reads_not-later = λ r. grind (arith, r.2)

-- a read gives at least one byte
reads_not-none : ¬ Reads (read.Got 0) (codes "a") None None none none
reads_not-none = λ r. grind (arith, r.0)

-- Done is said only if all was written
writes_not-done : ¬ WritesLine (codes "ab") None None none none 1 flow.Done
writes_not-done = λ w. grind (arith, w.1)

abbrev line : Ranges
line = record { nodes = 3; counter = 5; ring = 13 }

-- of what the pipe gave since the start a part was looked at, which had no whole line, and a part
-- waits
pulled-none : HasPulled line (codes "x") [] (codes "xF00") (kept 21 (codes "F")) (codes "00")
pulled-none = record { read = codes "F"; parts = refl; stands = refl; frames_are = refl }

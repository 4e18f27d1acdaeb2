-- What a line is read as.
use Rattle.std.specs.Prelude.{ℕ, ◌+◌, ◌-◌, ◌*◌, ◌==◌, ◌&&◌, nat_lt, if◌then◌else◌, List, slice_index, Option, Some, None}
use Rattle.std.specs.Str.{bytes_eq}
use Rattle.topology.specs.Ranges.{frame_fits}
use Rattle.topology.specs.declared.frame.Frame.{Frame}
use Rattle.topology.specs.declared.frame.Ranges.{Ranges}
use Rattle.frame_codec.specs.Spelling.{spelling}

-- the value of a byte that is a digit
abbrev pub digit_value : ℕ → ℕ
digit_value c = if nat_lt c 97 then c - 48 else c - 87

-- the number that four bytes from an index on spell, if they are digits
abbrev pub number_from : List ℕ → ℕ → ℕ
number_from line i =
    4096 * digit_value (slice_index line i) + 256 * digit_value (slice_index line (i + 1))
    + 16 * digit_value (slice_index line (i + 2)) + digit_value (slice_index line (i + 3))

-- the parent that a number stands for
abbrev pub parent_of : ℕ → Option ℕ
parent_of n = if n == 65535 then None else Some n

-- the only frame that a line may spell
abbrev pub candidate : List ℕ → Frame
candidate line = record {
  seq = number_from line 1;
  ack = number_from line 5;
  payload = record {
    distance = number_from line 9;
    parent = parent_of (number_from line 13);
    ring = number_from line 17;
  };
}

-- a line is read as the frame that it spells, if that is in range
unfoldable pub frame_of : Ranges → List ℕ → Option Frame
frame_of r line =
    let f = candidate line in
    if bytes_eq line (spelling f) && frame_fits r f then Some f else None

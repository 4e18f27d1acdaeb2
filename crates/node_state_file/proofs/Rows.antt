-- Small examples of state files, some that are read and some that look like them and are refused.
use Rattle.std.proofs.Common.{◌≡◌, refl, Bool, true, false, ℕ, List, [], ◌∷◌, ◌++◌, take, drop, None, Result, Err}
use Rattle.std.specs.List.{list_all, range_with_len}
use Rattle.topology.specs.Network.{Network}
use Rattle.topology.specs.Ranges.{ranges_of}
use Rattle.state_writing.specs.node_core.State.{LocalState, default_node}
use Rattle.node_state_file.specs.declared.fault.FileFault.{FileFault}
use Rattle.node_state_file.specs.declared.fault.FileFault.TheVariants.{Short, Magic, Shape, Range, Long}
use Rattle.state_writing.specs.declared.layout.FileLayout.TheVariants.{Tkt1, Tkt2}
use Rattle.state_writing.specs.Spelling.{spelling}
use Rattle.node_state_file.specs.Reading.{decoded, first_fault, header_of, matched, ports_in}

-- two nodes with links of capacity 1, and three that are all joined
abbrev pub two : Network
two = record { nodes = 2; root = 0; capacity = 1; lease = 0; edges = (0, 1) ∷ [] }

abbrev pub triangle : ℕ → Network
triangle capacity = record { nodes = 3; root = 0; capacity = capacity; lease = 0; edges = (0, 1) ∷ (1, 2) ∷ (0, 2) ∷ [] }

-- the default state of node 1 of the two, in both layouts
abbrev pub older : List ℕ
older = 84 ∷ 75 ∷ 84 ∷ 49 ∷ 0 ∷ 2 ∷ 0 ∷ 1 ∷ 0 ∷ 1 ∷ 0 ∷ 2 ∷ 255 ∷ 255 ∷ 0 ∷ 0 ∷ 0 ∷ 0 ∷ 0 ∷ 0 ∷ 0 ∷ 2 ∷ 255 ∷ 255 ∷ 0 ∷ 0 ∷ 0 ∷ 2 ∷ 255 ∷ 255 ∷ 0 ∷ 0 ∷ 0 ∷ 0 ∷ []

abbrev pub newer : List ℕ
newer = 84 ∷ 75 ∷ 84 ∷ 50 ∷ 0 ∷ 2 ∷ 0 ∷ 1 ∷ 0 ∷ 1 ∷ 0 ∷ 1 ∷ 0 ∷ 2 ∷ 255 ∷ 255 ∷ 0 ∷ 0 ∷ 0 ∷ 0 ∷ 0 ∷ 0 ∷ 0 ∷ 2 ∷ 255 ∷ 255 ∷ 0 ∷ 0 ∷ 0 ∷ 2 ∷ 255 ∷ 255 ∷ 0 ∷ 0 ∷ 0 ∷ 0 ∷ []

older-spelled : spelling Tkt1 two 1 (0 ∷ []) (default_node (ranges_of two)) ≡ older
older-spelled = refl

newer-spelled : spelling Tkt2 two 1 (0 ∷ []) (default_node (ranges_of two)) ≡ newer
newer-spelled = refl

-- both are read; one byte more is refused, and so are another node's id and another word
older-read : first_fault two 1 Tkt1 older ≡ None
older-read = refl

newer-read : first_fault two 1 Tkt2 newer ≡ None
newer-read = refl

older_not-longer : decoded two 1 (older ++ 0 ∷ []) ≡ Err Long
older_not-longer = refl

older_not-other_node : decoded two 0 older ≡ Err Shape
older_not-other_node = refl

newer_not-other_word : decoded two 1 (84 ∷ 75 ∷ 84 ∷ 57 ∷ 0 ∷ 2 ∷ 0 ∷ 1 ∷ 0 ∷ 1 ∷ 0 ∷ 2 ∷ 255 ∷ 255 ∷ 0 ∷ 0 ∷ 0 ∷ 0 ∷ 0 ∷ 0 ∷ 0 ∷ 2 ∷ 255 ∷ 255 ∷ 0 ∷ 0 ∷ 0 ∷ 2 ∷ 255 ∷ 255 ∷ 0 ∷ 0 ∷ 0 ∷ 0 ∷ []) ≡ Err Magic
newer_not-other_word = refl

-- a ring value of 7 is the modulus
older_not-ring : decoded two 1 (84 ∷ 75 ∷ 84 ∷ 49 ∷ 0 ∷ 2 ∷ 0 ∷ 1 ∷ 0 ∷ 1 ∷ 0 ∷ 2 ∷ 255 ∷ 255 ∷ 0 ∷ 0 ∷ 0 ∷ 0 ∷ 0 ∷ 0 ∷ 0 ∷ 2 ∷ 255 ∷ 255 ∷ 0 ∷ 0 ∷ 0 ∷ 2 ∷ 255 ∷ 255 ∷ 0 ∷ 0 ∷ 0 ∷ 7 ∷ []) ≡ Err Range
older_not-ring = refl

-- a value out of range is found before a byte too many
older_not-ring_before_longer : decoded two 1 (84 ∷ 75 ∷ 84 ∷ 49 ∷ 0 ∷ 2 ∷ 0 ∷ 1 ∷ 0 ∷ 1 ∷ 0 ∷ 2 ∷ 255 ∷ 255 ∷ 0 ∷ 0 ∷ 0 ∷ 0 ∷ 0 ∷ 0 ∷ 0 ∷ 2 ∷ 255 ∷ 255 ∷ 0 ∷ 0 ∷ 0 ∷ 2 ∷ 255 ∷ 255 ∷ 0 ∷ 0 ∷ 0 ∷ 7 ∷ 0 ∷ []) ≡ Err Range
older_not-ring_before_longer = refl

-- cut to whatever length it is short
abbrev is_short : Result LocalState FileFault → Bool
is_short (Err Short) = true
is_short r = false

older_not-cut : list_all (λ length. is_short (decoded two 1 (take length older))) (range_with_len 0 34) ≡ true
older_not-cut = refl

-- node 2 of the three, saved when it was joined to node 1 alone
abbrev joined_since : List ℕ
joined_since = 84 ∷ 75 ∷ 84 ∷ 50 ∷ 0 ∷ 3 ∷ 0 ∷ 2 ∷ 0 ∷ 1 ∷ 0 ∷ 1 ∷ 0 ∷ 2 ∷ 0 ∷ 1 ∷ 0 ∷ 1 ∷ 0 ∷ 3 ∷ 0 ∷ 2 ∷ 0 ∷ 2 ∷ 0 ∷ 1 ∷ 0 ∷ 5 ∷ 0 ∷ 1 ∷ 0 ∷ 0 ∷ 0 ∷ 6 ∷ 0 ∷ 5 ∷ []

joined_since-read : first_fault (triangle 1) 2 Tkt2 joined_since ≡ None
joined_since-read = refl

-- its port to node 0 is as at the start, and the one to node 1 is as it was
joined_since-matched : let s = matched (triangle 1) 2 (header_of Tkt2 joined_since) (ports_in 1 (drop 16 joined_since)) in
    spelling Tkt2 (triangle 1) 2 (0 ∷ 1 ∷ []) s ≡ 84 ∷ 75 ∷ 84 ∷ 50 ∷ 0 ∷ 3 ∷ 0 ∷ 2 ∷ 0 ∷ 1 ∷ 0 ∷ 2 ∷ 0 ∷ 2 ∷ 0 ∷ 1 ∷ 0 ∷ 0 ∷ 0 ∷ 0 ∷ 0 ∷ 0 ∷ 0 ∷ 3 ∷ 255 ∷ 255 ∷ 0 ∷ 0 ∷ 0 ∷ 3 ∷ 255 ∷ 255 ∷ 0 ∷ 0 ∷ 0 ∷ 0 ∷ 0 ∷ 1 ∷ 0 ∷ 3 ∷ 0 ∷ 2 ∷ 0 ∷ 2 ∷ 0 ∷ 1 ∷ 0 ∷ 5 ∷ 0 ∷ 1 ∷ 0 ∷ 0 ∷ 0 ∷ 6 ∷ 0 ∷ 5 ∷ []
joined_since-matched = refl

joined_since_not-capacity : decoded (triangle 2) 2 joined_since ≡ Err Shape
joined_since_not-capacity = refl

joined_since_not-shorter : decoded (triangle 1) 2 (take 35 joined_since) ≡ Err Short
joined_since_not-shorter = refl

joined_since_not-longer : decoded (triangle 1) 2 (joined_since ++ 0 ∷ []) ≡ Err Long
joined_since_not-longer = refl

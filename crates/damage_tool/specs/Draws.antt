-- What is drawn from a generator's successive words: each number is a word modulo how many values
-- there are.
use Rattle.std.specs.Prelude.{ℕ, ◌+◌, ◌%◌, ◌==◌, if◌then◌else◌, zero, suc, List, [], ◌∷◌, Option, Some, None}
use Rattle.rand_pcg.specs.Lcg.{Lcg}
use Rattle.rand_pcg.specs.Pcg.{pcg32}
use Rattle.topology.specs.declared.frame.Payload.{Payload}
use Rattle.topology.specs.declared.frame.Ranges.{Ranges}
use Rattle.damage_tool.specs.declared.draws.PortDraw.{PortDraw}

-- the next word modulo k, and the generator after it
unfoldable pub draw : ℕ → Lcg → ℕ × Lcg
draw k g = ((pcg32 g).0 % k, (pcg32 g).1)

-- a number; n stands for none
abbrev pub number_or_none : ℕ → ℕ → Option ℕ
number_or_none n p = if p == n then None else Some p

-- a parent: a node, or none
abbrev pub draw_parent : Ranges → Lcg → Option ℕ × Lcg
draw_parent r g = let p = draw (r.nodes + 1) g in (number_or_none r.nodes p.0, p.1)

-- a payload: a distance, a parent and a ring value, in this order
abbrev pub draw_payload : Ranges → Lcg → Payload × Lcg
draw_payload r g =
    let distance = draw (r.nodes + 1) g in
    let parent = draw_parent r distance.1 in
    let ring = draw r.ring parent.1 in
    (record { distance = distance.0; parent = parent.0; ring = ring.0 }, ring.1)

-- a port: its two numbers, what it has staged and copied, and the value of the machine that comes
-- in there, in this order
abbrev pub draw_port : Ranges → Lcg → PortDraw × Lcg
draw_port r g =
    let seq = draw r.counter g in
    let last = draw r.counter seq.1 in
    let staged = draw_payload r last.1 in
    let copy = draw_payload r staged.1 in
    let value = draw r.ring copy.1 in
    (record { seq = seq.0; last = last.0; staged = staged.0; copy = copy.0; value = value.0 }, value.1)

-- n bytes from ! to ~
abbrev pub draw_bytes : ℕ → Lcg → List ℕ × Lcg
draw_bytes zero g = ([], g)
draw_bytes (suc n) g =
    let byte = draw 94 g in
    let rest = draw_bytes n byte.1 in
    ((33 + byte.0) ∷ rest.0, rest.1)

-- a line of junk without its newline: a length of at most 40, and as many bytes
abbrev pub draw_junk : Lcg → List ℕ × Lcg
draw_junk g = let length = draw 41 g in draw_bytes length.0 length.1

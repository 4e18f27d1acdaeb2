-- Small examples of what the answers of a simulation say, with some that fail.
use Rattle.std.proofs.Common.{◌≡◌, ◌∙◌, ℕ, ◌+◌, ◌^◌, ◌<◌, ◌≤◌, zero, suc, List, [], ◌∷◌, ◌++◌, Option, Some, Ok, Err, option_map, codes}
use Rattle.std.proofs.Common.{length, length-append, get_or, take, drop, replicate, map, refl, ap, sym, inl, inr, arith}
use Rattle.std.proofs.Math.Seq.{take-append_seam, drop-length}
use Rattle.std.proofs.lemmas.List.{length-drop, length-replicate, take-append-le, take-replicate}
use Rattle.std.specs.Fmt.{digits}
use Rattle.judge.specs.run_model.World.{World}
use Rattle.judge.specs.run_model.Sweep.{IsSweep}
use Rattle.judge.specs.run_model.Count.{IsGreatestCount}
use Rattle.judge.specs.run_model.declared.event.Event.{Event}
use Rattle.byte_lines.specs.Lines.{lines_after}
use Rattle.byte_streams.specs.Streams.{HasRead, TakesABeginning}
use Rattle.events_text.specs.EventsText.{text_line, ended_lines}
use Rattle.world.specs.declared.simulation.SimFault.TheVariants.{Memory, Read, Long, Write}
use Rattle.world.specs.SimulatedText.{refusal_lines, refusals_of}
use Rattle.world.specs.Simulating.{longest_text, IsCutShort, IsHalfShown, IsSimulated, IsStopped, IsTooLong}
use Rattle.world.proofs.RowsSimulated.{start, nothing_happened}

-- a text has at most 1 GiB
longest : longest_text ≡ 2 ^ 30
longest = refl

-- ---- what the failing rows need

-- what is left fixes how many bytes were read
counted : (count : ℕ) (bytes left : List ℕ) → HasRead count bytes (Some left) → count + length left ≡ length bytes
counted count bytes left (some, rest) =
    let same : left ≡ drop count bytes = cc in
    omega (arith, some, ap length same, length-drop count bytes)

-- what was written of a text is the text as far as it goes
begun : (text done : List ℕ) → TakesABeginning text (Some []) (Some done) → take (length done) text ≡ done
begun text done b =
    let taken : ◌≡◌ {A = Option (List ℕ)} (Some done) (Some b.front) = b.taken in
    let same : done ≡ b.front = cc in
    rw (same, b.parts) (take-append_seam b.front b.back)

-- no events hold no sweep, since there is a node
no-sweep : (w : World) → 0 < w.net.nodes → (front back : List Event) → [] ≡ front ++ back → ¬ IsSweep w front
no-sweep w some [] back e sweep = let none = sweep.ticked 0 some in cc
no-sweep w some (event ∷ front) back e sweep = absurd cc

none-held : (w : World) → 0 < w.net.nodes → IsGreatestCount w [] 0
none-held w some = record { held = tt; no_more = λ s. no-sweep w some s.0 s.1 s.2 s.3 }

-- ---- the source fails

abbrev two_unread : List ℕ
two_unread = codes "x\ny\n"

-- a source fails before its last newline: the first line is refused
cut-short : IsCutShort start two_unread (Some (codes "\n")) (Some []) (Some (codes "line 1: Unread\n"))
unfolding digits
cut-short = record { count = 3; read = (omega arith, refl); short = omega arith; written = refl }

-- the second line is not, since no newline ended it
cut_short-not_half : ¬ IsCutShort start two_unread (Some (codes "\n")) (Some [])
    (Some (codes "line 1: Unread\nline 2: Unread\n"))
unfolding digits
cut_short-not_half h =
    let three : h.count ≡ 3 = omega (arith, counted h.count two_unread (codes "\n") h.read) in
    let longer : ◌≡◌ {A = Option ℕ} (Some 30) (Some 15) = ap (option_map length) (rw three at h.written) in
    absurd cc

-- ---- the text is too long

-- one line that is unread, and n empty ones
abbrev lines : ℕ → List ℕ
lines n = 120 ∷ 10 ∷ replicate n 10

lines-taken : (m n : ℕ) (more : List ℕ) → m ≤ n → take (suc (suc m)) (lines n ++ more) ≡ lines m
lines-taken m n more l =
    let within : m ≤ length (replicate {A = ℕ} n 10) = omega (arith, l, length-replicate {A = ℕ} n 10) in
    ap (λ xs. 120 ∷ 10 ∷ xs) (take-append-le m (replicate n 10) more within ∙ take-replicate m n 10 l)

lines-empty : (n : ℕ) → lines_after [] (replicate n 10) ≡ replicate n []
lines-empty zero = refl
lines-empty (suc n) = ap (λ ls. [] ∷ ls) (lines-empty n)

lines-fine : (n k : ℕ) (w : World) → refusal_lines w k (map text_line (replicate n [])) ≡ []
lines-fine zero k w = refl
lines-fine (suc n) k w = lines-fine n (k + 1) w

one-refused : (n : ℕ) → refusals_of start (ended_lines (lines n)) ≡ codes "line 1: Unread\n"
unfolding digits
one-refused n =
    ap (λ ls. codes "line 1: Unread\n" ++ refusal_lines start 2 (map text_line ls)) (lines-empty n)
    ∙ ap (λ more. codes "line 1: Unread\n" ++ more) (lines-fine n 2 start)

one-refused_of : (m n : ℕ) (more : List ℕ) → m ≤ n
    → refusals_of start (ended_lines (take (suc (suc m)) (lines n ++ more))) ≡ codes "line 1: Unread\n"
one-refused_of m n more l = ap (λ bytes. refusals_of start (ended_lines bytes)) (lines-taken m n more l) ∙ one-refused m

-- the refusal in the first 1 GiB was written, and none of what comes after that
too-long : (n : ℕ) (more : List ℕ) → longest_text ≤ n
    → IsTooLong start (lines n ++ more) (Some []) (Some []) (Some (codes "line 1: Unread\n"))
too-long n more l = record {
  count = length (lines n ++ more);
  read = (omega arith, ap Some (sym (drop-length (lines n ++ more))));
  long = omega (arith, l, length-append (lines n) more, length-replicate {A = ℕ} n 10);
  written = ap Some (sym (one-refused_of 1073741822 n more (omega (arith, l))));
}

-- no text of at most 1 GiB is too long,
too_long-not_short : (bytes : List ℕ) (rest before after : Option (List ℕ)) → length bytes ≤ longest_text
    → ¬ IsTooLong start bytes rest before after
too_long-not_short bytes rest before after l h = omega (arith, l, h.long, h.read.0)

-- and one that was read beyond 1 GiB is not cut short
cut_short-not_long : (n : ℕ) (before after : Option (List ℕ)) → longest_text ≤ n
    → ¬ IsCutShort start (lines n) (Some []) before after
cut_short-not_long n before after l h =
    let all = counted h.count (lines n) [] h.read in
    omega (arith, l, h.short, all, length-replicate {A = ℕ} n 10)

-- ---- the sink fails

-- the first line was read, and its refusal begun
stopped : IsStopped start two_unread (Some (codes "y\n")) (Some []) (Some (codes "line 1:"))
unfolding digits
stopped = record {
  count = 2;
  read = (omega arith, refl);
  written = record { front = codes "line 1:"; back = codes " Unread\n"; parts = refl; taken = refl };
}

-- a refusal is not begun before its line is read
stopped-not_yet : ¬ IsStopped start two_unread (Some (codes "y\n")) (Some []) (Some (codes "line 1: Unread\nl"))
unfolding digits
stopped-not_yet h =
    let two : h.count ≡ 2 = omega (arith, counted h.count two_unread (codes "y\n") h.read) in
    absurd (let more = begun _ (codes "line 1: Unread\nl") (rw two at h.written) in cc)

-- `tick` is not refused before the whole line ` 0` after it is read
stopped-not_half : ¬ IsStopped start (codes "tick 0\n") (Some (codes " 0\n")) (Some []) (Some (codes "line 1: Unread\n"))
unfolding digits
stopped-not_half h =
    let four : h.count ≡ 4 = omega (arith, counted h.count (codes "tick 0\n") (codes " 0\n") h.read) in
    absurd (let none = begun _ (codes "line 1: Unread\n") (rw four at h.written) in cc)

-- the refusal of the last line was written, and a part of the first node's line
half-shown : IsHalfShown start (codes "x") (Some []) (Some (codes "line 1: Unread\nnode 0 dist"))
unfolding digits
half-shown = record {
  count = 0;
  counted = none-held start (omega arith);
  written = record { front = codes "line 1: Unread\nnode 0 dist"; back = drop 11 nothing_happened; parts = refl; taken = refl };
}

-- nodes do not come before the refusal
half_shown-not_node : ¬ IsHalfShown start (codes "x") (Some []) (Some (codes "node"))
half_shown-not_node h =
    let first : ◌≡◌ {A = ℕ} 108 110 = ap (λ bytes. get_or bytes 0 0) (begun _ (codes "node") h.written) in
    omega (arith, first)

-- ---- the answers

-- the second line is refused, and the third lends the lock, by damage
abbrev asked : List ℕ
asked = codes "ask 1 7\nask 1 7\nharm desk 1 9 0 no\n"

abbrev shown : List ℕ
shown =
    codes "line 2: Twice\nnode 0 distance 2 parent none token no lent none waiting 0\n"
    ++ codes "node 1 distance 2 parent none token no lent 9 waiting 1\nlink 0 1 items 0\nlink 1 0 items 0\n"
    ++ codes "privileged 0 lending 1\nsweeps 0 of 69\n"

-- the whole text was read, all that it leads to was written, and the counts say so
simulated-all : IsSimulated start asked (Some []) (Some []) (Some shown)
    (Ok (record { refused = 1; sweeps = 0; lending = 1 }))
unfolding digits
simulated-all = (
  refl,
  omega arith,
  record {
    count = 0;
    counted = none-held _ (omega arith);
    written = refl;
    sweeps = refl;
    refused = refl;
    lending = refl;
  },
)

-- one refused line is not counted as two
simulated-not_two : ¬ IsSimulated start asked (Some []) (Some []) (Some shown)
    (Ok (record { refused = 2; sweeps = 0; lending = 1 }))
simulated-not_two h = absurd (let one = h.2.refused in cc)

-- and no summary is right while a byte is left
simulated-not_left : ¬ IsSimulated start asked (Some (codes "\n")) (Some []) (Some shown)
    (Ok (record { refused = 1; sweeps = 0; lending = 1 }))
simulated-not_left h = absurd (let none = h.0 in cc)

-- without memory nothing is read or written
simulated-no_memory : IsSimulated start asked (Some asked) (Some (codes "a")) (Some (codes "a")) (Err Memory)
simulated-no_memory = (refl, refl)

simulated-not_written : ¬ IsSimulated start asked (Some asked) (Some []) (Some (codes "a")) (Err Memory)
simulated-not_written h = absurd (let same = h.1 in cc)

-- a source that fails does not make the text too long
simulated-read : IsSimulated start two_unread (Some (codes "\n")) (Some [])
    (Some (codes "line 1: Unread\n")) (Err Read)
simulated-read = cut-short

simulated-not_long : ¬ IsSimulated start two_unread (Some (codes "\n")) (Some [])
    (Some (codes "line 1: Unread\n")) (Err Long)
simulated-not_long = too_long-not_short two_unread _ _ _ (omega arith)

-- a line after the first 1 GiB is not refused
simulated-long : (n : ℕ) → longest_text ≤ n
    → IsSimulated start (lines n ++ codes "y\n") (Some []) (Some []) (Some (codes "line 1: Unread\n")) (Err Long)
simulated-long n l = too-long n (codes "y\n") l

-- a sink fails at a refusal, or at the state after all was read
simulated-refusal : IsSimulated start two_unread (Some (codes "y\n")) (Some []) (Some (codes "line 1:")) (Err Write)
simulated-refusal = inl stopped

simulated-state : IsSimulated start (codes "x") (Some []) (Some []) (Some (codes "line 1: Unread\nnode 0 dist")) (Err Write)
simulated-state = inr (refl, omega arith, inr half-shown)

-- no state is written while a byte is left
simulated-not_state : ¬ IsSimulated start (codes "#\n") (Some (codes "\n")) (Some []) (Some (codes "node")) (Err Write)
unfolding digits
simulated-not_state (inl h) =
    let one : h.count ≡ 1 = omega (arith, counted h.count (codes "#\n") (codes "\n") h.read) in
    absurd (let none = begun _ (codes "node") (rw one at h.written) in cc)
simulated-not_state (inr h) = absurd (let none = h.0 in cc)

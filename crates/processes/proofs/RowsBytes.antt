-- Connections of bytes, small enough to check by hand: the beginnings of a line, and half a line.
use Rattle.std.proofs.Common.{◌≡◌, ◌==◌, ◌&&◌, ℕ, Bool, true, false, List, [], ◌∷◌, ◌++◌, refl, ap, sym, subst, ◌∙◌, codes, arith}
use Rattle.std.proofs.lemmas.Grind.{common_steps}
use Rattle.topology.specs.declared.frame.Frame.{Frame}
use Rattle.topology.specs.declared.frame.Ranges.{Ranges}
use Rattle.frame_codec.specs.Lines.{good_lines}
use Rattle.frame_codec.specs.Reading.{frame_of}
use Rattle.frame_codec.specs.Spelling.{spelling}
use Rattle.processes.specs.Connections.{lines_of, Ended, IsConnection, IsLinkOfBytes}
use Rattle.run_model.proofs.RowsTwo.{calm}
use Rattle.processes.specs.Links.{Act, Accepts, Gives, Loses}
use Rattle.processes.specs.Together.{Wires, frames_at_first, history_on}
use Rattle.processes.proofs.RowsLinks.{numbered}

abbrev sizes : Ranges
sizes = record { nodes = 3; counter = 5; ring = 13 }

-- ---- each beginning of a text passes a test

abbrev pub each_passes : (List ℕ → Bool) → List ℕ → Bool
each_passes test [] = test []
each_passes test (x ∷ xs) = test [] && each_passes (λ r. test (x ∷ r)) xs

first-of : (a b : Bool) → (a && b) ≡ true → a ≡ true
first-of a b h = grind (arith, common_steps)

second-of : (a b : Bool) → (a && b) ≡ true → b ≡ true
second-of a b h = grind (arith, common_steps)

pub passes : (test : List ℕ → Bool) (text read ahead : List ℕ) → each_passes test text ≡ true → read ++ ahead ≡ text → test read ≡ true
passes test [] [] ahead h e = h
passes test [] (y ∷ ys) ahead h e = let f : ◌≡◌ {A = List ℕ} (y ∷ (ys ++ ahead)) [] = e in absurd cc
passes test (x ∷ xs) [] ahead h e = first-of (test []) (each_passes (λ r. test (x ∷ r)) xs) h
passes test (x ∷ xs) (y ∷ ys) ahead h e =
    let f : ◌≡◌ {A = List ℕ} (y ∷ (ys ++ ahead)) (x ∷ xs) = e in
    let same : x ≡ y = cc in
    let rest : ys ++ ahead ≡ xs = cc in
    subst (λ z. test (z ∷ ys) ≡ true) same
    (passes (λ r. test (x ∷ r)) xs ys ahead (second-of (test []) (each_passes (λ r. test (x ∷ r)) xs) h) rest)

abbrev are_numbered : ℕ → List Frame → Bool
are_numbered n [] = true
are_numbered n (f ∷ fs) = (f.seq == n) && are_numbered n fs

abbrev are_none : List Frame → Bool
are_none [] = true
are_none (f ∷ fs) = false

-- ---- a connection

-- one line came whole, and half of the next: the first frame is pulled
half-of-the-next : IsConnection sizes [] (numbered 1 ∷ numbered 2 ∷ []) (numbered 1 ∷ [])
unfolding frame_of spelling
half-of-the-next = record {
  read = codes "F000100000000ffff0000\nF0002";
  ahead = codes "00000000ffff0000\n";
  beginning = refl;
  pulled_are = refl;
}

-- from that one line no other frame is pulled
only-the-first : each_passes (λ r. are_numbered 1 (good_lines sizes r)) (lines_of (numbered 1 ∷ [])) ≡ true
unfolding frame_of spelling
only-the-first = refl

not-another-frame : IsConnection sizes [] (numbered 1 ∷ []) (numbered 2 ∷ []) → ⊥
not-another-frame c =
    let some = passes (λ r. are_numbered 1 (good_lines sizes r)) (lines_of (numbered 1 ∷ [])) c.read c.ahead only-the-first c.beginning in
    let e : ◌≡◌ {A = Bool} true false = sym some ∙ ap (are_numbered 1) c.pulled_are in
    absurd cc

-- ---- half a line that a fault put there

-- it spoils the first frame, and the next one is pulled
spoils-the-first : IsConnection sizes (codes "F00") (numbered 1 ∷ numbered 2 ∷ []) (numbered 2 ∷ [])
unfolding frame_of spelling
spoils-the-first = record {
  read = codes "F00F000100000000ffff0000\nF000200000000ffff0000\n";
  ahead = [];
  beginning = refl;
  pulled_are = refl;
}

-- the frame that it spoils is not pulled
nothing-of-it : each_passes (λ r. are_none (good_lines sizes r)) (codes "F00" ++ lines_of (numbered 1 ∷ [])) ≡ true
unfolding frame_of spelling
nothing-of-it = refl

not-the-spoiled : IsConnection sizes (codes "F00") (numbered 1 ∷ []) (numbered 1 ∷ []) → ⊥
not-the-spoiled c =
    let none = passes (λ r. are_none (good_lines sizes r)) (codes "F00" ++ lines_of (numbered 1 ∷ [])) c.read c.ahead nothing-of-it c.beginning in
    let e : ◌≡◌ {A = Bool} true false = sym none ∙ ap are_none c.pulled_are in
    absurd cc

-- and no stretch begins on a link on which half a line stands
not-with-a-half : (sent taken : List Act) (cs : List Ended) (acts : List Act) → IsLinkOfBytes sizes 1 (codes "F00") sent taken cs acts → ⊥
not-with-a-half sent taken cs acts h = let e : ◌≡◌ {A = List ℕ} (codes "F00") [] = h.whole in absurd cc

-- ---- what happened on a link that was two connections, one after the other

-- on the first connection a frame was accepted, and not given when that ended
abbrev twice : Wires
twice = record {
  junk = λ u v. [];
  ended = λ u v. record { acts = Accepts 1 (numbered 1) ∷ []; instant = 3 } ∷ [];
  acts = λ u v. Accepts 4 (numbered 2) ∷ Gives 5 (numbered 2) ∷ [];
}

nothing-at_first : frames_at_first calm twice 0 1 ≡ []
nothing-at_first = refl

-- so it is lost at its end
lost-between : history_on calm twice 0 1 ≡ Accepts 1 (numbered 1) ∷ Loses 3 0 ∷ Accepts 4 (numbered 2) ∷ Gives 5 (numbered 2) ∷ []
lost-between = refl

not-kept : history_on calm twice 0 1 ≡ Accepts 1 (numbered 1) ∷ Accepts 4 (numbered 2) ∷ Gives 5 (numbered 2) ∷ [] → ⊥
not-kept same = let e : ◌≡◌ {A = List Act} (Accepts 1 (numbered 1) ∷ Loses 3 0 ∷ Accepts 4 (numbered 2) ∷ Gives 5 (numbered 2) ∷ []) (Accepts 1 (numbered 1) ∷ Accepts 4 (numbered 2) ∷ Gives 5 (numbered 2) ∷ []) = same in absurd cc

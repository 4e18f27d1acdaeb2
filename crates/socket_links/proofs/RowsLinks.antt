-- Small examples of what a link keeps and of what it says, and some that look like them and are none.
use Rattle.std.proofs.Common.{◌≡◌, ℕ, List, [], ◌∷◌, ◌++◌, ◌∙◌, Option, None, Some, codes, refl, ap, sym, subst, inl, inr, arith, append-nil}
use Rattle.topology.specs.declared.frame.Frame.{Frame}
use Rattle.topology.specs.declared.frame.Ranges.{Ranges}
use Rattle.byte_lines.specs.Kept.{kept}
use Rattle.byte_streams.specs.Streams.{Rose}
use Rattle.frame_codec.specs.Lines.{good_lines}
use Rattle.socket_links.specs.Counts.{Counts, HasEnded, NoneFell}
use Rattle.socket_links.specs.Pipes.{Writes}
use Rattle.socket_links.specs.Links.{HasPulled, waiting, unsent, IsBare, IsPulled, IsPushed, PullsOn, PushesOn, Offered, SaidLater, GaveBytes, HasBroken, Pulled, Pushed}
use Rattle.socket_links.specs.declared.link.SocketLink.{SocketLink}
use Rattle.socket_links.specs.declared.pipe.WriteAnswer.TheVariants as write
use Rattle.socket_links.specs.declared.writing.Flow.TheVariants as flow
use Rattle.socket_links.specs.declared.link.Offer.TheVariants as offer
use Rattle.socket_links.specs.declared.link.Pull.TheVariants as pull

abbrev none : Counts
none = record { later = 0; closed = 0; failed = 0 }

abbrev once_later : Counts
once_later = record { later = 1; closed = 0; failed = 0 }

abbrev once_closed : Counts
once_closed = record { later = 0; closed = 1; failed = 0 }

-- ---- counts

ended-closed : HasEnded none once_closed
ended-closed = inl (inl (omega arith))

ended_not-later : ¬ HasEnded none once_later
ended_not-later (inl (inl more)) = omega (arith, more)
ended_not-later (inl (inr most)) = grind (arith, most)
ended_not-later (inr (inl more)) = omega (arith, more)
ended_not-later (inr (inr most)) = grind (arith, most)

fell_not-one : ¬ NoneFell once_closed none
fell_not-one f = omega (arith, f.1)

fell-none : NoneFell none once_closed
fell-none = (omega arith, omega arith, omega arith)

-- ---- writes

-- a write takes the first bytes, at least one, and says Failed only if that count rose
writes-first : Writes (write.Wrote 1) (codes "ab") (Some []) (Some (codes "a")) none none
writes-first = (omega arith, omega arith, refl, (omega arith, omega arith, omega arith))

writes_not-second : ¬ Writes (write.Wrote 1) (codes "ab") (Some []) (Some (codes "b")) none none
writes_not-second w = grind (arith, w.2)

writes_not-none : ¬ Writes (write.Wrote 0) (codes "ab") (Some []) (Some []) none none
writes_not-none w = omega (arith, w.0)

writes_not-failed : ¬ Writes write.Failed (codes "ab") (Some []) (Some []) none none
writes_not-failed (same, fell, inl more) = omega (arith, more)
writes_not-failed (same, fell, inr most) = grind (arith, most)

abbrev line : Ranges
line = record { nodes = 3; counter = 5; ring = 13 }

module _ {P : Type 0} (gave took : P → Option (List ℕ)) (counts : P → Counts) (link : SocketLink P) where
  -- ---- what is kept

  -- of what was read, from 1 up to 3 waits; of the line, what follows its first byte
  waits : (rest : List ℕ) → link.bytes ≡ codes "abcd" ++ rest → link.from ≡ 1 → link.to ≡ 3 → waiting link ≡ codes "bc"
  waits rest bytes from to = rw (bytes, from, to) refl

  is-unsent : (rest : List ℕ) → link.line ≡ codes "F0" ++ rest → link.sent ≡ 1 → unsent link ≡ codes "0" ++ rest
  is-unsent rest text sent = rw (text, sent) refl

  bare-new : link.reader ≡ kept 21 [] → waiting link ≡ [] → unsent link ≡ [] → IsBare link
  bare-new reader waits written = (reader, waits, written)

  bare_not-waiting : waiting link ≡ codes "F" → ¬ IsBare link
  bare_not-waiting waits b = grind (arith, waits, b.1)

  bare_not-unsent : unsent link ≡ codes "F" → ¬ IsBare link
  bare_not-unsent left b = grind (arith, left, b.2)

  module _ (p : P) (pipe : link.pipe ≡ Some p) where
    -- half a line was looked at, and two bytes of it wait
    is-pulled : gave p ≡ Some (codes "xF00") → link.reader ≡ kept 21 (codes "F") → waiting link ≡ codes "00" → IsPulled line gave (codes "x") [] link
    is-pulled said reader waits = rw (pipe, said) (record { read = codes "F"; parts = rw waits refl; stands = reader; frames_are = refl })

    -- not so if it gave something else before
    pulled_not-other : gave p ≡ Some (codes "xF00") → ¬ IsPulled line gave (codes "y") [] link
    pulled_not-other said h =
        let pulled : HasPulled line (codes "y") [] (codes "xF00") link.reader (waiting link) = rw (pipe, said) at h in
        grind (arith, pulled.parts)

    -- the pipe took the beginning of a line, and the end of it is not yet written
    is-pushed : took p ≡ Some (codes "F0") → unsent link ≡ codes "01" → IsPushed took (codes "F001") link
    is-pushed wrote left = rw (pipe, wrote, left) refl

    pushed_not-all : took p ≡ Some (codes "F0") → unsent link ≡ codes "01" → ¬ IsPushed took (codes "F0") link
    pushed_not-all wrote left h =
        let e : codes "F0" ++ unsent link ≡ codes "F0" = rw (pipe, wrote) at h in
        let f : codes "F0" ++ codes "01" ≡ codes "F0" = rw left at e in grind (arith, f)

    -- what is all written has nothing more that was accepted
    pushes_not-more : took p ≡ Some [] → unsent link ≡ [] → ¬ PushesOn took (codes "F") link link
    pushes_not-more wrote written on =
        let before : IsPushed took [] link = rw (pipe, wrote) written in
        let after : IsPushed took (codes "F") link = on [] before in
        let e : unsent link ≡ codes "F" = rw (pipe, wrote) at after in grind (arith, written, e)

    -- of a pipe that gave nothing no frame was pulled
    none-read : (read : List ℕ) (f : Frame) → [] ≡ read ++ [] → good_lines line read ≡ f ∷ [] → ⊥
    none-read [] f parts are = let e : ◌≡◌ {A = List Frame} [] (f ∷ []) = are in absurd cc
    none-read (b ∷ read) f parts are = let e : ◌≡◌ {A = List ℕ} [] (b ∷ (read ++ [])) = parts in absurd cc

    pulls_not-more : (f : Frame) → gave p ≡ Some [] → link.reader ≡ kept 21 [] → waiting link ≡ [] → ¬ PullsOn line gave (f ∷ []) link link
    pulls_not-more f said reader empty on =
        let before : IsPulled line gave [] [] link = rw (pipe, said) (record { read = []; parts = sym empty; stands = reader; frames_are = refl }) in
        let after : IsPulled line gave [] (f ∷ []) link = on [] [] before in
        let pulled : HasPulled line [] (f ∷ []) [] link.reader (waiting link) = rw (pipe, said) at after in
        let parts : [] ≡ pulled.read ++ [] = pulled.parts ∙ ap (λ ws. pulled.read ++ ws) empty in
        none-read pulled.read f parts pulled.frames_are

  -- nothing more was pulled, and nothing was accepted, if nothing happened
  pulls-nothing : (r : Ranges) → PullsOn r gave [] link link
  pulls-nothing r start frames was = subst (λ xs. IsPulled r gave start xs link) (sym (append-nil frames)) was

  pushes-nothing : PushesOn took [] link link
  pushes-nothing lines was = subst (λ xs. IsPushed took xs link) (sym (append-nil lines)) was

  -- ---- answers

  -- a link without a pipe has nothing to give, and is not said to have broken
  pulled-loose : link.pipe ≡ None → waiting link ≡ [] → Pulled line gave took counts link link pull.Later
  pulled-loose loose empty = (pulls-nothing line, pushes-nothing, empty, rw loose refl)

  pulled_not-waiting : waiting link ≡ codes "F" → ¬ Pulled line gave took counts link link pull.Later
  pulled_not-waiting more h = grind (arith, more, h.2)

  pulled_not-broken : (p : P) → link.pipe ≡ Some p → ¬ Pulled line gave took counts link link pull.Broken
  pulled_not-broken p pipe h =
      let broken : ((after : P) × HasEnded (counts p) (counts after)) × (◌≡◌ {A = Option P} (Some p) None) × IsBare link = rw pipe at h in
      let e = broken.1 in absurd cc

  pulled_not-without : (f : Frame) → link.pipe ≡ None → ¬ Pulled line gave took counts link link (pull.Frame f)
  pulled_not-without f loose h = grind (arith, loose, h.2)

  pushed-all : unsent link ≡ [] → Pushed gave took counts link link flow.Done
  pushed-all written = (pushes-nothing, pulls-nothing, written, refl)

  pushed_not-done : unsent link ≡ codes "0" → ¬ Pushed gave took counts link link flow.Done
  pushed_not-done left h = grind (arith, left, h.2)

  -- a link is busy while a line of it is unsent, and loose without a pipe
  offered-busy : (p : P) → link.pipe ≡ Some p → unsent link ≡ codes "0" → Offered (codes "F") link link offer.Busy
  offered-busy p pipe left = ((λ e. grind (arith, left, e)), rw pipe refl, refl)

  offered_not-busy : unsent link ≡ [] → ¬ Offered (codes "F") link link offer.Busy
  offered_not-busy written h = h.0 written

  offered-loose : link.pipe ≡ None → Offered (codes "F") link link offer.Loose
  offered-loose loose = (loose, refl)

  offered_not-taken : unsent link ≡ codes "0" → ¬ Offered (codes "F") link link offer.Taken
  offered_not-taken left h = grind (arith, left, h.0)

module _ {P : Type 0} (gave : P → Option (List ℕ)) (counts : P → Counts) (old new : SocketLink P) (p q : P) (was : old.pipe ≡ Some p) where
  module _ (is : new.pipe ≡ Some q) where
    said-later : counts p ≡ none → counts q ≡ once_later → SaidLater counts old new
    said-later before after = rw (was, is, before, after) (inl (omega arith))

    later_not-closed : counts p ≡ none → counts q ≡ once_closed → ¬ SaidLater counts old new
    later_not-closed before after h = still (rw (was, is, before, after) at h) where
      still : Rose 0 0 → ⊥
      still (inl more) = omega (arith, more)
      still (inr most) = grind (arith, most)

    gave-one : gave p ≡ Some (codes "a") → gave q ≡ Some (codes "ab") → GaveBytes gave old new
    gave-one before after = rw (was, is, before, after) ((codes "b", omega arith, refl))

    -- a pipe that goes on stands, and has not broken
    broken_not-standing : ¬ HasBroken counts old new
    broken_not-standing h =
        let broken : ((after : P) × HasEnded (counts p) (counts after)) × (new.pipe ≡ None) × IsBare new = rw was at h in grind (arith, is, broken.1)

  has-broken : counts p ≡ none → counts q ≡ once_closed → new.pipe ≡ None → IsBare new → HasBroken counts old new
  has-broken before after gone bare = rw was ((q, rw (before, after) (inl (inl (omega arith)))), gone, bare)

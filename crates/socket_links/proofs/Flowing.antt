-- What a link says of its pipe's bytes goes on from call to call.
use Rattle.std.proofs.Common.{◌≡◌, ℕ, ◌+◌, ◌-◌, ◌<◌, List, [], ◌++◌, length, take, drop, Option, None, Some, ap, sym, ◌∙◌, arith, append_assoc, append-nil}
use Rattle.std.specs.Prelude.{MatchOption, ⊤, option_map}
use Rattle.std.proofs.lemmas.Grind.{common_steps}
use Rattle.std.proofs.lemmas.List.{take-append-drop, take_all, length-drop, drop-drop}
use Rattle.std.proofs.Math.Seq.{take-add}
use Rattle.topology.specs.declared.frame.Frame.{Frame}
use Rattle.topology.specs.declared.frame.Ranges.{Ranges}
use Rattle.byte_lines.specs.Kept.{Kept, kept}
use Rattle.byte_streams.specs.Streams.{Rose}
use Rattle.frame_codec.specs.Lines.{frames_after, ReadsFrames, ReadsOn}
use Rattle.socket_links.specs.Counts.{Counts, NoneFell}
use Rattle.socket_links.specs.Pipes.{GoesOn}
use Rattle.socket_links.specs.declared.link.SocketLink.{SocketLink}
use Rattle.socket_links.specs.Links.{HasPulled, Looks, waiting, unsent, PullsOn, PushesOn, SaidLater, GaveBytes}

-- bytes went on, and then more
goes_both : (xs ys : List ℕ) (before between after : Option (List ℕ)) → GoesOn xs before between → GoesOn ys between after → GoesOn (xs ++ ys) before after
goes_both xs ys None between after first second = grind (arith, common_steps)
goes_both xs ys (Some bytes) between after first second = grind (arith, common_steps)

pub rest_of : (bytes : List ℕ) (n : ℕ) → take (length bytes - n) (drop n bytes) ≡ drop n bytes
rest_of bytes n = let len = length-drop n bytes in take_all (length bytes - n) (drop n bytes) (omega (arith, len))

pub goes_more : (bytes : List ℕ) (n count : ℕ) (before between after : Option (List ℕ)) → GoesOn (take n bytes) before between
    → GoesOn (take count (take (length bytes - n) (drop n bytes))) between after → GoesOn (take (n + count) bytes) before after
goes_more bytes n count before between after first second =
    let more : GoesOn (take count (drop n bytes)) between after = rw (rest_of bytes n) at second in
    rw (take-add n count bytes) (goes_both (take n bytes) (take count (drop n bytes)) before between after first more)

pub fell_on : (a b c : Counts) → NoneFell a b → NoneFell b c → NoneFell a c
fell_on a b c first second = (omega (arith, first.0, second.0), omega (arith, first.1, second.1), omega (arith, first.2, second.2))

-- the front of a slice was looked at
pub looks : (r : Ranges) (old new : Kept) (slice waited waits : List ℕ) (used : ℕ) (said : List Frame) → slice ≡ waited → drop used waited ≡ waits
    → ReadsFrames r old new (take used slice) said → ReadsOn r old new (take used slice) said → Looks r old new waited waits said
looks r old new slice waited waits used said same left reads on = record {
  front = take used slice;
  parts = sym (take-append-drop used waited) ∙ ap (λ xs. take used waited ++ xs) left ∙ ap (λ xs. take used xs ++ waits) (sym same);
  on = on;
  said = reads.said;
}

module _ (r : Ranges) (start : List ℕ) where
  looked : (frames more : List Frame) (gave waited waits : List ℕ) (old new : Kept) → HasPulled r start frames gave old waited → Looks r old new waited waits more
      → HasPulled r start (frames ++ more) gave new waits
  looked frames more gave waited waits old new h l =
      let k = l.on h.read h.stands in
      record {
        read = h.read ++ l.front;
        parts = h.parts ∙ ap (λ xs. start ++ (h.read ++ xs)) l.parts ∙ ap (λ xs. start ++ xs) (sym (append_assoc h.read l.front waits));
        stands = k.0;
        frames_are = k.1 ∙ ap (λ fs. fs ++ more) h.frames_are;
      }

  none_looked : (frames : List Frame) (gave waited waits : List ℕ) (old new : Kept) → HasPulled r start frames gave old waited → Looks r old new waited waits []
      → HasPulled r start frames gave new waits
  none_looked frames gave waited waits old new h l =
      let k = looked frames [] gave waited waits old new h l in
      record { read = k.read; parts = k.parts; stands = k.stands; frames_are = k.frames_are ∙ append-nil frames }

  got : (frames : List Frame) (gave bytes : List ℕ) (reader : Kept) → HasPulled r start frames gave reader [] → HasPulled r start frames (gave ++ bytes) reader bytes
  got frames gave bytes reader h = record {
    read = h.read;
    parts = ap (λ xs. xs ++ bytes) (h.parts ∙ ap (λ xs. start ++ xs) (append-nil h.read)) ∙ append_assoc start h.read bytes;
    stands = h.stands;
    frames_are = h.frames_are;
  }

matched : {X : Type 0} (o : Option X) (A B : X → Type 0) → ((x : X) → A x → B x) → MatchOption o ⊤ A → MatchOption o ⊤ B
matched None A B f h = h
matched (Some x) A B f h = f x h

module _ {P : Type 0} (r : Ranges) (gave took : P → Option (List ℕ)) (counts : P → Counts) (old new : SocketLink P) where
  -- nothing was asked of the pipe
  pub pulls_look : (more : List Frame) → new.pipe ≡ old.pipe → Looks r old.reader new.reader (waiting old) (waiting new) more → PullsOn r gave more old new
  pulls_look more same l start frames h =
      rw same (matched old.pipe (λ pipe. MatchOption (gave pipe) ⊤ (λ bytes. HasPulled r start frames bytes old.reader (waiting old)))
      (λ pipe. MatchOption (gave pipe) ⊤ (λ bytes. HasPulled r start (frames ++ more) bytes new.reader (waiting new)))
      (λ pipe. matched (gave pipe) (λ bytes. HasPulled r start frames bytes old.reader (waiting old))
      (λ bytes. HasPulled r start (frames ++ more) bytes new.reader (waiting new))
      (λ bytes k. looked r start frames more bytes (waiting old) (waiting new) old.reader new.reader k l)) h)

  pub pushes_look : new.pipe ≡ old.pipe → unsent new ≡ unsent old → PushesOn took [] old new
  pushes_look same left lines h = rw (same, left, append-nil lines) h

  -- the pipe was asked
  module _ (before after : P) (was : old.pipe ≡ Some before) (is : new.pipe ≡ Some after) where
    pub pushes_same : took after ≡ took before → unsent new ≡ unsent old → PushesOn took [] old new
    pushes_same same left lines h =
        let k : MatchOption (took before) ⊤ (λ bytes. bytes ++ unsent old ≡ lines) = rw was at h in
        rw (is, same, left, append-nil lines) k

    pub said_later : Rose (counts before).later (counts after).later → SaidLater counts old new
    said_later rose = rw (was, is) rose

    pub gave_bytes : (bytes : List ℕ) → 0 < length bytes → GoesOn bytes (gave before) (gave after) → GaveBytes gave old new
    gave_bytes bytes some goes = rw (was, is) (bytes, some, goes)

    -- it gave bytes, and they were looked at
    pub pulls_got : (mid : Kept) (waits bytes : List ℕ) (more : List Frame) → GoesOn bytes (gave before) (gave after)
        → Looks r old.reader mid (waiting old) waits [] → waits ≡ [] → Looks r mid new.reader bytes (waiting new) more → PullsOn r gave more old new
    pulls_got mid waits bytes more goes l none l2 start frames h =
        let k : MatchOption (gave before) ⊤ (λ xs. HasPulled r start frames xs old.reader (waiting old)) = rw was at h in
        let l' : Looks r old.reader mid (waiting old) [] [] = rw none at l in
        let by_gave : (o : Option (List ℕ)) → MatchOption o ⊤ (λ xs. HasPulled r start frames xs old.reader (waiting old))
        → MatchOption (option_map (λ xs. xs ++ bytes) o) ⊤ (λ xs. HasPulled r start (frames ++ more) xs new.reader (waiting new)) = elim [
          | None ↦ λ m. m
          | Some xs ↦ λ m. looked r start frames more (xs ++ bytes) bytes (waiting new) mid new.reader
              (got r start frames xs bytes mid (none_looked r start frames xs (waiting old) [] old.reader mid m l')) l2
        ] in
        rw (is, goes) (by_gave (gave before) k)

    pub flows_got : (mid : Kept) (waits bytes : List ℕ) (more : List Frame) → GoesOn bytes (gave before) (gave after)
        → Looks r old.reader mid (waiting old) waits [] → waits ≡ [] → Looks r mid new.reader bytes (waiting new) more
        → took after ≡ took before → unsent new ≡ unsent old → PullsOn r gave more old new × PushesOn took [] old new
    flows_got mid waits bytes more goes l none l2 same left = (pulls_got mid waits bytes more goes l none l2, pushes_same same left)

-- by the parts of a link alone: its pipe, its reader, what waits, and what is not yet written
abbrev Pulls : {P : Type 0} → Ranges → (P → Option (List ℕ)) → List ℕ → List Frame → Option P → Kept → List ℕ → Type 0
Pulls r gave start frames pipe reader waits = MatchOption pipe ⊤ (λ p. MatchOption (gave p) ⊤ (λ bytes. HasPulled r start frames bytes reader waits))

abbrev Pushes : {P : Type 0} → (P → Option (List ℕ)) → List ℕ → Option P → List ℕ → Type 0
Pushes took lines pipe left = MatchOption pipe ⊤ (λ p. MatchOption (took p) ⊤ (λ bytes. bytes ++ left ≡ lines))

module _ {P : Type 0} (gave took : P → Option (List ℕ)) (old : Option P) (before after : P) (was : old ≡ Some before) where
  -- nothing was given
  pub pulls_none : gave after ≡ gave before → (reader : Kept) (waits : List ℕ) (q : Ranges) (start : List ℕ) (frames : List Frame)
      → Pulls q gave start frames old reader waits → Pulls q gave start (frames ++ []) (Some after) reader waits
  pulls_none same reader waits q start frames h =
      let k : MatchOption (gave before) ⊤ (λ bytes. HasPulled q start frames bytes reader waits) = rw was at h in
      rw (same, append-nil frames) k

  pub pulls_later : gave after ≡ gave before → (r : Ranges) (reader mid : Kept) (waited waits : List ℕ) → Looks r reader mid waited waits [] → waits ≡ []
      → (start : List ℕ) (frames : List Frame) → Pulls r gave start frames old reader waited → Pulls r gave start (frames ++ []) (Some after) mid []
  pulls_later same r reader mid waited waits l none start frames h =
      let k : MatchOption (gave before) ⊤ (λ bytes. HasPulled r start frames bytes reader waited) = rw was at h in
      let l' : Looks r reader mid waited [] [] = rw none at l in
      rw (same, append-nil frames) (matched (gave before) (λ bytes. HasPulled r start frames bytes reader waited) (λ bytes. HasPulled r start frames bytes mid [])
      (λ bytes m. none_looked r start frames bytes waited [] reader mid m l') k)

  -- nothing was taken
  pub pushes_none : took after ≡ took before → (left now : List ℕ) → now ≡ left → (lines : List ℕ) → Pushes took lines old left
      → Pushes took (lines ++ []) (Some after) now
  pushes_none same left now is lines h =
      let k : MatchOption (took before) ⊤ (λ bytes. bytes ++ left ≡ lines) = rw was at h in
      rw (same, is, append-nil lines) k

  -- the front of what is left was taken
  pub pushes_front : (count : ℕ) (left now : List ℕ) → GoesOn (take count left) (took before) (took after) → now ≡ drop count left → (lines : List ℕ)
      → Pushes took lines old left → Pushes took (lines ++ []) (Some after) now
  pushes_front count left now goes is lines h =
      let k : MatchOption (took before) ⊤ (λ xs. xs ++ left ≡ lines) = rw was at h in
      let by_took : (o : Option (List ℕ)) → MatchOption o ⊤ (λ xs. xs ++ left ≡ lines)
      → MatchOption (option_map (λ xs. xs ++ take count left) o) ⊤ (λ xs. xs ++ drop count left ≡ lines) = elim [
        | None ↦ λ m. m
        | Some xs ↦ λ m. append_assoc xs (take count left) (drop count left) ∙ ap (λ ys. xs ++ ys) (take-append-drop count left) ∙ m
      ] in
      rw (goes, is, append-nil lines) (by_took (took before) k)

  -- so some of a line was written, and what was pulled stands
  pub written_on : (line : List ℕ) (sent count : ℕ) (reader : Kept) (waits : List ℕ) → GoesOn (take count (drop sent line)) (took before) (took after) → gave after ≡ gave before
      → ((lines : List ℕ) → Pushes took lines old (drop sent line) → Pushes took (lines ++ []) (Some after) (drop (sent + count) line))
      × ((q : Ranges) (start : List ℕ) (frames : List Frame) → Pulls q gave start frames old reader waits → Pulls q gave start (frames ++ []) (Some after) reader waits)
  written_on line sent count reader waits goes same =
      (pushes_front count (drop sent line) (drop (sent + count) line) goes (sym (drop-drop count sent line)), pulls_none same reader waits)

-- the pipe was there
pub asked : {X : Type 0} (o : Option X) (x : X) (A B : Type 0) → o ≡ Some x → B → MatchOption o A (λ y. B)
asked o x A B e b = rw e b

-- where all was looked at and no frame was said, no good line ended in it
pub no_frame : (r : Ranges) (old new : Kept) (waited waits : List ℕ) → Looks r old new waited waits [] → waits ≡ []
    → (half : List ℕ) → old ≡ kept 21 half → frames_after r half waited ≡ []
no_frame r old new waited waits l none half is =
    let all : waited ≡ l.front = l.parts ∙ rw none (append-nil l.front) in
    ap (frames_after r half) all ∙ sym (l.said half is)

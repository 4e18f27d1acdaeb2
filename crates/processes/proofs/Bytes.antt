-- What a connection of bytes gives of frames.
use Rattle.std.proofs.Common.{◌≡◌, ◌≢◌, ℕ, ◌/◌, ◌%◌, List, [], ◌∷◌, ◌++◌, Option, Some, IsTrue, length, drop, refl, ap, ◌∙◌, sym, subst, arith}
use Rattle.std.proofs.lemmas.Grind.{common_steps}
use Rattle.std.proofs.lemmas.List.{append_assoc, append-nil}
use Rattle.std.specs.List.{filter_map}
use Rattle.topology.specs.Ranges.{frame_fits}
use Rattle.topology.specs.declared.frame.Frame.{Frame}
use Rattle.topology.specs.declared.frame.Ranges.{Ranges}
use Rattle.byte_lines.specs.Laws.{LinesGrow}
use Rattle.byte_lines.specs.Lines.{newline, HasNoNewline, lines_after, half_line}
use Rattle.frame_codec.specs.Laws.{AreNarrow, OneReading, AnyCutting, JunkEndsAtNewline}
use Rattle.frame_codec.specs.Lines.{good_lines, frames_after}
use Rattle.frame_codec.specs.Reading.{frame_of}
use Rattle.frame_codec.specs.Spelling.{digit, digits, parent_number, spelling}
use Rattle.processes.specs.Links.{Act}
use Rattle.processes.proofs.Connections.{connections-play}
use Rattle.processes.proofs.Frames.{of-accepts, EachInRange, each-in_range}
use Rattle.processes.specs.Connections.{accepted_frames, given_frames, KeepsOrder, line_of, lines_of, Ended, left_after, left_over, history_over, KeepOrder, AreInRange, CarriesActs, CarryActs}
use Rattle.processes.specs.LinkLaws.{PipesAreConnections, ConnectionsGiveABeginning, BytesKeepOrder, JunkSpoilsOneFrame, BytesAreHistory}

digit-goes-on : (d : ℕ) → digit d ≢ 10
digit-goes-on d e = grind arith

digits-go-on : (n : ℕ) (rest : List ℕ) → HasNoNewline rest → HasNoNewline (digits n ++ rest)
digits-go-on n rest h = (digit-goes-on (n / 4096 % 16), (digit-goes-on (n / 256 % 16), (digit-goes-on (n / 16 % 16), (digit-goes-on (n % 16), h))))

-- no byte of a spelling ends a line
spelling-goes-on : (f : Frame) → HasNoNewline (spelling f)
unfolding spelling
spelling-goes-on f =
    let ring : HasNoNewline (digits f.payload.ring)
    = (digit-goes-on (f.payload.ring / 4096 % 16), (digit-goes-on (f.payload.ring / 256 % 16), (digit-goes-on (f.payload.ring / 16 % 16), (digit-goes-on (f.payload.ring % 16), tt)))) in (
      (λ e. absurd (omega arith)),
      digits-go-on f.seq (digits f.ack ++ (digits f.payload.distance ++ (digits (parent_number f.payload.parent) ++ digits f.payload.ring)))
          (digits-go-on f.ack (digits f.payload.distance ++ (digits (parent_number f.payload.parent) ++ digits f.payload.ring))
          (digits-go-on f.payload.distance (digits (parent_number f.payload.parent) ++ digits f.payload.ring)
          (digits-go-on (parent_number f.payload.parent) (digits f.payload.ring) ring))),
    )

drop-front : {X : Type 0} (xs ys : List X) → drop (length xs) (xs ++ ys) ≡ ys
drop-front [] ys = refl
drop-front (x ∷ xs) ys = drop-front xs ys

module _ (one : OneReading) (cutting : AnyCutting) (ends : JunkEndsAtNewline) (grow : LinesGrow) where
  -- a text that was cut in two has the good lines of the front, and then more
  cut-in-two : (r : Ranges) (front back : List ℕ) → good_lines r (front ++ back) ≡ good_lines r front ++ frames_after r (half_line front) back
  cut-in-two r front back =
      sym (ap (λ text. good_lines r (front ++ text)) (append-nil back)) ∙ (sym (cutting r (front ∷ back ∷ []))
      ∙ ap (λ fs. good_lines r front ++ fs) (append-nil (frames_after r (half_line front) back)))

  -- the line of a frame is read as that frame
  line-is-read : (r : Ranges) (f : Frame) → AreNarrow r → IsTrue (frame_fits r f) → good_lines r (line_of f) ≡ f ∷ []
  line-is-read r f narrow fits =
      let is-line : lines_after [] (line_of f) ≡ spelling f ∷ [] = grow.ended [] (spelling f) [] (spelling-goes-on f) in
      let is-read : frame_of r (spelling f) ≡ Some f = (one r narrow (spelling f) f).1 (refl, fits) in
      ap (filter_map (frame_of r)) is-line ∙ by-read (frame_of r) (spelling f) f is-read
    where
      by-read : (g : List ℕ → Option Frame) (x : List ℕ) (f : Frame) → g x ≡ Some f → filter_map g (x ∷ []) ≡ f ∷ []
      by-read g x f e = grind (arith, common_steps)

  line-then : (r : Ranges) (junk : List ℕ) (f : Frame) (text : List ℕ) → good_lines r (junk ++ (line_of f ++ text)) ≡ good_lines r (junk ++ line_of f) ++ good_lines r text
  line-then r junk f text =
      let whole : junk ++ (line_of f ++ text) ≡ (junk ++ spelling f) ++ newline ∷ text
      = ap (λ xs. junk ++ xs) (append_assoc (spelling f) (newline ∷ []) text) ∙ sym (append_assoc junk (spelling f) (newline ∷ text)) in
      let front : (junk ++ spelling f) ++ newline ∷ [] ≡ junk ++ line_of f = append_assoc junk (spelling f) (newline ∷ []) in
      ap (good_lines r) whole ∙ (ends r (junk ++ spelling f) text ∙ ap (λ xs. good_lines r xs ++ good_lines r text) front)

  lines-are-read : (r : Ranges) (fs : List Frame) → AreNarrow r → AreInRange r fs → good_lines r (lines_of fs) ≡ fs
  lines-are-read r [] narrow fit = refl
  lines-are-read r (f ∷ fs) narrow fit =
      line-then r [] f (lines_of fs)
      ∙ (ap (λ xs. xs ++ good_lines r (lines_of fs)) (line-is-read r f narrow fit.0) ∙ ap (λ xs. f ∷ xs) (lines-are-read r fs narrow fit.1))

  pub give-beginning : ConnectionsGiveABeginning
  give-beginning r junk accepted pulled c =
      let rest = frames_after r (half_line c.read) c.ahead in
      (rest, sym (ap (good_lines r) c.beginning) ∙ (cut-in-two r c.read c.ahead ∙ ap (λ fs. fs ++ rest) c.pulled_are))

  pub keep-order : BytesKeepOrder
  keep-order r junk capacity acts narrow none fit c within =
      let left = give-beginning r junk (accepted_frames acts) (given_frames acts) c in
      let whole : good_lines r (junk ++ lines_of (accepted_frames acts)) ≡ good_lines r junk ++ accepted_frames acts
      = cut-in-two r junk (lines_of (accepted_frames acts)) ∙ ap (λ fs. good_lines r junk ++ fs)
      (ap (λ half. frames_after r half (lines_of (accepted_frames acts))) none ∙ lines-are-read r (accepted_frames acts) narrow fit) in
      (left.0, record { kept = sym whole ∙ left.1; within = within })

  -- what is left is what comes after all that was given
  carries-order : (r : Ranges) (junk : List ℕ) (capacity : ℕ) (acts : List Act) → AreNarrow r → half_line junk ≡ [] → AreInRange r (accepted_frames acts)
      → CarriesActs r capacity junk acts → KeepsOrder capacity (good_lines r junk) acts (left_after (good_lines r junk) acts)
  carries-order r junk capacity acts narrow none fit c =
      let found = keep-order r junk capacity acts narrow none fit c.bytes c.within in
      let left-is : left_after (good_lines r junk) acts ≡ found.0
      = ap (drop (length (given_frames acts))) found.1.kept ∙ drop-front (given_frames acts) found.0 in
      subst (λ left. KeepsOrder capacity (good_lines r junk) acts left) (sym left-is) found.1

  carry-order : (r : Ranges) (cs : List Ended) (junk : List ℕ) (capacity : ℕ) (acts : List Act) → AreNarrow r → half_line junk ≡ [] → EachInRange r cs acts
      → CarryActs r capacity junk cs acts → KeepOrder capacity (good_lines r junk) cs acts (left_over (good_lines r junk) cs acts)
  carry-order r [] junk capacity acts narrow none fit c = carries-order r junk capacity acts narrow none fit c
  carry-order r (e ∷ cs) junk capacity acts narrow none fit c =
      (carries-order r junk capacity e.acts narrow none fit.0 c.0, carry-order r cs [] capacity acts narrow refl fit.1 c.1)

  pub are-history : BytesAreHistory
  are-history r junk capacity sent taken cs acts narrow fit link =
      let way = good_lines r junk in
      let all : accepted_frames (history_over way cs acts) ≡ accepted_frames sent = sym (of-accepts (history_over way cs acts)) ∙ ap accepted_frames link.accepted in
      let each = each-in_range r way cs acts (subst (λ fs. AreInRange r fs) (sym all) fit) in
      record {
        accepted = link.accepted;
        given = link.given;
        in_order = link.in_order;
        plays = connections-play capacity way (left_over way cs acts) cs acts (carry-order r cs junk capacity acts narrow link.whole each link.connections);
      }

  pub spoils-one : JunkSpoilsOneFrame
  spoils-one r junk f fs narrow fit =
      line-then r junk f (lines_of fs) ∙ ap (λ xs. good_lines r (junk ++ line_of f) ++ xs) (lines-are-read r fs narrow fit)

pub pipes-connect : PipesAreConnections
pipes-connect r accepted pulled took unsent gave ahead waiting reader pushed has piped =
    let whole : has.read ++ (waiting ++ (ahead ++ unsent)) ≡ lines_of accepted
    = sym (append_assoc has.read waiting (ahead ++ unsent)) ∙ (ap (λ xs. xs ++ (ahead ++ unsent)) (sym has.parts)
    ∙ (sym (append_assoc gave ahead unsent) ∙ (ap (λ xs. xs ++ unsent) piped ∙ pushed))) in
    record { read = has.read; ahead = waiting ++ (ahead ++ unsent); beginning = whole; pulled_are = has.frames_are }

-- A text may be cut anywhere: its frames are those of the front, and then those of the back after
-- the front's half line.
use Rattle.std.proofs.Common.{◌≡◌, ℕ, List, [], ◌∷◌, ◌++◌, refl, ap, sym, ◌∙◌, append_assoc}
use Rattle.std.proofs.lemmas.List.Elements.{filter_map-append}
use Rattle.std.specs.List.{concat}
use Rattle.topology.specs.declared.frame.Frame.{Frame}
use Rattle.topology.specs.declared.frame.Ranges.{Ranges}
use Rattle.byte_lines.specs.Laws.{LinesAreCut}
use Rattle.byte_lines.specs.Lines.{newline, lines_after, half_after, half_line}
use Rattle.byte_lines.specs.Kept.{Kept, kept}
use Rattle.frame_codec.specs.Reading.{frame_of}
use Rattle.frame_codec.specs.Lines.{frames_after, good_lines, ReadsFrames, ReadsOn, frames_of_pieces}

module _ (cut : LinesAreCut) (r : Ranges) where
  pub frames_cut : (half xs ys : List ℕ) → frames_after r half (xs ++ ys) ≡ frames_after r half xs ++ frames_after r (half_after half xs) ys
  frames_cut half xs ys = rw cut.lines (filter_map-append (frame_of r) (lines_after half xs) (lines_after (half_after half xs) ys))

  -- what follows a newline is read as from the start
  pub junk_ends : (junk text : List ℕ) → good_lines r (junk ++ newline ∷ text) ≡ good_lines r (junk ++ newline ∷ []) ++ good_lines r text
  junk_ends junk text =
      let whole : junk ++ newline ∷ text ≡ (junk ++ newline ∷ []) ++ text = sym (append_assoc junk (newline ∷ []) text) in
      let start : half_after [] (junk ++ newline ∷ []) ≡ [] = cut.half [] junk (newline ∷ []) in
      rw (whole, frames_cut [] (junk ++ newline ∷ []) text, start) refl

  -- a stream in pieces
  pub pieces_join : (half : List ℕ) (pieces : List (List ℕ)) → frames_of_pieces r half pieces ≡ frames_after r half (concat pieces)
  pieces_join half [] = refl
  pieces_join half (piece ∷ pieces) = rw (pieces_join (half_after half piece) pieces, frames_cut half piece (concat pieces)) refl

  -- a reader that had read a text has then read the piece too
  pub reads_on : (old new : Kept) (piece : List ℕ) (frames : List Frame) → ReadsFrames r old new piece frames → ReadsOn r old new piece frames
  reads_on old new piece frames reads text stands =
      let half = half_line text in (
        reads.half half stands ∙ ap (kept 21) (sym (cut.half [] text piece)),
        frames_cut [] text piece ∙ ap (λ fs. good_lines r text ++ fs) (sym (reads.said half stands)),
      )

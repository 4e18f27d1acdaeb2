-- Texts that are read piece by piece.
use Rattle.std.proofs.Common.{◌≡◌, ◌∙◌, ap, sym, ℕ, ◌+◌, ◌-◌, ◌≤◌, List, [], ◌++◌, Option, Some, length, take, drop, refl, arith}
use Rattle.std.proofs.Math.Seq.{take-add}
use Rattle.std.proofs.lemmas.Grind.{common_steps}
use Rattle.std.proofs.lemmas.List.{take-take, length-drop}
use Rattle.byte_streams.specs.Streams.{Gives, GivesNext, HasRead}
use Rattle.byte_streams.specs.Laws.{PiecesMakeTheText}

-- what a source gives that still has these bytes to give
given : (count : ℕ) (before after : Option (List ℕ)) (buffer rest : List ℕ) → before ≡ Some rest → Gives count before after buffer → GivesNext count rest after buffer
given count before after buffer rest is gives = rw is at gives

-- n bytes have been read, and then `count` more
read_more : (bytes : List ℕ) (after : Option (List ℕ)) (n count : ℕ) → n ≤ length bytes → count ≤ length (drop n bytes) → after ≡ Some (drop count (drop n bytes))
    → HasRead (n + count) bytes after
read_more bytes after n count within more is = grind (arith, common_steps)

-- the bytes that have been taken, and the first ones of the buffer
piece_read : (bytes buffer : List ℕ) (n count k : ℕ) → take count buffer ≡ take count (drop n bytes) → k ≤ count
    → take n bytes ++ take k buffer ≡ take (n + k) bytes
piece_read bytes buffer n count k same few =
    let first : take k buffer ≡ take k (drop n bytes) =
    sym (take-take k count buffer few) ∙ ap (take k) same ∙ take-take k count (drop n bytes) few in
    ap (λ xs. take n bytes ++ xs) first ∙ sym (take-add n k bytes)

pub pieces_make_the_text : PiecesMakeTheText
pieces_make_the_text = record {
  more = λ bytes n count before after buffer read gives.
      let next = given count before after buffer (drop n bytes) read.1 gives in
      read_more bytes after n count read.0 next.0 next.2;
  next = λ bytes n count k before after buffer read gives few.
      piece_read bytes buffer n count k (given count before after buffer (drop n bytes) read.1 gives).1 few;
  end = λ bytes n before after buffer read gives room.
      let next = given 0 before after buffer (drop n bytes) read.1 gives in
      let none : drop n bytes ≡ [] = next.3 refl room in
      let left : length bytes - n ≡ 0 = sym (length-drop n bytes) ∙ ap length none in
      (next.2 ∙ ap Some none, omega (arith, left, read.0));
}

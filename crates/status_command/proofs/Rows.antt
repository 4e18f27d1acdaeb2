-- What is asked, answered and shown: examples by hand.
use Rattle.std.proofs.Common.{◌≡◌, inl, inr, arith, true, false, None, Some, [], ◌∷◌, codes, refl}
use Rattle.std.specs.Fmt.{digits}
use Rattle.status_readings.specs.declared.minute.Sample.{Sample}
use Rattle.status_command.specs.declared.question.Question.TheVariants.{Status, Look}
use Rattle.status_command.specs.declared.screen.Screen.TheVariants.{Blocks, Lines}
use Rattle.status_command.specs.Asking.{question_path, AreWordsOf, is_answered, line_or_empty, nodes_of}
use Rattle.std.specs.declared.io.ErrorKind.TheVariants as kind
use Rattle.status_command.specs.declared.notice.StatusNotice.TheVariants.{Output, Closed, Memory}
use Rattle.status_command.specs.NoticeText.{notice_line}
use Rattle.status_command.specs.Reasons.{notice_status, why_not_written, IsEnd}
use Rattle.status_command.specs.Shown.{after_block, is_in_place, minute_after}

-- each is asked at its own socket
path-status : question_path Status (codes "run") 2 ≡ codes "run/desk-2.sock"
unfolding digits
path-status = refl

path-look : question_path Look (codes "run") 2 ≡ codes "run/look-2.sock"
unfolding digits
path-look = refl

-- a desk reads the word only with its newline
words-status : AreWordsOf Status (codes "status\n")
words-status = refl

words_not-whole : ¬ AreWordsOf Status (codes "status")
words_not-whole e = absurd (cc)

words_not-look : ¬ AreWordsOf Look (codes "status\n")
words_not-look e = absurd (cc)

-- an answer is there only once its line ends
answered-line : is_answered Status (codes "node\n") ≡ true
answered-line = refl

answered_not-half : is_answered Status (codes "node") ≡ false
answered_not-half = refl

-- no line is the empty one
line-none : line_or_empty None ≡ []
line-none = refl

nodes-two : nodes_of (record { node = 4; line = None } ∷ record { node = 1; line = None } ∷ []) ≡ 4 ∷ 1 ∷ []
nodes-two = refl

-- an empty line goes between two blocks, not in front of the first
block-first : after_block (Blocks false) ≡ Blocks true
block-first = refl

block_not-lines : after_block Lines ≡ Lines
block_not-lines = refl

in-place-blocks : is_in_place (Blocks true) ≡ false
in-place-blocks = refl

-- a node that says nothing leaves the minute as it was
abbrev old : Sample
old = record { at = 1000; count = 3; lately = 70; present = 0; rounds = 9 }

minute_not-silent : minute_after 1500 (record { node = 2; said = None } ∷ []) (old ∷ []) ≡ old ∷ []
minute_not-silent = refl

minute-said : minute_after 1500
    (record { node = 2; said = Some (record { count = 4; lately = 80; present = None; rounds = 12 }) } ∷ []) (old ∷ [])
    ≡ old ∷ record { at = 1500; count = 4; lately = 80; present = 0; rounds = 12 } ∷ []
minute-said = refl

-- a reader that is gone is no failure of the output; a full disk is
unwritten-gone : why_not_written kind.BrokenPipe ≡ Closed
unwritten-gone = refl

unwritten-full : why_not_written kind.StorageFull ≡ Output
unwritten-full = refl

unwritten-memory : why_not_written kind.OutOfMemory ≡ Memory
unwritten-memory = refl

unwritten_not-full : why_not_written kind.StorageFull ≡ Closed → ⊥
unwritten_not-full e = absurd cc

says-memory : notice_line Memory ≡ codes "tokentree: out of memory"
says-memory = refl

says-output : notice_line Output ≡ codes "tokentree: standard output cannot be written"
says-output = refl

status-gone : notice_status Closed ≡ 141
status-gone = refl

status-full : notice_status Output ≡ 1
status-full = refl

end-answered : IsEnd 0
end-answered = inl (omega arith)

end_not-invalid : ¬ IsEnd 2
end_not-invalid (inl few) = omega arith
end_not-invalid (inr gone) = omega arith

use Rattle.std.proofs.Common.{◌≡◌, ◌∙◌, refl, ap, length, take, drop, slice_index}
use Rattle.frame_codec.proofs.Readings.{fields, number_again}
use Rattle.frame_codec.specs.Spelling.{spelling, parent_number}
use Rattle.frame_codec.proofs.frame_line.spelled_frame.Goals as goal
use Rattle.frame_codec.proofs.frame_line.spelled_frame.Goals.{then-line-ne21-via-then-line-ne21, then-line-ne21-via-else-line-ne21+then-line-ne70}

pub returns-then-line-ne21-clause-none : goal.returns-then-line-ne21-clause-none
unfolding spelling
returns-then-line-ne21-clause-none c = λ f e. elim c.then-line-ne21.branch [
  | then-line-ne21-via-then-line-ne21 w ↦ w.if-line-ne21.true (ap length e)
  | then-line-ne21-via-else-line-ne21+then-line-ne70 w ↦ w.if-line-ne70.true (ap (λ line. slice_index line 0) e)
]

pub returns-in_err-number_at-clause-none : goal.returns-in_err-number_at-clause-none
unfolding spelling
returns-in_err-number_at-clause-none c =
    rw c.from_residual.ensures (λ f e. c.in_err-number_at.ensures.none f.seq (ap (λ line. take 4 (drop 1 line)) e))

pub returns-in_err-number_at-2-clause-none : goal.returns-in_err-number_at-2-clause-none
unfolding spelling
returns-in_err-number_at-2-clause-none c =
    rw c.from_residual-in_err-number_at-2.ensures (λ f e. c.in_err-number_at-2.ensures.none f.ack (ap (λ line. take 4 (drop 5 line)) e))

pub returns-in_err-number_at-3-clause-none : goal.returns-in_err-number_at-3-clause-none
unfolding spelling
returns-in_err-number_at-3-clause-none c =
    rw c.from_residual-in_err-number_at-3.ensures
    (λ f e. c.in_err-number_at-3.ensures.none f.payload.distance (ap (λ line. take 4 (drop 9 line)) e))

pub returns-in_err-number_at-4-clause-none : goal.returns-in_err-number_at-4-clause-none
unfolding spelling
returns-in_err-number_at-4-clause-none c =
    rw c.from_residual-in_err-number_at-4.ensures
    (λ f e. c.in_err-number_at-4.ensures.none (parent_number f.payload.parent) (ap (λ line. take 4 (drop 13 line)) e))

pub returns-in_err-number_at-5-clause-none : goal.returns-in_err-number_at-5-clause-none
unfolding spelling
returns-in_err-number_at-5-clause-none c =
    rw c.from_residual-in_err-number_at-5.ensures
    (λ f e. c.in_err-number_at-5.ensures.none f.payload.ring (ap (λ line. take 4 (drop 17 line)) e))

pub returns-clause-some : goal.returns-clause-some
unfolding spelling
returns-clause-some c =
    let line = c.args.line.now in
    let (s, is_s) = c.in_ok-number_at.ensures.some in
    let (a, is_a) = c.in_ok-number_at-2.ensures.some in
    let (d, is_d) = c.in_ok-number_at-3.ensures.some in
    let (p, is_p) = c.in_ok-number_at-4.ensures.some in
    let (x, is_x) = c.in_ok-number_at-5.ensures.some in
    let again : parent_number c.parent_of.result ≡ c.in_ok-number_at-4.field-0 = rw c.parent_of.ensures (number_again c.in_ok-number_at-4.field-0) in (
      fields line c.if-line-ne21.false ∙ rw (c.if-line-ne70.false, s, a, d, p, x, again) refl,
      rw (is_s, is_a, is_d, is_x, c.parent_of.ensures, is_p) refl,
    )

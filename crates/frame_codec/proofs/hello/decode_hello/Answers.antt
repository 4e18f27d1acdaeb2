use Rattle.std.proofs.Common.{◌≡◌, ◌∙◌, drop, take, slice_index, length, arith, refl, ap, Some}
use Rattle.frame_codec.specs.Reading.{number_from}
use Rattle.frame_codec.proofs.Readings.{id_field, number_of}
use Rattle.frame_codec.proofs.hello.decode_hello.Goals as goal
use Rattle.frame_codec.proofs.hello.decode_hello.Goals.{then-line-ne5-via-then-line-ne5, then-line-ne5-via-else-line-ne5+then-line-ne72}

pub returns-then-line-ne5-clause-only : goal.returns-then-line-ne5-clause-only
returns-then-line-ne5-clause-only c = λ id e small. elim c.then-line-ne5.branch [
  | then-line-ne5-via-then-line-ne5 w ↦ absurd (w.if-line-ne5.true (ap length e))
  | then-line-ne5-via-else-line-ne5+then-line-ne72 w ↦ absurd (w.if-line-ne72.true (ap (λ line. slice_index line 0) e))
]

pub returns-in_err-id-clause-only : goal.returns-in_err-id-clause-only
returns-in_err-id-clause-only c = λ id e small. absurd (c.in_err-id.ensures.none id (ap (λ line. take 4 (drop 1 line)) e))

pub returns-then-id-nodes-clause-found : goal.returns-then-id-nodes-clause-found
returns-then-id-nodes-clause-found c =
    let spelled = c.in_ok-id.ensures.some.0 in (
      id_field c.args.line.now c.if-line-ne5.false ∙ rw (c.if-line-ne72.false, spelled) refl,
      rw (← c.nodes.ensures.nodes) c.if-id-nodes.true,
    )

pub returns-then-id-nodes-clause-only : goal.returns-then-id-nodes-clause-only
returns-then-id-nodes-clause-only c =
    λ id e small. ap Some (c.in_ok-id.ensures.some.1 ∙ (ap (λ line. number_from line 1) e ∙ number_of id (omega arith)))

pub returns-else-id-nodes-clause-only : goal.returns-else-id-nodes-clause-only
returns-else-id-nodes-clause-only c = λ id e small.
    let same : c.in_ok-id.id ≡ id = c.in_ok-id.ensures.some.1 ∙ (ap (λ line. number_from line 1) e ∙ number_of id (omega arith)) in
    absurd (omega arith)

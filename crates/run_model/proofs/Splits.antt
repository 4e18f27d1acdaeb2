-- Lists that hold sweeps, split and joined.
use Rattle.std.proofs.Common.{◌≡◌, ℕ, ◌+◌, ◌≤◌, zero, suc, List, [], ◌++◌, refl, sym, ◌∙◌, ap, subst, arith, append_assoc}
use Rattle.run_model.specs.World.{World}
use Rattle.run_model.specs.Run.{run}
use Rattle.run_model.specs.Sweep.{Sweeps}
use Rattle.run_model.specs.declared.event.Event.{Event}
use Rattle.run_model.proofs.Runs.{runs-join}

pub sweeps-grow : (w : World) (r : ℕ) (es back : List Event) → Sweeps w r es → Sweeps w r (es ++ back)
sweeps-grow w zero es back s = tt
sweeps-grow w (suc r) es back (first, rest, e, sweep, s) = (
  first,
  rest ++ back,
  ap (λ l. l ++ back) e ∙ append_assoc first rest back,
  sweep,
  sweeps-grow (run w first) r rest back s,
)

pub fewer-sweeps : (w : World) (r s : ℕ) (es : List Event) → r ≤ s → Sweeps w s es → Sweeps w r es
fewer-sweeps w zero s es l h = tt
fewer-sweeps w (suc r) zero es l h = absurd (omega arith)
fewer-sweeps w (suc r) (suc s) es l (first, rest, e, sweep, h) = (first, rest, e, sweep, fewer-sweeps (run w first) r s rest (omega arith) h)

pub sweeps-split_sum : (w : World) (r s n : ℕ) (es : List Event) → n ≡ r + s → Sweeps w n es
    → (first rest : List Event) × (es ≡ first ++ rest) × Sweeps w r first × Sweeps (run w first) s rest
sweeps-split_sum w zero s n es k h = ([], es, refl, tt, subst (λ m. Sweeps w m es) (omega arith) h)
sweeps-split_sum w (suc r) s zero es k h = absurd (omega arith)
sweeps-split_sum w (suc r) s (suc n) es k (one, others, e, sweep, h) =
    let (first, rest, same, a, b) = sweeps-split_sum (run w one) r s n others (omega arith) h in (
      one ++ first,
      rest,
      e ∙ ap (λ l. one ++ l) same ∙ sym (append_assoc one first rest),
      (one, first, refl, sweep, a),
      subst (λ x. Sweeps x s rest) (sym (runs-join w one first)) b,
    )

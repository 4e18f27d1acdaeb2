use Rattle.std.proofs.Common.{◌≡◌, ◌⊎◌, ◌∙◌, Bool, false, inl, inr, refl, ap, sym, arith}
use Rattle.std.proofs.lemmas.Grind.{common_steps}
use Rattle.node_recorder.specs.flight_recorder.View.{RecorderView}
use Rattle.node_recorder.specs.flight_recorder.Recorder.{after_failure, after_write, is_due}
use Rattle.record_files.proofs.tape.Tape.write_if_due.Goals as goal

-- a page that was just written has no bytes
not-due : (is_quiet : Bool) (r : RecorderView) → is_due is_quiet (after_write r) ≡ false
not-due is_quiet r = grind (arith, common_steps)

none-due : (is_quiet : Bool) (old new : RecorderView) → (new ≡ after_write old) ⊎ (new ≡ after_failure old) → is_due is_quiet new ≡ false
none-due is_quiet old new (inl e) = ap (is_due is_quiet) e ∙ not-due is_quiet old
none-due is_quiet old new (inr e) = ap (is_due is_quiet) e

pub returns-then-is_stopped : goal.returns-then-is_stopped
returns-then-is_stopped g c = record {
  written = ap (λ r. is_due c.args.is_quiet r.pages) c.stop.ensures.recorder;
  backlog = ap (λ r. r.backlog) c.stop.ensures.recorder;
  recorder = inr (inr c.stop.ensures.recorder);
  linked = c.stop.ensures.linked;
}

pub returns-then-is_due : goal.returns-then-is_due
returns-then-is_due g c = record {
  written = none-due _ _ _ c.write.ensures.pages;
  backlog = c.write.ensures.backlog;
  recorder = c.write.ensures.recorder;
  linked = c.write.ensures.linked;
}

pub returns-else-is_due : goal.returns-else-is_due
returns-else-is_due g c = record {
  written = sym (ap (is_due c.args.is_quiet) c.pages-else-is_stopped.ensures) ∙ (sym c.is_due.ensures ∙ c.if-is_due.false);
  backlog = refl;
  recorder = inl refl;
  linked = refl;
}

use Rattle.std.proofs.Common.{inl, inr, refl, ap}
use Rattle.record_files.proofs.tape.Tape.write.Goals as goal

pub invariant_of-self : goal.invariant_of-self
invariant_of-self g c = record { ids = c.args.self.now.ids }

pub invariant_of-self-else-wrote : goal.invariant_of-self-else-wrote
invariant_of-self-else-wrote g c = record { ids = c.args.self.now.ids }

pub returns-then-wrote : goal.returns-then-wrote
returns-then-wrote g c = record {
  backlog = ap (λ r. r.backlog) c.wrote.ensures.after;
  pages = inl (ap (λ r. r.pages) c.wrote.ensures.after);
  recorder = inr (inl c.wrote.ensures.after);
  linked = refl;
}

pub returns-else-wrote : goal.returns-else-wrote
returns-else-wrote g c = record {
  backlog = ap (λ r. r.backlog) c.wrote.ensures.after;
  pages = inl (ap (λ r. r.pages) c.wrote.ensures.after);
  recorder = inr (inl c.wrote.ensures.after);
  linked = refl;
}

pub returns-in-Err : goal.returns-in-Err
returns-in-Err g c = record {
  backlog = ap (λ r. r.backlog) c.stop.ensures.recorder;
  pages = inr (ap (λ r. r.pages) c.stop.ensures.recorder);
  recorder = inr (inr c.stop.ensures.recorder);
  linked = c.stop.ensures.linked;
}

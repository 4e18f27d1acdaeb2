use Rattle.run_film.proofs.Films.{defined_kept, each_deed, keeps_on}
use Rattle.run_film.proofs.frames.put_frames_between.Goals as goal

pub returns-clause-frames : goal.returns-clause-frames
returns-clause-frames c =
    let first = c.in_ok-put_frame.ensures in
    let second = c.in_ok-put_frame-2.ensures in
    let third = c.in_ok-put_frame-3.ensures in
    let waiting = c.in_ok-put_waiting_symbol.ensures in
    record {
      deeds = each_deed _ (λ there. defined_kept _ _ _ waiting.keeps (defined_kept _ _ _ third.keeps (defined_kept _ _ _ second.keeps (first.frame there))))
          (λ there. defined_kept _ _ _ waiting.keeps (defined_kept _ _ _ third.keeps (second.frame there)))
          (λ there. defined_kept _ _ _ waiting.keeps (third.frame there));
      waiting = waiting.waiting;
    }

pub returns-clause-keeps : goal.returns-clause-keeps
returns-clause-keeps c =
    keeps_on _ _ _ c.in_ok-put_frame.ensures.keeps
    (keeps_on _ _ _ c.in_ok-put_frame-2.ensures.keeps (keeps_on _ _ _ c.in_ok-put_frame-3.ensures.keeps c.in_ok-put_waiting_symbol.ensures.keeps))

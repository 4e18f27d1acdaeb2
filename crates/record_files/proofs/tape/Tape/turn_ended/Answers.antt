use Rattle.std.proofs.Common.{◌≡◌, ◌||◌, ◌∙◌, ℕ, Bool, true, false, not, List, inl, inr, refl, ap, sym}
use Rattle.std.proofs.lemmas.Bool.{false≢true}
use Rattle.node_recorder.specs.Backlog.{nothing}
use Rattle.node_recorder.specs.Quiet.{is_quiet}
use Rattle.node_recorder.specs.Turns.{Records}
use Rattle.node_recorder.specs.declared.recorder.NodeRecorder.{NodeRecorder}
use Rattle.node_recorder.specs.flight_recorder.flight_records.declared.entry.Deed.{Deed}
use Rattle.node_recorder.specs.node_follower.node_core.View.{NodeView}
use Rattle.record_files.proofs.tape.Tape.turn_ended.Goals as goal

module _ {A : Type 0} (now : ℕ) (deeds : List Deed) (has_all may_wait : Bool) (node : NodeView) (old new : NodeRecorder A) where
  -- where no deed may wait, none does
  none-waits : old.pages.is_stopped ≡ false → may_wait ≡ false → Records now deeds has_all may_wait node old new → new.backlog ≡ nothing
  none-waits runs may (inl r) = absurd (false≢true (sym runs ∙ r.0))
  none-waits runs may (inr (inl s)) = ap (λ r. r.backlog) s.state.rest
  none-waits runs may (inr (inr (inl s))) = ap (λ r. r.backlog) s.state.rest
  none-waits runs may (inr (inr (inr (inl k)))) = absurd (false≢true (sym may ∙ k.may))
  none-waits runs may (inr (inr (inr (inr s)))) =
      elim s.settled [ inl d ↦ ap (λ r. r.backlog) d.rest | inr d ↦ ap (λ r. r.backlog) d.rest ]

pub returns-then-is_stopped : goal.returns-then-is_stopped
returns-then-is_stopped g c =
    let ends : c.args.self.now.recorder.pages.is_stopped ≡ true =
    sym (ap (λ p. p.is_stopped) c.pages.ensures) ∙ (sym c.is_stopped.ensures ∙ c.if-is_stopped.true) in
    record {
      stopped = λ _. refl;
      written = rw ends refl;
      settled = λ runs. elim (false≢true (sym runs ∙ ends)) [ ];
      noted = λ runs. elim (false≢true (sym runs ∙ ends)) [ ];
      linked = λ runs. elim (false≢true (sym runs ∙ ends)) [ ];
    }

pub invariant_of-self : goal.invariant_of-self
invariant_of-self g c = record { ids = c.args.self.now.ids }

pub returns-clause-stopped : goal.returns-clause-stopped
returns-clause-stopped g c ends =
    absurd (false≢true (sym c.if-is_stopped.false ∙ (c.is_stopped.ensures ∙ (ap (λ p. p.is_stopped) c.pages.ensures ∙ ends))))

pub returns-clause-written : goal.returns-clause-written
returns-clause-written g c = rw c.is_quiet-is_quiet.ensures at c.write_if_due.ensures.written

pub returns-clause-settled : goal.returns-clause-settled
returns-clause-settled g c runs settles =
    let a = c.args in
    let may : c.may_wait-may_wait.result ≡ false = rw (c.may_wait-may_wait.ensures, c.is_quiet-is_quiet.ensures) (ap not settles) in
    let none = none-waits _ a.deeds.now a.has_all _ a.node.now a.self.now.recorder c.turn_ended.new.self runs may c.turn_ended.ensures in
    rw c.write_if_due.ensures.backlog (c.note_links.ensures.settled may none)

pub returns-clause-noted : goal.returns-clause-noted
returns-clause-noted g c runs =
    let may : c.may_wait-may_wait.result ≡ not (is_quiet c.args.deeds.now || c.args.must_settle) =
    c.may_wait-may_wait.ensures ∙ ap (λ q. not (q || c.args.must_settle)) c.is_quiet-is_quiet.ensures in
    record {
      turned = c.turn_ended.new.self;
      linked = c.note_links.new.self.recorder;
      turn = rw (c.saturating_add-instant.ensures, may) at c.turn_ended.ensures;
      connections = rw (c.saturating_add-instant.ensures, may) at c.note_links.ensures.noted;
      ends = c.write_if_due.ensures.recorder;
    }

pub returns-clause-linked : goal.returns-clause-linked
returns-clause-linked g c runs id less = rw c.write_if_due.ensures.linked (c.note_links.ensures.linked id less)

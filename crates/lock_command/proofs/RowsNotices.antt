-- Lines on standard error and when they are reported: small examples, written by hand, with some
-- that fail.
use Rattle.std.proofs.Common.{◌≡◌, ◌≢◌, ℕ, List, [], ◌∷◌, true, false, Some, None, codes, map, refl, arith, inl, inr}
use Rattle.std.specs.Borrow.{Bor}
use Rattle.std.specs.Fmt.{digits}
use Rattle.std.specs.declared.io.ErrorKind.TheVariants as kind
use Rattle.lock_client.specs.declared.answer.Answer.TheVariants as answer
use Rattle.lock_client.specs.declared.client.ClientDeed.TheVariants as deed
use Rattle.lock_client.specs.declared.client.ClientEvent.TheVariants as event
use Rattle.lock_client.specs.declared.outcome.CommandEnd.TheVariants.{Exited}
use Rattle.lock_client.specs.declared.outcome.Outcome.TheVariants as outcome
use Rattle.held_signals.specs.declared.signals.Signal.TheVariants.{Terminate}
use Rattle.lock_command.specs.declared.notice.Cause.TheVariants as cause
use Rattle.lock_command.specs.declared.notice.Fate.TheVariants as fate
use Rattle.lock_command.specs.declared.notice.Notice.TheVariants as notice
use Rattle.lock_command.specs.NoticeText.{cause_text, fate_text, notice_text, notice_line}
use Rattle.lock_command.specs.Notices.{loss_notice, end_notice, course_notice, why_unserved, vain_notice, no_wait_notice}
use Rattle.lock_command.specs.Reaching.{missing_notice, unreached_notice, IsUnreached, unread_notice, IsUnread, IsUnanswered, IsUnbegun, IsUnreachable, IsUnasked}
use Rattle.lock_command.specs.Seconds.{decimals_text, seconds_text}

-- ---- seconds

seconds : map seconds_text (1500 ∷ 2000 ∷ 10050 ∷ 1 ∷ []) ≡ codes "1.5" ∷ codes "2" ∷ codes "10.05" ∷ codes "0.001" ∷ []
unfolding digits
seconds = refl

-- no zero stands at the end
decimals_not-zeros : decimals_text 120 ≡ codes ".12"
unfolding digits
decimals_not-zeros = refl

-- ---- lines

cause-ended : cause_text cause.Ended ≡ codes "ended the loan"
cause-ended = refl

fate-runs_on : fate_text fate.RunsOn ≡ codes "the command runs on without it"
fate-runs_on = refl

lost : notice_line (notice.Lost 2 cause.WentAway fate.Ended)
    ≡ codes "tokentree: the lock is lost, since node 2 went away: the command is ended"
unfolding digits
lost = refl

unguarded : notice_line (notice.GuardGone fate.RunsOn)
    ≡ codes "tokentree: the second process of this lock is gone, which guards the command: the command runs on without it"
unguarded = refl

late : notice_line (notice.NotInTime 12 (record { millis = 2500 }))
    ≡ codes "tokentree: node 12 did not lend the lock within 2.5 s"
unfolding digits
late = refl

granted : notice_line (notice.Granted 0) ≡ codes "tokentree: node 0 granted the lock"
unfolding digits
granted = refl

no-memory : notice_line notice.Memory ≡ codes "tokentree: out of memory"
no-memory = refl

no-output : notice_line notice.Output ≡ codes "tokentree: standard output cannot be written"
no-output = refl

lines_not-same : notice_text (notice.Granted 0) ≢ notice_text (notice.Released 0)
unfolding digits
lines_not-same = grind arith

module _ (folder : Bor (List ℕ)) (run : folder.now ≡ codes "run") where
  nobody-listens : notice_line (notice.NoNode folder 2) ≡ codes "tokentree: nobody listens at run/desk-2.sock: start node 2, if the network has it"
  unfolding digits
  nobody-listens = rw run refl

  no-folder : notice_line (notice.NoFolder folder) ≡ codes "tokentree: there is no folder run"
  no-folder = rw run refl

  too-long : notice_line (notice.TooLong folder 2)
      ≡ codes "tokentree: run/desk-2.sock is too long for a socket's name: 107 bytes at most"
  unfolding digits
  too-long = rw run refl

-- ---- which one when

loss-guard : loss_notice 2 event.GuardGone fate.Ended ≡ notice.GuardGone fate.Ended
loss-guard = refl

loss-gone : loss_notice 2 event.Gone fate.RunsOn ≡ notice.Lost 2 cause.WentAway fate.RunsOn
loss-gone = refl

loss-word : loss_notice 2 (event.Line answer.Lost) fate.Ended ≡ notice.Lost 2 cause.Ended fate.Ended
loss-word = refl

-- a command's own status is not reported; a node that did not say that the lock was held is
end_not-own : end_notice 2 notice.System (event.Line answer.Released) (outcome.Done (Exited 3)) ≡ None
end_not-own = refl

end-in_doubt : end_notice 2 notice.System event.TimeIsUp outcome.Lost ≡ Some (notice.InDoubt 2)
end-in_doubt = refl

-- a loss is reported when it comes, and not again at the end
end_not-again : end_notice 2 notice.System (event.Ended (Exited 0)) outcome.Lost ≡ None
end_not-again = refl

end-late : end_notice 2 (notice.NoRoom 2) event.TimeIsUp outcome.NotInTime ≡ Some (notice.NoRoom 2)
end-late = refl

end-no_service : end_notice 2 notice.System (event.Line answer.Stranger) outcome.NoService ≡ Some (notice.NoService 2)
end-no_service = refl

end_not-unserved : end_notice 2 notice.System event.Unserved outcome.NoService ≡ None
end_not-unserved = refl

end_not-signal : end_notice 2 notice.System (event.Signal Terminate) (outcome.Stopped Terminate) ≡ None
end_not-signal = refl

course-granted : course_notice 2 (event.Line answer.Granted) deed.Start ≡ Some (notice.Granted 2)
course-granted = refl

course-released : course_notice 2 (event.Line answer.Released) (deed.Finish (outcome.Done (Exited 3))) ≡ Some (notice.Released 2)
course-released = refl

course_not-late : course_notice 2 event.TimeIsUp (deed.Finish (outcome.Done (Exited 3))) ≡ None
course_not-late = refl

vain-no_room : vain_notice true 2 (Some (record { millis = 500 })) ≡ notice.NoRoom 2
vain-no_room = refl

vain-late : vain_notice false 2 (Some (record { millis = 500 })) ≡ notice.NotInTime 2 (record { millis = 500 })
vain-late = refl

no-wait : no_wait_notice kind.OutOfMemory ≡ notice.Memory
no-wait = refl

no-wait_not-memory : no_wait_notice kind.Interrupted ≡ notice.System
no-wait_not-memory = refl

module _ (folder : Bor (List ℕ)) where
  unserved-gone : why_unserved (notice.NoNode folder 2) ≡ notice.WentAway 2
  unserved-gone = refl

  unserved_not-other : why_unserved (notice.Forbidden folder) ≡ notice.Forbidden folder
  unserved_not-other = refl

  -- ---- why a desk is not reached

  missing-folder : missing_notice false folder 2 ≡ notice.NoFolder folder
  missing-folder = refl

  missing-node : missing_notice true folder 2 ≡ notice.NoNode folder 2
  missing-node = refl

  unreached-refused : unreached_notice kind.ConnectionRefused true folder 2 ≡ notice.NoNode folder 2
  unreached-refused = refl

  unreached-right : unreached_notice kind.PermissionDenied true folder 2 ≡ notice.Forbidden folder
  unreached-right = refl

  unreached-full : unreached_notice kind.WouldBlock true folder 2 ≡ notice.NoService 2
  unreached-full = refl

  unread-file : unread_notice kind.NotADirectory folder ≡ notice.NoFolder folder
  unread-file = refl

  unread-right : unread_notice kind.PermissionDenied folder ≡ notice.Forbidden folder
  unread-right = refl

  is-unreached : IsUnreached folder 2 (notice.TooLong folder 2)
  is-unreached = inr (kind.InvalidInput, true, refl)

  is-unread : IsUnread folder notice.System
  is-unread = (kind.Uncategorized, refl)

  is-unanswered : IsUnanswered folder (notice.NobodyListens folder)
  is-unanswered = inr (inl refl)

  is-unbegun : IsUnbegun notice.Memory
  is-unbegun = inr refl

  -- a session that fails to begin is not reported as granted
  unbegun_not-granted : ¬ IsUnbegun (notice.Granted 2)
  unbegun_not-granted (inl e) = grind (arith, e)
  unbegun_not-granted (inr e) = grind (arith, e)

  -- what is reported of one node names that node, not the whole folder
  is-unreachable : IsUnreachable folder (Some 2) (notice.NoNode folder 2)
  is-unreachable = inr (kind.NotFound, true, refl)

  unreachable-any : IsUnreachable folder None (notice.NoAnswer folder)
  unreachable-any = inr (inr (inl refl))

  -- a lock that was not asked for is not lost
  unread_not-lost : ¬ IsUnread folder (notice.NoNode folder 2)
  unread_not-lost (why, e) = grind (arith, e)

  unanswered_not-lost : ¬ IsUnanswered folder (notice.WentAway 2)
  unanswered_not-lost (inl e) = grind (arith, e)
  unanswered_not-lost (inr (inl e)) = grind (arith, e)
  unanswered_not-lost (inr (inr (inl e))) = grind (arith, e)
  unanswered_not-lost (inr (inr (inr (inl e)))) = grind (arith, e)
  unanswered_not-lost (inr (inr (inr (inr (why, e))))) = grind (arith, e)

  unreached_not-answered : ¬ IsUnreached folder 2 (notice.NoAnswer folder)
  unreached_not-answered (inl e) = grind (arith, e)
  unreached_not-answered (inr (why, there, e)) = grind (arith, e)

  is-unasked : IsUnasked folder (Some 2) notice.System
  is-unasked = inr (inl refl)

  unasked_not-in_doubt : ¬ IsUnasked folder None (notice.InDoubt 2)
  unasked_not-in_doubt (inr (inl e)) = grind (arith, e)
  unasked_not-in_doubt (inr (inr e)) = grind (arith, e)
  unasked_not-in_doubt (inl (inl e)) = grind (arith, e)
  unasked_not-in_doubt (inl (inr (inl e))) = grind (arith, e)
  unasked_not-in_doubt (inl (inr (inr (inl e)))) = grind (arith, e)
  unasked_not-in_doubt (inl (inr (inr (inr (inl e))))) = grind (arith, e)
  unasked_not-in_doubt (inl (inr (inr (inr (inr (why, e)))))) = grind (arith, e)

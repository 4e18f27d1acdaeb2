-- What each part of a turn does to a port's connection.
use Rattle.std.proofs.Common.{◌≡◌, ◌⊎◌, ℕ, Bool, true, false, List, [], ◌∷◌, ◌++◌, Option, None, Some, is_some, refl, inl, inr, ap, sym, subst, ◌∙◌, append-nil, arith}
use Rattle.std.specs.Prelude.{MatchOption, ⊤}
use Rattle.std.proofs.lemmas.Grind.{common_steps}
use Rattle.topology.specs.declared.frame.Frame.{Frame}
use Rattle.topology.specs.declared.frame.Ranges.{Ranges}
use Rattle.pace.specs.declared.port.PortPace.{PortPace}
use Rattle.socket_links.specs.Counts.{Counts}
use Rattle.socket_links.specs.Links.{HasPulled, IsPulled, IsPushed, Offered, Pushed, PullsOn, SaidLater, waiting}
use Rattle.socket_links.specs.declared.link.SocketLink.{SocketLink}
use Rattle.socket_links.specs.declared.link.Offer.{Offer}
use Rattle.socket_links.specs.declared.link.Offer.TheVariants as offer
use Rattle.socket_links.specs.declared.writing.Flow.{Flow}
use Rattle.socket_links.specs.declared.writing.Flow.TheVariants as flow
use Rattle.node_loop.specs.node_connections.declared.port.NodePort.{NodePort}
use Rattle.node_loop.specs.node_connections.Hearing.{Wires, Pulls, Breaks}
use Rattle.node_loop.specs.node_connections.Speaking.{Follows, OffersIf, PushesOut, PortSpeaks}
use Rattle.node_loop.specs.Speaking.{SpeaksTo, sent_if}
use Rattle.node_loop.proofs.node_connections.Pushing.{offered-on}
use Rattle.processes.specs.Connections.{line_of}
use Rattle.running_nodes.proofs.Passing.{Passes, pass-same, pass-on, pass-break, pass-new, pass-join, pass-then}

none-of : {X : Type 0} (o : Option X) → is_some o ≡ false → o ≡ None
none-of None e = refl
none-of (Some x) e = grind (arith, e)

module _ {P : Type 0} (r : Ranges) (gave took : P → Option (List ℕ)) (counts : P → Counts) where
  same-link : (a b : SocketLink P) → b ≡ a → Passes r gave took [] [] a b
  same-link a b e = subst (λ x. Passes r gave took [] [] a x) (sym e) (pass-same r gave took a)

  -- connections come
  pub wires-pass : (a b : NodePort P) → Wires a b → Passes r gave took [] [] a.link b.link
  wires-pass a b (inl e) = same-link a.link b.link e.0
  wires-pass a b (inr new) = pass-new r gave took a.link b.link new.1

  -- frames come
  ends-pass : (a b : NodePort P) → (b ≡ a) ⊎ Breaks counts a b → Passes r gave took [] [] a.link b.link
  ends-pass a b (inl e) = same-link a.link b.link (ap (λ p. p.link) e)
  ends-pass a b (inr broken) = pass-break r gave took a.link b.link broken.0.1

  pub pulls-pass : (frames : List Frame) (a b : NodePort P) → Pulls r gave took counts frames a b → Passes r gave took frames [] a.link b.link
  pulls-pass frames a b h =
      let come = h.comes.come in
      pass-then r gave took frames [] a.link h.last.link b.link
      (pass-on r gave took frames [] a.link h.last.link come.pulled come.pushed come.stands (λ e. (come.loose (none-of a.link.pipe e), refl)))
      (ends-pass h.last b h.ends)

  -- what was left of a line goes out
  said-stands : (a b : SocketLink P) → SaidLater counts a b → is_some b.pipe ≡ is_some a.pipe
  said-stands a b h = grind (arith, common_steps)

  flows-pass : (came : Flow) (a b : SocketLink P) → Pushed gave took counts a b came → Passes r gave took [] [] a b
  flows-pass flow.Done a b h = pass-on r gave took [] [] a b (h.1 r) h.0 h.3 (λ e. (refl, refl))
  flows-pass flow.Later a b h = pass-on r gave took [] [] a b (h.1 r) h.0 (said-stands a b h.2) (λ e. (refl, refl))
  flows-pass flow.Broken a b h = pass-break r gave took a b h.1

  pub pushes-pass : (a b : NodePort P) → PushesOut gave took counts a b → Passes r gave took [] [] a.link b.link
  pushes-pass a b h = flows-pass h.came a.link b.link h.pushed

  -- a frame is offered
  stays-pulled : (line : List ℕ) (a b : SocketLink P) → Offered line a b offer.Taken → PullsOn r gave [] a b
  stays-pulled line a b h start frames was =
      subst (λ xs. IsPulled r gave start xs b) (sym (append-nil frames))
      (subst (λ pipe. MatchOption pipe ⊤ (λ p. MatchOption (gave p) ⊤ (λ bytes. HasPulled r start frames bytes b.reader (waiting b)))) (sym h.2)
      (subst (λ reader. MatchOption a.pipe ⊤ (λ p. MatchOption (gave p) ⊤ (λ bytes. HasPulled r start frames bytes reader (waiting b)))) (sym h.4)
      (subst (λ waits. MatchOption a.pipe ⊤ (λ p. MatchOption (gave p) ⊤ (λ bytes. HasPulled r start frames bytes a.reader waits))) (sym h.5) was)))

  accepted-pass : (f : Frame) (a b : SocketLink P) → Offered (line_of f) a b offer.Taken → Passes r gave took [] (f ∷ []) a b
  accepted-pass f a b h =
      pass-on r gave took [] (f ∷ []) a b (stays-pulled (line_of f) a b h)
      (λ lines was. subst (λ xs. IsPushed took (lines ++ xs) b) (sym (append-nil (line_of f))) (offered-on took (line_of f) a b h lines was))
      (ap (λ p. is_some p) h.2) (λ e. absurd (grind (arith, e, h)))

  answers-pass : (answer : Offer) (f : Frame) (is_taken : Bool) (a m b : NodePort P) → Offered (line_of f) a.link m.link answer
      → Follows gave took counts answer m b is_taken → Passes r gave took [] (sent_if is_taken f) a.link b.link
  answers-pass offer.Taken f is_taken a m b h g =
      subst (λ t. Passes r gave took [] (sent_if t f) a.link b.link) (sym g.1)
      (pass-then r gave took [] (f ∷ []) a.link m.link b.link (accepted-pass f a.link m.link h) (pushes-pass m b g.0))
  answers-pass offer.Busy f is_taken a m b h g =
      subst (λ t. Passes r gave took [] (sent_if t f) a.link b.link) (sym g.1) (same-link a.link b.link (ap (λ p. p.link) g.0 ∙ h.2))
  answers-pass offer.Loose f is_taken a m b h g =
      subst (λ t. Passes r gave took [] (sent_if t f) a.link b.link) (sym g.1) (same-link a.link b.link (ap (λ p. p.link) g.0 ∙ h.1))

  offers-pass : (is_offered : Bool) (f : Frame) (is_taken : Bool) (a b : NodePort P) → OffersIf gave took counts is_offered (line_of f) a b is_taken
      → Passes r gave took [] (sent_if is_taken f) a.link b.link
  offers-pass true f is_taken a b h = answers-pass h.answer f is_taken a h.accepted b h.offered h.follows
  offers-pass false f is_taken a b h =
      subst (λ t. Passes r gave took [] (sent_if t f) a.link b.link) (sym h.1) (same-link a.link b.link (ap (λ p. p.link) h.0))

  pub speaks-pass : (f : Frame) (is_offered : Bool) (now : ℕ) (was is : PortPace) (sent : List Frame) (a b : NodePort P)
      → SpeaksTo gave took counts f is_offered now was is sent a b → Passes r gave took [] sent a.link b.link
  speaks-pass f is_offered now was is sent a b h =
      let port : PortSpeaks gave took counts (line_of f) is_offered a b h.is_taken = h.port in
      subst (λ xs. Passes r gave took [] xs a.link b.link) (sym h.sends)
      (pass-join r gave took [] [] [] (sent_if h.is_taken f) a.link port.pushed.link b.link (pushes-pass a port.pushed port.pushes)
      (offers-pass is_offered f h.is_taken port.pushed b port.offers))

-- The two ends of a connection, and links of pipes.
use Rattle.std.proofs.Common.{◌≡◌, ℕ, List, [], ◌∷◌, ◌++◌, Option, None, Some, refl, ap, sym, subst, ◌∙◌, append-nil, append_assoc}
use Rattle.std.specs.Prelude.{MatchOption, ⊤, option_to_list}
use Rattle.std.specs.List.{AllByRecursion}
use Rattle.topology.specs.declared.frame.Ranges.{Ranges}
use Rattle.socket_links.specs.Links.{HasPulled, unsent, waiting}
use Rattle.processes.specs.Links.{Act}
use Rattle.processes.specs.Connections.{given_frames, lines_of, IsConnection, CarriesActs, CarryActs, Ended, IsLinkOfBytes}
use Rattle.running_nodes.specs.Laws.{EndsAreConnections}
use Rattle.running_nodes.specs.Pipes.{Carries, CarryOn, Ends, GaveSince, IsLinkOfPipes, TookSince, intos_of, outs_of, sent_at}
use Rattle.running_nodes.specs.Stood.{Stood, IsStood}

cancel : (xs ys zs : List ℕ) → xs ++ ys ≡ xs ++ zs → ys ≡ zs
cancel [] ys zs e = e
cancel (x ∷ xs) ys zs e =
    let f : ◌≡◌ {A = List ℕ} (x ∷ (xs ++ ys)) (x ∷ (xs ++ zs)) = e in
    let g : xs ++ ys ≡ xs ++ zs = cc in
    cancel xs ys zs g

matched : {X : Type 0} (A : X → Type 0) (o : Option X) (x : X) → o ≡ Some x → MatchOption o ⊤ A → A x
matched A o x e h = subst (λ p. MatchOption p ⊤ A) e h

module _ {P : Type 0} (gave took : P → Option (List ℕ)) where
  -- what the one end read
  pulled : (r : Ranges) (c : Stood P) (given : List ℕ) → IsStood r gave took c → GaveSince gave c given
      → HasPulled r c.start.given c.taken (c.start.given ++ given) c.link.reader (waiting c.link)
  pulled r c given h g =
      matched (λ bytes. HasPulled r c.start.given c.taken bytes c.link.reader (waiting c.link)) (gave g.pipe) (c.start.given ++ given) g.all
      (matched (λ pipe. MatchOption (gave pipe) ⊤ (λ bytes. HasPulled r c.start.given c.taken bytes c.link.reader (waiting c.link))) c.link.pipe g.pipe g.stands h.pulled)

  -- what the other end wrote, and has yet to write
  pushed : (r : Ranges) (c : Stood P) (taken : List ℕ) → IsStood r gave took c → TookSince took c taken → taken ≡ lines_of c.sent
  pushed r c taken h t =
      let is : t.taken ++ unsent c.link ≡ c.start.taken ++ lines_of c.sent
      = matched (λ bytes. bytes ++ unsent c.link ≡ c.start.taken ++ lines_of c.sent) (took t.pipe) t.taken t.reports
      (matched (λ pipe. MatchOption (took pipe) ⊤ (λ bytes. bytes ++ unsent c.link ≡ c.start.taken ++ lines_of c.sent)) c.link.pipe t.pipe t.stands h.pushed) in
      cancel c.start.taken taken (lines_of c.sent) (sym t.all ∙ is)

  -- what was read and what waits, and then what is ahead
  reads : (r : Ranges) (junk sent given ahead : List ℕ) (c : Stood P) (h : HasPulled r c.start.given c.taken (c.start.given ++ given) c.link.reader (waiting c.link))
      → given ++ ahead ≡ junk ++ sent → h.read ++ (waiting c.link ++ ahead) ≡ junk ++ sent
  reads r junk sent given ahead c h e =
      sym (append_assoc h.read (waiting c.link) ahead)
      ∙ (ap (λ xs. xs ++ ahead) (sym (cancel c.start.given given (h.read ++ waiting c.link) h.parts)) ∙ e)

  pub ends-connect : EndsAreConnections gave took
  ends-connect r junk out None is-out is-into e = record { read = []; ahead = junk ++ lines_of (sent_at out); beginning = refl; pulled_are = refl }
  ends-connect r junk None (Some into) is-out is-into e =
      let has = pulled r into e.given is-into e.gives in
      record {
        read = has.read;
        ahead = waiting into.link ++ e.ahead;
        beginning = reads r junk [] e.given e.ahead into has (e.beginning ∙ sym (append-nil junk));
        pulled_are = has.frames_are;
      }
  ends-connect r junk (Some out) (Some into) is-out is-into e =
      let has = pulled r into e.given is-into e.gives in
      record {
        read = has.read;
        ahead = waiting into.link ++ e.ahead;
        beginning = reads r junk (lines_of out.sent) e.given e.ahead into has (e.beginning ∙ ap (λ xs. junk ++ xs) (pushed r out e.taken is-out e.takes));
        pulled_are = has.frames_are;
      }

  front : (Q : Stood P → Type 0) (o : Option (Stood P)) (rest : List (Stood P)) → AllByRecursion Q (option_to_list o ++ rest) → MatchOption o ⊤ Q × AllByRecursion Q rest
  front Q None rest h = (tt, h)
  front Q (Some c) rest h = (h.0, h.1)

  carries : (r : Ranges) (capacity : ℕ) (junk : List ℕ) (acts : List Act) (ends : Ends P) → Carries r capacity gave took junk acts ends
      → MatchOption ends.out ⊤ (λ c. IsStood r gave took c) → MatchOption ends.into ⊤ (λ c. IsStood r gave took c) → CarriesActs r capacity junk acts
  carries r capacity junk acts ends c is-out is-into = record {
    bytes = subst (λ fs. IsConnection r junk fs (given_frames acts)) (sym c.accepted)
        (subst (λ fs. IsConnection r junk (sent_at ends.out) fs) (sym c.given) (ends-connect r junk ends.out ends.into is-out is-into c.joined));
    within = c.within;
  }

  carry-on : (r : Ranges) (capacity : ℕ) (cs : List Ended) (ends : List (Ends P)) (junk : List ℕ) (acts : List Act) → CarryOn r capacity gave took junk cs acts ends
      → AllByRecursion (IsStood r gave took) (outs_of ends) → AllByRecursion (IsStood r gave took) (intos_of ends) → CarryActs r capacity junk cs acts
  carry-on r capacity [] [] junk acts c outs intos = absurd c
  carry-on r capacity [] (e ∷ []) junk acts c outs intos =
      carries r capacity junk acts e c (front (IsStood r gave took) e.out [] outs).0 (front (IsStood r gave took) e.into [] intos).0
  carry-on r capacity [] (e ∷ more ∷ es) junk acts c outs intos = absurd c
  carry-on r capacity (f ∷ cs) [] junk acts c outs intos = absurd c
  carry-on r capacity (f ∷ cs) (e ∷ es) junk acts c outs intos =
      let out = front (IsStood r gave took) e.out (outs_of es) outs in
      let into = front (IsStood r gave took) e.into (intos_of es) intos in
      (carries r capacity junk f.acts e c.0 out.0 into.0, carry-on r capacity cs es [] acts c.1 out.1 into.1)

  -- a link of pipes is a link of bytes
  pub pipes-are-bytes : (r : Ranges) (capacity : ℕ) (junk : List ℕ) (sent taken : List Act) (cs : List Ended) (acts : List Act) (ends : List (Ends P)) (outs intos : List (Stood P))
      → AllByRecursion (IsStood r gave took) outs → AllByRecursion (IsStood r gave took) intos
      → IsLinkOfPipes r capacity gave took junk sent taken cs acts ends outs intos → IsLinkOfBytes r capacity junk sent taken cs acts
  pipes-are-bytes r capacity junk sent taken cs acts ends outs intos are-outs are-intos link = record {
    whole = link.whole;
    connections = carry-on r capacity cs ends junk acts link.carries (subst (λ xs. AllByRecursion (IsStood r gave took) xs) (sym link.outs_are) are-outs)
        (subst (λ xs. AllByRecursion (IsStood r gave took) xs) (sym link.intos_are) are-intos);
    accepted = link.accepted;
    given = link.given;
    in_order = link.in_order;
  }

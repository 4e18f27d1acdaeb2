-- How a port goes from connection to connection.
use Rattle.std.proofs.Common.{◌≡◌, ℕ, Bool, true, false, List, [], ◌∷◌, ◌++◌, Option, None, Some, is_some, refl, ap, sym, subst, ◌∙◌, append-nil, append_assoc, arith}
use Rattle.std.specs.Prelude.{MatchOption, ⊤}
use Rattle.std.specs.List.{AllByRecursion}
use Rattle.topology.specs.declared.frame.Frame.{Frame}
use Rattle.topology.specs.declared.frame.Ranges.{Ranges}
use Rattle.byte_lines.specs.Kept.{Kept, kept}
use Rattle.socket_links.specs.Links.{HasPulled, IsBare, IsPulled, IsPushed, PullsOn, PushesOn, unsent, waiting}
use Rattle.socket_links.specs.declared.link.SocketLink.{SocketLink}
use Rattle.processes.specs.Connections.{line_of, lines_of}
use Rattle.running_nodes.specs.Stood.{Start, Stood, IsStood, all_sent, all_taken}

lines-join : (fs gs : List Frame) → lines_of (fs ++ gs) ≡ lines_of fs ++ lines_of gs
lines-join [] gs = refl
lines-join (f ∷ fs) gs = ap (λ xs. line_of f ++ xs) (lines-join fs gs) ∙ sym (append_assoc (line_of f) (lines_of fs) (lines_of gs))

module _ {P : Type 0} where
  pub taken-more : (cs ds : List (Stood P)) → all_taken (cs ++ ds) ≡ all_taken cs ++ all_taken ds
  taken-more [] ds = refl
  taken-more (c ∷ cs) ds = ap (λ xs. c.taken ++ xs) (taken-more cs ds) ∙ sym (append_assoc c.taken (all_taken cs) (all_taken ds))

  pub sent-more : (cs ds : List (Stood P)) → all_sent (cs ++ ds) ≡ all_sent cs ++ all_sent ds
  sent-more [] ds = refl
  sent-more (c ∷ cs) ds = ap (λ xs. c.sent ++ xs) (sent-more cs ds) ∙ sym (append_assoc c.sent (all_sent cs) (all_sent ds))

  pub all-more : (Q : Stood P → Type 0) (cs ds : List (Stood P)) → AllByRecursion Q cs → AllByRecursion Q ds → AllByRecursion Q (cs ++ ds)
  all-more Q [] ds h k = k
  all-more Q (c ∷ cs) ds h k = (h.0, all-more Q cs ds h.1 k)

-- the connection that stands now, so far
pub record Opened : Type 0 where
  pub start : Start
  pub taken : List Frame
  pub sent : List Frame

is-none : {X : Type 0} (o : Option X) → is_some o ≡ false → o ≡ None
is-none None e = refl
is-none (Some x) e = grind (arith, e)

module _ {P : Type 0} (r : Ranges) (gave took : P → Option (List ℕ)) where
  pub record IsOpen (o : Opened) (link : SocketLink P) : Type 0 where
    pub pulled : IsPulled r gave o.start.given o.taken link
    pub pushed : IsPushed took (o.start.taken ++ lines_of o.sent) link
    pub loose : is_some link.pipe ≡ false → (o.taken ≡ []) × (o.sent ≡ [])

  -- from a connection that stands now: those that ended, and the one that then stands
  pub record Passed (o : Opened) (frames sents : List Frame) (new : SocketLink P) : Type 0 where
    pub ended : List (Stood P)
    pub each : AllByRecursion (IsStood r gave took) ended
    pub now : Opened
    pub opened : IsOpen now new
    pub takes : all_taken ended ++ now.taken ≡ o.taken ++ frames
    pub sends : all_sent ended ++ now.sent ≡ o.sent ++ sents

  abbrev pub Passes : List Frame → List Frame → SocketLink P → SocketLink P → Type 0
  Passes frames sents a b = (o : Opened) → IsOpen o a → Passed o frames sents b

  pub pass-same : (a : SocketLink P) → Passes [] [] a a
  pass-same a o h = record { ended = []; each = tt; now = o; opened = h; takes = sym (append-nil o.taken); sends = sym (append-nil o.sent) }

  -- the same connection goes on
  pub pass-on : (frames sents : List Frame) (a b : SocketLink P) → PullsOn r gave frames a b → PushesOn took (lines_of sents) a b → is_some b.pipe ≡ is_some a.pipe
      → (is_some a.pipe ≡ false → (frames ≡ []) × (sents ≡ [])) → Passes frames sents a b
  pass-on frames sents a b pulls pushes stands none o h = record {
    ended = [];
    each = tt;
    now = record { start = o.start; taken = o.taken ++ frames; sent = o.sent ++ sents };
    opened = record {
      pulled = pulls o.start.given o.taken h.pulled;
      pushed = subst (λ xs. IsPushed took xs b)
          (append_assoc o.start.taken (lines_of o.sent) (lines_of sents) ∙ ap (λ xs. o.start.taken ++ xs) (sym (lines-join o.sent sents)))
          (pushes (o.start.taken ++ lines_of o.sent) h.pushed);
      loose = λ e.
          let was : is_some a.pipe ≡ false = sym stands ∙ e in
          (ap (λ xs. xs ++ frames) (h.loose was).0 ∙ (none was).0, ap (λ xs. xs ++ sents) (h.loose was).1 ∙ (none was).1);
    };
    takes = refl;
    sends = refl;
  }

  -- the connection ends, if there is one
  pub record Closed (o : Opened) : Type 0 where
    pub ended : List (Stood P)
    pub each : AllByRecursion (IsStood r gave took) ended
    pub takes : all_taken ended ≡ o.taken
    pub sends : all_sent ended ≡ o.sent

  pub closed : (o : Opened) (a : SocketLink P) → IsOpen o a → Closed o
  closed o a h = by (is_some a.pipe) refl where
    by : (b : Bool) → is_some a.pipe ≡ b → Closed o
    by true e = record {
      ended = record { start = o.start; taken = o.taken; sent = o.sent; link = a } ∷ [];
      each = (record { stands = e; pulled = h.pulled; pushed = h.pushed }, tt);
      takes = append-nil o.taken;
      sends = append-nil o.sent;
    }
    by false e = record { ended = []; each = tt; takes = sym (h.loose e).0; sends = sym (h.loose e).1 }

  -- what follows stands at its start
  pub pass-fresh : (start : Start) (a b : SocketLink P) → IsOpen (record { start = start; taken = []; sent = [] }) b → Passes [] [] a b
  pass-fresh start a b fresh o h =
      let end = closed o a h in
      record {
        ended = end.ended;
        each = end.each;
        now = record { start = start; taken = []; sent = [] };
        opened = fresh;
        takes = ap (λ xs. xs ++ []) end.takes;
        sends = ap (λ xs. xs ++ []) end.sends;
      }

  abbrev nothing : Start
  nothing = record { given = []; taken = [] }

  -- no pipe is left
  pub pass-break : (a b : SocketLink P) → b.pipe ≡ None → Passes [] [] a b
  pass-break a b none = pass-fresh nothing a b (record {
    pulled = subst (λ pipe. MatchOption pipe ⊤ (λ p. MatchOption (gave p) ⊤ (λ bytes. HasPulled r [] [] bytes b.reader (waiting b)))) (sym none) tt;
    pushed = subst (λ pipe. MatchOption pipe ⊤ (λ p. MatchOption (took p) ⊤ (λ bytes. bytes ++ unsent b ≡ []))) (sym none) tt;
    loose = λ e. (refl, refl);
  })

  -- a new one, of which nothing is kept
  reported : Option (List ℕ) → List ℕ
  reported None = []
  reported (Some bytes) = bytes

  bytes-of : (P → Option (List ℕ)) → Option P → List ℕ
  bytes-of f None = []
  bytes-of f (Some p) = reported (f p)

  pulled-none : (reader : Kept) (waits : List ℕ) → reader ≡ kept 21 [] → waits ≡ [] → (o : Option (List ℕ)) → MatchOption o ⊤ (λ bytes. HasPulled r (reported o) [] bytes reader waits)
  unfolding reported
  pulled-none reader waits e none None = tt
  pulled-none reader waits e none (Some bytes) = record { read = []; parts = sym (ap (λ xs. bytes ++ xs) none ∙ append-nil bytes); stands = e; frames_are = refl }

  pushed-none : (left : List ℕ) → left ≡ [] → (o : Option (List ℕ)) → MatchOption o ⊤ (λ bytes. bytes ++ left ≡ reported o ++ [])
  unfolding reported
  pushed-none left none None = tt
  pushed-none left none (Some bytes) = ap (λ xs. bytes ++ xs) none

  pulled-new : (reader : Kept) (waits : List ℕ) → reader ≡ kept 21 [] → waits ≡ []
      → (pipe : Option P) → MatchOption pipe ⊤ (λ p. MatchOption (gave p) ⊤ (λ bytes. HasPulled r (bytes-of gave pipe) [] bytes reader waits))
  unfolding bytes-of
  pulled-new reader waits e none None = tt
  pulled-new reader waits e none (Some p) = pulled-none reader waits e none (gave p)

  pushed-new : (left : List ℕ) → left ≡ [] → (pipe : Option P) → MatchOption pipe ⊤ (λ p. MatchOption (took p) ⊤ (λ bytes. bytes ++ left ≡ bytes-of took pipe ++ []))
  unfolding bytes-of
  pushed-new left none None = tt
  pushed-new left none (Some p) = pushed-none left none (took p)

  pub pass-new : (a b : SocketLink P) → IsBare b → Passes [] [] a b
  pass-new a b bare = pass-fresh (record { given = bytes-of gave b.pipe; taken = bytes-of took b.pipe }) a b (record {
    pulled = pulled-new b.reader (waiting b) bare.0 bare.1 b.pipe;
    pushed = pushed-new (unsent b) bare.2 b.pipe;
    loose = λ e. (refl, refl);
  })

  -- and then
  pub pass-join : (fs ss gs ts : List Frame) (a b c : SocketLink P) → Passes fs ss a b → Passes gs ts b c → Passes (fs ++ gs) (ss ++ ts) a c
  pass-join fs ss gs ts a b c f g o h =
      let one = f o h in
      let two = g one.now one.opened in
      record {
        ended = one.ended ++ two.ended;
        each = all-more (IsStood r gave took) one.ended two.ended one.each two.each;
        now = two.now;
        opened = two.opened;
        takes = ap (λ xs. xs ++ two.now.taken) (taken-more one.ended two.ended) ∙ strung (all_taken one.ended) (all_taken two.ended) two.now.taken one.now.taken gs o.taken fs two.takes one.takes;
        sends = ap (λ xs. xs ++ two.now.sent) (sent-more one.ended two.ended) ∙ strung (all_sent one.ended) (all_sent two.ended) two.now.sent one.now.sent ts o.sent ss two.sends one.sends;
      }
    where
      strung : (x y z m g w f : List Frame) → y ++ z ≡ m ++ g → x ++ m ≡ w ++ f → (x ++ y) ++ z ≡ w ++ (f ++ g)
      strung x y z m g w f e d =
          append_assoc x y z ∙ (ap (λ q. x ++ q) e ∙ (sym (append_assoc x m g) ∙ (ap (λ q. q ++ g) d ∙ append_assoc w f g)))

  -- nothing more, after or before
  pub pass-then : (fs ss : List Frame) (a b c : SocketLink P) → Passes fs ss a b → Passes [] [] b c → Passes fs ss a c
  pass-then fs ss a b c f g = subst (λ xs. Passes xs ss a c) (append-nil fs) (subst (λ ys. Passes (fs ++ []) ys a c) (append-nil ss) (pass-join fs ss [] [] a b c f g))

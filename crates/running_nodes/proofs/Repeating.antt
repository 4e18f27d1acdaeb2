-- A port whose link is up is given a frame once the repetition time is over.
use Rattle.std.proofs.Common.{◌≡◌, ◌≢◌, ◌⊎◌, ℕ, ◌<◌, ◌≤◌, ◌+◌, Bool, true, false, ◌&&◌, ◌||◌, if◌then◌else◌, List, [], ◌∷◌, ◌++◌, Contains, Option, None, Some, slice_get, slice_index_or, refl, inl, inr, sym, subst, ap, ◌∙◌, append_assoc, arith}
use Rattle.std.proofs.lemmas.Grind.{common_steps}
use Rattle.std.proofs.lemmas.List.Elements.{Contains-append_left, Contains-append_right}
use Rattle.std.specs.Prelude.{◌==◌}
use Rattle.std.specs.List.{AllByRecursion}
use Rattle.topology.specs.declared.frame.Frame.{Frame}
use Rattle.data_link.specs.Port.{frame_of}
use Rattle.node_core.specs.View.{site_in, state_of}
use Rattle.pace.specs.Clock.{is_over}
use Rattle.pace.specs.Nodes.{holds}
use Rattle.pace.specs.Plans.{port_of}
use Rattle.pace.specs.Ports.{given_port, has_question, is_calling, is_due, is_news}
use Rattle.pace.specs.declared.pace.Plan.{Plan}
use Rattle.pace.specs.declared.port.PortPace.{PortPace}
use Rattle.pace.specs.declared.port.PortSight.{PortSight}
use Rattle.socket_links.specs.Counts.{Counts}
use Rattle.node_core.specs.Deeds.{Deed, Asks, Leaves, Sends, Takes, Ticks, sent_to}
use Rattle.node_loop.specs.node_connections.declared.port.NodePort.{NodePort}
use Rattle.node_loop.specs.node_connections.Ports.{AtBoth}
use Rattle.node_loop.specs.Moments.{Moment}
use Rattle.node_loop.specs.Remembering.{Remembers, StillGiven}
use Rattle.node_loop.specs.Speaking.{IsPlanOf, Speaks, SpeaksTo, outlook_of, sent_if, sight_at}
use Rattle.node_loop.specs.node_connections.Speaking.{takes_frames}
use Rattle.node_loop.proofs.Accounts.{attend-sends, turn-sends}
use Rattle.node_loop.proofs.Remembering.{remembers-join}
use Rattle.processes.specs.Accounts.{Timed, deeds}
use Rattle.processes.specs.Links.{Accepts, Act, Gives, Loses, accept_at, accepts_in, the_accepts}
use Rattle.processes.specs.Turns.{Turn}
use Rattle.running_nodes.specs.Laws.{PortsAreGivenAgain}
use Rattle.running_nodes.specs.Repeating.{BeginsBy, GoesUp, IsTurnUp, TimedTurn, WasUp, all_did, whens}
use Rattle.running_nodes.proofs.Turning.{attend-site, turn-site}

-- ---- when a frame is due

-- one is due at a port that takes frames once the repetition time is over
due-over : (sight : PortSight) (is_held : Bool) (repeat now : ℕ) (port : PortPace) → sight.takes_frames ≡ true → is_over port.given_at repeat now ≡ true → is_due sight is_held repeat now port ≡ true
due-over sight is_held repeat now port takes over =
    any (is_news sight.frame port) port.owes (is_calling port.calls) (has_question sight is_held) _ sight.takes_frames (is_over port.given_at repeat now) takes over
  where
    any : (a b c d e t o : Bool) → t ≡ true → o ≡ true → (t && (a || (b || (c || (o || (d && e)))))) ≡ true
    any true b c d e true true x y = refl
    any false true c d e true true x y = refl
    any false false true d e true true x y = refl
    any false false false d e true true x y = refl
    any a b c d e false o x y = absurd cc
    any a b c d e true false x y = absurd cc

-- and so it is at one that was given nothing yet
due-new : (sight : PortSight) (is_held : Bool) (repeat now : ℕ) (port : PortPace) → sight.takes_frames ≡ true → port.given ≡ None → is_due sight is_held repeat now port ≡ true
due-new sight is_held repeat now port takes none =
    any (is_news sight.frame port) _ sight.takes_frames takes (news port none)
  where
    news : (port : PortPace) → port.given ≡ None → is_news sight.frame port ≡ true
    news port e = rw e refl

    any : (a rest t : Bool) → t ≡ true → a ≡ true → (t && (a || rest)) ≡ true
    any true rest true x y = refl
    any a rest false x y = absurd cc
    any false rest true x y = absurd cc

-- ---- one turn

-- a time that is not over since then
not-over : (since span now : ℕ) → is_over since span now ≡ false → (since ≤ now) × (now < since + span)
not-over since span now e = (grind (arith, common_steps, e), grind (arith, common_steps, e))

split-at : (s a : ℕ) → (s ≤ a) ⊎ (a < s)
split-at s a = grind arith

first-or : {X : Type 0} (x y : X) (ys : List X) → Contains (y ∷ ys) x → (y ≡ x) ⊎ Contains ys x
first-or x y ys h = grind (arith, common_steps)

nothing-there : {X : Type 0} (x : X) → Contains [] x → ⊥
nothing-there x h = grind (arith, common_steps)

is-first : {X : Type 0} (x : X) (xs : List X) → Contains (x ∷ xs) x
is-first x xs = grind (arith, common_steps)

-- ---- what an account says of a link

-- the link accepted a frame at an instant of the stretch
abbrev Found : List Act → ℕ → ℕ → Type 0
Found acts b e = (a : ℕ) × (f : Frame) × Contains acts (Accepts a f) × (b ≤ a) × (a ≤ e)

sent-one : (w b e instant : ℕ) (deed : Deed) (ds : List Deed) (acts : List Act) → sent_to w (deed ∷ ds) ≢ [] → b ≤ instant → instant ≤ e → (sent_to w ds ≢ [] → Found acts b e)
    → Found (accept_at w instant deed ++ acts) b e
sent-one w b e instant (Takes v f) ds acts n l m rest = rest n
sent-one w b e instant (Asks t) ds acts n l m rest = rest n
sent-one w b e instant (Leaves t) ds acts n l m rest = rest n
sent-one w b e instant Ticks ds acts n l m rest = rest n
sent-one w b e instant (Sends v f) ds acts n l m rest = by (v == w) n where
  by : (is : Bool) → (if is then f ∷ sent_to w ds else sent_to w ds) ≢ [] → Found ((if is then Accepts instant f ∷ [] else []) ++ acts) b e
  by true n = (instant, f, is-first (Accepts instant f) acts, l, m)
  by false n = rest n

sent-at : (w b e : ℕ) (did : List Timed) → sent_to w (deeds did) ≢ [] → AllByRecursion (λ d. (b ≤ d.instant) × (d.instant ≤ e)) did → Found (accepts_in w did) b e
sent-at w b e [] n all = absurd (n refl)
sent-at w b e (d ∷ did) n all = sent-one w b e d.instant d.deed (deeds did) (accepts_in w did) n all.0.0 all.0.1 (λ m. sent-at w b e did m all.1)

accepts-join : (w : ℕ) (xs ys : List Timed) → accepts_in w (xs ++ ys) ≡ accepts_in w xs ++ accepts_in w ys
accepts-join w [] ys = refl
accepts-join w (x ∷ xs) ys = ap (λ zs. accept_at w x.instant x.deed ++ zs) (accepts-join w xs ys) ∙ sym (append_assoc (accept_at w x.instant x.deed) (accepts_in w xs) (accepts_in w ys))

-- what is among the accepts is among the acts
accept-there : (acts : List Act) (x : Act) → Contains (the_accepts acts) x → Contains acts x
accept-there [] x h = h
accept-there (Accepts a f ∷ acts) x h =
    elim (first-or x (Accepts a f) (the_accepts acts) h) [
      | inl e ↦ subst (λ y. Contains (y ∷ acts) x) (sym e) (is-first x acts)
      | inr rest ↦ there-too (Accepts a f) (accept-there acts x rest)
    ]
  where
    there-too : (y : Act) → Contains acts x → Contains (y ∷ acts) x
    there-too y k = Contains-append_right (y ∷ []) acts x k
accept-there (Gives a f ∷ acts) x h = Contains-append_right (Gives a f ∷ []) acts x (accept-there acts x h)
accept-there (Loses a i ∷ acts) x h = Contains-append_right (Loses a i ∷ []) acts x (accept-there acts x h)

-- ---- one turn

module _ {P : Type 0} (gave took : P → Option (List ℕ)) (counts : P → Counts) where
  -- what was said at a port that took frames: the frame was accepted, or none was offered
  spoke : (f : Frame) (offered : Bool) (now : ℕ) (was is : PortPace) (sent : List Frame) (x y : Option (NodePort P)) → takes_frames x ≡ true
      → AtBoth (SpeaksTo gave took counts f offered now was is sent) x y → (offered ≡ true → sent ≢ [])
      → ((sent ≢ []) × (is.given_at ≡ now)) ⊎ ((offered ≡ false) × (is.given_at ≡ was.given_at))
  spoke f offered now was is sent None y takes at accepts = absurd cc
  spoke f offered now was is sent (Some a) None takes at accepts = elim at [ ]
  spoke f true now was is sent (Some a) (Some b) takes at accepts = inl (accepts refl, taken at.is_taken at.sends at.reported) where
    taken : (t : Bool) → sent ≡ sent_if t f → is ≡ (if t then given_port f now was else was) → is.given_at ≡ now
    taken true e reported = ap (λ x. x.given_at) reported
    taken false e reported = absurd (accepts refl e)
  spoke f false now was is sent (Some a) (Some b) takes at accepts = inr (refl, untaken at.is_taken at.port.offers.1 at.reported) where
    untaken : (t : Bool) → t ≡ false → is ≡ (if t then given_port f now was else was) → is.given_at ≡ was.given_at
    untaken true e reported = absurd cc
    untaken false e reported = ap (λ x. x.given_at) reported

  -- what a turn made of a port: a frame was accepted, and when is noted; or none was due yet
  abbrev Came : ℕ → ℕ → List Deed → ℕ → PortPace → PortPace → Type 0
  Came now repeat account w was is =
      ((sent_to w account ≢ []) × (is.given_at ≡ now))
      ⊎ ((is.given_at ≡ was.given_at) × (was.given ≢ None) × (is_over was.given_at repeat now ≡ false))

  said : (now w : ℕ) (at new : Moment P) (plan : Plan) (account : List Deed) → w < 64 → w < (site_in at.node).ranges.nodes → Contains (site_in at.node).neighbours w → IsPlanOf now at plan
      → (s : Speaks gave took counts plan.offers now at new) → sent_to w account ≡ sent_to w s.sends → WasUp w at plan account
      → Came now at.pace.manner.repeat account w (port_of at.pace.ports w) (port_of new.pace.ports w)
  said now w at new plan account id within has plans s sends up =
      let offered = slice_index_or plan.offers w false in
      let sight = sight_at at.node at.ports w in
      let held = holds (outlook_of at.node at.let_go) at.pace.manner now at.pace.node in
      let was = port_of at.pace.ports w in
      let due : offered ≡ is_due sight held at.pace.manner.repeat now was = plans.offers w id has in
      elim (spoke (frame_of ((state_of at.node).port w)) offered now was (port_of new.pace.ports w) (sent_to w s.sends) (slice_get at.ports w) (slice_get new.ports w) up.takes (s.neighbours w within has)
      (λ e. subst (λ xs. xs ≢ []) sends (up.accepts e))) [
        | inl h ↦ inl (subst (λ xs. xs ≢ []) (sym sends) h.0, h.1)
        | inr h ↦ inr (
          h.1,
          (λ none. differ (sym (sym due ∙ h.0) ∙ due-new sight held at.pace.manner.repeat now was up.takes none)),
          early (is_over was.given_at at.pace.manner.repeat now) refl (sym due ∙ h.0),
        )
      ]
    where
      differ : false ≡ true → ⊥
      differ e = cc

      early : (b : Bool) → is_over (port_of at.pace.ports w).given_at at.pace.manner.repeat now ≡ b
          → is_due (sight_at at.node at.ports w) (holds (outlook_of at.node at.let_go) at.pace.manner now at.pace.node) at.pace.manner.repeat now (port_of at.pace.ports w) ≡ false
          → is_over (port_of at.pace.ports w).given_at at.pace.manner.repeat now ≡ false
      early false e not_due = e
      early true e not_due =
          absurd (differ (sym not_due ∙ due-over (sight_at at.node at.ports w) (holds (outlook_of at.node at.let_go) at.pace.manner now at.pace.node) at.pace.manner.repeat now (port_of at.pace.ports w) up.takes e))

  -- the same of the port as it was when the turn began
  since : (now repeat w : ℕ) (old at : Moment P) (is : PortPace) (account : List Deed) → old.pace.manner.repeat ≡ repeat → Remembers old.pace at.pace
      → Came now at.pace.manner.repeat account w (port_of at.pace.ports w) is
      → ((sent_to w account ≢ []) × (is.given_at ≡ now)) ⊎ ((is.given_at ≡ (port_of old.pace.ports w).given_at) × (is_over (port_of old.pace.ports w).given_at repeat now ≡ false))
  since now repeat w old at is account e remembers (inl h) = inl h
  since now repeat w old at is account e remembers (inr h) = still (remembers.ports w) where
    manner : at.pace.manner.repeat ≡ repeat
    manner = ap (λ m. m.repeat) remembers.manner ∙ e

    still : StillGiven (port_of old.pace.ports w) (port_of at.pace.ports w)
        → ((sent_to w account ≢ []) × (is.given_at ≡ now)) ⊎ ((is.given_at ≡ (port_of old.pace.ports w).given_at) × (is_over (port_of old.pace.ports w).given_at repeat now ≡ false))
    still (inl same) = inr (h.0 ∙ same.1, subst (λ g. is_over g repeat now ≡ false) same.1 (subst (λ r. is_over (port_of at.pace.ports w).given_at r now ≡ false) manner h.2))
    still (inr none) = absurd (h.1 none)

  -- what a turn made of the port, and what it left as it was
  pub record Turned (now repeat w : ℕ) (account : List Deed) (old new : Moment P) : Type 0 where
    pub site : site_in new.node ≡ site_in old.node
    pub manner : new.pace.manner ≡ old.pace.manner
    pub came : ((sent_to w account ≢ []) × ((port_of new.pace.ports w).given_at ≡ now))
        ⊎ (((port_of new.pace.ports w).given_at ≡ (port_of old.pace.ports w).given_at) × (is_over (port_of old.pace.ports w).given_at repeat now ≡ false))

  turned : (now repeat w : ℕ) (account : List Deed) (old new : Moment P) → w < 64 → w < (site_in old.node).ranges.nodes → Contains (site_in old.node).neighbours w → old.pace.manner.repeat ≡ repeat
      → IsTurnUp gave took counts w now account old new → Turned now repeat w account old new
  turned now repeat w account old new id within has e (inl (says, t, is, up)) =
      let site : site_in t.acted.node ≡ site_in old.node = t.acts.leaves.site ∙ (t.acts.site ∙ (t.listens.serves.site ∙ t.listens.hears.takes.site)) in
      let remembers = remembers-join old.pace t.heard.pace t.acted.pace t.listens.remembers t.remembers in
      let sends : sent_to w account ≡ sent_to w t.speaks.sends = ap (λ ds. sent_to w ds) is ∙ turn-sends gave took counts now old new says t w in
      record {
        site = turn-site gave took counts says now old new t;
        manner = t.speaks.rest.1 ∙ remembers.manner;
        came = since now repeat w old t.acted (port_of new.pace.ports w) account e remembers
            (said now w t.acted new t.plan account id (subst (λ s. w < s.ranges.nodes) (sym site) within) (subst (λ s. Contains s.neighbours w) (sym site) has) t.plans t.speaks sends up);
      }
  turned now repeat w account old new id within has e (inr (t, is, up)) =
      let site : site_in t.heard.node ≡ site_in old.node = t.listens.serves.site ∙ t.listens.hears.takes.site in
      let sends : sent_to w account ≡ sent_to w t.speaks.sends = ap (λ ds. sent_to w ds) is ∙ attend-sends gave took counts now old new t w in
      record {
        site = attend-site gave took counts now old new t;
        manner = t.speaks.rest.1 ∙ t.listens.remembers.manner;
        came = since now repeat w old t.heard (port_of new.pace.ports w) account e t.listens.remembers
            (said now w t.heard new t.plan account id (subst (λ s. w < s.ranges.nodes) (sym site) within) (subst (λ s. Contains s.neighbours w) (sym site) has) t.plans t.speaks sends up);
      }

  -- ---- all turns

  later-begins : (e : ℕ) (ts : List (TimedTurn P)) (t : Turn) → AllByRecursion (λ next. e ≤ next.when.begins) ts → Contains (whens ts) t → e ≤ t.begins
  later-begins e [] t all h = absurd (nothing-there t h)
  later-begins e (x ∷ ts) t all h =
      elim (first-or t x.when (whens ts) h) [
        | inl same ↦ subst (λ y. e ≤ y.begins) same all.0
        | inr rest ↦ later-begins e ts t all.1 rest
      ]

  each-lasts : (w : ℕ) (ts : List (TimedTurn P)) (old : Moment P) (t : Turn) → GoesUp gave took counts w old ts → Contains (whens ts) t → t.begins ≤ t.ends
  each-lasts w [] old t up h = absurd (nothing-there t h)
  each-lasts w (x ∷ ts) old t up h =
      elim (first-or t x.when (whens ts) h) [
        | inl same ↦ subst (λ y. y.begins ≤ y.ends) same up.1.lasts
        | inr rest ↦ each-lasts w ts x.after t up.2 rest
      ]

  -- it was found among the turns that follow
  abbrev Again : ℕ → ℕ → Turn → List (TimedTurn P) → Moment P → Type 0
  Again w s t ts after = (port_of after.pace.ports w).given_at ≤ s → Contains (whens ts) t → Found (accepts_in w (all_did ts)) s t.ends

  goes : (w repeat s : ℕ) (ts : List (TimedTurn P)) (old : Moment P) (t : Turn) → w < 64 → w < (site_in old.node).ranges.nodes → Contains (site_in old.node).neighbours w → old.pace.manner.repeat ≡ repeat
      → ((port_of old.pace.ports w).given_at ≤ s) ⊎ BeginsBy s ts → GoesUp gave took counts w old ts → Contains (whens ts) t → s + repeat ≤ t.begins
      → Found (accepts_in w (all_did ts)) s t.ends
  goes w repeat s [] old t id within has e known up there late = absurd (nothing-there t there)
  goes w repeat s (x ∷ ts) old t id within has e known up there late =
      subst (λ acts. Found acts s t.ends) (sym (accepts-join w x.did (all_did ts))) (by done.came (first-or t x.when (whens ts) there)
      (λ g more. goes w repeat s ts x.after t id (subst (λ z. w < z.ranges.nodes) (sym done.site) within) (subst (λ z. Contains z.neighbours w) (sym done.site) has)
      (ap (λ m. m.repeat) done.manner ∙ e) (inl g) up.2 more late))
    where
      done : Turned x.when.begins repeat w (deeds x.did) old x.after
      done = turned x.when.begins repeat w (deeds x.did) old x.after id within has e up.0

      -- it is among the turns that follow
      rest : Again w s t ts x.after → (port_of x.after.pace.ports w).given_at ≤ s → Contains (whens ts) t → Found (accepts_in w x.did ++ accepts_in w (all_did ts)) s t.ends
      rest again g there =
          let found = again g there in
          (found.0, found.1, Contains-append_right (accepts_in w x.did) (accepts_in w (all_did ts)) (Accepts found.0 found.1) found.2, found.3, found.4)

      ends : (a : ℕ) → a ≤ x.when.ends → (x.when ≡ t) ⊎ Contains (whens ts) t → a ≤ t.ends
      ends a m (inl same) = subst (λ y. a ≤ y.ends) same m
      ends a m (inr k) =
          let after = later-begins x.when.ends ts t up.1.later k in
          let long = each-lasts w ts x.after t up.2 k in grind (arith, m, after, long)

      begun : (a : ℕ) → x.when.begins ≤ a → a < s → (x.when ≡ t) → ⊥
      begun a l k same =
          let late' : s + repeat ≤ x.when.begins = subst (λ y. s + repeat ≤ y.begins) (sym same) late in grind (arith, l, k, late')

      sent : Found (accepts_in w x.did) x.when.begins x.when.ends → (port_of x.after.pace.ports w).given_at ≡ x.when.begins → (x.when ≡ t) ⊎ Contains (whens ts) t
          → Again w s t ts x.after → Found (accepts_in w x.did ++ accepts_in w (all_did ts)) s t.ends
      sent found at place again = cut (split-at s found.0) place where
        cut : (s ≤ found.0) ⊎ (found.0 < s) → (x.when ≡ t) ⊎ Contains (whens ts) t → Found (accepts_in w x.did ++ accepts_in w (all_did ts)) s t.ends
        cut (inl l) place = (found.0, found.1, Contains-append_left (accepts_in w x.did) (accepts_in w (all_did ts)) (Accepts found.0 found.1) found.2, l, ends found.0 found.4 place)
        cut (inr k) (inl same) = absurd (begun found.0 found.3 k same)
        cut (inr k) (inr more) = rest again (let l = found.3 in grind (arith, at, l, k)) more

      known-at : is_over (port_of old.pace.ports w).given_at repeat x.when.begins ≡ false → (port_of old.pace.ports w).given_at ≤ s
      known-at early = of known where
        of : ((port_of old.pace.ports w).given_at ≤ s) ⊎ (x.when.begins ≤ s) → (port_of old.pace.ports w).given_at ≤ s
        of (inl g) = g
        of (inr b) = let l = (not-over (port_of old.pace.ports w).given_at repeat x.when.begins early).0 in grind (arith, l, b)

      by : ((sent_to w (deeds x.did) ≢ []) × ((port_of x.after.pace.ports w).given_at ≡ x.when.begins))
          ⊎ (((port_of x.after.pace.ports w).given_at ≡ (port_of old.pace.ports w).given_at) × (is_over (port_of old.pace.ports w).given_at repeat x.when.begins ≡ false))
          → (x.when ≡ t) ⊎ Contains (whens ts) t → Again w s t ts x.after → Found (accepts_in w x.did ++ accepts_in w (all_did ts)) s t.ends
      by (inl h) place again = sent (sent-at w x.when.begins x.when.ends x.did h.0 up.1.deeds_are) h.1 place again
      by (inr h) (inl same) again =
          let l = known-at h.1 in
          let k = (not-over (port_of old.pace.ports w).given_at repeat x.when.begins h.1).1 in
          let late' : s + repeat ≤ x.when.begins = subst (λ y. s + repeat ≤ y.begins) (sym same) late in absurd (grind (arith, l, k, late'))
      by (inr h) (inr more) again = rest again (let l = known-at h.1 in let e' = h.0 in grind (arith, l, e')) more

  begins-later : (start s : ℕ) (ts : List (TimedTurn P)) → start ≤ s → BeginsBy start ts → BeginsBy s ts
  begins-later start s [] l h = h
  begins-later start s (t ∷ ts) l h = grind (arith, l, h)

  pub ports-are-given : PortsAreGivenAgain gave took counts
  ports-are-given w first turns pace start until acts id within has e begins up same s t l soon there late =
      let found = goes w pace.repeat s turns first t id within has e (inr (begins-later start s turns l begins)) up there late in
      (found.0, found.1, accept-there acts (Accepts found.0 found.1) (subst (λ xs. Contains xs (Accepts found.0 found.1)) (sym same) found.2), found.3, found.4)

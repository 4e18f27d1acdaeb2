-- The woven list of matching journals is a run: by induction on the list.
use Rattle.std.proofs.Common.{Bool, ◌≡◌, ◌≢◌, ℕ, ◌<◌, ◌≤◌, ◌==◌, List, [], ◌∷◌, ◌++◌, map, true, false, IsTrue, refl, ap, ◌∙◌, sym, subst, if◌then◌else◌, arith}
use Rattle.std.proofs.Math.Path.{fun_ext}
use Rattle.std.proofs.lemmas.Grind.{common_steps}
use Rattle.std.proofs.lemmas.List.{append-nil}
use Rattle.std.specs.List.{AllByRecursion}
use Rattle.topology.specs.At.{at}
use Rattle.topology.specs.Network.{are_joined}
use Rattle.topology.specs.Laws.{JoinedAreNodes}
use Rattle.run_model.specs.World.{World}
use Rattle.run_model.specs.Step.{step}
use Rattle.run_model.specs.Run.{run}
use Rattle.weaving.specs.declared.journal.JournalEntry.{JournalEntry}
use Rattle.weaving.specs.Woven.{Placed, IsNoLater, AreOrdered, entries_of}
use Rattle.weaving.specs.Account.{Note, Ticked, Sent, Took, entry_of, sent_to, taken_from, Leads}
use Rattle.weaving.specs.Matched.{AreMatched, stamps, items}
use Rattle.weaving.specs.Laws.{GoesThrough, WovenIsRun}
use Rattle.run_model.proofs.Changed.{at-each}
use Rattle.weaving.proofs.Steps.{AreNodes, IsWithin, GoesOn, ticks, sends, takes}

-- ---- what comes later has no smaller stamp

-- what holds for both holds for either
of-either : {X : Type 0} (P : X → Type 0) (b : Bool) (x y : X) → P x → P y → P (if b then x else y)
of-either P true x y a b = a
of-either P false x y a b = b

no-earlier : (p : Placed) (v : ℕ) (ps : List Placed) → AllByRecursion (IsNoLater p) ps → AllByRecursion (λ e. p.entry.stamp ≤ e.stamp) (entries_of v ps)
no-earlier p v [] all = tt
no-earlier p v (q ∷ ps) all =
    let rest = no-earlier p v ps all.1 in
    let here : IsNoLater p q = all.0 in
    let first : p.entry.stamp ≤ q.entry.stamp = grind arith in
    of-either (AllByRecursion (λ e. p.entry.stamp ≤ e.stamp)) (q.node == v) (q.entry ∷ entries_of v ps) (entries_of v ps) (first, rest) rest

late-sent : (t v u : ℕ) (ds : List Note) → AllByRecursion (λ e. t ≤ e.stamp) (map (entry_of v) ds) → AllByRecursion (λ s. t ≤ s) (stamps (sent_to u ds))
late-sent t v u [] all = tt
late-sent t v u (Ticked s ∷ ds) all = late-sent t v u ds all.1
late-sent t v u (Sent a s ∷ ds) all =
    let rest = late-sent t v u ds all.1 in
    of-either (λ xs. AllByRecursion (λ x. t ≤ x) (stamps xs)) (a == u) (s ∷ sent_to u ds) (sent_to u ds) (all.0, rest) rest
late-sent t v u (Took a s ∷ ds) all = late-sent t v u ds all.1

late-taken : (t v u : ℕ) (ds : List Note) → AllByRecursion (λ e. t ≤ e.stamp) (map (entry_of v) ds) → AllByRecursion (λ s. t ≤ s) (stamps (taken_from u ds))
late-taken t v u [] all = tt
late-taken t v u (Ticked s ∷ ds) all = late-taken t v u ds all.1
late-taken t v u (Sent a s ∷ ds) all = late-taken t v u ds all.1
late-taken t v u (Took a s ∷ ds) all =
    let rest = late-taken t v u ds all.1 in
    of-either (λ xs. AllByRecursion (λ x. t ≤ x) (stamps xs)) (a == u) (s ∷ taken_from u ds) (taken_from u ds) (all.0, rest) rest

-- ---- the first of what is left

first-deed : (v : ℕ) (e : JournalEntry) (es : List JournalEntry) (ds : List Note) → e ∷ es ≡ map (entry_of v) ds
    → (d : Note) × (rest : List Note) × (ds ≡ d ∷ rest) × (e ≡ entry_of v d) × (es ≡ map (entry_of v) rest)
first-deed v e es [] h = absurd cc
first-deed v e es (d ∷ rest) h =
    let h' : ◌≡◌ {A = List JournalEntry} (e ∷ es) (entry_of v d ∷ map (entry_of v) rest) = h in
    let first : e ≡ entry_of v d = cc in
    let others : es ≡ map (entry_of v) rest = cc in (d, rest, refl, first, others)

entries-here : (p : Placed) (ps : List Placed) → entries_of p.node (p ∷ ps) ≡ p.entry ∷ entries_of p.node ps
entries-here p ps = grind (arith, common_steps)

entries-there : (p : Placed) (ps : List Placed) (v : ℕ) → v ≢ p.node → entries_of v (p ∷ ps) ≡ entries_of v ps
entries-there p ps v apart = grind (arith, common_steps)

-- the event of a deed goes on
deed-goes-on : (w last : World) (account : ℕ → List Note) (v : ℕ) (d : Note) (ds : List Note) → AreNodes w → IsWithin w → AreMatched w account last
    → account v ≡ d ∷ ds
    → ((a : ℕ) → AllByRecursion (λ e. (entry_of v d).stamp ≤ e.stamp) (map (entry_of a) (at account v ds a)))
    → GoesOn w last (entry_of v d).event (at account v ds)
deed-goes-on w last account v (Ticked t) ds nodes within m is late = ticks w last account v ds nodes within m t is
deed-goes-on w last account v (Sent u s) ds nodes within m is late =
    sends w last account v ds nodes within m u s is (late-taken s.stamp u v (at account v ds u) (late u))
deed-goes-on w last account v (Took u s) ds nodes within m is late =
    takes w last account v ds nodes within m u s is (late-sent s.stamp u v (at account v ds u) (late u))

no-deeds : (v : ℕ) (ds : List Note) → [] ≡ map (entry_of v) ds → ds ≡ []
no-deeds v [] h = refl
no-deeds v (d ∷ ds) h = absurd cc

-- if nothing is left, the last world is reached
reached : (w last : World) (account : ℕ → List Note) → AreMatched w account last → ((v : ℕ) → account v ≡ []) → w ≡ last
reached w last account m none =
    let node-is : (v : ℕ) → last.node v ≡ w.node v = λ v. (subst (λ ds. Leads w.net v (w.node v) ds (last.node v)) (none v) (m.nodes v)).1 in
    let link-is : (u v : ℕ) → w.link u v ≡ last.link u v
    = λ u v.
    let k = (m.links u v).kept in
    let sent-none : sent_to v (account u) ≡ [] = ap (sent_to v) (none u) in
    let taken-none : taken_from u (account v) ≡ [] = ap (taken_from u) (none v) in
    sym (append-nil (w.link u v))
    ∙ (ap (λ xs. w.link u v ++ items xs) (sym sent-none) ∙ (k ∙ ap (λ xs. items xs ++ last.link u v) taken-none)) in
    let net-same = sym m.network in
    let spares-same = sym m.spares in
    let node-same : w.node ≡ last.node = fun_ext (λ v. sym (node-is v)) in
    let link-same : w.link ≡ last.link = fun_ext (λ u. fun_ext (λ v. link-is u v)) in
    λ i. record { net = net-same i; spares = spares-same i; node = node-same i; link = link-same i }

weaves : (ps : List Placed) (w last : World) (account : ℕ → List Note) → AreNodes w → IsWithin w → AreMatched w account last → AreOrdered ps
    → ((v : ℕ) → entries_of v ps ≡ map (entry_of v) (account v))
    → (run w (map (λ p. p.entry.event) ps) ≡ last) × GoesThrough w (map (λ p. p.entry.event) ps)
weaves [] w last account nodes within m ordered said =
    let none : (v : ℕ) → account v ≡ [] = λ v. no-deeds v (account v) (said v) in (reached w last account m none, tt)
weaves (p ∷ ps) w last account nodes within m ordered said =
    let v = p.node in
    let one = first-deed v p.entry (entries_of v ps) (account v) (sym (entries-here p ps) ∙ said v) in
    let d = one.0 in
    let ds = one.1 in
    let next = at account v ds in
    let said-next : (a : ℕ) → entries_of a ps ≡ map (entry_of a) (next a)
    = at-each (λ a xs. entries_of a ps ≡ map (entry_of a) xs) account v ds one.4 (λ a apart. sym (entries-there p ps a apart) ∙ said a) in
    let late : (a : ℕ) → AllByRecursion (λ e. p.entry.stamp ≤ e.stamp) (map (entry_of a) (next a))
    = λ a. subst (AllByRecursion (λ e. p.entry.stamp ≤ e.stamp)) (said-next a) (no-earlier p a ps ordered.0) in
    let goes = deed-goes-on w last account v d ds nodes within m one.2
    (subst (λ e. (a : ℕ) → AllByRecursion (λ x. e.stamp ≤ x.stamp) (map (entry_of a) (next a))) one.3 late) in
    let on : GoesOn w last p.entry.event next = subst (λ e. GoesOn w last e.event next) (sym one.3) goes in
    let now = step w p.entry.event in
    let nodes-next : AreNodes now = subst (λ net. (u a : ℕ) → IsTrue (are_joined net.edges u a) → (u < net.nodes) × (a < net.nodes)) (sym on.network) nodes in
    let rest = weaves ps now last next nodes-next on.within on.matched ordered.1 said-next in
    (rest.0, (on.fine, on.effect, rest.1))

pub woven-is-run : JoinedAreNodes → WovenIsRun
woven-is-run joined w last account journal es range m are-of woven =
    subst (λ xs. (run w xs ≡ last) × GoesThrough w xs) woven.are_events
    (weaves woven.placed w last account (λ u v. joined w.net u v range.network) range.capacity m woven.ordered (λ v. woven.complete v ∙ are-of v))

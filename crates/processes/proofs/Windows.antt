-- Windows of instants are sweeps.
use Rattle.std.proofs.Common.{◌≡◌, ◌⊎◌, inl, inr, ℕ, zero, suc, ◌+◌, ◌-◌, ◌*◌, ◌<◌, ◌≤◌, List, [], ◌∷◌, ◌++◌, map, length, Option, IsTrue, false, refl, ap, ◌∙◌, sym, subst, arith}
use Rattle.std.proofs.lemmas.List.{append_assoc}
use Rattle.std.specs.List.{AllByRecursion}
use Rattle.std.proofs.lemmas.Bool.{cases_lt}
use Rattle.topology.specs.Network.{are_joined}
use Rattle.topology.specs.Eccentricity.{sharp_of}
use Rattle.topology.specs.Laws.{NeighboursAreJoined, JoinedBack, JoinedAreNodes}
use Rattle.link_model.specs.declared.item.Item.{Item}
use Rattle.link_model.specs.Acts.{Origin, Before}
use Rattle.node_core.specs.Site.{site_of}
use Rattle.run_model.specs.World.{World, IsWorldInRange}
use Rattle.run_model.specs.Step.{step}
use Rattle.run_model.specs.Run.{run, IsUndamaged}
use Rattle.run_model.specs.Sweep.{is_renewed, IsSweep, Sweeps}
use Rattle.run_model.specs.Headline.{Headline}
use Rattle.run_model.specs.Laws.{NetworkStays, RangesStay, SweepsJoin}
use Rattle.run_model.specs.declared.event.Event.{Event}
use Rattle.convergence.specs.Sharp.{SharpHeadline, WorldConvergesSooner}
use Rattle.convergence.specs.Service.{WaitingAreServed}
use Rattle.processes.specs.Accounts.{Timed}
use Rattle.processes.specs.Links.{Act, Plays, moment}
use Rattle.processes.specs.Marks.{Mark, event_of, mark_moment, AreOrdered, account_of, act_on, history_of, IsOrderOf}
use Rattle.processes.specs.Through.{GoesThrough}
use Rattle.processes.specs.Together.{AreProcesses}
use Rattle.processes.specs.Timing.{ticks_fully_in, at_first, passages, is_since, passes_in, MovesWithin}
use Rattle.processes.specs.TimeLaws.{AreBefore, AreSince, world_after, WindowsAreSweeps, ServesInTime, LendsInTime}
use Rattle.processes.proofs.Lists.{all-first, all-both, all-more}
use Rattle.processes.proofs.Steps.{Holds, AreNodes}
use Rattle.processes.proofs.Runs.{marks-run}
use Rattle.processes.proofs.Histories.{acts-later, one-moment}
use Rattle.processes.proofs.Promise.{one-history, all-hold, goes-undamaged, goes-first, lends-after}
use Rattle.processes.proofs.WindowTicks.{holds-after, ticks-after, ticks-inside}
use Rattle.processes.proofs.WindowLinks.{same-length, NoneSince, early, AreAlike, links-inside}

events-join : (xs ys : List Mark) → map event_of (xs ++ ys) ≡ map event_of xs ++ map event_of ys
events-join [] ys = refl
events-join (x ∷ xs) ys = ap (λ es. event_of x ∷ es) (events-join xs ys)

run-join : (w : World) (xs ys : List Event) → run w (xs ++ ys) ≡ run (run w xs) ys
run-join w [] ys = refl
run-join w (x ∷ xs) ys = run-join (step w x) xs ys

history-join : (u v : ℕ) (xs ys : List Mark) → history_of u v (xs ++ ys) ≡ history_of u v xs ++ history_of u v ys
history-join u v [] ys = refl
history-join u v (x ∷ xs) ys = ap (λ acts. act_on u v x ++ acts) (history-join u v xs ys) ∙ sym (append_assoc (act_on u v x) (history_of u v xs) (history_of u v ys))

acts-earlier : (u v n : ℕ) (ms : List Mark) → AllByRecursion (λ m. mark_moment m < n) ms → AllByRecursion (λ a. moment a < n) (history_of u v ms)
acts-earlier u v n [] all = tt
acts-earlier u v n (m ∷ ms) all =
    all-both (λ a. moment a < n) (act_on u v m) (history_of u v ms)
    (all-more (λ a. moment a ≡ mark_moment m) (λ a. moment a < n) (act_on u v m) (λ a e. let l = all.0 in omega (arith, e, l)) (one-moment u v m))
    (acts-earlier u v n ms all.1)

-- ordered marks, cut at an instant
abbrev Cut : ℕ → List Mark → Type 0
Cut n ms = (xs ys : List Mark) × (ms ≡ xs ++ ys) × AreBefore n xs × AreSince n ys × AreOrdered ys

cut-first : (n : ℕ) (m : Mark) (ms : List Mark) → AreOrdered (m ∷ ms) → Cut n ms → (mark_moment m < 2 * n) ⊎ (2 * n ≤ mark_moment m) → Cut n (m ∷ ms)
cut-first n m ms o rest (inr late) = ([], m ∷ ms, refl, tt, (late, all-more (λ x. mark_moment m ≤ mark_moment x) (λ x. 2 * n ≤ mark_moment x) ms (λ x l. omega (arith, l, late)) o.0), o)
cut-first n m ms o rest (inl soon) = (m ∷ rest.0, rest.1, ap (λ xs. m ∷ xs) rest.2, (soon, rest.3), rest.4, rest.5)

cut : (n : ℕ) (ms : List Mark) → AreOrdered ms → Cut n ms
cut n [] o = ([], [], refl, tt, tt, tt)
cut n (m ∷ ms) o = cut-first n m ms o (cut n ms o.1) (cases_lt (mark_moment m) (2 * n))

ordered-later : (xs ys : List Mark) → AreOrdered (xs ++ ys) → AreOrdered ys
ordered-later [] ys o = o
ordered-later (x ∷ xs) ys o = ordered-later xs ys o.1

ordered-first : (xs ys : List Mark) → AreOrdered (xs ++ ys) → AreOrdered xs
ordered-first [] ys o = tt
ordered-first (x ∷ xs) ys o = (all-first (λ later. mark_moment x ≤ mark_moment later) xs ys o.0, ordered-first xs ys o.1)

none-at-first : (s : ℕ) (items : List Item) → NoneSince s (at_first items)
none-at-first s [] = tt
none-at-first s (x ∷ items) = (refl, none-at-first s items)

length-at-first : (items : List Item) → length (at_first items) ≡ length items
length-at-first [] = refl
length-at-first (x ∷ items) = ap suc (length-at-first items)

-- nothing is sent yet
alike-first : (s : ℕ) (items : List Item) (way : List (Option ℕ)) → length way ≡ length items → NoneSince s way → AreAlike s (map (λ item. Before) items) way
alike-first s [] [] e none = refl
alike-first s [] (o ∷ way) e none = absurd cc
alike-first s (x ∷ items) [] e none = absurd cc
alike-first s (x ∷ items) (o ∷ way) e none =
    let n : length way ≡ length items = omega (arith, e) in
    ap (λ l. false ∷ l) (alike-first s items way n none.1) ∙ ap (λ b. b ∷ map (is_since s) way) (sym none.0)

-- what is required of all marks
record Moves (window start until : ℕ) (w : World) (ms : List Mark) : Type 0 where
  ticks : (v s : ℕ) → v < w.net.nodes → start ≤ s → s + window ≤ until → IsTrue (ticks_fully_in (site_of w.net v) s (s + window) (account_of v ms) (w.node v))
  links : (u v s : ℕ) → IsTrue (are_joined w.net.edges u v) → start ≤ s → s + window ≤ until → IsTrue (passes_in s (s + window) (passages (at_first (w.link u v)) (history_of u v ms)))

module _ (near : NeighboursAreJoined) (back : JoinedBack) where
  renewed : (w last : World) (before stretch after : List Mark) (u v s e : ℕ) → AreNodes w → Holds w (before ++ (stretch ++ after)) last
      → AreBefore s before → AreSince s stretch → AreSince e after → IsTrue (are_joined w.net.edges u v)
      → IsTrue (passes_in s e (passages (at_first (w.link u v)) (history_of u v (before ++ (stretch ++ after)))))
      → IsTrue (is_renewed (world_after w before) (map event_of stretch) u v)
  renewed w last before stretch after u v s e nodes h was inside later joined passes =
      let now = holds-after near back w last before (stretch ++ after) nodes h in
      let joined-now : IsTrue (are_joined (world_after w before).net.edges u v) = subst (λ net. IsTrue (are_joined net.edges u v)) (sym now.2) joined in
      let end-acts = history_of u v after in
      let acts-now = history_of u v stretch ++ end-acts in
      let cut-now : history_of u v (stretch ++ after) ≡ acts-now = history-join u v stretch after in
      let cut-all : history_of u v (before ++ (stretch ++ after)) ≡ history_of u v before ++ acts-now = history-join u v before (stretch ++ after) ∙ ap (λ xs. history_of u v before ++ xs) cut-now in
      let plays-first = subst (λ xs. Plays w.net.capacity (w.link u v) xs (last.link u v)) cut-all (h.links u v joined) in
      let plays-now : Plays w.net.capacity ((world_after w before).link u v) acts-now (last.link u v)
      = subst (λ net. Plays net.capacity ((world_after w before).link u v) acts-now (last.link u v)) now.2
      (subst (λ xs. Plays (world_after w before).net.capacity ((world_after w before).link u v) xs (last.link u v)) cut-now (now.0.links u v joined-now)) in
      let on = early w.net.capacity s e (history_of u v before) acts-now (w.link u v) (last.link u v) (at_first (w.link u v)) plays-first (length-at-first (w.link u v))
      (none-at-first s (w.link u v)) (acts-earlier u v (2 * s) before was) (subst (λ xs. IsTrue (passes_in s e (passages (at_first (w.link u v)) xs))) cut-all passes) in
      let len : length on.1 ≡ length ((world_after w before).link u v)
      = on.3 ∙ same-length w.net.capacity on.0 ((world_after w before).link u v) (last.link u v) acts-now on.2 plays-now in
      let origins = map (λ item. Before) ((world_after w before).link u v) in
      let here = links-inside w.net.capacity u v s e 0 stretch end-acts inside (acts-later u v (2 * e) after later) ((world_after w before).link u v) (last.link u v) on.1 origins
      plays-now len (alike-first s ((world_after w before).link u v) on.1 len on.4) on.5 in
      subst (λ net. IsTrue (Rattle.link_model.specs.Acts.is_renewed net.capacity (map (Rattle.run_model.specs.Sweep.link_act u v) (map event_of stretch)) ((world_after w before).link u v))) (sym now.2) here

  one-window : (window start until : ℕ) (w last : World) (before stretch after : List Mark) (s : ℕ) → AreNodes w → Holds w (before ++ (stretch ++ after)) last
      → Moves window start until w (before ++ (stretch ++ after)) → start ≤ s → s + window ≤ until
      → AreBefore s before → AreSince s stretch → AreSince (s + window) after → IsSweep (world_after w before) (map event_of stretch)
  one-window window start until w last before stretch after s nodes h moves from to was inside later =
      let now = holds-after near back w last before (stretch ++ after) nodes h in
      let through = (marks-run near back (stretch ++ after) (world_after w before) last now.1 now.0).1 in
      record {
        undamaged = goes-undamaged (world_after w before) (map event_of stretch)
            (goes-first (world_after w before) (map event_of stretch) (map event_of after) (subst (GoesThrough (world_after w before)) (events-join stretch after) through));
        ticked = λ v in-net.
            ticks-inside near back (world_after w before) last stretch after v s (s + window) now.1 now.0 later
            (ticks-after near back w last before (stretch ++ after) v s (s + window) nodes h was (moves.ticks v s (subst (λ net. v < net.nodes) now.2 in-net) from to));
        renewed = λ u v joined.
            let joined-first : IsTrue (are_joined w.net.edges u v) = subst (λ net. IsTrue (are_joined net.edges u v)) now.2 joined in
            renewed w last before stretch after u v s (s + window) nodes h was inside later joined-first (moves.links u v s joined-first from to);
      }

  -- window after window
  sweeps-from : (k window start until : ℕ) (w last : World) (before stretch after : List Mark) (s : ℕ) → AreNodes w → Holds w (before ++ (stretch ++ after)) last
      → Moves window start until w (before ++ (stretch ++ after)) → AreOrdered stretch → start ≤ s → s + k * window ≤ until
      → AreBefore s before → AreSince s stretch → AreSince (s + k * window) after → Sweeps (world_after w before) k (map event_of stretch)
  sweeps-from zero window start until w last before stretch after s nodes h moves o from to was inside later = tt
  sweeps-from (suc k) window start until w last before stretch after s nodes h moves o from to was inside later =
      let c = cut (s + window) stretch o in
      let first = c.0 in
      let rest = c.1 in
      let sum : s + suc k * window ≡ (s + window) + k * window = omega arith in
      let parts : before ++ (stretch ++ after) ≡ before ++ (first ++ (rest ++ after)) = ap (λ xs. before ++ xs) (ap (λ xs. xs ++ after) c.2 ∙ append_assoc first rest after) in
      let parts-next : before ++ (stretch ++ after) ≡ (before ++ first) ++ (rest ++ after) = parts ∙ sym (append_assoc before first (rest ++ after)) in
      let to-next : (s + window) + k * window ≤ until = subst (λ n. n ≤ until) sum to in
      let later-next : AreSince ((s + window) + k * window) after = subst (λ n. AreSince n after) sum later in
      let far : AreSince (s + window) after = all-more (λ m. 2 * ((s + window) + k * window) ≤ mark_moment m) (λ m. 2 * (s + window) ≤ mark_moment m) after (λ m l. below (s + window) (k * window) (mark_moment m) l) later-next in
      let inside-first : AreSince s first = all-first (λ m. 2 * s ≤ mark_moment m) first rest (subst (AreSince s) c.2 inside) in
      let sweep = one-window window start until w last before first (rest ++ after) s nodes (subst (λ ms. Holds w ms last) parts h) (subst (Moves window start until w) parts moves) from
      (no-more (s + window) (k * window) until to-next) was inside-first (all-both (λ m. 2 * (s + window) ≤ mark_moment m) rest after c.4 far) in
      let before-next : AreBefore (s + window) (before ++ first)
      = all-both (λ m. mark_moment m < 2 * (s + window)) before first (all-more (λ m. mark_moment m < 2 * s) (λ m. mark_moment m < 2 * (s + window)) before (λ m l. omega (arith, l)) was) c.3 in
      let on = sweeps-from k window start until w last (before ++ first) rest after (s + window) nodes (subst (λ ms. Holds w ms last) parts-next h) (subst (Moves window start until w) parts-next moves)
      c.5 (omega (arith, from)) to-next before-next c.4 later-next in
      let there : world_after w (before ++ first) ≡ run (world_after w before) (map event_of first) = ap (run w) (events-join before first) ∙ run-join w (map event_of before) (map event_of first) in
      (map event_of first, map event_of rest, ap (map event_of) c.2 ∙ events-join first rest, sweep, subst (λ x. Sweeps x k (map event_of rest)) there on)
    where
      below : (a b m : ℕ) → 2 * (a + b) ≤ m → 2 * a ≤ m
      below a b m l = omega (arith, l)

      no-more : (a b u : ℕ) → a + b ≤ u → a ≤ u
      no-more a b u l = omega (arith, l)

  module _ (are-joined : JoinedAreNodes) where
    nodes-of : (w : World) → IsWorldInRange w → AreNodes w
    nodes-of w range = λ u v. are-joined w.net u v range.network

    all-move : (window start until : ℕ) (w last : World) (account : ℕ → List Timed) (history : ℕ → ℕ → List Act) (events : List Event) → AreProcesses w account history last
        → (o : IsOrderOf account history events) → MovesWithin window start until w account history → Moves window start until w o.marks
    all-move window start until w last account history events p o m = record {
      ticks = λ v s in-net from to. subst (λ ts. IsTrue (ticks_fully_in (site_of w.net v) s (s + window) ts (w.node v))) (sym (o.nodes v)) (m.ticks v s in-net from to);
      links = λ u v s is from to.
          subst (λ acts. IsTrue (passes_in s (s + window) (passages (at_first (w.link u v)) acts))) (sym (one-history w last account history events p o u v is)) (m.links u v s is from to);
    }

    pub windows-are-sweeps : WindowsAreSweeps
    windows-are-sweeps w last account history events o window start until k s before stretch after range p m is from to was inside later =
        sweeps-from k window start until w last before stretch after s (nodes-of w range) (subst (λ ms. Holds w ms last) is (all-hold w last account history events p o))
        (subst (Moves window start until w) is (all-move window start until w last account history events p o m))
        (ordered-first stretch after (ordered-later before (stretch ++ after) (subst AreOrdered is o.ordered))) from to was inside later

    module _ (network : NetworkStays) (ranges : RangesStay) (join : SweepsJoin) (bound : Headline) (sharp : SharpHeadline) (legitimate : WorldConvergesSooner) (served : WaitingAreServed) where
      all-through : (w last : World) (account : ℕ → List Timed) (history : ℕ → ℕ → List Act) (events : List Event) → IsWorldInRange w → AreProcesses w account history last
          → (o : IsOrderOf account history events) → GoesThrough w (map event_of o.marks)
      all-through w last account history events range p o = (marks-run near back o.marks w last (nodes-of w range) (all-hold w last account history events p o)).1

      -- there are as many sweeps as windows that are over
      enough : (w last : World) (account : ℕ → List Timed) (history : ℕ → ℕ → List Act) (events : List Event) (o : IsOrderOf account history events) (window start until k : ℕ)
          (before after : List Mark) → IsWorldInRange w → AreProcesses w account history last → MovesWithin window start until w account history
          → o.marks ≡ before ++ after → start + k * window ≤ until → AreSince (start + k * window) after
          → Sweeps w k (map event_of before) × IsUndamaged w (map event_of before)
      enough w last account history events o window start until k before after range p m is to later =
          let ordered = ordered-first before after (subst AreOrdered is o.ordered) in
          let c = cut start before ordered in
          let parts : o.marks ≡ c.0 ++ (c.1 ++ after) = is ∙ (ap (λ xs. xs ++ after) c.2 ∙ append_assoc c.0 c.1 after) in
          let sweeps = windows-are-sweeps w last account history events o window start until k start c.0 c.1 after range p m parts (le-self start) to c.3 c.4 later in
          let through = all-through w last account history events range p o in
          let through-before : GoesThrough w (map event_of before) = goes-first w (map event_of before) (map event_of after) (subst (GoesThrough w) (ap (map event_of) is ∙ events-join before after) through) in
          let halves : map event_of before ≡ map event_of c.0 ++ map event_of c.1 = ap (map event_of) c.2 ∙ events-join c.0 c.1 in
          let calm-first = goes-undamaged w (map event_of c.0) (goes-first w (map event_of c.0) (map event_of c.1) (subst (GoesThrough w) halves through-before)) in
          (subst (λ es. Sweeps w k es) (sym halves) (subst (λ n. Sweeps w n (map event_of c.0 ++ map event_of c.1)) (none-more k) (join w 0 k (map event_of c.0) (map event_of c.1) range calm-first tt sweeps)), goes-undamaged w (map event_of before) through-before)
        where
          le-self : (n : ℕ) → n ≤ n
          le-self n = omega arith

          none-more : (n : ℕ) → 0 + n ≡ n
          none-more n = omega arith

      pub serves-in-time : ServesInTime
      serves-in-time w last account history events o window start until before after range p m is to later =
          let have = enough w last account history events o window start until (sharp_of w.net) before after range p m is to later in
          sharp w (map event_of before) range have.1 have.0

      pub lends-in-time : LendsInTime
      lends-in-time w last account history events o window start until s v t i before stretch after range p m is from to was inside later in-net place stays =
          let start-window = sharp_of w.net * window in
          let span = 8 * (w.net.nodes - 1) * (i + 2) in
          let rest-since : AreSince (start + start-window) (stretch ++ after)
          = all-both (λ x. 2 * (start + start-window) ≤ mark_moment x) stretch after
          (all-more (λ x. 2 * s ≤ mark_moment x) (λ x. 2 * (start + start-window) ≤ mark_moment x) stretch (λ x l. sooner (start + start-window) s (mark_moment x) from l) inside)
          (all-more (λ x. 2 * (s + span * window) ≤ mark_moment x) (λ x. 2 * (start + start-window) ≤ mark_moment x) after (λ x l. sooner-still (start + start-window) s (span * window) (mark_moment x) from l) later) in
          let have = enough w last account history events o window start until (sharp_of w.net) before (stretch ++ after) range p m is (sooner-end (start + start-window) s (span * window) until from to) rest-since in
          let sweeps = windows-are-sweeps w last account history events o window start until span s before stretch after range p m is (no-less start start-window s from) to was inside later in
          let whole : map event_of o.marks ≡ (map event_of before ++ map event_of stretch) ++ map event_of after
          = ap (map event_of) (is ∙ sym (append_assoc before stretch after)) ∙ (events-join (before ++ stretch) after ∙ ap (λ es. es ++ map event_of after) (events-join before stretch)) in
          let through = goes-first w (map event_of before ++ map event_of stretch) (map event_of after) (subst (GoesThrough w) whole (all-through w last account history events range p o)) in
          lends-after network ranges bound sharp legitimate served w (map event_of before ++ map event_of stretch) range through (map event_of before) (map event_of stretch) v t i refl have.0 in-net place stays sweeps
        where
          sooner : (a s m : ℕ) → a ≤ s → 2 * s ≤ m → 2 * a ≤ m
          sooner a s m f l = omega (arith, f, l)

          sooner-still : (a s b m : ℕ) → a ≤ s → 2 * (s + b) ≤ m → 2 * a ≤ m
          sooner-still a s b m f l = omega (arith, f, l)

          sooner-end : (a s b u : ℕ) → a ≤ s → s + b ≤ u → a ≤ u
          sooner-end a s b u f l = omega (arith, f, l)

          no-less : (a b s : ℕ) → a + b ≤ s → a ≤ s
          no-less a b s l = omega (arith, l)

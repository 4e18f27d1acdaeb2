-- What runners that came back did together is a run, and a world is made of them.
use Rattle.std.proofs.Common.{◌≡◌, inl, inr, ℕ, ◌-◌, ◌<◌, ◌≤◌, ◌==◌, Bool, true, false, if◌then◌else◌, IsTrue, Option, Some, None, List, [], ◌∷◌, length, map, ap, refl, sym, subst, ◌∙◌, arith, append-nil, slice_index_or, All, zero, suc, ◌+◌, ◌*◌, ◌/◌, rules}
use Rattle.std.proofs.lemmas.Grind.{common_steps}
use Rattle.std.proofs.lemmas.List.{drop_all, get_or-map, get_or_past, length-map}
use Rattle.std.proofs.lemmas.List.Elements.{All-head, All-nil, All-tail}
use Rattle.std.proofs.lemmas.Bool.{cases_Bool, le-ltb, lt-ltb, false≢true}
use Rattle.std.proofs.lemmas.Option.{none-some, same_Some, slice_get_cases, slice_get-get_or}
use Rattle.std.specs.List.{AllByRecursion, AllZip}
use Rattle.topology.specs.Network.{Network, are_joined, neighbours_of}
use Rattle.topology.specs.Ranges.{ranges_of}
use Rattle.link_model.specs.declared.item.Item.{Item}
use Rattle.judge.specs.run_model.World.{World, IsWorldInRange, item_fits}
use Rattle.judge.specs.run_model.Run.{run}
use Rattle.judge.specs.run_model.Laws.{RangesStay}
use Rattle.judge.specs.run_model.declared.event.Event.{Event}
use Rattle.judge.specs.configuration.ConfigurationView.{no_node, states_of, ConfigurationView, node_at, world_of}
use Rattle.node_runner.specs.weaving.Account.{Note, entry_of, sent_to, taken_from, AreOverLinks, Leads}
use Rattle.node_runner.specs.weaving.Journals.{journal_of, entry_count}
use Rattle.node_runner.specs.weaving.Laws.{GoesThrough, WovenIsRun}
use Rattle.node_runner.specs.weaving.Matched.{AreMatched, IsLinkMatched, stamps}
use Rattle.node_runner.specs.weaving.Woven.{AreRising, IsWoven}
use Rattle.node_runner.specs.declared.runner.RunnerPort.{RunnerPort}
use Rattle.node_runner.specs.declared.runner.Runner.{Runner}
use Rattle.node_runner.specs.Ports.{IsSender, IsReceiver}
use Rattle.node_runner.specs.Runner.{IsPortNoted, AreSamePorts, IsSamePort, port_ids}
use Rattle.node_runner.specs.Rounds.{AreRounds}
use Rattle.thread_net.specs.Cables.{row, rows_of, port_to, left_between, left_on_ports, settled, IsFlushedOn, IsFlushedBetween, AreSettleable, IsCableOn}
use Rattle.thread_net.specs.Seats.{nodes_of, entries_of_all, AreAtStart, IsAtStart, degree_of, entry_room, total_room}
use Rattle.thread_net.specs.Done.{HaveDone, IsStart, HasDone, IsGatherable}
use Rattle.thread_net.specs.ThreadRun.{IsThreadRun}
use Rattle.node_runner.specs.FirstTurn.{IsFirstTurn, count_of, deeds_of, is_tick_of}
use Rattle.node_runner.specs.Due.{events_of}
use Rattle.node_runner.specs.Laws.{EachRoundTicks}
use Rattle.thread_net.proofs.Matching.{own-deeds, own-ticks, Rise, link-matched}
use Rattle.std.proofs.lemmas.Slice.Zip.{AllZip-left, AllZip-long}
use Rattle.std.specs.declared.alloc.Global.{Global}
use Rattle.std.specs.declared.vec.Vec.{Vec}
use Rattle.thread_net.specs.declared.seats.RunnerSeats.{RunnerSeats}
use Rattle.judge.specs.node_core.Site.{site_of}
use Rattle.judge.specs.node_core.View.{NodeView, site_in}
use Rattle.judge.specs.configuration.LinksView.{LinksView, spare_pairs, under_way}
use Rattle.judge.specs.Parts.{AreOneWorlds}
use Rattle.judge.specs.Stretch.{StretchView, HasRoomFor}
use Rattle.node_runner.specs.weaving.declared.journal.JournalEntry.{JournalEntry}
use Rattle.thread_net.specs.declared.threads.ReturnedRunner.{ReturnedRunner}
use Rattle.thread_net.specs.Keeps.{Keeps}
use Rattle.thread_net.specs.Outcomes.{IsOutcomeOf, have_run, has_run, runners_in, turns_of}
use Rattle.thread_net.specs.declared.prepare.Prepared.{Prepared}
use Rattle.thread_net.specs.Prepared.{IsPrepared}
use Rattle.thread_net.specs.Tables.{AreEmptySeats}
use Rattle.thread_net.specs.Fault.{IsPartRun}
use Rattle.thread_net.proofs.Maps.{read}
use Rattle.thread_net.proofs.Starting.{below-long}

-- ---- lists that are read at a place

none-mapped : {X Y : Type 0} (f : X → Y) (xs : List X) (k : ℕ) (d : Y) → length xs ≤ k → slice_index_or (map f xs) k d ≡ d
none-mapped f xs k d past = let long = length-map xs f in get_or_past (map f xs) k d (omega arith)

-- ---- accounts

none-sent : (net : Network) (u v : ℕ) (ds : List Note) → are_joined net.edges u v ≡ false → AreOverLinks net u ds → sent_to v ds ≡ []
none-sent net u v [] isnt links = refl
none-sent net u v (d ∷ ds) isnt links = let later = none-sent net u v ds isnt in grind (arith, common_steps, links)

none-taken : (net : Network) (u v : ℕ) (ds : List Note) → are_joined net.edges u v ≡ false → AreOverLinks net v ds → taken_from u ds ≡ []
none-taken net u v [] isnt links = refl
none-taken net u v (d ∷ ds) isnt links = let later = none-taken net u v ds isnt in grind (arith, common_steps, links)

taken-all : (v u x : ℕ) (ds : List Note) → AllByRecursion (λ e. x < e.stamp) (map (entry_of v) ds) → AllByRecursion (λ y. x < y) (stamps (taken_from u ds))
taken-all v u x [] all = tt
taken-all v u x (d ∷ ds) all = let later = taken-all v u x ds all.1 in let one = all.0 in grind (arith, common_steps, one, later)

taken-rise : (v u : ℕ) (ds : List Note) → AreRising (map (entry_of v) ds) → Rise (stamps (taken_from u ds))
taken-rise v u [] rising = tt
taken-rise v u (d ∷ ds) rising =
    let later = taken-rise v u ds rising.1 in
    let first = taken-all v u (entry_of v d).stamp ds rising.0 in
    grind (arith, common_steps, later, first)

idle-link : (capacity : ℕ) (old : List Item) → IsLinkMatched capacity old [] [] old
idle-link capacity old = record {
  kept = append-nil old;
  taken_later = rw (drop_all {X = ℕ} (length old) [] (omega arith)) tt;
  sent_later = rw (drop_all {X = ℕ} (capacity - length old) [] (omega arith)) tt;
}

-- what holds of all ports holds of the one that leads to a node
found : {A : Type 0} (Q : RunnerPort A → Type 0) (ps : List (RunnerPort A)) (v : ℕ) (p : RunnerPort A) → port_to ps v ≡ Some p → All Q ps → Q p × (p.neighbour ≡ v)
found Q [] v p is all = absurd (none-some p is)
found Q (q ∷ ps) v p is all = elim (cases_Bool (q.neighbour == v)) [
  | inl here ↦ let same = same_Some q p (rw here at is) in (subst Q same (All-head Q q ps all), grind (arith, common_steps, here, same))
  | inr other ↦ found Q ps v p (rw other at is) (All-tail Q q ps all)
]

-- ---- what is known of a node when all are done

pub record IsKnown {A : Type 0} (w : World) (turns : ℕ → ℕ) (rs : List (Runner A)) (v : ℕ) : Type 0 where
  pub account : List Note
  pub leads : Leads w.net v (w.node v) account (states_of w.net (nodes_of rs) v)
  pub nobody : w.net.nodes ≤ v → account ≡ []
  pub journal : journal_of (entries_of_all rs) v ≡ map (entry_of v) account
  pub rising : AreRising (map (entry_of v) account)
  pub ports : All (IsPortNoted w v account) (row (rows_of rs) v)
  pub did : v < w.net.nodes → AreRounds (neighbours_of w.net v) (turns v) account × (0 < turns v → IsFirstTurn w v (events_of v account))

module _ {A : Type 0} (w : World) (turns : ℕ → ℕ) (rs : List (Runner A)) (done : HaveDone w turns rs) (start : IsStart w) where
  abbrev pub last : World
  last = record { net = w.net; spares = w.spares; node = states_of w.net (nodes_of rs); link = settled w.net (rows_of rs) w.link }

  pub known : (v : ℕ) → IsKnown w turns rs v
  known v = elim (slice_get_cases rs v).1 [
    | inl (r, within, is, at) ↦
        let here : v < w.net.nodes = let c = done.count in omega arith in
        let it = rw at at (done.each v r here) in
        record {
          account = it.notes;
          leads = rw (lt-ltb v w.net.nodes here, read (λ r. r.node) rs v r no_node within (sym at)) it.said.leads;
          nobody = λ le. absurd (omega arith);
          journal = read (λ r. r.journal.entries.items) rs v r [] within (sym at) ∙ it.said.journal;
          rising = it.said.rising;
          ports = rw (read (λ r. r.ports.items) rs v r [] within (sym at)) it.said.ports;
          did = λ lt. (it.rounds, it.first);
        }
    | inr (past, is) ↦
        let beyond : w.net.nodes ≤ v = let c = done.count in omega arith in
        record {
          account = [];
          leads = (tt, rw (le-ltb v w.net.nodes beyond) (sym (start.beyond v beyond)));
          nobody = λ le. refl;
          journal = none-mapped (λ r. r.journal.entries.items) rs v [] past;
          rising = tt;
          ports = rw (none-mapped (λ r. r.ports.items) rs v [] past) (All-nil (IsPortNoted w v []));
          did = λ lt. absurd (omega arith);
        }
  ]

  abbrev account : ℕ → List Note
  account v = (known v).account

  pub all-rising : (v : ℕ) → AreRising (journal_of (entries_of_all rs) v)
  all-rising v = subst AreRising (sym (known v).journal) (known v).rising

  -- the link of two nodes that are joined
  on-ports : (u v : ℕ) (a b : Option (RunnerPort A)) → port_to (row (rows_of rs) u) v ≡ a → port_to (row (rows_of rs) v) u ≡ b → IsFlushedOn a b
      → IsLinkMatched w.net.capacity (w.link u v) (sent_to v (account u)) (taken_from u (account v)) (left_on_ports a b)
  on-ports u v None b to-v to-u is = elim is [ ]
  on-ports u v (Some p) None to-v to-u is = elim is [ ]
  on-ports u v (Some p) (Some q) to-v to-u is =
      let sender = found (IsPortNoted w u (account u)) (row (rows_of rs) u) v p to-v (known u).ports in
      let receiver = found (IsPortNoted w v (account v)) (row (rows_of rs) v) u q to-u (known v).ports in
      link-matched w.net.capacity (w.link u v) (sent_to v (account u)) (taken_from u (account v)) p.outgoing q.incoming
      (subst (λ n. IsSender w.net.capacity (w.link u n) (sent_to n (account u)) p.outgoing) sender.1 sender.0.0)
      (subst (λ n. IsReceiver w.net.capacity (length (w.link n v)) (taken_from n (account v)) q.incoming) receiver.1 receiver.0.1)
      is (taken-rise v u (account v) (known v).rising)

  module _ (flushed : (u v : ℕ) → IsTrue (are_joined w.net.edges u v) → IsFlushedBetween (rows_of rs) u v) where
    link-any : (u v : ℕ) (b : Bool) → are_joined w.net.edges u v ≡ b
        → IsLinkMatched w.net.capacity (w.link u v) (sent_to v (account u)) (taken_from u (account v)) (if b then left_between (rows_of rs) u v else w.link u v)
    link-any u v true joined = on-ports u v _ _ refl refl (flushed u v joined)
    link-any u v false isnt = rw (none-sent w.net u v (account u) isnt (known u).leads.0, none-taken w.net u v (account v) isnt (known v).leads.0) (idle-link w.net.capacity (w.link u v))

    matched : AreMatched w account last
    matched = record {
      network = refl;
      spares = refl;
      nodes = λ v. (known v).leads;
      nobody = λ v. (known v).nobody;
      links = λ u v. link-any u v (are_joined w.net.edges u v) refl;
    }

    module _ (events : List Event) (woven : IsWoven (journal_of (entries_of_all rs)) events) (law : WovenIsRun) where
      both-laws : (run w events ≡ last) × GoesThrough w events
      both-laws = law w last account (journal_of (entries_of_all rs)) events start.range matched (λ v. (known v).journal) woven

      deeds : (v : ℕ) → deeds_of v events ≡ events_of v (account v)
      deeds v = own-deeds account (journal_of (entries_of_all rs)) events v (λ v. (known v).journal) woven

      pub is-run : EachRoundTicks → IsThreadRun turns w events last
      is-run rounds-tick = record {
        leads = both-laws.0;
        through = both-laws.1;
        account = account;
        journal = journal_of (entries_of_all rs);
        woven = woven;
        rising = all-rising;
        said = λ v. (known v).journal;
        matched = matched;
        rounds = λ v lt. ((known v).did lt).0;
        ticks = λ v lt. own-ticks v events ∙ (ap (count_of (is_tick_of v)) (deeds v) ∙ rounds-tick v (neighbours_of w.net v) (turns v) (account v) ((known v).did lt).0);
        first = λ v lt some. subst (IsFirstTurn w v) (sym (deeds v)) (((known v).did lt).1 some);
      }

      pub settleable : RangesStay → AreSettleable w.net (rows_of rs)
      settleable ranges u v joined =
          let range : IsWorldInRange last = subst IsWorldInRange both-laws.0 (ranges w events start.range) in
          let link : last.link u v ≡ left_between (rows_of rs) u v = ap (λ b. if b then left_between (rows_of rs) u v else w.link u v) joined in (
            subst (λ xs. length xs ≤ w.net.capacity) link (range.capacity u v joined),
            subst (All (λ item. IsTrue (item_fits (ranges_of w.net) item))) link (range.items u v joined),
          )

-- ---- a world and its start

pub start-of : (view : ConfigurationView) → IsWorldInRange (world_of view) → IsStart (world_of view)
start-of view range = record { range = range; beyond = λ v le. rw (le-ltb v view.links.net.nodes le) refl }

-- ---- one runner that came back

-- it did all its turns from the start, or is as it was
is-back : (w : World) (turns v : ℕ) (r now : Runner Global) (ran : Bool) → IsWorldInRange w → IsAtStart w turns v r → Keeps turns r now ran → HasDone w v (if ran then turns else 0) now
is-back w turns v r now true range start (deeds, does, rounds, few, first) =
    let ids : port_ids r ≡ neighbours_of w.net v = start.ready.ports ∙ ap (λ s. s.neighbours) start.said.site in
    let long = length-map r.ports.items (λ p. p.neighbour) in
    let count = ap length ids in
    let below = below-long w.net v in
    let most = range.network.limits.most in
    record {
      notes = deeds;
      said = does.said w v [] start.said;
      rounds = subst (λ us. AreRounds us turns deeds) ids rounds;
      first = λ some. first some start.clock (omega arith) w v start.said range.capacity;
    }
is-back w turns v r now false range start same = rw same (record { notes = []; said = start.said; rounds = refl; first = λ some. absurd (omega arith) })

all-same : (ps : List (RunnerPort Global)) → AreSamePorts ps ps
all-same ps = (refl, λ k d within. search rules)

same-ports : (turns : ℕ) (r now : Runner Global) (ran : Bool) → Keeps turns r now ran → AreSamePorts r.ports.items now.ports.items
same-ports turns r now true (deeds, does, rounds, few, first) = does.ports
same-ports turns r now false same = rw same (all-same r.ports.items)

-- it has written nothing yet, and has a port to each neighbour
abbrev IsFresh : Runner Global → Type 0
IsFresh r = (r.journal.entries.items ≡ []) × (port_ids r ≡ (site_in r.node).neighbours)

few-entries : (turns : ℕ) (r now : Runner Global) (ran : Bool) → IsFresh r → Keeps turns r now ran → length now.journal.entries.items ≤ entry_room turns (degree_of r.node)
few-entries turns r now true (none, ids) (deeds, does, rounds, few, first) =
    let made = subst (λ k. length deeds ≤ turns * (1 + 3 * k)) (sym (length-map r.ports.items (λ p. p.neighbour)) ∙ ap length ids) few in
    let entries = does.entries in
    let nothing = ap length none in
    omega arith
few-entries turns r now false (none, ids) same = let nothing = ap length none in rw same (omega arith)

-- ---- all that came back

same-rows : (turns : ℕ) (rs : List (Runner Global)) (os : List ReturnedRunner) (x : ℕ) → AllZip (IsOutcomeOf turns) rs os → AreSamePorts (row (rows_of rs) x) (row (rows_of (runners_in os)) x)
same-rows turns [] [] x all = all-same []
same-rows turns [] (o ∷ os) x all = elim all [ ]
same-rows turns (r ∷ rs) [] x all = elim all [ ]
same-rows turns (r ∷ rs) (o ∷ os) zero all = same-ports turns r o.runner o.ran all.0
same-rows turns (r ∷ rs) (o ∷ os) (suc x) all = same-rows turns rs os x all.1

-- the entries of some nodes fit if there is room for all of theirs
all-fit : (turns : ℕ) (rs : List (Runner Global)) (os : List ReturnedRunner) → All IsFresh rs → AllZip (IsOutcomeOf turns) rs os → entry_count (entries_of_all (runners_in os)) ≤ total_room turns (nodes_of rs)
all-fit turns [] [] fresh all = omega arith
all-fit turns [] (o ∷ os) fresh all = elim all [ ]
all-fit turns (r ∷ rs) [] fresh all = elim all [ ]
all-fit turns (r ∷ rs) (o ∷ os) fresh all =
    let one = few-entries turns r o.runner o.ran (All-head IsFresh r rs fresh) all.0 in
    let later = all-fit turns rs os (All-tail IsFresh r rs fresh) all.1 in
    omega (arith, one, later)

-- the same port is found, or none
abbrev IsSameFound : {A : Type 0} → Option (RunnerPort A) → Option (RunnerPort A) → Type 0
IsSameFound (Some p) (Some q) = IsSamePort p q
IsSameFound (Some p) None = ⊥
IsSameFound None (Some q) = ⊥
IsSameFound None None = Unit {0}

same-found : {A : Type 0} (ps qs : List (RunnerPort A)) (v : ℕ) → AreSamePorts ps qs → IsSameFound (port_to ps v) (port_to qs v)
same-found [] [] v same = tt
same-found [] (q ∷ qs) v same = absurd (let l = same.0 in omega arith)
same-found (p ∷ ps) [] v same = absurd (let l = same.0 in omega arith)
same-found (p ∷ ps) (q ∷ qs) v same =
    let one : IsSamePort p q = same.1 0 p (omega arith) in
    let rest = same-found ps qs v ((let l = same.0 in omega arith), λ k d there. same.1 (suc k) d (omega arith)) in
    grind (arith, common_steps, one, rest)

cabled-stays : {A : Type 0} (a c b d : Option (RunnerPort A)) → IsSameFound a c → IsSameFound b d → IsCableOn a b → IsCableOn c d
cabled-stays a c b d x y is = grind (arith, common_steps, x, y, is)

module _ (w : World) (turns : ℕ) (rs : List (Runner Global)) (os : List ReturnedRunner) (range : IsWorldInRange w) (start : AreAtStart w turns rs) (all : AllZip (IsOutcomeOf turns) rs os) where
  pub came-count : length os ≡ w.net.nodes
  came-count = let b = AllZip-long (IsOutcomeOf turns) rs os all in let c = start.count in omega arith

  pub have-done : (did : ℕ → ℕ) → ((v : ℕ) → v < length os → turns_of turns os v ≡ did v) → HaveDone w did (runners_in os)
  have-done did same = record {
    count = length-map os (λ o. o.runner) ∙ came-count;
    each = λ v now vn.
        let d : ReturnedRunner = record { runner = now; ran = true } in
        let here : v < length os = let c = came-count in omega arith in
        let there : v < length rs = let c = start.count in omega arith in
        let kept = rw (slice_get-get_or rs v now there, slice_get-get_or os v d here) at (AllZip-left (IsOutcomeOf turns) rs os all v) in
        let done = is-back w turns v (slice_index_or rs v now) (slice_index_or os v d).runner _ range (start.each v now vn) kept in
        rw (get_or-map (λ o. o.runner) os v d now here) (subst (λ t. HasDone w v t (slice_index_or os v d).runner) (ap (λ b. if b then turns else 0) (sym (get_or-map (λ o. o.ran) os v d false here)) ∙ same v here) done);
    cabled = λ u v joined. cabled-stays _ (port_to (row (rows_of (runners_in os)) u) v) _ (port_to (row (rows_of (runners_in os)) v) u) (same-found _ _ v (same-rows turns rs os u all)) (same-found _ _ u (same-rows turns rs os v all)) (start.cabled u v joined);
  }

  pub entries-fit : entry_count (entries_of_all (runners_in os)) ≤ total_room turns (nodes_of rs)
  entries-fit = all-fit turns rs os (λ k d within. let one = start.each k d (let c = start.count in omega arith) in (one.said.journal, one.ready.ports)) all

-- ---- who ran

pub all-ran : (os : List ReturnedRunner) → have_run os ≡ true → (v : ℕ) → v < length os → has_run os v ≡ true
all-ran [] ran v within = absurd (omega (arith, within))
all-ran (o ∷ os) ran zero within = grind (arith, common_steps, ran)
all-ran (o ∷ os) ran (suc v) within = all-ran os (grind (arith, common_steps, ran)) v (omega arith)

some-idle : (os : List ReturnedRunner) → have_run os ≡ false → (v : ℕ) × (v < length os) × (has_run os v ≡ false)
some-idle [] ran = absurd (false≢true (sym ran))
some-idle (o ∷ os) ran = elim (cases_Bool o.ran) [
  | inl did ↦ let found = some-idle os (rw did at ran) in let l = found.1 in (suc found.0, omega arith, found.2)
  | inr idle ↦ (0, omega arith, idle)
]

-- ---- the world that is made of them

module _ {A : Type 0} {rs : List (Runner A)} {links : LinksView} {room : StretchView} {seats : RunnerSeats A} {out : Vec Event A} (w : World) (turns : ℕ → ℕ) (it : IsGatherable w turns rs links room seats out) where
  pub gathered : (now : LinksView) (nodes : List NodeView) (rows : List (List (RunnerPort A))) (entries : List (List JournalEntry)) (events : List Event)
      → nodes ≡ nodes_of rs → rows ≡ rows_of rs → entries ≡ entries_of_all rs
      → now.net ≡ links.net → now.spares ≡ links.spares
      → ((u v : ℕ) → IsTrue (are_joined links.net.edges u v) → IsFlushedBetween rows u v)
      → (AreSettleable links.net rows → under_way now ≡ settled links.net rows (under_way links))
      → IsWoven (journal_of entries) events → WovenIsRun → EachRoundTicks → RangesStay
      → IsThreadRun turns w events (world_of (record { nodes = nodes; links = now }))
  gathered now nodes rows entries events nodes-are rows-are entries-are net spare flushed settles woven law rounds ranges =
      let flat : (u v : ℕ) → IsTrue (are_joined w.net.edges u v) → IsFlushedBetween (rows_of rs) u v = λ u v joined. rw rows-are at (flushed u v (rw it.over.0 at joined)) in
      let weave = rw entries-are at woven in
      let run = is-run w turns rs it.done it.start flat events weave law rounds in
      let able : AreSettleable links.net rows = rw rows-are (rw it.over.0 at (settleable w turns rs it.done it.start flat events weave law ranges)) in
      let link : settled w.net (rows_of rs) w.link ≡ under_way now = rw (it.over.0, it.over.1, ← rows-are) (sym (settles able)) in
      let node : states_of w.net (nodes_of rs) ≡ states_of now.net nodes = rw (it.over.0, net, nodes-are) refl in
      let spares : w.spares ≡ spare_pairs now = it.spares ∙ ap (λ s. length s / 2) (sym spare) in
      let network : w.net ≡ now.net = it.over.0 ∙ sym net in
      let same : last w turns rs it.done it.start ≡ world_of (record { nodes = nodes; links = now }) = cc in
      subst (IsThreadRun turns w events) same run

  -- the parts are one world's
  pub one-worlds : (now : LinksView) (nodes : List NodeView) → nodes ≡ nodes_of rs → now.net ≡ links.net → AreOneWorlds nodes now room
  one-worlds now nodes are net =
      let same : now.net ≡ w.net = net ∙ sym it.over.0 in
      let count = ap (λ n. n.nodes) same in
      record {
        nodes_are = record {
          all_nodes = let a = ap length are in let b = length-map rs (λ r. r.node) in let c = it.done.count in omega arith;
          sites = λ v vn. elim (slice_get_cases rs v).1 [
            | inl (r, within, is, at) ↦
                let mine = rw at at (it.done.each v r (let c = it.done.count in omega arith)) in
                ap (λ ns. site_in (node_at ns v)) are ∙ (ap site_in (read (λ r. r.node) rs v r no_node within (sym at)) ∙ (mine.said.site ∙ ap (λ n. site_of n v) (sym same)))
            | inr (past, is) ↦ absurd (let c = it.done.count in omega arith)
          ];
        };
        room_is = subst (λ n. HasRoomFor n room) (sym same) it.judged;
      }

-- ---- the whole run

module _ (w : World) (turns : ℕ) (p : Prepared Global) (os : List ReturnedRunner) (back : List (Runner Global)) (start : IsStart w) (ready : IsPrepared w turns p) (all : AllZip (IsOutcomeOf turns) p.runners.items os) (came : back ≡ runners_in os) where
  pub gatherable : (did : ℕ → ℕ) → ((v : ℕ) → v < length os → turns_of turns os v ≡ did v) → IsGatherable w did back p.links p.room p.seats p.events
  gatherable did alike =
      let few = entries-fit w turns p.runners.items os start.range ready.runners all in
      let room = ready.events in
      rw came
      (record {
        start = start;
        done = have-done w turns p.runners.items os start.range ready.runners all did alike;
        over = ready.links;
        spares = ready.spares;
        judged = ready.room;
        empty = subst (λ n. AreEmptySeats n p.seats) (sym (length-map os (λ o. o.runner) ∙ came-count w turns p.runners.items os start.range ready.runners all)) ready.seats;
        nothing = ready.nothing;
        fits = omega (arith, few, room);
      })

  pub part : (events : List Event) (last : World) → IsThreadRun (turns_of turns os) w events last → have_run os ≡ false → IsPartRun turns w events last
  part events last run ran =
      let idle = some-idle os ran in
      let c = came-count w turns p.runners.items os start.range ready.runners all in
      record { did = turns_of turns os; each = λ v. grind (arith, common_steps); idle = (idle.0, omega (arith, idle.1), rw idle.2); run = run }

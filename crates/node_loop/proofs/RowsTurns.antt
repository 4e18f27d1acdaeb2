-- Small examples of ticks, plans, turns and answers, and some that look like them and are none.
use Rattle.std.proofs.Common.{◌≡◌, ℕ, List, Option, None, Some, codes, refl, arith, ◌≢◌, true, false, ◌∷◌, All, ap, ◌∙◌, inl, []}
use Rattle.lock_desk.specs.declared.fault.AskFault.TheVariants.{Full}
use Rattle.node_service.specs.Answers.{lock_answer, after_line, answer_text}
use Rattle.std.proofs.lemmas.Grind.{common_steps}
use Rattle.std.proofs.lemmas.List.Elements.{All-nil, All-cons, All-head, All-tail}
use Rattle.topology.specs.declared.frame.Frame.{Frame}
use Rattle.lock_desk.specs.Desk.{no_desk}
use Rattle.lock_desk.specs.declared.act.DeskAct.TheVariants.{Quiet, Granted}
use Rattle.lock_desk.specs.declared.client_line.ClientLine.TheVariants.{Lock, Unlock, Unknown}
use Rattle.node_core.specs.Site.{Site}
use Rattle.node_core.specs.State.{LocalState}
use Rattle.link_model.specs.declared.item.Item.TheVariants as item
use Rattle.node_core.specs.Step.{taken}
use Rattle.node_core.specs.View.{NodeView, site_in, state_of}
use Rattle.node_core.specs.declared.ticked.Ticked.{Ticked}
use Rattle.pace.specs.declared.pace.Plan.{Plan}
use Rattle.node_connections.specs.socket_links.Counts.{Counts}
use Rattle.node_connections.specs.declared.port.NodePort.{NodePort}
use Rattle.node_service.specs.Deeds.{Acts, Became, Deed, IsLeave, IsOfClient, IsTake, Leads, ticks_in, Takes, Asks, Leaves, Ticks, Sends}
use Rattle.node_loop.specs.Moments.{Moment, moment_of}
use Rattle.node_loop.specs.Speaking.{IsPlanOf, outlook_of, sent_if}
use Rattle.node_loop.specs.Turns.{Attends, Turns}
use Rattle.node_loop.proofs.Accounts.{attend-ticks}
use Rattle.node_loop.proofs.RowsPorts.{root_with, some_frame}

-- the root of two nodes as it starts, with a lease of 100 ticks
abbrev root : NodeView
root = root_with 100 no_desk

-- what a tick makes of it: the root is at distance 0
abbrev root_ticked : NodeView
root_ticked = record root { distance = 0 }

-- ---- deeds

counts-ticks : ticks_in (Takes 1 some_frame ∷ Ticks ∷ Asks 3 ∷ Sends 1 some_frame ∷ Leaves 3 ∷ Ticks ∷ []) ≡ 2
counts-ticks = refl

counts_not-deeds : ticks_in (Takes 1 some_frame ∷ Asks 3 ∷ []) ≢ 2
counts_not-deeds = grind arith

-- a stranger that leaves changes nothing
became-leave : Became IsLeave root root
became-leave = record { site = refl; deeds = Leaves 3 ∷ []; kinds = All-cons IsLeave (Leaves 3) [] tt (All-nil IsLeave); leads = refl }

-- if nothing ticks, the distance stays
distance-takes : (site : Site) (w : ℕ) (f : Frame) (s : LocalState) → (taken site w (item.Frame f) s).distance ≡ s.distance
distance-takes site w f s = grind (arith, common_steps)

distance-stays : (site : Site) (ds : List Deed) (s last : LocalState) → ticks_in ds ≡ 0 → Leads site ds s last → last.distance ≡ s.distance
distance-stays site [] s last none leads = ap (λ x. x.distance) leads
distance-stays site (Takes w f ∷ ds) s last none leads = distance-stays site ds _ last none leads.1 ∙ distance-takes site w f s
distance-stays site (Asks t ∷ ds) s last none leads = distance-stays site ds _ last none leads.1
distance-stays site (Leaves t ∷ ds) s last none leads = distance-stays site ds _ last none leads
distance-stays site (Ticks ∷ ds) s last none leads = absurd (omega (arith, none))
distance-stays site (Sends w f ∷ ds) s last none leads = distance-stays site ds s last none leads.2

leaves-tick-never : (ds : List Deed) → All IsLeave ds → ticks_in ds ≡ 0
leaves-tick-never [] k = refl
leaves-tick-never (Takes w f ∷ ds) k = elim (All-head IsLeave (Takes w f) ds k) [ ]
leaves-tick-never (Asks t ∷ ds) k = elim (All-head IsLeave (Asks t) ds k) [ ]
leaves-tick-never (Leaves t ∷ ds) k = leaves-tick-never ds (All-tail IsLeave (Leaves t) ds k)
leaves-tick-never (Ticks ∷ ds) k = elim (All-head IsLeave Ticks ds k) [ ]
leaves-tick-never (Sends w f ∷ ds) k = elim (All-head IsLeave (Sends w f) ds k) [ ]

leaves-keep : (old new : NodeView) → Became IsLeave old new → new.distance ≡ old.distance
leaves-keep old new b = distance-stays (site_in old) b.deeds (state_of old) (state_of new) (leaves-tick-never b.deeds b.kinds) b.leads

-- so no leave makes of a node what a tick makes of it
became_not-ticked : ¬ Became IsLeave root root_ticked
became_not-ticked b = grind (arith, leaves-keep root root_ticked b)

-- ---- one tick

abbrev quiet : Ticked
quiet = record { act = Quiet; full = true }

abbrev acts : Acts quiet root root_ticked
acts = record { acted = root_ticked; act = refl; full = refl; site = refl; state = refl; leaves = record { site = refl; deeds = []; kinds = All-nil IsLeave; leads = refl } }

-- a node that does not tick does not act
acted-distance : (says : Ticked) (new : NodeView) → Acts says root new → new.distance ≡ 0
acted-distance says new a = leaves-keep a.acted new a.leaves ∙ ap (λ s. s.distance) a.state

acts_not-still : (says : Ticked) → ¬ Acts says root root
acts_not-still says a = grind (arith, acted-distance says root a)

-- nor does one that says something else of the loan, or of the tick
acts_not-granted : ¬ Acts (record quiet { act = Granted 3 }) root root_ticked
acts_not-granted a = grind (arith, a.act, ap (λ s. s.desk.lent) a.state)

acts_not-part : ¬ Acts (record quiet { full = false }) root root_ticked
acts_not-part a = grind (arith, a.full, ap (λ s. s.desk.lent) a.state)

-- ---- plans

abbrev ticks_only : Plan
ticks_only = record { ticks = true; offers = [] }

abbrev rests : Plan
rests = record { ticks = false; offers = [] }

module _ {P : Type 0} where
  -- a node without connections; it ticked last at 1,000 microseconds
  abbrev moment : NodeView → Moment P
  moment node = record {
    node = node;
    ports = [];
    pace = record {
      manner = record { hold = 2000; repeat = 8000 };
      node = record { hold_until = 0; credit = 0; called_at = 0; ticked_at = 1000 };
      ports = [];
    };
    let_go = false;
  }

  -- a moment has the node, the ports, the pace, and whether a client let go, each as it is given
  moment-of : (p q : NodePort P) → moment_of root_ticked (p ∷ q ∷ []) (moment root).pace true
      ≡ record { node = root_ticked; ports = p ∷ q ∷ []; pace = (moment root).pace; let_go = true }
  moment-of p q = refl

  moment_not-let-go : ¬ (moment_of root [] (moment root).pace true ≡ moment root)
  moment_not-let-go e = let let_go = ap (λ (m : Moment P). m.let_go) e in grind (arith, let_go)

  -- it lends to ticket 3, with a lease
  abbrev lending : Moment P
  lending = moment (root_with 100 (record { waiting = []; lent = Some 3; left = 50; served = false }))

  -- while such a loan runs it does not tick a millisecond after its last tick, and does after two
  plan-rests : IsPlanOf 2000 lending rests
  plan-rests = record { ticks = refl; offers = λ w l c. refl }

  plan_not-ticks : ¬ IsPlanOf 2000 lending ticks_only
  plan_not-ticks p = grind (arith, p.ticks)

  plan-ticks : IsPlanOf 3000 lending ticks_only
  plan-ticks = record { ticks = refl; offers = λ w l c. refl }

  plan_not-rests : ¬ IsPlanOf 3000 lending rests
  plan_not-rests p = grind (arith, p.ticks)

  -- and with no loan always
  plan-idle : IsPlanOf 1000 (moment root) ticks_only
  plan-idle = record { ticks = refl; offers = λ w l c. refl }

  plan_not-idle : ¬ IsPlanOf 1000 (moment root) rests
  plan_not-idle p = grind (arith, p.ticks)

  -- nothing is offered at a port without a connection
  plan_not-loose : ¬ IsPlanOf 1000 (moment root) (record { ticks = true; offers = false ∷ true ∷ [] })
  plan_not-loose p = grind (arith, p.offers 1 (omega arith) ((0, omega arith, refl)))

  -- ---- turns

  module _ (gave took : P → Option (List ℕ)) (counts : P → Counts) where
    -- nothing came, the node ticked, and there was nobody to speak to
    turn : Turns gave took counts quiet 1000 (moment root) (moment root_ticked)
    turn = record {
      heard = moment root;
      acted = moment root_ticked;
      plan = ticks_only;
      listens = record {
        wired = [];
        heard = root;
        wires = λ w. tt;
        hears = record { takes = record { site = refl; deeds = []; kinds = All-nil IsTake; leads = refl }; pulls = λ w. tt };
        serves = record { site = refl; deeds = []; kinds = All-nil IsOfClient; leads = refl };
        remembers = record { manner = refl; ports = λ p. inl (refl, refl) };
      };
      acts = acts;
      ports = refl;
      remembers = record { manner = refl; ports = λ p. inl (refl, refl) };
      plans = record { ticks = refl; offers = λ w l c. refl };
      speaks = record { sends = []; kinds = All-nil _; leads = refl; neighbours = λ w l c. tt; others = λ w n. (refl, refl); rest = (refl, refl) };
      leaves = record { site = refl; deeds = []; kinds = All-nil IsLeave; leads = refl };
      account = Ticks ∷ [];
      account_is = refl;
      leads = refl;
    }

    -- what a turn leaves without its tick is no turn, whatever came and whichever client asked
    turn-distance : (says : Ticked) (now : ℕ) (old new : Moment P) → (site_in old.node).is_root ≡ true
        → Turns gave took counts says now old new → new.node.distance ≡ 0
    turn-distance says now old new is_root t =
        let site : site_in t.heard.node ≡ site_in old.node = t.listens.serves.site ∙ t.listens.hears.takes.site in
        leaves-keep t.acted.node new.node t.leaves ∙ leaves-keep t.acts.acted t.acted.node t.acts.leaves
        ∙ ap (λ s. s.distance) t.acts.state ∙ grind (arith, common_steps, site, is_root)

    turn_not-still : (says : Ticked) (now : ℕ) → ¬ Turns gave took counts says now (moment root) (moment root)
    turn_not-still says now t = grind (arith, turn-distance says now (moment root) (moment root) refl t)

    -- between two turns nothing need happen, and nothing ticks
    attends : Attends gave took counts 2000 lending lending
    attends = record {
      heard = lending;
      plan = rests;
      listens = record {
        wired = [];
        heard = lending.node;
        wires = λ w. tt;
        hears = record { takes = record { site = refl; deeds = []; kinds = All-nil IsTake; leads = refl }; pulls = λ w. tt };
        serves = record { site = refl; deeds = []; kinds = All-nil IsOfClient; leads = refl };
        remembers = record { manner = refl; ports = λ p. inl (refl, refl) };
      };
      plans = record { ticks = refl; offers = λ w l c. refl };
      speaks = record { sends = []; kinds = All-nil _; leads = refl; neighbours = λ w l c. tt; others = λ w n. (refl, refl); rest = (refl, refl) };
      leaves = record { site = refl; deeds = []; kinds = All-nil IsLeave; leads = refl };
      account = [];
      account_is = refl;
      leads = refl;
    }

    attends_not-ticked : (now : ℕ) → ¬ Attends gave took counts now (moment root) (moment root_ticked)
    attends_not-ticked now t =
        let none = attend-ticks gave took counts now (moment root) (moment root_ticked) t in
        let same = distance-stays (site_in root) t.account (state_of root) (state_of root_ticked) none t.leads in grind (arith, same)

-- ---- what clients are answered

site : Site
site = site_in root

waiting : LocalState
waiting = record (state_of root) { desk = record { waiting = 3 ∷ []; lent = None; left = 0; served = false } }

-- a client that asks first waits for its answer; one that waits already hears so; any other is a stranger
answers-ask : answer_text site 3 Lock (state_of root) ≡ []
answers-ask = refl

answers-twice : answer_text site 3 Lock waiting ≡ codes "twice\n"
unfolding waiting
answers-twice = refl

answers-released : answer_text site 3 Unlock waiting ≡ codes "released\n"
unfolding waiting
answers-released = refl

answers-stranger : answer_text site 4 Unlock waiting ≡ codes "stranger\n"
unfolding waiting
answers-stranger = refl

answers-unknown : answer_text site 3 Unknown waiting ≡ codes "unknown\n"
answers-unknown = refl

answers_not-granted : answer_text site 3 Lock (state_of root) ≢ codes "granted\n"
answers_not-granted = grind arith

-- a client that may wait gets no answer yet
lock-waits : lock_answer None ≡ []
lock-waits = refl

lock_not-full : lock_answer (Some Full) ≡ codes "full\n"
lock_not-full = refl

lines-ask : (after_line 3 Lock (state_of root)).desk.waiting ≡ 3 ∷ []
lines-ask = refl

lines-leave : (after_line 3 Unlock waiting).desk.waiting ≡ []
unfolding waiting
lines-leave = refl

lines_not-unknown : (after_line 3 Unknown waiting).desk.waiting ≢ []
unfolding waiting
lines_not-unknown = grind arith

-- only a frame that was accepted is sent
sends-taken : sent_if true some_frame ≡ some_frame ∷ []
sends-taken = refl

sends_not-refused : sent_if false some_frame ≡ []
sends_not-refused = refl

looks : outlook_of (root_with 100 (record { waiting = 4 ∷ []; lent = Some 3; left = 50; served = false })) false
    ≡ record { waits = true; lends = true; has_lease = true; let_go = false }
looks = refl

looks-idle : outlook_of root true ≡ record { waits = false; lends = false; has_lease = true; let_go = true }
looks-idle = refl

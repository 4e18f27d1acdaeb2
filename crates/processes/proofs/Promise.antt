-- Each order is a run, and the run keeps the promise.
use Rattle.std.proofs.Common.{◌≡◌, ℕ, ◌<◌, ◌+◌, ◌-◌, ◌*◌, List, [], ◌∷◌, ◌++◌, IsTrue, refl, ap, ◌∙◌, sym, subst}
use Rattle.topology.specs.Network.{are_joined}
use Rattle.topology.specs.Eccentricity.{sharp_of}
use Rattle.topology.specs.Laws.{NeighboursAreJoined, JoinedBack, JoinedAreNodes}
use Rattle.node_core.specs.Site.{site_of}
use Rattle.run_model.specs.World.{World, IsWorldInRange}
use Rattle.run_model.specs.Step.{step}
use Rattle.run_model.specs.Run.{run, IsUndamaged}
use Rattle.run_model.specs.Sweep.{Sweeps}
use Rattle.run_model.specs.Headline.{Headline}
use Rattle.run_model.specs.Laws.{NetworkStays, RangesStay}
use Rattle.run_model.specs.declared.event.Event.{Event}
use Rattle.run_model.specs.declared.event.Event.TheVariants.{Send, Take, Lose, Tick, Ask, Leave, Damage}
use Rattle.convergence.specs.Sharp.{SharpHeadline, WorldConvergesSooner}
use Rattle.convergence.specs.Service.{WaitingAreServed}
use Rattle.node_core.specs.Deeds.{Leads}
use Rattle.processes.specs.Accounts.{Timed, deeds}
use Rattle.processes.specs.Links.{Act, Plays, the_losses, accepts_in, gives_in}
use Rattle.processes.specs.Marks.{history_of, IsOrderOf}
use Rattle.processes.specs.Together.{AreProcesses}
use Rattle.processes.specs.Through.{GoesThrough}
use Rattle.processes.specs.Laws.{ProcessesHaveOrder, OrdersAreRuns, ProcessesKeepPromise, LendsAfter}
use Rattle.processes.proofs.Steps.{Holds}
use Rattle.processes.proofs.Runs.{marks-run}
use Rattle.processes.proofs.SameHistory.{same-history}
use Rattle.processes.proofs.Histories.{accepts-are, gives-are, history-ordered}

-- the marks' history of a link is the history
pub one-history : (w last : World) (account : ℕ → List Timed) (history : ℕ → ℕ → List Act) (events : List Event) → AreProcesses w account history last
    → (o : IsOrderOf account history events) → (u v : ℕ) → IsTrue (are_joined w.net.edges u v) → history_of u v o.marks ≡ history u v
one-history w last account history events p o u v joined =
    let link = p.links u v joined in
    same-history (history_of u v o.marks) (history u v) (history-ordered u v o.marks o.ordered) link.in_order
    (accepts-are u v o.marks ∙ (ap (accepts_in v) (o.nodes u) ∙ sym link.accepted))
    (gives-are u v o.marks ∙ (ap (gives_in u) (o.nodes v) ∙ sym link.given)) (o.losses u v)

-- so the marks hold of the two worlds
pub all-hold : (w last : World) (account : ℕ → List Timed) (history : ℕ → ℕ → List Act) (events : List Event) → AreProcesses w account history last
    → (o : IsOrderOf account history events) → Holds w o.marks last
all-hold w last account history events p o = record {
  network = p.network;
  spares = p.spares;
  nodes = λ v. subst (λ ts. Leads (site_of w.net v) (deeds ts) (w.node v) (last.node v)) (sym (o.nodes v)) (p.nodes v);
  nobody = λ v out. o.nodes v ∙ p.nobody v out;
  links = λ u v is.
      subst (λ acts. Plays w.net.capacity (w.link u v) acts (last.link u v)) (sym (one-history w last account history events p o u v is)) (p.links u v is).plays;
  nowhere = λ u v out. let none = p.nowhere u v out in (o.losses u v ∙ ap the_losses none.0, none.1);
}

pub orders-run : NeighboursAreJoined → JoinedBack → JoinedAreNodes → OrdersAreRuns
orders-run near back joined w last account history events range p o =
    subst (λ es. (run w es ≡ last) × GoesThrough w es) o.are_events
    (marks-run near back o.marks w last (λ u v. joined w.net u v range.network) (all-hold w last account history events p o))

-- ---- what goes through is without damage

pub goes-undamaged : (w : World) (es : List Event) → GoesThrough w es → IsUndamaged w es
goes-undamaged w [] g = refl
goes-undamaged w (Tick v ∷ es) g = goes-undamaged (step w (Tick v)) es g.1
goes-undamaged w (Send u v ∷ es) g = goes-undamaged (step w (Send u v)) es g.1
goes-undamaged w (Take u v ∷ es) g = goes-undamaged (step w (Take u v)) es g.1
goes-undamaged w (Lose u v i ∷ es) g = goes-undamaged (step w (Lose u v i)) es g.1
goes-undamaged w (Ask v t ∷ es) g = goes-undamaged (step w (Ask v t)) es g.1
goes-undamaged w (Leave v t ∷ es) g = goes-undamaged (step w (Leave v t)) es g.1
goes-undamaged w (Damage h ∷ es) g = absurd g.0

pub goes-first : (w : World) (xs ys : List Event) → GoesThrough w (xs ++ ys) → GoesThrough w xs
goes-first w [] ys g = tt
goes-first w (e ∷ xs) ys g = (g.0, goes-first (step w e) xs ys g.1)

pub goes-then : (w : World) (xs ys : List Event) → GoesThrough w (xs ++ ys) → GoesThrough (run w xs) ys
goes-then w [] ys g = g
goes-then w (e ∷ xs) ys g = goes-then (step w e) xs ys g.1

module _ (network : NetworkStays) (ranges : RangesStay) (bound : Headline) (sharp : SharpHeadline) (legitimate : WorldConvergesSooner) (served : WaitingAreServed) where
  first-undamaged : (w : World) (events before after : List Event) → GoesThrough w events → events ≡ before ++ after → IsUndamaged w before
  first-undamaged w events before after g is = goes-undamaged w before (goes-first w before after (subst (GoesThrough w) is g))

  pub lends-after : (w : World) (events : List Event) → IsWorldInRange w → GoesThrough w events → LendsAfter (sharp_of w.net) w events
  lends-after w events range g before after v t i is sweeps in-net place stays more =
      let calm = first-undamaged w events before after g is in
      let now = run w before in
      let same : now.net ≡ w.net = network w before calm in
      served now after v t i (ranges w before range) (goes-undamaged now after (goes-then w before after (subst (GoesThrough w) is g)))
      (legitimate w before range calm sweeps) (subst (λ net. v < net.nodes) (sym same) in-net) place stays
      (subst (λ net. Sweeps now (8 * (net.nodes - 1) * (i + 2)) after) (sym same) more)

  pub keep-promise : ProcessesHaveOrder → OrdersAreRuns → ProcessesKeepPromise
  keep-promise order runs w last account history range p = (
    order w last account history range p,
    λ events o.
        let r = runs w last account history events range p o in record {
          leads = r.0;
          through = r.1;
          serves = λ before after is sweeps. sharp w before range (first-undamaged w events before after r.1 is) sweeps;
          serves_by_bound = λ before after is sweeps. bound w before range (first-undamaged w events before after r.1 is) sweeps;
          lends = lends-after w events range r.1;
        },
  )

-- What one deed of a node changes in its account.
use Rattle.std.proofs.Common.{◌≡◌, ℕ, ◌+◌, ◌<◌, ◌≤◌, List, [], ◌∷◌, ◌++◌, map, length, ap, sym, subst, ◌∙◌, arith, All, vec_capacity, length-append}
use Rattle.std.specs.List.{AllByRecursion}
use Rattle.topology.specs.Network.{Network}
use Rattle.run_model.specs.node_core.Site.{site_of}
use Rattle.run_model.specs.node_core.View.{site_in, state_of}
use Rattle.run_model.specs.World.{World}
use Rattle.weaving.specs.Woven.{AreRising}
use Rattle.weaving.specs.Account.{Note, entry_of, Leads}
use Rattle.node_runner.specs.declared.runner.Runner.{Runner}
use Rattle.node_runner.specs.Stamps.{last_stamp}
use Rattle.node_runner.specs.Runner.{IsNoted, IsPortNoted, IsReady, Does, AreSamePorts, port_ids}
use Rattle.node_runner.proofs.Accounts.{leads-on, entries-on, all-push, all-below, rising-push}

-- what a deed of a node changes beside its ports
pub record Noted {A : Type 0} (d : Note) (a b : Runner A) : Type 0 where
  pub id : b.id ≡ a.id
  pub site : site_in b.node ≡ site_in a.node
  pub entries : b.journal.entries.items ≡ a.journal.entries.items ++ entry_of a.id d ∷ []
  pub room : vec_capacity b.journal.entries ≡ vec_capacity a.journal.entries
  pub later : a.clock < (entry_of a.id d).stamp
  pub clock : b.clock ≡ (entry_of a.id d).stamp
  pub bound : b.clock ≤ last_stamp + (length a.journal.entries.items + 1)
  pub neighbours : port_ids b ≡ port_ids a
  pub ports : AreSamePorts a.ports.items b.ports.items
  pub leads : (net : Network) (v : ℕ) → a.id ≡ v → site_in a.node ≡ site_of net v → Leads net v (state_of a.node) (d ∷ []) (state_of b.node)
  pub said : (w : World) (v : ℕ) (past : List Note) → IsNoted w v past a → All (IsPortNoted w v (past ++ d ∷ [])) b.ports.items

pub does-one : {A : Type 0} (d : Note) (a b : Runner A) → IsReady a → Noted d a b → Does (d ∷ []) a b
does-one {A} d a b ready n =
    let longer : length b.journal.entries.items ≡ length a.journal.entries.items + 1 = ap length n.entries ∙ length-append a.journal.entries.items (entry_of a.id d ∷ []) in
    record {
      said = λ w v past was.
          let e = entry_of a.id d in
          let at : entry_of v d ≡ e = ap (λ i. entry_of i d) (sym was.id) in
          let old = map (entry_of v) past in
          let listed : map (entry_of v) (past ++ d ∷ []) ≡ old ++ e ∷ [] = entries-on v past (d ∷ []) ∙ ap (λ x. old ++ x ∷ []) at in
          let up : a.clock ≤ b.clock = let l = n.later in let c = n.clock in omega arith in
          record {
            id = n.id ∙ was.id;
            site = n.site ∙ was.site;
            leads = leads-on w.net v past (d ∷ []) (w.node v) (state_of a.node) (state_of b.node) was.leads (n.leads w.net v was.id was.site);
            journal = n.entries ∙ (ap (λ xs. xs ++ e ∷ []) was.journal ∙ sym listed);
            rising = subst AreRising (sym listed) (rising-push old a.clock e was.rising was.before n.later);
            before = subst (AllByRecursion (λ x. x.stamp ≤ b.clock)) (sym listed)
                (all-push (λ x. x.stamp ≤ b.clock) old e (all-below old a.clock b.clock up was.before) (let c = n.clock in omega arith));
            ports = n.said w v past was;
          };
      ready = record { clock = let h = n.bound in omega (arith, longer); ports = n.neighbours ∙ (ready.ports ∙ ap (λ s. s.neighbours) (sym n.site)) };
      id = n.id;
      site = n.site;
      ports = n.ports;
      entries = longer;
      room = n.room;
    }

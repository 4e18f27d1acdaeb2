use Rattle.std.proofs.Common.{◌∙◌, ◌+◌, ◌++◌, ap, rules, sym, subst, take, IsTrue}
use Rattle.std.specs.Prelude.{drop}
use Rattle.std.proofs.lemmas.List.{take_more, take-append-drop, drop_more}
use Rattle.std.proofs.lemmas.List.Elements.{All-get_or}
use Rattle.node_core.specs.Deeds.{Leads}
use Rattle.node_core.specs.View.{site_in, state_of}
use Rattle.node_follower.specs.Following.{account_of, is_own_account}
use Rattle.node_follower.proofs.Following.{followed, stuck}
use Rattle.node_follower.proofs.follower.Follower.follow.Goals as goal

pub loop-deed-preserved : goal.loop-deed-preserved
loop-deed-preserved g c =
    let self = c.args.self.now in
    let i = c.loop-deed.deed-index in
    let before = c.loop-deed.invariant in
    let new = c.does.new.self in (
      subst (λ l. Leads (site_in self) (account_of l) (state_of self) (state_of new)) (sym (take_more c.args.deeds.now i _ c.loop-deed-test.true))
          (followed c.accounts.ensures.join (site_in self) (site_in c.loop-deed.self) (take i c.args.deeds.now) _ (state_of self) (state_of c.loop-deed.self) (state_of new)
          before.0 before.1 (c.does.ensures.leads (search rules))),
      c.does.ensures.site ∙ before.1,
    )

pub returns-then-not-does-clause-refused : goal.returns-then-not-does-clause-refused
returns-then-not-does-clause-refused g c _ own last h =
    let self = c.args.self.now in
    let ds = c.args.deeds.now in
    let i = c.loop-deed.deed-index in
    let before = c.loop-deed.invariant in
    let parts = sym (take-append-drop i ds) ∙ ap (λ l. take i ds ++ l) (drop_more ds i _ c.loop-deed-test.true) in
    let plain = All-get_or (λ d. IsTrue (is_own_account d)) ds i _ c.loop-deed-test.true own in
    stuck c.accounts.ensures.one_end (site_in self) (site_in c.loop-deed.self) (take i ds) (drop (i + 1) ds) _ (state_of self) (state_of c.loop-deed.self) last
    before.0 before.1 (c.does.ensures.undone (search rules) plain)
    (subst (λ l. Leads (site_in self) (account_of l) (state_of self) last) parts h)

use Rattle.std.proofs.Common.{[], ◌∷◌, subst}
use Rattle.node_core.specs.Deeds.{Leads}
use Rattle.node_core.specs.View.{site_in, state_of}
use Rattle.node_follower.specs.Following.{account_of}
use Rattle.node_follower.proofs.follower.Follower.does.Goals as goal

pub returns-in-Takes-clause-undone : goal.returns-in-Takes-clause-undone
returns-in-Takes-clause-undone g c refused _ last h =
    let now = c.args.self.now in
    c.takes.ensures.undone refused last (subst (λ d. Leads (site_in now) (account_of (d ∷ [])) (state_of now) last) c.in-Takes.is h)

pub returns-in-Sends-clause-undone : goal.returns-in-Sends-clause-undone
returns-in-Sends-clause-undone g c refused _ last h =
    let now = c.args.self.now in
    c.sends.ensures.undone refused last (subst (λ d. Leads (site_in now) (account_of (d ∷ [])) (state_of now) last) c.in-Sends.is h)

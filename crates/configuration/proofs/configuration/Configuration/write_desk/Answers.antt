use Rattle.std.proofs.Common.{◌≡◌, ◌↔◌, subst, sym, refl, IsOk, IsTrue, None}
use Rattle.run_model.specs.node_core.lock_desk.Desk.{loan_fits, with_loan}
use Rattle.run_model.specs.node_core.View.{state_of}
use Rattle.run_model.specs.declared.event.Harm.{Harm}
use Rattle.run_model.specs.declared.event.Harm.TheVariants.{Desk}
use Rattle.run_model.specs.Step.{harm_fits, harm_place_fault}
use Rattle.configuration.specs.ConfigurationView.{ConfigurationView, world_of}
use Rattle.configuration.proofs.NodePlaces.{IsNodeAt, found-there, now-nodes, site-is, state-is}
use Rattle.configuration.proofs.Harms.{harm-answers}
use Rattle.configuration.proofs.configuration.Configuration.write_desk.Given as given
use Rattle.configuration.proofs.configuration.Configuration.write_desk.Goals as goal

-- the world before, the harm, where the node is, and that the harm's place is there
module _ (g : given.Over) (c : goal.After-damaged g) where
  abbrev old : ConfigurationView
  old = record { nodes = c.self.inside.nodes.items; links = c.self.inside.links }

  abbrev written : Harm
  written = Desk c.args.node c.args.lent c.args.left c.args.served

  here : IsNodeAt old.links.net old.nodes c.args.node c.in_ok-place.place c.index_mut.result.now
  here = found-there c.self.view_is c.self.invariant c.in_ok-place.ensures.ok c.index_mut.ensures.value

  found : harm_place_fault (world_of old) written ≡ None
  found = rw (← c.self.view_is) at c.in_ok-place.ensures.ok.2

  fits : IsOk c.set_desk.result ↔ IsTrue (harm_fits (world_of old) written)
  fits =
      subst (λ s. IsOk c.set_desk.result ↔ IsTrue (loan_fits old.links.net.lease s.desk c.args.lent c.args.left)) (sym (state-is _ _ _ _ _ here))
      (subst (λ s. IsOk c.set_desk.result ↔ IsTrue (loan_fits s.lease (state_of c.index_mut.result.now).desk c.args.lent c.args.left)) (site-is _ _ _ _ _ here) c.set_desk.ensures.variant)

pub invariant_of-self : goal.invariant_of-self
invariant_of-self g c = now-nodes _ _ _ _ _ (here g c) c.set_desk.new.self c.set_desk.ensures.site

pub returns : goal.returns
returns g c =
    rw (← c.self.view_is) (harm-answers (old g c) _ _ _ _ (written g c) (λ s. record s { desk = with_loan s.desk c.args.lent c.args.left c.args.served })
    c.set_desk.result c.damaged.result (here g c) (found g c) refl (fits g c) refl c.set_desk.ensures.ok c.set_desk.ensures.out_of_range
    c.damaged.ensures.ok c.damaged.ensures.did c.damaged.ensures.err)

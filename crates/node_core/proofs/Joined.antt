-- Accounts one after the other: by induction on the first.
use Rattle.std.proofs.Common.{[], ◌∷◌, refl, subst, sym, ◌∙◌}
use Rattle.std.proofs.lemmas.Grind.{common_steps}
use Rattle.std.proofs.Common.{arith}
use Rattle.data_link.specs.link_model.declared.item.Item.TheVariants as item
use Rattle.lock_desk.specs.Desk.{after_leave}
use Rattle.node_core.specs.Step.{taken, ticked}
use Rattle.node_core.specs.Deeds.{Takes, Asks, Leaves, Ticks, Sends, after_ask, Leads}
use Rattle.node_core.specs.Laws.{AccountsJoin, OneEnd, FramesJoin}

pub joins : AccountsJoin
joins site [] second s mid last h k = subst (λ x. Leads site second x last) h k
joins site (Takes w f ∷ ds) second s mid last h k = (h.0, joins site ds second (taken site w (item.Frame f) s) mid last h.1 k)
joins site (Asks t ∷ ds) second s mid last h k = (h.0, joins site ds second (record s { desk = after_ask t s.desk }) mid last h.1 k)
joins site (Leaves t ∷ ds) second s mid last h k = joins site ds second (record s { desk = after_leave t s.desk }) mid last h k
joins site (Ticks ∷ ds) second s mid last h k = joins site ds second (ticked site s) mid last h k
joins site (Sends w f ∷ ds) second s mid last h k = (h.0, h.1, joins site ds second s mid last h.2 k)

pub one-end : OneEnd
one-end site [] s last other h k = h ∙ sym k
one-end site (Takes w f ∷ ds) s last other h k = one-end site ds (taken site w (item.Frame f) s) last other h.1 k.1
one-end site (Asks t ∷ ds) s last other h k = one-end site ds (record s { desk = after_ask t s.desk }) last other h.1 k.1
one-end site (Leaves t ∷ ds) s last other h k = one-end site ds (record s { desk = after_leave t s.desk }) last other h k
one-end site (Ticks ∷ ds) s last other h k = one-end site ds (ticked site s) last other h k
one-end site (Sends w f ∷ ds) s last other h k = one-end site ds s last other h.2 k.2

pub frames-join : FramesJoin
frames-join w [] second = (refl, refl)
frames-join w (Takes v f ∷ ds) second = let rest = frames-join w ds second in grind (arith, common_steps)
frames-join w (Asks t ∷ ds) second = frames-join w ds second
frames-join w (Leaves t ∷ ds) second = frames-join w ds second
frames-join w (Ticks ∷ ds) second = frames-join w ds second
frames-join w (Sends v f ∷ ds) second = let rest = frames-join w ds second in grind (arith, common_steps)

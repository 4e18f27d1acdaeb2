use Rattle.std.proofs.Common.{◌≡◌, ◌<◌, List, [], ◌∷◌, ◌++◌, ◌∙◌, Contains, IsTrue, length, arith, refl, sym, subst, ap, inl, inr, append-nil}
use Rattle.std.proofs.lemmas.Grind.{common_steps}
use Rattle.run_model.specs.node_core.Step.{taken}
use Rattle.run_model.specs.node_core.View.{site_in, state_of}
use Rattle.weaving.specs.declared.journal.Stamped.{Stamped}
use Rattle.weaving.specs.Account.{Note, Took, sent_to, taken_from}
use Rattle.weaving.proofs.Accounts.{leads-to_take}
use Rattle.node_runner.specs.Ports.{IsSender, IsReceiver}
use Rattle.node_runner.proofs.Accounts.{sent-on, taken-on}
use Rattle.node_runner.proofs.Deeds.{Noted, does-one}
use Rattle.topology.specs.Network.{are_joined}
use Rattle.node_runner.proofs.Chances.{none-there, item-at-hand}
use Rattle.node_runner.proofs.PortDeeds.{IsAt, known, id-at, port-was, same-taking, noted-one, does-none}
use Rattle.node_runner.proofs.runner.Runner.take.Goals as goal

pub take-requires-in-Some : goal.take-requires-in-Some
take-requires-in-Some g c =
    let at : IsAt c.args.self.now c.args.place c.index_mut-port.result.now = record { within = c.requires.place; value = c.index_mut-port.ensures.value; ready = c.requires.ready } in
    known at

pub returns-in-Some : goal.returns-in-Some
returns-in-Some g c =
    let at : IsAt c.args.self.now c.args.place c.index_mut-port.result.now = record { within = c.requires.place; value = c.index_mut-port.ensures.value; ready = c.requires.ready } in
    let n = c.index_mut-port.result.now.neighbour in
    let same = same-taking c.index_mut-port.result.now c.take.new.self c.take.ensures.same in
    let s : Stamped = c.in-Some.taken in
    let deeds : List Note = Took n s ∷ [] in
    let rest = c.note.ensures.rest in
    let first : taken_from n deeds ≡ s ∷ [] = grind (arith, common_steps) in
    let noted : Noted (Took n s) c.args.self.now c.note.new.self =
    noted-one at _ same (Took n s) c.note.new.self c.neighbours.ensures.ascend (rest.0, ap site_in rest.1 ∙ c.take-in-Some.ensures.site, ap (λ ps. ps.items) rest.2)
    (c.note.ensures.entries, c.note.ensures.room)
    (c.in-Some.ensures.later.0, c.note.ensures.clock, let l = c.in-Some.ensures.later.1 in let r = c.requires.ready.clock in let e = c.note.ensures.clock in omega arith)
    (λ net v of_id site.
    let here = subst (λ s. Contains s.neighbours n) site (known at) in
    let joined = subst IsTrue (c.joined.ensures.back net.edges v n) ((c.neighbours.ensures.joined net v n).0 here).1 in
    let new = ap state_of rest.1 ∙ (c.take-in-Some.ensures.state ∙ ap (λ s. taken s n c.in-Some.taken.item (state_of c.args.self.now.node)) site) in
    leads-to_take net v (state_of c.args.self.now.node) n s [] (state_of c.note.new.self.node) here joined (tt, new))
    (λ u apart. (refl, grind (arith, common_steps)))
    (λ w v past was.
    let old = port-was at w v past was in
    let takes : taken_from n past ++ s ∷ [] ≡ taken_from n (past ++ deeds) = sym (taken-on n past deeds ∙ ap (λ xs. taken_from n past ++ xs) first) in
    let sends : sent_to n past ≡ sent_to n (past ++ deeds) = sym (sent-on n past deeds ∙ append-nil (sent_to n past)) in (
      subst (λ xs. IsSender w.net.capacity (w.link v n) xs c.index_mut-port.result.now.outgoing) sends old.0,
      subst (λ xs. IsReceiver w.net.capacity (length (w.link n v)) xs c.take.new.self) takes (c.in-Some.ensures.taken w.net.capacity (length (w.link n v)) (taken_from n past) old.1),
    )) in
    (deeds, does-one (Took n s) c.args.self.now c.note.new.self c.requires.ready noted, inr (s, ap (λ u. Took u s ∷ []) (id-at at)), λ w v past said links less. omega arith)

pub returns-in-None : goal.returns-in-None
returns-in-None g c =
    let at : IsAt c.args.self.now c.args.place c.index_mut-port.result.now = record { within = c.requires.place; value = c.index_mut-port.ensures.value; ready = c.requires.ready } in
    let n = c.index_mut-port.result.now.neighbour in
    let same = same-taking c.index_mut-port.result.now c.take.new.self c.take.ensures.same in
    let nothing = does-none at _ same _ c.neighbours.ensures.ascend refl refl refl refl refl (λ w v past was. let old = port-was at w v past was in (old.0, c.in-None.ensures.taken w.net.capacity (length (w.link n v)) (taken_from n past) old.1)) in (
      [],
      nothing,
      inl refl,
      λ w v past said links less.
          let here = id-at at in
          let was = port-was at w v past said in
          let joined : IsTrue (are_joined w.net.edges n v) =
          subst IsTrue (c.joined.ensures.back w.net.edges v n) ((c.neighbours.ensures.joined w.net v n).0 (subst (λ s. Contains s.neighbours n) said.site (known at))).1 in
          let hand = item-at-hand w v n past c.index_mut-port.result.now was.1 (links n v joined) (subst (λ u. length (taken_from u past) < length (w.link u v)) (sym here) less) in
          absurd (none-there (c.in-None.ensures.succeeds hand.0 hand.1)),
    )

use Rattle.std.proofs.Common.{◌≡◌, IsTrue, List, [], ◌∷◌, ◌++◌, ◌∙◌, Contains, length, arith, refl, sym, subst, ap, inl, inr, append-nil}
use Rattle.std.proofs.lemmas.Grind.{common_steps}
use Rattle.link_model.specs.declared.item.Item.TheVariants.{Frame}
use Rattle.run_model.specs.node_core.View.{site_in, state_of}
use Rattle.weaving.specs.Account.{Note, Sent, sent_to, taken_from}
use Rattle.node_runner.specs.Ports.{stamped, IsSender, IsReceiver}
use Rattle.node_runner.proofs.Accounts.{sent-on, taken-on}
use Rattle.node_runner.proofs.Deeds.{Noted, does-one}
use Rattle.run_model.specs.Step.{has_room}
use Rattle.node_runner.proofs.Chances.{none-there, place-at-hand}
use Rattle.node_runner.proofs.PortDeeds.{IsAt, known, id-at, port-was, same-sending, noted-one, does-none}
use Rattle.node_runner.proofs.runner.Runner.send.Goals as goal

pub frame_for-frame-requires : goal.frame_for-frame-requires
frame_for-frame-requires g c =
    let at : IsAt c.args.self.now c.args.place c.index_mut-port.result.now = record { within = c.requires.place; value = c.index_mut-port.ensures.value; ready = c.requires.ready } in
    c.is_neighbour-known.ensures.node (c.is_neighbour-known.ensures.neighbour.1 (known at))

pub returns-in-Some : goal.returns-in-Some
returns-in-Some g c =
    let at : IsAt c.args.self.now c.args.place c.index_mut-port.result.now = record { within = c.requires.place; value = c.index_mut-port.ensures.value; ready = c.requires.ready } in
    let n = c.index_mut-port.result.now.neighbour in
    let same = same-sending c.index_mut-port.result.now c.send.new.self c.send.ensures.same in
    let s = stamped c.in-Some.stamp (Frame c.frame_for-frame.result) in
    let deeds : List Note = Sent n s ∷ [] in
    let rest = c.note.ensures.rest in
    let first : sent_to n deeds ≡ s ∷ [] = grind (arith, common_steps) in
    let noted : Noted (Sent n s) c.args.self.now c.note.new.self =
    noted-one at _ same (Sent n s) c.note.new.self c.neighbours.ensures.ascend (rest.0, ap site_in rest.1, ap (λ ps. ps.items) rest.2)
    (c.note.ensures.entries, c.note.ensures.room) (c.in-Some.ensures.later.0, c.note.ensures.clock, let l = c.in-Some.ensures.later.1 in let e = c.note.ensures.clock in omega arith)
    (λ net v of_id site.
    let near = subst (λ s. Contains s.neighbours n) site (known at) in (
      (((c.neighbours.ensures.joined net v n).0 near).1, tt, tt),
      (near, c.frame_for-frame.ensures.frame, ap state_of rest.1),
    ))
    (λ u apart. (grind (arith, common_steps), refl))
    (λ w v past was.
    let old = port-was at w v past was in
    let sends : sent_to n past ++ s ∷ [] ≡ sent_to n (past ++ deeds) = sym (sent-on n past deeds ∙ ap (λ xs. sent_to n past ++ xs) first) in
    let takes : taken_from n past ≡ taken_from n (past ++ deeds) = sym (taken-on n past deeds ∙ append-nil (taken_from n past)) in (
      subst (λ xs. IsSender w.net.capacity (w.link v n) xs c.send.new.self) sends (c.in-Some.ensures.sent w.net.capacity (w.link v n) (sent_to n past) old.0),
      subst (λ xs. IsReceiver w.net.capacity (length (w.link n v)) xs c.index_mut-port.result.now.incoming) takes old.1,
    )) in (
      deeds,
      does-one (Sent n s) c.args.self.now c.note.new.self c.requires.ready noted,
      inr (s, ap (λ u. Sent u s ∷ []) (id-at at)),
      λ w v past said room none soon. omega arith,
      λ bound late up. let l = c.in-Some.ensures.later.2 in let e = c.note.ensures.clock in omega (arith, l, e, late, up),
    )

pub returns-in-None : goal.returns-in-None
returns-in-None g c =
    let at : IsAt c.args.self.now c.args.place c.index_mut-port.result.now = record { within = c.requires.place; value = c.index_mut-port.ensures.value; ready = c.requires.ready } in
    let n = c.index_mut-port.result.now.neighbour in
    let same = same-sending c.index_mut-port.result.now c.send.new.self c.send.ensures.same in
    let nothing = does-none at _ same _ c.neighbours.ensures.ascend refl refl refl refl refl (λ w v past was. let old = port-was at w v past was in (c.in-None.ensures.sent w.net.capacity (w.link v n) (sent_to n past) old.0, old.1)) in (
      [],
      nothing,
      inl refl,
      λ w v past said room none soon.
          let here = id-at at in
          let was = port-was at w v past said in
          let hand = place-at-hand w v n past c.index_mut-port.result.now was.0 (subst (λ u. IsTrue (has_room w v u)) (sym here) room) (subst (λ u. sent_to u past ≡ []) (sym here) none) in
          absurd (none-there (c.in-None.ensures.succeeds hand.0 hand.1 soon)),
      λ bound late up. omega (arith, up),
    )

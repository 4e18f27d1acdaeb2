use Rattle.std.proofs.Common.{◌<◌, All, length, rules, subst, sym, take}
use Rattle.std.proofs.lemmas.List.{take_all, take_more}
use Rattle.std.proofs.lemmas.List.Elements.{All-push}
use Rattle.std.specs.Prelude.{slice_index_or}
use Rattle.node_core.specs.View.{state_of}
use Rattle.node_follower.specs.Following.{AreSameAt}
use Rattle.node_follower.proofs.follower.ports_stand_as.Goals as goal

pub loop-w-preserved : goal.loop-w-preserved
loop-w-preserved g c =
    let ws = c.args.one.now.registers.neighbours in
    let s = state_of c.args.one.now in
    let t = state_of c.args.other.now in
    let i = c.loop-w.w-index in
    let there : i < length ws = search rules in
    let same : AreSameAt (slice_index_or ws i 0) s t = search rules in
    subst (λ xs. All (λ w. AreSameAt w s t) xs) (sym (take_more ws i 0 there)) (All-push (λ w. AreSameAt w s t) (take i ws) (slice_index_or ws i 0) c.loop-w.invariant same)

pub returns-clause-stand : goal.returns-clause-stand
returns-clause-stand g c _ =
    let ws = c.args.one.now.registers.neighbours in
    let s = state_of c.args.one.now in
    let t = state_of c.args.other.now in
    subst (λ xs. All (λ w. AreSameAt w s t) xs) (take_all c.loop-w.w-index ws (search rules)) c.loop-w.invariant

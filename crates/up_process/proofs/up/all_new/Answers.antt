use Rattle.std.proofs.Common.{◌≡◌, ◌∷◌, ◌++◌, [], None, map, subst, arith}
use Rattle.std.specs.List.{range_with_len}
use Rattle.std.proofs.lemmas.List.Elements.{All-push, All-same}
use Rattle.process_parts.specs.node_keeping.Steps.{new_keeper}
use Rattle.up_process.proofs.Ids.{ids-more}
use Rattle.up_process.proofs.up.all_new.Goals as goal

pub loop-id-preserved : goal.loop-id-preserved
loop-id-preserved g c =
    let old = c.loop-id.kept.items in
    let added = c.in_ok-push.ensures.items in
    let made = c.new.ensures in (
      ids-more (λ one. one.id) _ old c.new.result c.loop-id.id added c.loop-id.invariant.0 made.0,
      All-same (λ one. (one.keeper ≡ new_keeper) × (one.child ≡ None)) _ (old ++ c.new.result ∷ []) added
          (All-push (λ one. (one.keeper ≡ new_keeper) × (one.child ≡ None)) old c.new.result c.loop-id.invariant.1 (made.1, made.2)),
    )

pub returns-clause-ids : goal.returns-clause-ids
returns-clause-ids g c =
    let last : c.loop-id.id ≡ c.args.nodes = omega arith in
    subst (λ n. map (λ one. one.id) c.loop-id.kept.items ≡ range_with_len 0 n) last c.loop-id.invariant.0

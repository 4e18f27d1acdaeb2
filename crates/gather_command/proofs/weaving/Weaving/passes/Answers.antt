use Rattle.std.proofs.Common.{◌∙◌, ◌<◌, ap, sym, subst, ℕ, List, Option}
use Rattle.std.specs.Prelude.{slice_set}
use Rattle.std.proofs.lemmas.List.{length-set, map-set}
use Rattle.record_gathering.specs.flight_records.declared.entry.Entry.{Entry}
use Rattle.gather_command.specs.View.{NodeRecordView, heads_in}
use Rattle.gather_command.specs.WeavingView.{WeavingView}
use Rattle.gather_command.proofs.Sights.{got}
use Rattle.gather_command.proofs.weaving.Weaving.passes.Goals as goal

pub invariant_of-self : goal.invariant_of-self
invariant_of-self g c =
    let nodes = c.self.inside.nodes.items in
    let i = c.from-place.result in
    let after = c.advance.new.self in (
      ap (λ (hs : List (Option Entry)). slice_set hs i c.head-head.result) c.self.invariant.0
          ∙ ap (λ (o : Option Entry). slice_set (heads_in nodes) i o) c.head-head.ensures
          ∙ sym (map-set (λ (r : NodeRecordView). r.head) nodes i after),
      c.self.invariant.1 ∙ sym (length-set nodes i after),
      c.self.invariant.2 ∙ sym (length-set nodes i after),
    )

pub returns : goal.returns
returns g c =
    let nodes = c.self.inside.nodes.items in
    let before = c.index_mut-opened.result.now in
    let after = c.advance.new.self in
    let within : c.args.node < _ = subst (λ (n : ℕ). c.args.node < n) c.self.invariant.1 (rw (← c.self.view_is) at c.requires) in
    let now : ℕ → WeavingView = λ n. record {
      gathering = c.self.inside.gathering;
      records = slice_set nodes n after;
      seen = c.self.inside.sight;
    } in
    rw (← c.self.view_is) (
      before,
      after,
      got nodes c.args.node c.from-place.result before c.from-place.ensures within c.index_mut-opened.ensures.value,
      c.advance.ensures,
      ap now c.from-place.ensures,
    )

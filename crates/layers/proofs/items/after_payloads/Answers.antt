use Rattle.std.proofs.Common.{◌≡◌, ◌∙◌, ◌↔◌, sym, refl, subst, ◌<◌, ◌+◌, [], length, drop, arith}
use Rattle.std.specs.List.{AllByRecursion}
use Rattle.std.proofs.lemmas.Option.{slice_get_within}
use Rattle.configuration.specs.ConfigurationView.{world_of}
use Rattle.configuration.specs.data_link.Edge.{CarriesItsPayload}
use Rattle.layers.specs.PayloadReading.{Admits}
use Rattle.layers.proofs.Payloads.{tested-more}
use Rattle.layers.proofs.Tours.{none-left}
use Rattle.layers.proofs.items.after_payloads.Goals as goal

pub loop-index-init : goal.loop-index-init
loop-index-init g c = (omega arith, refl, refl, λ port other seq staged. (λ a. a, λ a. a))

pub loop-index-preserved : goal.loop-index-preserved
loop-index-preserved g c =
    let items = (world_of c.args.configuration.now).link c.args.from c.args.to in
    let i = c.loop-index.index in
    let so_far = c.loop-index.invariant in
    let there : i < length items = slice_get_within items i c.item-item.result c.item-item.ensures in (
      omega (arith, there),
      c.after_payload-reading.ensures.seq ∙ so_far.1,
      c.after_payload-reading.ensures.staged ∙ so_far.2,
      λ port other seq staged.
          let P = CarriesItsPayload port other in
          tested-more P items i c.item-item.result (Admits c.loop-index.reading other) (Admits c.after_payload-reading.result other)
          (Admits c.args.start other × AllByRecursion P items) c.item-item.ensures
          (c.after_payload-reading.ensures.admits port other (seq ∙ sym so_far.1) (staged ∙ sym so_far.2)) (so_far.3 port other seq staged),
    )

pub returns : goal.returns
returns g c = record {
  admits = λ port other seq staged.
      let items = (world_of c.args.configuration.now).link c.args.from c.args.to in
      let P = CarriesItsPayload port other in
      let C : Type 0 = Admits c.args.start other × AllByRecursion P items in
      let within = c.loop-index.invariant.0 in
      let end : length items ≡ c.loop-index.index = omega (arith, within, c.loop-index-test.false, c.under_way-index-end.ensures.items) in
      let all : (Admits c.loop-index.reading other × AllByRecursion P []) ↔ C =
      subst (λ ys. (Admits c.loop-index.reading other × AllByRecursion P ys) ↔ C) (none-left items c.loop-index.index end) (c.loop-index.invariant.3 port other seq staged) in
      (λ a. all.0 (a, tt), λ both. (all.1 both).0);
}

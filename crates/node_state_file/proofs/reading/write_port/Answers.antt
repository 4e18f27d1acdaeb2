use Rattle.std.proofs.Common.{◌<◌, ◌∙◌, sym, subst, Contains, IsTrue}
use Rattle.topology.specs.Ranges.{payload_fits}
use Rattle.state_writing.specs.node_core.Site.{Site}
use Rattle.state_writing.specs.node_core.View.{site_in, state_of}
use Rattle.node_state_file.proofs.Fits.{counters_of, staged_of, copy_of, value_of}
use Rattle.node_state_file.proofs.Written.{on_ok, written}
use Rattle.node_state_file.proofs.reading.write_port.Goals as goal

pub returns-clause-state : goal.returns-clause-state
returns-clause-state g c =
    let d = c.args.port in
    let r = (site_in c.args.node.now).ranges in
    let fits = c.requires.fits in
    let one = c.set_counters-counters.ensures in
    let two = c.set_staged-staged.ensures in
    let three = c.set_copy-copy.ensures in
    let four = c.set_value-value.ensures in
    let s1 = one.site in
    let s2 = two.site ∙ s1 in
    let s3 = three.site ∙ s2 in
    written c.args.neighbour d (state_of c.args.node.now) (state_of c.set_counters-counters.new.self) (state_of c.set_staged-staged.new.self)
    (state_of c.set_copy-copy.new.self) (state_of c.set_value-value.new.self)
    (on_ok c.set_counters-counters.result (one.variant.1 (counters_of r d fits)) one.ok)
    (on_ok c.set_staged-staged.result (two.variant.1 (subst (λ (s : Site). IsTrue (payload_fits s.ranges d.staged)) (sym s1) (staged_of r d fits))) two.ok)
    (on_ok c.set_copy-copy.result (three.variant.1 (subst (λ (s : Site). IsTrue (payload_fits s.ranges d.copy)) (sym s2) (copy_of r d fits))) three.ok)
    (on_ok c.set_value-value.result (four.variant.1 (subst (λ (s : Site). d.value < s.ranges.ring) (sym s3) (value_of r d fits))) four.ok)

pub set_counters-counters-requires : goal.set_counters-counters-requires
set_counters-counters-requires g c = c.requires.there

pub set_staged-staged-requires : goal.set_staged-staged-requires
set_staged-staged-requires g c =
    let same = c.set_counters-counters.ensures.site in
    subst (λ (s : Site). Contains s.neighbours c.args.neighbour) (sym same) c.requires.there

pub set_copy-copy-requires : goal.set_copy-copy-requires
set_copy-copy-requires g c =
    let same = c.set_staged-staged.ensures.site ∙ c.set_counters-counters.ensures.site in
    subst (λ (s : Site). Contains s.neighbours c.args.neighbour) (sym same) c.requires.there

pub set_value-value-requires : goal.set_value-value-requires
set_value-value-requires g c =
    let same = c.set_copy-copy.ensures.site ∙ c.set_staged-staged.ensures.site ∙ c.set_counters-counters.ensures.site in
    subst (λ (s : Site). Contains s.neighbours c.args.neighbour) (sym same) c.requires.there

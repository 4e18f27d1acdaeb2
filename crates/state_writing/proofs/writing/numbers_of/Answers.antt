use Rattle.std.proofs.Common.{arith, ◌≡◌, ◌≤◌, ◌+◌, ◌∙◌, ap, ◌++◌, length, take}
use Rattle.std.specs.List.{flat_map}
use Rattle.std.proofs.lemmas.List.{take_all}
use Rattle.arrayvec.specs.ArrayVec.{array_vec_len}
use Rattle.topology.specs.Network.{neighbours_of}
use Rattle.node_core.specs.Site.{Site}
use Rattle.node_core.specs.View.{site_in, state_of}
use Rattle.state_writing.specs.Spelling.{header_numbers, port_numbers}
use Rattle.state_writing.specs.declared.layout.FileLayout.TheVariants.{Tkt2}
use Rattle.state_writing.proofs.Numbers.{neighbour_below, on_ok, port_more}
use Rattle.state_writing.proofs.writing.numbers_of.Goals as goal

pub port_numbers-requires : goal.port_numbers-requires
port_numbers-requires g c =
    let net = c.args.net.now in
    let id = (site_in c.args.node.now).id in
    let ns = c.neighbours-neighbours.result.now in
    let ns_are : ns ≡ neighbours_of net id = c.neighbours-neighbours.ensures ∙ ap (neighbours_of net) c.id.ensures in
    let below = neighbour_below c.neighbours.ensures.joined net id c.loop-w.w-index ns ns_are c.loop-w-test.true in
    omega (arith, below, ap (λ (s : Site). s.ranges.nodes) c.requires.site)

pub loop-w-preserved : goal.loop-w-preserved
loop-w-preserved g c =
    let net = c.args.net.now in
    let s = state_of c.args.node.now in
    let id = (site_in c.args.node.now).id in
    let ns = c.neighbours-neighbours.result.now in
    let i = c.loop-w.w-index in
    let ns_are : ns ≡ neighbours_of net id = c.neighbours-neighbours.ensures ∙ ap (neighbours_of net) c.id.ensures in
    let f = port_numbers s in
    let header = header_numbers Tkt2 net id (length ns) s in
    let (items, count) = c.loop-w.invariant in
    let ten : length c.port_numbers.result ≡ 10 = ap length c.port_numbers.ensures in
    let few : length ns ≤ 63 = omega (arith, ap length ns_are, c.header_numbers.ensures.few) in
    let put = c.try_extend_from_slice-port.ensures in
    let room : array_vec_len c.loop-w.numbers + length c.port_numbers.result ≤ 636 = omega (arith, ten, count, few, c.loop-w-test.true) in
    let fits = put.variant.1 room in
    let r = c.try_extend_from_slice-port.result in (
      on_ok r fits put.ok
          ∙ ap (λ xs. xs ++ c.port_numbers.result) items
          ∙ ap (λ xs. (header ++ flat_map f (take i ns)) ++ xs) c.port_numbers.ensures
          ∙ port_more f header ns i c.loop-w-test.true,
      omega (arith, on_ok r fits put.len, ten, count),
    )

pub returns-clause-numbers : goal.returns-clause-numbers
returns-clause-numbers g c =
    let net = c.args.net.now in
    let s = state_of c.args.node.now in
    let id = (site_in c.args.node.now).id in
    let ns = c.neighbours-neighbours.result.now in
    let ns_are : ns ≡ neighbours_of net id = c.neighbours-neighbours.ensures ∙ ap (neighbours_of net) c.id.ensures in
    c.loop-w.invariant.0
    ∙ ap (λ ws. header_numbers Tkt2 net id (length ns) s ++ flat_map (port_numbers s) ws) (take_all c.loop-w.w-index ns c.loop-w-test.false)
    ∙ ap (λ ws. header_numbers Tkt2 net id (length ws) s ++ flat_map (port_numbers s) ws) ns_are

pub returns-clause-count : goal.returns-clause-count
returns-clause-count g c =
    let net = c.args.net.now in
    let ns_are : c.neighbours-neighbours.result.now ≡ neighbours_of net (site_in c.args.node.now).id = c.neighbours-neighbours.ensures ∙ ap (neighbours_of net) c.id.ensures in
    omega (arith, c.loop-w.invariant.1, c.loop-w-test.false, c.loop-w.auto.w-index-end, ap length ns_are)

pub returns-clause-few : goal.returns-clause-few
returns-clause-few g c = c.header_numbers.ensures.few

use Rattle.std.proofs.Common.{◌∙◌, ◌-◌, ap, sym, length, take, drop}
use Rattle.topology.specs.Ranges.{ranges_of}
use Rattle.node_state_file.specs.Reading.{fields_fit}
use Rattle.node_state_file.proofs.Faults.{rest_is, short_head, has_head, other_head, has_own, few_ports, has_ports, strange_ports, not_strange, fits_as, unfit_ports, many_bytes, read_whole}
use Rattle.node_state_file.proofs.reading.read_as.Goals as goal

pub returns-then-bytes-header_length-clause-err : goal.returns-then-bytes-header_length-clause-err
returns-then-bytes-header_length-clause-err g c = short_head c.args.net.now c.args.id c.args.layout c.args.bytes.now c.header_length.result c.header_length.ensures c.if-bytes-header_length.true

pub returns-then-not-is_of-clause-err : goal.returns-then-not-is_of-clause-err
returns-then-not-is_of-clause-err g c =
    let n = c.args.net.now in
    let id = c.args.id in
    let l = c.args.layout in
    let bytes = c.args.bytes.now in
    let h = c.read-header.result in
    let read = has_head n id l bytes c.header_length.result h c.header_length.ensures c.if-bytes-header_length.false c.read-header.ensures in
    other_head n id l bytes h read c.if-not-is_of.ensures.header

pub returns-then-rest-needed-clause-err : goal.returns-then-rest-needed-clause-err
returns-then-rest-needed-clause-err g c =
    let n = c.args.net.now in
    let id = c.args.id in
    let l = c.args.layout in
    let bytes = c.args.bytes.now in
    let h = c.read-header.result in
    let read = has_head n id l bytes c.header_length.result h c.header_length.ensures c.if-bytes-header_length.false c.read-header.ensures in
    let left = take (length bytes - c.header_length-2.result) (drop c.header_length-2.result bytes) in
    let left_is = rest_is c.header_length-2.result l bytes c.header_length-2.ensures in
    let d = c.from-needed.result in
    let own = has_own n id l bytes h d left read c.if-not-is_of.ensures.header c.from-needed.ensures left_is in
    few_ports n id l bytes h d left own c.if-rest-needed.true

pub returns-then-not-are_others-clause-err : goal.returns-then-not-are_others-clause-err
returns-then-not-are_others-clause-err g c =
    let n = c.args.net.now in
    let id = c.args.id in
    let l = c.args.layout in
    let bytes = c.args.bytes.now in
    let h = c.read-header.result in
    let read = has_head n id l bytes c.header_length.result h c.header_length.ensures c.if-bytes-header_length.false c.read-header.ensures in
    let left = take (length bytes - c.header_length-2.result) (drop c.header_length-2.result bytes) in
    let left_is = rest_is c.header_length-2.result l bytes c.header_length-2.ensures in
    let d = c.from-needed.result in
    let own = has_own n id l bytes h d left read c.if-not-is_of.ensures.header c.from-needed.ensures left_is in
    let ps = c.read_ports-ports.result.items in
    let ports = has_ports n id l bytes h d left ps own left_is c.if-rest-needed.false c.read_ports-ports.ensures in
    strange_ports n id l bytes h d left ps c.deref.result.now c.nodes.result ports c.deref.ensures.0 c.nodes.ensures.nodes c.if-not-are_others.ensures

pub returns-then-not-fields_fit-clause-err : goal.returns-then-not-fields_fit-clause-err
returns-then-not-fields_fit-clause-err g c =
    let n = c.args.net.now in
    let id = c.args.id in
    let l = c.args.layout in
    let bytes = c.args.bytes.now in
    let h = c.read-header.result in
    let read = has_head n id l bytes c.header_length.result h c.header_length.ensures c.if-bytes-header_length.false c.read-header.ensures in
    let left = take (length bytes - c.header_length-2.result) (drop c.header_length-2.result bytes) in
    let left_is = rest_is c.header_length-2.result l bytes c.header_length-2.ensures in
    let d = c.from-needed.result in
    let own = has_own n id l bytes h d left read c.if-not-is_of.ensures.header c.from-needed.ensures left_is in
    let ps = c.read_ports-ports.result.items in
    let ports = has_ports n id l bytes h d left ps own left_is c.if-rest-needed.false c.read_ports-ports.ensures in
    let known = not_strange n id l bytes h d left ps c.deref.result.now c.nodes.result ports c.deref.ensures.0 c.nodes.ensures.nodes c.if-not-are_others.ensures in
    let fit = fits_as n id l bytes h d left ps c.deref-2.result.now c.ranges-2.result _ ports c.deref-2.ensures.0 c.ranges-2.ensures c.if-not-fields_fit.ensures in
    unfit_ports n id l bytes h d left ps ports known fit

pub returns-then-rest-needed-2-clause-err : goal.returns-then-rest-needed-2-clause-err
returns-then-rest-needed-2-clause-err g c =
    let n = c.args.net.now in
    let id = c.args.id in
    let l = c.args.layout in
    let bytes = c.args.bytes.now in
    let h = c.read-header.result in
    let read = has_head n id l bytes c.header_length.result h c.header_length.ensures c.if-bytes-header_length.false c.read-header.ensures in
    let left = take (length bytes - c.header_length-2.result) (drop c.header_length-2.result bytes) in
    let left_is = rest_is c.header_length-2.result l bytes c.header_length-2.ensures in
    let d = c.from-needed.result in
    let own = has_own n id l bytes h d left read c.if-not-is_of.ensures.header c.from-needed.ensures left_is in
    let ps = c.read_ports-ports.result.items in
    let ports = has_ports n id l bytes h d left ps own left_is c.if-rest-needed.false c.read_ports-ports.ensures in
    let known = not_strange n id l bytes h d left ps c.deref.result.now c.nodes.result ports c.deref.ensures.0 c.nodes.ensures.nodes c.if-not-are_others.ensures in
    let fit = fits_as n id l bytes h d left ps c.deref-2.result.now c.ranges-2.result _ ports c.deref-2.ensures.0 c.ranges-2.ensures c.if-not-fields_fit.ensures in
    many_bytes n id l bytes h d left ps ports known fit c.if-rest-needed-2.true

pub returns-clause-ok : goal.returns-clause-ok
returns-clause-ok g c =
    let n = c.args.net.now in
    let id = c.args.id in
    let l = c.args.layout in
    let bytes = c.args.bytes.now in
    let h = c.read-header.result in
    let read = has_head n id l bytes c.header_length.result h c.header_length.ensures c.if-bytes-header_length.false c.read-header.ensures in
    let left = take (length bytes - c.header_length-2.result) (drop c.header_length-2.result bytes) in
    let left_is = rest_is c.header_length-2.result l bytes c.header_length-2.ensures in
    let d = c.from-needed.result in
    let own = has_own n id l bytes h d left read c.if-not-is_of.ensures.header c.from-needed.ensures left_is in
    let ps = c.read_ports-ports.result.items in
    let ports = has_ports n id l bytes h d left ps own left_is c.if-rest-needed.false c.read_ports-ports.ensures in
    let known = not_strange n id l bytes h d left ps c.deref.result.now c.nodes.result ports c.deref.ensures.0 c.nodes.ensures.nodes c.if-not-are_others.ensures in
    let fit = fits_as n id l bytes h d left ps c.deref-2.result.now c.ranges-2.result _ ports c.deref-2.ensures.0 c.ranges-2.ensures c.if-not-fields_fit.ensures in
    read_whole n id l bytes h d left ps ports known fit c.if-rest-needed-2.false

pub returns-clause-fits : goal.returns-clause-fits
returns-clause-fits g c =
    let h = c.read-header.result in
    sym (c.if-not-fields_fit.ensures ∙ ap (λ r. fields_fit r h c.deref-2.result.now) c.ranges-2.ensures ∙ ap (fields_fit (ranges_of c.args.net.now) h) c.deref-2.ensures.0)

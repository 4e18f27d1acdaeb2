use Rattle.std.proofs.Common.{◌∙◌, ◌++◌, ap, codes, string_bytes, Ok, append_assoc}
use Rattle.subcommands.specs.LayersText.{layer_line, links_line, stage_line}
use Rattle.subcommands.proofs.FourParts.{four-parts}
use Rattle.subcommands.proofs.layers_text.text_of.Goals as goal

pub returns : goal.returns
returns c =
    let layers = c.args.layers in
    let two = string_bytes c.push_stage.new.text in
    let links = links_line layers.stable layers.links in
    let stage = stage_line layers.stage layers.last_stage in
    let tree = layer_line (codes "tree") layers.tree in
    let ring = layer_line (codes "ring") layers.ring in
    let loans = layer_line (codes "loans") layers.loans in
    let whole = layer_line (codes "legitimate") layers.legitimate in
    four-parts {E = Unit {0}} (Ok c.in_ok-push_layer-4.field-0) two (string_bytes c.push_layer.new.text) (string_bytes c.push_layer-2.new.text)
    (string_bytes c.push_layer-3.new.text) (string_bytes c.push_layer-4.new.text) tree ring loans whole
    c.in_ok-push_layer.ensures c.in_ok-push_layer-2.ensures c.in_ok-push_layer-3.ensures c.in_ok-push_layer-4.ensures
    ∙ ap (λ x. x ++ (tree ++ (ring ++ (loans ++ whole))))
    (c.in_ok-push_stage.ensures ∙ ap (λ x. x ++ stage) (c.in_ok-push_links.ensures ∙ ap (λ x. x ++ links) c.new-text.ensures.bytes))
    ∙ append_assoc links stage (tree ++ (ring ++ (loans ++ whole)))

use Rattle.std.proofs.Common.{◌≡◌, ◌++◌, string_bytes, drop}
use Rattle.node_texts.specs.LookText.{other_links_text}
use Rattle.node_texts.proofs.look.push_others.Given as goal

-- what is written, and the links that are left, are all that must be written
abbrev pub invariant-loop-link : goal.invariant-loop-link
invariant-loop-link l = string_bytes l.initial.text
    ++ other_links_text l.links ≡ string_bytes l.text ++ other_links_text (drop l.link-index l.links)

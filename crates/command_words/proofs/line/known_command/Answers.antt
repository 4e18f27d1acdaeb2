use Rattle.std.proofs.Common.{◌≡◌, ◌≤◌, ℕ, Bool, true, false, List, [], ◌∷◌, Some, None, length, map, get_or, arith, sym, ◌∙◌, refl}
use Rattle.std.specs.Prelude.{if◌then◌else◌}
use Rattle.std.specs.List.{list_any}
use Rattle.clap.specs.Facts.{aliases_to}
use Rattle.clap.specs.declared.builder.command.Command.{Command}
use Rattle.command_words.specs.Ends.{known_command}
use Rattle.command_words.proofs.line.known_command.Goals as goal

-- whether the second of some words is a command
known : {W : Type 0} (text : W → List ℕ) (words : List W) (name : W) (word : List ℕ) (commands : List Command)
    (is : Bool) → 2 ≤ length words → name ≡ get_or words 1 name → word ≡ text name
    → list_any (λ s. aliases_to s word) commands ≡ is
    → (if is then Some word else None) ≡ known_command commands (map text words)
known text [] name word commands is l h e found = absurd (omega arith)
known text (program ∷ []) name word commands is l h e found = absurd (omega arith)
known text (program ∷ second ∷ words) name word commands is l h e found = rw (← found, e, h) refl

pub returns-then-is_some : goal.returns-then-is_some
returns-then-is_some g c = known g.S.AsStr.text c.args.words.now c.name-item.result _ _ true c.in-len2-up.len_at_least
    c.name-item.is c.as_str-name.ensures (sym c.find_subcommand.ensures.found ∙ sym c.is_some.ensures ∙ c.if-is_some.true)

pub returns-else-is_some : goal.returns-else-is_some
returns-else-is_some g c = known g.S.AsStr.text c.args.words.now c.name-item.result _ _ false c.in-len2-up.len_at_least
    c.name-item.is c.as_str-name.ensures (sym c.find_subcommand.ensures.found ∙ sym c.is_some.ensures ∙ c.if-is_some.false)

-- What the parser gets from a table: clap's rule and the help for each parameter.
use Rattle.std.specs.Prelude.{◌≡◌, ℕ, Bool, true, false, List, [], ◌∷◌, Some}
use Rattle.std.specs.Option.{option_map}
use Rattle.clap.specs.Lexer.{usize_max}
use Rattle.clap.specs.Simple.{new_rule}
use Rattle.clap.specs.Walk.{Rule, rule_of}
use Rattle.clap.specs.declared.builder.action.ArgAction.TheVariants.{Set, Append, SetTrue}
use Rattle.clap.specs.declared.builder.arg.Arg.{Arg}
use Rattle.command_grammar.specs.declared.grammar.Parameter.{Parameter}
use Rattle.command_grammar.specs.declared.grammar.Parameter.TheVariants.{Place, Places, Rest, Value, ValueOr, Flag}
use Rattle.command_grammar.specs.declared.grammar.Parameter.TheVariants.{HiddenFlag}

-- an option that is given as `--` and its id, with one value
abbrev pub valued : List ℕ → Rule
valued id = record (new_rule id) { long = Some id; action = Some Set }

-- any number of words
abbrev pub several : List ℕ → Rule
several id = record (new_rule id) { action = Some Append; range = Some (record { start_inclusive = 0; end_inclusive = usize_max }) }

-- a flag that is given as `--` and its id
abbrev pub flag : List ℕ → Rule
flag id = record (new_rule id) { long = Some id; action = Some SetTrue }

-- clap's rule for a parameter that may be given with any others
abbrev pub rule_for : Parameter → Rule
rule_for (Place id help) = record (new_rule id.now) { required = true; action = Some Set }
rule_for (Places id help) = several id.now
rule_for (Rest id help) = record (several id.now) { trailing_var_arg = true }
rule_for (Value id name help) = record (valued id.now) { value_names = 1 }
rule_for (ValueOr id name default help) = record (valued id.now) { value_names = 1; defaults = default.now ∷ [] }
rule_for (Flag id help) = flag id.now
rule_for (HiddenFlag id) = flag id.now

-- what the help says about it
abbrev pub help_for : Parameter → List ℕ
help_for (Place id help) = help.now
help_for (Places id help) = help.now
help_for (Rest id help) = help.now
help_for (Value id name help) = help.now
help_for (ValueOr id name default help) = help.now
help_for (Flag id help) = help.now
help_for (HiddenFlag id) = []

-- the help leaves it out
abbrev pub is_hidden : Parameter → Bool
is_hidden (HiddenFlag id) = true
is_hidden _ = false

-- the argument has the rule and the help of the parameter
pub record IsArgOf (parameter : Parameter) (arg : Arg) : Type 0 where
  pub rule : rule_of arg ≡ rule_for parameter
  pub help : option_map (λ s. s.now) arg.help ≡ Some (help_for parameter)
  pub hidden : arg.hide ≡ is_hidden parameter

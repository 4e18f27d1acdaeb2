-- What is said about a word that is invalid.
use Rattle.std.specs.Prelude.{ℕ, List, ◌++◌, codes, decimal}
use Rattle.command_grammar.specs.declared.words.WordFault.{WordFault}
use Rattle.command_grammar.specs.declared.words.WordFault.TheVariants.{Absent, NoNumber}

-- that it is missing, or which number is asked for
abbrev pub word_fault_text : WordFault → List ℕ
word_fault_text (Absent id) = id.now ++ codes " is missing"
word_fault_text (NoNumber number) =
    number.name.now ++ (codes " must be an integer from " ++ (decimal number.least ++ (codes " to " ++ (decimal number.most
    ++ codes ", without a sign or leading zeros"))))

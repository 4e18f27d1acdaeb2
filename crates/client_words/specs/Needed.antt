-- What stands in for words that are left out.
use Rattle.std.specs.Prelude.{if◌then◌else◌, is_some, Option, Some, None, List, [], ◌∷◌, ◌++◌, ℕ}
use Rattle.std.specs.Option.{option_to_list}
use Rattle.std.specs.Borrow.{Bor}
use Rattle.client_words.specs.Words.{needs_folder, needs_node, words_read, nothing_read, text_if, placed}
use Rattle.client_words.specs.declared.reading.Reading.{Reading}
use Rattle.client_words.specs.declared.whole.StandIns.{StandIns}

-- the folder, if DIR is left out
abbrev pub folder_needed : Reading → StandIns → Option (Bor (List ℕ))
folder_needed r instead = if needs_folder r then instead.folder else None

-- and the node, if ID is left out then
abbrev pub needed : Reading → StandIns → StandIns
needed r instead = record {
  folder = folder_needed r instead;
  node = if needs_node (is_some (folder_needed r instead)) r then instead.node else None;
}

-- the program, the command's name, the folder, and the other words with the node; fewer than two words give
-- none
abbrev pub whole_texts : {X : Type 0} → (X → List ℕ) → List X → StandIns → List (List ℕ)
whole_texts text [] instead = []
whole_texts text (program ∷ []) instead = []
whole_texts text (program ∷ name ∷ rest) instead =
    text program ∷ text name ∷ (option_to_list (text_if (needed (words_read text rest) instead).folder)
    ++ placed text (text_if (needed (words_read text rest) instead).node) nothing_read rest)

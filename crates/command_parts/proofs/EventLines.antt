-- The text of an event, and bytes that are kept.
use Rattle.std.proofs.Common.{◌≡◌, ◌∙◌, sym, subst, ℕ, List, [], ◌∷◌, Option, Some, None}
use Rattle.std.specs.Io.KnownBytes.{Appends, Keeps}
use Rattle.std.proofs.lemmas.List.{append-nil}
use Rattle.world.specs.run_model.declared.event.Event.{Event}
use Rattle.command_parts.specs.EventText.{event_line, GrowsByText}

pub line-appended : (a b : Option (List ℕ)) (e : Event) → Appends a b (event_line e) → GrowsByText a (e ∷ []) b
line-appended a b e more = subst (Appends a b) (sym (append-nil (event_line e))) more

-- bytes that are added after the text leave it there
pub kept-after : (a b c : Option (List ℕ)) (es : List Event) → GrowsByText a es b → Keeps b c → GrowsByText a es c
kept-after None b c es grown kept = tt
kept-after (Some bytes) None c es grown kept = absurd grown
kept-after (Some bytes) (Some more) None es grown kept = absurd kept
kept-after (Some bytes) (Some more) (Some same) es grown kept = kept ∙ grown

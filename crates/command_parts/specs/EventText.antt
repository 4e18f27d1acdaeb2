-- The events text of a list of events.
use Rattle.std.specs.Prelude.{ℕ, List, [], ◌∷◌, ◌++◌, Option, Some, None, codes}
use Rattle.std.specs.List.{flat_map, join_with_byte}
use Rattle.std.specs.Io.KnownBytes.{Appends}
use Rattle.std.proofs.Common.{◌≡◌, ◌∙◌, ap, sym, append_assoc}
use Rattle.std.proofs.lemmas.Grind.{flat_map-append}
use Rattle.std.proofs.lemmas.List.{append-nil}
use Rattle.world.specs.run_model.declared.event.Event.{Event}
use Rattle.world.specs.events_text.EventLaws.{event_words}

-- the line of an event: its words, with a space between each two, and a newline
abbrev pub event_line : Event → List ℕ
event_line e = join_with_byte 32 (event_words e) ++ codes "\n"

-- the lines of the events, one after the other
abbrev pub text_of : List Event → List ℕ
text_of es = flat_map event_line es

-- known bytes grow by the text of the events
abbrev pub GrowsByText : Option (List ℕ) → List Event → Option (List ℕ) → Type 0
GrowsByText old es new = Appends old new (text_of es)

-- the text of no event adds no bytes
pub grows-nowhere : (known : Option (List ℕ)) → GrowsByText known [] known
grows-nowhere None = tt
grows-nowhere (Some bytes) = sym (append-nil bytes)

-- the text of two lists of events is both texts, one after the other
pub grows-both : (a b c : Option (List ℕ)) (xs ys : List Event) → GrowsByText a xs b → GrowsByText b ys c → GrowsByText a (xs ++ ys) c
grows-both None b c xs ys one two = tt
grows-both (Some first) None c xs ys one two = absurd one
grows-both (Some first) (Some between) None xs ys one two = absurd two
grows-both (Some first) (Some between) (Some last) xs ys one two =
    two ∙ ap (λ bytes. bytes ++ text_of ys) one ∙ append_assoc first (text_of xs) (text_of ys)
    ∙ ap (λ bytes. first ++ bytes) (sym (flat_map-append event_line xs ys))

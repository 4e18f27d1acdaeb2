-- Small examples of groups, scenes, documents and their text, and some that look like them and are
-- none.
use Rattle.std.proofs.Common.{◌≡◌, ◌≢◌, List, [], ◌∷◌, codes, string_bytes, ap, refl, arith}
use Rattle.svg_drawing.specs.declared.element.Document.{Document}
use Rattle.svg_drawing.specs.declared.element.Element.{Element}
use Rattle.svg_drawing.specs.declared.element.Group.{Group}
use Rattle.svg_drawing.specs.declared.element.GroupedDrawing.{GroupedDrawing}
use Rattle.svg_drawing.specs.Drawn.{note_shown}
use Rattle.svg_drawing.specs.Grouped.{Grouped, grouped_of, scene_given, scene_shown, with_inside}
use Rattle.svg_drawing.specs.Spelling.{document_text, group_text, scene_text}
use Rattle.svg_drawing.specs.Xml.{IsDocument}
use Rattle.svg_drawing.specs.Xml.IsContent.{Nothing}

-- a group with a text of its own, and an element inside
abbrev shown_group : Grouped
shown_group = record { element = note_shown (codes "g") (codes "1<2"); inside = note_shown (codes "title") (codes "b") ∷ [] }

-- what is put inside stands after what is there
puts_inside : with_inside shown_group (note_shown (codes "text") (codes "c"))
    ≡ record { element = note_shown (codes "g") (codes "1<2"); inside = note_shown (codes "title") (codes "b") ∷ note_shown (codes "text") (codes "c") ∷ [] }
puts_inside = refl

puts_inside_not-first : with_inside shown_group (note_shown (codes "text") (codes "c"))
    ≢ record { element = note_shown (codes "g") (codes "1<2"); inside = note_shown (codes "text") (codes "c") ∷ note_shown (codes "title") (codes "b") ∷ [] }
puts_inside_not-first = grind arith

module _ (g : Group) (e : Element) (element : g.element ≡ e) (name : e.name.now ≡ codes "g") (bare : e.attributes.items ≡ [])
    (text : string_bytes e.text ≡ codes "1<2") (i : Element) (inside : g.inside.items ≡ i ∷ []) (inner : i.name.now ≡ codes "title")
    (plain : i.attributes.items ≡ []) (words : string_bytes i.text ≡ codes "b") where
  grouped-one : grouped_of g ≡ shown_group
  grouped-one = rw (element, inside, name, bare, text, inner, plain, words) refl

  group-text : group_text g ≡ codes "<g>1&lt;2<title>b</title>\n</g>\n"
  group-text = rw (element, inside, name, bare, text, inner, plain, words) refl

  module _ (s : GroupedDrawing) (given : s.attributes.items ≡ []) (one : s.groups.items ≡ g ∷ []) where
    scene-one : scene_shown s ≡ shown_group ∷ []
    scene-one = rw one (ap (λ x. x ∷ []) grouped-one)

    scene_not-empty : scene_shown s ≢ []
    scene_not-empty none = let e : ◌≡◌ {A = List Grouped} (grouped_of g ∷ []) [] = rw one at none in grind (arith, e)

    scene-given : scene_given s ≡ []
    scene-given = rw given refl

    scene-text : scene_text s ≡ codes "<svg>\n<g>1&lt;2<title>b</title>\n</g>\n</svg>\n"
    scene-text = rw (given, one, element, inside, name, bare, text, inner, plain, words) refl

    -- a document with a group before its drawing, and none after it
    document-one : (d : Document) → d.before.items ≡ g ∷ [] → d.scene ≡ s → d.after.items ≡ []
        → document_text d ≡ codes "<!DOCTYPE html>\n<html>\n<g>1&lt;2<title>b</title>\n</g>\n<svg>\n<g>1&lt;2<title>b</title>\n</g>\n</svg>\n</html>\n"
    document-one d before scene after =
        rw (before, scene, after, given, one, element, inside, name, bare, text, inner, plain, words) refl

-- a document begins with its type, and what follows nests
document-type : IsDocument (codes "<!DOCTYPE html>\n")
document-type = ([], refl, Nothing)

document_not-empty : ¬ IsDocument []
document_not-empty d = let e = d.1 in grind (arith, e)

-- The tags of a drawing nest.
use Rattle.std.proofs.Common.{◌≡◌, ◌∙◌, ap, sym, subst, ℕ, List, [], ◌∷◌, ◌++◌, codes, string_bytes, append_assoc}
use Rattle.std.specs.List.{flat_map}
use Rattle.std.proofs.lemmas.List.{append-nil}
use Rattle.svg_drawing.specs.declared.element.Element.{Element}
use Rattle.svg_drawing.specs.declared.element.Drawing.{Drawing}
use Rattle.svg_drawing.specs.declared.element.Group.{Group}
use Rattle.svg_drawing.specs.declared.element.GroupedDrawing.{GroupedDrawing}
use Rattle.svg_drawing.specs.declared.element.Document.{Document}
use Rattle.svg_drawing.specs.Spelling.{escaped, start_tag, end_tag, element_text, drawing_text, group_text, scene_text, document_content}
use Rattle.svg_drawing.specs.Xml.{IsContent}
use Rattle.svg_drawing.specs.Xml.IsContent.{Nothing, Text}

-- parts of a text, put together in another way
regrouped : (start text held end line rest : List ℕ)
    → start ++ ((text ++ held) ++ (end ++ (line ++ rest))) ≡ (start ++ (text ++ (held ++ (end ++ line)))) ++ rest
regrouped start text held end line rest =
    ap (λ xs. start ++ xs) (append_assoc text held (end ++ (line ++ rest))
    ∙ ap (λ xs. text ++ xs) (ap (λ xs. held ++ xs) (sym (append_assoc end line rest)) ∙ sym (append_assoc held (end ++ line) rest))
    ∙ sym (append_assoc text (held ++ (end ++ line)) rest))
    ∙ sym (append_assoc start (text ++ (held ++ (end ++ line))) rest)

-- an element before other content
element_nests : (e : Element) (rest : List ℕ) → IsContent rest → IsContent (element_text e ++ rest)
element_nests e rest more =
    let start = start_tag e.name.now e.attributes.items in
    let text = escaped (string_bytes e.text) in
    let end = end_tag e.name.now in
    let inside : IsContent text = subst IsContent (append-nil text) (Text (string_bytes e.text) Nothing) in
    let all : IsContent (start ++ (text ++ (end ++ (codes "\n" ++ rest)))) =
    IsContent.Element e.name.now e.attributes.items inside (Text (codes "\n") more) in
    subst IsContent
    (sym (append_assoc start (text ++ (end ++ codes "\n")) rest
    ∙ ap (λ xs. start ++ xs) (append_assoc text (end ++ codes "\n") rest ∙ ap (λ xs. text ++ xs) (append_assoc end (codes "\n") rest)))) all

-- elements before other content
all_nest : (es : List Element) (rest : List ℕ) → IsContent rest → IsContent (flat_map element_text es ++ rest)
all_nest [] rest more = more
all_nest (e ∷ es) rest more =
    subst IsContent (sym (append_assoc (element_text e) (flat_map element_text es) rest))
    (element_nests e (flat_map element_text es ++ rest) (all_nest es rest more))

-- a whole drawing
pub drawing_nests : (d : Drawing) → IsContent (drawing_text d)
drawing_nests d =
    let inside : IsContent (codes "\n" ++ flat_map element_text d.elements.items) =
    subst (λ xs. IsContent (codes "\n" ++ xs)) (append-nil (flat_map element_text d.elements.items))
    (Text (codes "\n") (all_nest d.elements.items [] Nothing)) in
    IsContent.Element (codes "svg") d.attributes.items inside (Text (codes "\n") Nothing)

-- a group before other content
group_nests : (g : Group) (rest : List ℕ) → IsContent rest → IsContent (group_text g ++ rest)
group_nests g rest more =
    let start = start_tag g.element.name.now g.element.attributes.items in
    let text = escaped (string_bytes g.element.text) in
    let held = flat_map element_text g.inside.items in
    let end = end_tag g.element.name.now in
    let inside : IsContent (text ++ held) =
    Text (string_bytes g.element.text) (subst IsContent (append-nil held) (all_nest g.inside.items [] Nothing)) in
    let all : IsContent (start ++ ((text ++ held) ++ (end ++ (codes "\n" ++ rest)))) =
    IsContent.Element g.element.name.now g.element.attributes.items inside (Text (codes "\n") more) in
    subst IsContent (regrouped start text held end (codes "\n") rest) all

-- groups before other content
groups_nest : (gs : List Group) (rest : List ℕ) → IsContent rest → IsContent (flat_map group_text gs ++ rest)
groups_nest [] rest more = more
groups_nest (g ∷ gs) rest more =
    subst IsContent (sym (append_assoc (group_text g) (flat_map group_text gs) rest))
    (group_nests g (flat_map group_text gs ++ rest) (groups_nest gs rest more))

-- a drawing whose elements hold others, before other content
scene_before : (s : GroupedDrawing) (rest : List ℕ) → IsContent rest → IsContent (scene_text s ++ rest)
scene_before s rest more =
    let start = start_tag (codes "svg") s.attributes.items in
    let held = flat_map group_text s.groups.items in
    let end = end_tag (codes "svg") in
    let inside : IsContent (codes "\n" ++ held) =
    Text (codes "\n") (subst IsContent (append-nil held) (groups_nest s.groups.items [] Nothing)) in
    let all : IsContent (start ++ ((codes "\n" ++ held) ++ (end ++ (codes "\n" ++ rest)))) =
    IsContent.Element (codes "svg") s.attributes.items inside (Text (codes "\n") more) in
    subst IsContent (regrouped start (codes "\n") held end (codes "\n") rest) all

-- the whole of it
pub scene_nests : (s : GroupedDrawing) → IsContent (scene_text s)
scene_nests s = subst IsContent (append-nil (scene_text s)) (scene_before s [] Nothing)

-- a document after its first line
pub document_nests : (d : Document) → IsContent (document_content d)
document_nests d =
    let before = flat_map group_text d.before.items in
    let after = flat_map group_text d.after.items in
    let scene = scene_text d.scene in
    let last : IsContent after = subst IsContent (append-nil after) (groups_nest d.after.items [] Nothing) in
    let held : IsContent (codes "\n" ++ (before ++ (scene ++ after))) =
    Text (codes "\n") (groups_nest d.before.items (scene ++ after) (scene_before d.scene after last)) in
    let all = IsContent.Element (codes "html") [] held (Text (codes "\n") Nothing) in
    let end = end_tag (codes "html") in
    subst (λ xs. IsContent (start_tag (codes "html") [] ++ (codes "\n" ++ xs)))
    (append_assoc before (scene ++ after) (end ++ codes "\n") ∙ ap (λ xs. before ++ xs) (append_assoc scene after (end ++ codes "\n"))) all

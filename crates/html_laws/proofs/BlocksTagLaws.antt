-- The texts of content change no tag of its HTML.
use Rattle.std.specs.Prelude.{◌≡◌, ◌+◌, ℕ, Bool, true, false, List, [], ◌∷◌, ◌++◌, Option, Some, None, IfSome, filter, map, unwrap_or, codes, if◌then◌else◌}
use Rattle.std.proofs.Common.{refl, sym, ap, subst, ◌∙◌, append-nil}
use Rattle.dita_doc.specs.declared.content.Anchor.{Anchor}
use Rattle.dita_doc.specs.declared.content.Mark.{Mark}
use Rattle.dita_doc.specs.declared.fact.Html.{Html}
use Rattle.map_spec.specs.Elements.{attribute, has_types, is_a, is_transparent, is_whole, without_transparent}
use Rattle.map_spec.specs.Titles.{id_of}
use Rattle.map_spec.specs.Written.{Element, Whole, Written, End, Chars, Node, side_by_side, siblings, size}
use Rattle.html_spec.specs.Blocks.{HtmlContext, Form, Tag, Topic, Title, Note, Reference, Image, Cell, SimpleCell, Left, Foreign, Overlay, alt_of, attribute_text, body_html, cell_tag, class_at, columns_in, content_or_label, element_shown, form_shown, href_at, id_attribute, if_some_text, image_tag, label_at, linked_at, in_link, note_class, outside, reference_tag, row_for, row_shown, shown_from, spans, tagged, title_tag, within_type}
use Rattle.html_spec.specs.Tables.{column_names, is_column_group}
use Rattle.html_laws.specs.Markup.{attribute_names, element_names, is_among, void_names}
use Rattle.html_laws.specs.Tags.{HaveSameTags, with_texts}
use Rattle.html_laws.proofs.BlocksLaws.{cell_name, href_known, reference_name, spans_known, start_attributes}
use Rattle.html_laws.proofs.FormLaws.{IsKnownRow, has_known_name, row_known, title_name}
use Rattle.html_laws.proofs.MarkupLaws.{AreAttributes, markup_none, no_attributes}
use Rattle.html_laws.proofs.TagLaws.{HaveSameNames, beside_alike, element_alike, itself_alike, names_beside, same_names, texts_alike, values_alike, void_alike}

-- What texts do not change

size_same : (texts : ℕ → List ℕ) (place : ℕ) (nodes : Written) → size (with_texts texts place nodes) ≡ size nodes
size_same texts place End = refl
size_same texts place (Chars text doc rest) = ap (λ count. 1 + count) (size_same texts (place + 1) rest)
size_same texts place (Node element inside rest) =
    ap (λ count. 1 + (count + size (with_texts texts (place + 1 + size inside) rest))) (size_same texts (place + 1) inside)
    ∙ ap (λ count. 1 + (size inside + count)) (size_same texts (place + 1 + size inside) rest)

-- the elements among siblings, without what they hold
abbrev heads : Written → List Element
heads nodes = map (λ (whole : Whole). whole.0) (siblings nodes)

heads_beside : (nodes more : Written) → heads (side_by_side nodes more) ≡ heads nodes ++ heads more
heads_beside End more = refl
heads_beside (Chars text doc rest) more = heads_beside rest more
heads_beside (Node element inside rest) more = ap (λ (all : List Element). element ∷ all) (heads_beside rest more)

heads_if : (test : Bool) (x y : Written) → heads (if test then x else y) ≡ (if test then heads x else heads y)
heads_if true x y = refl
heads_if false x y = refl

both_if : (test : Bool) (x y z w : List Element) → x ≡ z → y ≡ w → (if test then x else y) ≡ (if test then z else w)
both_if true x y z w first second = first
both_if false x y z w first second = second

heads_same : (texts : ℕ → List ℕ) (place : ℕ) (nodes : Written)
    → heads (without_transparent (with_texts texts place nodes)) ≡ heads (without_transparent nodes)
heads_same texts place End = refl
heads_same texts place (Chars text doc rest) = heads_same texts (place + 1) rest
heads_same texts place (Node element inside rest) =
    let inside_too = with_texts texts (place + 1) inside in
    let rest_too = with_texts texts (place + 1 + size inside) rest in
    let within = heads_same texts (place + 1) inside in
    let behind = heads_same texts (place + 1 + size inside) rest in
    heads_if (is_transparent element)
    (side_by_side (without_transparent inside_too) (without_transparent rest_too))
    (Node element inside_too (without_transparent rest_too))
    ∙ both_if (is_transparent element)
    (heads (side_by_side (without_transparent inside_too) (without_transparent rest_too)))
    (element ∷ heads (without_transparent rest_too))
    (heads (side_by_side (without_transparent inside) (without_transparent rest)))
    (element ∷ heads (without_transparent rest))
    (heads_beside (without_transparent inside_too) (without_transparent rest_too)
    ∙ ap (λ (all : List Element). all ++ heads (without_transparent rest_too)) within
    ∙ ap (λ (all : List Element). heads (without_transparent inside) ++ all) behind
    ∙ sym (heads_beside (without_transparent inside) (without_transparent rest)))
    (ap (λ (all : List Element). element ∷ all) behind)
    ∙ sym (heads_if (is_transparent element)
    (side_by_side (without_transparent inside) (without_transparent rest))
    (Node element inside (without_transparent rest)))

-- the names of columns, by their elements alone
names_by : List Element → List (Option (List ℕ))
names_by elements = map (attribute (codes "colname")) (filter (is_a (codes "topic/colspec")) elements)

name_if : (test : Bool) (whole : Whole) (wholes : List Whole)
    → map (λ (column : Whole). attribute (codes "colname") column.0) (if test then whole ∷ wholes else wholes)
    ≡ (if test then attribute (codes "colname") whole.0
    ∷ map (λ (column : Whole). attribute (codes "colname") column.0) wholes
    else map (λ (column : Whole). attribute (codes "colname") column.0) wholes)
name_if true whole wholes = refl
name_if false whole wholes = refl

name_if_too : (test : Bool) (element : Element) (elements : List Element)
    → map (attribute (codes "colname")) (if test then element ∷ elements else elements)
    ≡ (if test then attribute (codes "colname") element ∷ map (attribute (codes "colname")) elements
    else map (attribute (codes "colname")) elements)
name_if_too true element elements = refl
name_if_too false element elements = refl

names_are : (wholes : List Whole)
    → map (λ (column : Whole). attribute (codes "colname") column.0) (filter (is_whole (codes "topic/colspec")) wholes)
    ≡ names_by (map (λ (whole : Whole). whole.0) wholes)
unfolding names_by
names_are [] = refl
names_are (whole ∷ wholes) =
    let test = is_a (codes "topic/colspec") whole.0 in
    let kept = filter (is_whole (codes "topic/colspec")) wholes in
    let elements = filter (is_a (codes "topic/colspec")) (map (λ (other : Whole). other.0) wholes) in
    name_if test whole kept
    ∙ ap (λ (names : List (Option (List ℕ))).
    if test then attribute (codes "colname") whole.0 ∷ names else names) (names_are wholes)
    ∙ sym (name_if_too test whole.0 elements)

columns_same : (texts : ℕ → List ℕ) (place : ℕ) (inside : Written)
    → column_names (with_texts texts place inside) ≡ column_names inside
columns_same texts place inside =
    names_are (siblings (without_transparent (with_texts texts place inside)))
    ∙ ap names_by (heads_same texts place inside) ∙ sym (names_are (siblings (without_transparent inside)))

context_same : (texts : ℕ → List ℕ) (place : ℕ) (element : Element) (inside : Written) (context : HtmlContext)
    → columns_in element (with_texts texts place inside) context ≡ columns_in element inside context
context_same texts place element inside context =
    ap (λ (names : List (Option (List ℕ))). if is_column_group element then record context { columns = names } else
    context)
    (columns_same texts place inside)

-- Elements

abbrev AreAlike : Html → Html → Type 0
AreAlike content other = HaveSameTags content.bytes other.bytes

tagged_alike : (context : HtmlContext) (is_topic : Bool) (element : Element) (name class more : List ℕ) (content other : Html)
    → is_among element_names name ≡ true → AreAttributes more → AreAlike content other
    → AreAlike (tagged context is_topic element name class more content)
    (tagged context is_topic element name class more other)
tagged_alike context is_topic element name class more content other known are is =
    let attributes = attribute_text (codes "id") (id_attribute context is_topic (id_of element))
    ++ attribute_text (codes "class") (if_some_text class) ++ more in
    element_alike name attributes attributes content.bytes other.bytes known
    (same_names attributes (start_attributes (id_attribute context is_topic (id_of element)) (if_some_text class) more are)) is

linked_alike : (href : Option (List ℕ)) (content other : Html) → AreAlike content other
    → AreAlike (in_link href content) (in_link href other)
unfolding element_names
linked_alike None content other is = is
linked_alike (Some href) content other is =
    let attributes = attribute_text (codes "href") (Some href) in
    element_alike (codes "a") attributes attributes content.bytes other.bytes refl
    (same_names attributes (href_known (Some href))) is

image_alike : (context : HtmlContext) (overlay : Overlay) (place : ℕ) (element : Element) (inside within : Written)
    → HaveSameTags (image_tag context overlay place element inside) (image_tag context overlay place element within)
unfolding void_names attribute_names
image_alike context overlay place element inside within =
    let class = class_at overlay place [] in
    let id = id_attribute context false (id_of element) in
    let front = attribute_text (codes "id") id ++ attribute_text (codes "class") (if_some_text class) in
    let source = attribute_text (codes "src") (Some (unwrap_or (href_at overlay.anchors place) [])) in
    let first = attribute_text (codes "alt") (Some (alt_of element inside)) in
    let second = attribute_text (codes "alt") (Some (alt_of element within)) in
    let front_is = same_names (front ++ []) (start_attributes id (if_some_text class) [] no_attributes) in
    void_alike (codes "img") (front ++ (source ++ first)) (front ++ (source ++ second)) refl
    (names_beside front (source ++ first) front (source ++ second)
    (subst (λ bytes. HaveSameNames bytes bytes) (append-nil front) front_is)
    (names_beside source first source second
    (values_alike (codes "src") (unwrap_or (href_at overlay.anchors place) [])
    (unwrap_or (href_at overlay.anchors place) []) refl)
    (values_alike (codes "alt") (alt_of element inside) (alt_of element within) refl)))

label_alike : (texts : ℕ → List ℕ) (anchors : List Anchor) (place : ℕ) (inside : Written) (content other : Html)
    → AreAlike content other
    → AreAlike (content_or_label anchors place inside content)
    (content_or_label anchors place (with_texts texts (place + 1) inside) other)
label_alike texts anchors place End content other is = texts_alike (label_at anchors place) (label_at anchors place)
label_alike texts anchors place (Chars text doc rest) content other is = is
label_alike texts anchors place (Node element inside rest) content other is = is

module _ (texts : ℕ → List ℕ) (overlay : Overlay) where
  form_alike : (context : HtmlContext) (place : ℕ) (element : Element) (inside within : Written) (content other : Html)
      (form : Form) → has_known_name form ≡ true → AreAlike content other
      → AreAlike (form_shown context overlay place element inside content form)
      (form_shown context overlay place element within other form)
  unfolding element_names
  form_alike context place element inside within content other (Tag name class) known is =
      tagged_alike context false element name (class_at overlay place class) []
      (linked_at overlay.anchors place content) (linked_at overlay.anchors place other)
      known no_attributes (linked_alike (href_at overlay.anchors place) content other is)
  form_alike context place element inside within content other Topic known is =
      tagged_alike context true element (codes "article") (class_at overlay place []) []
      (linked_at overlay.anchors place content)
      (linked_at overlay.anchors place other) refl no_attributes
      (linked_alike (href_at overlay.anchors place) content other is)
  form_alike context place element inside within content other Title known is =
      tagged_alike context false element (title_tag context.around context.depth) (class_at overlay place []) []
      (linked_at overlay.anchors place content) (linked_at overlay.anchors place other)
      (title_name context.around context.depth)
      no_attributes (linked_alike (href_at overlay.anchors place) content other is)
  form_alike context place element inside within content other Note known is =
      tagged_alike context false element (codes "div") (class_at overlay place (note_class element)) []
      (linked_at overlay.anchors place content)
      (linked_at overlay.anchors place other) refl no_attributes
      (linked_alike (href_at overlay.anchors place) content other is)
  form_alike context place element inside within content other Reference known is =
      tagged_alike context false element (reference_tag (href_at overlay.anchors place)) (class_at overlay place [])
      (attribute_text (codes "href") (href_at overlay.anchors place)) content other
      (reference_name (href_at overlay.anchors place))
      (href_known (href_at overlay.anchors place)) is
  form_alike context place element inside within content other Image known is =
      image_alike context overlay place element inside within
  form_alike context place element inside within content other Cell known is =
      tagged_alike context false element (cell_tag context.head) (class_at overlay place []) (spans context element)
      (linked_at overlay.anchors place content) (linked_at overlay.anchors place other) (cell_name context.head)
      (spans_known context element) (linked_alike (href_at overlay.anchors place) content other is)
  form_alike context place element inside within content other SimpleCell known is =
      tagged_alike context false element (cell_tag context.simple_head) (class_at overlay place []) []
      (linked_at overlay.anchors place content)
      (linked_at overlay.anchors place other) (cell_name context.simple_head) no_attributes
      (linked_alike (href_at overlay.anchors place) content other is)
  form_alike context place element inside within content other Left known is = itself_alike [] markup_none
  form_alike context place element inside within content other Foreign known is = itself_alike [] markup_none

  abbrev AreAlikeIn : (HtmlContext → Html) → (HtmlContext → Html) → Type 0
  AreAlikeIn content other = (within : HtmlContext) → AreAlike (content within) (other within)

  row_alike : (context : HtmlContext) (place : ℕ) (element : Element) (inside : Written)
      (content other : HtmlContext → Html)
      (row : Option (List ℕ × Form)) → IfSome row IsKnownRow → AreAlikeIn content other
      → AreAlike (row_shown context overlay place element inside content row)
      (row_shown context overlay place element (with_texts texts (place + 1) inside) other row)
  row_alike context place element inside content other None known each =
      let here = columns_in element inside context in
      let there = columns_in element (with_texts texts (place + 1) inside) context in
      linked_alike (href_at overlay.anchors place) (content_or_label overlay.anchors place inside (content here))
      (content_or_label overlay.anchors place (with_texts texts (place + 1) inside) (other there))
      (label_alike texts overlay.anchors place inside (content here) (other there)
      (subst (λ (found : HtmlContext). AreAlike (content here) (other found))
      (sym (context_same texts (place + 1) element inside context)) (each here)))
  row_alike context place element inside content other (Some row) known each =
      let typed = within_type row.0 element context in
      let here = columns_in element inside typed in
      let there = columns_in element (with_texts texts (place + 1) inside) typed in
      form_alike context place element inside (with_texts texts (place + 1) inside)
      (content_or_label overlay.anchors place inside (content here))
      (content_or_label overlay.anchors place (with_texts texts (place + 1) inside) (other there)) row.1 known
      (label_alike texts overlay.anchors place inside (content here) (other there)
      (subst (λ (found : HtmlContext). AreAlike (content here) (other found))
      (sym (context_same texts (place + 1) element inside typed)) (each here)))

  element_tags : (context : HtmlContext) (place : ℕ) (element : Element) (inside : Written)
      (content other : HtmlContext → Html)
      (typed : Bool) → has_types element ≡ typed → AreAlikeIn content other
      → AreAlike (element_shown context overlay place element inside content)
      (element_shown context overlay place element (with_texts texts (place + 1) inside) other)
  element_tags context place element inside content other true e each =
      rw e (row_alike context place element inside content other (row_for element) (row_known element) each)
  element_tags context place element inside content other false e each = rw e (each context)

  nodes_alike : (context : HtmlContext) (place : ℕ) (nodes : Written)
      → AreAlike (shown_from context overlay place nodes)
      (shown_from context overlay place (with_texts texts place nodes))
  nodes_alike context place End = itself_alike [] markup_none
  nodes_alike context place (Chars text doc rest) =
      beside_alike _ (shown_from context overlay (place + 1) rest).bytes _
      (shown_from context overlay (place + 1) (with_texts texts (place + 1) rest)).bytes
      (texts_alike text (texts place)) (nodes_alike context (place + 1) rest)
  nodes_alike context place (Node element inside rest) =
      let inside_too = with_texts texts (place + 1) inside in
      let next = place + 1 + size inside in
      let rest_too = with_texts texts next rest in
      let content = λ (within : HtmlContext). shown_from within overlay (place + 1) inside in
      let other = λ (within : HtmlContext). shown_from within overlay (place + 1) inside_too in
      let size_is : size inside_too ≡ size inside = size_same texts (place + 1) inside in
      let behind = subst (λ count. AreAlike (shown_from context overlay next rest)
      (shown_from context overlay (place + 1 + count) rest_too)) (sym size_is) (nodes_alike context next rest) in
      beside_alike (element_shown context overlay place element inside content).bytes
      (shown_from context overlay next rest).bytes
      (element_shown context overlay place element inside_too other).bytes
      (shown_from context overlay (place + 1 + size inside_too) rest_too).bytes
      (element_tags context place element inside content other (has_types element) refl
      (λ within. nodes_alike within (place + 1) inside)) behind

pub body_alike : (texts : ℕ → List ℕ) (anchors : List Anchor) (marks : List Mark) (nodes : Written)
    → HaveSameTags (body_html anchors marks nodes).bytes (body_html anchors marks (with_texts texts 0 nodes)).bytes
unfolding body_html
body_alike texts anchors marks nodes =
    nodes_alike texts (record { anchors = anchors; marks = marks }) outside 0 nodes

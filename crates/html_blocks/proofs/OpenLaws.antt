-- Elements that were opened.
use Rattle.std.specs.Prelude.{◌≡◌, ◌+◌, ◌++◌, ◌==◌, ℕ, Bool, true, false, not, List, [], Option, Some, None, is_some, length}
use Rattle.std.proofs.Common.{sym, ap, ◌∙◌, append_assoc}
use Rattle.std.proofs.lemmas.List.{append-nil}
use Rattle.dita_doc.specs.declared.fact.Html.{Html}
use Rattle.html_blocks.specs.Anchors.{IsLinkAt}
use Rattle.html_blocks.specs.Opened.{HasMore, IsBegun, IsOpen, closing, content_begun, href_within, link_ended, start_by, whole_by}
use Rattle.html_blocks.specs.Shown.{around_shown, tag_name}
use Rattle.html_blocks.specs.Walk.{IsWithin, content_shown, element_of, inside_of, whole_shown}
use Rattle.html_blocks.specs.declared.context.HtmlContext as declared
use Rattle.html_blocks.specs.declared.element.Element.{Element}
use Rattle.html_blocks.specs.declared.page.OpenTag.{OpenTag}
use Rattle.html_blocks.specs.declared.page.BodyText.{BodyText}
use Rattle.html_blocks.proofs.RowLaws.{content_none, form_bytes, form_faults, form_whole, linked_bytes, linked_faults, none_shown, some_shown, untyped_shown}
use Rattle.html_blocks.proofs.WayLaws.{more_as}
use Rattle.html_tables.specs.declared.groups.Groups.{Groups}
use Rattle.map_spec.specs.Elements.{class_faults, has_types, tokens_of}
use Rattle.html_spec.specs.Blocks.{HtmlContext, Form, Overlay, content_or_label, context_in, end_tag, in_link, marks_at, row_for, shown, shown_with}

-- types, by the words that were read
pub typed : (tokens : List (List ℕ)) (element : Element) (none : Bool) → none ≡ (length tokens == 0)
    → tokens ≡ tokens_of (element_of element) → has_types (element_of element) ≡ not none
typed tokens element none is words = sym (ap not (is ∙ ap (λ all. length all == 0) words))

regroup : (a b c d e : List ℕ) → (a ++ (b ++ (c ++ d))) ++ e ≡ (a ++ b) ++ (c ++ (d ++ e))
regroup a b c d e =
    ap (λ front. front ++ e) (sym (append_assoc a b (c ++ d)))
    ∙ append_assoc (a ++ b) (c ++ d) e
    ∙ ap (λ end. (a ++ b) ++ end) (append_assoc c d e)

-- the name of a form, by where its element stands
pub tag_around : (groups : Groups) (context : declared.HtmlContext) (around : HtmlContext) (form : Form) (href : Option (List ℕ))
    → IsWithin groups context around
    → tag_name form href (around_shown context.around) around.depth context.tables.head context.tables.simple_head
    ≡ tag_name form href around.around around.depth around.head around.simple_head
tag_around groups context around form href is =
    ap (λ nearest. tag_name form href nearest around.depth context.tables.head context.tables.simple_head) is.nearest
    ∙ ap (λ head. tag_name form href around.around around.depth head context.tables.simple_head) is.tables.head
    ∙ ap (tag_name form href around.around around.depth around.head) is.tables.simple_head

module _ (old new : BodyText) (opened : OpenTag) (overlay : Overlay) (element : Element) (around : HtmlContext) where
  abbrev whole : Html
  whole = whole_shown around overlay element

  -- one without types
  pub open_untyped : has_types (element_of element) ≡ false → IsWithin new.groups opened.within around
      → HasMore old new (shown_with (class_faults (element_of element)) (shown [])) → closing opened ≡ []
      → IsOpen old new opened overlay element whole
  open_untyped none within more closes =
      let content = content_shown overlay element around in
      let same = untyped_shown around overlay element.place (element_of element) (inside_of element)
      (content_shown overlay element) none in
      record {
        before = shown_with (class_faults (element_of element)) (shown []);
        context = around;
        within = within;
        more = more;
        bytes = ap (λ (html : Html). html.bytes) same
            ∙ sym (append-nil content.bytes)
            ∙ ap (λ end. content.bytes ++ end) (sym closes);
        faults = ap (λ (html : Html). html.faults) same
            ∙ ap (λ some. some ++ content.faults) (sym (append-nil (class_faults (element_of element))));
      }

  module _ (href : Option (List ℕ)) (label : List ℕ) (link : IsLinkAt overlay.anchors element.place href label)
      (types : has_types (element_of element) ≡ true) where
    -- one of no form
    pub open_none : row_for (element_of element) ≡ None
        → IsBegun old new opened (context_in (element_of element) (inside_of element) None around)
        (content_begun href (inside_of element) label)
        → closing opened ≡ link_ended (is_some href) → IsOpen old new opened overlay element whole
    open_none row begun closes =
        let inside = inside_of element in
        let context = context_in (element_of element) inside None around in
        let content = content_shown overlay element context in
        let none = content_none context overlay (element.place + 1) inside in
        let same = none_shown around overlay element.place (element_of element) inside
        (content_shown overlay element) types row
        ∙ ap (λ to. in_link to (content_or_label overlay.anchors element.place inside content)) (sym link.leads) in
        record {
          before = shown (content_begun href inside label);
          context = context;
          within = begun.within;
          more = begun.more;
          bytes = ap (λ (html : Html). html.bytes) same
              ∙ linked_bytes overlay.anchors element.place label content link.shows href inside none
              ∙ ap (λ end. content_begun href inside label ++ (content.bytes ++ end)) (sym closes);
          faults = ap (λ (html : Html). html.faults) same
              ∙ linked_faults overlay.anchors element.place label content link.shows href inside none;
        }

    module _ (token : List ℕ) (form : Form) (row : row_for (element_of element) ≡ Some (token, form)) where
      -- one of a form that has a name
      pub open_some : (name : List ℕ)
          → tag_name form href around.around around.depth around.head around.simple_head ≡ Some name
          → IsBegun old new opened (context_in (element_of element) (inside_of element) (Some (token, form)) around)
          (start_by around href (marks_at overlay.marks element.place) (element_of element) name form
          ++ content_begun (href_within form href) (inside_of element) label)
          → closing opened ≡ link_ended (is_some (href_within form href)) ++ end_tag name
          → IsOpen old new opened overlay element whole
      open_some name named begun closes =
          let inside = inside_of element in
          let context = context_in (element_of element) inside (Some (token, form)) around in
          let content = content_shown overlay element context in
          let none = content_none context overlay (element.place + 1) inside in
          let held = content_or_label overlay.anchors element.place inside content in
          let to = href_within form href in
          let start = start_by around href (marks_at overlay.marks element.place) (element_of element) name form in
          let same = some_shown around overlay element.place (element_of element) inside
          (content_shown overlay element) token form types row in
          record {
            before = shown (start ++ content_begun to inside label);
            context = context;
            within = begun.within;
            more = begun.more;
            bytes = ap (λ (html : Html). html.bytes) same
                ∙ form_bytes around overlay element.place (element_of element) inside held href link.leads form name
                named
                ∙ ap (λ bytes. (start ++ bytes) ++ end_tag name)
                (linked_bytes overlay.anchors element.place label content link.shows to inside none)
                ∙ regroup start (content_begun to inside label) content.bytes (link_ended (is_some to)) (end_tag name)
                ∙ ap (λ end. (start ++ content_begun to inside label) ++ (content.bytes ++ end)) (sym closes);
            faults = ap (λ (html : Html). html.faults) same
                ∙ form_faults around overlay element.place (element_of element) inside held href link.leads form name
                named
                ∙ linked_faults overlay.anchors element.place label content link.shows to inside none;
          }

-- an element of a form that has no name is whole without its content
module _ (old new : BodyText) (overlay : Overlay) (element : Element) (around : HtmlContext) (href : Option (List ℕ))
    (label : List ℕ) (link : IsLinkAt overlay.anchors element.place href label)
    (types : has_types (element_of element) ≡ true) (token : List ℕ) (form : Form)
    (row : row_for (element_of element) ≡ Some (token, form)) where
  pub whole_none : tag_name form href around.around around.depth around.head around.simple_head ≡ None
      → HasMore old new (whole_by around href (marks_at overlay.marks element.place) (element_of element)
      (inside_of element) form)
      → HasMore old new (whole_shown around overlay element)
  whole_none nameless more =
      let inside = inside_of element in
      let content =
      content_shown overlay element (context_in (element_of element) inside (Some (token, form)) around) in
      more_as old new _ (whole_shown around overlay element)
      (sym (some_shown around overlay element.place (element_of element) inside (content_shown overlay element) token
      form types row
      ∙ form_whole around overlay element.place (element_of element) inside
      (content_or_label overlay.anchors element.place inside content) href link.leads form nameless))
      more

-- What an element becomes, by the row of its form.
use Rattle.std.specs.Prelude.{◌≡◌, ◌++◌, ℕ, true, false, List, [], Option, Some, None, codes, is_some}
use Rattle.std.proofs.Common.{refl, sym, ap, ◌∙◌, append_assoc}
use Rattle.std.proofs.lemmas.List.{append-nil}
use Rattle.std.proofs.lemmas.Option.{none-some, same_Some}
use Rattle.dita_doc.specs.HtmlEscapes.{escaped}
use Rattle.dita_doc.specs.declared.content.Anchor.{Anchor}
use Rattle.dita_doc.specs.declared.fact.Html.{Html}
use Rattle.html_blocks.specs.Opened.{content_begun, href_within, link_ended, start_by, whole_by}
use Rattle.html_blocks.specs.Shown.{tag_name}
use Rattle.html_blocks.specs.Walk.{is_empty}
use Rattle.map_spec.specs.Elements.{class_faults, has_types}
use Rattle.map_spec.specs.Written as written
use Rattle.map_spec.specs.Written.{Element, Written}
use Rattle.html_spec.specs.Blocks as blocks
use Rattle.html_spec.specs.Blocks.{HtmlContext, Form, Overlay, attribute_text, content_or_label, context_in, element_shown, end_tag, form_shown, href_at, label_at, in_link, marks_at, row_for, shown, shown_from, shown_with, start_tag}

-- Content

-- nothing is shown of no content
pub content_none : (within : HtmlContext) (overlay : Overlay) (place : ℕ) (inside : Written) → is_empty inside ≡ true
    → shown_from within overlay place inside ≡ shown []
content_none within overlay place written.End e = refl
content_none within overlay place (written.Chars text doc rest) e = cc
content_none within overlay place (written.Node element inside rest) e = cc

abbrev start_link : List ℕ → List ℕ
start_link to = start_tag (codes "a") (attribute_text (codes "href") (Some to))

module _ (anchors : List Anchor) (place : ℕ) (label : List ℕ) (content : Html) (same : label ≡ label_at anchors place) where
  around_held : (to : List ℕ) → (start_link to ++ content.bytes) ++ end_tag (codes "a")
      ≡ (start_link to ++ []) ++ (content.bytes ++ end_tag (codes "a"))
  around_held to =
      append_assoc (start_link to) content.bytes (end_tag (codes "a"))
      ∙ ap (λ start. start ++ (content.bytes ++ end_tag (codes "a"))) (sym (append-nil (start_link to)))

  -- what stands before and behind content with a link around it
  pub linked_bytes : (href : Option (List ℕ)) (inside : Written) → (is_empty inside ≡ true → content ≡ shown [])
      → (in_link href (content_or_label anchors place inside content)).bytes
      ≡ content_begun href inside label ++ (content.bytes ++ link_ended (is_some href))
  linked_bytes None written.End none =
      rw (none refl, same) (sym (append-nil (escaped (label_at anchors place))))
  linked_bytes None (written.Chars text doc rest) none = sym (append-nil content.bytes)
  linked_bytes None (written.Node element inside rest) none = sym (append-nil content.bytes)
  linked_bytes (Some to) written.End none = rw (none refl, same) refl
  linked_bytes (Some to) (written.Chars text doc rest) none = around_held to
  linked_bytes (Some to) (written.Node element inside rest) none = around_held to

  pub linked_faults : (href : Option (List ℕ)) (inside : Written) → (is_empty inside ≡ true → content ≡ shown [])
      → (in_link href (content_or_label anchors place inside content)).faults ≡ content.faults
  linked_faults None written.End none = rw (none refl) refl
  linked_faults None (written.Chars text doc rest) none = refl
  linked_faults None (written.Node element inside rest) none = refl
  linked_faults (Some to) written.End none = rw (none refl) refl
  linked_faults (Some to) (written.Chars text doc rest) none = refl
  linked_faults (Some to) (written.Node element inside rest) none = refl

-- Forms

module _ (around : HtmlContext) (overlay : Overlay) (place : ℕ) (element : Element) (inside : Written) (content : Html)
    (href : Option (List ℕ)) (leads : href ≡ href_at overlay.anchors place) where
  abbrev Named : Form → List ℕ → Type 0
  Named form name = tag_name form href around.around around.depth around.head around.simple_head ≡ Some name

  -- a form that has a name stands around its content
  pub form_bytes : (form : Form) (name : List ℕ) → Named form name
      → (form_shown around overlay place element inside content form).bytes
      ≡ (start_by around href (marks_at overlay.marks place) element name form
      ++ (in_link (href_within form href) content).bytes) ++ end_tag name
  form_bytes (blocks.Tag tag class) name e = rw (← same_Some _ _ e, leads) refl
  form_bytes blocks.Topic name e = rw (← same_Some _ _ e, leads) refl
  form_bytes blocks.Title name e = rw (← same_Some _ _ e, leads) refl
  form_bytes blocks.Note name e = rw (← same_Some _ _ e, leads) refl
  form_bytes blocks.Reference name e = rw (← same_Some _ _ e, leads) refl
  form_bytes blocks.Image name e = absurd (none-some _ e)
  form_bytes blocks.Cell name e = rw (← same_Some _ _ e, leads) refl
  form_bytes blocks.SimpleCell name e = rw (← same_Some _ _ e, leads) refl
  form_bytes blocks.Left name e = absurd (none-some _ e)
  form_bytes blocks.Foreign name e = absurd (none-some _ e)

  pub form_faults : (form : Form) (name : List ℕ) → Named form name
      → (form_shown around overlay place element inside content form).faults
      ≡ (in_link (href_within form href) content).faults
  form_faults (blocks.Tag tag class) name e = rw leads refl
  form_faults blocks.Topic name e = rw leads refl
  form_faults blocks.Title name e = rw leads refl
  form_faults blocks.Note name e = rw leads refl
  form_faults blocks.Reference name e = refl
  form_faults blocks.Image name e = absurd (none-some _ e)
  form_faults blocks.Cell name e = rw leads refl
  form_faults blocks.SimpleCell name e = rw leads refl
  form_faults blocks.Left name e = absurd (none-some _ e)
  form_faults blocks.Foreign name e = absurd (none-some _ e)

  abbrev Nameless : Form → Type 0
  Nameless form = tag_name form href around.around around.depth around.head around.simple_head ≡ None

  -- one that has none is whole without its content
  pub form_whole : (form : Form) → Nameless form
      → form_shown around overlay place element inside content form
      ≡ whole_by around href (marks_at overlay.marks place) element inside form
  form_whole (blocks.Tag tag class) e = absurd (none-some _ (sym e))
  form_whole blocks.Topic e = absurd (none-some _ (sym e))
  form_whole blocks.Title e = absurd (none-some _ (sym e))
  form_whole blocks.Note e = absurd (none-some _ (sym e))
  form_whole blocks.Reference e = absurd (none-some _ (sym e))
  form_whole blocks.Image e = rw leads refl
  form_whole blocks.Cell e = absurd (none-some _ (sym e))
  form_whole blocks.SimpleCell e = absurd (none-some _ (sym e))
  form_whole blocks.Left e = refl
  form_whole blocks.Foreign e = refl

-- Elements

module _ (around : HtmlContext) (overlay : Overlay) (place : ℕ) (element : Element) (inside : Written)
    (content : HtmlContext → Html) where
  pub untyped_shown : has_types element ≡ false → element_shown around overlay place element inside content
      ≡ shown_with (class_faults element) (content around)
  untyped_shown e = rw e refl

  pub none_shown : has_types element ≡ true → row_for element ≡ None
      → element_shown around overlay place element inside content ≡ in_link (href_at overlay.anchors place)
      (content_or_label overlay.anchors place inside (content (context_in element inside None around)))
  none_shown e row = rw (e, row) refl

  pub some_shown : (token : List ℕ) (form : Form) → has_types element ≡ true → row_for element ≡ Some (token, form)
      → element_shown around overlay place element inside content
      ≡ form_shown around overlay place element inside (content_or_label overlay.anchors place inside
      (content (context_in element inside (Some (token, form)) around))) form
  some_shown token form e row = rw (e, row) refl

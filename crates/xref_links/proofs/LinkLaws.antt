-- What links add.
use Rattle.std.specs.Prelude.{◌≡◌, ◌&&◌, ◌||◌, ◌++◌, ℕ, Bool, true, false, not, List, [], ◌∷◌, Option, Some, None, is_some, if◌then◌else◌}
use Rattle.std.specs.Option.{option_and_then, option_copied, option_to_list}
use Rattle.std.proofs.Common.{refl, sym, ap, subst, ◌∙◌, append-nil, append_assoc}
use Rattle.dita_doc.specs.declared.content.Anchor.{Anchor}
use Rattle.dita_doc.specs.declared.content.KeyAnswer.{KeyAnswer}
use Rattle.dita_doc.specs.declared.content.PageLink.{PageLink}
use Rattle.dita_doc.specs.declared.fault.Fault.{Fault}
use Rattle.dita_doc.specs.declared.plan.Target.{Target}
use Rattle.dita_doc.proofs.Tests.{or_false, or_true}
use Rattle.map_spec.specs.Keys.{id_of_key}
use Rattle.map_spec.specs.Written.{Element, Written}
use Rattle.html_spec.specs.Anchors.{Added, Here, Linked, HrefRead, defined_key, has_form, holds_link, is_link, is_reference_form, is_this_page, keyref_of, lead_by_key, lead_of_target, link_added, linked_added, linked_by_key, linked_by_read}
use Rattle.xref_links.specs.Adding.{HasMore, IsGiven, IsLead, IsRead, added_with, alone, element_of, inside_of, label_with, link_to, read_as}
use Rattle.xref_links.specs.declared.keyed.Keyed.{Keyed}
use Rattle.xref_links.specs.declared.lead.Lead.{Lead}
use Rattle.xref_links.specs.declared.made.AnchorsMade.{AnchorsMade}
use Rattle.xref_links.specs.declared.page.PageRead.{PageRead}
use Rattle.xref_links.specs.declared.page.PlacedElement.{PlacedElement}

-- a link is listed by a link element that leads from the page
by_tests : (is_link here : Bool) (link : Option PageLink)
    → (if is_link && not here then link else None) ≡ (if not is_link || here then None else link)
by_tests true true link = refl
by_tests true false link = refl
by_tests false true link = refl
by_tests false false link = refl

listed : (types own is_link here : Bool) (href : Option (List ℕ)) (label : List ℕ) → types ≡ is_link → own ≡ here
    → (if types && not own then link_to href label else None)
    ≡ (if not is_link || here then None else link_to href label)
listed types own is_link here href label same owns =
    ap (λ t. if t && not own then link_to href label else None) same
    ∙ ap (λ o. if is_link && not o then link_to href label else None) owns
    ∙ by_tests is_link here (link_to href label)

module _ (here : Here) (page : PageRead) (standing : PlacedElement) where
  abbrev element : Element
  element = element_of page standing

  abbrev inside : Written
  inside = inside_of page standing

  abbrev anchor_with : Option (List ℕ) → List ℕ → Anchor
  anchor_with href label = record { place = standing.place; href = href; label = Some label }

  -- an element that leads there and shows this text
  pub linked_more : (linked : Linked) (types : Bool) (old middle new : AnchorsMade) (lead : Lead) (holds : Bool)
      (label : List ℕ) → types ≡ is_link element → holds ≡ holds_link here element
      → label ≡ label_with types inside linked.label → linked.faults ≡ []
      → middle.anchors ≡ old.anchors → middle.links ≡ old.links
      → IsLead here linked.lead lead old.faults middle.faults
      → HasMore middle new (added_with standing.place types lead holds label)
      → HasMore old new (linked_added here (alone page standing) linked)
  linked_more linked types old middle new lead holds label typed held shown none same_anchors same_links leads more =
      let text : label ≡ label_with (is_link element) inside linked.label =
      shown ∙ ap (λ t. label_with t inside linked.label) typed in
      record {
        anchors =
            more.anchors
            ∙ ap (λ all. all ++ anchor_with (if holds then lead.href else None) label ∷ []) same_anchors
            ∙ ap (λ h. old.anchors ++ anchor_with (if h then lead.href else None) label ∷ []) held
            ∙ ap (λ h. old.anchors ++ anchor_with (if holds_link here element then h else None) label ∷ []) leads.href
            ∙ ap (λ l. old.anchors ++ anchor_with (if holds_link here element then linked.lead.href else None) l ∷ [])
            text;
        links =
            more.links
            ∙ ap (λ all. all ++ option_to_list (if types && not lead.is_own then link_to lead.href label else None))
            same_links
            ∙ ap (λ link. old.links ++ option_to_list link)
            (listed types lead.is_own (is_link element) (is_this_page here linked.lead) lead.href label typed leads.own)
            ∙ ap (λ h. old.links ++ option_to_list
            (if not (is_link element) || is_this_page here linked.lead then None else link_to h label)) leads.href
            ∙ ap (λ l. old.links ++ option_to_list (link_added here element linked.lead l)) text;
        faults =
            more.faults ∙ append-nil middle.faults ∙ leads.faults
            ∙ ap (λ fs. old.faults ++ (fs ++ linked.lead.faults)) (sym none);
      }

  -- by a defined key

  pub holds_keyed : (answer : KeyAnswer) → defined_key here element ≡ Some answer → true ≡ holds_link here element
  holds_keyed answer e = rw e (sym (or_true (has_form is_reference_form element)))

  pub given_lead : (answer : KeyAnswer) (keyed : Keyed) (lead : Lead) (old new : List Fault)
      → IsGiven (keyref_of element) answer keyed
      → IsLead here (lead_by_key here element (option_copied keyed.id) keyed.target) lead old new
      → IsLead here (linked_by_key here element answer).lead lead old new
  given_lead answer keyed lead old new given leads =
      subst (λ target. IsLead here
      (lead_by_key here element (option_and_then id_of_key (keyref_of element)) target) lead old new) given.target
      (subst (λ id. IsLead here (lead_by_key here element id keyed.target) lead old new) given.id leads)

  -- by an href

  pub holds_written : (holds : Bool) → holds ≡ has_form is_reference_form element → defined_key here element ≡ None
      → holds ≡ holds_link here element
  holds_written holds is e =
      is ∙ sym (or_false (has_form is_reference_form element))
      ∙ ap (λ (found : Option KeyAnswer). has_form is_reference_form element || is_some found) (sym e)

  pub written_more : (read : HrefRead) (target : Target) (old middle new : AnchorsMade)
      → IsRead read target old.faults middle.faults
      → middle.anchors ≡ old.anchors → middle.links ≡ old.links
      → HasMore middle new (linked_added here (alone page standing) (linked_by_read here element (read_as target)))
      → HasMore old new (linked_added here (alone page standing) (linked_by_read here element read))
  written_more read target old middle new is same_anchors same_links more =
      let by : Target → Added =
      λ t. linked_added here (alone page standing) (linked_by_read here element (read_as t)) in
      record {
        anchors =
            more.anchors ∙ ap (λ all. all ++ option_to_list (by target).anchor) same_anchors
            ∙ ap (λ t. old.anchors ++ option_to_list (by t).anchor) is.leads;
        links =
            more.links ∙ ap (λ all. all ++ option_to_list (by target).link) same_links
            ∙ ap (λ t. old.links ++ option_to_list (by t).link) is.leads;
        faults =
            more.faults ∙ ap (λ fs. fs ++ (lead_of_target here element target).faults) is.faults
            ∙ append_assoc old.faults read.faults (lead_of_target here element target).faults
            ∙ ap (λ t. old.faults ++ (read.faults ++ (lead_of_target here element t).faults)) is.leads;
      }

-- What images add.
use Rattle.std.specs.Prelude.{◌≡◌, ◌||◌, ◌++◌, ℕ, Bool, true, false, List, [], ◌∷◌, Option, Some, None, codes, option_map, if◌then◌else◌}
use Rattle.std.proofs.Common.{refl, sym, ap, ◌∙◌, append-nil}
use Rattle.dita_doc.specs.declared.content.Anchor.{Anchor}
use Rattle.dita_doc.specs.declared.plan.Target.{Target}
use Rattle.dita_doc.specs.declared.plan.Target.TheVariants as targets
use Rattle.href_text.specs.Joined.{relative_path}
use Rattle.href_text.specs.Reference.{is_external}
use Rattle.map_spec.specs.Elements.{attribute}
use Rattle.map_spec.specs.Pages.{local_name}
use Rattle.map_spec.specs.Target.{file_named, is_far, rest_of}
use Rattle.map_spec.specs.Written.{Element}
use Rattle.html_spec.specs.Anchors.{Here, has_form, image_added, image_by, image_by_href, lead_of_target, read_as, scope_of, shows_href}
use Rattle.xref_links.specs.Adding.{HasMore, IsRead, alone, element_of, href_outside}
use Rattle.xref_links.specs.declared.made.AnchorsMade.{AnchorsMade}
use Rattle.xref_links.specs.declared.page.PageRead.{PageRead}
use Rattle.xref_links.specs.declared.page.PlacedElement.{PlacedElement}

-- An image leads to no document of ours

no_local_file : (element : Element) (href rest : List ℕ) (away : Bool) (file : Option (List ℕ))
    → local_name (read_as element href (if away then Some (targets.Other href)
    else option_map (λ name. targets.File name rest) file)).target ≡ None
no_local_file element href rest true file = refl
no_local_file element href rest false None = refl
no_local_file element href rest false (Some name) = refl

no_local_href : (element : Element) (href : Option (List ℕ)) → local_name (image_by_href element href).target ≡ None
no_local_href element None = refl
no_local_href element (Some href) = no_local_file element href (rest_of href)
    (is_far (scope_of element) || is_external href) (file_named element.href_doc href)

no_local : (element : Element) (target : Target) → local_name (image_by element target).target ≡ None
no_local element targets.Nothing = no_local_href element (attribute (codes "href") element)
no_local element (targets.Local name reference) = refl
no_local element (targets.File name rest) = refl
no_local element (targets.Other value) = refl

outside : (here : Here) (element : Element) (name : List ℕ) (target : Target) → local_name target ≡ None
    → here.page.name ≡ name → href_outside name target ≡ (lead_of_target here element target).href
outside here element name targets.Nothing none named = refl
outside here element name (targets.Local document reference) none named = cc
outside here element name (targets.File file rest) none named =
    ap (λ n. Some (relative_path n file ++ rest)) (sym named)
outside here element name (targets.Other value) none named = refl

module _ (here : Here) (page : PageRead) (standing : PlacedElement) where
  abbrev element : Element
  element = element_of page standing

  abbrev anchor_with : Option (List ℕ) → Anchor
  anchor_with href = record { place = standing.place; href = href; label = None }

  pub image_more : (name : List ℕ) (target read : Target) (href : Option (List ℕ)) (old new : AnchorsMade)
      → here.page.name ≡ name → IsRead (image_by element target) read old.faults new.faults
      → href ≡ (if has_form shows_href element then href_outside name read else None)
      → new.anchors ≡ old.anchors ++ anchor_with href ∷ [] → new.links ≡ old.links
      → HasMore old new (image_added here (alone page standing) (image_by element target))
  image_more name target read href old new named is leads put same =
      let there : href_outside name read ≡ (lead_of_target here element (image_by element target).target).href =
      ap (href_outside name) is.leads
      ∙ outside here element name (image_by element target).target (no_local element target) named in
      record {
        anchors = put ∙ ap (λ h. old.anchors ++ anchor_with h ∷ []) (leads
            ∙ ap (λ h. if has_form shows_href element then h else None) there);
        links = same ∙ sym (append-nil old.links);
        faults = is.faults;
      }

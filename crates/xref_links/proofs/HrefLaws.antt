-- What the href of an element leads to.
use Rattle.std.specs.Prelude.{◌≡◌, ℕ, List, Option, Some, Result, Ok, Err, IfOk, codes, option_map}
use Rattle.std.proofs.Common.{sym, ap, subst, ◌∙◌, append-nil}
use Rattle.dita_doc.specs.declared.fault.Fault.{Fault}
use Rattle.dita_doc.specs.declared.plan.Target.{Target}
use Rattle.dita_doc.specs.declared.stop.NoMemory.{NoMemory}
use Rattle.map_spec.specs.Elements.{attribute}
use Rattle.map_spec.specs.Target.{target_by}
use Rattle.map_spec.specs.Written.{Element}
use Rattle.html_spec.specs.Anchors.{Here, format_of, in_topic, read_as, read_href, scope_of}
use Rattle.xref_links.specs.Adding.{IsRead}

module _ (here : Here) (topic : List ℕ) (element : Element) where
  module _ (href format scope doc : List ℕ) (written : attribute (codes "href") element ≡ Some href)
      (formed : format ≡ format_of element) (scoped : scope ≡ scope_of element) (home : doc ≡ element.href_doc) where
    target_is : (found : Option Target) → found ≡ target_by href format scope doc
        → target_by href (format_of element) (scope_of element) element.href_doc ≡ found
    target_is found is = sym (is
        ∙ ap (λ f. target_by href f scope doc) formed
        ∙ ap (λ s. target_by href (format_of element) s doc) scoped
        ∙ ap (target_by href (format_of element) (scope_of element)) home)

    read_by : (found : Option Target) (target : Target) (old new : List Fault) → found ≡ target_by href format scope doc
        → IsRead (read_as element href (option_map (in_topic here topic) found)) target old new
        → IsRead (read_href here topic element (attribute (codes "href") element)) target old new
    read_by found target old new is read =
        subst (λ h. IsRead (read_href here topic element h) target old new) (sym written)
        (subst (λ f. IsRead (read_as element href (option_map (in_topic here topic) f)) target old new)
        (sym (target_is found is)) read)

    pub read_some : (found : Option Target) (target read : Target) (met : List Fault)
        → found ≡ target_by href format scope doc → found ≡ Some target → read ≡ in_topic here topic target
        → IsRead (read_href here topic element (attribute (codes "href") element)) read met met
    read_some found target read met is some leads = read_by found read met met is
        (subst (λ f. IsRead (read_as element href (option_map (in_topic here topic) f)) read met met)
        (sym some) (record { leads = leads; faults = sym (append-nil met) }))

-- What the result of the last call is read as
pub read_ends : (here : Here) (topic : List ℕ) (element : Element) (target : Target) (result : Result Target NoMemory)
    (met : List Fault)
    → ((read : Target) → read ≡ in_topic here topic target
    → IsRead (read_href here topic element (attribute (codes "href") element)) read met met)
    → IfOk result (λ read. read ≡ in_topic here topic target)
    → IfOk result (λ read. IsRead (read_href here topic element (attribute (codes "href") element)) read met met)
read_ends here topic element target (Ok read) met make is = make read is
read_ends here topic element target (Err error) met make is = tt

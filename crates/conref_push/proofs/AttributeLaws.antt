-- Attributes that stay.
use Rattle.std.specs.Prelude.{◌≡◌, ◌+◌, ◌<◌, ◌||◌, ℕ, Bool, true, false, not, List, [], ◌∷◌, ◌++◌, bytes_eq, codes, length, take, if◌then◌else◌}
use Rattle.std.specs.List.{list_any}
use Rattle.std.proofs.Common.{refl, sym, ap, ◌∙◌, append_assoc, get_or}
use Rattle.std.proofs.lemmas.List.Elements.{filter-append}
use Rattle.dita_doc.specs.declared.doc.Attribute.{Attribute}
use Rattle.map_spec.specs.Pushes.{pushing_names, without_names}
use Rattle.plan_nodes.proofs.HomeLaws.{push_of}

abbrev one_kept : List (List ℕ) → Attribute → List Attribute
one_kept names one = if list_any (bytes_eq one.name) names then [] else one ∷ []

kept_by : (names : List (List ℕ)) (one : Attribute) (drops : Bool) → list_any (bytes_eq one.name) names ≡ drops
    → without_names names (one ∷ []) ≡ (if drops then [] else one ∷ [])
kept_by names one true is = rw is refl
kept_by names one false is = rw is refl

-- one attribute more
pub kept_more : (names : List (List ℕ)) (all kept new : List Attribute) (at : ℕ) (one : Attribute) (drops : Bool)
    → at < length all → one ≡ get_or all at one → drops ≡ list_any (bytes_eq one.name) names
    → new ≡ kept ++ (if drops then [] else one ∷ []) → kept ≡ without_names names (take at all)
    → new ≡ without_names names (take (at + 1) all)
kept_more names all kept new at one drops within is told more before =
    more ∙ ap (λ l. l ++ (if drops then [] else one ∷ [])) before
    ∙ ap (λ l. without_names names (take at all) ++ l) (sym (kept_by names one drops (sym told)))
    ∙ sym (filter-append (λ (written : Attribute). not (list_any (bytes_eq written.name) names)) (take at all)
    (one ∷ []))
    ∙ ap (without_names names) (sym (push_of all at one within is))

both_by : (one : Attribute) (id pushing : Bool) → bytes_eq one.name (codes "id") ≡ id
    → list_any (bytes_eq one.name) pushing_names ≡ pushing
    → without_names (codes "id" ∷ []) (without_names pushing_names (one ∷ []))
    ≡ (if id || pushing then [] else one ∷ [])
both_by one true true id pushing = rw pushing refl
both_by one false true id pushing = rw pushing refl
both_by one true false id pushing = rw (pushing, id) refl
both_by one false false id pushing = rw (pushing, id) refl

pub kept_instead : (first all kept new : List Attribute) (at : ℕ) (one : Attribute) (drops : Bool)
    → at < length all → one ≡ get_or all at one
    → drops ≡ (bytes_eq one.name (codes "id") || list_any (bytes_eq one.name) pushing_names)
    → new ≡ kept ++ (if drops then [] else one ∷ [])
    → kept ≡ first ++ without_names (codes "id" ∷ []) (without_names pushing_names (take at all))
    → new ≡ first ++ without_names (codes "id" ∷ []) (without_names pushing_names (take (at + 1) all))
kept_instead first all kept new at one drops within is told more before =
    let names = codes "id" ∷ [] in
    let own : without_names names (without_names pushing_names (one ∷ [])) ≡ (if drops then [] else one ∷ []) =
    both_by one (bytes_eq one.name (codes "id")) (list_any (bytes_eq one.name) pushing_names) refl refl
    ∙ ap (λ (b : Bool). if b then [] else one ∷ []) (sym told) in
    let parts : without_names names (without_names pushing_names (take (at + 1) all))
    ≡ without_names names (without_names pushing_names (take at all)) ++ (if drops then [] else one ∷ []) =
    ap (λ l. without_names names (without_names pushing_names l)) (push_of all at one within is)
    ∙ ap (without_names names) (filter-append
    (λ (written : Attribute). not (list_any (bytes_eq written.name) pushing_names)) (take at all) (one ∷ []))
    ∙ filter-append (λ (written : Attribute). not (list_any (bytes_eq written.name) names))
    (without_names pushing_names (take at all)) (without_names pushing_names (one ∷ []))
    ∙ ap (λ l. without_names names (without_names pushing_names (take at all)) ++ l) own in
    more ∙ ap (λ l. l ++ (if drops then [] else one ∷ [])) before
    ∙ append_assoc first (without_names names (without_names pushing_names (take at all)))
    (if drops then [] else one ∷ [])
    ∙ ap (λ l. first ++ l) (sym parts)

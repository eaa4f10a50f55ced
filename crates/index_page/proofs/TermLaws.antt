-- Terms among nodes of which an element stands first.
use Rattle.std.specs.Prelude.{◌≡◌, ◌||◌, ◌++◌, ℕ, Bool, true, false, List, [], ◌∷◌, codes, filter, map, if◌then◌else◌}
use Rattle.std.proofs.Common.{refl, sym, ap, ◌∙◌}
use Rattle.std.proofs.lemmas.List.{map-append}
use Rattle.std.proofs.lemmas.List.Elements.{filter-append}
use Rattle.std.proofs.lemmas.List.Folds.{list_any-append}
use Rattle.dita_doc.specs.ClassValue.{has_type}
use Rattle.doc_elements.proofs.ChildLaws.{is_of_type}
use Rattle.map_spec.specs.Elements.{is_whole}
use Rattle.map_spec.specs.Written.{Element, Written, Node, elements_below}
use Rattle.html_spec.specs.Terms.{holds_term, is_apart, is_term, own_characters, paths_among, term_text}
use Rattle.index_page.specs.Walk.{entries_among, entries_at, entry_at, is_path, paths_of}

-- an element is a term if its class value has the token
pub term_by : (element : Element) (is : Bool) → is ≡ has_type element.attributes (codes "topic/indexterm")
    → is ≡ is_term element
term_by element is has = has ∙ sym (is_of_type (codes "topic/indexterm") element)

-- it stands apart if it is a term, or a base term
pub apart_term : (element : Element) → true ≡ is_term element → true ≡ is_apart element
apart_term element is = rw (← is) refl

pub apart_base : (element : Element) (is : Bool) → false ≡ is_term element
    → is ≡ has_type element.attributes (codes "topic/index-base") → is ≡ is_apart element
apart_base element is other has = rw (← other) (has ∙ sym (is_of_type (codes "topic/index-base") element))

module _ (nodes : Written) (element : Element) (inside rest : Written) (first : nodes ≡ Node element inside rest) where
  -- Is there a term?

  holds_by : holds_term nodes ≡ (is_term element || (holds_term inside || holds_term rest))
  holds_by =
      ap holds_term first
      ∙ ap (λ below. is_term element || below)
      (list_any-append (is_whole (codes "topic/indexterm")) (elements_below inside) (elements_below rest))

  pub held_first : true ≡ is_term element → true ≡ holds_term nodes
  held_first is = sym (holds_by ∙ ap (λ first. first || (holds_term inside || holds_term rest)) (sym is))

  pub held_inside : false ≡ is_term element → true ≡ holds_term inside → true ≡ holds_term nodes
  held_inside is held =
      sym (holds_by ∙ sym (λ i. is i || (held i || holds_term rest)))

  pub held_behind : false ≡ is_term element → false ≡ holds_term inside → holds_term nodes ≡ holds_term rest
  held_behind is held =
      holds_by ∙ sym (λ i. is i || (held i || holds_term rest))

  -- What characters are its own?

  pub own_apart : true ≡ is_apart element → own_characters nodes ≡ own_characters rest
  own_apart is =
      ap own_characters first
      ∙ ap (λ apart. (if apart then [] else own_characters inside) ++ own_characters rest) (sym is)

  pub own_inside : false ≡ is_apart element → own_characters nodes ≡ own_characters inside ++ own_characters rest
  own_inside is =
      ap own_characters first
      ∙ ap (λ apart. (if apart then [] else own_characters inside) ++ own_characters rest) (sym is)

  -- Which entries are there?

  pub entries_by : (page : ℕ) (around : List (List ℕ)) → entries_among page around nodes
      ≡ entries_at page (paths_of around element inside) ++ entries_among page around rest
  entries_by page around =
      ap (entries_among page around) first
      ∙ ap (map (entry_at page)) (filter-append is_path (paths_of around element inside) (paths_among around rest))
      ∙ map-append (entry_at page) (filter is_path (paths_of around element inside))
      (filter is_path (paths_among around rest))

-- The paths of one element

pub paths_other : (around : List (List ℕ)) (element : Element) (inside : Written) → false ≡ is_term element
    → paths_among around inside ≡ paths_of around element inside
paths_other around element inside is = rw (← is) refl

pub paths_within : (around : List (List ℕ)) (element : Element) (inside : Written) (path : List (List ℕ))
    → true ≡ is_term element → true ≡ holds_term inside → path ≡ around ++ term_text inside ∷ []
    → paths_among path inside ≡ paths_of around element inside
paths_within around element inside path is holds are =
    ap (λ texts. paths_among texts inside) are
    ∙ (λ i. if is i then if holds i then paths_among (around ++ term_text inside ∷ []) inside
    else (around ++ term_text inside ∷ []) ∷ [] else paths_among around inside)

pub path_own : (around : List (List ℕ)) (element : Element) (inside : Written) (path : List (List ℕ))
    → true ≡ is_term element → false ≡ holds_term inside → path ≡ around ++ term_text inside ∷ []
    → path ∷ [] ≡ paths_of around element inside
path_own around element inside path is holds are =
    ap (λ texts. texts ∷ []) are
    ∙ (λ i. if is i then if holds i then paths_among (around ++ term_text inside ∷ []) inside
    else (around ++ term_text inside ∷ []) ∷ [] else paths_among around inside)

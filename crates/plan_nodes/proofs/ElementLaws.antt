-- The element at a place of a document's tree, and at that of the content that the tree is under a name.
use Rattle.std.specs.Prelude.{◌≡◌, ◌+◌, ◌-◌, ◌<◌, ◌≤◌, ◌==◌, ℕ, zero, suc, Bool, true, false, List, [], ◌∷◌, Option, Some, None, MatchOption, drop, nat_lt, option_map, slice_get, if◌then◌else◌}
use Rattle.std.specs.Option.{option_and_then}
use Rattle.std.proofs.Common.{refl, sym, ap, ◌∙◌, arith}
use Rattle.std.proofs.Math.Logic.{⊎_elim}
use Rattle.std.proofs.lemmas.Bool.{cases_lt}
use Rattle.std.proofs.lemmas.Bool.Decides.{nat_tests}
use Rattle.dita_doc.specs.Siblings as siblings
use Rattle.dita_doc.specs.Siblings.{IsElementAt, content_from, first_element, content_behind}
use Rattle.dita_doc.specs.Tree as tree
use Rattle.dita_doc.specs.Tree.{ArePreorder, Content, content_of, is_element, size_of, tree_of}
use Rattle.dita_doc.specs.declared.doc.Doc.{Doc}
use Rattle.dita_doc.specs.declared.doc.Node.{Node}
use Rattle.dita_doc.proofs.PlaceLaws.{content_there}
use Rattle.map_spec.specs.Written.{Element, Whole, element_at, size, written_in}
use Rattle.map_lemmas.proofs.TreeLaws.{size_written}
use Rattle.doc_elements.specs.Walk.{FoundElement, element_of, found_in}

-- the first element, under a name
abbrev first_in : List ℕ → Content → Option Whole
first_in name tree.End = None
first_in name (tree.Chars text origin line rest) = None
first_in name (tree.Element text attributes origin line inside rest) =
    Some (record { name = text; attributes = attributes; doc = name; line = line; href_doc = name }, written_in name inside)

-- behind a content stands what comes after it
from_behind : (all more : Content) (place : ℕ) → size_of all ≤ place
    → content_from place (content_behind all more) ≡ content_from (place - size_of all) more
from_behind tree.End more place past = let same : place ≡ place - 0 = omega arith in ap (λ n. content_from n more) same
from_behind (tree.Chars text origin line rest) more zero past = absurd (omega arith)
from_behind (tree.Chars text origin line rest) more (suc place) past =
    let same : place - size_of rest ≡ suc place - (1 + size_of rest) = omega arith in
    from_behind rest more place (omega arith) ∙ ap (λ n. content_from n more) same
from_behind (tree.Element text attributes origin line inside rest) more zero past = absurd (omega arith)
from_behind (tree.Element text attributes origin line inside rest) more (suc place) past =
    let same : place - size_of inside - size_of rest ≡ suc place - (1 + (size_of inside + size_of rest)) = omega arith in
    from_behind inside (content_behind rest more) place (omega arith)
    ∙ from_behind rest more (place - size_of inside) (omega arith)
    ∙ ap (λ n. content_from n more) same

-- in a content the first element is the same, whatever comes after it
from_within : (name : List ℕ) (all more : Content) (place : ℕ) → place < size_of all
    → first_in name (content_from place (content_behind all more)) ≡ first_in name (content_from place all)
from_within name tree.End more place within = absurd (omega arith)
from_within name (tree.Chars text origin line rest) more zero within = refl
from_within name (tree.Chars text origin line rest) more (suc place) within =
    from_within name rest more place (omega arith)
from_within name (tree.Element text attributes origin line inside rest) more zero within = refl
from_within name (tree.Element text attributes origin line inside rest) more (suc place) within =
    ⊎_elim
    (λ below. from_within name inside (content_behind rest more) place below
    ∙ sym (from_within name inside rest place below))
    (λ past. ap (first_in name) (from_behind inside (content_behind rest more) place past)
    ∙ from_within name rest more (place - size_of inside) (omega arith)
    ∙ sym (ap (first_in name) (from_behind inside rest place past)))
    (cases_lt place (size_of inside))

choice : {X : Type 0} (test : Bool) (x y z : X) → (test ≡ true → x ≡ z) → (test ≡ false → y ≡ z)
    → (if test then x else y) ≡ z
choice true x y z first second = first refl
choice false x y z first second = second refl

-- the element at a place is the first of what stands there
at_first : (name : List ℕ) (all : Content) (place : ℕ)
    → element_at (written_in name all) place ≡ first_in name (content_from place all)
at_first name tree.End zero = refl
at_first name tree.End (suc place) = refl
at_first name (tree.Chars text origin line rest) zero = refl
at_first name (tree.Chars text origin line rest) (suc place) =
    let same : suc place - 1 ≡ place = omega arith in
    let other : (suc place == 0) ≡ false = grind (arith, nat_tests) in
    rw (other, same) (at_first name rest place)
at_first name (tree.Element text attributes origin line inside rest) zero = refl
at_first name (tree.Element text attributes origin line inside rest) (suc place) =
    let within = written_in name inside in
    let as_many : size within ≡ size_of inside = size_written name inside in
    let other : (suc place == 0) ≡ false = grind (arith, nat_tests) in
    rw other (choice (nat_lt (size within) (suc place)) (element_at (written_in name rest) (suc place - (1 + size within)))
    (element_at within (suc place - 1)) (first_in name (content_from place (content_behind inside rest)))
    (λ past. let after : size within < suc place = grind (arith, nat_tests) in
    let same : suc place - (1 + size within) ≡ place - size_of inside = omega arith in
    ap (element_at (written_in name rest)) same
    ∙ at_first name rest (place - size_of inside)
    ∙ sym (ap (first_in name) (from_behind inside rest place (omega arith))))
    (λ before. let below : suc place ≤ size within = grind (arith, nat_tests) in
    let same : suc place - 1 ≡ place = omega arith in
    ap (element_at within) same
    ∙ at_first name inside place
    ∙ sym (from_within name inside rest place (omega arith))))

first_again : (name : List ℕ) (all : Content) → first_in name all ≡ option_and_then (first_in name) (first_element all)
first_again name tree.End = refl
first_again name (tree.Chars text origin line rest) = refl
first_again name (tree.Element text attributes origin line inside rest) = refl

-- the element that was found in a document, or that none was
pub element_found : (name : List ℕ) (doc : Doc) (place : ℕ) (found : Option FoundElement)
    → MatchOption found (siblings.content_at (tree_of doc.nodes) place ≡ None)
    (λ (f : FoundElement). IsElementAt doc place f.0.now f.1)
    → found_in name found ≡ element_at (written_in name (tree_of doc.nodes)) place
element_found name doc place None none = sym (
    at_first name (tree_of doc.nodes) place ∙ first_again name (content_from place (tree_of doc.nodes))
    ∙ ap (option_and_then (first_in name)) none
    )
element_found name doc place (Some found) is = sym (
    at_first name (tree_of doc.nodes) place ∙ first_again name (content_from place (tree_of doc.nodes))
    ∙ ap (option_and_then (first_in name)) is.element
    )

-- The element alone: the node at its place, if that is an element

abbrev pub head_of : Option Whole → Option Element
head_of whole = option_map (λ (w : Whole). w.0) whole

abbrev pub of_node : List ℕ → Option Node → Option Element
of_node name None = None
of_node name (Some node) = if is_element node.kind then Some (element_of name node) else None

of_first : (name : List ℕ) (nodes : List Node) (place : ℕ)
    → head_of (first_in name (content_of nodes place)) ≡ of_node name (slice_get nodes 0)
of_first name [] place = refl
of_first name (node ∷ nodes) place = by_kind (is_element node.kind) refl
  where
    by_kind : (test : Bool) → is_element node.kind ≡ test
        → head_of (first_in name (content_of (node ∷ nodes) place)) ≡ of_node name (Some node)
    by_kind true is = rw is refl
    by_kind false is = rw is refl

at_drop : (nodes : List Node) (place : ℕ) → slice_get (drop place nodes) 0 ≡ slice_get nodes place
at_drop nodes zero = refl
at_drop [] (suc place) = refl
at_drop (node ∷ nodes) (suc place) = at_drop nodes place

pub element_here : (name : List ℕ) (nodes : List Node) (place : ℕ) → ArePreorder nodes 0
    → head_of (element_at (written_in name (tree_of nodes)) place) ≡ of_node name (slice_get nodes place)
element_here name nodes place tree =
    ap head_of (at_first name (tree_of nodes) place)
    ∙ ap (λ all. head_of (first_in name all)) (sym (content_there nodes place tree))
    ∙ of_first name (drop place nodes) place
    ∙ ap (of_node name) (at_drop nodes place)

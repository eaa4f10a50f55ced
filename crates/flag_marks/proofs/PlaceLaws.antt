-- Where the marks of nodes stand.
use Rattle.std.specs.Prelude.{◌≡◌, ◌+◌, ℕ, suc, true, List, [], ◌∷◌, ◌++◌, Option, Some, None, map}
use Rattle.std.specs.List.{All}
use Rattle.std.proofs.Common.{refl, arith}
use Rattle.std.proofs.lemmas.List.Elements.{All-append, All-cons, All-head, All-nil, All-tail}
use Rattle.dita_doc.specs.declared.content.Mark.{Mark}
use Rattle.dita_doc.specs.declared.content.Rule.{Rule}
use Rattle.dita_doc.specs.declared.doc.Attribute.{Attribute}
use Rattle.dita_doc.specs.declared.doc.Node.{Node}
use Rattle.dita_doc.specs.declared.doc.NodeKind.{NodeKind}
use Rattle.dita_doc.specs.declared.doc.NodeKind.TheVariants as kinds
use Rattle.flag_marks.specs.Marks.{at_place, attributes_at, attributes_of_kind, marks_from, marks_of_element}
use Rattle.flag_marks.specs.Places.{AreAtElements, RiseFrom, is_element_at, is_element_kind}

-- They rise

rise_weaker : (place : ℕ) (marks : List Mark) → RiseFrom (place + 1) marks → RiseFrom place marks
rise_weaker place [] rise = tt
rise_weaker place (mark ∷ marks) rise = (omega (arith, rise.0), rise.1)

rise_texts : (place : ℕ) (texts : List (List ℕ)) (marks : List Mark) → RiseFrom (place + 1) marks
    → RiseFrom place (map (at_place place) texts ++ marks)
rise_texts place [] marks rise = rise_weaker place marks rise
rise_texts place (text ∷ texts) marks rise = (omega arith, rise_texts place texts marks rise)

rise_from : (all : List (List Rule)) (place : ℕ) (names : List (List (List ℕ)))
    (nodes : List (Option (List Attribute))) → RiseFrom place (marks_from all place names nodes)
rise_from all place names [] = tt
rise_from all place [] (first ∷ nodes) = tt
rise_from all place (declared ∷ names) (None ∷ nodes) =
    rise_weaker place (marks_from all (place + 1) names nodes) (rise_from all (place + 1) names nodes)
rise_from all place (declared ∷ names) (Some attributes ∷ nodes) =
    rise_texts place (marks_of_element all declared attributes) (marks_from all (place + 1) names nodes)
    (rise_from all (place + 1) names nodes)

-- They stand at elements

-- a mark stands at an element among nodes of which the first has this place
abbrev IsAmong : ℕ → List Node → Mark → Type 0
IsAmong place nodes mark = (at : ℕ) × (mark.place ≡ place + at) × (is_element_at nodes at ≡ true)

among_more : (place : ℕ) (node : Node) (nodes : List Node) (marks : List Mark) → All (IsAmong (place + 1) nodes) marks
    → All (IsAmong place (node ∷ nodes)) marks
among_more place node nodes [] each = All-nil (IsAmong place (node ∷ nodes))
among_more place node nodes (mark ∷ marks) each =
    let first = All-head (IsAmong (place + 1) nodes) mark marks each in
    All-cons (IsAmong place (node ∷ nodes)) mark marks
    (suc first.0, omega (arith, first.1), first.2)
    (among_more place node nodes marks (All-tail (IsAmong (place + 1) nodes) mark marks each))

among_texts : (place : ℕ) (node : Node) (nodes : List Node) → is_element_kind node.kind ≡ true
    → (texts : List (List ℕ)) → All (IsAmong place (node ∷ nodes)) (map (at_place place) texts)
among_texts place node nodes is [] = All-nil (IsAmong place (node ∷ nodes))
among_texts place node nodes is (text ∷ texts) =
    All-cons (IsAmong place (node ∷ nodes)) (at_place place text) (map (at_place place) texts)
    (0, omega arith, is) (among_texts place node nodes is texts)

among_from : (all : List (List Rule)) (place : ℕ) (names : List (List (List ℕ))) (nodes : List Node)
    → All (IsAmong place nodes) (marks_from all place names (map attributes_at nodes))
among_from all place names [] = All-nil (IsAmong place [])
among_from all place [] (node ∷ nodes) = All-nil (IsAmong place (node ∷ nodes))
among_from all place (declared ∷ names) (node ∷ nodes) = by_kind node.kind refl
    (among_more place node nodes (marks_from all (place + 1) names (map attributes_at nodes))
    (among_from all (place + 1) names nodes))
  where
    by_kind : (kind : NodeKind) → node.kind ≡ kind
        → All (IsAmong place (node ∷ nodes)) (marks_from all (place + 1) names (map attributes_at nodes))
        → All (IsAmong place (node ∷ nodes))
        (marks_from all place (declared ∷ names) (attributes_of_kind kind node.attributes ∷ map attributes_at nodes))
    by_kind kinds.Chars is more = more
    by_kind kinds.Element is more =
        All-append (IsAmong place (node ∷ nodes))
        (map (at_place place) (marks_of_element all declared node.attributes)) _
        (among_texts place node nodes (rw is refl) (marks_of_element all declared node.attributes)) more

each_at : (nodes : List Node) (marks : List Mark) → All (IsAmong 0 nodes) marks
    → All (λ (mark : Mark). is_element_at nodes mark.place ≡ true) marks
each_at nodes [] each = All-nil (λ (mark : Mark). is_element_at nodes mark.place ≡ true)
each_at nodes (mark ∷ marks) each =
    let first = All-head (IsAmong 0 nodes) mark marks each in
    let place : mark.place ≡ first.0 = omega (arith, first.1) in
    All-cons (λ (mark : Mark). is_element_at nodes mark.place ≡ true) mark marks (rw place first.2)
    (each_at nodes marks (All-tail (IsAmong 0 nodes) mark marks each))

-- the marks of a body stand at its elements, by rising places
pub marks_at_elements : (all : List (List Rule)) (names : List (List (List ℕ))) (nodes : List Node)
    → AreAtElements nodes (marks_from all 0 names (map attributes_at nodes))
marks_at_elements all names nodes = record {
  each = each_at nodes (marks_from all 0 names (map attributes_at nodes)) (among_from all 0 names nodes);
  rising = rise_from all 0 names (map attributes_at nodes);
}

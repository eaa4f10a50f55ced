-- The nodes that the events of a tree make are its preorder.
use Rattle.std.proofs.Common.{◌≡◌, ℕ, ◌+◌, ◌-◌, List, [], ◌∷◌, ◌++◌, length, sym, refl, ap, ◌∙◌, append_assoc, arith}
use Rattle.std.proofs.lemmas.List.{append-nil, length_push, length-append}
use Rattle.dita_doc.specs.declared.doc.Attribute.{Attribute}
use Rattle.dita_doc.specs.declared.doc.Node.{Node}
use Rattle.dita_doc.specs.Tree.{Content, End, Chars, Element, nodes_of, size_of, element_node, chars_node}
use Rattle.dita_doc.specs.PyxEvent.{Event, Open, Give, Text, Close, add_text}
use Rattle.dita_doc.specs.Pyx.{give_all, says, IsWritten, IsOneElement, text_then}
use Rattle.dita_doc.proofs.TreeLaws.{length_nodes}
use Rattle.pyx_text.specs.Machine.{MadeEvents, made_by, with_text, with_attribute, with_end, giving, ending, innermost, outer, text_at, settled}
use Rattle.pyx_text.proofs.Lists.{changed_behind, innermost_push, outer_push}
use Rattle.pyx_text.proofs.Made.{made-settled, text_at-add}
use Rattle.pyx_text.proofs.PyxTells.{IsApart, apart_from_false, text_kept}

-- what nodes and places are, where they are known
abbrev AreMade : List Event → List Node → List ℕ → Type 0
AreMade events nodes places = made_by events ≡ record { nodes = nodes; places = places }

-- the attributes of the last element
given_all : (attributes given : List Attribute) (before : List Event) (front : List Node) (node : Node)
    (places : List ℕ)
    → AreMade before (front ++ (record node { attributes = given }) ∷ []) places
    → AreMade (give_all attributes before) (front ++ (record node { attributes = given ++ attributes }) ∷ []) places
given_all [] given before front node places made = made
    ∙ ap (λ list. record { nodes = front ++ (record node { attributes = list }) ∷ []; places = places })
    (sym (append-nil given))
given_all (attribute ∷ attributes) given before front node places made =
    let last : Node = record node { attributes = given } in
    let nodes : List Node = front ++ last ∷ [] in
    let at : length front ≡ length nodes - 1 = omega (arith, length_push front last) in
    let next : AreMade (Give attribute.name attribute.value ∷ before)
    (front ++ (record node { attributes = given ++ attribute ∷ [] }) ∷ []) places =
    ap (λ m. let made : MadeEvents =
    m in record { nodes = with_attribute attribute made.nodes; places = made.places }) made
    ∙ ap (λ ns. record { nodes = ns; places = places })
    (changed_behind front last [] (length nodes - 1) (giving attribute) at) in
    given_all attributes (given ++ attribute ∷ []) (Give attribute.name attribute.value ∷ before) front node places next
    ∙ ap (λ list. record { nodes = front ++ (record node { attributes = list }) ∷ []; places = places })
    (append_assoc given (attribute ∷ []) attributes)

with_text-then : (text : List ℕ) (c : Content) (nodes : List Node)
    → with_text text nodes ++ nodes_of c (length (with_text text nodes)) ≡ nodes
    ++ nodes_of (text_then text c) (length nodes)
with_text-then [] c nodes = refl
with_text-then (b ∷ text) c nodes =
    ap (λ k. (nodes ++ chars_node (b ∷ text) 0 0 (length nodes + 1) ∷ []) ++ nodes_of c k) (length_push nodes _)
    ∙ append_assoc nodes (chars_node (b ∷ text) 0 0 (length nodes + 1) ∷ []) (nodes_of c (length nodes + 1))

said_end : (text : List ℕ) (nodes : List Node)
    → with_text text nodes ≡ nodes ++ nodes_of (text_then text End) (length nodes)
said_end text nodes = sym (append-nil (with_text text nodes)) ∙ with_text-then text End nodes

-- an element whose content is put behind it ends where that ends
ended : (front : List Node) (name : List ℕ) (attributes : List Attribute) (line : ℕ) (inside : Content)
    → (element : Node) → element ≡ element_node name attributes 0 line 0
    → with_end (length front) ((front ++ element ∷ []) ++ nodes_of inside (length (front ++ element ∷ [])))
    ≡ front ++ element_node name attributes 0 line (length front + 1 + size_of inside) ∷ nodes_of inside
    (length front + 1)
ended front name attributes line inside element is =
    let within = nodes_of inside (length front + 1) in
    let all : (front ++ element ∷ []) ++ nodes_of inside (length (front ++ element ∷ [])) ≡ front ++ element ∷ within =
    ap (λ k. (front ++ element ∷ []) ++ nodes_of inside k) (length_push front element)
    ∙ append_assoc front (element ∷ []) within in
    let count : length (front ++ element ∷ within) ≡ length front + 1 + size_of inside =
    omega (arith, length-append front (element ∷ within), length_nodes inside (length front + 1)) in
    ap (with_end (length front)) all
    ∙ changed_behind front element within (length front) (ending (length (front ++ element ∷ within))) refl
    ∙ ap (λ node. front ++ ending (length (front ++ element ∷ within)) node ∷ within) is
    ∙ ap (λ end. front ++ element_node name attributes 0 line end ∷ within) count

closed : MadeEvents → MadeEvents
closed made = record { nodes = with_end (innermost made.places) made.nodes; places = outer made.places }

-- what a content puts behind others
behind : Content → MadeEvents → MadeEvents
behind c made = record { nodes = made.nodes ++ nodes_of c (length made.nodes); places = made.places }

-- an element and what follows it
element-made : (front : List Node) (places : List ℕ) (name : List ℕ) (attributes : List Attribute) (line : ℕ)
    (inside rest : Content)
    → behind rest
    (closed (behind inside (record {
      nodes = front ++ element_node name attributes 0 line 0 ∷ [];
      places =
          places ++ length front ∷ [];
    })))
    ≡ record { nodes = front ++ nodes_of (Element name attributes 0 line inside rest) (length front); places = places }
unfolding closed behind
element-made front places name attributes line inside rest =
    let element = element_node name attributes 0 line 0 in
    let within = nodes_of inside (length front + 1) in
    let end = length front + 1 + size_of inside in
    let done : List Node = front ++ element_node name attributes 0 line end ∷ within in
    let nodes : with_end (innermost (places ++ length front ∷ []))
    ((front ++ element ∷ []) ++ nodes_of inside (length (front ++ element ∷ []))) ≡ done =
    ap (λ p. with_end p ((front ++ element ∷ []) ++ nodes_of inside (length (front ++ element ∷ []))))
    (innermost_push places (length front))
    ∙ ended front name attributes line inside element refl in
    let count : length done ≡ end = omega (
      arith,
      length-append front (element_node name attributes 0 line end ∷ within),
      length_nodes inside (length front + 1),
    ) in
    ap (λ ns. behind rest (record { nodes = ns; places = outer (places ++ length front ∷ []) })) nodes
    ∙ ap (λ ps. behind rest (record { nodes = done; places = ps })) (outer_push places (length front))
    ∙ ap (λ k. record { nodes = done ++ nodes_of rest k; places = places }) count
    ∙ ap (λ ns. record { nodes = ns; places = places })
    (append_assoc front (element_node name attributes 0 line end ∷ within) (nodes_of rest end))

-- The events of a content put its preorder behind the nodes, and leave the open places.
pub says-made : (text : List ℕ) (c : Content) (before : List Event) → IsWritten c → IsApart text c
    → AreMade (says text c before) ((made_by before).nodes
    ++ nodes_of (text_then text c) (length (made_by before).nodes)) (made_by before).places
unfolding closed behind
says-made text End before written apart =
    ap (λ ns. record { nodes = ns; places = (made_by before).places }) (said_end text (made_by before).nodes)
says-made [] (Chars more origin line rest) before written apart =
    says-made more rest before written.4 (apart_from_false more rest written.1)
    ∙ ap (λ c. record {
      nodes = (made_by before).nodes ++ nodes_of c (length (made_by before).nodes);
      places =
          (made_by before).places;
    })
    (text_kept more origin line rest written.0 written.2 written.3)
says-made (b ∷ text) (Chars more origin line rest) before written apart = absurd (cc)
says-made text (Element name attributes origin line inside rest) before written apart =
    let nodes = (made_by before).nodes in
    let places = (made_by before).places in
    let front = with_text text nodes in
    let opened : List Event = Open name line ∷ Text text ∷ before in
    let given = given_all attributes [] opened front (element_node name [] 0 line 0) (places ++ length front ∷ []) refl
    in
    let within = says-made [] inside (give_all attributes opened) written.1 tt ∙ ap (behind inside) given in
    let after = says-made [] rest (Close name ∷ says [] inside (give_all attributes opened)) written.2 tt
    ∙ ap (λ made. behind rest (closed made)) within in
    after
    ∙ element-made front places name attributes line inside rest
    ∙ ap (λ o. record {
      nodes = front ++ nodes_of (Element name attributes o line inside rest) (length front);
      places =
          places;
    }) (sym written.0)
    ∙ ap (λ ns. record { nodes = ns; places = places })
    (with_text-then text (Element name attributes origin line inside rest) nodes)

-- A machine that has read what one element says has the element's preorder.
last_text : (tree : Content) → IsOneElement tree → text_at (says [] tree []) ≡ []
last_text End one = elim one [ ]
last_text (Chars text origin line rest) one = elim one [ ]
last_text (Element name attributes origin line inside End) one = refl
last_text (Element name attributes origin line inside (Chars text o l rest)) one = absurd (cc)
last_text (Element name attributes origin line inside (Element n attrs o l i rest)) one = absurd (cc)

pub tree-made : (tree : Content) (events : List Event) → IsWritten tree → IsOneElement tree
    → says [] tree [] ≡ add_text [] events → (made_by (settled events)).nodes ≡ nodes_of tree 0
tree-made tree events written one same =
    let none : text_at events ≡ [] = sym (append-nil (text_at events)) ∙ sym (text_at-add [] events)
    ∙ ap text_at (sym same) ∙ last_text tree one in
    ap (λ t. with_text t (made_by (settled events)).nodes) (sym none)
    ∙ ap (λ m. let made : MadeEvents = m in made.nodes) (sym (made-settled events))
    ∙ ap (λ es. (made_by es).nodes) (sym same)
    ∙ ap (λ m. let made : MadeEvents = m in made.nodes) (says-made [] tree [] written tt)

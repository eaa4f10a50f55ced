-- Documents in the making: what is put, opened and closed.
use Rattle.std.specs.Prelude.{◌≡◌, ◌+◌, ◌<◌, ◌≤◌, ◌==◌, ◌||◌, ℕ, zero, suc, true, List, [], ◌∷◌, ◌++◌, length, take, drop, nat_lt}
use Rattle.std.proofs.Common.{refl, sym, ◌∙◌, ap, subst, arith, append_assoc, length-append, get_or, set}
use Rattle.std.proofs.lemmas.Bool.{and_parts, ltb-true, lt-ltb, false≢true}
use Rattle.std.proofs.lemmas.List.{append-nil, take_at, drop_at}
use Rattle.dita_doc.specs.declared.doc.Node.{Node}
use Rattle.dita_doc.specs.declared.doc.NodeKind.{NodeKind}
use Rattle.dita_doc.specs.declared.doc.NodeKind.TheVariants as kinds
use Rattle.dita_doc.specs.Siblings.{content_behind}
use Rattle.dita_doc.specs.Tree.{Content, End, Chars, Element, size_of, nodes_of, content_of, element_node, is_element, ArePreorder, are_own, are_placed, are_places, has_href}
use Rattle.dita_doc.proofs.PlaceLaws.{nodes_joined}
use Rattle.dita_doc.proofs.TreeLaws.{content_of_nodes, length_nodes, preorder_of_content}
use Rattle.doc_maker.specs.Made.{AreOpen, begins_element, changed_at, ending, with_end}

-- how many nodes a preorder has
pub preorder_count : (nodes : List Node) (place : ℕ) → ArePreorder nodes place
    → length nodes ≡ size_of (content_of nodes place)
preorder_count nodes place tree = ap length tree ∙ length_nodes (content_of nodes place) place

pub end_of_preorder : (nodes : List Node) (place end : ℕ) → end ≡ place + length nodes → ArePreorder nodes place
    → end ≡ place + size_of (content_of nodes place)
end_of_preorder nodes place end is tree = omega (arith, preorder_count nodes place tree, is)

-- the nodes of any content behind a preorder
nodes_more : (c : Content) (nodes : List Node) (place end : ℕ) → end ≡ place + length nodes → ArePreorder nodes place
    → nodes_of (content_behind (content_of nodes place) c) place ≡ nodes ++ nodes_of c end
nodes_more c nodes place end is tree =
    let d = content_of nodes place in
    nodes_joined d c place ∙ ap (λ ns. ns ++ nodes_of c (place + size_of d)) (sym tree)
    ∙ ap (λ n. nodes ++ nodes_of c n) (sym (end_of_preorder nodes place end is tree))

-- a preorder goes on with any content
preorder_more : (c : Content) (nodes : List Node) (place end : ℕ) → end ≡ place + length nodes
    → ArePreorder nodes place → ArePreorder (nodes ++ nodes_of c end) place
preorder_more c nodes place end is tree =
    subst (λ ns. ArePreorder ns place) (nodes_more c nodes place end is tree)
    (preorder_of_content (content_behind (content_of nodes place) c) place)

-- and is that of both contents, one behind the other
pub content_more : (c : Content) (nodes : List Node) (place end : ℕ) → end ≡ place + length nodes
    → ArePreorder nodes place → content_of (nodes ++ nodes_of c end) place ≡ content_behind (content_of nodes place) c
content_more c nodes place end is tree =
    ap (λ ns. content_of ns place) (sym (nodes_more c nodes place end is tree))
    ∙ content_of_nodes (content_behind (content_of nodes place) c) place

-- an element that stands at a place
pub record PartsAt (nodes : List Node) (place : ℕ) : Type 0 where
  pub node : Node
  pub whole : nodes ≡ take place nodes ++ node ∷ drop (place + 1) nodes
  pub count : length (take place nodes) ≡ place
  pub kind : is_element node.kind ≡ true

parts_next : (nodes : List Node) (place next : ℕ) → next ≡ place + 1 → begins_element (drop place nodes) ≡ true
    → (node : Node) × (nodes ≡ take place nodes ++ node ∷ drop next nodes) × (length (take place nodes) ≡ place)
    × (is_element node.kind ≡ true)
parts_next [] zero next is begins = absurd (false≢true begins)
parts_next [] (suc place) next is begins = absurd (false≢true begins)
parts_next (node ∷ nodes) zero zero is begins = absurd (omega arith)
parts_next (node ∷ nodes) zero (suc zero) is begins = (node, refl, refl, begins)
parts_next (node ∷ nodes) zero (suc (suc next)) is begins = absurd (omega arith)
parts_next (node ∷ nodes) (suc place) zero is begins = absurd (omega arith)
parts_next (node ∷ nodes) (suc place) (suc next) is begins =
    let more = parts_next nodes place next (omega arith) begins in
    (more.0, ap (λ ns. node ∷ ns) more.1, ap suc more.2, more.3)

pub parts_at : (nodes : List Node) (place : ℕ) → begins_element (drop place nodes) ≡ true → PartsAt nodes place
parts_at nodes place begins =
    let parts = parts_next nodes place (place + 1) refl begins in
    record { node = parts.0; whole = parts.1; count = parts.2; kind = parts.3 }

-- so it stands within them
pub open_inside : (nodes : List Node) (place : ℕ) (outer : List ℕ) → AreOpen nodes (place ∷ outer)
    → place < length nodes
open_inside nodes place outer opened =
    let parts = parts_at nodes place opened.0 in
    omega (
      arith,
      ap length parts.whole,
      length-append (take place nodes) (parts.node ∷ drop (place + 1) nodes),
      parts.count,
    )

-- nodes, an element behind them, and what it holds so far: where each stands
pub record SplitAt (before : List Node) (node : Node) (inside : List Node) (place : ℕ) : Type 0 where
  pub front : take place (before ++ node ∷ inside) ≡ before
  pub here : drop place (before ++ node ∷ inside) ≡ node ∷ inside
  pub back : drop (place + 1) (before ++ node ∷ inside) ≡ inside

pub split_at : (before : List Node) (node : Node) (inside : List Node) (place : ℕ) → length before ≡ place
    → SplitAt before node inside place
split_at before node inside place count =
    let same : before ++ node ∷ inside ≡ (before ++ node ∷ []) ++ inside =
    sym (append_assoc before (node ∷ []) inside) in
    record {
      front = take_at before (node ∷ inside) place count;
      here = drop_at before (node ∷ inside) place count;
      back = ap (drop (place + 1)) same ∙ drop_at (before ++ node ∷ []) inside (place + 1)
          (omega (arith, length-append before (node ∷ []), count));
    }

-- the element is open, if what it holds is a preorder
open_with : (before : List Node) (node : Node) (inside : List Node) (place : ℕ) (outer : List ℕ)
    → length before ≡ place → is_element node.kind ≡ true → ArePreorder inside (place + 1) → AreOpen before outer
    → AreOpen (before ++ node ∷ inside) (place ∷ outer)
open_with before node inside place outer count kind tree opened =
    let split = split_at before node inside place count in (
      ap begins_element split.here ∙ kind,
      subst (λ ns. ArePreorder ns (place + 1)) (sym split.back) tree,
      subst (λ ns. AreOpen ns outer) (sym split.front) opened,
    )

-- any content is put into the innermost element
pub open_more : (c : Content) (nodes : List Node) (opened : List ℕ) (end : ℕ) → end ≡ length nodes
    → AreOpen nodes opened → AreOpen (nodes ++ nodes_of c end) opened
open_more c nodes [] end is tree = preorder_more c nodes 0 end (omega (arith, is)) tree
open_more c nodes (place ∷ outer) end is opened =
    let parts = parts_at nodes place opened.0 in
    let before = take place nodes in
    let inside = drop (place + 1) nodes in
    let there : end ≡ place + 1 + length inside = omega (
      arith,
      is,
      ap length parts.whole,
      length-append before (parts.node ∷ inside),
      parts.count,
    ) in
    let all : before ++ parts.node ∷ (inside ++ nodes_of c end) ≡ nodes ++ nodes_of c end =
    sym (append_assoc before (parts.node ∷ inside) (nodes_of c end))
    ∙ ap (λ ns. ns ++ nodes_of c end) (sym parts.whole) in
    subst (λ ns. AreOpen ns (place ∷ outer)) all
    (open_with before parts.node (inside ++ nodes_of c end) place outer parts.count parts.kind
    (preorder_more c inside (place + 1) end there opened.1) opened.2)

-- a node that is one content is put
pub open_leaf : (c : Content) (node : Node) (nodes : List Node) (opened : List ℕ)
    → nodes_of c (length nodes) ≡ node ∷ [] → AreOpen nodes opened → AreOpen (nodes ++ node ∷ []) opened
open_leaf c node nodes opened leaf was =
    subst (λ ns. AreOpen (nodes ++ ns) opened) leaf (open_more c nodes opened (length nodes) refl was)

-- an element is put, and is opened from then on
pub open_element : (node : Node) (nodes : List Node) (opened : List ℕ) (place : ℕ) → place ≡ length nodes
    → is_element node.kind ≡ true → AreOpen nodes opened → AreOpen (nodes ++ node ∷ []) (place ∷ opened)
open_element node nodes opened place is kind was =
    open_with nodes node [] place opened (sym is) kind refl was

-- Closing

-- the change of a node that stands behind others
changed_behind : (front : List Node) (node : Node) (back : List Node) (place : ℕ) (change : Node → Node)
    → length front ≡ place → changed_at place change (front ++ node ∷ back) ≡ front ++ change node ∷ back
changed_behind [] node back zero change at = refl
changed_behind [] node back (suc place) change at = absurd (omega arith)
changed_behind (first ∷ front) node back zero change at = absurd (omega arith)
changed_behind (first ∷ front) node back (suc place) change at =
    ap (λ ns. first ∷ ns) (changed_behind front node back place change (omega arith))

-- an element whose end is told
element_is : (node : Node) (end : ℕ) → is_element node.kind ≡ true
    → ending end node ≡ element_node node.text node.attributes node.origin node.line end
element_is node end kind = by_kind node.kind refl
  where
    by_kind : (k : NodeKind) → node.kind ≡ k
        → ending end node ≡ element_node node.text node.attributes node.origin node.line end
    by_kind kinds.Element is = rw is refl
    by_kind kinds.Chars is = absurd (false≢true (ap is_element (sym is) ∙ kind))

-- the element that stands at a place, with all that stands behind it as what it holds
abbrev pub element_from : (node : Node) (inside : List Node) → ℕ → Content
element_from node inside place =
    Element node.text node.attributes node.origin node.line (content_of inside (place + 1)) End

-- the nodes in which it ends behind all that was put
pub nodes_ended : (nodes : List Node) (place : ℕ) (outer : List ℕ) (opened : AreOpen nodes (place ∷ outer))
    → take place nodes
    ++ nodes_of (element_from (parts_at nodes place opened.0).node (drop (place + 1) nodes) place) place
    ≡ with_end place nodes
nodes_ended nodes place outer opened =
    let parts = parts_at nodes place opened.0 in
    let before = take place nodes in
    let inside = drop (place + 1) nodes in
    let node = parts.node in
    let c = content_of inside (place + 1) in
    let there : length nodes ≡ place + 1 + size_of c = omega (
      arith,
      preorder_count inside (place + 1) opened.1,
      ap length parts.whole,
      length-append before (node ∷ inside),
      parts.count,
    ) in
    let element : ending (length nodes) node ∷ inside ≡ nodes_of (element_from node inside place) place =
    ap (λ n. n ∷ inside) (element_is node (length nodes) parts.kind
    ∙ ap (element_node node.text node.attributes node.origin node.line) there)
    ∙ ap (λ ns. element_node node.text node.attributes node.origin node.line (place + 1 + size_of c) ∷ ns)
    (opened.1 ∙ sym (append-nil (nodes_of c (place + 1)))) in
    ap (λ ns. before ++ ns) (sym element)
    ∙ sym (changed_behind before node inside place (ending (length nodes)) parts.count)
    ∙ ap (changed_at place (ending (length nodes))) (sym parts.whole)

-- the innermost element ends behind all that was put
pub open_closed : (nodes : List Node) (place : ℕ) (outer : List ℕ) → AreOpen nodes (place ∷ outer)
    → AreOpen (with_end place nodes) outer
open_closed nodes place outer opened =
    let parts = parts_at nodes place opened.0 in
    subst (λ ns. AreOpen ns outer) (nodes_ended nodes place outer opened)
    (open_more (element_from parts.node (drop (place + 1) nodes) place) (take place nodes) outer place
    (sym parts.count) opened.2)

-- Lists of nodes

pub changed-set : (nodes : List Node) (place : ℕ) (change : Node → Node) (node : Node) → place < length nodes
    → node ≡ get_or nodes place node → set nodes place (change node) ≡ changed_at place change nodes
changed-set [] place change node inside is = absurd (omega arith)
changed-set (first ∷ nodes) zero change node inside is = ap (λ n. change n ∷ nodes) is
changed-set (first ∷ nodes) (suc place) change node inside is =
    ap (λ ns. first ∷ ns) (changed-set nodes place change node (omega arith) is)

pub length-changed : (nodes : List Node) (place : ℕ) (change : Node → Node)
    → length (changed_at place change nodes) ≡ length nodes
length-changed [] place change = refl
length-changed (first ∷ nodes) zero change = refl
length-changed (first ∷ nodes) (suc place) change = ap suc (length-changed nodes place change)

-- Origins

pub placed_ended : (count end place : ℕ) (nodes : List Node) → are_placed count nodes ≡ true
    → are_placed count (changed_at place (ending end) nodes) ≡ true
placed_ended count end place [] placed = placed
placed_ended count end zero (node ∷ nodes) placed = placed
placed_ended count end (suc place) (node ∷ nodes) placed =
    let parts = and_parts (nat_lt node.origin count) (are_placed count nodes) placed in
    rw (parts.0, placed_ended count end place nodes parts.1) refl

pub placed_push : (count : ℕ) (nodes : List Node) (node : Node) → are_placed count nodes ≡ true → node.origin < count
    → are_placed count (nodes ++ node ∷ []) ≡ true
placed_push count [] node placed below = rw (lt-ltb node.origin count below) refl
placed_push count (first ∷ nodes) node placed below =
    let parts = and_parts (nat_lt first.origin count) (are_placed count nodes) placed in
    rw (parts.0, placed_push count nodes node parts.1 below) refl

pub placed_parts : (count : ℕ) (front back : List Node) → are_placed count (front ++ back) ≡ true
    → (are_placed count front ≡ true) × (are_placed count back ≡ true)
placed_parts count [] back placed = (refl, placed)
placed_parts count (node ∷ front) back placed =
    let parts = and_parts (nat_lt node.origin count) (are_placed count (front ++ back)) placed in
    let more = placed_parts count front back parts.1 in
    (rw (parts.0, more.0) refl, more.1)

pub placed_among_more : (count more : ℕ) (nodes : List Node) → count ≤ more → are_placed count nodes ≡ true
    → are_placed more nodes ≡ true
placed_among_more count more [] grows placed = refl
placed_among_more count more (node ∷ nodes) grows placed =
    let parts = and_parts (nat_lt node.origin count) (are_placed count nodes) placed in
    let below : node.origin < more = omega (arith, ltb-true node.origin count parts.0) in
    rw (lt-ltb node.origin more below, placed_among_more count more nodes grows parts.1) refl

pub places_push : (count : ℕ) (places : List ℕ) (place : ℕ) → are_places count places ≡ true → place < count
    → are_places count (places ++ place ∷ []) ≡ true
places_push count [] place placed below = rw (lt-ltb place count below) refl
places_push count (first ∷ places) place placed below =
    let parts = and_parts (nat_lt first count) (are_places count places) placed in
    rw (parts.0, places_push count places place parts.1 below) refl

pub places_among_more : (count more : ℕ) (places : List ℕ) → count ≤ more → are_places count places ≡ true
    → are_places more places ≡ true
places_among_more count more [] grows placed = refl
places_among_more count more (place ∷ places) grows placed =
    let parts = and_parts (nat_lt place count) (are_places count places) placed in
    let below : place < more = omega (arith, ltb-true place count parts.0) in
    rw (lt-ltb place more below, places_among_more count more places grows parts.1) refl

-- Hrefs that stand where their nodes do

pub own_push : (nodes : List Node) (hrefs : List ℕ) (node : Node) (href : ℕ) → length hrefs ≡ length nodes
    → are_own nodes hrefs ≡ true → (has_href node.attributes || node.origin == href) ≡ true
    → are_own (nodes ++ node ∷ []) (hrefs ++ href ∷ []) ≡ true
own_push [] [] node href each own is = rw is refl
own_push [] (other ∷ hrefs) node href each own is = absurd (omega arith)
own_push (first ∷ nodes) [] node href each own is = absurd (omega arith)
own_push (first ∷ nodes) (other ∷ hrefs) node href each own is =
    let parts = and_parts (has_href first.attributes || first.origin == other) (are_own nodes hrefs) own in
    rw (parts.0, own_push nodes hrefs node href (omega arith) parts.1 is) refl

pub own_ended : (end place : ℕ) (nodes : List Node) (hrefs : List ℕ) → are_own nodes hrefs ≡ true
    → are_own (changed_at place (ending end) nodes) hrefs ≡ true
own_ended end place [] hrefs own = own
own_ended end zero (node ∷ nodes) [] own = own
own_ended end zero (node ∷ nodes) (href ∷ hrefs) own = own
own_ended end (suc place) (node ∷ nodes) [] own = own
own_ended end (suc place) (node ∷ nodes) (href ∷ hrefs) own =
    let parts = and_parts (has_href node.attributes || node.origin == href) (are_own nodes hrefs) own in
    rw (parts.0, own_ended end place nodes hrefs parts.1) refl

-- Trees and their preorders: each tells the other.
use Rattle.std.specs.Prelude.{◌≡◌, ◌+◌, ◌-◌, ◌<◌, ◌≤◌, ℕ, zero, suc, List, [], ◌∷◌, ◌++◌, Some, length, take, drop, slice_get, EachIndex, IsTrue, nat_lt}
use Rattle.std.proofs.Common.{refl, sym, ◌∙◌, ap, subst, arith, length-append}
use Rattle.std.proofs.lemmas.Bool.Decides.{nat_tests}
use Rattle.std.proofs.lemmas.List.{take_at, drop_at, length-take, length-drop}
use Rattle.dita_doc.specs.declared.doc.Node.{Node}
use Rattle.dita_doc.specs.declared.doc.NodeKind.TheVariants as kinds
use Rattle.dita_doc.specs.Tree.{Content, End, Chars, Element, size_of, nodes_of, content_within, content_of, element_node, ArePreorder, are_placed}
use Rattle.dita_doc.specs.declared.doc.Node as doc
use Rattle.dita_doc.proofs.Lists.{each_passes}

-- the number of nodes
pub length_nodes : (c : Content) (place : ℕ) → length (nodes_of c place) ≡ size_of c
length_nodes End place = refl
length_nodes (Chars text origin line rest) place = let more = length_nodes rest (place + 1) in omega arith
length_nodes (Element name attributes origin line inside rest) place =
    let within = length_nodes inside (place + 1) in
    let more = length_nodes rest (place + 1 + size_of inside) in
    omega (arith, length-append (nodes_of inside (place + 1)) (nodes_of rest (place + 1 + size_of inside)))

-- the nodes of a content, in front of others
take_inside : (inside : Content) (place : ℕ) (others : List Node)
    → take ((place + 1 + size_of inside) - (place + 1)) (nodes_of inside (place + 1) ++ others)
    ≡ nodes_of inside (place + 1)
take_inside inside place others = take_at (nodes_of inside (place + 1)) others _
    (omega (arith, length_nodes inside (place + 1)))

-- and what stands behind them
drop_inside : (inside : Content) (place : ℕ) (others : List Node)
    → drop ((place + 1 + size_of inside) - (place + 1)) (nodes_of inside (place + 1) ++ others) ≡ others
drop_inside inside place others = drop_at (nodes_of inside (place + 1)) others _
    (omega (arith, length_nodes inside (place + 1)))

-- any limit that the nodes keep to will do
within_nodes : (n : ℕ) (c : Content) (place : ℕ) → size_of c ≤ n → content_within n (nodes_of c place) place ≡ c
within_nodes zero End place fits = refl
within_nodes (suc n) End place fits = refl
within_nodes zero (Chars text origin line rest) place fits = absurd (omega arith)
within_nodes (suc n) (Chars text origin line rest) place fits =
    ap (Chars text origin line) (within_nodes n rest (place + 1) (omega arith))
within_nodes zero (Element name attributes origin line inside rest) place fits = absurd (omega arith)
within_nodes (suc n) (Element name attributes origin line inside rest) place fits =
    let more = nodes_of rest (place + 1 + size_of inside) in
    rw (
      take_inside inside place more,
      drop_inside inside place more,
      within_nodes n inside (place + 1) (omega arith),
      within_nodes n rest (place + 1 + size_of inside) (omega arith),
    )

-- the content of a preorder is the content
pub content_of_nodes : (c : Content) (place : ℕ) → content_of (nodes_of c place) place ≡ c
content_of_nodes c place = within_nodes (length (nodes_of c place)) c place (omega (arith, length_nodes c place))

-- and so the preorder of any content is one
pub preorder_of_content : (c : Content) (place : ℕ) → ArePreorder (nodes_of c place) place
preorder_of_content c place = ap (λ d. nodes_of d place) (sym (content_of_nodes c place))

-- the nodes behind an element are those of what it holds and of what comes after it
record SplitsAt (node : Node) (more : List Node) (place : ℕ) (inside rest : Content) : Type 0 where
  pub end : node.end ≡ place + 1 + size_of inside
  pub front : take (node.end - (place + 1)) more ≡ nodes_of inside (place + 1)
  pub back : drop (node.end - (place + 1)) more ≡ nodes_of rest node.end
  pub length : length more ≡ size_of inside + size_of rest

-- where the nodes are those of an element, they are split by its end
splits_at : (node : Node) (more : List Node) (place : ℕ) (inside rest : Content)
    → node ∷ more ≡ nodes_of (Element node.text node.attributes node.origin node.line inside rest) place
    → SplitsAt node more place inside rest
splits_at node more place inside rest same =
    let others = nodes_of rest (place + 1 + size_of inside) in
    let first : node ≡ element_node node.text node.attributes node.origin node.line (place + 1 + size_of inside) = cc in
    let end : node.end ≡ place + 1 + size_of inside = ap (λ (n : Node). n.end) first in
    let behind : more ≡ nodes_of inside (place + 1) ++ others = cc in
    record {
      end = end;
      front = rw (end, behind) (take_inside inside place others);
      back = rw (end, behind) (drop_inside inside place others);
      length =
          rw behind (omega (
            arith,
            length-append (nodes_of inside (place + 1)) others,
            length_nodes inside (place + 1),
            length_nodes rest (place + 1 + size_of inside),
          ));
    }

-- what is known where the first of some nodes is an element
pub record BeginsElement (nodes : List Node) (node : Node) (more : List Node) (place : ℕ) : Type 0 where
  pub after : place + 1 ≤ node.end
  pub fits : node.end - (place + 1) ≤ length more
  pub end : node.end ≡ place + 1 + size_of (content_of (take (node.end - (place + 1)) more) (place + 1))
  pub inside : ArePreorder (take (node.end - (place + 1)) more) (place + 1)
  pub rest : ArePreorder (drop (node.end - (place + 1)) more) node.end
  pub all : content_of nodes place ≡ Element node.text node.attributes node.origin node.line
      (content_of (take (node.end - (place + 1)) more) (place + 1))
      (content_of (drop (node.end - (place + 1)) more) node.end)

-- the nodes of a preorder whose first is an element
begins_here : (node : Node) (more : List Node) (place : ℕ) → ArePreorder (node ∷ more) place
    → node.kind ≡ kinds.Element → BeginsElement (node ∷ more) node more place
begins_here node more place tree kind =
    let front = take (node.end - (place + 1)) more in
    let back = drop (node.end - (place + 1)) more in
    let inside = content_within (length more) front (place + 1) in
    let rest = content_within (length more) back node.end in
    let whole : content_of (node ∷ more) place ≡ Element node.text node.attributes node.origin node.line inside rest =
    rw kind refl in
    let splits : SplitsAt node more place inside rest =
    splits_at node more place inside rest (tree ∙ ap (λ (d : Content). nodes_of d place) whole) in
    let within : content_of front (place + 1) ≡ inside = ap (λ (l : List Node). content_of l (place + 1)) splits.front
    ∙ content_of_nodes inside (place + 1) in
    let behind : content_of back node.end ≡ rest = ap (λ (l : List Node). content_of l node.end) splits.back
    ∙ content_of_nodes rest node.end in
    record {
      after = omega arith;
      fits = omega arith;
      end = splits.end ∙ ap (λ (c : Content). place + 1 + size_of c) (sym within);
      inside = splits.front ∙ ap (λ (d : Content). nodes_of d (place + 1)) (sym within);
      rest = splits.back ∙ ap (λ (d : Content). nodes_of d node.end) (sym behind);
      all = rw (within, behind) whole;
    }

-- the same for a list that is told to begin so
pub begins_element : (nodes : List Node) (node : Node) (more : List Node) (place : ℕ) → nodes ≡ node ∷ more
    → ArePreorder nodes place → node.kind ≡ kinds.Element → BeginsElement nodes node more place
begins_element nodes node more place same tree kind =
    let P : List Node → Type 0 = λ l. BeginsElement l node more place in
    subst P (sym same) (begins_here node more place (rw same at tree) kind)

-- Nodes that stand in a list from a place on

pub slice_get-take : (n : ℕ) (nodes : List Node) (k : ℕ) → k < n → slice_get (take n nodes) k ≡ slice_get nodes k
slice_get-take zero nodes k inside = absurd (omega arith)
slice_get-take (suc n) [] k inside = refl
slice_get-take (suc n) (node ∷ nodes) zero inside = refl
slice_get-take (suc n) (node ∷ nodes) (suc k) inside = slice_get-take n nodes k (omega arith)

pub slice_get-drop : (n : ℕ) (nodes : List Node) (k at : ℕ) → at ≡ n + k
    → slice_get (drop n nodes) k ≡ slice_get nodes at
slice_get-drop zero nodes k at is = let same : k ≡ at = omega arith in ap (slice_get nodes) same
slice_get-drop (suc n) nodes k zero is = absurd (omega arith)
slice_get-drop (suc n) [] k (suc at) is = refl
slice_get-drop (suc n) (node ∷ nodes) k (suc at) is = slice_get-drop n nodes k at (omega arith)

abbrev AreAt : List Node → ℕ → List Node → Type 0
AreAt nodes place all = EachIndex nodes (λ k. slice_get nodes k ≡ slice_get all (place + k))

-- the first of them is the one at this place, and the others stand behind it
pub record StandsAt (node : Node) (more : List Node) (place : ℕ) (all : List Node) : Type 0 where
  pub here : slice_get all place ≡ Some node
  pub behind : AreAt more (place + 1) all

stands_here : (node : Node) (more : List Node) (place : ℕ) (all : List Node) → AreAt (node ∷ more) place all
    → StandsAt node more place all
stands_here node more place all within =
    let first : place + 0 ≡ place = omega arith in
    record {
      here = sym (rw first at (within 0 (omega arith)));
      behind = λ k inside. (let next : place + suc k ≡ place + 1 + k = omega arith
          in rw next at (within (suc k) (omega arith)));
    }

pub stands_at : (nodes : List Node) (node : Node) (more : List Node) (place : ℕ) (all : List Node)
    → nodes ≡ node ∷ more → AreAt nodes place all → StandsAt node more place all
stands_at nodes node more place all same within =
    let P : List Node → Type 0 = λ l. AreAt l place all in
    stands_here node more place all (subst P same within)

-- a front of them stands there too
pub front_within : (n : ℕ) (nodes : List Node) (place : ℕ) (all : List Node) → AreAt nodes place all
    → AreAt (take n nodes) place all
front_within n nodes place all within k inside =
    slice_get-take n nodes k (omega (arith, length-take n nodes)) ∙ within k (omega (arith, length-take n nodes))

-- and what comes after it stands behind it
pub back_within : (n end : ℕ) (nodes : List Node) (place : ℕ) (all : List Node) → end ≡ place + n
    → AreAt nodes place all → AreAt (drop n nodes) end all
back_within n end nodes place all is within k inside =
    let same : place + (n + k) ≡ end + k = omega arith in
    slice_get-drop n nodes k (n + k) refl ∙ rw same at (within (n + k) (omega (arith, length-drop n nodes)))

-- and so do all from a place on
pub all_within : (nodes : List Node) (place : ℕ) → AreAt (drop place nodes) place nodes
all_within nodes place k inside = slice_get-drop place nodes k (place + k) refl

-- an origin is a place among the names
pub origin_fits : (count : ℕ) (nodes : List doc.Node) (at : ℕ) (node : doc.Node) → IsTrue (are_placed count nodes)
    → slice_get nodes at ≡ Some node → node.origin < count
origin_fits count nodes at node placed is =
    let passes = each_passes (λ (n : doc.Node). nat_lt n.origin count) nodes at node placed is in
    grind (arith, nat_tests)

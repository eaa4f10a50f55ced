-- What is around a node of a document, by the nodes in front of it.
use Rattle.std.specs.Prelude.{◌≡◌, ◌+◌, ◌-◌, ◌==◌, ◌<◌, ◌≤◌, ◌++◌, ℕ, zero, suc, Bool, true, false, List, [], ◌∷◌, None, drop, get_or, length, min, nat_lt, slice_get, take, if◌then◌else◌}
use Rattle.std.proofs.Common.{refl, sym, ap, subst, ◌∙◌, arith, append_assoc}
use Rattle.std.proofs.lemmas.Bool.{ltb-true}
use Rattle.std.proofs.lemmas.Bool.Decides.{nat_tests}
use Rattle.std.proofs.lemmas.List.{at_drop_more, take_min}
use Rattle.dita_doc.specs.Tree.{Content, End, Chars, Element, chars_node, element_node, nodes_of, size_of, tree_of}
use Rattle.dita_doc.specs.declared.doc.Attribute.{Attribute}
use Rattle.dita_doc.specs.declared.doc.Doc.{Doc}
use Rattle.dita_doc.specs.declared.doc.Node.{Node}
use Rattle.dita_doc.proofs.TreeLaws.{length_nodes}
use Rattle.doc_elements.specs.Walk.{element_of}
use Rattle.map_spec.specs.Written as written
use Rattle.map_spec.specs.Written.{Written, size}
use Rattle.readers.specs.Named.{name_at, under_names, named_tree}
use Rattle.readers.proofs.GivenLaws.{size_named}
use Rattle.conref_targets.specs.Around.{StandsAround, alone_at, around_at, entered, entered_all, nothing_around, within_element}
use Rattle.conref_targets.specs.Parts.{AreSiblingsAt, first_alone, has_first, past, past_text, whole, within}

-- Lists that are cut

take_none : (n : ℕ) → ◌≡◌ {A = List Node} (take n []) []
take_none zero = refl
take_none (suc n) = refl

take_front : (n : ℕ) (xs ys : List Node) → n ≤ length xs → take n (xs ++ ys) ≡ take n xs
take_front zero xs ys inside = refl
take_front (suc n) [] ys inside = absurd (omega arith)
take_front (suc n) (x ∷ xs) ys inside = ap (λ (zs : List Node). x ∷ zs) (take_front n xs ys (omega arith))

take_past : (k n : ℕ) (xs ys : List Node) → k ≡ length xs + n → take k (xs ++ ys) ≡ xs ++ take n ys
take_past k n [] ys is = let same : k ≡ n = omega arith in ap (λ m. take m ys) same
take_past zero n (x ∷ xs) ys is = absurd (omega arith)
take_past (suc k) n (x ∷ xs) ys is = ap (λ (zs : List Node). x ∷ zs) (take_past k n xs ys (omega arith))

-- Nodes that end in front of the place

abbrev by_test : ℕ → List Node → Node → StandsAround → Bool → StandsAround
by_test place nodes node stands test =
    entered_all place nodes (if test then within_element (element_of [] node) stands else stands)

skip : (place from : ℕ) (content : Content) (more : List Node) (stands : StandsAround) → from + size_of content ≤ place
    → entered_all place (nodes_of content from ++ more) stands ≡ entered_all place more stands
skip place from End more stands far = refl
skip place from (Chars text origin line rest) more stands far =
    let ended : nat_lt place (from + 1) ≡ false = grind (arith, nat_tests) in
    ap (by_test place (nodes_of rest (from + 1) ++ more) (chars_node text origin line (from + 1)) stands) ended
    ∙ skip place (from + 1) rest more stands (omega arith)
skip place from (Element name attributes origin line inside rest) more stands far =
    let ended : nat_lt place (from + 1 + size_of inside) ≡ false = grind (arith, nat_tests) in
    let held = nodes_of inside (from + 1) in
    let others = nodes_of rest (from + 1 + size_of inside) in
    ap (by_test place ((held ++ others) ++ more) (element_node name attributes origin line (from + 1 + size_of inside))
    stands) ended
    ∙ ap (λ (ns : List Node). entered_all place ns stands) (append_assoc held others more)
    ∙ skip place (from + 1) inside (others ++ more) stands (omega arith)
    ∙ skip place (from + 1 + size_of inside) rest more stands (omega arith)

-- The element that stands first is in front of the place, or stands it

abbrev by_place : StandsAround → StandsAround → StandsAround → Bool → Bool → StandsAround
by_place stands behind inside here past_it = if here then stands else if past_it then behind else inside

module _ (place from n : ℕ) (name : List ℕ) (attributes : List Attribute) (origin line : ℕ) (inside rest : Content)
    (stands : StandsAround) (names : List (List ℕ)) (at : place ≡ from + suc n) where
  abbrev first : Node
  first = element_node name attributes origin line (from + 1 + size_of inside)

  abbrev all : Content
  all = Element name attributes origin line inside rest

  abbrev held : List Node
  held = nodes_of inside (from + 1)

  abbrev others : List Node
  others = nodes_of rest (from + 1 + size_of inside)

  abbrev later : StandsAround
  later = around_at stands (under_names names rest) (suc n - (1 + size (under_names names inside)))

  abbrev there : StandsAround
  there = around_at (within_element (element_of [] first) stands) (under_names names inside) (suc n - 1)

  not_here : (suc n == 0) ≡ false
  not_here = grind (arith, nat_tests)

  element_behind : size_of inside < suc n
      → entered_all place (take (suc n - (1 + size_of inside)) others) stands
      ≡ around_at stands (under_names names rest) (suc n - (1 + size_of inside))
      → entered_all place (take (suc n) (nodes_of all from)) stands ≡ around_at stands (under_names names all) (suc n)
  element_behind far known =
      let ended : nat_lt place (from + 1 + size_of inside) ≡ false = grind (arith, nat_tests) in
      let size_is = size_named names inside in
      let past_it : nat_lt (size (under_names names inside)) (suc n) ≡ true =
      ap (λ k. nat_lt k (suc n)) size_is ∙ (let t : nat_lt (size_of inside) (suc n) ≡ true = grind (arith, nat_tests) in t) in
      let count : n ≡ length held + (suc n - (1 + size_of inside)) =
      (let many = length_nodes inside (from + 1) in omega (arith, many)) in
      ap (by_test place (take n (held ++ others)) first stands) ended
      ∙ ap (λ (ns : List Node). entered_all place ns stands) (take_past n (suc n - (1 + size_of inside)) held others count)
      ∙ skip place (from + 1) inside (take (suc n - (1 + size_of inside)) others) stands (omega arith)
      ∙ known
      ∙ ap (λ k. around_at stands (under_names names rest) (suc n - (1 + k))) (sym size_is)
      ∙ ap (by_place stands later there false) (sym past_it)
      ∙ ap (λ (b : Bool). by_place stands later there b (nat_lt (size (under_names names inside)) (suc n)))
      (sym not_here)

  element_inside : suc n ≤ size_of inside
      → entered_all place (take n held) (within_element (element_of [] first) stands)
      ≡ around_at (within_element (element_of [] first) stands) (under_names names inside) n
      → entered_all place (take (suc n) (nodes_of all from)) stands ≡ around_at stands (under_names names all) (suc n)
  element_inside near known =
      let ends : nat_lt place (from + 1 + size_of inside) ≡ true = grind (arith, nat_tests) in
      let size_is = size_named names inside in
      let not_past : nat_lt (size (under_names names inside)) (suc n) ≡ false =
      ap (λ k. nat_lt k (suc n)) size_is ∙ (let t : nat_lt (size_of inside) (suc n) ≡ false = grind (arith, nat_tests) in t) in
      let less : n ≡ suc n - 1 = omega arith in
      let many = length_nodes inside (from + 1) in
      ap (by_test place (take n (held ++ others)) first stands) ends
      ∙ ap (λ (ns : List Node). entered_all place ns (within_element (element_of [] first) stands))
      (take_front n held others (omega (arith, many)))
      ∙ known
      ∙ ap (around_at (within_element (element_of [] first) stands) (under_names names inside)) less
      ∙ ap (by_place stands later there false) (sym not_past)
      ∙ ap (λ (b : Bool). by_place stands later there b (nat_lt (size (under_names names inside)) (suc n)))
      (sym not_here)

  element_by : (test : Bool) → nat_lt (size_of inside) (suc n) ≡ test
      → (size_of inside < suc n → entered_all place (take (suc n - (1 + size_of inside)) others) stands
      ≡ around_at stands (under_names names rest) (suc n - (1 + size_of inside)))
      → entered_all place (take n held) (within_element (element_of [] first) stands)
      ≡ around_at (within_element (element_of [] first) stands) (under_names names inside) n
      → entered_all place (take (suc n) (nodes_of all from)) stands ≡ around_at stands (under_names names all) (suc n)
  element_by true is behind known =
      let far : size_of inside < suc n = ltb-true (size_of inside) (suc n) is in element_behind far (behind far)
  element_by false is behind known = element_inside (grind (arith, nat_tests)) known

walk : (place from n : ℕ) (content : Content) (stands : StandsAround) (names : List (List ℕ)) → place ≡ from + n
    → entered_all place (take n (nodes_of content from)) stands ≡ around_at stands (under_names names content) n
walk place from n End stands names at = ap (λ (ns : List Node). entered_all place ns stands) (take_none n)
walk place from zero (Chars text origin line rest) stands names at = refl
walk place from (suc n) (Chars text origin line rest) stands names at =
    let ended : nat_lt place (from + 1) ≡ false = grind (arith, nat_tests) in
    let not_here : (suc n == 0) ≡ false = grind (arith, nat_tests) in
    let less : n ≡ suc n - 1 = omega arith in
    ap (by_test place (take n (nodes_of rest (from + 1))) (chars_node text origin line (from + 1)) stands) ended
    ∙ walk place (from + 1) n rest stands names (omega arith)
    ∙ ap (around_at stands (under_names names rest)) less
    ∙ ap (λ (test : Bool). if test then stands else around_at stands (under_names names rest) (suc n - 1))
    (sym not_here)
walk place from zero (Element name attributes origin line inside rest) stands names at = refl
walk place from (suc n) (Element name attributes origin line inside rest) stands names at =
    element_by place from n name attributes origin line inside rest stands names at
    (nat_lt (size_of inside) (suc n)) refl
    (λ (far : size_of inside < suc n). walk place (from + 1 + size_of inside) (suc n - (1 + size_of inside)) rest stands
    names (omega arith))
    (walk place (from + 1) n inside
    (within_element (element_of [] (element_node name attributes origin line (from + 1 + size_of inside))) stands) names
    (omega arith))

pub take_least : (nodes : List Node) (n k : ℕ) → k ≡ min (length nodes) n → take k nodes ≡ take n nodes
take_least nodes n k is =
    let same : k ≡ min n (length nodes) = omega (arith, is) in ap (λ m. take m nodes) same ∙ take_min n nodes

pub standing_there : (doc : Doc) (place : ℕ)
    → entered_all place (take place doc.nodes) nothing_around ≡ around_at nothing_around (named_tree doc) place
standing_there doc place =
    ap (λ (ns : List Node). entered_all place (take place ns) nothing_around) doc.tree
    ∙ walk place 0 place (tree_of doc.nodes) nothing_around doc.origins (omega arith)

-- one node more in front of the place
pub entered_more : (place : ℕ) (nodes : List Node) (index : ℕ) (node : Node) (stands next : StandsAround)
    → index < length nodes → node ≡ get_or nodes index node → next ≡ entered place node stands
    → entered_all place (drop index nodes) stands ≡ entered_all place (drop (index + 1) nodes) next
entered_more place nodes index node stands next inside is same =
    at_drop_more (λ (ns : List Node). entered_all place ns stands) nodes index node inside
    ∙ ap (λ (first : Node). entered_all place (drop (index + 1) nodes) (entered place first stands)) (sym is)
    ∙ ap (entered_all place (drop (index + 1) nodes)) (sym same)

pub entered_depth : (place : ℕ) (node : Node) (stands : StandsAround)
    → (entered place node stands).depth ≤ stands.depth + 1
entered_depth place node stands = by_case (nat_lt place node.end)
  where
    by_case : (test : Bool)
        → (if test then within_element (element_of [] node) stands else stands).depth ≤ stands.depth + 1
    by_case true = omega arith
    by_case false = omega arith

-- The node at a place

pub record Located (all : Content) (names : List (List ℕ)) (place : ℕ) (alone : Written) : Type 0 where
  pub part : Content
  pub there : AreSiblingsAt all place part
  pub some : has_first part ≡ true
  pub is : first_alone (under_names names part) ≡ alone

moved : (all : Content) (names : List (List ℕ)) (place other : ℕ) (alone same : Written) → place ≡ other
    → alone ≡ same → Located all names place alone → Located all names other same
moved all names place other alone same at is found = record {
  part = found.part;
  there = subst (λ n. AreSiblingsAt all n found.part) at found.there;
  some = found.some;
  is = found.is ∙ is;
}

abbrev alone_by : Written → Written → Written → Bool → Bool → Written
alone_by first behind inside here past_it = if here then first else if past_it then behind else inside

module _ (all : Content) (from n : ℕ) (name : List ℕ) (attributes : List Attribute) (origin line : ℕ)
    (inside rest : Content) (names : List (List ℕ)) where
  abbrev part : Content
  part = Element name attributes origin line inside rest

  abbrev own : Written
  own = first_alone (under_names names part)

  none_here : (suc n == 0) ≡ false
  none_here = grind (arith, nat_tests)

  alone_behind : size_of inside < suc n
      → alone_at (under_names names rest) (suc n - (1 + size_of inside)) ≡ alone_at (under_names names part) (suc n)
  alone_behind far =
      let size_is = size_named names inside in
      let past_it : nat_lt (size (under_names names inside)) (suc n) ≡ true =
      ap (λ k. nat_lt k (suc n)) size_is ∙ (let t : nat_lt (size_of inside) (suc n) ≡ true = grind (arith, nat_tests) in t) in
      let later = alone_at (under_names names rest) (suc n - (1 + size (under_names names inside))) in
      let there = alone_at (under_names names inside) (suc n - 1) in
      ap (λ k. alone_at (under_names names rest) (suc n - (1 + k))) (sym size_is)
      ∙ ap (alone_by own later there false) (sym past_it)
      ∙ ap (λ (b : Bool). alone_by own later there b (nat_lt (size (under_names names inside)) (suc n))) (sym none_here)

  alone_inside : suc n ≤ size_of inside
      → alone_at (under_names names inside) n ≡ alone_at (under_names names part) (suc n)
  alone_inside near =
      let size_is = size_named names inside in
      let not_past : nat_lt (size (under_names names inside)) (suc n) ≡ false =
      ap (λ k. nat_lt k (suc n)) size_is ∙ (let t : nat_lt (size_of inside) (suc n) ≡ false = grind (arith, nat_tests) in t) in
      let later = alone_at (under_names names rest) (suc n - (1 + size (under_names names inside))) in
      let there = alone_at (under_names names inside) (suc n - 1) in
      let less : n ≡ suc n - 1 = omega arith in
      ap (alone_at (under_names names inside)) less
      ∙ ap (alone_by own later there false) (sym not_past)
      ∙ ap (λ (b : Bool). alone_by own later there b (nat_lt (size (under_names names inside)) (suc n))) (sym none_here)

  located_by : (test : Bool) → nat_lt (size_of inside) (suc n) ≡ test
      → (size_of inside < suc n → Located all names (from + 1 + size_of inside + (suc n - (1 + size_of inside)))
      (alone_at (under_names names rest) (suc n - (1 + size_of inside))))
      → (suc n ≤ size_of inside → Located all names (from + 1 + n) (alone_at (under_names names inside) n))
      → Located all names (from + suc n) (alone_at (under_names names part) (suc n))
  located_by true is behind near =
      let far : size_of inside < suc n = ltb-true (size_of inside) (suc n) is in
      moved all names (from + 1 + size_of inside + (suc n - (1 + size_of inside))) (from + suc n)
      (alone_at (under_names names rest) (suc n - (1 + size_of inside))) (alone_at (under_names names part) (suc n))
      (omega arith)
      (alone_behind far) (behind far)
  located_by false is behind near =
      let close : suc n ≤ size_of inside = grind (arith, nat_tests) in
      moved all names (from + 1 + n) (from + suc n) (alone_at (under_names names inside) n)
      (alone_at (under_names names part) (suc n)) (omega arith) (alone_inside close) (near close)

locate : (all content : Content) (names : List (List ℕ)) (from n : ℕ) → AreSiblingsAt all from content
    → n < size_of content
    → Located all names (from + n) (alone_at (under_names names content) n)
locate all End names from n there inside = absurd (omega arith)
locate all (Chars text origin line rest) names from zero there inside = record {
  part = Chars text origin line rest;
  there = (let e : from ≡ from + 0 = omega arith in subst
      (λ k. AreSiblingsAt all k (Chars text origin line rest)) e there);
  some = refl;
  is = refl;
}
locate all (Chars text origin line rest) names from (suc n) there inside =
    let not_here : (suc n == 0) ≡ false = grind (arith, nat_tests) in
    let less : n ≡ suc n - 1 = omega arith in
    moved all names (from + 1 + n) (from + suc n) (alone_at (under_names names rest) n)
    (alone_at (under_names names (Chars text origin line rest)) (suc n)) (omega arith)
    (ap (alone_at (under_names names rest)) less
    ∙ ap (λ (test : Bool). if test then written.Chars text (name_at names origin) written.End
    else alone_at (under_names names rest) (suc n - 1)) (sym not_here))
    (locate all rest names (from + 1) n (past_text there) (omega arith))
locate all (Element name attributes origin line inside rest) names from zero there near = record {
  part = Element name attributes origin line inside rest;
  there = (let e : from ≡ from + 0 = omega arith in
      subst (λ k. AreSiblingsAt all k (Element name attributes origin line inside rest)) e there);
  some = refl;
  is = refl;
}
locate all (Element name attributes origin line inside rest) names from (suc n) there near =
    located_by all from n name attributes origin line inside rest names (nat_lt (size_of inside) (suc n)) refl
    (λ (far : size_of inside < suc n). locate all rest names (from + 1 + size_of inside) (suc n - (1 + size_of inside))
    (past there) (omega arith))
    (λ (close : suc n ≤ size_of inside). locate all inside names (from + 1) n (within there) (omega arith))

pub located : (doc : Doc) (place : ℕ) → place < size_of (tree_of doc.nodes)
    → Located (tree_of doc.nodes) doc.origins place (alone_at (named_tree doc) place)
located doc place inside =
    let e : 0 + place ≡ place = omega arith in
    subst (λ n. Located (tree_of doc.nodes) doc.origins n (alone_at (named_tree doc) place)) e
    (locate (tree_of doc.nodes) (tree_of doc.nodes) doc.origins 0 place whole inside)

-- there is none behind the last

beyond : (content : Content) (names : List (List ℕ)) (n : ℕ) → size_of content ≤ n
    → written.End ≡ alone_at (under_names names content) n
beyond End names n far = refl
beyond (Chars text origin line rest) names zero far = absurd (omega arith)
beyond (Chars text origin line rest) names (suc n) far =
    let not_here : (suc n == 0) ≡ false = grind (arith, nat_tests) in
    let less : n ≡ suc n - 1 = omega arith in
    beyond rest names n (omega arith) ∙ ap (alone_at (under_names names rest)) less
    ∙ ap (λ (test : Bool). if test then written.Chars text (name_at names origin) written.End
    else alone_at (under_names names rest) (suc n - 1)) (sym not_here)
beyond (Element name attributes origin line inside rest) names zero far = absurd (omega arith)
beyond (Element name attributes origin line inside rest) names (suc n) far =
    beyond rest names (suc n - (1 + size_of inside)) (omega arith)
    ∙ alone_behind End 0 n name attributes origin line inside rest names (omega arith)

pub none_beyond : (doc : Doc) (place : ℕ) → size_of (tree_of doc.nodes) ≤ place
    → written.End ≡ alone_at (named_tree doc) place
none_beyond doc place far = beyond (tree_of doc.nodes) doc.origins place far

get_beyond : (nodes : List Node) (n : ℕ) → length nodes ≤ n → slice_get nodes n ≡ None
get_beyond [] zero far = refl
get_beyond [] (suc n) far = refl
get_beyond (node ∷ nodes) zero far = absurd (omega arith)
get_beyond (node ∷ nodes) (suc n) far = get_beyond nodes n (omega arith)

pub no_node : (doc : Doc) (place : ℕ) → size_of (tree_of doc.nodes) ≤ place → slice_get doc.nodes place ≡ None
no_node doc place far =
    let count = ap length doc.tree ∙ length_nodes (tree_of doc.nodes) 0 in
    get_beyond doc.nodes place (omega (arith, count))

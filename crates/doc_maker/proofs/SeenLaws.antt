-- Documents in the making as content with a hole.
use Rattle.std.specs.Prelude.{◌≡◌, ◌+◌, ◌<◌, ◌≤◌, ℕ, true, List, [], ◌∷◌, ◌++◌, length, take, drop, nat_lt}
use Rattle.std.proofs.Common.{refl, sym, ◌∙◌, ap, ap₂, subst, arith, append_assoc, length-append}
use Rattle.std.proofs.lemmas.Bool.{and_parts, ltb-true}
use Rattle.dita_doc.specs.Siblings.{content_behind}
use Rattle.dita_doc.specs.Tree as tree
use Rattle.dita_doc.specs.Tree.{Content, size_of, nodes_of, content_of, is_element, ArePreorder, are_placed, are_places}
use Rattle.dita_doc.specs.declared.doc.Node as doc
use Rattle.map_spec.specs.Written.{Element, Written, End, Chars, Node, side_by_side, size}
use Rattle.readers.specs.Named.{name_at, under_names}
use Rattle.doc_maker.specs.Building.{Building, Top, Within, behind, closed, count, depth, own_hrefs}
use Rattle.doc_maker.specs.Made.{AreOpen, building_of, element_of, first_element, href_home, with_end, written_from}
use Rattle.doc_maker.proofs.MadeLaws.{content_more, element_from, end_of_preorder, nodes_ended, parts_at, placed_parts, preorder_count, split_at}

-- The content of one node behind another

written_joined : (names : List (List ℕ)) (hrefs : List ℕ) (c more : Content) (place : ℕ)
    → written_from names hrefs place (content_behind c more)
    ≡ side_by_side (written_from names hrefs place c) (written_from names hrefs (place + size_of c) more)
written_joined names hrefs tree.End more place =
    let same : place ≡ place + 0 = omega arith in ap (λ n. written_from names hrefs n more) same
written_joined names hrefs (tree.Chars text origin line rest) more place =
    let there : place + 1 + size_of rest ≡ place + (1 + size_of rest) = omega arith in
    ap (Chars text (name_at names origin)) (written_joined names hrefs rest more (place + 1)
    ∙ ap (λ n. side_by_side (written_from names hrefs (place + 1) rest) (written_from names hrefs n more)) there)
written_joined names hrefs (tree.Element name attributes origin line inside rest) more place =
    let end = place + 1 + size_of inside in
    let there : end + size_of rest ≡ place + (1 + (size_of inside + size_of rest)) = omega arith in
    let element : Element = record {
      name = name;
      attributes = attributes;
      doc = name_at names origin;
      line = line;
      href_doc = href_home names hrefs place;
    } in
    ap (Node element (written_from names hrefs (place + 1) inside)) (written_joined names hrefs rest more end
    ∙ ap (λ n. side_by_side (written_from names hrefs end rest) (written_from names hrefs n more)) there)

written_more : (names : List (List ℕ)) (hrefs : List ℕ) (c : Content) (nodes : List doc.Node) (place end : ℕ)
    → end ≡ place + length nodes → ArePreorder nodes place
    → written_from names hrefs place (content_of (nodes ++ nodes_of c end) place)
    ≡ side_by_side (written_from names hrefs place (content_of nodes place)) (written_from names hrefs end c)
written_more names hrefs c nodes place end is tree =
    let d = content_of nodes place in
    ap (written_from names hrefs place) (content_more c nodes place end is tree)
    ∙ written_joined names hrefs d c place
    ∙ ap (λ n. side_by_side (written_from names hrefs place d) (written_from names hrefs n c))
    (sym (end_of_preorder nodes place end is tree))

-- nodes, an element behind them, and what it holds so far
building_with : (names : List (List ℕ)) (hrefs : List ℕ) (before : List doc.Node) (node : doc.Node)
    (inside : List doc.Node) (place : ℕ) (outer : List ℕ) → length before ≡ place
    → building_of names hrefs (before ++ node ∷ inside) (place ∷ outer)
    ≡ Within (building_of names hrefs before outer) (element_of names hrefs place node)
    (written_from names hrefs (place + 1) (content_of inside (place + 1)))
building_with names hrefs before node inside place outer at =
    let split = split_at before node inside place at in
    let whole = before ++ node ∷ inside in
    ap (λ ns. Within (building_of names hrefs ns outer) (first_element names hrefs place (drop place whole))
    (written_from names hrefs (place + 1) (content_of (drop (place + 1) whole) (place + 1)))) split.front
    ∙ ap (λ ns. Within (building_of names hrefs before outer) (first_element names hrefs place ns)
    (written_from names hrefs (place + 1) (content_of (drop (place + 1) whole) (place + 1)))) split.here
    ∙ ap (λ ns. Within (building_of names hrefs before outer) (element_of names hrefs place node)
    (written_from names hrefs (place + 1) (content_of ns (place + 1)))) split.back

-- the same for nodes among which an element is stand
building_parts : (names : List (List ℕ)) (hrefs : List ℕ) (nodes : List doc.Node) (place : ℕ) (outer : List ℕ)
    → (stand : AreOpen nodes (place ∷ outer)) → building_of names hrefs nodes (place ∷ outer)
    ≡ Within (building_of names hrefs (take place nodes) outer)
    (element_of names hrefs place (parts_at nodes place stand.0).node)
    (written_from names hrefs (place + 1) (content_of (drop (place + 1) nodes) (place + 1)))
building_parts names hrefs nodes place outer stand =
    let parts = parts_at nodes place stand.0 in
    ap (λ ns. building_of names hrefs ns (place ∷ outer)) parts.whole
    ∙ building_with names hrefs (take place nodes) parts.node (drop (place + 1) nodes) place outer parts.count

-- any content is put behind what stands in front of the hole
pub building_more : (names : List (List ℕ)) (hrefs : List ℕ) (c : Content) (nodes : List doc.Node) (opened : List ℕ)
    (end : ℕ) → end ≡ length nodes → AreOpen nodes opened
    → building_of names hrefs (nodes ++ nodes_of c end) opened
    ≡ behind (building_of names hrefs nodes opened) (written_from names hrefs end c)
building_more names hrefs c nodes [] end is stand =
    ap Top (written_more names hrefs c nodes 0 end (omega (arith, is)) stand)
building_more names hrefs c nodes (place ∷ outer) end is stand =
    let parts = parts_at nodes place stand.0 in
    let before = take place nodes in
    let inside = drop (place + 1) nodes in
    let there : end ≡ place + 1 + length inside = omega (
      arith,
      is,
      ap length parts.whole,
      length-append before (parts.node ∷ inside),
      parts.count,
    ) in
    let all : nodes ++ nodes_of c end ≡ before ++ parts.node ∷ (inside ++ nodes_of c end) =
    ap (λ ns. ns ++ nodes_of c end) parts.whole ∙ append_assoc before (parts.node ∷ inside) (nodes_of c end) in
    ap (λ ns. building_of names hrefs ns (place ∷ outer)) all
    ∙ building_with names hrefs before parts.node (inside ++ nodes_of c end) place outer parts.count
    ∙ ap (Within (building_of names hrefs before outer) (element_of names hrefs place parts.node))
    (written_more names hrefs c inside (place + 1) end there stand.1)
    ∙ sym (ap (λ (b : Building). behind b (written_from names hrefs end c))
    (building_parts names hrefs nodes place outer stand))

-- an element is opened, which holds nothing yet
pub building_opened : (names : List (List ℕ)) (hrefs : List ℕ) (node : doc.Node) (nodes : List doc.Node)
    (opened : List ℕ) (place : ℕ) → place ≡ length nodes → building_of names hrefs (nodes ++ node ∷ []) (place ∷ opened)
    ≡ Within (building_of names hrefs nodes opened) (element_of names hrefs place node) End
building_opened names hrefs node nodes opened place is =
    building_with names hrefs nodes node [] place opened (sym is)

-- the innermost element is closed
pub building_closed : (names : List (List ℕ)) (hrefs : List ℕ) (nodes : List doc.Node) (place : ℕ) (outer : List ℕ)
    → AreOpen nodes (place ∷ outer) → building_of names hrefs (with_end place nodes) outer
    ≡ closed (building_of names hrefs nodes (place ∷ outer))
building_closed names hrefs nodes place outer stand =
    let parts = parts_at nodes place stand.0 in
    let all = nodes_ended nodes place outer stand in
    ap (λ ns. building_of names hrefs ns outer) (sym all)
    ∙ building_more names hrefs (element_from parts.node (drop (place + 1) nodes) place) (take place nodes) outer place
    (sym parts.count) stand.2
    ∙ sym (ap closed (building_parts names hrefs nodes place outer stand))

-- Counts

written_size : (names : List (List ℕ)) (hrefs : List ℕ) (c : Content) (place : ℕ)
    → size (written_from names hrefs place c) ≡ size_of c
written_size names hrefs tree.End place = refl
written_size names hrefs (tree.Chars text origin line rest) place =
    ap (λ n. 1 + n) (written_size names hrefs rest (place + 1))
written_size names hrefs (tree.Element name attributes origin line inside rest) place =
    ap₂ (λ a b. 1 + (a + b)) (written_size names hrefs inside (place + 1))
    (written_size names hrefs rest (place + 1 + size_of inside))

pub building_count : (names : List (List ℕ)) (hrefs : List ℕ) (nodes : List doc.Node) (opened : List ℕ)
    → AreOpen nodes opened → count (building_of names hrefs nodes opened) ≡ length nodes
building_count names hrefs nodes [] stand =
    written_size names hrefs (content_of nodes 0) 0 ∙ sym (preorder_count nodes 0 stand)
building_count names hrefs nodes (place ∷ outer) stand =
    let parts = parts_at nodes place stand.0 in
    let inside = drop (place + 1) nodes in
    omega (
      arith,
      building_count names hrefs (take place nodes) outer stand.2,
      written_size names hrefs (content_of inside (place + 1)) (place + 1),
      preorder_count inside (place + 1) stand.1,
      ap length parts.whole,
      length-append (take place nodes) (parts.node ∷ inside),
      parts.count,
    )

pub building_depth : (names : List (List ℕ)) (hrefs : List ℕ) (nodes : List doc.Node) (opened : List ℕ)
    → depth (building_of names hrefs nodes opened) ≡ length opened
building_depth names hrefs nodes [] = refl
building_depth names hrefs nodes (place ∷ outer) = omega (arith, building_depth names hrefs (take place nodes) outer)

-- Nothing is stand

pub top_preorder : (names : List (List ℕ)) (hrefs : List ℕ) (nodes : List doc.Node) (opened : List ℕ) (w : Written)
    → AreOpen nodes opened → building_of names hrefs nodes opened ≡ Top w → ArePreorder nodes 0
top_preorder names hrefs nodes [] w stand is = stand
top_preorder names hrefs nodes (place ∷ outer) w stand is = absurd cc

pub top_written : (names : List (List ℕ)) (hrefs : List ℕ) (nodes : List doc.Node) (opened : List ℕ) (w : Written)
    → building_of names hrefs nodes opened ≡ Top w → written_from names hrefs 0 (content_of nodes 0) ≡ w
top_written names hrefs nodes [] w is = cc
top_written names hrefs nodes (place ∷ outer) w is = absurd cc

-- with each href where its element was written
pub named_own : (names : List (List ℕ)) (hrefs : List ℕ) (c : Content) (place : ℕ)
    → under_names names c ≡ own_hrefs (written_from names hrefs place c)
named_own names hrefs tree.End place = refl
named_own names hrefs (tree.Chars text origin line rest) place =
    ap (Chars text (name_at names origin)) (named_own names hrefs rest (place + 1))
named_own names hrefs (tree.Element name attributes origin line inside rest) place =
    let home = name_at names origin in
    ap₂ (Node (record { name = name; attributes = attributes; doc = home; line = line; href_doc = home }))
    (named_own names hrefs inside (place + 1)) (named_own names hrefs rest (place + 1 + size_of inside))

-- More names, and more hrefs

-- so many origins, and the hrefs of so many nodes, have the same names as before
pub record AreAlike (names longer : List (List ℕ)) (hrefs all : List ℕ) (among nodes : ℕ) : Type 0 where
  pub docs : (origin : ℕ) → origin < among → name_at longer origin ≡ name_at names origin
  pub homes : (place : ℕ) → place < nodes → href_home longer all place ≡ href_home names hrefs place

module _ (names longer : List (List ℕ)) (hrefs all : List ℕ) (among limit : ℕ)
    (alike : AreAlike names longer hrefs all among limit) where
  written_alike : (c : Content) (place : ℕ) → are_placed among (nodes_of c place) ≡ true → place + size_of c ≤ limit
      → written_from longer all place c ≡ written_from names hrefs place c
  written_alike tree.End place placed within = refl
  written_alike (tree.Chars text origin line rest) place placed within =
      let parts = and_parts (nat_lt origin among) (are_placed among (nodes_of rest (place + 1))) placed in
      ap₂ (Chars text) (alike.docs origin (ltb-true origin among parts.0))
      (written_alike rest (place + 1) parts.1 (omega arith))
  written_alike (tree.Element name attributes origin line inside rest) place placed within =
      let end = place + 1 + size_of inside in
      let behind = nodes_of inside (place + 1) ++ nodes_of rest end in
      let parts = and_parts (nat_lt origin among) (are_placed among behind) placed in
      let more = placed_parts among (nodes_of inside (place + 1)) (nodes_of rest end) parts.1 in
      rw (
        alike.docs origin (ltb-true origin among parts.0),
        alike.homes place (omega arith),
        written_alike inside (place + 1) more.0 (omega arith),
        written_alike rest end more.1 (omega arith),
      ) refl

  preorder_alike : (nodes : List doc.Node) (place : ℕ) → ArePreorder nodes place → are_placed among nodes ≡ true
      → place + length nodes ≤ limit → written_from longer all place (content_of nodes place)
      ≡ written_from names hrefs place (content_of nodes place)
  preorder_alike nodes place tree placed within =
      written_alike (content_of nodes place) place (subst (λ ns. are_placed among ns ≡ true) tree placed)
      (omega (arith, within, preorder_count nodes place tree))

  pub building_alike : (nodes : List doc.Node) (opened : List ℕ) → AreOpen nodes opened
      → are_placed among nodes ≡ true → length nodes ≤ limit
      → building_of longer all nodes opened ≡ building_of names hrefs nodes opened
  building_alike nodes [] stand placed within = ap Top (preorder_alike nodes 0 stand placed (omega (arith, within)))
  building_alike nodes (place ∷ outer) stand placed within =
      let parts = parts_at nodes place stand.0 in
      let before = take place nodes in
      let inside = drop (place + 1) nodes in
      let node = parts.node in
      let split = placed_parts among before (node ∷ inside)
      (subst (λ ns. are_placed among ns ≡ true) parts.whole placed) in
      let two = and_parts (nat_lt node.origin among) (are_placed among inside) split.1 in
      let total : length nodes ≡ place + 1 + length inside = omega (
        arith,
        ap length parts.whole,
        length-append before (node ∷ inside),
        parts.count,
      ) in
      let outside = building_alike before outer stand.2 split.0 (omega (arith, total, within, parts.count)) in
      let element : element_of longer all place node ≡ element_of names hrefs place node = rw (
        alike.docs node.origin (ltb-true node.origin among two.0),
        alike.homes place (omega (arith, total, within)),
      ) refl in
      building_parts longer all nodes place outer stand
      ∙ ap (λ (b : Building). Within b (element_of longer all place node)
      (written_from longer all (place + 1) (content_of inside (place + 1)))) outside
      ∙ ap₂ (Within (building_of names hrefs before outer)) element
      (preorder_alike inside (place + 1) stand.1 two.1 (omega (arith, total, within)))
      ∙ sym (building_parts names hrefs nodes place outer stand)

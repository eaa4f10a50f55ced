-- The children of each node in a tree, and the texts of all nodes of a tree by those of their children.
use Rattle.std.specs.Prelude.{◌≡◌, ◌≢◌, ◌+◌, ◌<◌, ◌≤◌, ◌==◌, ◌&&◌, ℕ, zero, suc, Bool, true, false, not, List, [], ◌∷◌, ◌++◌, length, if◌then◌else◌}
use Rattle.std.specs.List.{flat_map}
use Rattle.std.proofs.Common.{refl, sym, ap, ◌∙◌, arith, append_assoc, append-nil, length-append}
use Rattle.std.proofs.Math.Logic.{◌⊎◌, inl, inr, ⊎_elim}
use Rattle.std.proofs.lemmas.Bool.Decides.{nat_tests}
use Rattle.dita_doc.proofs.Tests.{nothing_more, place_next}
use Rattle.map_spec.specs.MapTree.{MapTree, MapNode, NoNodes, Head, count}
use Rattle.toc_page.proofs.TreeTexts.{Shape, shapes, tree_text}

-- the places of nodes with this parent, but for the first of all
abbrev pub kids : ℕ → ℕ → List Shape → List ℕ
kids parent at [] = []
kids parent at (shape ∷ nodes) =
    if not (at == 0) && (shape.0 == parent) then at ∷ kids parent (at + 1) nodes else kids parent (at + 1) nodes

-- the places of nodes side by side
abbrev pub tops : ℕ → MapTree → List ℕ
tops place NoNodes = []
tops place (MapNode head below more) = place ∷ tops (place + 1 + count below) more

kids_both : (parent at : ℕ) (nodes more : List Shape)
    → kids parent at (nodes ++ more) ≡ kids parent at nodes ++ kids parent (at + length nodes) more
kids_both parent at [] more = ap (λ n. kids parent n more) (sym (nothing_more at))
kids_both parent at (shape ∷ nodes) more =
    by_test (kids_both parent (at + 1) nodes more
    ∙ ap (λ n. kids parent (at + 1) nodes ++ kids parent n more) (sym (place_next at (length nodes))))
    (not (at == 0) && (shape.0 == parent))
  where
    by_test : kids parent (at + 1) (nodes ++ more) ≡ kids parent (at + 1) nodes ++ kids parent (at + suc (length nodes)) more
        → (b : Bool)
        → (if b then at ∷ kids parent (at + 1) (nodes ++ more) else kids parent (at + 1) (nodes ++ more))
        ≡ (if b then at ∷ kids parent (at + 1) nodes else kids parent (at + 1) nodes)
        ++ kids parent (at + suc (length nodes)) more
    by_test behind true = ap (λ l. at ∷ l) behind
    by_test behind false = behind

kids_of_three : (parent at : ℕ) (one two three : List Shape) → kids parent at ((one ++ two) ++ three)
    ≡ kids parent at one ++ (kids parent (at + length one) two ++ kids parent (at + length one + length two) three)
kids_of_three parent at one two three =
    ap (kids parent at) (append_assoc one two three)
    ∙ kids_both parent at one (two ++ three)
    ∙ ap (λ l. kids parent at one ++ l) (kids_both parent (at + length one) two three)

by_zero : (b : Bool) (one two : List ℕ) → (if b && false then one else two) ≡ two
by_zero true one two = refl
by_zero false one two = refl

passed : (parent at : ℕ) (shape : Shape) (nodes : List Shape) → shape.0 ≢ parent
    → kids parent at (shape ∷ nodes) ≡ kids parent (at + 1) nodes
passed parent at shape nodes other = by_parent (shape.0 == parent) (grind (arith, nat_tests))
  where
    by_parent : (b : Bool) → b ≡ false
        → (if not (at == 0) && b then at ∷ kids parent (at + 1) nodes else kids parent (at + 1) nodes)
        ≡ kids parent (at + 1) nodes
    by_parent b is = ap (λ b. if not (at == 0) && b then at ∷ kids parent (at + 1) nodes else kids parent (at + 1) nodes) is
        ∙ by_zero (not (at == 0)) (at ∷ kids parent (at + 1) nodes) (kids parent (at + 1) nodes)

taken : (at parent end : ℕ) (nodes : List Shape) → parent < at
    → kids parent at ((parent, end) ∷ nodes) ≡ at ∷ kids parent (at + 1) nodes
taken at parent end nodes less =
    let some : not (at == 0) ≡ true = grind (arith, nat_tests) in
    let same : (parent == parent) ≡ true = grind (arith, nat_tests) in
    (λ i. if some i && same i then at ∷ kids parent (at + 1) nodes else kids parent (at + 1) nodes)

pub long_shapes : (tree : MapTree) (parent place : ℕ) → length (shapes parent place tree) ≡ count tree
long_shapes NoNodes parent place = refl
long_shapes (MapNode head below more) parent place =
    let inner = shapes place (place + 1) below in
    let outer = shapes parent (place + 1 + count below) more in
    let both : length (inner ++ outer) ≡ length inner + length outer = length-append inner outer in
    let one : length inner ≡ count below = long_shapes below place (place + 1) in
    let two : length outer ≡ count more = long_shapes more parent (place + 1 + count below) in
    omega (arith, both, one, two)

-- the children in two trees, one behind the other
kids_of_two : (place parent first child : ℕ) (below more : MapTree)
    → kids child (place + 1) (shapes first (place + 1) below ++ shapes parent (place + 1 + count below) more)
    ≡ kids child (place + 1) (shapes first (place + 1) below)
    ++ kids child (place + 1 + count below) (shapes parent (place + 1 + count below) more)
kids_of_two place parent first child below more =
    kids_both child (place + 1) (shapes first (place + 1) below) (shapes parent (place + 1 + count below) more)
    ∙ ap (λ n. kids child (place + 1) (shapes first (place + 1) below)
    ++ kids child (place + 1 + n) (shapes parent (place + 1 + count below) more)) (long_shapes below first (place + 1))

-- outside of where a tree stands, no place but that of its parent has children in it
pub no_kids : (tree : MapTree) (parent place outside : ℕ) → outside ≢ parent
    → (outside < place) ⊎ (place + count tree ≤ outside) → kids outside place (shapes parent place tree) ≡ []
no_kids NoNodes parent place outside other apart = refl
no_kids (MapNode head below more) parent place outside other apart =
    let end = place + 1 + count below in
    passed outside place (parent, end) (shapes place (place + 1) below ++ shapes parent end more) (λ e. other (sym e))
    ∙ kids_of_two place parent place outside below more
    ∙ (λ i. no_kids below place (place + 1) outside
    (⊎_elim (λ (e : outside < place). λ (is : outside ≡ place). omega (arith, e, is))
    (λ (e : place + (1 + (count below + count more)) ≤ outside). λ (is : outside ≡ place). omega (arith, e, is)) apart)
    (⊎_elim (λ (e : outside < place). inl (omega (arith, e)))
    (λ (e : place + (1 + (count below + count more)) ≤ outside). inr (omega (arith, e))) apart) i
    ++ no_kids more parent end outside other
    (⊎_elim (λ (e : outside < place). inl (omega (arith, e)))
    (λ (e : place + (1 + (count below + count more)) ≤ outside). inr (omega (arith, e))) apart) i)

pub own_tops : (tree : MapTree) (parent place : ℕ) → parent < place
    → kids parent place (shapes parent place tree) ≡ tops place tree
own_tops NoNodes parent place less = refl
own_tops (MapNode head below more) parent place less =
    let end = place + 1 + count below in
    taken place parent end (shapes place (place + 1) below ++ shapes parent end more) less
    ∙ ap (λ l. place ∷ l) (kids_of_two place parent place parent below more
    ∙ (λ i. no_kids below place (place + 1) parent (λ is. omega (arith, is, less)) (inl (omega (arith, less))) i
    ++ own_tops more parent end (omega (arith, less)) i))

-- Texts of all nodes of a tree

module _ (text : ℕ → List ℕ → List ℕ) where
  module _ (all : List Shape) where
    abbrev pub text_below : ℕ → ℕ → List ℕ
    text_below zero parent = []
    text_below (suc steps) parent = flat_map (λ at. text at (text_below steps at)) (kids parent 0 all)

    -- a tree stands among all nodes, and what stands beside it is below none of these places
    pub record StandsIn (from parent place : ℕ) (tree : MapTree) : Type 0 where
      pub before : List Shape
      pub after : List Shape
      pub is : all ≡ before ++ (shapes parent place tree ++ after)
      pub long : length before ≡ place
      pub less : parent < place
      pub none_before : (at : ℕ) → from ≤ at → at < place + count tree → kids at 0 before ≡ []
      pub none_after : (at : ℕ) → from ≤ at → at < place + count tree → kids at (place + count tree) after ≡ []

    module _ (from parent place : ℕ) (head : Head) (below more : MapTree) (early : from ≤ place)
        (stands : StandsIn from parent place (MapNode head below more)) where
      abbrev end : ℕ
      end = place + 1 + count below

      abbrev inner : List Shape
      inner = shapes place (place + 1) below

      abbrev outer : List Shape
      outer = shapes parent end more

      same_end : end + count more ≡ place + count (MapNode head below more)
      same_end = omega arith

      long_outer : end + length outer ≡ place + count (MapNode head below more)
      long_outer = ap (λ n. end + n) (long_shapes more parent end) ∙ same_end

      fits : (at : ℕ) → at < end + count more → at < place + count (MapNode head below more)
      fits at within = omega (arith, within)

      inside : (at : ℕ) → at < place + 1 + count below → at < place + count (MapNode head below more)
      inside at within = omega (arith, within)

      at_before : (at : ℕ) → kids at 0 stands.before ≡ [] → at ≢ parent → (nodes : List Shape)
          → kids at 0 (stands.before ++ (parent, end) ∷ nodes) ≡ kids at (place + 1) nodes
      at_before at none other nodes =
          let zeroth : 0 + length stands.before ≡ place = let long = stands.long in omega (arith, long) in
          kids_both at 0 stands.before ((parent, end) ∷ nodes)
          ∙ (λ i. none i ++ kids at (zeroth i) ((parent, end) ∷ nodes))
          ∙ passed at place (parent, end) nodes (λ e. other (sym e))

      not_parent : (at : ℕ) → place ≤ at → at ≢ parent
      not_parent at behind is = let less = stands.less in omega (arith, behind, is, less)

      before_below : (at : ℕ) → place ≤ at → at < place + 1 + count below
          → kids at 0 (stands.before ++ (parent, end) ∷ []) ≡ []
      before_below at behind within =
          at_before at (stands.none_before at (omega (arith, behind, early)) (inside at within)) (not_parent at behind) []

      after_below : (at : ℕ) → place ≤ at → at < place + 1 + count below → kids at end (outer ++ stands.after) ≡ []
      after_below at behind within =
          kids_both at end outer stands.after
          ∙ (λ i. no_kids more parent end at (not_parent at behind) (inl within) i ++ kids at (long_outer i) stands.after)
          ∙ stands.none_after at (omega (arith, behind, early)) (inside at within)

      stands_below : StandsIn place place (place + 1) below
      stands_below = record {
        before = stands.before ++ (parent, end) ∷ [];
        after = outer ++ stands.after;
        is = stands.is
            ∙ ap (λ l. stands.before ++ ((parent, end) ∷ l)) (append_assoc inner outer stands.after)
            ∙ sym (append_assoc stands.before ((parent, end) ∷ []) (inner ++ (outer ++ stands.after)));
        long = length-append stands.before ((parent, end) ∷ []) ∙ ap (λ n. n + 1) stands.long;
        less = omega arith;
        none_before = before_below;
        none_after = after_below;
      }

      before_beside : (at : ℕ) → end ≤ at → at < end + count more → kids at 0 (stands.before ++ (parent, end) ∷ inner) ≡ []
      before_beside at behind within =
          at_before at (stands.none_before at (omega (arith, behind, early)) (fits at within))
          (not_parent at (omega (arith, behind))) inner
          ∙ no_kids below place (place + 1) at (λ is. omega (arith, behind, is)) (inr behind)

      after_beside : (at : ℕ) → end ≤ at → at < end + count more → kids at (end + count more) stands.after ≡ []
      after_beside at behind within =
          ap (λ n. kids at n stands.after) same_end
          ∙ stands.none_after at (omega (arith, behind, early)) (fits at within)

      long_beside : length (stands.before ++ (parent, end) ∷ inner) ≡ end
      long_beside =
          let both = length-append stands.before ((parent, end) ∷ inner) in
          let long = stands.long in
          let inner_long = long_shapes below place (place + 1) in
          omega (arith, both, long, inner_long)

      stands_beside : StandsIn end parent end more
      stands_beside = record {
        before = stands.before ++ (parent, end) ∷ inner;
        after = stands.after;
        is = stands.is
            ∙ ap (λ l. stands.before ++ ((parent, end) ∷ l)) (append_assoc inner outer stands.after)
            ∙ sym (append_assoc stands.before ((parent, end) ∷ inner) (outer ++ stands.after));
        long = long_beside;
        less = let less = stands.less in omega (arith, less);
        none_before = before_beside;
        none_after = after_beside;
      }

    -- the children of a node stand side by side
    kids_here : (parent place : ℕ) (tree : MapTree) → StandsIn parent parent place tree
        → kids parent 0 all ≡ tops place tree
    kids_here parent place tree stands =
        let zeroth : 0 + length stands.before ≡ place = let long = stands.long in omega (arith, long) in
        let less = stands.less in
        let nodes = shapes parent place tree in
        ap (kids parent 0) stands.is
        ∙ kids_both parent 0 stands.before (nodes ++ stands.after)
        ∙ (λ i. stands.none_before parent (omega arith) (omega (arith, less)) i ++ kids parent (zeroth i) (nodes ++ stands.after))
        ∙ kids_both parent place nodes stands.after
        ∙ (λ i. own_tops tree parent place stands.less i ++ kids parent (place + long_shapes tree parent place i) stands.after)
        ∙ ap (λ l. tops place tree ++ l) (stands.none_after parent (omega arith) (omega (arith, less)))
        ∙ append-nil (tops place tree)

    trees_text : (tree : MapTree) (from parent place steps : ℕ) → from ≤ place → StandsIn from parent place tree
        → count tree ≤ steps
        → flat_map (λ at. text at (text_below steps at)) (tops place tree) ≡ tree_text text place tree
    trees_text NoNodes from parent place steps early stands few = refl
    trees_text (MapNode head below more) from parent place zero early stands few = absurd (omega (arith, few))
    trees_text (MapNode head below more) from parent place (suc steps) early stands few =
        let end = place + 1 + count below in
        let inner = stands_below from parent place head below more early stands in
        let outer = stands_beside from parent place head below more early stands in
        let kids_text : text_below (suc steps) place ≡ tree_text text (place + 1) below =
        ap (flat_map (λ at. text at (text_below steps at))) (kids_here place (place + 1) below inner)
        ∙ trees_text below place place (place + 1) steps (omega arith) inner (omega (arith, few)) in
        let beside = trees_text more end parent end (suc steps) (omega arith) outer (omega (arith, few)) in
        (λ i. text place (kids_text i) ++ beside i)

  -- those below the root of a tree
  pub root_text : (below : MapTree) (end : ℕ)
      → text_below ((0, end) ∷ shapes 0 1 below) (suc (count below)) 0 ≡ tree_text text 1 below
  root_text below end =
      let all = (0, end) ∷ shapes 0 1 below in
      let stands : StandsIn all 0 0 1 below = record {
        before = (0, end) ∷ [];
        after = [];
        is = ap (λ l. (0, end) ∷ l) (sym (append-nil (shapes 0 1 below)));
        long = refl;
        less = omega arith;
        none_before = λ at behind within. refl;
        none_after = λ at behind within. refl;
      } in
      ap (flat_map (λ at. text at (text_below all (count below) at))) (kids_here all 0 1 below stands)
      ∙ trees_text all below 0 0 1 (count below) (omega arith) stands (omega arith)

-- Trees that stand among nodes.
use Rattle.std.specs.Prelude.{◌≡◌, ◌+◌, ◌<◌, ◌≤◌, ◌++◌, ℕ, zero, suc, Bool, true, false, List, [], ◌∷◌, Option, Some, None, codes, length, map, min, option_map, slice_get, if◌then◌else◌}
use Rattle.std.specs.Option.{option_and_then, option_map_or}
use Rattle.std.proofs.Common.{refl, sym, ap, subst, ◌∙◌, arith, append-nil, append_assoc, length-append}
use Rattle.std.proofs.lemmas.Option.{slice_get-map, slice_get_within}
use Rattle.dita_doc.specs.declared.plan.PlanKind.{PlanKind}
use Rattle.dita_doc.specs.declared.plan.PlanKind.TheVariants as kinds
use Rattle.dita_doc.specs.declared.plan.PlanNode.{PlanNode}
use Rattle.map_spec.specs.Branches.{each_once, is_map_node, keyscope_included, keyscope_of, scope_names_of, words_written}
use Rattle.map_spec.specs.Cascade.{whole_at}
use Rattle.map_spec.specs.Elements.{attribute}
use Rattle.map_spec.specs.Judged.{whole_of}
use Rattle.map_spec.specs.MapTree.{Head, MapTree, MapNode, NoNodes, count, node_of, nodes_below, plan_nodes}
use Rattle.map_spec.specs.Written.{Whole}
use Rattle.plan_nodes.specs.Home as home
use Rattle.reader_spec.specs.World.{World}
use Rattle.map_lemmas.proofs.TreeLaws.{length_below}
use Rattle.branch_copies.specs.Stands.{IsLeft, StandsAt, end_at, first_map, is_map_at, next_at}

get_behind : {X : Type 0} (front : List X) (x : X) (others : List X) (at : ℕ) → length front ≡ at
    → slice_get (front ++ x ∷ others) at ≡ Some x
get_behind [] x others zero long = refl
get_behind [] x others (suc at) long = absurd (omega arith)
get_behind (first ∷ front) x others zero long = absurd (omega arith)
get_behind (first ∷ front) x others (suc at) long = get_behind front x others at (omega arith)

stands_between : (tree : MapTree) (parent at : ℕ) (nodes front others : List PlanNode) → length front ≡ at
    → nodes ≡ front ++ (nodes_below parent at tree ++ others) → StandsAt nodes parent at tree
stands_between NoNodes parent at nodes front others long is = tt
stands_between (MapNode head below more) parent at nodes front others long is =
    let end = at + 1 + count below in
    let node = node_of head parent end in
    let inner = nodes_below at (at + 1) below in
    let behind = nodes_below parent end more in
    let through : nodes ≡ front ++ node ∷ (inner ++ (behind ++ others)) =
    is ∙ ap (λ rest. front ++ node ∷ rest) (append_assoc inner behind others) in
    let first : nodes ≡ (front ++ node ∷ []) ++ (inner ++ (behind ++ others)) =
    through ∙ sym (append_assoc front (node ∷ []) (inner ++ (behind ++ others))) in
    let second : nodes ≡ ((front ++ node ∷ []) ++ inner) ++ (behind ++ others) =
    first ∙ sym (append_assoc (front ++ node ∷ []) inner (behind ++ others)) in (
      ap (λ all. slice_get all at) through ∙ get_behind front node (inner ++ (behind ++ others)) at long,
      stands_between below at (at + 1) nodes (front ++ node ∷ []) (behind ++ others)
          (omega (arith, long, length-append front (node ∷ []))) first,
      stands_between more parent end nodes ((front ++ node ∷ []) ++ inner) others
          (omega (
            arith,
            long,
            length-append (front ++ node ∷ []) inner,
            length-append front (node ∷ []),
            length_below at (at + 1) below,
          )) second,
    )

-- the tree of nodes stands among them
pub stands_all : (tree : MapTree) (nodes : List PlanNode) → nodes ≡ plan_nodes tree → StandsAt nodes 0 0 tree
stands_all tree nodes is = stands_between tree 0 0 nodes [] [] refl (is ∙ sym (append-nil (plan_nodes tree)))

pub count_all : (tree : MapTree) (nodes : List PlanNode) → nodes ≡ plan_nodes tree → length nodes ≡ count tree
count_all tree nodes is = ap length is ∙ length_below 0 0 tree

-- a tree ends within the nodes
pub stands_within : (tree : MapTree) (nodes : List PlanNode) (parent at : ℕ) → at ≤ length nodes
    → StandsAt nodes parent at tree → at + count tree ≤ length nodes
stands_within NoNodes nodes parent at within stands = omega (arith, within)
stands_within (MapNode head below more) nodes parent at within stands =
    let here = slice_get_within nodes at _ stands.0 in
    let inner = stands_within below nodes at (at + 1) (omega (arith, here)) stands.1 in
    omega (arith, stands_within more nodes parent (at + 1 + count below) (omega (arith, inner)) stands.2)

-- Elements

module _ (world : World) (nodes : List PlanNode) (homes : List (Option Whole)) (parent at end : ℕ) (head : Head) where
  pub whole_here : homes ≡ map (whole_at world) nodes → slice_get nodes at ≡ Some (node_of head parent end)
      → home.whole_at homes at ≡ whole_of world head
  whole_here are is =
      ap (λ all. home.whole_at all at) are
      ∙ ap (option_and_then (λ (whole : Option Whole). whole)) (slice_get-map (whole_at world) nodes at
      ∙ ap (option_map (whole_at world)) is)

  words_of_one : (found : Option Whole)
      → words_written (option_and_then (λ (whole : Whole). attribute (codes "keyscope") whole.0) found)
      ≡ option_map_or (λ (whole : Whole). words_written (attribute (codes "keyscope") whole.0)) found []
  words_of_one None = refl
  words_of_one (Some whole) = refl

  pub words_here : homes ≡ map (whole_at world) nodes → slice_get nodes at ≡ Some (node_of head parent end)
      → words_written (home.value_at homes at (codes "keyscope")) ≡ keyscope_of world head
  words_here are is =
      ap (λ found. words_written (option_and_then (λ (whole : Whole). attribute (codes "keyscope") whole.0) found))
      (whole_here are is) ∙ words_of_one (whole_of world head)

-- the names that the first map has
pub included_words : (world : World) (nodes : List PlanNode) (homes : List (Option Whole)) (tree : MapTree)
    (parent at : ℕ) → homes ≡ map (whole_at world) nodes → StandsAt nodes parent at tree
    → option_map_or (λ (m : ℕ). words_written (home.value_at homes m (codes "keyscope"))) (first_map at tree) []
    ≡ keyscope_included world tree
included_words world nodes homes NoNodes parent at are stands = refl
included_words world nodes homes (MapNode head below more) parent at are stands =
    by_kind (is_map_node head.kind) (words_here world nodes homes parent at (at + 1 + count below) head are stands.0)
    (included_words world nodes homes more parent (at + 1 + count below) are stands.2)
  where
    by_kind : (is_map : Bool) → words_written (home.value_at homes at (codes "keyscope")) ≡ keyscope_of world head
        → option_map_or (λ (m : ℕ). words_written (home.value_at homes m (codes "keyscope")))
        (first_map (at + 1 + count below) more) [] ≡ keyscope_included world more
        → option_map_or (λ (m : ℕ). words_written (home.value_at homes m (codes "keyscope")))
        (if is_map then Some at else first_map (at + 1 + count below) more) []
        ≡ (if is_map then keyscope_of world head else keyscope_included world more)
    by_kind true here behind = here
    by_kind false here behind = behind

-- Ends

module _ (nodes : List PlanNode) (parent at : ℕ) (head : Head) (below more : MapTree) where
  pub end_stands : StandsAt nodes parent at (MapNode head below more) → end_at nodes at ≡ at + 1 + count below
  end_stands stands =
      let here = slice_get_within nodes at _ stands.0 in
      let inner = stands_within below nodes at (at + 1) (omega (arith, here)) stands.1 in
      let same : min (at + 1 + count below) (length nodes) ≡ at + 1 + count below = omega (arith, inner) in
      rw stands.0 same

  pub next_stands : StandsAt nodes parent at (MapNode head below more) → next_at nodes at ≡ at + 1 + count below
  next_stands stands = let end = end_stands stands in omega (arith, end)

-- The children of a node

pub left_first : (nodes : List PlanNode) (parent at end : ℕ) (head : Head) (below more : MapTree)
    → end ≡ end_at nodes at → StandsAt nodes parent at (MapNode head below more)
    → IsLeft nodes at end (at + 1) below
left_first nodes parent at end head below more is stands = record {
  left = below;
  stands = stands.1;
  ends = sym (is ∙ end_stands nodes parent at head below more stands);
  same = refl;
}

left_by : (nodes : List PlanNode) (at end child next : ℕ) (below left : MapTree) → child < end
    → next ≡ next_at nodes child → is_map_at nodes child ≡ false → StandsAt nodes at child left
    → child + count left ≡ end → first_map child left ≡ first_map (at + 1) below → IsLeft nodes at end next below
left_by nodes at end child next below NoNodes less is other stands ends same = absurd (omega arith)
left_by nodes at end child next below (MapNode head inside rest) less is other stands ends same =
    let next_is : next ≡ child + 1 + count inside = is ∙ next_stands nodes at child head inside rest stands in
    let kind : is_map_node head.kind ≡ false = rw stands.0 at other in
    record {
      left = rest;
      stands = subst (λ place. StandsAt nodes at place rest) (sym next_is) stands.2;
      ends = omega (arith, next_is, ends);
      same = ap (λ place. first_map place rest) next_is
          ∙ ap (λ b. if b then Some child else first_map (child + 1 + count inside) rest) (sym kind) ∙ same;
    }

-- the next child is no map
pub left_next : (nodes : List PlanNode) (at end child next : ℕ) (below : MapTree) → child < end
    → next ≡ next_at nodes child → is_map_at nodes child ≡ false → IsLeft nodes at end child below
    → IsLeft nodes at end next below
left_next nodes at end child next below less is other so_far =
    left_by nodes at end child next below so_far.left less is other so_far.stands so_far.ends so_far.same

first_by : (nodes : List PlanNode) (at child : ℕ) (left : MapTree) → is_map_at nodes child ≡ true → 0 < count left
    → StandsAt nodes at child left → first_map child left ≡ Some child
first_by nodes at child NoNodes is some stands = absurd (omega arith)
first_by nodes at child (MapNode head inside rest) is some stands =
    let kind : is_map_node head.kind ≡ true = rw stands.0 at is in
    ap (λ b. if b then Some child else first_map (child + 1 + count inside) rest) kind

-- it is a map
pub left_map : (nodes : List PlanNode) (at end child : ℕ) (below : MapTree) → child < end
    → is_map_at nodes child ≡ true → IsLeft nodes at end child below → Some child ≡ first_map (at + 1) below
left_map nodes at end child below less is so_far =
    sym (first_by nodes at child so_far.left is (omega (arith, so_far.ends)) so_far.stands) ∙ so_far.same

-- no child is left
none_by : (child : ℕ) (left : MapTree) → count left ≡ 0 → None ≡ first_map child left
none_by child NoNodes none = refl
none_by child (MapNode head inside rest) none = absurd (omega arith)

pub left_none : (nodes : List PlanNode) (at end child : ℕ) (below : MapTree) → end ≤ child
    → IsLeft nodes at end child below → None ≡ first_map (at + 1) below
left_none nodes at end child below past so_far =
    none_by child so_far.left (omega (arith, so_far.ends)) ∙ so_far.same

-- The names of a scope that is that of no map

other_kind : (world : World) (head : Head) (below : MapTree) (kind : PlanKind) → (kind ≡ kinds.Map → ⊥)
    → (kind ≡ kinds.Included → ⊥) → scope_names_of world head below kind ≡ each_once (keyscope_of world head)
other_kind world head below kinds.Map no_map no_included = absurd (no_map refl)
other_kind world head below kinds.Included no_map no_included = absurd (no_included refl)
other_kind world head below _ no_map no_included = refl

pub other_names : (world : World) (nodes : List PlanNode) (homes : List (Option Whole)) (parent at : ℕ) (head : Head)
    (below more : MapTree) (kind : PlanKind) (own : Option (List ℕ)) → homes ≡ map (whole_at world) nodes
    → StandsAt nodes parent at (MapNode head below more) → kind ≡ head.kind → (kind ≡ kinds.Map → ⊥)
    → (kind ≡ kinds.Included → ⊥) → own ≡ home.value_at homes at (codes "keyscope")
    → each_once (words_written own ++ []) ≡ scope_names_of world head below head.kind
other_names world nodes homes parent at head below more kind own are stands is no_map no_included own_is =
    ap each_once (append-nil (words_written own) ∙ ap words_written own_is
    ∙ words_here world nodes homes parent at (at + 1 + count below) head are stands.0)
    ∙ sym (other_kind world head below kind no_map no_included) ∙ ap (scope_names_of world head below) is

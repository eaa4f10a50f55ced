-- What rules leave of the nodes of a tree.
use Rattle.std.specs.Prelude.{◌≡◌, ◌+◌, ◌<◌, ◌≤◌, ℕ, zero, suc, Bool, true, false, List, [], ◌∷◌, ◌++◌, Option, Some, None, drop, length, map, nat_lt, option_map, slice_get}
use Rattle.std.specs.Option.{option_map_or}
use Rattle.std.proofs.Common.{refl, sym, ap, subst, ◌∙◌, arith, append_assoc, get_or}
use Rattle.std.proofs.lemmas.List.{append-nil, at_drop_more, length-map, map-append}
use Rattle.std.proofs.Common.{length-append}
use Rattle.std.proofs.lemmas.Bool.{le-ltb, lt-ltb}
use Rattle.dita_doc.specs.declared.content.Rule.{Rule}
use Rattle.dita_doc.specs.declared.fault.Fault.{Fault}
use Rattle.dita_doc.specs.declared.plan.Expanded.{Expanded}
use Rattle.dita_doc.specs.declared.plan.PlanNode.{PlanNode}
use Rattle.ditaval_rules.specs.Verdict.{excluded}
use Rattle.map_spec.specs.Cascade.{whole_at}
use Rattle.map_spec.specs.Included.{expanded}
use Rattle.map_spec.specs.Judged as judged_spec
use Rattle.map_spec.specs.Judged.{declared_of, filtered, group_faults, group_faults_of, judged}
use Rattle.map_spec.specs.MapTree.{Grown, Head, MapTree, NoNodes, MapNode, count, node_of, nodes_below, plan_nodes}
use Rattle.map_spec.specs.Written.{Element, Whole}
use Rattle.plan_nodes.specs.Preorder.{HasOneRoot, without_end}
use Rattle.reader_spec.specs.World.{World}
use Rattle.node_filter.specs.declared.sieve.Sieve.{Sieve}
use Rattle.node_filter.specs.declared.elements.Elements.{Elements}
use Rattle.node_filter.specs.Domains.{AreDeclared, names_at}
use Rattle.node_filter.specs.Sieve.{element_in_world, faults_of, is_sieved_out, empty, passed, all_passed}

-- Lists

get_before : (xs ys : List ℕ) (k x : ℕ) → slice_get xs k ≡ Some x → slice_get (xs ++ ys) k ≡ Some x
get_before [] ys k x e = cc
get_before (y ∷ xs) ys zero x e = e
get_before (y ∷ xs) ys (suc k) x e = get_before xs ys k x e

get_last : (xs : List ℕ) (x : ℕ) → slice_get (xs ++ x ∷ []) (length xs) ≡ Some x
get_last [] x = refl
get_last (y ∷ xs) x = get_last xs x

get_placed : (xs : List ℕ) (place x : ℕ) → length xs ≡ place → slice_get (xs ++ x ∷ []) place ≡ Some x
get_placed xs place x e = subst (λ n. slice_get (xs ++ x ∷ []) n ≡ Some x) e (get_last xs x)

-- Tests

-- The elements of nodes

faults_through : (declared : List (List ℕ)) (found : Option Whole)
    → faults_of declared (option_map (λ (whole : Whole). whole.0) found)
    ≡ option_map_or (λ (whole : Whole). group_faults declared whole.0) found []
faults_through declared None = refl
faults_through declared (Some whole) = refl

excluded_through : (rules : List Rule) (declared : List (List ℕ)) (found : Option Whole)
    → is_sieved_out rules declared (option_map (λ (whole : Whole). whole.0) found)
    ≡ option_map_or (λ (whole : Whole). excluded rules declared whole.0.attributes) found false
excluded_through rules declared None = refl
excluded_through rules declared (Some whole) = refl

faults_at : (world : World) (head : Head) (parent end : ℕ)
    → faults_of (declared_of world head) (element_in_world world (node_of head parent end)) ≡ group_faults_of world head
faults_at world head parent end = faults_through (declared_of world head) (judged_spec.whole_of world head)

excluded_at : (world : World) (rules : List Rule) (head : Head) (parent end : ℕ)
    → is_sieved_out rules (declared_of world head) (element_in_world world (node_of head parent end))
    ≡ judged_spec.is_excluded world rules head
excluded_at world rules head parent end =
    excluded_through rules (declared_of world head) (judged_spec.whole_of world head)

-- Nodes, one after the other

abbrev run : World → List Rule → List PlanNode → Sieve → Sieve
run world rules nodes sieve = all_passed world rules nodes sieve

-- a node that is excluded, behind the root, is passed over with all below it
pub pass_excluded : (rules : List Rule) (declared : List (List ℕ)) (element : Option Element) (node : PlanNode)
    (old : Sieve) (places : List ℕ) (faults : List Fault) (at count : ℕ) → at ≡ length old.places → old.next ≤ at → 0 < at
    → is_sieved_out rules declared element ≡ true → count ≡ length old.kept → places ≡ old.places ++ count ∷ []
    → faults ≡ old.faults ++ faults_of declared element
    → record { places = places; kept = old.kept; faults = faults; next = node.end } ≡ passed rules declared element node old
pass_excluded rules declared element node old places faults at count at_is past below out count_is more told =
    let not_inside : nat_lt (length old.places) old.next ≡ false =
    le-ltb (length old.places) old.next (subst (λ n. old.next ≤ n) at_is past) in
    let not_first : nat_lt 0 (length old.places) ≡ true =
    lt-ltb 0 (length old.places) (subst (λ n. 0 < n) at_is below) in
    rw (told, more, count_is, not_inside, not_first, out) refl

-- the node at a place is the next
pub pass_next : (world : World) (rules : List Rule) (nodes : List PlanNode) (at : ℕ) (node : PlanNode)
    (declared : List (List ℕ)) (element : Option Element) (before after : Sieve) → at < length nodes
    → node ≡ get_or nodes at node → declared ≡ names_at world node → element ≡ element_in_world world node
    → after ≡ passed rules declared element node before
    → all_passed world rules (drop (at + 1) nodes) after
    ≡ all_passed world rules (drop at nodes) before
pass_next world rules nodes at node declared element before after less is names found then =
    ap (λ (s : Sieve). run world rules (drop (at + 1) nodes) s) (then
    ∙ (ap (λ (d : List (List ℕ)). passed rules d element node before) names
    ∙ ap (λ (e : Option Element). passed rules (names_at world node) e node before) found
    ∙ ap (λ (n : PlanNode). passed rules (names_at world n) (element_in_world world n) n before) is))
    ∙ sym (at_drop_more (λ (all : List PlanNode). run world rules all before) nodes at node less)

run_append : (world : World) (rules : List Rule) (first second : List PlanNode) (sieve : Sieve)
    → run world rules (first ++ second) sieve ≡ run world rules second (run world rules first sieve)
run_append world rules [] second sieve = refl
run_append world rules (node ∷ first) second sieve =
    run_append world rules first second (passed rules (names_at world node) (element_in_world world node) node sieve)

count_below : (tree : MapTree) (parent place : ℕ) → length (nodes_below parent place tree) ≡ count tree
count_below NoNodes parent place = refl
count_below (MapNode head below more) parent place =
    omega (
      arith,
      length-append (nodes_below place (place + 1) below) (nodes_below parent (place + 1 + count below) more),
      count_below below place (place + 1),
      count_below more parent (place + 1 + count below),
    )

-- nodes before the end of one that is excluded only get their places
skipped : (world : World) (rules : List Rule) (nodes : List PlanNode) (places : List ℕ) (kept : List PlanNode)
    (faults : List Fault) (next : ℕ) → length places + length nodes ≤ next
    → run world rules nodes (record { places = places; kept = kept; faults = faults; next = next })
    ≡ record { places = places ++ map (λ (node : PlanNode). length kept) nodes; kept = kept; faults = faults; next = next }
skipped world rules [] places kept faults next h = rw (append-nil places) refl
skipped world rules (node ∷ nodes) places kept faults next h =
    let here : nat_lt (length places) next ≡ true = lt-ltb _ _ (omega arith) in
    let then = skipped world rules nodes (places ++ length kept ∷ []) kept faults next
    (omega (arith, length-append places (length kept ∷ []))) in
    rw here (then ∙ rw (append_assoc places (length kept ∷ []) (map (λ (node : PlanNode). length kept) nodes)) refl)

-- What a subtree leaves

-- of nodes up to this end, below a node whose new place is `up`, this tree is left, with its faults
record Left (up end : ℕ) (before after : Sieve) (grown : Grown) : Type 0 where
  more : List ℕ
  places : after.places ≡ before.places ++ more
  size : length after.places ≡ end
  next : after.next ≤ end
  found : after.faults ≡ before.faults ++ grown.faults
  kept : map without_end after.kept ≡ map without_end before.kept ++ map without_end (nodes_below up (length before.kept) grown.tree)

same_left : (up end : ℕ) (before after last : Sieve) (grown whole : Grown) → Left up end before last whole
    → after ≡ last → grown ≡ whole → Left up end before after grown
same_left up end before after last grown whole left e f =
    subst (λ g. Left up end before after g) (sym f) (subst (λ s. Left up end before s whole) (sym e) left)

-- what holds of a tree, wherever it stands
abbrev AllLeft : World → List Rule → MapTree → Type 0
AllLeft world rules tree = (parent place up : ℕ) (sieve : Sieve) → length sieve.places ≡ place → 0 < place
    → sieve.next ≤ place → slice_get sieve.places parent ≡ Some up
    → Left up (place + count tree) sieve (run world rules (nodes_below parent place tree) sieve)
    (judged world rules tree)

none_left : (world : World) (rules : List Rule) → AllLeft world rules NoNodes
none_left world rules parent place up sieve size some next found = record {
  more = [];
  places = sym (append-nil sieve.places);
  size = omega arith;
  next = omega arith;
  found = sym (append-nil sieve.faults);
  kept = sym (append-nil (map without_end sieve.kept));
}

-- A node that is judged

-- its step, by whether it is excluded
step_excluded : (world : World) (rules : List Rule) (head : Head) (parent end place : ℕ) (sieve : Sieve)
    → length sieve.places ≡ place → 0 < place → sieve.next ≤ place → judged_spec.is_excluded world rules head ≡ true
    → passed rules (declared_of world head) (element_in_world world (node_of head parent end))
    (node_of head parent end) sieve
    ≡ record {
      places = sieve.places ++ length sieve.kept ∷ [];
      kept = sieve.kept;
      faults = sieve.faults ++ group_faults_of world head;
      next = end;
    }
step_excluded world rules head parent end place sieve size some next e =
    let past : nat_lt (length sieve.places) sieve.next ≡ false = le-ltb _ _ (omega arith) in
    let behind : nat_lt 0 (length sieve.places) ≡ true = lt-ltb _ _ (omega arith) in
    rw (past, behind, excluded_at world rules head parent end, e, faults_at world head parent end) refl

step_kept : (world : World) (rules : List Rule) (head : Head) (parent end place up : ℕ) (sieve : Sieve)
    → length sieve.places ≡ place → 0 < place → sieve.next ≤ place → judged_spec.is_excluded world rules head ≡ false
    → slice_get sieve.places parent ≡ Some up
    → passed rules (declared_of world head) (element_in_world world (node_of head parent end))
    (node_of head parent end) sieve
    ≡ record {
      places = sieve.places ++ length sieve.kept ∷ [];
      kept = sieve.kept ++ node_of head up end ∷ [];
      faults = sieve.faults ++ group_faults_of world head;
      next = sieve.next;
    }
step_kept world rules head parent end place up sieve size some next e found =
    let past : nat_lt (length sieve.places) sieve.next ≡ false = le-ltb _ _ (omega arith) in
    let behind : nat_lt 0 (length sieve.places) ≡ true = lt-ltb _ _ (omega arith) in
    let above = get_before sieve.places (length sieve.kept ∷ []) parent up found in
    rw (past, behind, excluded_at world rules head parent end, e, faults_at world head parent end, above) refl

judged_excluded : (world : World) (rules : List Rule) (head : Head) (below more : MapTree)
    → judged_spec.is_excluded world rules head ≡ true
    → judged world rules (MapNode head below more)
    ≡ record {
      tree = (judged world rules more).tree;
      faults = group_faults_of world head ++ (judged world rules more).faults;
    }
judged_excluded world rules head below more e = rw e refl

judged_kept : (world : World) (rules : List Rule) (head : Head) (below more : MapTree)
    → judged_spec.is_excluded world rules head ≡ false
    → judged world rules (MapNode head below more)
    ≡ record {
      tree = MapNode head (judged world rules below).tree (judged world rules more).tree;
      faults = group_faults_of world head ++ ((judged world rules below).faults ++ (judged world rules more).faults);
    }
judged_kept world rules head below more e = rw e refl

-- an excluded node goes with all below it
excluded_left : (world : World) (rules : List Rule) (head : Head) (below more : MapTree) → AllLeft world rules more
    → judged_spec.is_excluded world rules head ≡ true → AllLeft world rules (MapNode head below more)
excluded_left world rules head below more behind e parent place up sieve size some next found =
    let end : ℕ = place + 1 + count below in
    let inside : List PlanNode = nodes_below place (place + 1) below in
    let outside : List PlanNode = nodes_below parent end more in
    let places : List ℕ = sieve.places ++ length sieve.kept ∷ [] in
    let faults : List Fault = sieve.faults ++ group_faults_of world head in
    let many : length inside ≡ count below = count_below below place (place + 1) in
    let longer : length places ≡ place + 1 = omega (arith, length-append sieve.places (length sieve.kept ∷ [])) in
    let passed_over : List ℕ = map (λ (node : PlanNode). length sieve.kept) inside in
    let then : Sieve = record { places = places ++ passed_over; kept = sieve.kept; faults = faults; next = end } in
    let all : run world rules (nodes_below parent place (MapNode head below more)) sieve ≡ run world rules outside then =
    ap (run world rules (inside ++ outside)) (step_excluded world rules head parent end place sieve size some next e)
    ∙ run_append world rules inside outside _
    ∙ ap (run world rules outside) (skipped world rules inside places sieve.kept faults end (omega arith)) in
    let wide : length then.places ≡ end =
    omega (arith, length-append places passed_over, length-map inside (λ (node : PlanNode). length sieve.kept)) in
    let above = get_before places passed_over parent up (get_before sieve.places (length sieve.kept ∷ []) parent up found) in
    let last = behind parent end up then wide (omega arith) (omega arith) above in
    same_left up (place + count (MapNode head below more)) sieve _ _ _ _ (record {
      more = length sieve.kept ∷ (passed_over ++ last.more);
      places = last.places
          ∙ (append_assoc places passed_over last.more
          ∙ append_assoc sieve.places (length sieve.kept ∷ []) (passed_over ++ last.more));
      size = last.size ∙ omega arith;
      next = omega (arith, last.next);
      found = last.found ∙ append_assoc sieve.faults (group_faults_of world head) (judged world rules more).faults;
      kept = last.kept;
    }) all (judged_excluded world rules head below more e)

-- how many are kept
kept_count : (first kept : List PlanNode) (up : ℕ) (tree : MapTree)
    → map without_end kept ≡ map without_end first ++ map without_end (nodes_below up (length first) tree)
    → length kept ≡ length first + count tree
kept_count first kept up tree e =
    let below : List PlanNode = nodes_below up (length first) tree in
    omega (
      arith,
      ap length e,
      length-append (map without_end first) (map without_end below),
      length-map kept without_end,
      length-map first without_end,
      length-map below without_end,
      count_below tree up (length first),
    )

-- a node, what is kept below it, and behind it
kept_then : (first second third : List PlanNode) (head : Head) (up end : ℕ) (inner outer : MapTree)
    → map without_end second ≡ map without_end (first ++ node_of head up end ∷ [])
    ++ map without_end (nodes_below (length first) (length (first ++ node_of head up end ∷ [])) inner)
    → map without_end third ≡ map without_end second ++ map without_end (nodes_below up (length second) outer)
    → map without_end third ≡ map without_end first ++ map without_end (nodes_below up (length first) (MapNode head inner outer))
kept_then first second third head up end inner outer one two =
    let at : ℕ = length first in
    let copy : PlanNode = node_of head up end in
    let more : length (first ++ copy ∷ []) ≡ at + 1 = length-append first (copy ∷ []) ∙ omega arith in
    let most : length second ≡ at + 1 + count inner = kept_count (first ++ copy ∷ []) second at inner one
    ∙ ap (λ n. n + count inner) more in
    let inside : List PlanNode = nodes_below at (at + 1) inner in
    let outside : List PlanNode = nodes_below up (at + 1 + count inner) outer in
    let one_on : map without_end second ≡ map without_end first ++ without_end copy ∷ map without_end inside =
    one ∙ rw (more, map-append without_end first (copy ∷ []))
    (append_assoc (map without_end first) (without_end copy ∷ []) (map without_end inside)) in
    let two_on : map without_end third ≡ map without_end second ++ map without_end outside =
    two ∙ ap (λ n. map without_end second ++ map without_end (nodes_below up n outer)) most in
    two_on ∙ (ap (λ nodes. nodes ++ map without_end outside) one_on
    ∙ (append_assoc (map without_end first) (without_end copy ∷ map without_end inside) (map without_end outside)
    ∙ ap (λ nodes. map without_end first ++ without_end copy ∷ nodes) (sym (map-append without_end inside outside))))

-- one that is kept stays above what is left below it
kept_left : (world : World) (rules : List Rule) (head : Head) (below more : MapTree) → AllLeft world rules below
    → AllLeft world rules more → judged_spec.is_excluded world rules head ≡ false
    → AllLeft world rules (MapNode head below more)
kept_left world rules head below more within behind e parent place up sieve size some next found =
    let end : ℕ = place + 1 + count below in
    let inside : List PlanNode = nodes_below place (place + 1) below in
    let outside : List PlanNode = nodes_below parent end more in
    let at : ℕ = length sieve.kept in
    let copy : PlanNode = node_of head up end in
    let first : Sieve = record {
      places = sieve.places ++ at ∷ [];
      kept = sieve.kept ++ copy ∷ [];
      faults = sieve.faults ++ group_faults_of world head;
      next = sieve.next;
    } in
    let second : Sieve = run world rules inside first in
    let all : run world rules (nodes_below parent place (MapNode head below more)) sieve ≡ run world rules outside second =
    ap (run world rules (inside ++ outside)) (step_kept world rules head parent end place up sieve size some next e found)
    ∙ run_append world rules inside outside first in
    let longer : length first.places ≡ place + 1 = omega (arith, length-append sieve.places (at ∷ [])) in
    let one = within place (place + 1) at first longer (omega arith) (omega arith) (get_placed sieve.places place at size) in
    let inner : MapTree = (judged world rules below).tree in
    let outer : MapTree = (judged world rules more).tree in
    let above : slice_get second.places parent ≡ Some up =
    rw one.places (get_before first.places one.more parent up (get_before sieve.places (at ∷ []) parent up found)) in
    let two = behind parent end up second one.size (omega arith) one.next above in
    same_left up (place + count (MapNode head below more)) sieve _ _ _ _ (record {
      more = at ∷ (one.more ++ two.more);
      places = two.places ∙ (ap (λ places. places ++ two.more) one.places
          ∙ (append_assoc first.places one.more two.more
          ∙ append_assoc sieve.places (at ∷ []) (one.more ++ two.more)));
      size = two.size ∙ omega arith;
      next = omega (arith, two.next);
      found = two.found ∙ (ap (λ faults. faults ++ (judged world rules more).faults) one.found
          ∙ (append_assoc first.faults (judged world rules below).faults (judged world rules more).faults
          ∙ append_assoc sieve.faults (group_faults_of world head) _));
      kept = kept_then sieve.kept second.kept _ head up end inner outer one.kept two.kept;
    }) all (judged_kept world rules head below more e)

-- all nodes of a tree
node_left : (world : World) (rules : List Rule) (head : Head) (below more : MapTree) → AllLeft world rules below
    → AllLeft world rules more → (is : Bool) → judged_spec.is_excluded world rules head ≡ is
    → AllLeft world rules (MapNode head below more)
node_left world rules head below more within behind true e = excluded_left world rules head below more behind e
node_left world rules head below more within behind false e = kept_left world rules head below more within behind e

tree_left : (world : World) (rules : List Rule) (tree : MapTree) → AllLeft world rules tree
tree_left world rules NoNodes = none_left world rules
tree_left world rules (MapNode head below more) =
    node_left world rules head below more (tree_left world rules below) (tree_left world rules more)
    (judged_spec.is_excluded world rules head) refl

-- The whole

module _ (world : World) (rules : List Rule) (head : Head) (below : MapTree) where
  abbrev whole : MapTree
  whole = MapNode head below NoNodes

  abbrev last : Sieve
  last = run world rules (plan_nodes whole) empty

  -- the root alone
  abbrev begun : Sieve
  begun = record {
    places = 0 ∷ [];
    kept = node_of head 0 (1 + count below) ∷ [];
    faults = group_faults_of world head;
    next = 0;
  }

  root_first : last ≡ run world rules (nodes_below 0 1 below) begun
  root_first =
      ap (run world rules (nodes_below 0 1 below ++ [])) (ap (λ (faults : List Fault). record {
        places = 0 ∷ [];
        kept = node_of head 0 (1 + count below) ∷ [];
        faults = faults;
        next = 0;
      }) (faults_at world head 0 (1 + count below)))
      ∙ run_append world rules (nodes_below 0 1 below) [] begun

  root_left : Left 0 (1 + count below) begun (run world rules (nodes_below 0 1 below) begun) (judged world rules below)
  root_left = tree_left world rules below 0 1 0 begun refl (omega arith) (omega arith) refl

  pub nodes_filtered : map without_end last.kept ≡ map without_end (plan_nodes (filtered world rules whole).tree)
  nodes_filtered = ap (λ (sieve : Sieve). map without_end sieve.kept) root_first ∙ root_left.kept
      ∙ ap (λ nodes. without_end (node_of head 0 0) ∷ map without_end nodes)
      (sym (append-nil (nodes_below 0 1 (judged world rules below).tree)))

  pub faults_filtered : last.faults ≡ (filtered world rules whole).faults
  faults_filtered = ap (λ (sieve : Sieve). sieve.faults) root_first ∙ root_left.found

-- What is made of it

abbrev pub expanded_of : List PlanNode → List Fault → Expanded
expanded_of nodes faults = record { nodes = nodes; faults = faults }

-- nodes with these ends are those of the filtered tree
root_made : (world : World) (rules : List Rule) (head : Head) (below : MapTree) (nodes made : List PlanNode) (sieve : Sieve)
    → sieve ≡ all_passed world rules nodes empty
    → ((tree : MapTree) → HasOneRoot tree → map without_end sieve.kept ≡ map without_end (plan_nodes tree)
    → made ≡ plan_nodes tree)
    → nodes ≡ plan_nodes (MapNode head below NoNodes)
    → expanded_of made sieve.faults ≡ expanded (filtered world rules (MapNode head below NoNodes))
root_made world rules head below nodes made sieve left ends is =
    let from : sieve ≡ run world rules (plan_nodes (MapNode head below NoNodes)) empty =
    left ∙ ap (λ (all : List PlanNode). run world rules all empty) is in
    let grown : Grown = filtered world rules (MapNode head below NoNodes) in
    let kept : made ≡ plan_nodes grown.tree =
    ends grown.tree refl (ap (λ (s : Sieve). map without_end s.kept) from ∙ nodes_filtered world rules head below) in
    let found : sieve.faults ≡ grown.faults =
    ap (λ (s : Sieve). s.faults) from ∙ faults_filtered world rules head below in
    ap (λ (all : List PlanNode). expanded_of all sieve.faults) kept ∙ ap (expanded_of (plan_nodes grown.tree)) found

pub filtered_from : (world : World) (rules : List Rule) (nodes made : List PlanNode) (sieve : Sieve)
    → sieve ≡ all_passed world rules nodes empty
    → ((tree : MapTree) → HasOneRoot tree → map without_end sieve.kept ≡ map without_end (plan_nodes tree)
    → made ≡ plan_nodes tree)
    → (tree : MapTree) → nodes ≡ plan_nodes tree → HasOneRoot tree
    → expanded_of made sieve.faults ≡ expanded (filtered world rules tree)
filtered_from world rules nodes made sieve left ends NoNodes is one =
    let from : sieve ≡ empty = left ∙ ap (λ (all : List PlanNode). run world rules all empty) is in
    let kept : made ≡ [] = ends NoNodes tt (ap (λ (s : Sieve). map without_end s.kept) from) in
    ap (λ (all : List PlanNode). expanded_of all sieve.faults) kept
    ∙ ap (λ (s : Sieve). expanded_of [] s.faults) from
filtered_from world rules nodes made sieve left ends (MapNode head below more) is one =
    subst (λ (others : MapTree). nodes ≡ plan_nodes (MapNode head below others)
    → expanded_of made sieve.faults ≡ expanded (filtered world rules (MapNode head below others))) (sym one)
    (root_made world rules head below nodes made sieve left ends) is

-- the same as the code has it
pub filtered_here : (world : World) (rules table : List Rule) (nodes first second made : List PlanNode)
    (elements : Elements) (sieve : Sieve) → table ≡ rules → first ≡ nodes → second ≡ nodes
    → elements.homes ≡ map (whole_at world) first → AreDeclared world first elements.declared
    → (elements.homes ≡ map (whole_at world) second → AreDeclared world second elements.declared
    → sieve ≡ all_passed world table second empty)
    → ((tree : MapTree) → HasOneRoot tree → map without_end sieve.kept ≡ map without_end (plan_nodes tree)
    → made ≡ plan_nodes tree)
    → (tree : MapTree) → nodes ≡ plan_nodes tree → HasOneRoot tree
    → expanded_of made sieve.faults ≡ expanded (filtered world rules tree)
filtered_here world rules table nodes first second made elements sieve same one two all names left ends =
    let there : elements.homes ≡ map (whole_at world) second = all ∙ ap (map (whole_at world)) (one ∙ sym two) in
    let declared : AreDeclared world second elements.declared =
    subst (λ own. AreDeclared world own elements.declared) (one ∙ sym two) names in
    filtered_from world rules nodes made sieve (left there declared
    ∙ (ap (λ (own : List Rule). all_passed world own second empty) same
    ∙ ap (λ (each : List PlanNode). all_passed world rules each empty) two)) ends

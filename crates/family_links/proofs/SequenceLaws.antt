-- Links in sequences: nodes that stand beside one another are those that the definition links.
use Rattle.std.specs.Prelude.{◌≡◌, ◌-◌, ◌≤◌, ◌==◌, ◌&&◌, ◌||◌, ℕ, Bool, true, false, List, [], ◌∷◌, ◌++◌, Ok, Err, OnOk, Result, codes, drop, length, map, if◌then◌else◌}
use Rattle.std.specs.List.{All, flat_map, list_any}
use Rattle.std.specs.List.Sorted.{IsNonDecreasingBy, IsPermutation}
use Rattle.std.specs.Option.{option_map_or}
use Rattle.std.proofs.Common.{refl, sym, ap, subst, ◌∙◌, append-nil, append_assoc, arith, length-drop}
use Rattle.std.proofs.lemmas.Bool.{eqb-true}
use Rattle.std.proofs.lemmas.Grind.{flat_map-append}
use Rattle.std.proofs.lemmas.List.Elements.{All-append, All-cons, All-head, All-nil, All-tail}
use Rattle.std.proofs.lemmas.List.Folds.{list_any-append}
use Rattle.dita_doc.specs.declared.content.LinkKind.{LinkKind}
use Rattle.dita_doc.specs.declared.content.LinkKind.TheVariants as links
use Rattle.dita_doc.specs.declared.plan.Plan.{Plan}
use Rattle.dita_doc.specs.declared.stop.NoMemory.{NoMemory}
use Rattle.dita_doc.proofs.Lists.{any_like, any_map, any_never, any_or, any_swap}
use Rattle.dita_doc.proofs.Tests.{and_false, and_swap, number_itself, number_swaps}
use Rattle.link_groups.specs.LinkLists.{AppendsLinks, HoldsLinks, links_to_nodes}
use Rattle.link_groups.specs.LinkNodes.{is_source_at, is_target_at}
use Rattle.link_groups.specs.declared.link_list.LinkList.{LinkList}
use Rattle.link_groups.specs.declared.link_nodes.LinkNode.{LinkNode}
use Rattle.link_groups.proofs.OnceLaws.{holds_same, once_same}
use Rattle.link_groups.proofs.OrderLaws.{is_linked, links_from}
use Rattle.map_spec.specs.Scopes.{places}
use Rattle.link_spec.specs.Links.{LinkTo, are_next, collections, is_page_at, links_as, links_of_kind, may_link, to_each_once}
use Rattle.reader_spec.specs.World.{World}
use Rattle.family_links.specs.Grouped.{groups}
use Rattle.family_links.specs.Lists.{listed}
use Rattle.family_links.specs.Sequenced.{AreSequences, AreSequencesOf, linked_from, links_beside, next_of, previous_of}
use Rattle.family_links.specs.declared.sequences.Sequences.{Sequences}
use Rattle.family_links.proofs.AnyLaws.{any_alike, any_between, any_flat, any_if, any_one, any_place, front_test, same_test, split_test}
use Rattle.family_links.proofs.GroupLaws.{IsGroup, group_places, groups_good}
use Rattle.family_links.proofs.NodeLaws.{IsNode, is_place, node_page, node_source, node_target, node_within, place_of}
use Rattle.family_links.proofs.OrderedLaws.{in_place}

module _ (world : World) (plan : Plan) (page to : ℕ) where
  abbrev own : ℕ → Bool
  own from = is_page_at plan page from

  abbrev may : ℕ → Bool
  may from = may_link world plan from to

  -- a node of the page that stands so to the other, and may link to it
  abbrev pub links_so : (ℕ → Bool) → ℕ → Bool
  links_so stands from = (own from && stands from) && may from

  -- By groups

  pub by_groups : (kind : LinkKind) (value : List ℕ) (stands : ℕ → List ℕ → Bool)
      → ((from : ℕ) → links_as world plan kind from to ≡ list_any (stands from) (collections world plan value))
      → is_linked world plan page kind to ≡ list_any
      (λ (nodes : List LinkNode). list_any (links_so (λ from. stands from (map place_of nodes))) (places plan.nodes))
      (groups world plan value)
  by_groups kind value stands so =
      any_like (links_from world plan page kind to)
      (λ from. list_any (λ all. (own from && stands from all) && may from) (collections world plan value))
      (λ from. ap (λ b. (own from && b) && may from) (so from)
      ∙ any_between (own from) (may from) (stands from) (collections world plan value)) (places plan.nodes)
      ∙ any_swap (λ from all. (own from && stands from all) && may from) (places plan.nodes)
      (collections world plan value)
      ∙ ap (list_any (λ all. list_any (λ from. (own from && stands from all) && may from) (places plan.nodes)))
      (group_places world plan value)
      ∙ any_map (λ all. list_any (λ from. (own from && stands from all) && may from) (places plan.nodes)) (map place_of)
      (groups world plan value)

  -- Nodes beside one another

  step : (mine other : LinkNode) → IsNode world plan mine → IsNode world plan other
      → list_any (links_so (λ from. (mine.at == from) && (other.at == to))) (places plan.nodes)
      ≡ list_any (is_place to) (linked_from page mine other)
  step mine other is_mine is_other =
      any_like (links_so (λ from. (mine.at == from) && (other.at == to)))
      (λ from. (mine.at == from) && ((own from && (other.at == to)) && may from))
      (λ from. front_test (own from) (mine.at == from) (other.at == to) (may from)) (places plan.nodes)
      ∙ any_one (λ from. (own from && (other.at == to)) && may from) mine.at (places plan.nodes)
      ∙ ap (λ b. b && ((own mine.at && (other.at == to)) && may mine.at))
      (any_place (λ x. mine.at == x) plan.nodes mine.at (node_within world plan mine is_mine) (number_itself mine.at))
      ∙ same_test (own mine.at) (page == mine.page) (other.at == to) (is_source_at world plan mine.at) other.is_target
      (is_target_at world plan to)
      (ap (λ found. option_map_or (λ own. own == page) found false) (node_page world plan mine is_mine)
      ∙ number_swaps mine.page page)
      (λ e. ap (is_target_at world plan) (sym (eqb-true other.at to e)) ∙ node_target world plan other is_other)
      ∙ ap (λ s. ((page == mine.page) && (s && other.is_target)) && (other.at == to))
      (node_source world plan mine is_mine)
      ∙ sym (any_if (is_place to) ((page == mine.page) && (mine.is_source && other.is_target)) other)

  nowhere : list_any (links_so (λ from. false)) (places plan.nodes) ≡ false
  nowhere = any_never (links_so (λ from. false)) (λ from. ap (λ b. b && may from) (and_false (own from)))
      (places plan.nodes)

  in_next : (nodes : List LinkNode) → All (IsNode world plan) nodes
      → list_any (links_so (λ from. are_next from to (map place_of nodes))) (places plan.nodes)
      ≡ list_any (is_place to) (next_of page nodes)
  in_next [] all = nowhere
  in_next (one ∷ []) all = nowhere
  in_next (one ∷ other ∷ more) all =
      let behind = All-tail (IsNode world plan) one (other ∷ more) all in
      any_like (links_so (λ from. are_next from to (map place_of (one ∷ other ∷ more))))
      (λ from. links_so (λ f. (one.at == f) && (other.at == to)) from
      || links_so (λ f. are_next f to (map place_of (other ∷ more))) from)
      (λ from. split_test (own from) ((one.at == from) && (other.at == to))
      (are_next from to (map place_of (other ∷ more))) (may from)) (places plan.nodes)
      ∙ any_or (links_so (λ f. (one.at == f) && (other.at == to)))
      (links_so (λ f. are_next f to (map place_of (other ∷ more)))) (places plan.nodes)
      ∙ (λ i. step one other (All-head (IsNode world plan) one (other ∷ more) all)
      (All-head (IsNode world plan) other more behind) i || in_next (other ∷ more) behind i)
      ∙ sym (list_any-append (is_place to) (linked_from page one other) (next_of page (other ∷ more)))

  in_previous : (nodes : List LinkNode) → All (IsNode world plan) nodes
      → list_any (links_so (λ from. are_next to from (map place_of nodes))) (places plan.nodes)
      ≡ list_any (is_place to) (previous_of page nodes)
  in_previous [] all = nowhere
  in_previous (one ∷ []) all = nowhere
  in_previous (one ∷ other ∷ more) all =
      let behind = All-tail (IsNode world plan) one (other ∷ more) all in
      any_like (links_so (λ from. are_next to from (map place_of (one ∷ other ∷ more))))
      (λ from. links_so (λ f. (other.at == f) && (one.at == to)) from
      || links_so (λ f. are_next to f (map place_of (other ∷ more))) from)
      (λ from. split_test (own from) ((one.at == to) && (other.at == from))
      (are_next to from (map place_of (other ∷ more))) (may from)
      ∙ ap (λ b. ((own from && b) && may from) || links_so (λ f. are_next to f (map place_of (other ∷ more))) from)
      (and_swap (one.at == to) (other.at == from))) (places plan.nodes)
      ∙ any_or (links_so (λ f. (other.at == f) && (one.at == to)))
      (links_so (λ f. are_next to f (map place_of (other ∷ more)))) (places plan.nodes)
      ∙ (λ i. step other one (All-head (IsNode world plan) other more behind)
      (All-head (IsNode world plan) one (other ∷ more) all) i || in_previous (other ∷ more) behind i)
      ∙ sym (list_any-append (is_place to) (linked_from page other one) (previous_of page (other ∷ more)))

  linked_next : is_linked world plan page links.Next to
      ≡ list_any (is_place to) (flat_map (next_of page) (groups world plan (codes "sequence")))
  linked_next =
      by_groups links.Next (codes "sequence") (λ from all. are_next from to all) (λ from. refl)
      ∙ any_alike (IsGroup world plan)
      (λ nodes. list_any (links_so (λ from. are_next from to (map place_of nodes))) (places plan.nodes))
      (λ nodes. list_any (is_place to) (next_of page nodes)) (λ nodes good. in_next nodes good.all)
      (groups world plan (codes "sequence")) (groups_good world plan (codes "sequence"))
      ∙ sym (any_flat (is_place to) (next_of page) (groups world plan (codes "sequence")))

  linked_previous : is_linked world plan page links.Previous to
      ≡ list_any (is_place to) (flat_map (previous_of page) (groups world plan (codes "sequence")))
  linked_previous =
      by_groups links.Previous (codes "sequence") (λ from all. are_next to from all) (λ from. refl)
      ∙ any_alike (IsGroup world plan)
      (λ nodes. list_any (links_so (λ from. are_next to from (map place_of nodes))) (places plan.nodes))
      (λ nodes. list_any (is_place to) (previous_of page nodes)) (λ nodes good. in_previous nodes good.all)
      (groups world plan (codes "sequence")) (groups_good world plan (codes "sequence"))
      ∙ sym (any_flat (is_place to) (previous_of page) (groups world plan (codes "sequence")))

-- The nodes that are found are nodes of the plan

module _ (world : World) (plan : Plan) (page : ℕ) where
  all_if : (b : Bool) (node : LinkNode) → IsNode world plan node
      → All (IsNode world plan) (if b then node ∷ [] else [])
  all_if true node is = All-cons (IsNode world plan) node [] is (All-nil (IsNode world plan))
  all_if false node is = All-nil (IsNode world plan)

  all_next : (nodes : List LinkNode) → All (IsNode world plan) nodes → All (IsNode world plan) (next_of page nodes)
  all_next [] all = All-nil (IsNode world plan)
  all_next (one ∷ []) all = All-nil (IsNode world plan)
  all_next (one ∷ other ∷ more) all =
      let behind = All-tail (IsNode world plan) one (other ∷ more) all in
      All-append (IsNode world plan) (linked_from page one other) (next_of page (other ∷ more))
      (all_if ((page == one.page) && (one.is_source && other.is_target)) other
      (All-head (IsNode world plan) other more behind)) (all_next (other ∷ more) behind)

  all_previous : (nodes : List LinkNode) → All (IsNode world plan) nodes
      → All (IsNode world plan) (previous_of page nodes)
  all_previous [] all = All-nil (IsNode world plan)
  all_previous (one ∷ []) all = All-nil (IsNode world plan)
  all_previous (one ∷ other ∷ more) all =
      All-append (IsNode world plan) (linked_from page other one) (previous_of page (other ∷ more))
      (all_if ((page == other.page) && (other.is_source && one.is_target)) one
      (All-head (IsNode world plan) one (other ∷ more) all))
      (all_previous (other ∷ more) (All-tail (IsNode world plan) one (other ∷ more) all))

  pub all_flat : (found : List LinkNode → List LinkNode)
      → ((nodes : List LinkNode) → All (IsNode world plan) nodes → All (IsNode world plan) (found nodes))
      → (all : List (List LinkNode)) → All (IsGroup world plan) all → All (IsNode world plan) (flat_map found all)
  all_flat found each [] good = All-nil (IsNode world plan)
  all_flat found each (nodes ∷ all) good =
      All-append (IsNode world plan) (found nodes) (flat_map found all)
      (each nodes (All-head (IsGroup world plan) nodes all good).all)
      (all_flat found each all (All-tail (IsGroup world plan) nodes all good))

  -- Links that are appended

  -- nodes in order, of which the links are those of the definition
  abbrev pub AreInOrder : LinkKind → List LinkNode → Type 0
  AreInOrder kind nodes = (ordered : List LinkNode) → IsPermutation nodes ordered → IsNonDecreasingBy place_of ordered
      → to_each_once (links_to_nodes page kind ordered) ≡ to_each_once (links_of_kind world plan page kind)

  pub kind_appended : (kind : LinkKind) (all : List LinkTo) (nodes : List LinkNode) (list : LinkList)
      → AreInOrder kind nodes → AppendsLinks page all kind nodes list
      → HoldsLinks page (all ++ links_of_kind world plan page kind) list
  kind_appended kind all nodes list are appends =
      holds_same page (all ++ links_to_nodes page kind appends.ordered) (all ++ links_of_kind world plan page kind) list
      (once_same all all (links_to_nodes page kind appends.ordered) (links_of_kind world plan page kind) refl
      (are appends.ordered appends.permuted appends.sorted)) appends.holds

  exact : (kind : LinkKind) (nodes found : List LinkNode) → nodes ≡ found → All (IsNode world plan) found
      → ((to : ℕ) → is_linked world plan page kind to ≡ list_any (is_place to) found) → AreInOrder kind nodes
  exact kind nodes found same all linked = λ ordered permuted sorted.
      in_place world plan page kind nodes ordered permuted sorted (subst (All (IsNode world plan)) (sym same) all)
      (λ to link is there. linked to ∙ ap (list_any (is_place to)) (sym same) ∙ there)
      (λ to link is so. record {
        other = to;
        upto = omega arith;
        there = ap (list_any (is_place to)) same ∙ sym (linked to) ∙ so;
        is = is;
      })

  previous_in_order : (nodes : List LinkNode)
      → nodes ≡ flat_map (previous_of page) (groups world plan (codes "sequence")) → AreInOrder links.Previous nodes
  previous_in_order nodes same =
      exact links.Previous nodes (flat_map (previous_of page) (groups world plan (codes "sequence"))) same
      (all_flat (previous_of page) all_previous (groups world plan (codes "sequence"))
      (groups_good world plan (codes "sequence"))) (linked_previous world plan page)

  next_in_order : (nodes : List LinkNode)
      → nodes ≡ flat_map (next_of page) (groups world plan (codes "sequence")) → AreInOrder links.Next nodes
  next_in_order nodes same =
      exact links.Next nodes (flat_map (next_of page) (groups world plan (codes "sequence"))) same
      (all_flat (next_of page) all_next (groups world plan (codes "sequence"))
      (groups_good world plan (codes "sequence"))) (linked_next world plan page)

  pub on_ok : {A : Type 0} (result : Result A NoMemory) (P Q : Type 0) → (P → Q) → OnOk result P → OnOk result Q
  on_ok (Ok x) P Q f p = f p
  on_ok (Err e) P Q f p = p

  pub previous_appended : (all : List LinkTo) (sequences : Sequences) (nodes : List LinkNode) (list : LinkList)
      → AreSequencesOf world plan sequences → nodes ≡ listed page sequences.previous.entries
      → AppendsLinks page all links.Previous nodes list
      → HoldsLinks page (all ++ links_of_kind world plan page links.Previous) list
  previous_appended all sequences nodes list are same =
      kind_appended links.Previous all nodes list (previous_in_order nodes (same ∙ are.previous page))

  pub both_appended : {A : Type 0} (all : List LinkTo) (sequences : Sequences) (result : Result A NoMemory)
      (nodes : List LinkNode) (list : LinkList)
      → AreSequencesOf world plan sequences → nodes ≡ listed page sequences.next.entries
      → OnOk result (AppendsLinks page (all ++ links_of_kind world plan page links.Previous) links.Next nodes list)
      → OnOk result (HoldsLinks page (all ++ links_beside world plan page) list)
  both_appended all sequences result nodes list are same =
      on_ok result (AppendsLinks page (all ++ links_of_kind world plan page links.Previous) links.Next nodes list)
      (HoldsLinks page (all ++ links_beside world plan page) list)
      (λ appends. subst (λ l. HoldsLinks page l list)
      (append_assoc all (links_of_kind world plan page links.Previous) (links_of_kind world plan page links.Next))
      (kind_appended links.Next (all ++ links_of_kind world plan page links.Previous) nodes list
      (next_in_order nodes (same ∙ are.next page)) appends))

-- A sequence more

short_next : (page : ℕ) (nodes : List LinkNode) → length nodes ≤ 1 → next_of page nodes ≡ []
short_next page [] short = refl
short_next page (one ∷ []) short = refl
short_next page (one ∷ other ∷ more) short = absurd (omega (arith, short))

short_previous : (page : ℕ) (nodes : List LinkNode) → length nodes ≤ 1 → previous_of page nodes ≡ []
short_previous page [] short = refl
short_previous page (one ∷ []) short = refl
short_previous page (one ∷ other ∷ more) short = absurd (omega (arith, short))

-- all pairs of a sequence
pub sequence_added : (groups : List (List LinkNode)) (nodes : List LinkNode) (old new : Sequences) (at : ℕ)
    → AreSequences groups old → length nodes ≤ at
    → ((page : ℕ) → listed page new.next.entries ++ next_of page (drop (at - 1) nodes)
    ≡ listed page old.next.entries ++ next_of page nodes)
    → ((page : ℕ) → listed page new.previous.entries ++ previous_of page (drop (at - 1) nodes)
    ≡ listed page old.previous.entries ++ previous_of page nodes)
    → AreSequences (groups ++ nodes ∷ []) new
sequence_added groups nodes old new at before all next previous = record {
  previous = λ page.
      added (previous_of page) (listed page new.previous.entries) (listed page old.previous.entries)
      (short_previous page (drop (at - 1) nodes) short) (previous page) (before.previous page);
  next = λ page.
      added (next_of page) (listed page new.next.entries) (listed page old.next.entries)
      (short_next page (drop (at - 1) nodes) short) (next page) (before.next page);
}
  where
    short : length (drop (at - 1) nodes) ≤ 1
    short = omega (arith, length-drop (at - 1) nodes, all)

    added : (found : List LinkNode → List LinkNode) (now was : List LinkNode) → found (drop (at - 1) nodes) ≡ []
        → now ++ found (drop (at - 1) nodes) ≡ was ++ found nodes → was ≡ flat_map found groups
        → now ≡ flat_map found (groups ++ nodes ∷ [])
    added found now was none so is =
        sym (ap (λ l. now ++ l) none ∙ append-nil now) ∙ so ∙ ap (λ l. l ++ found nodes) is
        ∙ ap (λ l. flat_map found groups ++ l) (sym (append-nil (found nodes)))
        ∙ sym (flat_map-append found groups (nodes ∷ []))

-- Links in families: the first nodes of their pages are enough for those that the definition links.
use Rattle.std.specs.Prelude.{◌≡◌, ◌≤◌, ◌==◌, ◌&&◌, ◌||◌, ℕ, Bool, true, false, not, List, [], ◌∷◌, ◌++◌, Option, Some, None, OnOk, Result, codes, filter, map, nat_le, if◌then◌else◌}
use Rattle.std.specs.List.{All, flat_map, list_any}
use Rattle.std.specs.Option.{option_and_then, option_map_or}
use Rattle.std.proofs.Common.{refl, sym, ap, subst, ◌∙◌, arith}
use Rattle.std.proofs.Math.Logic.{⊎_elim}
use Rattle.std.proofs.lemmas.Bool.{and_from, and_parts, eqb-true, false_from_ne_true, le-leb, leb-true, not_from_false, or_cases, or_left, or_right}
use Rattle.std.proofs.lemmas.List.Elements.{All-cons, All-contains, All-filter, All-head, All-nil, All-tail}
use Rattle.std.proofs.lemmas.List.Folds.{Any-from_list_any, list_any-from_Any}
use Rattle.std.proofs.lemmas.Map.Views.{any-filter_same}
use Rattle.dita_doc.specs.declared.content.LinkKind.TheVariants as links
use Rattle.dita_doc.specs.declared.plan.Plan.{Plan}
use Rattle.dita_doc.specs.declared.stop.NoMemory.{NoMemory}
use Rattle.dita_doc.proofs.Lists.{any_map}
use Rattle.dita_doc.proofs.Tests.{number_itself, number_swaps}
use Rattle.link_groups.specs.LinkLists.{AppendsLinks, HoldsLinks, link_beside}
use Rattle.link_groups.specs.LinkNodes.{is_source_at, is_target_at}
use Rattle.link_groups.specs.declared.link_list.LinkList.{LinkList}
use Rattle.link_groups.specs.declared.link_nodes.LinkNode.{LinkNode}
use Rattle.link_groups.proofs.OrderLaws.{is_linked, link_at}
use Rattle.map_spec.specs.Scopes.{places}
use Rattle.link_spec.specs.Links.{LinkTo, are_siblings, is_among, is_page_at, may_link, page_of_node}
use Rattle.reader_spec.specs.World.{World}
use Rattle.family_links.specs.Families.{AreFamiliesOf, first_targets, is_linking, links_to_siblings, siblings_of, targets_from}
use Rattle.family_links.specs.Grouped.{groups}
use Rattle.family_links.specs.declared.families.Families.{Families}
use Rattle.family_links.proofs.AnyLaws.{any_flat, any_place}
use Rattle.family_links.proofs.GroupLaws.{IsGroup, groups_good}
use Rattle.family_links.proofs.NodeLaws.{IsNode, RiseFrom, is_place, node_page, node_source, node_target, node_within, place_of, rise_any}
use Rattle.family_links.proofs.OrderedLaws.{Earlier, in_place}
use Rattle.family_links.proofs.SequenceLaws.{AreInOrder, all_flat, by_groups, kind_appended, links_so, on_ok}

-- The first nodes of their pages

module _ (p : LinkNode → Bool) where
  abbrev target_so : LinkNode → Bool
  target_so node = node.is_target && p node

  kept_any : (q : LinkNode → Bool) (nodes : List LinkNode) → list_any p (filter q nodes) ≡ true
      → list_any p nodes ≡ true
  kept_any q [] among = cc
  kept_any q (node ∷ nodes) among = by_test (kept_any q nodes) (q node) refl
    where
      by_test : (list_any p (filter q nodes) ≡ true → list_any p nodes ≡ true) → (b : Bool) → q node ≡ b
          → list_any p (node ∷ nodes) ≡ true
      by_test behind true e =
          let there : (p node || list_any p (filter q nodes)) ≡ true =
          sym (ap (λ b. list_any p (if b then node ∷ filter q nodes else filter q nodes)) e) ∙ among in
          ⊎_elim (λ first. or_left (p node) (list_any p nodes) first)
          (λ rest. or_right (p node) (list_any p nodes) (behind rest))
          (or_cases (p node) (list_any p (filter q nodes)) there)
      by_test behind false e =
          or_right (p node) (list_any p nodes)
          (behind (sym (ap (λ b. list_any p (if b then node ∷ filter q nodes else filter q nodes)) e) ∙ among))

  -- they may be linked to
  first_are : (nodes : List LinkNode) → list_any p (first_targets nodes) ≡ true → list_any target_so nodes ≡ true
  first_are [] among = cc
  first_are (node ∷ nodes) among = by_target (first_are nodes) node.is_target refl
    where
      rest : List LinkNode
      rest = filter (λ (other : LinkNode). not (other.page == node.page)) (first_targets nodes)

      by_target : (list_any p (first_targets nodes) ≡ true → list_any target_so nodes ≡ true) → (b : Bool)
          → node.is_target ≡ b → list_any target_so (node ∷ nodes) ≡ true
      by_target behind true e =
          let there : (p node || list_any p rest) ≡ true =
          sym (ap (λ b. list_any p (if b then node ∷ rest else first_targets nodes)) e) ∙ among in
          ⊎_elim (λ first. or_left (target_so node) (list_any target_so nodes)
          (and_from node.is_target (p node) e first))
          (λ later. or_right (target_so node) (list_any target_so nodes) (behind
          (kept_any (λ (other : LinkNode). not (other.page == node.page)) (first_targets nodes) later)))
          (or_cases (p node) (list_any p rest) there)
      by_target behind false e =
          or_right (target_so node) (list_any target_so nodes)
          (behind (sym (ap (λ b. list_any p (if b then node ∷ rest else first_targets nodes)) e) ∙ among))

-- one of them has the page of each that may be linked to, and stands there or before it
module _ (page to : ℕ) where
  abbrev is_before : LinkNode → Bool
  is_before node = (node.page == page) && nat_le node.at to

  abbrev is_wanted : LinkNode → Bool
  is_wanted node = node.is_target && ((node.at == to) && (node.page == page))

  later_of : (node : LinkNode) (nodes : List LinkNode) → RiseFrom node.at nodes → list_any is_wanted nodes ≡ true
      → node.at ≤ to
  later_of node nodes rise among =
      let found = Any-from_list_any is_wanted nodes among in
      let test = and_parts (found.1.at == to) (found.1.page == page) (and_parts found.1.is_target
      ((found.1.at == to) && (found.1.page == page)) found.4).1 in
      rise_any node.at to nodes rise (list_any-from_Any (is_place to) nodes
      (found.0, found.1, found.2, found.3, test.0))

  first_has : (from : ℕ) (nodes : List LinkNode) → RiseFrom from nodes → list_any is_wanted nodes ≡ true
      → list_any is_before (first_targets nodes) ≡ true
  first_has from [] rise among = cc
  first_has from (node ∷ nodes) rise among =
      by_target (first_has node.at nodes rise.1) (later_of node nodes rise.1) node.is_target refl
    where
      rest : List LinkNode
      rest = filter (λ (other : LinkNode). not (other.page == node.page)) (first_targets nodes)

      split : (is_wanted node || list_any is_wanted nodes) ≡ true
      split = among

      at_once : (node.page == page) ≡ true → node.at ≤ to → list_any is_before (node ∷ rest) ≡ true
      at_once same less =
          or_left (is_before node) (list_any is_before rest)
          (and_from (node.page == page) (nat_le node.at to) same (le-leb node.at to less))

      in_rest : (node.page == page) ≡ false → list_any is_before (first_targets nodes) ≡ true
          → list_any is_before (node ∷ rest) ≡ true
      in_rest other there =
          or_right (is_before node) (list_any is_before rest)
          (any-filter_same is_before (λ (k : LinkNode). not (k.page == node.page)) true
          (λ k so. ap not (ap (λ n. n == node.page)
          (eqb-true k.page page (and_parts (k.page == page) (nat_le k.at to) so).0)
          ∙ number_swaps page node.page ∙ other)) (first_targets nodes) ∙ there)

      by_page : (list_any is_wanted nodes ≡ true → list_any is_before (first_targets nodes) ≡ true)
          → (list_any is_wanted nodes ≡ true → node.at ≤ to) → (b : Bool) → (node.page == page) ≡ b
          → list_any is_before (node ∷ rest) ≡ true
      by_page behind later true e = at_once e (⊎_elim (λ first. here first) later
          (or_cases (is_wanted node) (list_any is_wanted nodes) split))
        where
          here : is_wanted node ≡ true → node.at ≤ to
          here first =
              let same = eqb-true node.at to (and_parts (node.at == to) (node.page == page)
              (and_parts node.is_target ((node.at == to) && (node.page == page)) first).1).0 in
              omega (arith, same)
      by_page behind later false e = in_rest e (⊎_elim (λ first. absurd (no first)) behind
          (or_cases (is_wanted node) (list_any is_wanted nodes) split))
        where
          no : is_wanted node ≡ true → ⊥
          no first =
              let same = (and_parts (node.at == to) (node.page == page)
              (and_parts node.is_target ((node.at == to) && (node.page == page)) first).1).1 in
              let both : true ≡ false = sym same ∙ e in cc

      by_target : (list_any is_wanted nodes ≡ true → list_any is_before (first_targets nodes) ≡ true)
          → (list_any is_wanted nodes ≡ true → node.at ≤ to) → (b : Bool) → node.is_target ≡ b
          → list_any is_before (if node.is_target then node ∷ rest else first_targets nodes) ≡ true
      by_target behind later true e =
          ap (λ b. list_any is_before (if b then node ∷ rest else first_targets nodes)) e
          ∙ by_page behind later (node.page == page) refl
      by_target behind later false e =
          ap (λ b. list_any is_before (if b then node ∷ rest else first_targets nodes)) e
          ∙ behind (⊎_elim (λ first. absurd (no first)) (λ rest. rest)
          (or_cases (is_wanted node) (list_any is_wanted nodes) split))
        where
          no : is_wanted node ≡ true → ⊥
          no first =
              let is = (and_parts node.is_target ((node.at == to) && (node.page == page)) first).0 in
              let both : true ≡ false = sym is ∙ e in cc

-- In one family

module _ (world : World) (plan : Plan) (page : ℕ) where
  abbrev pub sibling_at : ℕ → Option LinkTo
  sibling_at = link_at world plan page links.Sibling

  abbrev pub links_in : ℕ → List LinkNode → Bool
  links_in to nodes =
      list_any (links_so world plan page to (λ from. are_siblings from to (map place_of nodes))) (places plan.nodes)

  of_page : (node : LinkNode) → IsNode world plan node → is_page_at plan page node.at ≡ (node.page == page)
  of_page node is = ap (λ found. option_map_or (λ own. own == page) found false) (node_page world plan node is)

  -- a link leads to another page
  not_own : (node : LinkNode) (to : ℕ) (link : LinkTo) → IsNode world plan node → (page == node.page) ≡ true
      → sibling_at to ≡ Some link → (node.at == to) ≡ false
  not_own node to link is own leads = false_from_ne_true (node.at == to) (λ same. nowhere (
      sym (ap (option_and_then (link_beside page links.Sibling))
      (ap (page_of_node plan) (sym (eqb-true node.at to same)) ∙ node_page world plan node is)
      ∙ ap (λ b. if b then None else Some (record { kind = links.Sibling; page = node.page }))
      (number_swaps node.page page ∙ own)) ∙ leads))
    where
      nowhere : None ≡ Some link → ⊥
      nowhere e = cc

  among_of : (at : ℕ) (nodes : List LinkNode) → is_among at (map place_of nodes) ≡ list_any (is_place at) nodes
  among_of at nodes = any_map (λ other. other == at) place_of nodes

  linked_if : (b : Bool) (nodes : List LinkNode) (to : ℕ) → list_any (is_place to) (if b then nodes else []) ≡ true
      → (b ≡ true) × (list_any (is_place to) nodes ≡ true)
  linked_if true nodes to there = (refl, there)
  linked_if false nodes to there = cc

  -- what is found is linked to
  found_linked : (to : ℕ) (link : LinkTo) (nodes : List LinkNode) → IsGroup world plan nodes → sibling_at to ≡ Some link
      → list_any (is_place to) (siblings_of page nodes) ≡ true → links_in to nodes ≡ true
  found_linked to link nodes good leads there =
      let both = linked_if (is_linking page nodes) (first_targets nodes) to there in
      let own = Any-from_list_any (λ (n : LinkNode). (page == n.page) && n.is_source) nodes both.0 in
      let mine = own.1 in
      let mine_is = All-contains (IsNode world plan) nodes mine good.all (own.0, own.2, own.3) in
      let says = and_parts (page == mine.page) mine.is_source own.4 in
      let target = Any-from_list_any (target_so (is_place to)) nodes (first_are (is_place to) nodes both.1) in
      let other = target.1 in
      let other_is = All-contains (IsNode world plan) nodes other good.all (target.0, target.2, target.3) in
      let takes = and_parts other.is_target (is_place to other) target.4 in
      any_place (links_so world plan page to (λ from. are_siblings from to (map place_of nodes))) plan.nodes mine.at
      (node_within world plan mine mine_is)
      (and_from (is_page_at plan page mine.at && are_siblings mine.at to (map place_of nodes))
      (may_link world plan mine.at to)
      (and_from (is_page_at plan page mine.at) (are_siblings mine.at to (map place_of nodes))
      (of_page mine mine_is ∙ number_swaps mine.page page ∙ says.0)
      (and_from (not (mine.at == to) && is_among mine.at (map place_of nodes)) (is_among to (map place_of nodes))
      (and_from (not (mine.at == to)) (is_among mine.at (map place_of nodes))
      (not_from_false (mine.at == to) (not_own mine to link mine_is says.0 leads))
      (among_of mine.at nodes ∙ list_any-from_Any (is_place mine.at) nodes
      (own.0, mine, own.2, own.3, number_itself mine.at)))
      (among_of to nodes ∙ list_any-from_Any (is_place to) nodes
      (target.0, other, target.2, target.3, takes.1))))
      (and_from (is_source_at world plan mine.at) (is_target_at world plan to)
      (node_source world plan mine mine_is ∙ says.1)
      (ap (is_target_at world plan) (sym (eqb-true other.at to takes.1))
      ∙ node_target world plan other other_is ∙ takes.0)))

  first_good : (nodes : List LinkNode) → All (IsNode world plan) nodes → All (IsNode world plan) (first_targets nodes)
  first_good [] all = All-nil (IsNode world plan)
  first_good (node ∷ nodes) all =
      by_target (first_good nodes (All-tail (IsNode world plan) node nodes all)) node.is_target
    where
      by_target : All (IsNode world plan) (first_targets nodes) → (b : Bool) → All (IsNode world plan)
          (if b then node ∷ filter (λ (other : LinkNode). not (other.page == node.page)) (first_targets nodes)
          else first_targets nodes)
      by_target behind true = All-cons (IsNode world plan) node
          (filter (λ (other : LinkNode). not (other.page == node.page)) (first_targets nodes))
          (All-head (IsNode world plan) node nodes all)
          (All-filter (λ (other : LinkNode). not (other.page == node.page)) (IsNode world plan)
          (first_targets nodes) behind)
      by_target behind false = behind

  siblings_good : (nodes : List LinkNode) → All (IsNode world plan) nodes
      → All (IsNode world plan) (siblings_of page nodes)
  siblings_good nodes all = by_linking (is_linking page nodes)
    where
      by_linking : (b : Bool) → All (IsNode world plan) (if b then first_targets nodes else [])
      by_linking true = first_good nodes all
      by_linking false = All-nil (IsNode world plan)

  -- what is linked to has a node of its page among what is found, there or before it
  linked_found : (to : ℕ) (link : LinkTo) (nodes : List LinkNode) → IsGroup world plan nodes → sibling_at to ≡ Some link
      → links_in to nodes ≡ true → Earlier sibling_at (siblings_of page nodes) to link
  linked_found to link nodes good leads linked =
      let so = Any-from_list_any (links_so world plan page to (λ from. are_siblings from to (map place_of nodes)))
      (places plan.nodes) linked in
      let from = so.1 in
      let parts = and_parts (is_page_at plan page from && are_siblings from to (map place_of nodes))
      (may_link world plan from to) so.4 in
      let stands = and_parts (is_page_at plan page from) (are_siblings from to (map place_of nodes)) parts.0 in
      let among = and_parts (not (from == to) && is_among from (map place_of nodes)) (is_among to (map place_of nodes))
      stands.1 in
      let may = and_parts (is_source_at world plan from) (is_target_at world plan to) parts.1 in
      let own = Any-from_list_any (is_place from) nodes (sym (among_of from nodes)
      ∙ (and_parts (not (from == to)) (is_among from (map place_of nodes)) among.0).1) in
      let mine = own.1 in
      let mine_at = eqb-true mine.at from own.4 in
      let mine_is = All-contains (IsNode world plan) nodes mine good.all (own.0, own.2, own.3) in
      let target = Any-from_list_any (is_place to) nodes (sym (among_of to nodes) ∙ among.1) in
      let other = target.1 in
      let other_at = eqb-true other.at to target.4 in
      let other_is = All-contains (IsNode world plan) nodes other good.all (target.0, target.2, target.3) in
      let linking : is_linking page nodes ≡ true =
      list_any-from_Any (λ (n : LinkNode). (page == n.page) && n.is_source) nodes (
        own.0,
        mine,
        own.2,
        own.3,
        and_from (page == mine.page) mine.is_source
            (number_swaps page mine.page ∙ sym (of_page mine mine_is) ∙ ap (is_page_at plan page) mine_at ∙ stands.0)
            (sym (node_source world plan mine mine_is) ∙ ap (is_source_at world plan) mine_at ∙ may.0),
      ) in
      let found = Any-from_list_any (is_before other.page to) (first_targets nodes)
      (first_has other.page to 0 nodes good.rise (list_any-from_Any (is_wanted other.page to) nodes (
        target.0,
        other,
        target.2,
        target.3,
        and_from other.is_target ((other.at == to) && (other.page == other.page))
            (sym (node_target world plan other other_is) ∙ ap (is_target_at world plan) other_at ∙ may.1)
            (and_from (other.at == to) (other.page == other.page) target.4 (number_itself other.page)),
      ))) in
      let first = found.1 in
      let first_is = All-contains (IsNode world plan) (first_targets nodes) first (first_good nodes good.all)
      (found.0, found.2, found.3) in
      let before = and_parts (first.page == other.page) (nat_le first.at to) found.4 in
      record {
        other = first.at;
        upto = leb-true first.at to before.1;
        there = ap (λ b. list_any (is_place first.at) (if b then first_targets nodes else [])) linking
            ∙ list_any-from_Any (is_place first.at) (first_targets nodes)
            (found.0, first, found.2, found.3, number_itself first.at);
        is = ap (option_and_then (link_beside page links.Sibling)) (node_page world plan first first_is
            ∙ ap Some (eqb-true first.page other.page before.0)
            ∙ sym (ap (page_of_node plan) (sym other_at) ∙ node_page world plan other other_is)) ∙ leads;
      }

  -- In all

  linked_by : (to : ℕ) → is_linked world plan page links.Sibling to
      ≡ list_any (links_in to) (groups world plan (codes "family"))
  linked_by to =
      by_groups world plan page to links.Sibling (codes "family") (λ from all. are_siblings from to all) (λ from. refl)

  abbrev found_all : List LinkNode
  found_all = flat_map (siblings_of page) (groups world plan (codes "family"))

  all_linked : (to : ℕ) (link : LinkTo) → sibling_at to ≡ Some link → list_any (is_place to) found_all ≡ true
      → is_linked world plan page links.Sibling to ≡ true
  all_linked to link leads there =
      let found = Any-from_list_any (λ nodes. list_any (is_place to) (siblings_of page nodes))
      (groups world plan (codes "family"))
      (sym (any_flat (is_place to) (siblings_of page) (groups world plan (codes "family"))) ∙ there) in
      let good = All-contains (IsGroup world plan) (groups world plan (codes "family")) found.1
      (groups_good world plan (codes "family")) (found.0, found.2, found.3) in
      linked_by to ∙ list_any-from_Any (links_in to) (groups world plan (codes "family"))
      (found.0, found.1, found.2, found.3, found_linked to link found.1 good leads found.4)

  all_found : (to : ℕ) (link : LinkTo) → sibling_at to ≡ Some link → is_linked world plan page links.Sibling to ≡ true
      → Earlier sibling_at found_all to link
  all_found to link leads linked =
      let found = Any-from_list_any (links_in to) (groups world plan (codes "family")) (sym (linked_by to) ∙ linked) in
      let good = All-contains (IsGroup world plan) (groups world plan (codes "family")) found.1
      (groups_good world plan (codes "family")) (found.0, found.2, found.3) in
      let earlier = linked_found to link found.1 good leads found.4 in
      record {
        other = earlier.other;
        upto = earlier.upto;
        there = any_flat (is_place earlier.other) (siblings_of page) (groups world plan (codes "family"))
            ∙ list_any-from_Any (λ nodes. list_any (is_place earlier.other) (siblings_of page nodes))
            (groups world plan (codes "family")) (found.0, found.1, found.2, found.3, earlier.there);
        is = earlier.is;
      }

  siblings_in_order : (nodes : List LinkNode) → nodes ≡ found_all → AreInOrder world plan page links.Sibling nodes
  siblings_in_order nodes same = λ ordered permuted sorted.
      in_place world plan page links.Sibling nodes ordered permuted sorted
      (subst (All (IsNode world plan)) (sym same) (all_flat world plan page (siblings_of page) siblings_good
      (groups world plan (codes "family")) (groups_good world plan (codes "family"))))
      (λ to link is there. all_linked to link is (ap (list_any (is_place to)) (sym same) ∙ there))
      (λ to link is linked. subst (λ l. Earlier sibling_at l to link) (sym same) (all_found to link is linked))

pub siblings_appended : {A : Type 0} (world : World) (plan : Plan) (page : ℕ) (all : List LinkTo) (families : Families)
    (result : Result A NoMemory) (nodes : List LinkNode) (list : LinkList) → AreFamiliesOf world plan families
    → nodes ≡ targets_from page families → OnOk result (AppendsLinks page all links.Sibling nodes list)
    → OnOk result (HoldsLinks page (all ++ links_to_siblings world plan page) list)
siblings_appended world plan page all families result nodes list are same =
    on_ok world plan page result (AppendsLinks page all links.Sibling nodes list)
    (HoldsLinks page (all ++ links_to_siblings world plan page) list)
    (kind_appended world plan page links.Sibling all nodes list
    (siblings_in_order world plan page nodes (same ∙ are.are page)))

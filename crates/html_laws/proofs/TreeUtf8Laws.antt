-- The nodes of a map in a world of UTF-8: the names of their documents and their affixes are UTF-8.
use Rattle.std.specs.Prelude.{◌+◌, ◌||◌, ◌&&◌, ℕ, zero, suc, false, List, [], ◌∷◌, ◌++◌, Option, Some, None, IfSome, map, option_map, unwrap_or, bytes_eq, codes}
use Rattle.std.specs.List.{AllByRecursion, flat_map, list_any}
use Rattle.std.specs.Option.{option_to_list}
use Rattle.std.specs.Str.{IsUtf8}
use Rattle.std.proofs.lemmas.Str.{IsUtf8-nil}
use Rattle.dita_doc.specs.declared.content.Rule.{Rule}
use Rattle.dita_doc.specs.declared.fault.FaultCode.TheVariants as faults
use Rattle.dita_doc.specs.declared.plan.Affix.{Affix}
use Rattle.dita_doc.specs.declared.plan.PlanKind.{PlanKind}
use Rattle.dita_doc.specs.declared.plan.PlanKind.TheVariants as kinds
use Rattle.dita_doc.specs.declared.plan.PlanNode.{PlanNode}
use Rattle.reader_spec.specs.World.{World}
use Rattle.map_spec.specs.Branches.{Branch, affix_written, all_beside, all_marked, branch_of, branches_of, copied, copies, copy_below, copy_for, ditavalrefs, group_for, has_branches, is_ditavalref, is_map_node, is_no_text, marked, metadata_text, names_in_copy, with_scope_names}
use Rattle.map_spec.specs.Elements.{attribute, class_faults, first_under, is_transparent}
use Rattle.map_spec.specs.Included.{MapAround, around_below, if_map, includes_map, is_map, kind_of, map_in, map_included, new_head, map_node_made, nodes_among, nodes_by, nodes_of_element, root_in, root_place, submap_found, submap_named, submap_of, fault_alone}
use Rattle.map_spec.specs.Judged.{filtered, has_element, is_excluded, judged, kept, whole_of}
use Rattle.map_spec.specs.MapTree.{Grown, Head, MapNode, MapTree, NoNodes, beneath, beside, count, nodes_below, plan_nodes, trees_beside, with_faults}
use Rattle.map_spec.specs.Target.{Document, Elsewhere, Named, Unreadable, default_scope, file_named, is_far, named_if_read, named_of}
use Rattle.map_spec.specs.Written.{Element, Whole, Written, End, Chars, Node, document, element_in, first_sibling, size}
use Rattle.href_text.specs.Reference.{is_external}
use Rattle.html_laws.specs.Utf8.{IsUtf8Content, IsUtf8Element, IsUtf8World}
use Rattle.html_laws.proofs.ContentUtf8Laws.{IsUtf8Root, IsUtf8Whole, utf8_attribute_of, utf8_element_in, utf8_text_of, utf8_under}
use Rattle.html_laws.proofs.EachLaws.{chosen, of_and_then, of_both, of_lists, of_mapped, of_option, of_option_map}
use Rattle.html_laws.proofs.ReferenceUtf8Laws.{utf8_file_named}

-- Heads and trees

abbrev pub IsUtf8Affix : Affix → Type 0
IsUtf8Affix affix = IsUtf8 affix.prefix × IsUtf8 affix.suffix

abbrev pub IsUtf8Head : Head → Type 0
IsUtf8Head head = IsUtf8 head.doc × AllByRecursion IsUtf8Affix head.affixes

abbrev pub IsUtf8Tree : MapTree → Type 0
IsUtf8Tree NoNodes = Unit {0}
IsUtf8Tree (MapNode head below more) = IsUtf8Head head × IsUtf8Tree below × IsUtf8Tree more

abbrev pub IsUtf8Grown : Grown → Type 0
IsUtf8Grown grown = IsUtf8Tree grown.tree

utf8_trees : (tree others : MapTree) → IsUtf8Tree tree → IsUtf8Tree others → IsUtf8Tree (trees_beside tree others)
utf8_trees NoNodes others first second = second
utf8_trees (MapNode head below more) others first second = (first.0, first.1, utf8_trees more others first.2 second)

-- The nodes that elements make

utf8_new_head : (kind : PlanKind) (element : Element) (level place : ℕ) → IsUtf8Element element
    → IsUtf8Head (new_head kind element level place)
utf8_new_head kind element level place is = (is.1, tt)

abbrev GivesUtf8 : (Element → Grown) → Type 0
GivesUtf8 submap = (element : Element) → IsUtf8Element element → IsUtf8Grown (submap element)

module _ (submap : Element → Grown) (gives : GivesUtf8 submap) where
  utf8_node_made : (kind : PlanKind) (around : MapAround) (place : ℕ) (element : Element) (below : Grown)
      → IsUtf8Element element → IsUtf8Grown below
      → IsUtf8Grown (map_node_made submap kind around place element below)
  utf8_node_made kind around place element below first second =
      chosen IsUtf8Grown (includes_map kind around element)
      (beneath (new_head kinds.Included element around.level place) (beside (submap element) below))
      (beneath (new_head kind element around.level place) below) (
        utf8_new_head kinds.Included element around.level place first,
        utf8_trees (submap element).tree below.tree (gives element first) second,
        tt,
      )
      (utf8_new_head kind element around.level place first, second, tt)

  utf8_nodes_by : (kind : Option PlanKind) (around : MapAround) (place : ℕ) (element : Element)
      (below : MapAround → Grown)
      → IsUtf8Element element → ((within : MapAround) → IsUtf8Grown (below within))
      → IsUtf8Grown (nodes_by submap kind around place element below)
  utf8_nodes_by None around place element below first second = tt
  utf8_nodes_by (Some kind) around place element below first second =
      utf8_node_made kind around place element (below (around_below kind around)) first
      (second (around_below kind around))

  utf8_nodes_of : (around : MapAround) (place : ℕ) (element : Element) (below : MapAround → Grown)
      → IsUtf8Element element
      → ((within : MapAround) → IsUtf8Grown (below within))
      → IsUtf8Grown (nodes_of_element submap around place element below)
  utf8_nodes_of around place element below first second =
      chosen IsUtf8Grown (is_transparent element) (with_faults (class_faults element) (below around))
      (nodes_by submap (kind_of element) around place element below) (second around)
      (utf8_nodes_by (kind_of element) around place element below first second)

  utf8_among : (around : MapAround) (place : ℕ) (nodes : Written) → IsUtf8Content nodes
      → IsUtf8Grown (nodes_among submap around place nodes)
  utf8_among around place End all = tt
  utf8_among around place (Chars text doc rest) all = utf8_among around (place + 1) rest all.1
  utf8_among around place (Node element inside rest) all =
      let below = λ (within : MapAround). nodes_among submap within (place + 1) inside in
      utf8_trees (nodes_of_element submap around place element below).tree
      (nodes_among submap around (place + 1 + size inside) rest).tree
      (utf8_nodes_of around place element below all.0 (λ within. utf8_among within (place + 1) inside all.1))
      (utf8_among around (place + 1 + size inside) rest all.2)

-- Roots

utf8_first_sibling : (nodes : Written) → IsUtf8Content nodes → IfSome (first_sibling nodes) IsUtf8Whole
utf8_first_sibling End all = tt
utf8_first_sibling (Chars text doc rest) all = utf8_first_sibling rest all.1
utf8_first_sibling (Node element inside rest) all = (all.0, all.1)

pub utf8_root_in : (world : World) (name : List ℕ) → IsUtf8World world → IsUtf8 name
    → IfSome (root_in world name) IsUtf8Whole
utf8_root_in world name all named =
    of_and_then IsUtf8Content IsUtf8Whole first_sibling (document world name) utf8_first_sibling (all name named)

utf8_map_in : (world : World) (name : List ℕ) → IsUtf8World world → IsUtf8 name → IsUtf8Root (map_in world name)
utf8_map_in world name all named =
    of_and_then IsUtf8Whole IsUtf8Whole if_map (root_in world name)
    (λ root is. chosen IsUtf8Root (is_map root) (Some root) None is tt) (utf8_root_in world name all named)

abbrev IsUtf8Named : Named → Type 0
IsUtf8Named (Document name) = IsUtf8 name
IsUtf8Named Elsewhere = Unit {0}
IsUtf8Named Unreadable = Unit {0}

utf8_named_by : (name : Option (List ℕ)) → IfSome name IsUtf8 → IsUtf8Named (named_if_read name)
utf8_named_by None is = tt
utf8_named_by (Some name) is = is

utf8_named_of : (element : Element) (value : List ℕ) → IsUtf8Element element → IsUtf8 value
    → IsUtf8Named (named_of element value)
utf8_named_of element value first second =
    chosen IsUtf8Named
    (is_far (unwrap_or (attribute (codes "scope") element) default_scope) || is_external value) Elsewhere
    (named_if_read (file_named element.doc value)) tt
    (utf8_named_by (file_named element.doc value) (utf8_file_named element.doc value first.1 second))

record IsUtf8Branch (branch : Branch) : Type 0 where
  head : IsUtf8Head branch.head
  resource : IsUtf8Affix branch.resource

-- Maps with their submaps

module _ (world : World) (all : IsUtf8World world) where
  utf8_submap_found : (grow : Whole → Grown) (path : List (List ℕ)) (element : Element) (name : List ℕ)
      (root : Option Whole) → ((root : Whole) → IsUtf8Whole root → IsUtf8Grown (grow root)) → IsUtf8Root root
      → IsUtf8Grown (submap_found grow path element name root)
  utf8_submap_found grow path element name None grows is = tt
  utf8_submap_found grow path element name (Some root) grows is =
      chosen IsUtf8Grown (list_any (bytes_eq name) path) (fault_alone element faults.MapCycle name) (grow root) tt
      (grows root is)

  utf8_submap_named : (grow : List ℕ → Whole → Grown) (path : List (List ℕ)) (element : Element) (href : List ℕ)
      (name : Named) → ((name : List ℕ) (root : Whole) → IsUtf8Whole root → IsUtf8Grown (grow name root))
      → IsUtf8Named name → IsUtf8Grown (submap_named grow world path element href name)
  utf8_submap_named grow path element href (Document name) grows is =
      utf8_submap_found (grow name) path element name (map_in world name) (grows name) (utf8_map_in world name all is)
  utf8_submap_named grow path element href Elsewhere grows is = tt
  utf8_submap_named grow path element href Unreadable grows is = tt

  utf8_submap_of : (grow : List ℕ → Whole → Grown) (path : List (List ℕ))
      → ((name : List ℕ) (root : Whole) → IsUtf8Whole root → IsUtf8Grown (grow name root))
      → GivesUtf8 (submap_of grow world path)
  utf8_submap_of grow path grows element is =
      let href = unwrap_or (attribute (codes "href") element) [] in
      let href_is : IsUtf8 href =
      of_option IsUtf8 (attribute (codes "href") element) [] (utf8_attribute_of (codes "href") element is.0) IsUtf8-nil in
      utf8_submap_named grow path element href (named_of element href) grows (utf8_named_of element href is href_is)

  pub utf8_included : (fuel : ℕ) (path : List (List ℕ)) (level : ℕ) (root : Whole) → IsUtf8Whole root
      → IsUtf8Grown (map_included fuel world path level root)
  unfolding map_included
  utf8_included zero path level root is = tt
  utf8_included (suc fuel) path level root is =
      let grow = λ (name : List ℕ) (root : Whole). map_included fuel world (path ++ name ∷ []) (level + 1) root in
      let submap = submap_of grow world path in
      let place = root_place world root.0.doc in (
        utf8_new_head kinds.Map root.0 level place is.0,
        utf8_among submap (utf8_submap_of grow path (λ name root one.
            utf8_included fuel (path ++ name ∷ []) (level + 1) root one)) (record { level = level; in_table = false })
            (place + 1) root.1 is.1,
        tt,
      )

  -- Judging

  utf8_kept : (rules : List Rule) (tree : MapTree) → IsUtf8Tree tree → IsUtf8Tree (kept world rules tree)
  utf8_kept rules NoNodes is = tt
  utf8_kept rules (MapNode head below more) is =
      chosen IsUtf8Tree (is_excluded world rules head) (kept world rules more)
      (MapNode head (kept world rules below) (kept world rules more)) (utf8_kept rules more is.2)
      (is.0, utf8_kept rules below is.1, utf8_kept rules more is.2)

  utf8_judged : (rules : List Rule) (tree : MapTree) → IsUtf8Tree tree → IsUtf8Grown (judged world rules tree)
  utf8_judged rules NoNodes is = tt
  utf8_judged rules (MapNode head below more) is =
      let under = judged world rules below in
      let stays : Grown = record { tree = MapNode head under.tree NoNodes; faults = under.faults } in
      chosen IsUtf8Grown (is_excluded world rules head) (judged world rules more)
      (beside stays (judged world rules more)) (utf8_judged rules more is.2)
      (is.0, utf8_judged rules below is.1, utf8_judged rules more is.2)

  pub utf8_filtered : (rules : List Rule) (tree : MapTree) → IsUtf8Tree tree → IsUtf8Grown (filtered world rules tree)
  utf8_filtered rules NoNodes is = tt
  utf8_filtered rules (MapNode head below more) is = (is.0, utf8_judged rules below is.1, is.2)

  -- Branches

  utf8_metadata : (inside : Written) (token : List ℕ) → IsUtf8Content inside → IsUtf8 (metadata_text inside token)
  utf8_metadata inside token is =
      utf8_text_of (first_under (codes "ditavalref-d/ditavalmeta") token inside)
      (utf8_under (codes "ditavalref-d/ditavalmeta") token inside is)

  utf8_branch_of : (head : Head) (whole : Whole) → IsUtf8Head head → IsUtf8Whole whole
      → IsUtf8Branch (branch_of world head whole)
  utf8_branch_of head whole first second = record {
    head = first;
    resource = (
      utf8_metadata whole.1 (codes "ditavalref-d/dvrResourcePrefix") second.1,
      utf8_metadata whole.1 (codes "ditavalref-d/dvrResourceSuffix") second.1,
    );
  }

  utf8_refs : (tree : MapTree) → IsUtf8Tree tree → AllByRecursion IsUtf8Head (ditavalrefs tree)
  utf8_refs NoNodes is = tt
  utf8_refs (MapNode head below more) is =
      chosen (AllByRecursion IsUtf8Head) (is_ditavalref head.kind) (head ∷ ditavalrefs more) (ditavalrefs more)
      (is.0, utf8_refs more is.2) (utf8_refs more is.2)

  utf8_whole_of : (head : Head) → IsUtf8Head head → IsUtf8Root (whole_of world head)
  utf8_whole_of head is = chosen IsUtf8Root (has_element head.kind) (element_in world head.doc head.place) None
      (utf8_element_in world head.doc head.place all is.0) tt

  utf8_to_list : (branch : Option Branch) → IfSome branch IsUtf8Branch
      → AllByRecursion IsUtf8Branch (option_to_list branch)
  utf8_to_list None is = tt
  utf8_to_list (Some branch) is = (is, tt)

  utf8_branches : (head : Head) (below : MapTree) → IsUtf8Tree below
      → AllByRecursion IsUtf8Branch (branches_of world head below)
  utf8_branches head below is =
      let make = λ (ref : Head). option_to_list (option_map (branch_of world ref) (whole_of world ref)) in
      chosen (AllByRecursion IsUtf8Branch) (has_branches head.kind) (flat_map make (ditavalrefs below)) []
      (of_lists IsUtf8Head IsUtf8Branch make (ditavalrefs below)
      (λ ref one. utf8_to_list (option_map (branch_of world ref) (whole_of world ref))
      (of_option_map IsUtf8Whole IsUtf8Branch (branch_of world ref) (whole_of world ref)
      (λ whole two. utf8_branch_of ref whole one two) (utf8_whole_of ref one))) (utf8_refs below is)) tt

  utf8_affix_written : (affix : Affix) → IsUtf8Affix affix → AllByRecursion IsUtf8Affix (affix_written affix)
  utf8_affix_written affix is =
      chosen (AllByRecursion IsUtf8Affix) (is_no_text affix.prefix && is_no_text affix.suffix) [] (affix ∷ []) tt (is, tt)

  utf8_marked : (branch : Branch) (head : Head) → IsUtf8Branch branch → IsUtf8Head head
      → IsUtf8Head (marked branch head)
  utf8_marked branch head first second = (
    second.0,
    of_both IsUtf8Affix head.affixes (affix_written branch.resource) second.1
        (utf8_affix_written branch.resource first.resource),
  )

  utf8_all_marked : (branch : Branch) (tree : MapTree) → IsUtf8Branch branch → IsUtf8Tree tree
      → IsUtf8Tree (all_marked branch tree)
  utf8_all_marked branch NoNodes first second = tt
  utf8_all_marked branch (MapNode head below more) first second = (
    utf8_marked branch head first second.0,
    utf8_all_marked branch below first second.1,
    utf8_all_marked branch more first second.2,
  )

  utf8_copy_below : (branch : Branch) (below : MapTree) → IsUtf8Branch branch → IsUtf8Tree below
      → IsUtf8Tree (copy_below world branch below)
  utf8_copy_below branch below first second =
      utf8_all_marked branch (kept world branch.filter.rules below) first (utf8_kept branch.filter.rules below second)

  utf8_copy_for : (head : Head) (below : MapTree) (branch : Branch) → IsUtf8Head head → IsUtf8Tree below
      → IsUtf8Branch branch → IsUtf8Tree (copy_for world head below branch)
  utf8_copy_for head below branch first second third =
      let made = record (marked branch head) { scope_names = names_in_copy branch.keyscope head.scope_names } in
      chosen IsUtf8Tree (is_excluded world branch.filter.rules head) NoNodes
      (MapNode made (copy_below world branch below) NoNodes) tt
      (utf8_marked branch head third first, utf8_copy_below branch below third second, tt)

  utf8_group_for : (head : Head) (below : MapTree) (branch : Branch) → IsUtf8Tree below → IsUtf8Branch branch
      → IsUtf8Tree (group_for world head below branch)
  utf8_group_for head below branch second third =
      (utf8_marked branch branch.head third third.head, utf8_copy_below branch below third second, tt)

  utf8_all_beside : (trees : List MapTree) → AllByRecursion IsUtf8Tree trees → IsUtf8Tree (all_beside trees)
  utf8_all_beside [] is = tt
  utf8_all_beside (tree ∷ trees) is = utf8_trees tree (all_beside trees) is.0 (utf8_all_beside trees is.1)

  utf8_copies : (head : Head) (below : MapTree) (branches : List Branch) → IsUtf8Head head → IsUtf8Tree below
      → AllByRecursion IsUtf8Branch branches → IsUtf8Tree (copies world head below branches)
  utf8_copies head below [] first second third = (first, second, tt)
  utf8_copies head below (branch ∷ branches) first second third =
      let all_of = branch ∷ branches in
      let groups = map (group_for world head below) all_of in
      let parts = map (copy_for world head below) all_of in
      chosen IsUtf8Tree (is_map_node head.kind) (MapNode head (all_beside groups) NoNodes) (all_beside parts) (
        first,
        utf8_all_beside groups (of_mapped IsUtf8Branch IsUtf8Tree (group_for world head below) all_of
            (λ one is. utf8_group_for head below one second is) third),
        tt,
      )
      (utf8_all_beside parts (of_mapped IsUtf8Branch IsUtf8Tree (copy_for world head below) all_of
      (λ one is. utf8_copy_for head below one first second is) third))

  pub utf8_copied : (tree : MapTree) → IsUtf8Tree tree → IsUtf8Tree (copied world tree)
  utf8_copied NoNodes is = tt
  utf8_copied (MapNode head below more) is =
      let named = with_scope_names world head below in
      let made = copies world named (copied world below) (branches_of world head below) in
      chosen IsUtf8Tree (is_ditavalref head.kind) (copied world more) (trees_beside made (copied world more))
      (utf8_copied more is.2)
      (utf8_trees made (copied world more)
      (utf8_copies named (copied world below) (branches_of world head below) is.0 (utf8_copied below is.1)
      (utf8_branches head below is.1)) (utf8_copied more is.2))

-- The nodes as a list

abbrev pub IsUtf8Made : PlanNode → Type 0
IsUtf8Made node = IsUtf8 node.doc × AllByRecursion IsUtf8Affix node.affixes

utf8_below : (parent place : ℕ) (tree : MapTree) → IsUtf8Tree tree
    → AllByRecursion IsUtf8Made (nodes_below parent place tree)
utf8_below parent place NoNodes is = tt
utf8_below parent place (MapNode head below more) is = (
  is.0,
  of_both IsUtf8Made (nodes_below place (place + 1) below) (nodes_below parent (place + 1 + count below) more)
      (utf8_below place (place + 1) below is.1) (utf8_below parent (place + 1 + count below) more is.2),
)

pub utf8_plan_nodes : (tree : MapTree) → IsUtf8Tree tree → AllByRecursion IsUtf8Made (plan_nodes tree)
utf8_plan_nodes tree is = utf8_below 0 0 tree is

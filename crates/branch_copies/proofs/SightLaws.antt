-- The first of the nodes of a walk, as it is seen.
use Rattle.std.specs.Prelude.{◌≡◌, ◌+◌, ◌-◌, ◌≤◌, ℕ, Bool, true, false, List, [], ◌∷◌, Option, Some, None, drop, length, min, option_map, slice_get, unwrap_or, if◌then◌else◌}
use Rattle.std.specs.List.{flat_map}
use Rattle.std.specs.Option.{option_to_list}
use Rattle.std.proofs.Common.{sym, ap, subst, ◌∙◌, arith, length-append}
use Rattle.std.proofs.lemmas.List.{length-drop, length-take}
use Rattle.std.proofs.lemmas.Option.{none-some, same_Some}
use Rattle.dita_doc.specs.declared.plan.PlanNode.{PlanNode}
use Rattle.map_spec.specs.Branches.{Branch, branch_of, branches_of, ditavalrefs, has_branches, is_ditavalref, scope_names_of}
use Rattle.map_spec.specs.Judged.{whole_of}
use Rattle.map_spec.specs.MapTree.{Head, MapTree, MapNode, NoNodes, count, node_of}
use Rattle.map_spec.specs.Written.{Whole}
use Rattle.reader_spec.specs.World.{World}
use Rattle.branch_copies.specs.Read.{HasBranches, HaveBranches, branches_in}
use Rattle.branch_copies.specs.Originals.{HasSpan, IsFirst, IsSource, no_span, node_with, parts_of}
use Rattle.branch_copies.specs.Stands.{StandsAt, next_at}
use Rattle.branch_copies.specs.declared.branches.Span.{Span}
use Rattle.branch_copies.specs.declared.node.Original.{Original}
use Rattle.branch_copies.specs.declared.node.Seen.{Seen}
use Rattle.branch_copies.specs.declared.node.Originals.{Originals}
use Rattle.branch_copies.proofs.StandLaws.{next_stands}

-- A node has no more branches than nodes below it

refs_few : (below : MapTree) → length (ditavalrefs below) ≤ count below
refs_few NoNodes = omega arith
refs_few (MapNode head below more) = by_kind (is_ditavalref head.kind) (refs_few more)
  where
    by_kind : (ref : Bool) → length (ditavalrefs more) ≤ count more
        → length (if ref then head ∷ ditavalrefs more else ditavalrefs more) ≤ 1 + (count below + count more)
    by_kind true few = omega (arith, few)
    by_kind false few = omega (arith, few)

one_branch : (world : World) (head : Head) (whole : Option Whole)
    → length (option_to_list (option_map (branch_of world head) whole)) ≤ 1
one_branch world head None = omega arith
one_branch world head (Some whole) = omega arith

branches_read : (world : World) (refs : List Head)
    → length (flat_map (λ ref. option_to_list (option_map (branch_of world ref)
    (whole_of world ref))) refs) ≤ length refs
branches_read world [] = omega arith
branches_read world (ref ∷ refs) =
    let inner = flat_map (λ ref. option_to_list (option_map (branch_of world ref) (whole_of world ref))) refs in
    omega (
      arith,
      length-append (option_to_list (option_map (branch_of world ref) (whole_of world ref))) inner,
      one_branch world ref (whole_of world ref),
      branches_read world refs,
    )

branches_few : (world : World) (head : Head) (below : MapTree) → length (branches_of world head below) ≤ count below
branches_few world head below = by_kind (has_branches head.kind)
  where
    by_kind : (has : Bool)
        → length (if has
        then flat_map (λ ref. option_to_list (option_map (branch_of world ref) (whole_of world ref)))
        (ditavalrefs below)
        else []) ≤ count below
    by_kind true = omega (arith, branches_read world (ditavalrefs below), refs_few below)
    by_kind false = omega arith

pub span_length : (defined : List Branch) (span : Span) → span.first + span.count ≤ length defined
    → length (branches_in defined span) ≡ span.count
span_length defined span fits = omega (
  arith,
  length-take span.count (drop span.first defined),
  length-drop span.first defined,
)

module _ (world : World) (source : Originals) (defined : List Branch) (above at : ℕ) (head : Head)
    (below more : MapTree) where
  original_is : (found : Option Original) → IsSource world source defined
      → StandsAt source.nodes.now above at (MapNode head below more)
      → option_map parts_of found
      ≡ node_with (slice_get source.nodes.now at) (slice_get source.names.now at)
      → option_map parts_of found
      ≡ node_with (Some (node_of head above (at + 1 + count below))) (Some (scope_names_of world head below head.kind))
  original_is found is stands seen =
      seen ∙ ap (λ node. node_with node (slice_get source.names.now at)) stands.0
      ∙ ap (node_with (Some (node_of head above (at + 1 + count below)))) (is.names above at head below more stands)

  -- it is there
  pub original_there : (found : Option Original) → IsSource world source defined
      → StandsAt source.nodes.now above at (MapNode head below more)
      → option_map parts_of found
      ≡ node_with (slice_get source.nodes.now at) (slice_get source.names.now at)
      → found ≡ None → ⊥
  original_there found is stands seen none =
      none-some _ (sym (ap (option_map parts_of) none)
      ∙ original_is found is stands seen)

  span_is : (seen span : Span) → HaveBranches world source.spans.now defined at (MapNode head below more)
      → span ≡ unwrap_or (slice_get source.spans.now at) no_span
      → seen ≡ record span { count = min span.count (count below) }
      → is_ditavalref head.kind ≡ false → HasSpan world defined seen head below
  span_is seen span have found cut other =
      let has : HasBranches world source.spans.now defined at head below = (have.0 other).0 in
      let own : span ≡ has.span = found ∙ ap (λ s. unwrap_or s no_span) has.here in
      let long : length (branches_of world head below) ≡ has.span.count =
      sym (ap (λ l. length l) has.are) ∙ span_length defined has.span has.fits in
      let few : min has.span.count (count below) ≡ has.span.count =
      omega (arith, long, branches_few world head below) in
      let same : seen ≡ has.span =
      cut ∙ ap (λ (s : Span). (let all : Span = record s { count = min s.count (count below) } in all)) own
      ∙ ap (λ n. (let all : Span = record has.span { count = n } in all)) few in
      subst (λ (s : Span). HasSpan world defined s head below) (sym same)
      (record { fits = has.fits; are = has.are })

  pub first_seen : (end : ℕ) (seen : Seen) (found : Option Original) (span : Span) → IsSource world source defined
      → StandsAt source.nodes.now above at (MapNode head below more)
      → HaveBranches world source.spans.now defined at (MapNode head below more)
      → at + count (MapNode head below more) ≡ end
      → option_map parts_of found
      ≡ node_with (slice_get source.nodes.now at) (slice_get source.names.now at)
      → found ≡ Some seen.original → seen.end ≡ min (next_at source.nodes.now at) end
      → span ≡ unwrap_or (slice_get source.spans.now at) no_span
      → seen.span ≡ record span { count = min span.count (seen.end - at - 1) }
      → IsFirst world source defined at seen head below
  first_seen end seen found span is stands have ends shown there ended spanned cut =
      let all = original_is found is stands shown in
      let parts : PlanNode × List (List ℕ) =
      (node_of head above (at + 1 + count below), scope_names_of world head below head.kind) in
      let both : parts_of seen.original ≡ parts = same_Some (parts_of seen.original) parts (sym (ap
      (option_map parts_of) there) ∙ all) in
      let next = next_stands source.nodes.now above at head below more stands in
      let end_is : seen.end ≡ at + 1 + count below = omega (arith, next, ends, ended) in
      let inner : seen.end - at - 1 ≡ count below = omega (arith, end_is) in
      record {
        above = above;
        stands = (stands.0, stands.1, tt);
        end = end_is;
        node = ap (λ (p : PlanNode × List (List ℕ)). p.0) both;
        names = ap (λ (p : PlanNode × List (List ℕ)). p.1) both;
        branches = span_is seen.span span have spanned
            (cut ∙ ap (λ n. (let part : Span = record span { count = min span.count n } in part)) inner);
        inside = λ other. (have.0 other).1;
      }

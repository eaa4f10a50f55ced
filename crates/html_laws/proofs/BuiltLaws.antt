-- Each page of a build is a page.
use Rattle.std.specs.Prelude.{◌≡◌, ◌+◌, ◌<◌, ◌≤◌, ◌&&◌, ℕ, zero, suc, Bool, true, false, List, [], ◌∷◌, ◌++◌, Option, Some, None, IfSome, Result, Ok, Err, length, map, nat_le, option_map, slice_get, if◌then◌else◌}
use Rattle.std.specs.List.{All, AllByRecursion, filter_map}
use Rattle.std.specs.Option.{option_and_then, option_map_or}
use Rattle.std.proofs.Common.{refl, sym, subst, arith}
use Rattle.std.proofs.lemmas.Bool.{and_parts}
use Rattle.std.proofs.lemmas.List.Elements.{All-from_recursion}
use Rattle.build_spec.specs.Built.{Page, Done, TooLarge}
use Rattle.dita_doc.specs.declared.content.Rule.{Rule}
use Rattle.dita_doc.specs.declared.fact.Html.{Html}
use Rattle.dita_doc.specs.declared.fault.Fault.{Fault}
use Rattle.dita_doc.specs.declared.plan.PagePlan.{PagePlan}
use Rattle.dita_doc.specs.declared.plan.Plan.{Plan}
use Rattle.dita_doc.specs.declared.plan.PlanNode.{PlanNode}
use Rattle.dita_doc.specs.declared.plan.PlanStop.{PlanStop}
use Rattle.dita_doc.specs.declared.question.DocKind.TheVariants as kinds
use Rattle.reader_spec.specs.World.{World}
use Rattle.map_spec.specs.Included.{root_in}
use Rattle.map_spec.specs.Pages.{Use, base_of, contents_name, first_uses, free_name, good_base, is_normal, is_page_kind, named_from, page_used_at, pages_of, use_at, use_of, used_at}
use Rattle.map_spec.specs.PlanOf.{limits, plan_of}
use Rattle.map_spec.specs.Scopes.{places, places_from}
use Rattle.map_spec.specs.Titles.{kind_in, kind_of_document, kind_of_root, title_in}
use Rattle.map_spec.specs.Written.{Whole, Written, document, first_sibling}
use Rattle.html_spec.specs.Anchors.{anchor_faults, anchors, element_links}
use Rattle.html_spec.specs.Blocks.{body_html}
use Rattle.conref_spec.specs.Content.{Made}
use Rattle.link_spec.specs.Links.{row_faults}
use Rattle.part_spec.specs.Parts.{Rooms, build_by, build_of, clean_build, content_of_root, contents_part, here_of, all_page_links, marks_in, names_of_pages, page_of_root, page_part, page_parts, page_rules, no_html, page_with, pages_with, parts_of, rooms, total_limit, total_of}
use Rattle.html_laws.specs.Markup.{IsPage}
use Rattle.html_laws.proofs.BlocksLaws.{body_markup}
use Rattle.html_laws.proofs.ContentsLaws.{contents_is_page}
use Rattle.html_laws.proofs.EachLaws.{always, of_and_then, of_any, of_both, of_filter_map, of_kept, of_mapped, of_place}
use Rattle.html_laws.proofs.PageLaws.{page_is_page}
use Rattle.build_plan.proofs.PlanPagesLaws.{plan_pages}

-- The document of a page is a topic or such a collection, so it has a root

abbrev pub IsThere : {X : Type 0} → Option X → Type 0
IsThere None = ⊥
IsThere (Some x) = Unit {0}

abbrev HasPageKind : World → List ℕ → Type 0
HasPageKind world name = is_page_kind (kind_in world name) ≡ true

first_there : (root : Option Whole)
    → is_page_kind (option_map_or (λ (whole : Whole). kind_of_root whole.0) root kinds.Absent) ≡ true → IsThere root
first_there None is = cc
first_there (Some root) is = tt

root_there : (nodes : Option Written) → is_page_kind (option_map_or kind_of_document nodes kinds.Absent) ≡ true
    → IsThere (option_and_then first_sibling nodes)
root_there None is = cc
root_there (Some nodes) is = first_there (first_sibling nodes) is

pub page_root : (world : World) (name : List ℕ) → HasPageKind world name → IsThere (root_in world name)
page_root world name is = root_there (document world name) is

if_kind : (world : World) (name : List ℕ) (normal test : Bool) → (is_page_kind (kind_in world name) && normal) ≡ test
    → IfSome (if test then Some name else None) (HasPageKind world)
if_kind world name normal true e = (and_parts (is_page_kind (kind_in world name)) normal e).0
if_kind world name normal false e = tt

module _ (world : World) (nodes : List PlanNode) where
  abbrev UseHasKind : Use → Type 0
  UseHasKind made = HasPageKind world made.id.doc

  used_kind : (at : ℕ) → IfSome (page_used_at world nodes at) (HasPageKind world)
  used_kind at =
      let any : List ℕ → Type 0 = λ name. Unit {0} in
      of_and_then any (HasPageKind world)
      (λ name. if is_page_kind (kind_in world name) && is_normal world nodes at then Some name else None)
      (used_at world nodes at) (λ name is. if_kind world name (is_normal world nodes at) _ refl)
      (always (used_at world nodes at))

  of_node : (at : ℕ) (name : List ℕ) (node : Option PlanNode) → HasPageKind world name
      → IfSome (option_map (use_of nodes at name) node) UseHasKind
  of_node at name None is = tt
  of_node at name (Some node) is = is

  use_kind : (at : ℕ) → IfSome (use_at world nodes at) UseHasKind
  use_kind at =
      of_and_then (HasPageKind world) UseHasKind (λ name. option_map (use_of nodes at name) (slice_get nodes at))
      (page_used_at world nodes at) (λ name is. of_node at name (slice_get nodes at) is) (used_kind at)

  first_kinds : (uses : List Use) → AllByRecursion UseHasKind uses → AllByRecursion UseHasKind (first_uses uses)
  first_kinds [] all = tt
  first_kinds (first ∷ uses) all =
      (all.0, of_kept UseHasKind _ (first_uses uses) (first_kinds uses all.1))

  named_kinds : (index : ℕ) (taken : List (List ℕ)) (uses : List Use) → AllByRecursion UseHasKind uses
      → AllByRecursion (λ (page : PagePlan). HasPageKind world page.id.doc) (named_from index taken uses)
  named_kinds index taken [] all = tt
  named_kinds index taken (first ∷ uses) all =
      let name = free_name taken (good_base index (base_of first.id)) in
      (all.0, named_kinds (index + 1) (name ∷ taken) uses all.1)

  pub page_kinds : AllByRecursion (λ (page : PagePlan). HasPageKind world page.id.doc) (pages_of world nodes)
  page_kinds =
      let any : ℕ → Type 0 = λ at. Unit {0} in
      let uses = filter_map (use_at world nodes) (places nodes) in
      named_kinds 0 (contents_name ∷ []) (first_uses uses)
      (first_kinds uses
      (of_filter_map any UseHasKind (use_at world nodes) (places nodes) (λ at is. use_kind at)
      (of_any any (places nodes) (λ at. tt))))

-- A page of a plan

-- the places of a list are below its length, and at each stands an element
places_below : {X : Type 0} (count start : ℕ) (xs : List X) → start + length xs ≤ count
    → AllByRecursion (λ at. at < count) (places_from start xs)
places_below count start [] fits = tt
places_below count start (x ∷ xs) fits = (omega arith, places_below count (start + 1) xs (omega arith))

element_there : {X : Type 0} (xs : List X) (at : ℕ) → at < length xs → IsThere (slice_get xs at)
element_there [] at less = absurd (omega arith)
element_there (x ∷ xs) zero less = tt
element_there (x ∷ xs) (suc at) less = element_there xs at (omega arith)

module _ (room : Rooms) (world : World) (plan : Plan) (val : Option (List ℕ)) where
  with_is_page : (index : ℕ) (page : PagePlan) (root : Whole) (rules : List (List Rule)) (made : Made)
      → IsPage (page_with room world plan index page root rules made).bytes
  with_is_page index page root rules made =
      let here = here_of world plan page index in
      let body = body_html (anchors here made.nodes) (marks_in rules made) made.nodes in
      page_is_page room.bytes root.0.doc root.0.line (title_in world page.id.doc [])
      (record { bytes = body.bytes; faults = made.faults ++ anchor_faults here made.nodes ++ body.faults ++ row_faults plan })
      (all_page_links world plan index (element_links here made.nodes))
      (body_markup (anchors here made.nodes) (marks_in rules made) made.nodes)

  root_is_page : (index : ℕ) (page : PagePlan) (root : Option Whole) → IsThere root
      → IsPage (option_map_or (page_of_root room world plan val index page) root no_html).bytes
  root_is_page index page None there = absurd there
  root_is_page index page (Some root) there =
      with_is_page index page root (page_rules world val page) (content_of_root room world plan val page root)

  found_is_page : (index : ℕ) (found : Option PagePlan) → IsThere found
      → IfSome found (λ (page : PagePlan). HasPageKind world page.id.doc)
      → IsPage (option_map_or (λ (page : PagePlan).
      option_map_or (page_of_root room world plan val index page) (root_in world page.id.doc) no_html) found no_html).bytes
  found_is_page index None there is = absurd there
  found_is_page index (Some page) there is =
      root_is_page index page (root_in world page.id.doc) (page_root world page.id.doc is)

  abbrev IsPagePart : Html → Type 0
  IsPagePart part = IsPage part.bytes

  module _ (kinds_are : AllByRecursion (λ (page : PagePlan). HasPageKind world page.id.doc) plan.pages) where
    part_is_page : (index : ℕ) → index < length plan.pages → IsPagePart (page_part room world plan val index)
    unfolding page_part
    part_is_page index less =
        let kind : PagePlan → Type 0 = λ page. HasPageKind world page.id.doc in
        found_is_page index (slice_get plan.pages index) (element_there plan.pages index less)
        (of_place kind plan.pages index kinds_are)

    parts_are_pages : AllByRecursion IsPagePart (parts_of room world plan val)
    parts_are_pages =
        let below : ℕ → Type 0 = λ at. at < length plan.pages in
        of_both IsPagePart (page_parts room world plan val) (contents_part world plan ∷ [])
        (of_mapped below IsPagePart (page_part room world plan val) (places_from 0 plan.pages) part_is_page
        (places_below (length plan.pages) 0 plan.pages (omega arith)))
        (contents_is_page world plan, tt)

-- The pages of a build

abbrev pub IsPageHere : Page → Type 0
IsPageHere page = IsPage page.1

with_names : (names : List (List ℕ)) (parts : List Html) → AllByRecursion (λ (part : Html). IsPage part.bytes) parts
    → AllByRecursion IsPageHere (pages_with names parts)
with_names [] parts all = tt
with_names (name ∷ names) [] all = tt
with_names (name ∷ names) (part ∷ parts) all = (all.0, with_names names parts all.1)

done_if : (fits : Bool) (total : ℕ) (made pages : List Page) (found report : List Fault)
    → (if fits then Done made found else TooLarge total) ≡ Done pages report → made ≡ pages
done_if true total made pages found report e = cc
done_if false total made pages found report e = absurd (cc)

-- a build that is done has the pages of its parts
pub done_pages : (limit : ℕ) (plan : Plan) (parts : List Html) (pages : List Page) (report : List Fault)
    → build_of limit plan parts ≡ Done pages report → pages_with (names_of_pages plan) parts ≡ pages
done_pages limit plan parts pages report e =
    done_if (nat_le (total_of parts) limit) _ _ pages _ report e

built_by : (world : World) (map : List ℕ) (val : Option (List ℕ)) (pages : List Page) (report : List Fault)
    (made : Result Plan PlanStop) → plan_of limits world map val ≡ made
    → build_by rooms total_limit world val made ≡ Done pages report → All IsPageHere pages
built_by world map val pages report (Err stop) e is = absurd (cc)
built_by world map val pages report (Ok plan) e is =
    let known = plan_pages limits world map val plan e in
    let kind : PagePlan → Type 0 = λ page. HasPageKind world page.id.doc in
    let kinds_are : AllByRecursion kind plan.pages =
    subst (AllByRecursion kind) (sym known.are) (page_kinds world known.nodes) in
    let parts = parts_of rooms world plan val in
    subst (All IsPageHere) (done_pages total_limit plan parts pages report is)
    (All-from_recursion IsPageHere (pages_with (names_of_pages plan) parts)
    (with_names (names_of_pages plan) parts (parts_are_pages rooms world plan val kinds_are)))

pub build_is_pages : (world : World) (map : List ℕ) (val : Option (List ℕ)) (pages : List Page) (report : List Fault)
    → clean_build world map val ≡ Done pages report → All IsPageHere pages
unfolding clean_build
build_is_pages world map val pages report is =
    built_by world map val pages report (plan_of limits world map val) refl is

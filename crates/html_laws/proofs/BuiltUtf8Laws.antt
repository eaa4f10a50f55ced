-- Each page of a build of UTF-8 is UTF-8.
use Rattle.std.specs.Prelude.{◌≡◌, ◌+◌, ℕ, List, [], ◌∷◌, ◌++◌, Option, Some, None, IfSome, Result, Ok, Err, IfOk, length, map, nat_le, slice_get}
use Rattle.std.specs.List.{All, AllByRecursion}
use Rattle.std.specs.Option.{option_map_or}
use Rattle.std.specs.Str.{IsUtf8}
use Rattle.std.proofs.Common.{subst}
use Rattle.std.proofs.lemmas.List.Elements.{All-from_recursion}
use Rattle.std.proofs.lemmas.Str.{IsUtf8-nil}
use Rattle.build_spec.specs.Built.{Page, Done}
use Rattle.dita_doc.specs.declared.fact.Html.{Html}
use Rattle.dita_doc.specs.declared.fault.Fault.{Fault}
use Rattle.dita_doc.specs.declared.plan.PagePlan.{PagePlan}
use Rattle.dita_doc.specs.declared.plan.Plan.{Plan}
use Rattle.dita_doc.specs.declared.plan.PlanNode.{PlanNode}
use Rattle.dita_doc.specs.declared.plan.PlanStop.{PlanStop}
use Rattle.dita_doc.specs.declared.plan.PlanStop.TheVariants as stops
use Rattle.ditaval_rules.specs.declared.rules.RulesRead.{RulesRead}
use Rattle.reader_spec.specs.World.{World}
use Rattle.map_spec.specs.Branches.{branch_faults, branched, copied}
use Rattle.map_spec.specs.Cascade.{cascaded}
use Rattle.map_spec.specs.Included.{is_map, limited, map_included, root_in}
use Rattle.map_spec.specs.Judged.{filtered}
use Rattle.map_spec.specs.MapTree.{Grown, count, plan_nodes}
use Rattle.map_spec.specs.PlanOf.{Limits, build_rules, grown_from, limits, plan_of, plan_of_map, plan_of_root, plan_of_tree, plan_with, then_plan}
use Rattle.map_spec.specs.Scopes.{places_from}
use Rattle.map_spec.specs.Titles.{title_in}
use Rattle.map_spec.specs.Written.{Whole}
use Rattle.html_spec.specs.Anchors.{anchor_faults, anchors, element_links}
use Rattle.html_spec.specs.Blocks.{body_html}
use Rattle.conref_spec.specs.Content.{nothing_made}
use Rattle.link_spec.specs.Links.{row_faults}
use Rattle.part_spec.specs.Parts.{Rooms, build_by, clean_build, clean_terms, content_of_root, contents_part, here_of, all_page_links, marks_in, names_of_pages, no_html, page_content, page_of_root, page_part, page_parts, page_rules, page_terms, page_titles, pages_with, parts_of, rooms, setting_of, terms_by, terms_in, terms_part, too_many, total_limit, total_of}
use Rattle.html_laws.specs.Utf8.{IsUtf8Node, IsUtf8Page, IsUtf8Plan, IsUtf8World}
use Rattle.html_laws.proofs.AnchorUtf8Laws.{IsUtf8Here, utf8_anchors, utf8_element_links}
use Rattle.html_laws.proofs.BlocksUtf8Laws.{body_utf8}
use Rattle.html_laws.proofs.BuiltLaws.{done_pages}
use Rattle.html_laws.proofs.CascadeUtf8Laws.{utf8_cascaded, utf8_scoped_from}
use Rattle.html_laws.proofs.ContentUtf8Laws.{IsUtf8Whole, utf8_title_in}
use Rattle.html_laws.proofs.ContentsUtf8Laws.{contents_utf8}
use Rattle.html_laws.proofs.EachLaws.{always, chosen, of_any, of_both, of_lists, of_map_or, of_mapped, of_place}
use Rattle.html_laws.proofs.KeyUtf8Laws.{HasUtf8Doc, utf8_key_answer}
use Rattle.html_laws.proofs.LinkUtf8Laws.{utf8_links_of}
use Rattle.html_laws.proofs.MarkUtf8Laws.{utf8_marks}
use Rattle.html_laws.proofs.PageUtf8Laws.{page_utf8}
use Rattle.html_laws.proofs.PagesUtf8Laws.{utf8_documents, utf8_pages, utf8_targets}
use Rattle.html_laws.proofs.PushUtf8Laws.{utf8_pushed}
use Rattle.html_laws.proofs.ResolvedUtf8Laws.{IsUtf8Made, IsUtf8Setting, utf8_resolved}
use Rattle.html_laws.proofs.TermsUtf8Laws.{HasUtf8Html, IsUtf8Entry, utf8_terms, utf8_terms_html}
use Rattle.html_laws.proofs.TreeUtf8Laws.{IsUtf8Grown, utf8_copied, utf8_filtered, utf8_included, utf8_plan_nodes, utf8_root_in}

-- The plan

utf8_then : {X Y : Type 0} (P : X → Type 0) (Q : Y → Type 0) (before : Result X PlanStop) (next : X → Result Y PlanStop)
    → IfOk before P → ((x : X) → P x → IfOk (next x) Q) → IfOk (then_plan before next) Q
utf8_then P Q (Ok x) next first second = second x first
utf8_then P Q (Err stop) next first second = tt

abbrev GrowsInUtf8 : Result Grown PlanStop → Type 0
GrowsInUtf8 grown = IfOk grown IsUtf8Grown

abbrev PlansInUtf8 : Result Plan PlanStop → Type 0
PlansInUtf8 plan = IfOk plan IsUtf8Plan

utf8_limited : (limit : ℕ) (grown : Grown) → IsUtf8Grown grown → GrowsInUtf8 (limited limit grown)
utf8_limited limit grown is =
    chosen GrowsInUtf8 (nat_le (count grown.tree) limit) (Ok grown) (Err stops.TooManyNodes) is tt

if_ok : {X : Type 0} (result : Result X PlanStop) → IfOk result (λ x. Unit {0})
if_ok (Ok x) = tt
if_ok (Err stop) = tt

module _ (most : Limits) (world : World) (all : IsUtf8World world) where
  utf8_of_tree : (before : List Fault) (grown : Grown) → IsUtf8Grown grown
      → PlansInUtf8 (plan_of_tree most world before grown)
  utf8_of_tree before grown is =
      let nodes = cascaded world (plan_nodes grown.tree) in
      let planned = utf8_cascaded world all (plan_nodes grown.tree) (utf8_plan_nodes grown.tree is) in
      let plan = plan_with world (before ++ grown.faults) nodes in
      chosen PlansInUtf8 (nat_le (length plan.pages) most.pages) (Ok plan) (Err stops.TooManyPages) (record {
        nodes = utf8_scoped_from nodes 0 nodes planned;
        targets = utf8_targets world nodes all planned;
        pages = utf8_pages world nodes all planned;
        documents = utf8_documents world nodes all planned;
      }) tt

  utf8_of_map : (read : RulesRead) (grown : Grown) → IsUtf8Grown grown
      → PlansInUtf8 (plan_of_map most world read grown)
  utf8_of_map read grown is =
      let judged = filtered world read.rules grown.tree in
      let judged_is = utf8_filtered world all read.rules grown.tree is in
      let copies : Grown = record { tree = copied world judged.tree; faults = branch_faults world judged.tree } in
      utf8_then IsUtf8Grown IsUtf8Plan (branched most.nodes world judged.tree)
      (plan_of_tree most world (read.faults ++ grown.faults ++ judged.faults))
      (utf8_limited most.nodes copies (utf8_copied world all judged.tree judged_is))
      (λ made one. utf8_of_tree (read.faults ++ grown.faults ++ judged.faults) made one)

  utf8_grown : (map : List ℕ) (root : Whole) → IsUtf8Whole root → GrowsInUtf8 (grown_from most world map root)
  utf8_grown map root is =
      let made = map_included (most.nodes + 1) world (map ∷ []) 0 root in
      chosen GrowsInUtf8 (is_map root) (limited most.nodes made) (Err stops.NotMap)
      (utf8_limited most.nodes made (utf8_included world all (most.nodes + 1) (map ∷ []) 0 root is)) tt

  utf8_of_root : (map : List ℕ) (val : Option (List ℕ)) (root : Option Whole) → IfSome root IsUtf8Whole
      → PlansInUtf8 (plan_of_root most world map val root)
  utf8_of_root map val None is = tt
  utf8_of_root map val (Some root) is =
      let any : RulesRead → Type 0 = λ read. Unit {0} in
      let next = λ (read : RulesRead). then_plan (grown_from most world map root) (plan_of_map most world read) in
      chosen PlansInUtf8 (is_map root) (then_plan (build_rules world val) next) (Err stops.NotMap)
      (utf8_then any IsUtf8Plan (build_rules world val) next (if_ok (build_rules world val))
      (λ read one. utf8_then IsUtf8Grown IsUtf8Plan (grown_from most world map root) (plan_of_map most world read)
      (utf8_grown map root is) (λ grown two. utf8_of_map read grown two))) tt

  utf8_plan : (map : List ℕ) (val : Option (List ℕ)) → IsUtf8 map → PlansInUtf8 (plan_of most world map val)
  unfolding plan_of
  utf8_plan map val named = utf8_of_root map val (root_in world map) (utf8_root_in world map all named)

-- A page

node_docs : (nodes : List PlanNode) → AllByRecursion IsUtf8Node nodes → AllByRecursion HasUtf8Doc nodes
node_docs [] is = tt
node_docs (node ∷ nodes) is = (is.0.0, node_docs nodes is.1)

module _ (room : Rooms) (world : World) (plan : Plan) (val : Option (List ℕ)) (all : IsUtf8World world)
    (of_plan : IsUtf8Plan plan) where
  utf8_setting : (page : PagePlan) → IsUtf8Page page → IsUtf8Setting (setting_of world plan val page)
  utf8_setting page is = record {
    page = is.0;
    pushed = λ name named. utf8_pushed world all plan.documents name of_plan.documents named;
    key = λ key named.
        utf8_key_answer world plan.nodes all (node_docs plan.nodes of_plan.nodes) page.id.scope key named;
  }

  utf8_here : (page : PagePlan) (index : ℕ) → IsUtf8Page page → IsUtf8Here (here_of world plan page index)
  utf8_here page index is = record {
    world = all;
    pages = of_plan.pages;
    page = is;
    key = λ key named.
        utf8_key_answer world plan.nodes all (node_docs plan.nodes of_plan.nodes) page.id.scope key named;
  }

  utf8_content_of : (page : PagePlan) (root : Whole) → IsUtf8Page page
      → IsUtf8Made (content_of_root room world plan val page root)
  utf8_content_of page root is =
      utf8_resolved (setting_of world plan val page) (utf8_setting page is) room.nodes (too_many root)

  utf8_of_page : (index : ℕ) (page : PagePlan) (root : Whole) → IsUtf8Page page
      → IsUtf8 (page_of_root room world plan val index page root).bytes
  utf8_of_page index page root is =
      let here = here_of world plan page index in
      let here_is = utf8_here page index is in
      let rules = page_rules world val page in
      let made = content_of_root room world plan val page root in
      let made_is = utf8_content_of page root is in
      let marks = marks_in rules made in
      let body = body_html (anchors here made.nodes) marks made.nodes in
      page_utf8 room.bytes root.0.doc root.0.line (title_in world page.id.doc [])
      (record { bytes = body.bytes; faults = made.faults ++ anchor_faults here made.nodes ++ body.faults ++ row_faults plan })
      (all_page_links world plan index (element_links here made.nodes)) (utf8_title_in world page.id.doc [] all is.0)
      (body_utf8 (anchors here made.nodes) marks made.nodes (utf8_anchors here here_is made.nodes made_is.0)
      (utf8_marks rules made.declared made.nodes made_is.1 made_is.0) made_is.0)
      (utf8_links_of world plan all of_plan.pages index (element_links here made.nodes)
      (utf8_element_links here here_is made.nodes made_is.0))

  abbrev IsUtf8Part : Html → Type 0
  IsUtf8Part part = IsUtf8 part.bytes

  utf8_part : (index : ℕ) → IsUtf8Part (page_part room world plan val index)
  unfolding page_part
  utf8_part index =
      let any : Whole → Type 0 = λ root. Unit {0} in
      of_map_or IsUtf8Page IsUtf8Part (λ (page : PagePlan).
      option_map_or (page_of_root room world plan val index page) (root_in world page.id.doc) no_html)
      (slice_get plan.pages index) no_html
      (λ page is. of_map_or any IsUtf8Part (page_of_root room world plan val index page) (root_in world page.id.doc)
      no_html (λ root one. utf8_of_page index page root is) (always (root_in world page.id.doc)) IsUtf8-nil)
      (of_place IsUtf8Page plan.pages index of_plan.pages) IsUtf8-nil

  utf8_parts : AllByRecursion IsUtf8Part (parts_of room world plan val)
  utf8_parts =
      let any : ℕ → Type 0 = λ at. Unit {0} in
      of_both IsUtf8Part (page_parts room world plan val) (contents_part world plan ∷ [])
      (of_mapped any IsUtf8Part (page_part room world plan val) (places_from 0 plan.pages) (λ at is. utf8_part at)
      (of_any any (places_from 0 plan.pages) (λ at. tt))) (contents_utf8 world plan all of_plan, tt)

  -- The page of terms

  utf8_content : (index : ℕ) → IsUtf8Made (page_content room world plan val index)
  unfolding page_content
  utf8_content index =
      let any : Whole → Type 0 = λ root. Unit {0} in
      of_map_or IsUtf8Page IsUtf8Made (λ (page : PagePlan).
      option_map_or (content_of_root room world plan val page) (root_in world page.id.doc) nothing_made)
      (slice_get plan.pages index) nothing_made
      (λ page is. of_map_or any IsUtf8Made (content_of_root room world plan val page) (root_in world page.id.doc)
      nothing_made (λ root one. utf8_content_of page root is) (always (root_in world page.id.doc)) (tt, tt))
      (of_place IsUtf8Page plan.pages index of_plan.pages) (tt, tt)

  utf8_terms_part : IfSome (terms_part room world plan val) HasUtf8Html
  utf8_terms_part =
      let any : ℕ → Type 0 = λ at. Unit {0} in
      utf8_terms_html (terms_in room world plan val) plan (page_titles world plan)
      (of_lists any IsUtf8Entry (page_terms room world plan val) (places_from 0 plan.pages)
      (λ at is. utf8_terms at (page_content room world plan val at).nodes (utf8_content at).0)
      (of_any any (places_from 0 plan.pages) (λ at. tt)))
      of_plan.pages
      (of_mapped IsUtf8Page IsUtf8 (λ (page : PagePlan). title_in world page.id.doc []) plan.pages
      (λ page is. utf8_title_in world page.id.doc [] all is.0) of_plan.pages)

-- The pages of a build

abbrev pub HasUtf8Bytes : Page → Type 0
HasUtf8Bytes page = IsUtf8 page.1

utf8_with_names : (names : List (List ℕ)) (parts : List Html) → AllByRecursion (λ (part : Html). IsUtf8 part.bytes) parts
    → AllByRecursion HasUtf8Bytes (pages_with names parts)
utf8_with_names [] parts all = tt
utf8_with_names (name ∷ names) [] all = tt
utf8_with_names (name ∷ names) (part ∷ parts) all = (all.0, utf8_with_names names parts all.1)

utf8_built_by : (world : World) (val : Option (List ℕ)) (pages : List Page) (report : List Fault)
    (made : Result Plan PlanStop) → IsUtf8World world → PlansInUtf8 made
    → build_by rooms total_limit world val made ≡ Done pages report → All HasUtf8Bytes pages
utf8_built_by world val pages report (Err stop) all planned is = absurd (cc)
utf8_built_by world val pages report (Ok plan) all planned is =
    let parts = parts_of rooms world plan val in
    subst (All HasUtf8Bytes) (done_pages total_limit plan parts pages report is)
    (All-from_recursion HasUtf8Bytes (pages_with (names_of_pages plan) parts)
    (utf8_with_names (names_of_pages plan) parts (utf8_parts rooms world plan val all planned)))

pub build_utf8 : (world : World) (map : List ℕ) (val : Option (List ℕ)) (pages : List Page) (report : List Fault)
    → IsUtf8World world → IsUtf8 map → clean_build world map val ≡ Done pages report → All HasUtf8Bytes pages
unfolding clean_build
build_utf8 world map val pages report all named is =
    utf8_built_by world val pages report (plan_of limits world map val) all (utf8_plan limits world all map val named) is

-- and its page of terms

utf8_terms_by : (world : World) (val : Option (List ℕ)) (made : Result Plan PlanStop) → IsUtf8World world
    → PlansInUtf8 made → IfSome (terms_by rooms total_limit world val made) HasUtf8Html
utf8_terms_by world val (Err stop) all planned = tt
utf8_terms_by world val (Ok plan) all planned =
    chosen (λ (html : Option Html). IfSome html HasUtf8Html)
    (nat_le (total_of (parts_of rooms world plan val)) total_limit) (terms_part rooms world plan val) None
    (utf8_terms_part rooms world plan val all planned) tt

pub terms_utf8 : (world : World) (map : List ℕ) (val : Option (List ℕ)) → IsUtf8World world → IsUtf8 map
    → IfSome (clean_terms world map val) (λ html. IsUtf8 html.bytes)
unfolding clean_terms
terms_utf8 world map val all named =
    utf8_terms_by world val (plan_of limits world map val) all (utf8_plan limits world all map val named)

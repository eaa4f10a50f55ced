-- The parts of a build (own): its plan, each page, and the contents page; and the build that they make up.
use Rattle.std.specs.Prelude.{ℕ, not, List, [], ◌∷◌, ◌++◌, Option, Some, None, Result, Ok, Err, filter, length, map, nat_le, slice_get, sum_by, bytes_eq, if◌then◌else◌}
use Rattle.std.specs.List.{flat_map}
use Rattle.std.specs.Option.{option_map_or, option_to_list}
use Rattle.build_spec.specs.Built.{BuildOutcome, Page, Done, Stopped, TooLarge}
use Rattle.dita_doc.specs.declared.content.Mark.{Mark}
use Rattle.dita_doc.specs.declared.content.PageLink.{PageLink}
use Rattle.dita_doc.specs.declared.content.Rule.{Rule}
use Rattle.dita_doc.specs.declared.content.TermEntry.{TermEntry}
use Rattle.dita_doc.specs.declared.doc.Attribute.{Attribute}
use Rattle.dita_doc.specs.declared.fact.Html.{Html}
use Rattle.dita_doc.specs.declared.fault.Fault.{Fault}
use Rattle.dita_doc.specs.declared.fault.FaultCode.TheVariants as faults
use Rattle.dita_doc.specs.declared.plan.PagePlan.{PagePlan}
use Rattle.dita_doc.specs.declared.plan.Plan.{Plan}
use Rattle.dita_doc.specs.declared.plan.PlanStop.{PlanStop}
use Rattle.ditaval_rules.specs.declared.rules.RulesRead.{RulesRead}
use Rattle.fault_report.specs.Report.{report_of}
use Rattle.flag_marks.specs.Marks.{marks_from}
use Rattle.reader_spec.specs.World.{World}
use Rattle.map_spec.specs.Branches.{ditaval_in}
use Rattle.map_spec.specs.Elements.{fault_at}
use Rattle.map_spec.specs.Included.{root_in}
use Rattle.map_spec.specs.Keys.{key_answer}
use Rattle.map_spec.specs.Pages.{contents_name}
use Rattle.map_spec.specs.PlanOf.{limits, plan_of}
use Rattle.map_spec.specs.Scopes.{places_from}
use Rattle.map_spec.specs.Titles.{title_in}
use Rattle.map_spec.specs.Written.{Whole, Written, End, Chars, Node}
use Rattle.html_spec.specs.Anchors.{Here, anchor_faults, anchors, element_links}
use Rattle.html_spec.specs.Blocks.{body_html}
use Rattle.conref_spec.specs.Content.{Made, ResolveInput, count_limit, nothing_made, resolved_page}
use Rattle.html_spec.specs.Contents.{contents}
use Rattle.link_spec.specs.Links.{family_links, row_faults, row_links}
use Rattle.html_spec.specs.PageHtml.{page_limit, page_within}
use Rattle.html_spec.specs.Terms.{terms_html, terms_of}
use Rattle.map_spec.specs.Pushes.{all_pushes, pushed}

-- what pages have room for: resolved nodes, and bytes
pub record Rooms : Type 0 where
  pub nodes : ℕ
  pub bytes : ℕ

abbrev pub rooms : Rooms
rooms = record { nodes = count_limit; bytes = page_limit }

-- A page

abbrev pub rules_of : Option RulesRead → List (List Rule)
rules_of None = []
rules_of (Some read) = read.rules ∷ []

-- the rules by which a page is judged: those of the build's DITAVAL and of each filter
abbrev pub page_rules : World → Option (List ℕ) → PagePlan → List (List Rule)
page_rules world val page =
    flat_map (λ name. rules_of (ditaval_in world name)) (option_to_list val ++ page.id.filters)

abbrev pub setting_of : World → Plan → Option (List ℕ) → PagePlan → ResolveInput
setting_of world plan val page = record {
  page = page.id.doc;
  pushed = pushed world plan.documents;
  key = key_answer world plan.nodes page.id.scope;
  rules = page_rules world val page;
}

abbrev pub here_of : World → Plan → PagePlan → ℕ → Here
here_of world plan page index = record {
  world = world;
  pages = plan.pages;
  page = page;
  number = index;
  key = key_answer world plan.nodes page.id.scope;
}

-- each href once, with the link that has it first
abbrev pub hrefs_once : List PageLink → List PageLink
hrefs_once [] = []
hrefs_once (link ∷ more) = link ∷ filter (λ other. not (bytes_eq other.href link.href)) (hrefs_once more)

-- the links of a page: by collections, by relationship tables, and those of its elements
abbrev pub all_page_links : World → Plan → ℕ → List PageLink → List PageLink
all_page_links world plan index own =
    hrefs_once (family_links world plan index ++ row_links world plan index ++ own)

-- too much content is a fault at the root of the page's document
abbrev pub too_many : Whole → List Fault
too_many root = fault_at root.0 faults.TooManyResolved [] ∷ []

-- the content of a page whose document has this root
abbrev pub content_of_root : Rooms → World → Plan → Option (List ℕ) → PagePlan → Whole → Made
content_of_root room world plan val page root =
    resolved_page room.nodes (too_many root) (setting_of world plan val page)

-- for each node in document order the attributes that it has if it is an element
abbrev pub attributes_in : Written → List (Option (List Attribute))
attributes_in End = []
attributes_in (Chars text doc rest) = None ∷ attributes_in rest
attributes_in (Node element inside rest) = Some element.attributes ∷ (attributes_in inside ++ attributes_in rest)

-- the marks of a page's elements by its rules
abbrev pub marks_in : List (List Rule) → Made → List Mark
marks_in rules made = marks_from rules 0 made.declared (attributes_in made.nodes)

abbrev pub page_with : Rooms → World → Plan → ℕ → PagePlan → Whole → List (List Rule) → Made → Html
page_with room world plan index page root rules made =
    let here = here_of world plan page index in
    let body = body_html (anchors here made.nodes) (marks_in rules made) made.nodes in
    page_within room.bytes root.0.doc root.0.line (title_in world page.id.doc [])
    (record { bytes = body.bytes; faults = made.faults ++ anchor_faults here made.nodes ++ body.faults ++ row_faults plan })
    (all_page_links world plan index (element_links here made.nodes))

abbrev pub page_of_root : Rooms → World → Plan → Option (List ℕ) → ℕ → PagePlan → Whole → Html
page_of_root room world plan val index page root = page_with room world plan index page root
    (page_rules world val page) (content_of_root room world plan val page root)

abbrev pub no_html : Html
no_html = record { bytes = []; faults = [] }

-- the page of a plan at an index, made of the document that it names
unfoldable pub page_part : Rooms → World → Plan → Option (List ℕ) → ℕ → Html
page_part room world plan val index = option_map_or (λ (page : PagePlan).
    option_map_or (page_of_root room world plan val index page) (root_in world page.id.doc) no_html)
    (slice_get plan.pages index) no_html

-- The page of terms

-- the content of a page, made of the document that it names
abbrev pub content_of_page : Rooms → World → Plan → Option (List ℕ) → PagePlan → Made
content_of_page room world plan val page =
    option_map_or (content_of_root room world plan val page) (root_in world page.id.doc) nothing_made

-- the same at an index
unfoldable pub page_content : Rooms → World → Plan → Option (List ℕ) → ℕ → Made
page_content room world plan val index =
    option_map_or (content_of_page room world plan val) (slice_get plan.pages index) nothing_made

abbrev pub page_terms : Rooms → World → Plan → Option (List ℕ) → ℕ → List TermEntry
page_terms room world plan val index = terms_of index (page_content room world plan val index).nodes

-- the terms of all pages, in the order of the plan
abbrev pub terms_in : Rooms → World → Plan → Option (List ℕ) → List TermEntry
terms_in room world plan val = flat_map (page_terms room world plan val) (places_from 0 plan.pages)

-- the titles of pages, and of all pages of a plan
abbrev pub titles_in : World → List PagePlan → List (List ℕ)
titles_in world pages = map (λ (page : PagePlan). title_in world page.id.doc []) pages

abbrev pub page_titles : World → Plan → List (List ℕ)
page_titles world plan = titles_in world plan.pages

-- the page of a plan's terms, if there are any
abbrev pub terms_part : Rooms → World → Plan → Option (List ℕ) → Option Html
terms_part room world plan val = terms_html (terms_in room world plan val) plan (page_titles world plan)

-- The contents page, with the faults of all pushes

abbrev pub contents_part : World → Plan → Html
contents_part world plan =
    record { bytes = contents world plan; faults = (all_pushes world plan.documents).faults }

-- The build

abbrev pub page_parts : Rooms → World → Plan → Option (List ℕ) → List Html
page_parts room world plan val = map (page_part room world plan val) (places_from 0 plan.pages)

abbrev pub names_of_pages : Plan → List (List ℕ)
names_of_pages plan = map (λ (page : PagePlan). page.name) plan.pages ++ contents_name ∷ []

abbrev pub parts_of : Rooms → World → Plan → Option (List ℕ) → List Html
parts_of room world plan val = page_parts room world plan val ++ contents_part world plan ∷ []

-- names and bytes, one to one
abbrev pub pages_with : List (List ℕ) → List Html → List Page
pages_with [] parts = []
pages_with (name ∷ names) [] = []
pages_with (name ∷ names) (part ∷ parts) = (name, part.bytes) ∷ pages_with names parts

abbrev pub total_of : List Html → ℕ
total_of parts = sum_by (λ (part : Html). length part.bytes) parts

abbrev pub faults_of : Plan → List Html → List Fault
faults_of plan parts = plan.faults ++ flat_map (λ (part : Html). part.faults) parts

abbrev pub total_limit : ℕ
total_limit = 268435456

-- the build of a plan is too large, or it is each page with its name, the contents last, and the report of all faults
abbrev pub build_of : ℕ → Plan → List Html → BuildOutcome
build_of limit plan parts =
    if nat_le (total_of parts) limit then Done (pages_with (names_of_pages plan) parts)
    (report_of (faults_of plan parts))
    else TooLarge (total_of parts)

abbrev pub build_by : Rooms → ℕ → World → Option (List ℕ) → Result Plan PlanStop → BuildOutcome
build_by room limit world val (Err stop) = Stopped stop
build_by room limit world val (Ok plan) = build_of limit plan (parts_of room world plan val)

-- the clean build of a map with a DITAVAL or without, over a world
unfoldable pub clean_build : World → List ℕ → Option (List ℕ) → BuildOutcome
clean_build world map val = build_by rooms total_limit world val (plan_of limits world map val)

-- The page of terms of a build: a build that is stopped or too large has none

abbrev pub terms_of_parts : ℕ → List Html → Option Html → Option Html
terms_of_parts limit parts terms = if nat_le (total_of parts) limit then terms else None

abbrev pub terms_by : Rooms → ℕ → World → Option (List ℕ) → Result Plan PlanStop → Option Html
terms_by room limit world val (Err stop) = None
terms_by room limit world val (Ok plan) =
    terms_of_parts limit (parts_of room world plan val) (terms_part room world plan val)

-- the page of terms of the clean build of a map with a DITAVAL or without, if it has terms
unfoldable pub clean_terms : World → List ℕ → Option (List ℕ) → Option Html
clean_terms world map val = terms_by rooms total_limit world val (plan_of limits world map val)

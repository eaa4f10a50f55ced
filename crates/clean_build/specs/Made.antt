-- What is made of a plan in a world (own), by readers that were made for it.
use Rattle.std.specs.Prelude.{◌≡◌, ℕ, Bool, true, false, List, [], Option, Some, None, slice_get}
use Rattle.std.specs.Option.{option_copied, option_map_or}
use Rattle.conref_pull.specs.declared.tables.Tables.{Tables}
use Rattle.conref_targets.specs.Rules.{AreRules}
use Rattle.dita_doc.specs.declared.content.Rule.{Rule}
use Rattle.dita_doc.specs.declared.fact.Html.{Html}
use Rattle.dita_doc.specs.declared.fault.Fault.{Fault}
use Rattle.dita_doc.specs.declared.plan.PagePlan.{PagePlan}
use Rattle.dita_doc.specs.declared.plan.Plan.{Plan}
use Rattle.map_spec.specs.Included.{root_in}
use Rattle.map_spec.specs.Titles.{title_in}
use Rattle.map_spec.specs.Written.{Whole}
use Rattle.link_groups.specs.Asked.{is_of_links}
use Rattle.node_links.specs.NodeTable.{AreNodeLinks}
use Rattle.node_links.specs.declared.table.NodeLinks.{NodeLinks}
use Rattle.html_spec.specs.Anchors.{element_links}
use Rattle.conref_spec.specs.Content.{Made}
use Rattle.html_spec.specs.PageHtml.{page_within}
use Rattle.part_spec.specs.Parts.{Rooms, content_of_page, content_of_root, contents_part, here_of, all_page_links, no_html, page_rules, rooms}
use Rattle.reader_spec.specs.World.{World}
use Rattle.readers.specs.Only.{TellsOnly}
use Rattle.readers.specs.Setting.{Setting}
use Rattle.readers.specs.Told.{Told}
use Rattle.toc_page.specs.Made.{is_of_contents}
use Rattle.clean_build.specs.Bodies.{AreKnown, body_of, content_of, rules_for, terms_wanted}
use Rattle.clean_build.specs.BuildInput.{IsReady, context_for}
use Rattle.clean_build.specs.Reads.{MayReadFor, ReadsOnly}
use Rattle.clean_build.specs.declared.works.ContentsWork.{ContentsWork}
use Rattle.clean_build.specs.declared.works.LinksWork.{LinksWork}
use Rattle.clean_build.specs.declared.works.PageMade.{PageMade}
use Rattle.clean_build.specs.declared.works.PageWork.{PageWork}

-- The links of a plan

abbrev pub MakesLinks : LinksWork → World → World → Setting → NodeLinks → Type 0
MakesLinks work here world setting made = IsReady world work.ground setting → AreNodeLinks world work.ground.plan.now made

-- the documents in which nodes stand, and pages of those that they lead to
abbrev pub TellsLinks : LinksWork → World → Setting → List Told → List Told → Type 0
TellsLinks work world setting old new = TellsOnly (is_of_links work.ground.plan.now) old new

-- The contents page

abbrev pub MakesContents : ContentsWork → World → World → Setting → Html → Type 0
MakesContents work here world setting made =
    IsReady world work.ground setting → made ≡ contents_part world work.ground.plan.now

abbrev pub TellsContents : ContentsWork → World → Setting → List Told → List Told → Type 0
TellsContents work world setting old new = TellsOnly (is_of_contents work.ground.plan.now) old new

-- The root of a document, by its line

-- the document of this name has a root, which stands at this line
pub record IsRootAt (world : World) (name : List ℕ) (line : ℕ) : Type 0 where
  pub root : Whole
  pub there : root_in world name ≡ Some root
  pub doc : root.0.doc ≡ name
  pub line_is : root.0.line ≡ line

abbrev pub IsRootLine : World → List ℕ → Option ℕ → Type 0
IsRootLine world name None = root_in world name ≡ None
IsRootLine world name (Some line) = IsRootAt world name line

-- The content of a page

-- in the room that pages have
abbrev pub page_content_of : World → Plan → Option (List ℕ) → PagePlan → Made
page_content_of world plan val page = content_of_page rooms world plan val page

-- A page, with these faults behind its own

-- in a document whose root stands under this name, at this line, marked by these rules
abbrev pub page_at : Rooms → World → Plan → ℕ → PagePlan → List Fault → List ℕ → ℕ → List (List Rule) → Made → Html
page_at room world plan index page behind name line rules made =
    let here = here_of world plan page index in
    page_within room.bytes name line (title_in world page.id.doc []) (body_of here rules behind made)
    (all_page_links world plan index (element_links here made.nodes))

abbrev pub page_of_root : Rooms → World → Plan → Option (List ℕ) → ℕ → PagePlan → List Fault → Whole → Html
page_of_root room world plan val index page behind root =
    page_at room world plan index page behind root.0.doc root.0.line (page_rules world val page)
    (content_of_root room world plan val page root)

abbrev pub page_behind : Rooms → World → Plan → Option (List ℕ) → ℕ → PagePlan → List Fault → Html
page_behind room world plan val index page behind = option_map_or
    (page_of_root room world plan val index page behind) (root_in world page.id.doc) no_html

abbrev pub nothing : Tables → PageMade
nothing content = record { html = no_html; terms = []; content = content }

-- the page's number, if its terms are wanted
abbrev pub number_wanted : Bool → ℕ → Option ℕ
number_wanted false number = None
number_wanted true number = Some number

-- the page of a document whose root stands at this line
pub record IsMadeAt (here world : World) (work : PageWork) (line : ℕ) (made : PageMade) : Type 0 where
  pub html :
      made.html ≡
      page_at rooms world work.ground.plan.now work.index work.page.now work.behind work.page.now.id.doc line
      (rules_for world (context_for work.ground work.page.now))
      (content_of world work.ground.plan.now (context_for work.ground work.page.now))
  pub terms :
      made.terms ≡
      terms_wanted (number_wanted work.with_terms work.index)
      (content_of world work.ground.plan.now (context_for work.ground work.page.now)).nodes
  pub content : AreKnown here world work.ground.plan.now made.content

pub record IsPageMade (here world : World) (work : PageWork) (made : PageMade) : Type 0 where
  pub html :
      made.html ≡
      page_behind rooms world work.ground.plan.now (option_copied work.ground.val) work.index work.page.now work.behind
  pub terms :
      made.terms ≡
      terms_wanted (number_wanted work.with_terms work.index)
      (page_content_of world work.ground.plan.now (option_copied work.ground.val) work.page.now).nodes
  pub content : AreKnown here world work.ground.plan.now made.content

-- the rules that it handed back are right whatever it was made for
pub record MakesPage (work : PageWork) (here world : World) (setting : Setting) (made : PageMade) : Type 0 where
  pub rules : AreRules here work.content.rules → AreRules here made.content.rules
  pub page : IsReady world work.ground setting
      → slice_get work.ground.plan.now.pages work.index ≡ Some work.page.now
      → AreNodeLinks world work.ground.plan.now work.links.now → AreKnown here world work.ground.plan.now work.content
      → IsPageMade here world work made

-- it asks for documents of the page and for its DITAVALs alone as a whole
abbrev pub TellsPage : PageWork → World → Setting → List Told → List Told → Type 0
TellsPage work world setting old new =
    ReadsOnly (MayReadFor world setting (context_for work.ground work.page.now)) old new

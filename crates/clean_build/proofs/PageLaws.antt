-- The page of a plan, from the content that was resolved and the root of its document.
use Rattle.std.specs.Prelude.{◌≡◌, ◌++◌, ℕ, Bool, true, false, List, [], ◌∷◌, Option, Some, None, Result, Ok, Err, IfOk, option_map, slice_get}
use Rattle.std.specs.List.{flat_map}
use Rattle.std.specs.Option.{option_copied, option_map_or, option_to_list}
use Rattle.std.proofs.Common.{refl, sym, ap, subst, ◌∙◌}
use Rattle.conref_pull.specs.Resolved.{page_made, root_faults}
use Rattle.conref_targets.specs.Rules as kept
use Rattle.conref_targets.specs.Rules.{AreRules, ditavals}
use Rattle.conref_targets.specs.ResolveInput as pulled
use Rattle.dita_doc.specs.declared.content.PageLink.{PageLink}
use Rattle.dita_doc.specs.declared.content.Rule.{Rule}
use Rattle.dita_doc.specs.declared.content.TermEntry.{TermEntry}
use Rattle.dita_doc.specs.declared.fact.Html.{Html}
use Rattle.dita_doc.specs.declared.fault.Fault.{Fault}
use Rattle.dita_doc.specs.declared.plan.Context.{Context}
use Rattle.dita_doc.specs.declared.plan.PagePlan.{PagePlan}
use Rattle.dita_doc.specs.declared.plan.Plan.{Plan}
use Rattle.dita_doc.specs.declared.stop.NoMemory.{NoMemory}
use Rattle.ditaval_rules.specs.declared.rules.RulesRead.{RulesRead}
use Rattle.map_spec.specs.Branches.{ditaval_in}
use Rattle.map_spec.specs.Included.{root_in}
use Rattle.map_spec.specs.Titles.{title_in}
use Rattle.map_spec.specs.Written.{Whole, End}
use Rattle.node_links.specs.NodeTable.{AreNodeLinks, node_links}
use Rattle.html_spec.specs.Anchors.{element_links}
use Rattle.conref_spec.specs.Content.{Made, count_limit, nothing_made, resolved_page}
use Rattle.link_spec.specs.Links.{row_faults}
use Rattle.html_spec.specs.PageHtml.{page_html}
use Rattle.part_spec.specs.Parts.{content_of_root, here_of, hrefs_once, no_html, page_content, page_part, page_rules, rooms, rules_of, too_many}
use Rattle.reader_spec.specs.World.{World}
use Rattle.readers.specs.Setting.{Setting}
use Rattle.clean_build.specs.Bodies.{AreKnown, IsBodyMade, body_of, content_of, rules_for, terms_wanted}
use Rattle.clean_build.specs.BuildInput.{IsReady}
use Rattle.clean_build.specs.Made.{IsMadeAt, IsPageMade, IsRootAt, MakesPage, nothing, number_wanted, page_at, page_behind, page_content_of, page_of_root}
use Rattle.clean_build.specs.Told.{made_for}
use Rattle.clean_build.specs.declared.body.BodyMade.{BodyMade}
use Rattle.clean_build.specs.declared.works.PageMade.{PageMade}
use Rattle.clean_build.specs.declared.works.PageWork.{PageWork}
use Rattle.clean_build.proofs.LinkLaws.{links_once}

-- The rules by which a page is judged

rules_one : (read : Option RulesRead)
    → option_to_list (option_map (λ (r : RulesRead). r.rules) read) ≡ rules_of read
rules_one None = refl
rules_one (Some read) = refl

rules_all : (world : World) (names : List (List ℕ)) → kept.page_rules world names
    ≡ flat_map (λ name. rules_of (ditaval_in world name)) names
rules_all world [] = refl
rules_all world (name ∷ names) =
    ap (λ rules. rules ++ kept.page_rules world names) (rules_one (ditaval_in world name))
    ∙ ap (λ rules. rules_of (ditaval_in world name) ++ rules) (rules_all world names)

-- The content of a page

module _ (world : World) (plan : Plan) (val : Option (List ℕ)) (page : PagePlan) where
  abbrev names : List (List ℕ)
  names = ditavals val page.id.filters

  abbrev content : Made
  content = page_made world (made_for plan) val page.id

  content_is : (root : Whole) → root_in world page.id.doc ≡ Some root
      → content ≡ content_of_root rooms world plan val page root
  content_is root there =
      ap (λ found. resolved_page count_limit (root_faults found) (pulled.setting_of world (made_for plan) page.id
      (kept.page_rules world names))) there
      ∙ ap (λ (rules : List (List Rule)). resolved_page count_limit (too_many root)
      (pulled.setting_of world (made_for plan) page.id rules)) (rules_all world names)

  -- in a document with a root
  pub content_rooted : (line : ℕ) → IsRootAt world page.id.doc line → content ≡ page_content_of world plan val page
  content_rooted line at = content_is at.root at.there ∙ ap (λ (found : Option Whole).
      option_map_or (content_of_root rooms world plan val page) found nothing_made) (sym at.there)

  -- and without one
  pub content_rootless : root_in world page.id.doc ≡ None → nothing_made ≡ page_content_of world plan val page
  content_rootless none = ap (λ (found : Option Whole).
      option_map_or (content_of_root rooms world plan val page) found nothing_made) (sym none)

-- at an index
pub content_there : (world : World) (plan : Plan) (val : Option (List ℕ)) (index : ℕ) (page : PagePlan)
    → slice_get plan.pages index ≡ Some page
    → page_content_of world plan val page ≡ page_content rooms world plan val index
unfolding page_content
content_there world plan val index page there = ap (λ (found : Option PagePlan).
    option_map_or (page_content_of world plan val) found nothing_made) (sym there)

-- The page

module _ (world : World) (plan : Plan) (val : Option (List ℕ)) (index : ℕ) (page : PagePlan) (behind : List Fault) where
  -- in a document with a root
  pub page_rooted : (line : ℕ) → IsRootAt world page.id.doc line
      → page_at rooms world plan index page behind page.id.doc line (kept.page_rules world (ditavals val page.id.filters))
      (page_made world (made_for plan) val page.id)
      ≡ page_behind rooms world plan val index page behind
  page_rooted line at =
      let rules = kept.page_rules world (ditavals val page.id.filters) in
      let made = page_made world (made_for plan) val page.id in
      ap (λ name. page_at rooms world plan index page behind name line rules made) (sym at.doc)
      ∙ ap (λ n. page_at rooms world plan index page behind at.root.0.doc n rules made) (sym at.line_is)
      ∙ ap (λ (all : List (List Rule)). page_at rooms world plan index page behind at.root.0.doc at.root.0.line all made)
      (rules_all world (ditavals val page.id.filters))
      ∙ ap (page_at rooms world plan index page behind at.root.0.doc at.root.0.line (page_rules world val page))
      (content_is world plan val page at.root at.there)
      ∙ ap (λ (found : Option Whole). option_map_or (page_of_root rooms world plan val index page behind) found no_html)
      (sym at.there)

  -- and without one
  pub page_rootless : root_in world page.id.doc ≡ None
      → no_html ≡ page_behind rooms world plan val index page behind
  page_rootless none =
      ap (λ (found : Option Whole). option_map_or (page_of_root rooms world plan val index page behind) found no_html)
      (sym none)

-- What is made of a page's document

-- without terms
no_terms : (wanted : Bool) (index : ℕ) → ◌≡◌ {A = List TermEntry} [] (terms_wanted (number_wanted wanted index) End)
no_terms false index = refl
no_terms true index = refl

pub made_rooted : (here world : World) (work : PageWork) (line : ℕ) (made : PageMade)
    → IsRootAt world work.page.now.id.doc line → IsMadeAt here world work line made → IsPageMade here world work made
made_rooted here world work line made at is =
    let plan = work.ground.plan.now in
    let val = option_copied work.ground.val in
    let page = work.page.now in record {
      html = is.html ∙ page_rooted world plan val work.index page work.behind line at;
      terms = is.terms ∙ ap (λ (m : Made). terms_wanted (number_wanted work.with_terms work.index) m.nodes)
          (content_rooted world plan val page line at);
      content = is.content;
    }

pub made_rootless : (here world : World) (work : PageWork) (made : PageMade)
    → root_in world work.page.now.id.doc ≡ None → made ≡ nothing work.content
    → AreKnown here world work.ground.plan.now work.content → IsPageMade here world work made
made_rootless here world work made none is known =
    let plan = work.ground.plan.now in
    let val = option_copied work.ground.val in
    let page = work.page.now in
    subst (IsPageMade here world work) (sym is) (record {
      html = page_rootless world plan val work.index page work.behind none;
      terms = no_terms work.with_terms work.index
          ∙ ap (λ (m : Made). terms_wanted (number_wanted work.with_terms work.index) m.nodes)
          (content_rootless world plan val page none);
      content = known;
    })

-- a page, if there is one, is what its work makes, and hands back the rules
pub made_from : (result : Result PageMade NoMemory) (work : PageWork) (here world : World) (setting : Setting)
    → (AreRules here work.content.rules → IfOk result (λ (made : PageMade). AreRules here made.content.rules))
    → (IsReady world work.ground setting → slice_get work.ground.plan.now.pages work.index ≡ Some work.page.now
    → AreNodeLinks world work.ground.plan.now work.links.now → AreKnown here world work.ground.plan.now work.content
    → IfOk result (IsPageMade here world work))
    → IfOk result (MakesPage work here world setting)
made_from (Ok made) work here world setting rules page = record { rules = rules; page = page }
made_from (Err stop) work here world setting rules page = tt

-- The page at an index

pub page_there : (world : World) (plan : Plan) (val : Option (List ℕ)) (index : ℕ) (page : PagePlan)
    → slice_get plan.pages index ≡ Some page
    → page_behind rooms world plan val index page (row_faults plan) ≡ page_part rooms world plan val index
unfolding page_part
page_there world plan val index page there = ap (λ (found : Option PagePlan). option_map_or
    (λ (p : PagePlan). page_behind rooms world plan val index p (row_faults plan)) found no_html) (sym there)

-- The page, from its body, its links and its title
pub page_shown : (here world : World) (plan : Plan) (index : ℕ) (page : PagePlan) (behind : List Fault) (line : ℕ)
    (number : Option ℕ) (context : Context) (made : BodyMade) (of_nodes hrefs : List PageLink) (html : Html)
    → IsBodyMade here world plan context page index behind number made → of_nodes ≡ node_links world plan index
    → hrefs ≡ hrefs_once (of_nodes ++ made.links)
    → html ≡ page_html page.id.doc line (title_in world page.id.doc []) made.body hrefs
    → html ≡ page_at rooms world plan index page behind page.id.doc line (rules_for world context)
    (content_of world plan context)
page_shown here world plan index page behind line number context made of_nodes hrefs html is nodes once shown =
    let here = here_of world plan page index in
    let content = content_of world plan context in
    let name = page.id.doc in
    let title = title_in world name [] in
    let links = once ∙ ap hrefs_once (ap (λ all. all ++ made.links) nodes
    ∙ ap (λ all. node_links world plan index ++ all) is.links)
    ∙ links_once world plan index (element_links here content.nodes) in
    shown
    ∙ ap (λ (body : Html). page_html name line title body hrefs) is.body
    ∙ ap (λ (all : List PageLink). page_html name line title (body_of here (rules_for world context) behind content) all)
    links

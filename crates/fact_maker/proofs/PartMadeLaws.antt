-- What the works of a page and of the contents page make by the tables of a plan is right for the fact of the plan.
use Rattle.std.specs.Prelude.{◌≡◌, ◌++◌, ◌<◌, ℕ, List, [], IsTrue, Option, Some, length, reverse, slice_get}
use Rattle.std.specs.Coded.{Coded-set, coded_ℕ}
use Rattle.std.specs.List.{filter_map, flat_map}
use Rattle.std.specs.Option.{option_copied, option_to_list}
use Rattle.std.proofs.Common.{sym, ap, subst}
use Rattle.std.proofs.Math.Logic.{∥∥₁_elim}
use Rattle.build_plan.specs.Documents.{build_names}
use Rattle.clean_build.specs.BuildInput.{IsReady, context_for}
use Rattle.clean_build.specs.Names.{names_of_build, names_of_page, names_of_plan}
use Rattle.clean_build.specs.Reads.{MayReadFor, ReadsOnly}
use Rattle.clean_build.specs.Told.{made_for, told_by_plan}
use Rattle.clean_build.specs.declared.build_input.BuildInput.{BuildInput}
use Rattle.conref_targets.specs.Rules.{ditavals}
use Rattle.dita_doc.specs.Desk.{State}
use Rattle.dita_doc.specs.declared.fact.Html.{Html}
use Rattle.dita_doc.specs.declared.fact.Part.TheVariants as parts
use Rattle.dita_doc.specs.declared.plan.PagePlan.{PagePlan}
use Rattle.dita_doc.specs.declared.plan.Plan.{Plan}
use Rattle.dita_doc.specs.declared.plan.PlanNode.{PlanNode}
use Rattle.fact_judge.specs.Founded.{names_of_answer}
use Rattle.fact_judge.specs.Order.{given_by}
use Rattle.facts.specs.declared.fact.Fact.{Fact}
use Rattle.map_spec.specs.Pages.{local_name}
use Rattle.map_spec.specs.Scopes.{scopes}
use Rattle.node_links.specs.NodeTable.{AreNodeLinks}
use Rattle.node_links.specs.declared.table.NodeLinks.{NodeLinks}
use Rattle.part_spec.specs.Parts.{contents_part, page_part, rooms}
use Rattle.plan_reader.specs.Tables.{AreTables}
use Rattle.plan_reader.specs.declared.tables.PlanTables.{PlanTables}
use Rattle.reader_spec.specs.World.{World, world_of}
use Rattle.readers.proofs.AmongLaws.{among_back, among_either, among_front}
use Rattle.readers.specs.Founded.{StaysFounded, homes, is_among}
use Rattle.readers.specs.Noted.{answered_of}
use Rattle.readers.specs.Only.{TellsOnly}
use Rattle.readers.specs.Told.{Agrees}
use Rattle.readers.specs.declared.questions.Note.{Note}
use Rattle.toc_page.specs.Made.{is_of_contents}
use Rattle.fact_maker.proofs.ContentsRightLaws.{right_contents}
use Rattle.fact_maker.proofs.GroundLaws.{ditavals_planned, homes_planned, names_known}
use Rattle.fact_maker.proofs.GroundRightLaws.{among_pages, ground_planned, own, right_of}
use Rattle.fact_maker.proofs.LinkLaws.{links_same}
use Rattle.fact_maker.proofs.PageRightLaws.{right_page}
use Rattle.fact_maker.proofs.PropLaws.{right_prop}
use Rattle.fact_maker.specs.Made.{IsRightOf}
use Rattle.fact_maker.specs.Own.{own_asked}
use Rattle.fact_maker.specs.Ready.{IsGround}

-- the table has the scopes of the plan
pub scopes_counted : (world : World) (nodes : List PlanNode) (documents : List (List ℕ)) (pages : List PagePlan)
    (tables : PlanTables) → AreTables world nodes documents pages tables
    → length tables.scopes.scopes ≡ length (scopes nodes)
scopes_counted world nodes documents pages tables are =
    ∥∥₁_elim are.keyed.tabled (Coded-set coded_ℕ _ _) (λ is. ap length is.scopes)

-- what a page is about is what its build is about
page_names : (plan : Plan) (vals : List (List ℕ)) (at : ℕ) (page : PagePlan) → slice_get plan.pages at ≡ Some page
    → (m : List ℕ) → IsTrue (is_among (homes plan.nodes ++ (names_of_page page ++ (vals ++ names_of_plan plan))) m)
    → IsTrue (is_among (homes plan.nodes ++ (vals ++ names_of_plan plan)) m)
page_names plan vals at page there m among =
    among_either (homes plan.nodes) (names_of_page page ++ (vals ++ names_of_plan plan)) m
    (IsTrue (is_among (homes plan.nodes ++ (vals ++ names_of_plan plan)) m))
    (among_front (homes plan.nodes) (vals ++ names_of_plan plan) m)
    (λ behind. among_back (homes plan.nodes) (vals ++ names_of_plan plan) m
    (among_either (names_of_page page) (vals ++ names_of_plan plan) m (IsTrue (is_among (vals ++ names_of_plan plan) m))
    (λ here. among_back vals (names_of_plan plan) m (among_back (homes plan.nodes)
    (filter_map local_name plan.targets ++ (plan.documents ++ flat_map names_of_page plan.pages)) m
    (among_back (filter_map local_name plan.targets) (plan.documents ++ flat_map names_of_page plan.pages) m
    (among_back plan.documents (flat_map names_of_page plan.pages) m (among_pages plan.pages at page there m here)))))
    (λ rest. rest) behind)) among

module _ {sources : State} {fact : Fact} {ground : BuildInput} (is : IsGround sources fact ground) where
  abbrev plan : Plan
  plan = ground.plan.now

  -- what is known of a build by its plan
  build_known : (m : List ℕ) → IsTrue (is_among (homes plan.nodes ++ names_of_build ground) m)
      → IsTrue (is_among (build_names ground.map.now (option_copied ground.val) ++ given_by names_of_answer (own is)) m)
  build_known m among =
      subst (λ (map : List ℕ). IsTrue
      (is_among (build_names map (option_copied ground.val) ++ given_by names_of_answer (own is)) m)) (sym is.map)
      (subst (λ (val : Option (List ℕ)). IsTrue
      (is_among (build_names fact.key.map val ++ given_by names_of_answer (own is)) m)) (sym is.val)
      (names_known fact is.agreed.sound plan is.plan (world_of sources) is.agreed.agrees m
      (subst (λ (val : Option (List ℕ)). IsTrue
      (is_among (homes plan.nodes ++ (option_to_list val ++ names_of_plan plan)) m)) is.val among)))

  module _ (tables : PlanTables)
      (tabled : AreTables (world_of sources) plan.nodes plan.documents plan.pages tables) (notes : List Note)
      (agrees : Agrees (world_of sources) (told_by_plan plan notes)) (html : Html) where
    abbrev count : ℕ
    count = length tables.scopes.scopes

    counted : count ≡ length (scopes plan.nodes)
    counted = scopes_counted (world_of sources) plan.nodes plan.documents plan.pages tables tabled

    pub page_right : (index : ℕ) (page : PagePlan) (links : NodeLinks) → slice_get plan.pages index ≡ Some page
        → index < length plan.pages → ∥ AreNodeLinks (world_of sources) plan links ∥₁
        → ((world : World) → Agrees world (told_by_plan plan notes) → IsReady world ground (made_for plan)
        → AreNodeLinks world plan links → html ≡ page_part rooms world plan (option_copied ground.val) index)
        → StaysFounded (homes plan.nodes ++ (names_of_page page ++ names_of_build ground)) [] (told_by_plan plan notes)
        → ((world : World) → Agrees world (told_by_plan plan notes)
        → ReadsOnly (MayReadFor world (made_for plan) (context_for ground page)) [] (told_by_plan plan notes))
        → IsRightOf sources fact (parts.Page index) html (own_asked count (answered_of (reverse notes)))
    page_right index page links there within linked makes founded reads =
        ∥∥₁_elim linked (right_prop _ _ _ _ _ _ _) (λ here. right_of is (parts.Page index) html _
        (right_page ground (ground_planned is) there within count counted notes agrees html links
        (homes plan.nodes ++ (names_of_page page ++ names_of_build ground))
        (λ world answers. links_same fact is.agreed.sound plan is.plan (world_of sources) is.agreed.agrees world answers
        links here)
        (λ m among. build_known m (page_names plan (option_to_list (option_copied ground.val)) index page there m among))
        (λ m among. ditavals_planned fact is.agreed.sound plan is.plan (world_of sources) is.agreed.agrees index page there m
        (subst (λ (val : Option (List ℕ)). IsTrue (is_among (ditavals val page.id.filters) m)) is.val among))
        makes founded reads))

    pub contents_right : ((world : World) → Agrees world (told_by_plan plan notes) → IsReady world ground (made_for plan)
        → html ≡ contents_part world plan)
        → StaysFounded (homes plan.nodes ++ names_of_build ground) [] (told_by_plan plan notes)
        → TellsOnly (is_of_contents plan) [] (told_by_plan plan notes)
        → IsRightOf sources fact parts.Contents html (own_asked count (answered_of (reverse notes)))
    contents_right makes founded only = right_of is parts.Contents html _
        (right_contents ground (ground_planned is) count counted notes agrees html
        (homes plan.nodes ++ names_of_build ground) build_known
        (homes_planned fact is.agreed.sound plan is.plan (world_of sources) is.agreed.agrees) makes founded only)

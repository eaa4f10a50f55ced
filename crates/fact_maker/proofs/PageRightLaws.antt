-- A page that is made of a plan is right for the plan of a fact.
use Rattle.std.specs.Prelude.{◌≡◌, ◌++◌, ◌<◌, ◌⊎◌, ℕ, List, [], IsTrue, Option, Some, Ok, length, reverse, slice_get}
use Rattle.std.specs.List.{AllByRecursion}
use Rattle.std.specs.Option.{option_copied}
use Rattle.std.proofs.Common.{refl, inl, inr}
use Rattle.std.proofs.Math.Logic.{∥∥₁_elim, ⊎_elim}
use Rattle.std.proofs.lemmas.List.Elements.{All-from_recursion}
use Rattle.build_plan.specs.Documents.{build_names}
use Rattle.clean_build.specs.BuildInput.{IsReady, context_for}
use Rattle.clean_build.specs.Reads.{MayReadFor, ReadsOnly}
use Rattle.clean_build.specs.Told.{made_for, told_by_plan}
use Rattle.clean_build.specs.declared.build_input.BuildInput.{BuildInput}
use Rattle.conref_targets.specs.ResolveInput as resolve
use Rattle.conref_targets.specs.Rules.{ditavals}
use Rattle.dita_doc.specs.Desk.{State}
use Rattle.dita_doc.specs.declared.fact.Html.{Html}
use Rattle.dita_doc.specs.declared.fact.Part.TheVariants as parts
use Rattle.dita_doc.specs.declared.plan.PagePlan.{PagePlan}
use Rattle.dita_doc.specs.declared.plan.Plan.{Plan}
use Rattle.dita_doc.specs.declared.question.Asked.{Asked}
use Rattle.fact_judge.specs.Agreed.{PlanAnswers}
use Rattle.fact_judge.specs.Asks as asks
use Rattle.fact_judge.specs.Asks.{IsPageDocumentAt, whole_documents}
use Rattle.fact_judge.specs.Founded.{names_of_answer}
use Rattle.fact_judge.specs.Order.{given_by}
use Rattle.map_spec.specs.Pushes.{pushes_into}
use Rattle.map_spec.specs.Scopes.{scopes}
use Rattle.node_links.specs.NodeTable.{AreNodeLinks}
use Rattle.node_links.specs.declared.table.NodeLinks.{NodeLinks}
use Rattle.part_spec.specs.Parts.{page_part, page_rules, rooms}
use Rattle.reader_spec.specs.World.{World, world_of}
use Rattle.readers.specs.Documents.{documents_asked}
use Rattle.readers.specs.Founded.{StaysFounded, is_among}
use Rattle.readers.specs.Noted.{answered_of}
use Rattle.readers.specs.Told.{Agrees, Told}
use Rattle.readers.specs.declared.questions.Note.{Note}
use Rattle.fact_maker.proofs.OwnAskLaws.{own_reads}
use Rattle.fact_maker.proofs.RightLaws.{each_asked, own_agrees, own_founded, with_rules, world_agrees}
use Rattle.fact_maker.specs.Own.{own_asked}
use Rattle.fact_maker.specs.Planned.{IsPlanned}
use Rattle.fact_maker.specs.Right.{IsRight, with_plan}

module _ {sources : State} (ground : BuildInput) {plan_asked : List Asked} {index : ℕ} {page : PagePlan}
    (planned : IsPlanned sources ground.map.now (option_copied ground.val) (with_plan plan_asked ground.plan.now))
    (there : slice_get ground.plan.now.pages index ≡ Some page) (within : index < length ground.plan.now.pages) where
  abbrev plan : Plan
  plan = ground.plan.now

  abbrev val : Option (List ℕ)
  val = option_copied ground.val

  abbrev May : World → List ℕ → Type 0
  May world = MayReadFor world (made_for plan) (context_for ground page)

  -- a document that may be read for a page is one that the plan asks for, or one of the page
  page_reads : ((m : List ℕ) → IsTrue (is_among (ditavals val page.id.filters) m)
      → asks.IsPlanned (with_plan plan_asked plan) m) → (world : World) (m : List ℕ) → May world m
      → ∥ asks.IsPlanned (with_plan plan_asked plan) m ⊎ IsPageDocumentAt world (Ok plan) val index m ∥₁
  page_reads ditavals_asked world m may = ∣ ⊎_elim (λ document. inr (rw there (with_rules
      (resolve.setting_of world (made_for plan) page.id []) (page_rules world val page) (pushes_into world plan.documents)
      document))) (λ ditaval. inl (ditavals_asked m ditaval)) may ∣₁

  module _ (count : ℕ) (counted : count ≡ length (scopes plan.nodes)) (notes : List Note)
      (agrees : Agrees (world_of sources) (told_by_plan plan notes)) where
    abbrev asked : List Asked
    asked = own_asked count (answered_of (reverse notes))

    pub right_page : (html : Html) (links : NodeLinks) (about : List (List ℕ))
        → ((world : World) → PlanAnswers (with_plan plan_asked plan) world → AreNodeLinks world plan links)
        → ((m : List ℕ) → IsTrue (is_among about m)
        → IsTrue (is_among (build_names ground.map.now val ++ given_by names_of_answer plan_asked) m))
        → ((m : List ℕ) → IsTrue (is_among (ditavals val page.id.filters) m)
        → asks.IsPlanned (with_plan plan_asked plan) m)
        → ((world : World) → Agrees world (told_by_plan plan notes) → IsReady world ground (made_for plan)
        → AreNodeLinks world plan links → html ≡ page_part rooms world plan val index)
        → StaysFounded about [] (told_by_plan plan notes)
        → ((world : World) → Agrees world (told_by_plan plan notes) → ReadsOnly (May world) [] (told_by_plan plan notes))
        → IsRight sources ground.map.now val (with_plan plan_asked plan) (parts.Page index) html asked
    right_page html links about linked known ditavals_asked makes founded reads = record {
      made = λ world answers own. record {
        within = within;
        made = makes world (world_agrees planned count counted notes agrees world own)
            (record { is = planned.fixed world answers; made = refl }) (linked world answers);
      };
      agrees = own_agrees planned count counted notes agrees;
      founded = own_founded planned count counted notes agrees about founded known;
      asks = record {
        each = λ world answers own k d less.
            ∥∥₁_elim ((reads world (world_agrees planned count counted notes agrees world own)).each tt) (hlevel) (λ read.
            page_reads ditavals_asked world _ (All-from_recursion (May world) (whole_documents asked)
            (own_reads (made_for plan) count (May world) (answered_of (reverse notes))
            (each_asked planned count counted notes agrees
            (λ (t : Told). AllByRecursion (May world) (documents_asked t)) read)) k d less));
      };
    }

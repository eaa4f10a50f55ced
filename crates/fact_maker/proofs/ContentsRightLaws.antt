-- The contents page that is made of a plan is right for the plan of a fact.
use Rattle.std.specs.Prelude.{◌≡◌, ◌++◌, ◌||◌, ℕ, Bool, true, false, List, [], ◌∷◌, IsTrue, Option, Some, None, length, reverse, slice_get}
use Rattle.std.specs.List.{AllByRecursion, list_any}
use Rattle.std.specs.Option.{option_copied}
use Rattle.std.proofs.Common.{refl, sym, subst, ◌∙◌, append-nil}
use Rattle.std.proofs.Math.Logic.{∥∥₁_elim}
use Rattle.std.proofs.lemmas.Bool.{false≢true}
use Rattle.build_plan.specs.Documents.{build_names}
use Rattle.clean_build.specs.BuildInput.{IsReady}
use Rattle.clean_build.specs.Told.{made_for, told_by_plan}
use Rattle.clean_build.specs.declared.build_input.BuildInput.{BuildInput}
use Rattle.dita_doc.specs.Desk.{State}
use Rattle.dita_doc.specs.declared.content.KeyAnswer.{KeyAnswer}
use Rattle.dita_doc.specs.declared.fact.Html.{Html}
use Rattle.dita_doc.specs.declared.fact.Part.TheVariants as parts
use Rattle.dita_doc.specs.declared.plan.Plan.{Plan}
use Rattle.dita_doc.specs.declared.plan.PlanNode.{PlanNode}
use Rattle.dita_doc.specs.declared.question.Asked.{Asked}
use Rattle.fact_judge.specs.Asks as asks
use Rattle.fact_judge.specs.Asks.{whole_documents}
use Rattle.fact_judge.specs.Founded.{names_of_answer}
use Rattle.fact_judge.specs.Order.{given_by}
use Rattle.map_spec.specs.Pages.{local_name}
use Rattle.map_spec.specs.Scopes.{places, scopes}
use Rattle.link_spec.specs.Links.{plan_target}
use Rattle.part_spec.specs.Parts.{contents_part}
use Rattle.reader_spec.specs.World.{World, world_of}
use Rattle.readers.specs.Documents.{documents_asked}
use Rattle.readers.specs.Founded.{StaysFounded, homes, is_among}
use Rattle.readers.specs.Noted.{answered_of}
use Rattle.readers.specs.Only.{TellsOnly}
use Rattle.readers.specs.Told.{Agrees, Told, document, kind, title, first, key, pushes, page_of, pending, pending_document}
use Rattle.readers.specs.declared.questions.Note.{Note}
use Rattle.toc_page.specs.Made.{is_of_contents, is_page_at, is_page_by, is_page_of_nodes}
use Rattle.fact_maker.proofs.OwnAskLaws.{all_pass, listed_order, own_no_key, own_reads}
use Rattle.fact_maker.proofs.PropLaws.{asks_prop}
use Rattle.fact_maker.proofs.RightLaws.{each_asked, own_agrees, own_founded, world_agrees}
use Rattle.fact_maker.specs.Own.{own_asked}
use Rattle.fact_maker.specs.Planned.{IsPlanned}
use Rattle.fact_maker.specs.Right.{HtmlAsks, IsRight, with_plan}

-- What no test of a page lets through

none_any : {X : Type 0} (test : X → Bool) (xs : List X) → ((x : X) → test x ≡ false) → list_any test xs ≡ false
none_any test [] none = refl
none_any test (x ∷ xs) none = rw (none x) (none_any test xs none)

not_by : (plan : Plan) (t : Told) → ((node : PlanNode) (name : List ℕ) → is_page_by plan (Some node) (Some name) t ≡ false)
    → (found : Option PlanNode) (name : Option (List ℕ)) → is_page_by plan found name t ≡ false
not_by plan t none None name = refl
not_by plan t none (Some node) None = refl
not_by plan t none (Some node) (Some name) = none node name

no_page : (plan : Plan) (t : Told) → ((node : PlanNode) (name : List ℕ) → is_page_by plan (Some node) (Some name) t ≡ false)
    → is_page_of_nodes plan t ≡ false
no_page plan t none = none_any (is_page_at plan t) (places plan.nodes)
    (λ at. not_by plan t none (slice_get plan.nodes at) (local_name (plan_target plan at)))

-- no key is asked for
no_key : (plan : Plan) (scope : ℕ) (text : List ℕ) (answer : KeyAnswer)
    → is_of_contents plan (key plan.nodes scope text answer) ≡ false
no_key plan scope text answer = rw (no_page plan (key plan.nodes scope text answer) (λ node name. refl)) refl

-- a document that is asked for is one in which a node stands
alone : (a b : Bool) → b ≡ false → IsTrue (a || (false || (b || false))) → IsTrue a
alone true b none or = refl
alone false true none or = absurd (false≢true (sym none))
alone false false none or = or

home_of : (plan : Plan) (t : Told) → IsTrue (is_of_contents plan t)
    → AllByRecursion (λ (name : List ℕ). IsTrue (is_among (homes plan.nodes) name)) (documents_asked t)
home_of plan (document name tree) here = (
  alone (is_among (homes plan.nodes) name) (is_page_of_nodes plan (document name tree))
      (no_page plan (document name tree) (λ node other. refl)) here,
  tt,
)
home_of plan (kind name answer) here = tt
home_of plan (title name topic text) here = tt
home_of plan (first name id) here = tt
home_of plan (key nodes scope text answer) here = tt
home_of plan (pushes documents name answer) here = tt
home_of plan (page_of pages name context answer) here = tt
home_of plan (pending names) here = tt
home_of plan (pending_document name) here = (
  alone (is_among (homes plan.nodes) name) (is_page_of_nodes plan (pending_document name))
      (no_page plan (pending_document name) (λ node other. refl)) here,
  tt,
)

weaker : {X : Type 0} (P Q : X → Type 0) → ((x : X) → P x → Q x) → (xs : List X) → AllByRecursion P xs
    → AllByRecursion Q xs
weaker P Q each [] all = tt
weaker P Q each (x ∷ xs) all = (each x all.0, weaker P Q each xs all.1)

module _ {sources : State} (ground : BuildInput) {plan_asked : List Asked}
    (planned : IsPlanned sources ground.map.now (option_copied ground.val) (with_plan plan_asked ground.plan.now))
    (count : ℕ) (counted : count ≡ length (scopes ground.plan.now.nodes)) (notes : List Note)
    (agrees : Agrees (world_of sources) (told_by_plan ground.plan.now notes)) where
  abbrev plan : Plan
  plan = ground.plan.now

  abbrev val : Option (List ℕ)
  val = option_copied ground.val

  abbrev all : List Asked
  all = answered_of (reverse notes)

  abbrev asked : List Asked
  asked = own_asked count all

  abbrev Home : List ℕ → Type 0
  Home name = IsTrue (is_among (homes plan.nodes) name)

  abbrev Planned : List ℕ → Type 0
  Planned name = asks.IsPlanned (with_plan plan_asked plan) name

  asks_by : ((m : List ℕ) → Home m → Planned m)
      → AllByRecursion (λ (t : Told). IsTrue (is_of_contents plan t)) (told_by_plan plan notes)
      → HtmlAsks parts.Contents (with_plan plan_asked plan) val asked
  asks_by homes_asked tested =
      let told = weaker (λ (t : Told). IsTrue (is_of_contents plan t)) (λ (t : Told). AllByRecursion Home (documents_asked t))
      (home_of plan) (told_by_plan plan notes) tested in
      let each = each_asked planned count counted notes agrees (λ (t : Told). AllByRecursion Home (documents_asked t)) told in
      let tests = each_asked planned count counted notes agrees (λ (t : Told). IsTrue (is_of_contents plan t)) tested in (
        listed_order (whole_documents plan_asked) (whole_documents plan_asked) (λ m among. among) asked
            (weaker Home Planned homes_asked (whole_documents asked) (own_reads (made_for plan) count Home all each)),
        own_no_key (made_for plan) count (is_of_contents plan) (no_key plan) all tests,
      )

  pub right_contents : (html : Html) (about : List (List ℕ)) → ((m : List ℕ) → IsTrue (is_among about m)
      → IsTrue (is_among (build_names ground.map.now val ++ given_by names_of_answer plan_asked) m))
      → ((m : List ℕ) → Home m → Planned m)
      → ((world : World) → Agrees world (told_by_plan plan notes) → IsReady world ground (made_for plan)
      → html ≡ contents_part world plan)
      → StaysFounded about [] (told_by_plan plan notes)
      → TellsOnly (is_of_contents plan) [] (told_by_plan plan notes)
      → IsRight sources ground.map.now val (with_plan plan_asked plan) parts.Contents html asked
  right_contents html about known homes_asked makes founded only = record {
    made = λ world answers own. makes world (world_agrees planned count counted notes agrees world own)
        (record { is = planned.fixed world answers; made = refl });
    agrees = own_agrees planned count counted notes agrees;
    founded = own_founded planned count counted notes agrees about founded known;
    asks = ∥∥₁_elim only.is (asks_prop parts.Contents (with_plan plan_asked plan) val asked) (λ p. asks_by homes_asked
        (subst (AllByRecursion (λ (t : Told). IsTrue (is_of_contents plan t))) (sym (p.1.0 ∙ append-nil p.0))
        (all_pass (is_of_contents plan) p.0 p.1.1)));
  }

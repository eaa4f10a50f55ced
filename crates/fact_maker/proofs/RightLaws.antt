-- What is made of a plan by a work that says what it tells is right for the plan of a fact.
use Rattle.std.specs.Prelude.{◌≡◌, ◌++◌, ℕ, List, [], IsTrue, Option, Some, length, reverse}
use Rattle.std.specs.List.{AllByRecursion}
use Rattle.build_plan.specs.Documents.{build_names}
use Rattle.clean_build.proofs.PlanLaws.{IsPlanIn, plan_facts}
use Rattle.clean_build.specs.Told.{made_for, told_by_plan}
use Rattle.conref_spec.specs.Content.{ResolveInput}
use Rattle.conref_spec.specs.PageDocuments.{IsPageDocument, own, by_conref, by_key, pushing}
use Rattle.dita_doc.specs.Desk.{State}
use Rattle.dita_doc.specs.declared.content.PushList.{PushList}
use Rattle.dita_doc.specs.declared.content.Rule.{Rule}
use Rattle.dita_doc.specs.declared.plan.Plan.{Plan}
use Rattle.dita_doc.specs.declared.question.Asked.{Asked}
use Rattle.fact_judge.specs.Agreed.{PlanAnswers}
use Rattle.fact_judge.specs.Answer.{AreAnswers}
use Rattle.fact_judge.specs.Founded.{names_in_question, names_of_answer}
use Rattle.fact_judge.specs.Order.{InOrder, given_by}
use Rattle.key_scopes.proofs.ScopeTreeLaws.{scopes_ordered}
use Rattle.key_scopes.proofs.TreeLaws.{tree_ordered, tree_parents}
use Rattle.key_scopes.specs.Above.{AreInPreorder, parent_in}
use Rattle.map_spec.specs.Scopes.{scopes}
use Rattle.reader_spec.specs.World.{World, world_of}
use Rattle.readers.proofs.AnsweredLaws.{agrees_with_answered, agrees_with_notes, answered_founded}
use Rattle.readers.proofs.FoundedLaws.{stays_by}
use Rattle.readers.specs.Founded.{StaysFounded, is_among}
use Rattle.readers.specs.Noted.{answered_of, told_asked}
use Rattle.readers.specs.Told.{Agrees, Told}
use Rattle.readers.specs.declared.questions.Note.{Note}
use Rattle.fact_maker.proofs.OwnAskLaws.{each_answered}
use Rattle.fact_maker.proofs.OwnLaws.{AllHold, agrees_all, hold_all, own_answers, own_hold}
use Rattle.fact_maker.proofs.OwnOrderLaws.{own_order}
use Rattle.fact_maker.specs.Own.{own_asked}
use Rattle.fact_maker.specs.Planned.{IsPlanned}
use Rattle.fact_maker.specs.Right.{with_plan}

module _ {sources : State} {map : List ℕ} {val : Option (List ℕ)} {plan : Plan} {plan_asked : List Asked}
    (planned : IsPlanned sources map val (with_plan plan_asked plan)) where
  pub in_plan : (world : World) → PlanAnswers (with_plan plan_asked plan) world → IsPlanIn world plan
  in_plan world answers = plan_facts world map val plan (planned.fixed world answers)

  pub facts_here : IsPlanIn (world_of sources) plan
  facts_here = in_plan (world_of sources) planned.agrees

  ordered : AreInPreorder (parent_in (scopes plan.nodes)) (length (scopes plan.nodes))
  ordered = let tree = facts_here.tree in
      scopes_ordered plan.nodes (tree_ordered plan.nodes tree) (tree_parents plan.nodes tree)

  abbrev known_names : List (List ℕ)
  known_names = build_names map val ++ given_by names_of_answer plan_asked

  module _ (count : ℕ) (counted : count ≡ length (scopes plan.nodes)) (notes : List Note)
      (agrees : Agrees (world_of sources) (told_by_plan plan notes)) where
    abbrev all : List Asked
    all = answered_of (reverse notes)

    here : AllHold (world_of sources) (made_for plan) all
    here = (hold_all (world_of sources) (made_for plan) [] all
        (agrees_with_answered (made_for plan) [] (world_of sources) notes agrees)).0

    -- the sources give the own answers
    pub own_agrees : AreAnswers (world_of sources) (Some (made_for plan)) (own_asked count all)
    own_agrees = own_answers (made_for plan) count counted ordered (world_of sources) all here

    -- a world that gives the own answers agrees with all that was told
    pub world_agrees : (world : World) → AreAnswers world (Some (made_for plan)) (own_asked count all)
        → Agrees world (told_by_plan plan notes)
    world_agrees world answers = agrees_with_notes (made_for plan) [] world notes (agrees_all world (made_for plan) [] all
        (own_hold (made_for plan) count counted ordered world (world_of sources) all here answers) tt)

    -- the own questions are founded
    pub own_founded : (about : List (List ℕ)) → StaysFounded about [] (told_by_plan plan notes)
        → ((m : List ℕ) → IsTrue (is_among about m) → IsTrue (is_among known_names m))
        → InOrder (names_in_question plan.documents) names_of_answer known_names (own_asked count all)
    own_founded about founded known = own_order (made_for plan) count plan.documents known_names about [] all known
        (answered_founded (made_for plan) [] about notes (stays_by about [] (told_by_plan plan notes) founded about
        (record { each = λ m among. among }) tt))

    -- what holds of each question that was told holds of each that has its answer
    pub each_asked : (P : Told → Type 0) → AllByRecursion P (told_by_plan plan notes)
        → AllByRecursion (λ (one : Asked). P (told_asked (made_for plan) one)) all
    each_asked P told = each_answered (made_for plan) P notes told

-- The documents of a page do not depend on its rules

pub with_rules : (input : ResolveInput) (rules : List (List Rule)) (pushes : List ℕ → PushList) {name : List ℕ}
    → IsPageDocument input pushes name → IsPageDocument (record input { rules = rules }) pushes name
with_rules input rules pushes own = own
with_rules input rules pushes (by_conref before stands named) = by_conref (with_rules input rules pushes before)
    (record { nodes = stands.nodes; pushed = stands.pushed; among = stands.among }) named
with_rules input rules pushes (by_key before stands named) = by_key (with_rules input rules pushes before)
    (record { nodes = stands.nodes; pushed = stands.pushed; among = stands.among }) named
with_rules input rules pushes (pushing before among) = pushing (with_rules input rules pushes before) among

-- What is right for the plan of a ground is right for the fact whose plan it is.
use Rattle.std.specs.Prelude.{◌≡◌, ℕ, zero, suc, List, [], ◌∷◌, IsTrue, Option, Some, slice_get}
use Rattle.std.specs.Option.{option_copied}
use Rattle.std.specs.Arc.{arc_value}
use Rattle.std.specs.List.{flat_map}
use Rattle.std.proofs.Common.{sym, subst}
use Rattle.clean_build.specs.Names.{names_of_page}
use Rattle.clean_build.specs.declared.build_input.BuildInput.{BuildInput}
use Rattle.dita_doc.specs.Desk.{State}
use Rattle.dita_doc.specs.declared.fact.Html.{Html}
use Rattle.dita_doc.specs.declared.fact.Part.{Part}
use Rattle.dita_doc.specs.declared.plan.PagePlan.{PagePlan}
use Rattle.dita_doc.specs.declared.question.Asked.{Asked}
use Rattle.facts.specs.declared.fact.Fact.{Fact}
use Rattle.facts.specs.declared.fact.PlanFact.{PlanFact}
use Rattle.readers.proofs.AmongLaws.{among_back, among_front}
use Rattle.readers.specs.Founded.{is_among}
use Rattle.fact_maker.proofs.MakeLaws.{planned_of}
use Rattle.fact_maker.specs.Made.{IsRightOf}
use Rattle.fact_maker.specs.Planned.{IsPlanned}
use Rattle.fact_maker.specs.Ready.{IsGround}
use Rattle.fact_maker.specs.Right.{IsRight, with_plan}

-- the documents of a page are among those of all pages
pub among_pages : (pages : List PagePlan) (at : ℕ) (page : PagePlan) → slice_get pages at ≡ Some page → (m : List ℕ)
    → IsTrue (is_among (names_of_page page) m) → IsTrue (is_among (flat_map names_of_page pages) m)
among_pages [] zero page there m among = cc
among_pages [] (suc at) page there m among = cc
among_pages (first ∷ pages) zero page there m among =
    let same : first ≡ page = cc in
    among_front (names_of_page first) (flat_map names_of_page pages) m
    (subst (λ (p : PagePlan). IsTrue (is_among (names_of_page p) m)) (sym same) among)
among_pages (first ∷ pages) (suc at) page there m among =
    among_back (names_of_page first) (flat_map names_of_page pages) m (among_pages pages at page there m among)

module _ {sources : State} {fact : Fact} {ground : BuildInput} (is : IsGround sources fact ground) where
  abbrev pub own : List Asked
  own = (arc_value fact.plan).asked

  plan_is : arc_value fact.plan ≡ with_plan own ground.plan.now
  plan_is = λ i. record { asked = own; value = is.plan i }

  pub ground_planned :
      IsPlanned sources ground.map.now (option_copied ground.val) (with_plan own ground.plan.now)
  ground_planned = subst (λ (map : List ℕ). IsPlanned sources map (option_copied ground.val) (with_plan own ground.plan.now))
      (sym is.map) (subst (λ (val : Option (List ℕ)). IsPlanned sources fact.key.map val (with_plan own ground.plan.now))
      (sym is.val) (subst (IsPlanned sources fact.key.map fact.key.val) plan_is
      (planned_of sources fact is.agreed.sound is.agreed.agrees)))

  pub right_of : (part : Part) (html : Html) (asked : List Asked)
      → IsRight sources ground.map.now (option_copied ground.val) (with_plan own ground.plan.now) part html asked
      → IsRightOf sources fact part html asked
  right_of part html asked right =
      subst (λ (plan : PlanFact). IsRight sources fact.key.map fact.key.val plan part html asked) (sym plan_is)
      (subst (λ (val : Option (List ℕ)). IsRight sources fact.key.map val (with_plan own ground.plan.now) part html asked)
      is.val (subst (λ (map : List ℕ). IsRight sources map (option_copied ground.val) (with_plan own ground.plan.now)
      part html asked) is.map right))

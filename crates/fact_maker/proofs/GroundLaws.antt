-- The ground of the parts of a plan: in each world that gives the questions of a sound fact's plan their answers the plan
-- is that of the fact; the documents in which its nodes stand, and the DITAVALs, were asked for, so they are the same in
-- each such world; and all names that the parts are about are known.
use Rattle.std.specs.Prelude.{◌≡◌, ◌++◌, ℕ, zero, suc, List, [], ◌∷◌, Option, Some, None, Ok, IsTrue, map, option_map, slice_get, if◌then◌else◌}
use Rattle.std.specs.Arc.{arc_value}
use Rattle.std.specs.Option.{option_and_then, option_to_list}
use Rattle.std.proofs.Common.{refl, ap, ◌∙◌}
use Rattle.std.proofs.lemmas.Bool.{false≢true}
use Rattle.build_plan.specs.Documents.{build_names, filters_of, names_of_nodes}
use Rattle.clean_build.proofs.FoundLaws.{parts_may, plan_may}
use Rattle.clean_build.proofs.PlanLaws.{plan_facts}
use Rattle.clean_build.specs.Names.{names_of_plan}
use Rattle.conref_targets.specs.Rules.{ditavals}
use Rattle.dita_doc.specs.Tree.{Content}
use Rattle.dita_doc.specs.declared.plan.PagePlan.{PagePlan}
use Rattle.dita_doc.specs.declared.plan.Plan.{Plan}
use Rattle.dita_doc.specs.declared.plan.PlanNode.{PlanNode}
use Rattle.dita_doc.specs.declared.question.Asked.{Asked}
use Rattle.fact_judge.specs.Agreed.{PlanAnswers}
use Rattle.fact_judge.specs.Answer.{AreAnswers}
use Rattle.fact_judge.specs.Asks.{IsPlanned}
use Rattle.fact_judge.specs.Founded.{names_of_answer, roots_of}
use Rattle.fact_judge.specs.Order.{given_by}
use Rattle.fact_judge.specs.Sound.{IsSound}
use Rattle.facts.specs.declared.fact.Fact.{Fact}
use Rattle.map_spec.specs.Cascade.{whole_at}
use Rattle.map_spec.specs.Judged.{has_element}
use Rattle.map_spec.specs.PlanOf.{limits, plan_of}
use Rattle.map_spec.specs.Written.{element_at, written_in}
use Rattle.reader_spec.specs.World.{World}
use Rattle.readers.proofs.AmongLaws.{among_either}
use Rattle.readers.proofs.FoundedLaws.{among_behind, among_first, root_allowed}
use Rattle.readers.specs.Founded.{AreAllowed, homes, is_allowed, is_among}
use Rattle.readers.specs.Noted.{told_in}
use Rattle.readers.specs.Setting.{no_setting}
use Rattle.readers.specs.Told.{Told}
use Rattle.fact_maker.proofs.AskedForLaws.{answers_same, filters_asked, home_planned, homes_asked, pages_asked, val_asked}
use Rattle.fact_maker.proofs.NameLaws.{allowed_known, asked_allowed, nodes_told}

-- The filters of nodes, from each of them

filter_in : (P : List ℕ → Type 0) (nodes : List PlanNode)
    → ((at : ℕ) (node : PlanNode) → slice_get nodes at ≡ Some node → (m : List ℕ) → IsTrue (is_among node.filters m) → P m)
    → (m : List ℕ) → IsTrue (is_among (filters_of nodes) m) → P m
filter_in P [] each m among = absurd (false≢true among)
filter_in P (node ∷ nodes) each m among = among_either node.filters (filters_of nodes) m (P m)
    (λ here. each zero node refl m here)
    (λ later. filter_in P nodes (λ at own there. each (suc at) own there) m later) among

-- The elements of nodes are the same in worlds with the same documents

same_whole : (world other : World) (node : PlanNode) → world node.doc ≡ other node.doc
    → whole_at world node ≡ whole_at other node
same_whole world other node same = ap (λ (found : Option Content). if has_element node.kind
    then option_and_then (λ nodes. element_at nodes node.place) (option_map (written_in node.doc) found) else None) same

pub same_wholes : (world other : World) (nodes : List PlanNode)
    → ((m : List ℕ) → IsTrue (is_among (homes nodes) m) → world m ≡ other m)
    → map (whole_at world) nodes ≡ map (whole_at other) nodes
same_wholes world other [] same = refl
same_wholes world other (node ∷ nodes) same = λ i.
    same_whole world other node (same node.doc (among_first node.doc (homes nodes))) i
    ∷ same_wholes world other nodes (λ m among. same m (among_behind node.doc (homes nodes) m among)) i

module _ (fact : Fact) (sound : IsSound fact) (plan : Plan) (is : (arc_value fact.plan).value ≡ Ok plan) where
  abbrev asked : List Asked
  asked = (arc_value fact.plan).asked

  abbrev told : List Told
  told = told_in no_setting [] (arc_value fact.plan).asked

  -- the plan there is this plan
  pub fixed : (world : World) → AreAnswers world None (arc_value fact.plan).asked
      → plan_of limits world fact.key.map fact.key.val ≡ Ok plan
  fixed world answers = sound.plan world answers ∙ is

  module _ (world : World) (answers : PlanAnswers (arc_value fact.plan) world) where
    -- What was asked for

    pub homes_planned : (m : List ℕ) → IsTrue (is_among (homes plan.nodes) m) → IsPlanned (arc_value fact.plan) m
    homes_planned = homes_asked fact.key.map fact.key.val plan asked fixed world answers

    pub val_planned : (m : List ℕ) → IsTrue (is_among (option_to_list fact.key.val) m)
        → IsPlanned (arc_value fact.plan) m
    val_planned = val_asked fact.key.map fact.key.val plan asked fixed world answers

    filters_planned : (m : List ℕ) → IsTrue (is_among (filters_of plan.nodes) m) → IsPlanned (arc_value fact.plan) m
    filters_planned = filter_in (IsPlanned (arc_value fact.plan)) plan.nodes
        (filters_asked fact.key.map fact.key.val plan asked fixed world answers)

    -- the DITAVALs by which a page is filtered
    pub ditavals_planned : (at : ℕ) (page : PagePlan) → slice_get plan.pages at ≡ Some page → (m : List ℕ)
        → IsTrue (is_among (ditavals fact.key.val page.id.filters) m) → IsPlanned (arc_value fact.plan) m
    ditavals_planned at page there m among =
        let names = (plan_facts world fact.key.map fact.key.val plan (fixed world answers)).names in
        among_either (option_to_list fact.key.val) page.id.filters m (IsPlanned (arc_value fact.plan) m) (val_planned m)
        (pages_asked fact.key.map fact.key.val plan asked fixed world answers world names.pages at page there m) among

    -- these documents are the same in each world that gives the answers
    pub same_documents : (other : World) → PlanAnswers (arc_value fact.plan) other → (m : List ℕ)
        → IsPlanned (arc_value fact.plan) m → world m ≡ other m
    same_documents other there = answers_same world other asked answers there

    pub same_elements : (other : World) → PlanAnswers (arc_value fact.plan) other
        → map (whole_at world) plan.nodes ≡ map (whole_at other) plan.nodes
    same_elements other there = same_wholes world other plan.nodes
        (λ m among. same_documents other there m (homes_planned m among))

    -- What is known

    planned_allowed : (m : List ℕ) → IsPlanned (arc_value fact.plan) m
        → IsTrue (is_allowed (roots_of fact) told m)
    planned_allowed m planned = asked_allowed (roots_of fact) asked sound.founded.plan m planned

    nodes_allowed : AreAllowed (roots_of fact) told (names_of_nodes plan.nodes)
    nodes_allowed = record {
      each = λ m among. among_either (homes plan.nodes) (filters_of plan.nodes) m
          (IsTrue (is_allowed (roots_of fact) told m)) (λ here. planned_allowed m (homes_planned m here))
          (λ here. planned_allowed m (filters_planned m here)) among;
    }

    plan_allowed : AreAllowed (roots_of fact) told (names_of_plan plan)
    plan_allowed = plan_may world fact.key.map fact.key.val plan told (map (whole_at world) plan.nodes)
        (fixed world answers) refl
        (nodes_told world asked answers plan.nodes
        (home_planned fact.key.map fact.key.val plan asked fixed world answers))
        (roots_of fact) nodes_allowed

    pub names_known : (m : List ℕ)
        → IsTrue (is_among (homes plan.nodes ++ (option_to_list fact.key.val ++ names_of_plan plan)) m)
        → IsTrue (is_among (roots_of fact ++ given_by names_of_answer (arc_value fact.plan).asked) m)
    names_known m among =
        let build : AreAllowed (roots_of fact) told (build_names fact.key.map fact.key.val) =
        record { each = λ n here. root_allowed (roots_of fact) told n here } in
        let all = parts_may (roots_of fact) told fact.key.map fact.key.val plan build nodes_allowed plan_allowed in
        allowed_known (roots_of fact) asked m (all.each m among)

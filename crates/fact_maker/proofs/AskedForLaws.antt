-- What a plan was made of was asked for: the documents in which its nodes stand, and the DITAVALs. For with texts in front
-- of a document that was not asked for each question has the answer that it had, so the plan is the same; but then no
-- element stands at the place of a node, and the document is no DITAVAL.
use Rattle.std.specs.Prelude.{◌≡◌, ◌||◌, ℕ, zero, suc, Bool, true, false, List, [], ◌∷◌, Option, Some, None, Ok, IsTrue, bytes_eq, option_map, slice_get}
use Rattle.std.specs.List.{filter_map, list_all}
use Rattle.std.specs.Option.{option_and_then, option_to_list}
use Rattle.std.proofs.Common.{refl, sym, ap, subst, ◌∙◌}
use Rattle.std.proofs.Math.Logic.{⊎_elim}
use Rattle.std.proofs.lemmas.Bool.{and_from, and_parts, false≢true, or_cases}
use Rattle.std.proofs.lemmas.Slice.Eq.{bytes_eq-Decides}
use Rattle.build_plan.proofs.PlanPagesLaws.{plan_made}
use Rattle.build_plan.proofs.UseLaws.{all_that_stay, page_holds}
use Rattle.dita_doc.specs.declared.plan.PageId.{PageId}
use Rattle.dita_doc.specs.declared.plan.PagePlan.{PagePlan}
use Rattle.dita_doc.specs.declared.plan.Plan.{Plan}
use Rattle.dita_doc.specs.declared.plan.PlanNode.{PlanNode}
use Rattle.dita_doc.specs.declared.question.Answered.{Answered}
use Rattle.dita_doc.specs.declared.question.Answered.TheVariants as answers
use Rattle.dita_doc.specs.declared.question.Asked.{Asked}
use Rattle.dita_doc.specs.declared.question.Question.{Question}
use Rattle.dita_doc.specs.declared.question.Question.TheVariants as questions
use Rattle.ditaval_rules.specs.declared.rules.RulesRead.{RulesRead}
use Rattle.fact_judge.specs.Answer.{AreAnswers, IsAnswer}
use Rattle.fact_judge.specs.Asks.{document_in, whole_documents}
use Rattle.map_spec.specs.Branches.{ditaval_in}
use Rattle.map_spec.specs.Pages.{Use, contents_name, first_uses, page_used_at, pages_of, use_at, use_of, uses_of}
use Rattle.map_spec.specs.PlanOf.{build_rules, limits, plan_of, rules_there}
use Rattle.map_spec.specs.Scopes.{places}
use Rattle.map_spec.specs.Written.{element_in}
use Rattle.reader_spec.specs.World.{World}
use Rattle.readers.proofs.AmongLaws.{among_either}
use Rattle.readers.proofs.FoundedLaws.{among_append, among_behind, among_first, among_one}
use Rattle.readers.specs.Founded.{homes, is_among}
use Rattle.fact_maker.proofs.MadeLaws.{nodes_grounded}
use Rattle.fact_maker.proofs.TextLaws.{no_ditaval, no_element, same_first, same_kind, same_other, same_title, with_texts}

-- The answers stay, if the document was not asked for

first_false : (first second : Bool) → (first || second) ≡ false → first ≡ false
first_false true second none = cc
first_false false second none = refl

second_false : (first second : Bool) → (first || second) ≡ false → second ≡ false
second_false true second none = cc
second_false false second none = none

module _ (world : World) (doc : List ℕ) (count : ℕ) where
  answer_stays : (question : Question) (answered : Answered) → is_among (document_in question) doc ≡ false
      → IsAnswer world None question answered → IsAnswer (with_texts world doc count) None question answered
  answer_stays (questions.Document name) (answers.Document found) none is =
      same_other world doc count name (first_false (bytes_eq name doc) false none) ∙ is
  answer_stays (questions.Kind name) (answers.Kind kind) none is = same_kind world doc count name ∙ is
  answer_stays (questions.Title name topic) (answers.Title text) none is = same_title world doc count name topic ∙ is
  answer_stays (questions.First name) (answers.First id) none is = same_first world doc count name ∙ is
  answer_stays question answered none is = absurd is

  pub answers_stay : (asked : List Asked) → is_among (whole_documents asked) doc ≡ false → AreAnswers world None asked
      → AreAnswers (with_texts world doc count) None asked
  answers_stay [] none are = tt
  answers_stay (one ∷ more) none are =
      let either = sym (among_append (document_in one.question) (whole_documents more) doc) ∙ none in (
        answer_stays one.question one.answered
            (first_false (is_among (document_in one.question) doc) (is_among (whole_documents more) doc) either) are.0,
        answers_stay more
            (second_false (is_among (document_in one.question) doc) (is_among (whole_documents more) doc) either) are.1,
      )

-- Worlds that give each question the same answer have the same documents that were asked for

answer_same : (world other : World) (question : Question) (answered : Answered) (m : List ℕ)
    → IsTrue (is_among (document_in question) m) → IsAnswer world None question answered
    → IsAnswer other None question answered → world m ≡ other m
answer_same world other (questions.Document name) (answers.Document found) m among here there =
    subst (λ n. world n ≡ other n) (among_one name m among) (here ∙ sym there)
answer_same world other (questions.Document name) answered m among here there = absurd here
answer_same world other (questions.Kind name) answered m among here there = absurd (false≢true among)
answer_same world other (questions.Title name topic) answered m among here there = absurd (false≢true among)
answer_same world other (questions.First name) answered m among here there = absurd (false≢true among)
answer_same world other (questions.Key scope text) answered m among here there = absurd (false≢true among)
answer_same world other (questions.Pushes name) answered m among here there = absurd (false≢true among)
answer_same world other (questions.PageOf name context) answered m among here there = absurd (false≢true among)

pub answers_same : (world other : World) (asked : List Asked) → AreAnswers world None asked
    → AreAnswers other None asked
    → (m : List ℕ) → IsTrue (is_among (whole_documents asked) m) → world m ≡ other m
answers_same world other [] here there m among = absurd (false≢true among)
answers_same world other (one ∷ more) here there m among =
    among_either (document_in one.question) (whole_documents more) m (world m ≡ other m)
    (λ first. answer_same world other one.question one.answered m first here.0 there.0)
    (λ later. answers_same world other more here.1 there.1 m later) among

-- What is the case unless a test holds is the case if it does not

unless : (test : Bool) → (test ≡ false → ⊥) → IsTrue test
unless true denied = refl
unless false denied = absurd (denied refl)

no_some : {X : Type 0} (found : Option X) (x : X) → found ≡ None → found ≡ Some x → ⊥
no_some None x none is = cc
no_some (Some y) x none is = cc

no_rules : (found : Option RulesRead) (read : RulesRead) → found ≡ None → rules_there found ≡ Ok read → ⊥
no_rules None read none is = cc
no_rules (Some other) read none is = cc

-- each name of a list, from each of the nodes
home_of : (nodes : List PlanNode) (m : List ℕ) → IsTrue (is_among (homes nodes) m)
    → (at : ℕ) × (node : PlanNode) × (slice_get nodes at ≡ Some node) × (node.doc ≡ m)
home_of [] m among = absurd (false≢true among)
home_of (node ∷ nodes) m among = ⊎_elim (λ here. (zero, node, refl, (bytes_eq-Decides node.doc m).0 here))
    (λ more. let (at, own, there, is) = home_of nodes m more in (suc at, own, there, is))
    (or_cases (bytes_eq node.doc m) (is_among (homes nodes) m) among)

-- each of some names is among others
all_among : (names some : List (List ℕ)) → ((m : List ℕ) → IsTrue (is_among some m) → IsTrue (is_among names m))
    → list_all (is_among names) some ≡ true
all_among names [] each = refl
all_among names (name ∷ some) each = and_from (is_among names name) (list_all (is_among names) some)
    (each name (among_first name some)) (all_among names some (λ m among. each m (among_behind name some m among)))

pub among_all : (names some : List (List ℕ)) → list_all (is_among names) some ≡ true → (m : List ℕ)
    → IsTrue (is_among some m) → IsTrue (is_among names m)
among_all names [] all m among = absurd (false≢true among)
among_all names (name ∷ some) all m among =
    let parts = and_parts (is_among names name) (list_all (is_among names) some) all in
    ⊎_elim (λ here. subst (λ n. IsTrue (is_among names n)) ((bytes_eq-Decides name m).0 here) parts.0)
    (λ more. among_all names some parts.1 m more) (or_cases (bytes_eq name m) (is_among some m) among)

module _ (map : List ℕ) (val : Option (List ℕ)) (plan : Plan) (asked : List Asked)
    (fixed : (world : World) → AreAnswers world None asked → plan_of limits world map val ≡ Ok plan) (world : World)
    (answered : AreAnswers world None asked) where
  abbrev Planned : List ℕ → Type 0
  Planned m = IsTrue (is_among (whole_documents asked) m)

  -- with texts in front of a document that was not asked for
  moved : (doc : List ℕ) (count : ℕ) → is_among (whole_documents asked) doc ≡ false
      → plan_of limits (with_texts world doc count) map val ≡ Ok plan
  moved doc count none = fixed (with_texts world doc count) (answers_stay world doc count asked none answered)

  -- the documents in which nodes stand
  home_asked : (at : ℕ) (node : PlanNode) → slice_get plan.nodes at ≡ Some node
      → is_among (whole_documents asked) node.doc ≡ false → ⊥
  home_asked at node there none =
      let other = with_texts world node.doc (suc node.place) in
      let grounded = nodes_grounded other map val plan
      (plan_made limits other map val plan (moved node.doc (suc node.place) none)) at node there in
      no_some (element_in other node.doc node.place) grounded.0.0 (no_element world node.doc node.place) grounded.0.1

  pub home_planned : (at : ℕ) (node : PlanNode) → slice_get plan.nodes at ≡ Some node → Planned node.doc
  home_planned at node there = unless (is_among (whole_documents asked) node.doc) (home_asked at node there)

  pub homes_asked : (m : List ℕ) → IsTrue (is_among (homes plan.nodes) m) → Planned m
  homes_asked m among =
      let (at, node, there, is) = home_of plan.nodes m among in
      subst Planned is (home_planned at node there)

  -- the DITAVALs by which they are filtered
  filter_asked : (at : ℕ) (node : PlanNode) → slice_get plan.nodes at ≡ Some node → (m : List ℕ)
      → IsTrue (is_among node.filters m) → is_among (whole_documents asked) m ≡ false → ⊥
  filter_asked at node there m among none =
      let other = with_texts world m (suc zero) in
      let grounded = nodes_grounded other map val plan (plan_made limits other map val plan (moved m (suc zero) none)) at node
      there in
      let read = grounded.1 m among in
      no_some (ditaval_in other m) read.0 (no_ditaval world m) read.1

  pub filters_asked : (at : ℕ) (node : PlanNode) → slice_get plan.nodes at ≡ Some node → (m : List ℕ)
      → IsTrue (is_among node.filters m) → Planned m
  filters_asked at node there m among =
      unless (is_among (whole_documents asked) m) (filter_asked at node there m among)

  -- the DITAVAL of the build
  build_asked : (name : List ℕ) → val ≡ Some name → is_among (whole_documents asked) name ≡ false → ⊥
  build_asked name is none =
      let other = with_texts world name (suc zero) in
      let made = plan_made limits other map val plan (moved name (suc zero) none) in
      no_rules (ditaval_in other name) made.read (no_ditaval world name) (ap (build_rules other) (sym is) ∙ made.rules)

  val_by : (found : Option (List ℕ)) → val ≡ found → (m : List ℕ) → IsTrue (is_among (option_to_list found) m) → Planned m
  val_by None is m among = absurd (false≢true among)
  val_by (Some name) is m among = ⊎_elim
      (λ here. subst Planned ((bytes_eq-Decides name m).0 here)
      (unless (is_among (whole_documents asked) name) (build_asked name is)))
      (λ no. absurd (false≢true no)) (or_cases (bytes_eq name m) false among)

  pub val_asked : (m : List ℕ) → IsTrue (is_among (option_to_list val) m) → Planned m
  val_asked = val_by val refl

  -- the DITAVALs by which pages are filtered

  abbrev are_planned : PageId → Bool
  are_planned id = list_all (is_among (whole_documents asked)) id.filters

  use_made : (at : ℕ) (name : List ℕ) (found : Option PlanNode) → slice_get plan.nodes at ≡ found → (own : Use)
      → option_map (use_of plan.nodes at name) found ≡ Some own → are_planned own.id ≡ true
  use_made at name None there own is = cc
  use_made at name (Some node) there own is =
      let same : use_of plan.nodes at name node ≡ own = cc in
      ap (λ (u : Use). are_planned u.id) (sym same)
      ∙ all_among (whole_documents asked) node.filters (filters_asked at node there)

  use_named : (at : ℕ) (named : Option (List ℕ)) (own : Use)
      → option_and_then (λ name. option_map (use_of plan.nodes at name) (slice_get plan.nodes at)) named ≡ Some own
      → are_planned own.id ≡ true
  use_named at None own is = cc
  use_named at (Some name) own is = use_made at name (slice_get plan.nodes at) refl own is

  all_uses : (here : World) (ats : List ℕ)
      → list_all (λ (own : Use). are_planned own.id) (filter_map (use_at here plan.nodes) ats) ≡ true
  all_uses here [] = refl
  all_uses here (at ∷ ats) = by_use (use_at here plan.nodes at) refl (all_uses here ats)
    where
      by_use : (found : Option Use) → use_at here plan.nodes at ≡ found
          → list_all (λ (own : Use). are_planned own.id) (filter_map (use_at here plan.nodes) ats) ≡ true
          → list_all (λ (own : Use). are_planned own.id) (filter_map (use_at here plan.nodes) (at ∷ ats)) ≡ true
      by_use None e behind = rw e behind
      by_use (Some own) e behind = rw e
          (and_from (are_planned own.id) _ (use_named at (page_used_at here plan.nodes at) own e) behind)

  all_first : (uses : List Use) → list_all (λ (own : Use). are_planned own.id) uses ≡ true
      → list_all (λ (own : Use). are_planned own.id) (first_uses uses) ≡ true
  all_first [] all = refl
  all_first (first ∷ uses) all =
      let parts = and_parts (are_planned first.id) (list_all (λ (own : Use). are_planned own.id) uses) all in
      and_from (are_planned first.id) _ parts.0
      (all_that_stay (λ (own : Use). are_planned own.id) _ (first_uses uses) (all_first uses parts.1))

  pub pages_asked : (here : World) → plan.pages ≡ pages_of here plan.nodes → (at : ℕ) (page : PagePlan)
      → slice_get plan.pages at ≡ Some page → (m : List ℕ) → IsTrue (is_among page.id.filters m) → Planned m
  pages_asked here are at page there = among_all (whole_documents asked) page.id.filters
      (page_holds are_planned 0 (contents_name ∷ []) (uses_of here plan.nodes) at page
      (all_first (filter_map (use_at here plan.nodes) (places plan.nodes)) (all_uses here (places plan.nodes)))
      (subst (λ pages. slice_get pages at ≡ Some page) are there))

-- By what builds find each other's rows: a sound fact agrees in one world exactly if it agrees in another one that has
-- the same documents under all names that a build of the fact's map and DITAVAL reaches in the first. For each question
-- is about names that are reached: answers before it give them. And a question about a plan looks at the documents of
-- the plan, which are reached too, and at those that they name.
use Rattle.std.specs.Prelude.{◌≡◌, ◌++◌, ℕ, zero, suc, List, [], ◌∷◌, Option, Some, None, Result, Ok, Err, Contains, IsTrue, bytes_eq, map, option_map, slice_get}
use Rattle.std.specs.Arc.{arc_value}
use Rattle.std.specs.List.{filter_map, flat_map}
use Rattle.std.specs.Option.{option_map_or, option_to_list}
use Rattle.std.proofs.Common.{refl, sym, ap, subst, ◌∙◌, arith}
use Rattle.std.proofs.Math.Logic.{⊎_elim}
use Rattle.std.proofs.lemmas.Bool.{false≢true, or_cases}
use Rattle.std.proofs.lemmas.Slice.Eq.{bytes_eq-Decides}
use Rattle.clean_build.specs.Names.{names_of_page, names_of_plan}
use Rattle.dita_doc.specs.Tree.{Content}
use Rattle.dita_doc.specs.declared.content.KeyAnswer.{KeyAnswer}
use Rattle.dita_doc.specs.declared.content.Push.{Push}
use Rattle.dita_doc.specs.declared.content.PushList.{PushList}
use Rattle.dita_doc.specs.declared.plan.Plan.{Plan}
use Rattle.dita_doc.specs.declared.plan.PlanNode.{PlanNode}
use Rattle.dita_doc.specs.declared.plan.PlanStop.{PlanStop}
use Rattle.dita_doc.specs.declared.plan.Reference.{Reference}
use Rattle.dita_doc.specs.declared.plan.Target.TheVariants as targets
use Rattle.dita_doc.specs.declared.question.Answered.{Answered}
use Rattle.dita_doc.specs.declared.question.Answered.TheVariants as answers
use Rattle.dita_doc.specs.declared.question.Asked.{Asked}
use Rattle.dita_doc.specs.declared.question.DocKind.TheVariants as doc_kinds
use Rattle.dita_doc.specs.declared.question.Question.{Question}
use Rattle.dita_doc.specs.declared.question.Question.TheVariants as questions
use Rattle.fact_judge.specs.Agreed.{OwnAnswers, PlanAnswers}
use Rattle.fact_judge.specs.Answer.{AreAnswers, IsAnswer, setting_by}
use Rattle.fact_judge.specs.Founded.{names_in_question, names_of_answer, plan_documents, roots_of}
use Rattle.fact_judge.specs.Order.{InOrder, given_by}
use Rattle.fact_judge.specs.Sound.{IsSound}
use Rattle.fact_maker.proofs.AskedForLaws.{home_planned}
use Rattle.fact_maker.proofs.GroundLaws.{fixed, names_known, same_wholes}
use Rattle.fact_maker.proofs.NameLaws.{allowed_known, nodes_told}
use Rattle.facts.specs.declared.fact.Fact.{Fact}
use Rattle.map_spec.specs.Cascade.{walk, whole_at}
use Rattle.map_spec.specs.Keys.{key_answer, target_of_definition}
use Rattle.map_spec.specs.Pages.{local_name}
use Rattle.map_spec.specs.Pushes.{pushes_into}
use Rattle.map_spec.specs.Titles.{first_of_document, kind_of_document}
use Rattle.map_spec.specs.Written.{document, written_in}
use Rattle.plan_nodes.proofs.TargetLaws.{may_target_at}
use Rattle.plan_nodes.specs.Given.{AreTold}
use Rattle.reader_spec.specs.World.{World}
use Rattle.readers.proofs.AmongLaws.{among_back, among_either, among_front}
use Rattle.readers.proofs.FoundedLaws.{among_first, among_one}
use Rattle.readers.specs.Founded.{homes, is_among}
use Rattle.readers.specs.Named.{names_of_found}
use Rattle.readers.specs.Noted.{told_in}
use Rattle.readers.specs.Setting.{Setting, no_setting}
use Rattle.run_spec.specs.Reached.{Given, IsReached, Started}
use Rattle.fact_laws.proofs.KeyReachLaws.{chain_leads, key_leads, same_key, same_title}
use Rattle.fact_laws.proofs.PushReachLaws.{pushes_from, same_pushes}

-- Names in lists

contained : (names : List (List ℕ)) (m : List ℕ) → IsTrue (is_among names m) → Contains names m
contained [] m among = absurd (false≢true among)
contained (name ∷ names) m among = ⊎_elim
    (λ here. (zero, omega arith, (bytes_eq-Decides name m).0 here))
    (λ more. let (at, low, is) = contained names m more in (suc at, omega (arith, low), is))
    (or_cases (bytes_eq name m) (is_among names m) among)

the_one : (found : Option (List ℕ)) (m : List ℕ) → IsTrue (is_among (option_to_list found) m) → found ≡ Some m
the_one None m among = absurd (false≢true among)
the_one (Some name) m among = ap Some (among_one name m among)

module _ (world : World) (root : List ℕ) (val : Option (List ℕ)) where
  abbrev AreReached : List (List ℕ) → Type 0
  AreReached names = (m : List ℕ) → IsTrue (is_among names m) → IsReached world root val m

  -- what a document gives that is reached
  given_reached : (from m : List ℕ) → IsReached world root val from
      → IsTrue (is_among (names_of_found (document world from)) m) → IsReached world root val m
  given_reached from m reached among =
      Given from m reached (contained (names_of_found (document world from)) m among)

  both_reached : (some more : List (List ℕ)) → AreReached some → AreReached more → AreReached (some ++ more)
  both_reached some more first second m among =
      among_either some more m (IsReached world root val m) (first m) (second m) among

  -- What questions about a plan look at

  -- keys and pushes are the same in these worlds
  abbrev AreAlike : World → World → Option Setting → Type 0
  AreAlike from to None = Unit {0}
  AreAlike from to (Some setting) =
      ((scope : ℕ) (key : List ℕ) → key_answer from setting.nodes scope key ≡ key_answer to setting.nodes scope key)
      × ((name : List ℕ) → pushes_into from setting.documents name ≡ pushes_into to setting.documents name)

  -- they name documents that are reached
  abbrev Lead : Option Setting → Type 0
  Lead None = Unit {0}
  Lead (Some setting) = ((scope : ℕ) (key : List ℕ)
      → AreReached (option_to_list (local_name (key_answer world setting.nodes scope key).target)))
      × ((name : List ℕ)
      → AreReached (map (λ (push : Push). push.from) (pushes_into world setting.documents name).pushes))

  -- One question

  module _ (from to : World) (same : (name : List ℕ) → IsReached world root val name → from name ≡ to name)
      (planned : List (List ℕ)) where
    moves : (setting : Option Setting) (question : Question) (answered : Answered) → AreAlike from to setting
        → AreReached (names_in_question planned question) → IsAnswer from setting question answered
        → IsAnswer to setting question answered
    moves setting (questions.Document name) (answers.Document found) alike reached is =
        sym (same name (reached name (among_first name []))) ∙ is
    moves setting (questions.Kind name) (answers.Kind kind) alike reached is =
        sym (ap (λ (found : Option Content).
        option_map_or kind_of_document (option_map (written_in name) found) doc_kinds.Absent)
        (same name (reached name (among_first name [])))) ∙ is
    moves setting (questions.Title name topic) (answers.Title text) alike reached is =
        sym (same_title from to name topic (same name (reached name (among_first name [])))) ∙ is
    moves setting (questions.First name) (answers.First id) alike reached is =
        sym (ap (λ (found : Option Content).
        option_map_or first_of_document (option_map (written_in name) found) [])
        (same name (reached name (among_first name [])))) ∙ is
    moves (Some setting) (questions.Key scope text) (answers.Key answer) alike reached is =
        (is.0, sym (alike.0 scope text) ∙ is.1)
    moves (Some setting) (questions.Pushes name) (answers.Pushes pushes faults) alike reached is =
        sym (alike.1 name) ∙ is
    moves (Some setting) (questions.PageOf name context) (answers.PageOf place) alike reached is = is
    moves setting question answered alike reached is = absurd is

  -- the names that its answer gives are reached
  gives : (planned : List (List ℕ)) (setting : Option Setting) (question : Question) (answered : Answered)
      → Lead setting → AreReached (names_in_question planned question) → IsAnswer world setting question answered
      → AreReached (names_of_answer (record { question = question; answered = answered }))
  gives planned setting (questions.Document name) (answers.Document found) lead reached is m among =
      given_reached name m (reached name (among_first name []))
      (subst (λ (tree : Option Content). IsTrue (is_among (names_of_found (option_map (written_in name) tree)) m))
      (sym is) among)
  gives planned setting (questions.Kind name) (answers.Kind kind) lead reached is m among = absurd (false≢true among)
  gives planned setting (questions.Title name topic) (answers.Title text) lead reached is m among =
      absurd (false≢true among)
  gives planned setting (questions.First name) (answers.First id) lead reached is m among = absurd (false≢true among)
  gives planned (Some setting) (questions.Key scope text) (answers.Key answer) lead reached is m among =
      lead.0 scope text m
      (subst (λ (a : KeyAnswer). IsTrue (is_among (option_to_list (local_name a.target)) m)) (sym is.1) among)
  gives planned (Some setting) (questions.Pushes name) (answers.Pushes pushes faults) lead reached is m among =
      lead.1 name m
      (subst (λ (l : PushList). IsTrue (is_among (map (λ (push : Push). push.from) l.pushes) m)) (sym is) among)
  gives planned (Some setting) (questions.PageOf name context) (answers.PageOf place) lead reached is m among =
      absurd (false≢true among)
  gives planned setting question answered lead reached is m among = absurd is

  -- Questions in their order

  -- the answers hold in a world, and the names that they give are reached
  abbrev Hold : World → Option Setting → List Asked → Type 0
  Hold to setting asked = AreAnswers to setting asked × AreReached (given_by names_of_answer asked)

  module _ (from to : World) (setting : Option Setting) (planned : List (List ℕ))
      (step : (one : Asked) → AreReached (names_in_question planned one.question)
      → IsAnswer from setting one.question one.answered
      → IsAnswer to setting one.question one.answered × AreReached (names_of_answer one)) where
    in_order : (known : List (List ℕ)) (asked : List Asked) → AreReached known
        → InOrder (names_in_question planned) names_of_answer known asked → AreAnswers from setting asked
        → Hold to setting asked
    in_order known [] reached order are = (tt, λ m among. absurd (false≢true among))
    in_order known (one ∷ more) reached order are =
        let here = step one (λ m among. reached m (order.0.each m among)) are.0 in
        let later = in_order (known ++ names_of_answer one) more
        (both_reached known (names_of_answer one) reached here.1) order.1 are.1 in
        ((here.0, later.0), both_reached (names_of_answer one) (given_by names_of_answer more) here.1 later.1)

  module _ (other : World) (same : (name : List ℕ) → IsReached world root val name → world name ≡ other name)
      (setting : Option Setting) (planned known : List (List ℕ)) (asked : List Asked)
      (alike : AreAlike world other setting) (back : AreAlike other world setting) (lead : Lead setting)
      (reached : AreReached known) (order : InOrder (names_in_question planned) names_of_answer known asked) where
    answers_forth : AreAnswers world setting asked → Hold other setting asked
    answers_forth = in_order world other setting planned (λ one names is. (
      moves world other same planned setting one.question one.answered alike names is,
      gives planned setting one.question one.answered lead names is,
    )) known asked reached order

    answers_back : AreAnswers other setting asked → Hold world setting asked
    answers_back = in_order other world setting planned (λ one names is.
        let there = moves other world (λ name reach. sym (same name reach)) planned setting one.question one.answered
        back names is in
        (there, gives planned setting one.question one.answered lead names there)) known asked reached order

-- The questions of a fact

module _ (fact : Fact) (sound : IsSound fact) (world : World) where
  abbrev Reached : List ℕ → Type 0
  Reached name = IsReached world fact.key.map fact.key.val name

  abbrev Reaches : List (List ℕ) → Type 0
  Reaches names = AreReached world fact.key.map fact.key.val names

  abbrev asked : List Asked
  asked = (arc_value fact.plan).asked

  roots_reached : Reaches (roots_of fact)
  roots_reached m among = Started m (contained (roots_of fact) m among)

  module _ (answers : PlanAnswers (arc_value fact.plan) world)
      (given : Reaches (given_by names_of_answer (arc_value fact.plan).asked)) where
    abbrev known : List (List ℕ)
    known = roots_of fact ++ given_by names_of_answer (arc_value fact.plan).asked

    known_reached : Reaches known
    known_reached = both_reached world fact.key.map fact.key.val (roots_of fact)
        (given_by names_of_answer (arc_value fact.plan).asked) roots_reached given

    -- with a plan all its documents are reached, and those to which its nodes lead

    module _ (plan : Plan) (is : (arc_value fact.plan).value ≡ Ok plan) where
      names_reached : Reaches (homes plan.nodes ++ (option_to_list fact.key.val ++ names_of_plan plan))
      names_reached m among = known_reached m (names_known fact sound plan is world answers m among)

      homes_reached : Reaches (homes plan.nodes)
      homes_reached m among = names_reached m
          (among_front (homes plan.nodes) (option_to_list fact.key.val ++ names_of_plan plan) m among)

      documents_reached : Reaches plan.documents
      documents_reached m among =
          let pages = flat_map names_of_page plan.pages in
          let used = plan.documents ++ pages in
          let led = filter_map local_name plan.targets ++ used in
          names_reached m (among_back (homes plan.nodes) (option_to_list fact.key.val ++ names_of_plan plan) m
          (among_back (option_to_list fact.key.val) (names_of_plan plan) m
          (among_back (homes plan.nodes) led m (among_back (filter_map local_name plan.targets) used m
          (among_front plan.documents pages m among)))))

      nodes_were : AreTold (told_in no_setting [] (arc_value fact.plan).asked) (map (whole_at world) plan.nodes)
      nodes_were = nodes_told world asked answers plan.nodes
          (home_planned fact.key.map fact.key.val plan asked (fixed fact sound plan is) world answers)

      target_reached : (at : ℕ) (node : PlanNode) (name : List ℕ) (reference : Reference)
          → slice_get plan.nodes at ≡ Some node
          → target_of_definition world node (walk plan.nodes at) ≡ Some (targets.Local name reference) → Reached name
      target_reached at node name reference there leads = known_reached name (allowed_known (roots_of fact) asked name
          (may_target_at (told_in no_setting [] asked) world plan.nodes (walk plan.nodes at) at node name reference
          nodes_were there leads (roots_of fact)))

      plan_leads : Lead world fact.key.map fact.key.val (setting_by (Ok plan))
      plan_leads = (
        λ scope key m among. key_leads world plan.nodes Reached target_reached scope key m (the_one
            (local_name (key_answer world plan.nodes scope key).target) m among),
        pushes_from Reached world plan.documents documents_reached,
      )

      module _ (other : World) (same : (name : List ℕ) → Reached name → world name ≡ other name) where
        plan_alike : AreAlike world fact.key.map fact.key.val world other (setting_by (Ok plan))
        plan_alike = (
          same_key world other plan.nodes
              (same_wholes world other plan.nodes (λ m among. same m (homes_reached m among)))
              (λ met name leads. same name (chain_leads world plan.nodes Reached target_reached met name leads)),
          λ name. same_pushes world other plan.documents name (λ n among. same n (documents_reached n among))
              (λ n m among gives. same m
              (given_reached world fact.key.map fact.key.val n m (documents_reached n among) gives)),
        )

        plan_back : AreAlike world fact.key.map fact.key.val other world (setting_by (Ok plan))
        plan_back = (λ scope key. sym (plan_alike.0 scope key), λ name. sym (plan_alike.1 name))

    -- the questions of the fact's own, with a plan or without one

    module _ (other : World) (same : (name : List ℕ) → Reached name → world name ≡ other name) where
      own_forth : (value : Result Plan PlanStop) → (arc_value fact.plan).value ≡ value
          → InOrder (names_in_question (plan_documents value)) names_of_answer known fact.asked
          → AreAnswers world (setting_by value) fact.asked → AreAnswers other (setting_by value) fact.asked
      own_forth (Err stop) is order are = (answers_forth world fact.key.map fact.key.val other same None [] known
          fact.asked tt tt tt known_reached order are).0
      own_forth (Ok plan) is order are = (answers_forth world fact.key.map fact.key.val other same
          (setting_by (Ok plan)) plan.documents known fact.asked (plan_alike plan is other same)
          (plan_back plan is other same) (plan_leads plan is) known_reached order are).0

      own_back : (value : Result Plan PlanStop) → (arc_value fact.plan).value ≡ value
          → InOrder (names_in_question (plan_documents value)) names_of_answer known fact.asked
          → AreAnswers other (setting_by value) fact.asked → AreAnswers world (setting_by value) fact.asked
      own_back (Err stop) is order are = (answers_back world fact.key.map fact.key.val other same None [] known
          fact.asked tt tt tt known_reached order are).0
      own_back (Ok plan) is order are = (answers_back world fact.key.map fact.key.val other same
          (setting_by (Ok plan)) plan.documents known fact.asked (plan_alike plan is other same)
          (plan_back plan is other same) (plan_leads plan is) known_reached order are).0

pub forth : (fact : Fact) → IsSound fact → (world other : World)
    → ((name : List ℕ) → IsReached world fact.key.map fact.key.val name → world name ≡ other name)
    → PlanAnswers (arc_value fact.plan) world → OwnAnswers fact world
    → PlanAnswers (arc_value fact.plan) other × OwnAnswers fact other
forth fact sound world other same plan own =
    let there = answers_forth world fact.key.map fact.key.val other same None [] (roots_of fact)
    (arc_value fact.plan).asked tt tt tt (roots_reached fact sound world) sound.founded.plan plan in (
      there.0,
      own_forth fact sound world plan there.1 other same (arc_value fact.plan).value refl sound.founded.own own,
    )

pub back : (fact : Fact) → IsSound fact → (world other : World)
    → ((name : List ℕ) → IsReached world fact.key.map fact.key.val name → world name ≡ other name)
    → PlanAnswers (arc_value fact.plan) other → OwnAnswers fact other
    → PlanAnswers (arc_value fact.plan) world × OwnAnswers fact world
back fact sound world other same plan own =
    let here = answers_back world fact.key.map fact.key.val other same None [] (roots_of fact)
    (arc_value fact.plan).asked tt tt tt (roots_reached fact sound world) sound.founded.plan plan in (
      here.0,
      own_back fact sound world here.0 here.1 other same (arc_value fact.plan).value refl sound.founded.own own,
    )

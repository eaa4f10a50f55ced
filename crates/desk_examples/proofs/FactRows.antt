-- When facts agree and when they are sound, on small facts: a build without a map, whose plan is why there is none.
use Rattle.std.proofs.Common.{◌≡◌, ◌⊎◌, ℕ, zero, suc, true, false, List, [], ◌∷◌, Option, Some, None, Ok, Err, inl, inr, refl, sym, ap, subst, arith, ◌∙◌}
use Rattle.std.proofs.Math.Logic.{∥∥₁_elim, ⊎_elim}
use Rattle.std.proofs.lemmas.Option.{none-some}
use Rattle.std.specs.Prelude.{All, Contains, IfSome, Result, bytes_eq, codes, slice_get}
use Rattle.std.specs.Arc.{arc_with_value}
use Rattle.conref_spec.specs.PageDocuments.{IsPageDocument, own, by_conref, by_key, pushing}
use Rattle.dita_doc.specs.Tree.{Content, Element, End}
use Rattle.dita_doc.specs.declared.content.KeyAnswer.{KeyAnswer}
use Rattle.dita_doc.specs.declared.content.Push.{Push}
use Rattle.dita_doc.specs.declared.fact.Part.TheVariants as parts
use Rattle.dita_doc.specs.declared.plan.PagePlan.{PagePlan}
use Rattle.dita_doc.specs.declared.plan.Plan.{Plan}
use Rattle.dita_doc.specs.declared.plan.PlanStop.{PlanStop}
use Rattle.dita_doc.specs.declared.plan.PlanStop.TheVariants as stops
use Rattle.dita_doc.specs.declared.question.Answered.TheVariants as answers
use Rattle.dita_doc.specs.declared.question.Asked.{Asked}
use Rattle.dita_doc.specs.declared.question.DocKind.TheVariants as doc_kinds
use Rattle.dita_doc.specs.declared.question.Question.TheVariants as questions
use Rattle.fact_judge.specs.Agreed.{PlanAnswers, plan_agrees}
use Rattle.fact_judge.specs.Asks.{ContentsAsks, IsNoKey, IsPageDocumentAt, IsPlanned, PageAsks, PlanAsks}
use Rattle.fact_judge.specs.Founded.{IsFoundedFact}
use Rattle.fact_judge.specs.Sound.{IsSound}
use Rattle.facts.specs.declared.fact.Fact.{Fact}
use Rattle.facts.specs.declared.fact.PlanFact.{PlanFact}
use Rattle.map_spec.specs.Included.{root_in}
use Rattle.map_spec.specs.PlanOf.{limits, plan_of, plan_of_root}
use Rattle.map_spec.specs.Pushes.{all_pushes, pushes_into}
use Rattle.part_spec.specs.Parts.{setting_of}
use Rattle.reader_spec.specs.World.{World}
use Rattle.desk_core.proofs.StampLaws.{IsFalse}
use Rattle.desk_examples.proofs.Small.{Share, key_of}

abbrev m : List ℕ
m = codes "m.ditamap"

abbrev stop_fact : List Asked → PlanFact
stop_fact asked = record { asked = asked; value = Err stops.NoMap }

abbrev stop : Share → List Asked → Fact
stop any asked = record {
  key = key_of parts.Plan;
  plan = arc_with_value any (stop_fact asked);
  planned = 0;
  asked = [];
  html = None;
}

abbrev absent : List ℕ → Asked
absent name = record { question = questions.Document name; answered = answers.Document None }

false_is_true : false ≡ true → ⊥
false_is_true same = subst IsFalse same tt

-- Found and absent

no_map : (world : World) → world m ≡ None → plan_of limits world m None ≡ Err stops.NoMap
unfolding plan_of
no_map world none-there = ap (λ (found : Option Content).
    plan_of_root limits world m None (root_in (λ name. found) m)) none-there

-- no question of the plan is for a key
none_is_key : (one : Asked) (k : ℕ) → slice_get (absent m ∷ []) k ≡ Some one → IsNoKey one.question
none_is_key one zero is = subst (λ (found : Option Asked). IfSome found (λ asked. IsNoKey asked.question)) is tt
none_is_key one (suc k) is = absurd (none-some one is)

-- the map was asked for, and was absent
absent_is_sound : (any : Share) → IsSound (stop any (absent m ∷ []))
absent_is_sound any = record {
  rests = (refl, refl);
  plan = λ world answers. no_map world answers.0;
  part = λ world answers own. tt;
  founded = record { plan = (record { each = λ name is. is }, tt); own = tt };
  asks = record {
    plan = (record { each = λ name is. is }, tt);
    no_key = record { each = λ one stands. none_is_key one stands.0 stands.1 };
    own = refl;
  };
}

-- a topic stands under each name
abbrev no_maps : World
no_maps name = Some (Element (codes "t") [] 0 1 End End)

topic_there : plan_of limits no_maps m None ≡ Err stops.NotMap
unfolding plan_of
topic_there = refl

abbrev IsOther : Result Plan PlanStop → Type 0
IsOther (Err stops.NoMap) = ⊥
IsOther _ = Unit {0}

-- a fact that forgets that the map was absent is not sound: it would hold where the map is a topic
nothing_is_unsound : (any : Share) → IsSound (stop any []) → ⊥
nothing_is_unsound any sound = subst IsOther (sym topic_there ∙ sound.plan no_maps tt) tt

-- Answers

-- an answer of another kind is none
abbrev kind_of_document : Asked
kind_of_document = record { question = questions.Document m; answered = answers.Kind doc_kinds.Absent }

other_kind : (world : World) → PlanAnswers (stop_fact (kind_of_document ∷ [])) world → ⊥
other_kind world agreed = agreed.0

-- while a plan is made no key has an answer
abbrev key_asked : KeyAnswer → Asked
key_asked answer = record { question = questions.Key 0 m; answered = answers.Key answer }

key_in_plan : (world : World) (answer : KeyAnswer) → PlanAnswers (stop_fact (key_asked answer ∷ [])) world → ⊥
key_in_plan world answer agreed = agreed.0

-- nothing is stored: the map is absent, and of no kind
abbrev no_kind : Asked
no_kind = record { question = questions.Kind m; answered = answers.Kind doc_kinds.Absent }

nothing_stored : plan_agrees (stop_fact (absent m ∷ no_kind ∷ [])) []
nothing_stored = (refl, (refl, tt))

-- Names that nothing gives

unknown_name : (any : Share) → IsFoundedFact (stop any (absent m ∷ absent (codes "x.dita") ∷ [])) → ⊥
unknown_name any founded = false_is_true (founded.plan.1.0.each (codes "x.dita") refl)

unknown_document : PlanAsks (m ∷ []) (stop_fact (absent m ∷ absent (codes "x.dita") ∷ [])) → ⊥
unknown_document asks = false_is_true (asks.1.0.each (codes "x.dita") refl)

-- a contents page asks for the map, and not for a topic that its plan did not ask for
map_again : ContentsAsks (stop_fact (absent m ∷ [])) (absent m ∷ [])
map_again = (record { each = λ name is. is }, tt)

topic_in_contents : ContentsAsks (stop_fact (absent m ∷ [])) (absent (codes "t.dita") ∷ []) → ⊥
topic_in_contents asks = false_is_true (asks.0.each (codes "t.dita") refl)

-- the page of t.dita asks for its document, and not for that of another page
abbrev page_of : List ℕ → PagePlan
page_of name = record { id = record { doc = name; scope = 0; filters = []; affixes = [] }; node = 0; name = name }

abbrev two_pages_plan : Plan
two_pages_plan = record {
  nodes = [];
  scopes = [];
  pages = page_of (codes "t.dita") ∷ page_of (codes "u.dita") ∷ [];
  targets = [];
  documents = codes "t.dita" ∷ codes "u.dita" ∷ [];
  faults = [];
}

abbrev two_pages : PlanFact
two_pages = record { asked = absent m ∷ []; value = Ok two_pages_plan }

abbrev page_fact : Share → List Asked → Fact
page_fact any asked = record {
  key = key_of (parts.Page 0);
  plan = arc_with_value any two_pages;
  planned = 0;
  asked = asked;
  html = None;
}

own_document : (any : Share) → PageAsks (page_fact any (absent m ∷ absent (codes "t.dita") ∷ [])) 0
own_document any = record { each = λ world planned answered. each world } where
  each : (world : World) → All (λ name. ∥ IsPlanned two_pages name
      ⊎ IsPageDocumentAt world two_pages.value None 0 name ∥₁) (m ∷ codes "t.dita" ∷ [])
  each world zero d less = ∣ inl refl ∣₁
  each world (suc zero) d less = ∣ inr own ∣₁
  each world (suc (suc k)) d less = absurd (omega (arith, less))

-- nothing is stored: so nothing is pushed, and a page has no document but its own
abbrev none_stored : World
none_stored name = None

nothing_pushed : (name : List ℕ) → (pushes_into none_stored two_pages_plan.documents name).pushes ≡ []
unfolding all_pushes
nothing_pushed name = refl

nothing_in : {X : Type 0} (x : X) → Contains [] x → ⊥
nothing_in x there = omega (arith, there.1)

own_alone : {name : List ℕ} → IsPageDocument (setting_of none_stored two_pages_plan None (page_of (codes "t.dita")))
    (pushes_into none_stored two_pages_plan.documents) name → name ≡ codes "t.dita"
own_alone own = refl
own_alone (by_conref before stands named) = absurd (none-some _ stands.pushed)
own_alone (by_key before stands named) = absurd (none-some _ stands.pushed)
own_alone (pushing {doc} {push} before among) =
    absurd (nothing_in push (subst (λ (all : List Push). Contains all push) (nothing_pushed doc) among))

other_page : (any : Share) → PageAsks (page_fact any (absent (codes "u.dita") ∷ [])) 0 → ⊥
other_page any asks = ∥∥₁_elim (asks.each none_stored (refl, tt) (refl, tt) 0 [] (omega arith)) (hlevel)
    (⊎_elim (λ planned. false_is_true planned) (λ document. other_name (own_alone document))) where
      other_name : codes "u.dita" ≡ codes "t.dita" → ⊥
      other_name same = false_is_true (sym (ap (bytes_eq (codes "u.dita")) same))

-- What a fact's own questions are put for: the plan of the fact, which is the plan there; and none where none is about a
-- plan.
use Rattle.std.proofs.Common.{◌≡◌, ◌∙◌, ℕ, Bool, true, false, List, [], ◌∷◌, Option, Some, None, Result, Ok, Err, IfOk, ap, sym, subst}
use Rattle.std.specs.Arc.{arc_value}
use Rattle.std.specs.List.{list_any}
use Rattle.dita_doc.specs.Desk.{State}
use Rattle.dita_doc.specs.declared.plan.Plan.{Plan}
use Rattle.dita_doc.specs.declared.plan.PlanStop.{PlanStop}
use Rattle.dita_doc.specs.declared.question.Asked.{Asked}
use Rattle.dita_doc.specs.declared.stop.NoMemory.{NoMemory}
use Rattle.dita_doc.proofs.Tests.{or_first, or_second}
use Rattle.fact_judge.specs.Agreed.{own_agrees, plan_agrees}
use Rattle.fact_judge.specs.Answer.{AreAnswers, setting_by}
use Rattle.fact_judge.specs.Judging.{WasSo, is_about_plan}
use Rattle.fact_judge.specs.Sound.{IsSound}
use Rattle.fact_judge.proofs.EachLaws.{with_plan, without_plan}
use Rattle.facts.specs.Judged.{BuildKey, HasAgreed, Tells, build_key}
use Rattle.facts.specs.declared.fact.Fact.{Fact}
use Rattle.facts.specs.declared.fact.PlanFact.{PlanFact}
use Rattle.map_spec.specs.PlanOf.{limits, plan_of}
use Rattle.reader_spec.specs.World.{World, world_of}
use Rattle.readers.specs.Setting.{Setting}
use Rattle.readers.specs.Titled.{AreTitles, Titled}

-- Over sources that are the same

pub titles_at : (here there : State) (titles old : List Titled) → there ≡ here → titles ≡ old
    → AreTitles (world_of here) old → AreTitles (world_of there) titles
titles_at here there titles old same is right =
    subst (λ s. AreTitles (world_of s) titles) (sym same) (subst (AreTitles (world_of here)) (sym is) right)

pub was_there : (is : State → Type 0) (since : ℕ) (here there : State) → there ≡ here → WasSo is since here
    → WasSo is since there
was_there is since here there same = subst (WasSo is since) (sym same)

pub tells_there : (setting : Option Setting) (here there : State) (asked : List Asked) (result : Result Bool NoMemory)
    → there ≡ here → IfOk result (λ are. Tells are (AreAnswers (world_of there) setting asked))
    → IfOk result (λ are. Tells are (AreAnswers (world_of here) setting asked))
tells_there setting here there asked result same =
    subst (λ s. IfOk result (λ are. Tells are (AreAnswers (world_of s) setting asked))) same

-- The plan of a fact is the plan there

pub plan_there : (fact : Fact) (plan : Plan) (sources : State) (map : List ℕ) (val : Option (List ℕ)) → IsSound fact
    → build_key fact.key ≡ record { map = map; val = val } → plan_agrees (arc_value fact.plan) sources
    → (arc_value fact.plan).value ≡ Ok plan → plan_of limits (world_of sources) map val ≡ Ok plan
plan_there fact plan sources map val sound build agrees is =
    sym (ap (λ (key : BuildKey). plan_of limits (world_of sources) key.map key.val) build)
    ∙ sound.plan (world_of sources) agrees ∙ is

-- What was so of a fact was so of its questions

pub was_own : (fact : Fact) (value : Result Plan PlanStop) (asked : List Asked) (since : ℕ) (sources : State)
    → (arc_value fact.plan).value ≡ value → asked ≡ fact.asked → HasAgreed own_agrees fact since sources
    → WasSo (λ state. AreAnswers (world_of state) (setting_by value) asked) since sources
was_own fact value asked since sources is same before = record {
  older = before.older;
  was = subst (λ v. AreAnswers (world_of before.older) (setting_by v) asked) is
      (subst (λ xs. AreAnswers (world_of before.older) (setting_by (arc_value fact.plan).value) xs) (sym same) before.agreed);
  stood = before.stood;
}

pub was_plan : (plan : PlanFact) (asked : List Asked) (since : ℕ) (sources : State) → asked ≡ plan.asked
    → HasAgreed plan_agrees plan since sources
    → WasSo (λ state. AreAnswers (world_of state) None asked) since sources
was_plan plan asked since sources same before = record {
  older = before.older;
  was = subst (λ xs. AreAnswers (world_of before.older) None xs) (sym same) before.agreed;
  stood = before.stood;
}

-- and what is told of its questions is told of it
pub tells_own : (fact : Fact) (value : Result Plan PlanStop) (asked : List Asked) (sources : State)
    (result : Result Bool NoMemory) → (arc_value fact.plan).value ≡ value → asked ≡ fact.asked
    → IfOk result (λ are. Tells are (AreAnswers (world_of sources) (setting_by value) asked))
    → IfOk result (λ are. Tells are (own_agrees fact sources))
tells_own fact value asked sources result is same tells =
    subst (λ xs. IfOk result (λ are. Tells are (AreAnswers (world_of sources) (setting_by (arc_value fact.plan).value) xs)))
    same (subst (λ v. IfOk result (λ are. Tells are (AreAnswers (world_of sources) (setting_by v) asked))) (sym is) tells)

-- Where no question is about a plan

abbrev pub setting_of : Plan → Setting
setting_of plan = record { nodes = plan.nodes; documents = plan.documents; pages = plan.pages }

all_with : (world : World) (setting : Setting) (asked : List Asked)
    → list_any (λ (one : Asked). is_about_plan one.question) asked ≡ false → AreAnswers world None asked
    → AreAnswers world (Some setting) asked
all_with world setting [] none all = tt
all_with world setting (one ∷ more) none all = (
  with_plan world setting one.question one.answered (or_first (is_about_plan one.question) _ none) all.0,
  all_with world setting more (or_second (is_about_plan one.question) _ none) all.1,
)

all_without : (world : World) (setting : Setting) (asked : List Asked)
    → list_any (λ (one : Asked). is_about_plan one.question) asked ≡ false → AreAnswers world (Some setting) asked
    → AreAnswers world None asked
all_without world setting [] none all = tt
all_without world setting (one ∷ more) none all = (
  without_plan world setting one.question one.answered (or_first (is_about_plan one.question) _ none) all.0,
  all_without world setting more (or_second (is_about_plan one.question) _ none) all.1,
)

pub was_without : (setting : Setting) (asked : List Asked) (since : ℕ) (sources : State)
    → list_any (λ (one : Asked). is_about_plan one.question) asked ≡ false
    → WasSo (λ state. AreAnswers (world_of state) (Some setting) asked) since sources
    → WasSo (λ state. AreAnswers (world_of state) None asked) since sources
was_without setting asked since sources none before = record {
  older = before.older;
  was = all_without (world_of before.older) setting asked none before.was;
  stood = before.stood;
}

tells_like : (r : Bool) (P Q : Type 0) → (P → Q) → (Q → P) → Tells r P → Tells r Q
tells_like true P Q there back tells = there tells
tells_like false P Q there back tells = λ q. tells (back q)

pub tells_with : (setting : Setting) (asked : List Asked) (sources : State) (result : Result Bool NoMemory)
    → list_any (λ (one : Asked). is_about_plan one.question) asked ≡ false
    → IfOk result (λ are. Tells are (AreAnswers (world_of sources) None asked))
    → IfOk result (λ are. Tells are (AreAnswers (world_of sources) (Some setting) asked))
tells_with setting asked sources (Err stop) none tells = tt
tells_with setting asked sources (Ok are) none tells =
    tells_like are (AreAnswers (world_of sources) None asked) (AreAnswers (world_of sources) (Some setting) asked)
    (all_with (world_of sources) setting asked none) (all_without (world_of sources) setting asked none) tells

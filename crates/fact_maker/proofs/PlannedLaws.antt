-- What `planned` says of its reader's notes is what the fact of a plan wants, and such a fact is sound.
use Rattle.std.proofs.Common.{◌≡◌, ℕ, List, [], ◌∷◌, Option, None, Result, reverse, refl, sym, subst}
use Rattle.std.specs.Arc.{arc_value}
use Rattle.std.specs.declared.alloc.Global.{Global}
use Rattle.std.specs.declared.sync.Arc.{Arc}
use Rattle.build_plan.specs.Documents.{build_names, plan_targets}
use Rattle.dita_doc.specs.Desk.{State}
use Rattle.dita_doc.specs.declared.fact.FactKey.{FactKey}
use Rattle.dita_doc.specs.declared.fact.Part.TheVariants as parts
use Rattle.dita_doc.specs.declared.plan.Plan.{Plan}
use Rattle.dita_doc.specs.declared.plan.PlanStop.{PlanStop}
use Rattle.dita_doc.specs.declared.question.Answered.{Answered}
use Rattle.dita_doc.specs.declared.question.Answered.TheVariants as answers
use Rattle.dita_doc.specs.declared.question.Asked.{Asked}
use Rattle.dita_doc.specs.declared.question.Question.{Question}
use Rattle.dita_doc.specs.declared.question.Question.TheVariants as questions
use Rattle.fact_judge.proofs.AnswerLaws.{agrees_plan_answers, plan_answers_agree}
use Rattle.fact_judge.proofs.FoundedLaws.{IsOfNoPage, founded_in_order}
use Rattle.fact_judge.specs.Answer.{AreOfKind, IsOfPlanKind}
use Rattle.fact_judge.specs.Sound.{IsSound}
use Rattle.facts.specs.declared.fact.Fact.{Fact}
use Rattle.facts.specs.declared.fact.PlanFact.{PlanFact}
use Rattle.map_spec.specs.PlanOf.{limits, plan_of}
use Rattle.reader_spec.specs.World.{World, world_of}
use Rattle.readers.proofs.DocumentLaws.{asks_by}
use Rattle.readers.proofs.FoundedLaws.{stays_by}
use Rattle.readers.specs.Documents.{AskedBy, AsksOnly}
use Rattle.readers.specs.Founded.{IsFounded, StaysFounded}
use Rattle.readers.specs.Noted.{answered_of, told_in}
use Rattle.readers.specs.Setting.{no_setting}
use Rattle.readers.specs.Told.{Agrees}
use Rattle.readers.specs.declared.questions.Note.{Note}
use Rattle.source_reader.specs.Kinds.{AreOfPlanKind}
use Rattle.source_reader.specs.Stored.{told_alone}
use Rattle.fact_maker.proofs.AskedLaws.{ask_no_key, asks_in_order, covers_plan, plan_follows}
use Rattle.fact_maker.proofs.MovedLaws.{kept_kinds, told_kept}
use Rattle.fact_maker.specs.Planned.{IsPlanned}

-- a question that wants no plan is about no page

no_page : (question : Question) (answered : Answered) → IsOfPlanKind question answered → IsOfNoPage question answered
no_page (questions.Document name) (answers.Document found) kind = tt
no_page (questions.Kind name) (answers.Kind answer) kind = tt
no_page (questions.Title name topic) (answers.Title text) kind = tt
no_page (questions.First name) (answers.First id) kind = tt
no_page question answered kind = absurd kind

no_pages : (asked : List Asked) → AreOfKind IsOfPlanKind asked → AreOfKind IsOfNoPage asked
no_pages [] kinds = tt
no_pages (one ∷ more) kinds = (no_page one.question one.answered kinds.0, no_pages more kinds.1)

-- What was asked by such notes for the plan of a map

module _ (sources : State) (map : List ℕ) (val : Option (List ℕ)) (all : List Note) (kinds : AreOfPlanKind all)
    (value : Result Plan PlanStop)
    (known : (world : World) → Agrees world (told_alone all) → plan_of limits world map val ≡ value)
    (agrees : Agrees (world_of sources) (told_alone all))
    (founded : StaysFounded (build_names map val) [] (told_alone all))
    (asks : AsksOnly plan_targets (build_names map val) [] (told_alone all)) where
  abbrev kept : List Asked
  kept = answered_of (reverse all)

  are : AreOfKind IsOfPlanKind kept
  are = kept_kinds all kinds

  tell : told_in no_setting [] kept ≡ told_alone all
  tell = told_kept all kinds

  kept_founded : IsFounded (build_names map val) (told_in no_setting [] kept)
  kept_founded = subst (IsFounded (build_names map val)) (sym tell)
      (stays_by (build_names map val) [] (told_alone all) founded (build_names map val)
      (record { each = λ m among. among }) tt)

  kept_asked : AskedBy plan_follows (build_names map val) (told_in no_setting [] kept)
  kept_asked = subst (AskedBy plan_follows (build_names map val)) (sym tell)
      (asks_by plan_targets (build_names map val) [] (told_alone all) asks plan_follows (build_names map val)
      covers_plan (record { each = λ m among. among }) tt)

  kept_planned : IsPlanned sources map val (record { asked = kept; value = value })
  kept_planned = record {
    fixed = λ world answers.
        known world (subst (Agrees world) tell (plan_answers_agree world no_setting [] kept answers tt));
    agrees = (agrees_plan_answers (world_of sources) no_setting [] kept are
        (subst (Agrees (world_of sources)) (sym tell) agrees)).0;
    founded = (founded_in_order no_setting [] (build_names map val) (build_names map val) [] kept (λ m is. is)
        (no_pages kept are) kept_founded).0;
    asks = (asks_in_order (build_names map val) (build_names map val) [] kept (λ m is. is) are kept_asked).0;
    no_key = ask_no_key kept are;
  }

  pub is_planned : (asked : List Asked) → asked ≡ answered_of (reverse all)
      → IsPlanned sources map val (record { asked = asked; value = value })
  is_planned asked is =
      subst (λ l. IsPlanned sources map val (record { asked = l; value = value })) (sym is) kept_planned

-- The fact of such a plan

abbrev pub alone : FactKey → Arc PlanFact Global → Fact
alone key plan = record { key = key; plan = plan; planned = 0; asked = []; html = None }

abbrev pub key_of_plan : List ℕ → Option (List ℕ) → FactKey
key_of_plan map val = record { map = map; val = val; part = parts.Plan }

pub sound_alone : (sources : State) (map : List ℕ) (val : Option (List ℕ)) (plan : Arc PlanFact Global)
    → IsPlanned sources map val (arc_value plan) → IsSound (alone (key_of_plan map val) plan)
sound_alone sources map val plan is = record {
  rests = (refl, refl);
  plan = is.fixed;
  part = λ world planned own. tt;
  founded = record { plan = is.founded; own = tt };
  asks = record { plan = is.asks; no_key = is.no_key; own = refl };
}

-- the same where the key and the plan are known by equations
pub sound_made : (sources : State) (map : List ℕ) (val : Option (List ℕ)) (key : FactKey) (plan : Arc PlanFact Global)
    (planned : PlanFact) → key ≡ key_of_plan map val → arc_value plan ≡ planned → IsPlanned sources map val planned
    → (fact : Fact) → fact ≡ alone key plan → IsSound fact
sound_made sources map val key plan planned named held is fact made = subst IsSound (sym made)
    (subst (λ own. IsSound (alone own plan)) (sym named)
    (sound_alone sources map val plan (subst (IsPlanned sources map val) (sym held) is)))

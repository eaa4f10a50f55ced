-- What is right of a part has one proof at most.
use Rattle.std.specs.Prelude.{ℕ, List, [], ◌∷◌, Option, Some, Result, Ok}
use Rattle.std.specs.Coded.{Coded, Coded-set, codes, ×_prop, Unit-prop}
use Rattle.std.proofs.Props.{props}
use Rattle.dita_doc.specs.Desk.{State}
use Rattle.dita_doc.specs.declared.fact.Html.{Html}
use Rattle.dita_doc.specs.declared.fact.Part.{Part}
use Rattle.dita_doc.specs.declared.fact.Part.TheVariants as parts
use Rattle.dita_doc.specs.declared.plan.Plan.{Plan}
use Rattle.dita_doc.specs.declared.plan.PlanStop.{PlanStop}
use Rattle.dita_doc.specs.declared.question.Answered.{Answered}
use Rattle.dita_doc.specs.declared.question.Answered.TheVariants as answers
use Rattle.dita_doc.specs.declared.question.Asked.{Asked}
use Rattle.dita_doc.specs.declared.question.Question.{Question}
use Rattle.dita_doc.specs.declared.question.Question.TheVariants as questions
use Rattle.fact_judge.specs.Answer.{AreAnswers, IsAnswer}
use Rattle.fact_judge.specs.Asks.{AskNoKey, IsNoKey}
use Rattle.fact_judge.specs.Order.{InOrder}
use Rattle.fact_judge.specs.Sound.{IsPage}
use Rattle.facts.specs.declared.fact.PlanFact.{PlanFact}
use Rattle.reader_spec.specs.World.{World}
use Rattle.readers.specs.Founded.{AreAmong}
use Rattle.readers.specs.Props.{Holds-prop}
use Rattle.readers.specs.Setting.{Setting, no_setting}
use Rattle.readers.specs.Noted.{told_by}
use Rattle.fact_maker.specs.Planned.{IsPlanned}
use Rattle.fact_maker.specs.Right.{HtmlAsks, IsHtmlOf, IsRight, PageReads}

html_code : Coded Html
html_code = hlevel codes

pub html_set : IsSet Html
html_set = Coded-set html_code

value_code : Coded (Result Plan PlanStop)
value_code = hlevel codes

pub value_set : IsSet (Result Plan PlanStop)
value_set = Coded-set value_code

answer_prop : (world : World) (setting : Option Setting) (question : Question) (answered : Answered)
    → IsProp (IsAnswer world setting question answered)
answer_prop world setting (questions.Document name) (answers.Document found) =
    Holds-prop world (told_by no_setting (questions.Document name) (answers.Document found))
answer_prop world setting (questions.Kind name) (answers.Kind kind) =
    Holds-prop world (told_by no_setting (questions.Kind name) (answers.Kind kind))
answer_prop world setting (questions.Title name topic) (answers.Title text) =
    Holds-prop world (told_by no_setting (questions.Title name topic) (answers.Title text))
answer_prop world setting (questions.First name) (answers.First id) =
    Holds-prop world (told_by no_setting (questions.First name) (answers.First id))
answer_prop world (Some setting) (questions.Key scope text) (answers.Key answer) =
    ×_prop (hlevel props) (Holds-prop world (told_by setting (questions.Key scope text) (answers.Key answer)))
answer_prop world (Some setting) (questions.Pushes name) (answers.Pushes pushes faults) =
    Holds-prop world (told_by setting (questions.Pushes name) (answers.Pushes pushes faults))
answer_prop world (Some setting) (questions.PageOf name context) (answers.PageOf place) =
    Holds-prop world (told_by setting (questions.PageOf name context) (answers.PageOf place))
answer_prop world setting question answered = hlevel

pub answers_prop : (world : World) (setting : Option Setting) (asked : List Asked) → IsProp (AreAnswers world setting asked)
answers_prop world setting [] = Unit-prop
answers_prop world setting (one ∷ more) =
    ×_prop (answer_prop world setting one.question one.answered) (answers_prop world setting more)

among_prop : (some names : List (List ℕ)) → IsProp (AreAmong some names)
among_prop some names = hlevel props

pub order_prop : (about : Question → List (List ℕ)) (gives : Asked → List (List ℕ)) (known : List (List ℕ))
    (asked : List Asked) → IsProp (InOrder about gives known asked)
order_prop about gives known [] = Unit-prop
order_prop about gives known (one ∷ more) = ×_prop (among_prop _ _) (order_prop about gives _ more)

no_key_prop : (question : Question) → IsProp (IsNoKey question)
no_key_prop (questions.Key scope text) = hlevel
no_key_prop question = Unit-prop

pub no_keys_prop : (asked : List Asked) → IsProp (AskNoKey asked)
no_keys_prop asked = hlevel (props, no_key_prop)

page_prop : (plan : Plan) (val : Option (List ℕ)) (index : ℕ) (html : Html) (world : World)
    → IsProp (IsPage plan val index html world)
page_prop plan val index html world = hlevel (props, html_set)

html_prop : (part : Part) (value : Result Plan PlanStop) (val : Option (List ℕ)) (html : Html) (world : World)
    → IsProp (IsHtmlOf part value val html world)
html_prop (parts.Page index) (Ok plan) val html world = page_prop plan val index html world
html_prop parts.Contents (Ok plan) val html world = html_set _ _
html_prop _ value val html world = hlevel

reads_prop : (plan : PlanFact) (val : Option (List ℕ)) (index : ℕ) (asked : List Asked)
    → IsProp (PageReads plan val index asked)
reads_prop plan val index asked = hlevel props

pub asks_prop : (part : Part) (plan : PlanFact) (val : Option (List ℕ)) (asked : List Asked)
    → IsProp (HtmlAsks part plan val asked)
asks_prop (parts.Page index) plan val asked = reads_prop plan val index asked
asks_prop parts.Contents plan val asked = ×_prop (order_prop _ _ _ asked) (no_keys_prop asked)
asks_prop parts.Plan plan val asked = hlevel

pub right_prop : (sources : State) (map : List ℕ) (val : Option (List ℕ)) (plan : PlanFact) (part : Part) (html : Html)
    (asked : List Asked) → IsProp (IsRight sources map val plan part html asked)
right_prop sources map val plan part html asked = hlevel (props, html_prop, answers_prop, order_prop, asks_prop)

pub planned_prop : (sources : State) (map : List ℕ) (val : Option (List ℕ)) (plan : PlanFact)
    → IsProp (IsPlanned sources map val plan)
planned_prop sources map val plan = hlevel (props, value_set, answers_prop, order_prop, no_keys_prop)

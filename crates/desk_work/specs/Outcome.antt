-- What the build of a plan is, by the facts of its pages and of its contents page (own): too large, or each page under
-- its name, the contents last, and the report of all faults.
use Rattle.std.specs.Prelude.{◌≡◌, ℕ, List, [], ◌∷◌, ◌++◌, Option, Some, None, Result, Ok, Err, codes, length, map, nat_le, sum_by, if◌then◌else◌}
use Rattle.std.specs.Arc.{arc_value}
use Rattle.std.specs.List.{flat_map}
use Rattle.std.specs.declared.alloc.Global.{Global}
use Rattle.std.specs.declared.sync.Arc.{Arc}
use Rattle.build_spec.specs.Built.{BuildOutcome, Done, Page, Stopped, TooLarge}
use Rattle.dita_doc.specs.Desk.{State}
use Rattle.dita_doc.specs.declared.fact.FactKey.{FactKey}
use Rattle.dita_doc.specs.declared.fact.Html.{Html}
use Rattle.dita_doc.specs.declared.fact.Part.TheVariants as parts
use Rattle.dita_doc.specs.declared.fault.Fault.{Fault}
use Rattle.dita_doc.specs.declared.plan.PagePlan.{PagePlan}
use Rattle.dita_doc.specs.declared.plan.Plan.{Plan}
use Rattle.dita_doc.specs.declared.plan.PlanStop.{PlanStop}
use Rattle.facts.specs.declared.fact.Fact.{Fact}
use Rattle.fault_report.specs.Report.{report_of}
use Rattle.desk_language.specs.Language.{Language, pages_from}
use Rattle.desk_lock.specs.Lists.{Each}
use Rattle.desk_work.specs.Build.{html_in}
use Rattle.desk_lock.specs.Meaning.{Meaning}

abbrev pub html_faults : Option (Arc Html Global) → List Fault
html_faults None = []
html_faults (Some html) = (arc_value html).faults

-- the most bytes of all pages of a build
abbrev pub total_limit : ℕ
total_limit = 268435456

abbrev pub contents_name : List ℕ
contents_name = codes "index.html"

abbrev pub page_names : Plan → List (List ℕ)
page_names plan = map (λ (page : PagePlan). page.name) plan.pages ++ contents_name ∷ []

abbrev pub pages_with : List (List ℕ) → List Fact → List Page
pages_with [] facts = []
pages_with (name ∷ names) [] = []
pages_with (name ∷ names) (fact ∷ facts) = (name, html_in fact.html) ∷ pages_with names facts

abbrev pub total_of : List Fact → ℕ
total_of facts = sum_by (λ (fact : Fact). length (html_in fact.html)) facts

abbrev pub faults_of : Plan → List Fact → List Fault
faults_of plan facts = plan.faults ++ flat_map (λ (fact : Fact). html_faults fact.html) facts

abbrev pub report_of_all : Plan → List Fact → List Fault
report_of_all plan facts = report_of (faults_of plan facts)

abbrev pub outcome_of : Plan → List Fact → BuildOutcome
outcome_of plan facts =
    if nat_le (total_of facts) total_limit then Done (pages_with (page_names plan) facts) (report_of_all plan facts)
    else TooLarge (total_of facts)

-- What facts tell of a build

-- the fact is right over these sources
pub record IsRight (means : Meaning) (state : State) (fact : Fact) : Type 0 where
  pub sound : means.is_sound fact
  pub agrees : means.agrees fact state

pub record IsRightPlan (means : Meaning) (state : State) (fact : Fact) : Type 0 where
  pub right : IsRight means state fact
  pub of : fact.key.part ≡ parts.Plan

abbrev pub PlanTells : Language → State → FactKey → Result Plan PlanStop → Type 0
PlanTells language state key (Ok plan) = language.page_count state key.map key.val ≡ Some (length plan.pages)
PlanTells language state key (Err stop) = (language.page_count state key.map key.val ≡ None)
    × (language.clean state key.map key.val ≡ Stopped stop)

-- these are the parts of the plan, pages in order and the contents page, and each is right
pub record ArePartsOfPlan (means : Meaning) (state : State) (root : FactKey) (plan : Plan) (facts : List Fact) : Type 0
  where
    pub keys : map (λ (fact : Fact). fact.key) facts ≡ pages_from root.map root.val 0 (length plan.pages)
    pub right : Each (IsRight means state) facts

abbrev pub PartsTell : Language → State → FactKey → Plan → List Fact → Type 0
PartsTell language state root plan facts = language.clean state root.map root.val ≡ outcome_of plan facts

-- The language of the tests of builds (own). Whatever is asked for, each document that is stored is a page under its
-- name, in the order of the names, and then comes the contents page; each page is the same line.
use Rattle.std.specs.Prelude.{◌≡◌, ◌*◌, ℕ, List, [], ◌∷◌, ◌++◌, Some, Result, Ok, Err, codes, length, map, nat_le, sum_by, if◌then◌else◌}
use Rattle.std.specs.Arc.{arc_value}
use Rattle.build_spec.specs.Built.{BuildOutcome, Done, Page, TooLarge}
use Rattle.desk_language.specs.Language.{Language}
use Rattle.dita_doc.specs.Desk.{State, Stored}
use Rattle.dita_doc.specs.Lines.{line}
use Rattle.dita_doc.specs.declared.fact.Part.{Part}
use Rattle.dita_doc.specs.declared.fact.Part.TheVariants as parts
use Rattle.dita_doc.specs.declared.plan.PagePlan.{PagePlan}
use Rattle.dita_doc.specs.declared.plan.Plan.{Plan}
use Rattle.dita_doc.specs.declared.plan.PlanStop.{PlanStop}
use Rattle.facts.specs.declared.fact.Fact.{Fact}
use Rattle.desk_work.specs.Build.{html_in}
use Rattle.desk_work.specs.Outcome.{contents_name, html_faults, total_limit}

abbrev pub page_line : List ℕ
page_line = line (codes "page")

abbrev pub page_of : List ℕ → Page
page_of name = (name, page_line)

abbrev pub names_in : State → List (List ℕ)
names_in state = map (λ (stored : Stored). stored.name) state

-- the pages of these names, and the contents page
abbrev pub pages_of : List (List ℕ) → List Page
pages_of names = map page_of (names ++ contents_name ∷ [])

abbrev pub bytes_of_all : List Page → ℕ
bytes_of_all pages = sum_by (λ (page : Page). length page.1) pages

-- without faults, unless they are more than a build may have
abbrev pub outcome_with : List Page → BuildOutcome
outcome_with pages = if nat_le (bytes_of_all pages) total_limit then Done pages [] else TooLarge (bytes_of_all pages)

abbrev pub bytes_of : State → Part → ℕ
bytes_of state parts.Plan = 256 * length state
bytes_of state (parts.Page index) = 5
bytes_of state parts.Contents = 5

abbrev pub line_language : Language
line_language = record {
  clean = λ state root val. outcome_with (pages_of (names_in state));
  page_count = λ state root val. Some (length state);
  value_bytes = λ state key. bytes_of state key.part;
  Reaches = λ state root val name. Unit {0};
}

-- Facts that are sound: a plan has a page for each of its documents, and neither nodes nor faults; a page is the line

pub record IsPagePlan (plan : Plan) : Type 0 where
  pub pages : map (λ (page : PagePlan). page.name) plan.pages ≡ plan.documents
  pub nodes : plan.nodes ≡ []
  pub faults : plan.faults ≡ []

abbrev pub IsSoundPlan : Result Plan PlanStop → Type 0
IsSoundPlan (Err stop) = ⊥
IsSoundPlan (Ok plan) = IsPagePlan plan

pub record IsLine (fact : Fact) : Type 0 where
  pub bytes : html_in fact.html ≡ page_line
  pub faults : html_faults fact.html ≡ []

abbrev pub IsSoundAs : Part → Fact → Type 0
IsSoundAs parts.Plan fact = IsSoundPlan (arc_value fact.plan).value
IsSoundAs (parts.Page index) fact = IsLine fact
IsSoundAs parts.Contents fact = IsLine fact

abbrev pub IsSound : Fact → Type 0
IsSound fact = IsSoundAs fact.key.part fact

-- Facts that agree: the documents of a plan are those that are stored; a page is the line whatever is stored

abbrev pub IsPlanOver : Result Plan PlanStop → State → Type 0
IsPlanOver (Err stop) state = ⊥
IsPlanOver (Ok plan) state = plan.documents ≡ names_in state

abbrev pub AgreesAs : Part → Fact → State → Type 0
AgreesAs parts.Plan fact state = IsPlanOver (arc_value fact.plan).value state
AgreesAs (parts.Page index) fact state = Unit {0}
AgreesAs parts.Contents fact state = Unit {0}

abbrev pub AgreesWith : Fact → State → Type 0
AgreesWith fact state = AgreesAs fact.key.part fact state

-- What right facts of the language tell of its builds, and what its judge finds.
use Rattle.std.specs.Prelude.{bytes_eq, nat_le, if◌then◌else◌}
use Rattle.std.proofs.Common.{◌≡◌, ℕ, ◌+◌, Bool, true, false, List, [], ◌∷◌, ◌++◌, Some, Result, Ok, Err, refl, sym, ap, ◌∙◌, subst, arith, length, map}
use Rattle.std.specs.Arc.{arc_value}
use Rattle.std.specs.Bool.{Decides}
use Rattle.std.specs.Cmp.Lexicographic.{pointwise}
use Rattle.std.proofs.lemmas.Bool.{false≢true}
use Rattle.std.proofs.lemmas.List.{length-map}
use Rattle.std.proofs.lemmas.List.Sums.{sum_by-cons}
use Rattle.std.proofs.lemmas.Slice.Eq.{bytes_eq-Decides, slice_eq-Decides}
use Rattle.build_spec.specs.Built.{BuildOutcome, Done, Page, TooLarge}
use Rattle.desk_language.specs.Language.{pages_from}
use Rattle.desk_lock.specs.Lists.{Each}
use Rattle.desk_lock.specs.Meaning.{Meaning, meant_by}
use Rattle.desk_work.specs.Build.{html_in}
use Rattle.desk_work.specs.Outcome.{ArePartsOfPlan, IsRight, IsRightPlan, PartsTell, PlanTells, contents_name, outcome_of, page_names, pages_with, report_of_all, total_limit, total_of}
use Rattle.dita_doc.specs.Desk.{State, Stored}
use Rattle.dita_doc.specs.declared.fact.FactKey.{FactKey}
use Rattle.dita_doc.specs.declared.fact.Part.{Part}
use Rattle.dita_doc.specs.declared.fact.Part.TheVariants as parts
use Rattle.dita_doc.specs.declared.fault.Fault.{Fault}
use Rattle.dita_doc.specs.declared.plan.PagePlan.{PagePlan}
use Rattle.dita_doc.specs.declared.plan.Plan.{Plan}
use Rattle.dita_doc.specs.declared.plan.PlanStop.{PlanStop}
use Rattle.facts.specs.Judged.{Tells}
use Rattle.facts.specs.declared.fact.Fact.{Fact}
use Rattle.facts.specs.declared.fact.PlanFact.{PlanFact}
use Rattle.lock_examples.specs.LineLanguage.{AgreesWith, AgreesAs, IsLine, IsPlanOver, IsSound, IsSoundAs, IsSoundPlan, bytes_of_all, line_language, names_in, outcome_with, page_of, pages_of}

abbrev means : Meaning
means = meant_by (λ (plan : PlanFact) (state : State). Unit {0}) AgreesWith IsSound

-- a plan that is sound, over these sources, has their names
names_are : (state : State) (plan : Plan) → IsSoundPlan (Ok plan) → IsPlanOver (Ok plan) state
    → map (λ (page : PagePlan). page.name) plan.pages ≡ names_in state
names_are state plan sound over = sound.pages ∙ over

tells : (state : State) (key : FactKey) (value : Result Plan PlanStop) → IsSoundPlan value → IsPlanOver value state
    → PlanTells line_language state key value
tells state key (Err stop) sound over = absurd sound
tells state key (Ok plan) sound over = ap (λ (n : ℕ). Some n)
    (sym (length-map state (λ (stored : Stored). stored.name))
    ∙ ap (λ (names : List (List ℕ)). length names) (sym (names_are state plan sound over))
    ∙ length-map plan.pages (λ (page : PagePlan). page.name))

sound_plan : (state : State) (fact : Fact) → IsRightPlan means state fact → IsSoundPlan (arc_value fact.plan).value
sound_plan state fact right = subst (λ (part : Part). IsSoundAs part fact) right.of right.right.sound

plan_over : (state : State) (fact : Fact) → IsRightPlan means state fact → IsPlanOver (arc_value fact.plan).value state
plan_over state fact right = subst (λ (part : Part). AgreesAs part fact state) right.of right.right.agrees.own

pub plan_tells : (state : State) (fact : Fact) → IsRightPlan means state fact
    → PlanTells line_language state fact.key (arc_value fact.plan).value
plan_tells state fact right =
    tells state fact.key (arc_value fact.plan).value (sound_plan state fact right) (plan_over state fact right)

-- the facts are lines: a page for each name, and the contents page
record AreLines (names : List (List ℕ)) (facts : List Fact) : Type 0 where
  pages : pages_with (names ++ contents_name ∷ []) facts ≡ pages_of names
  total : total_of facts ≡ bytes_of_all (pages_of names)
  report : (plan : Plan) → plan.faults ≡ [] → report_of_all plan facts ≡ []

last_line : (fact : Fact) → IsLine fact → AreLines [] (fact ∷ [])
last_line fact line = record {
  pages = ap (λ (bytes : List ℕ). (contents_name, bytes) ∷ []) line.bytes;
  total = ap (λ (bytes : List ℕ). bytes_of_all ((contents_name, bytes) ∷ [])) line.bytes;
  report = λ plan none.
      ap (λ (list : List Fault). report_of_all (record plan { faults = list }) (fact ∷ [])) none
      ∙ ap (λ (list : List Fault). report_of_all (record plan { faults = list }) []) line.faults;
}

one_line : (name : List ℕ) (names : List (List ℕ)) (fact : Fact) (facts : List Fact) → IsLine fact
    → AreLines names facts → AreLines (name ∷ names) (fact ∷ facts)
one_line name names fact facts line more = record {
  pages = ap (λ (bytes : List ℕ). (name, bytes) ∷ pages_with (names ++ contents_name ∷ []) facts) line.bytes
      ∙ ap (λ (pages : List Page). page_of name ∷ pages) more.pages;
  total =
      let one = sum_by-cons (λ (one : Fact). length (html_in one.html)) fact facts in
      let other = sum_by-cons (λ (page : Page). length page.1) (page_of name) (pages_of names) in
      let same = ap (λ (bytes : List ℕ). length bytes) line.bytes in
      let rest = more.total in omega arith;
  report = λ plan none.
      ap (λ (list : List Fault). report_of_all (record plan { faults = list }) (fact ∷ facts)) none
      ∙ ap (λ (list : List Fault). report_of_all (record plan { faults = list }) facts) line.faults
      ∙ more.report (record plan { faults = [] }) refl;
}

abbrev head_of : FactKey → List FactKey → FactKey
head_of key [] = key
head_of key (first ∷ keys) = first

abbrev tail_of : List FactKey → List FactKey
tail_of [] = []
tail_of (first ∷ keys) = keys

not_none : (key : FactKey) (keys : List FactKey) → [] ≡ key ∷ keys → ⊥
not_none key keys e = absurd (cc)

-- a page's fact, or that of the contents page
is_line : (state : State) (fact : Fact) (part : Part) → fact.key.part ≡ part → IsRight means state fact
    → IsSoundAs part fact
is_line state fact part is right = subst (λ (one : Part). IsSoundAs one fact) is right.sound

are_lines : (state : State) (root : FactKey) (index : ℕ) (names : List (List ℕ)) (facts : List Fact)
    → map (λ (fact : Fact). fact.key) facts ≡ pages_from root.map root.val index (length names)
    → Each (IsRight means state) facts → AreLines names facts
are_lines state root index [] [] keys right = absurd (not_none _ _ keys)
are_lines state root index [] (fact ∷ []) keys right =
    last_line fact (is_line state fact parts.Contents (ap (λ list. (head_of fact.key list).part) keys) right.0)
are_lines state root index [] (fact ∷ other ∷ facts) keys right =
    absurd (not_none _ _ (sym (ap tail_of keys)))
are_lines state root index (name ∷ names) [] keys right = absurd (not_none _ _ keys)
are_lines state root index (name ∷ names) (fact ∷ facts) keys right =
    one_line name names fact facts
    (is_line state fact (parts.Page index) (ap (λ list. (head_of fact.key list).part) keys) right.0)
    (are_lines state root (index + 1) names facts (ap tail_of keys) right.1)

-- what a build gives, by its bytes, its pages and its report
abbrev outcome_by : ℕ → List Page → List Fault → BuildOutcome
outcome_by total pages report = if nat_le total total_limit then Done pages report else TooLarge total

outcome_is : (plan : Plan) (facts : List Fact) → AreLines (map (λ (page : PagePlan). page.name) plan.pages) facts
    → plan.faults ≡ []
    → outcome_of plan facts ≡ outcome_with (pages_of (map (λ (page : PagePlan). page.name) plan.pages))
outcome_is plan facts lines none =
    let pages = pages_of (map (λ (page : PagePlan). page.name) plan.pages) in
    let total = bytes_of_all pages in
    ap (λ (n : ℕ). outcome_by n (pages_with (page_names plan) facts) (report_of_all plan facts)) lines.total
    ∙ ap (λ (list : List Page). outcome_by total list (report_of_all plan facts)) lines.pages
    ∙ ap (λ (list : List Fault). outcome_by total pages list) (lines.report plan none)

pub parts_tell : (state : State) (fact : Fact) (plan : Plan) (facts : List Fact) → IsRightPlan means state fact
    → (arc_value fact.plan).value ≡ Ok plan → ArePartsOfPlan means state fact.key plan facts
    → PartsTell line_language state fact.key plan facts
parts_tell state fact plan facts right value are =
    let name_of : PagePlan → List ℕ = λ page. page.name in
    let sound : IsSoundPlan (Ok plan) = subst IsSoundPlan value (sound_plan state fact right) in
    let over : IsPlanOver (Ok plan) state = subst (λ one. IsPlanOver one state) value (plan_over state fact right) in
    let lines = are_lines state fact.key 0 (map name_of plan.pages) facts
    (are.keys ∙ ap (λ (n : ℕ). pages_from fact.key.map fact.key.val 0 n) (sym (length-map plan.pages name_of)))
    are.right in
    ap (λ (names : List (List ℕ)). outcome_with (pages_of names)) (sym (names_are state plan sound over))
    ∙ sym (outcome_is plan facts lines sound.faults)

-- What the judge finds

decided : {P : Type 0} (is : Bool) → Decides is P → Tells is P
decided true decides = decides.0 refl
decided false decides = λ (p : _). false≢true (decides.1 p)

-- to compare a plan's documents with the names that are stored tells whether it is the plan over these sources
pub compared : (state : State) (value : Result Plan PlanStop) (plan : Plan) (names : List (List ℕ)) (is : Bool)
    → value ≡ Ok plan → names ≡ names_in state → is ≡ pointwise bytes_eq plan.documents names
    → Tells is (IsPlanOver value state)
compared state value plan names is has stored same =
    subst (λ (one : Result Plan PlanStop). Tells is (IsPlanOver one state)) (sym has)
    (decided is (subst (λ (list : List (List ℕ)). Decides is (plan.documents ≡ list)) stored
    (slice_eq-Decides bytes_eq-Decides plan.documents names is same)))

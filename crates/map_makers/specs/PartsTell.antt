-- The right parts of a right plan are its pages and its contents page, and so they are the build.
use Rattle.std.specs.Prelude.{◌≡◌, ◌+◌, ℕ, List, [], ◌∷◌, ◌++◌, Option, Some, None, Result, Ok, length, map, nat_le, if◌then◌else◌}
use Rattle.std.specs.Arc.{arc_value}
use Rattle.std.specs.List.{flat_map}
use Rattle.std.specs.declared.alloc.Global.{Global}
use Rattle.std.specs.declared.sync.Arc.{Arc}
use Rattle.std.proofs.Common.{refl, sym, ap, ◌∙◌, subst}
use Rattle.std.proofs.lemmas.List.Sums.{sum_by-cons}
use Rattle.build_spec.specs.Built.{Done, TooLarge}
use Rattle.desk_language.specs.Language.{key_of, pages_from}
use Rattle.desk_lock.specs.Lists.{Each}
use Rattle.desk_work.specs.Build.{html_in}
use Rattle.desk_work.specs.Outcome as desk
use Rattle.desk_work.specs.Outcome.{ArePartsOfPlan, IsRight, IsRightPlan, PartsTell, html_faults}
use Rattle.dita_doc.specs.Desk.{State}
use Rattle.dita_doc.specs.declared.fact.FactKey.{FactKey}
use Rattle.dita_doc.specs.declared.fact.Html.{Html}
use Rattle.dita_doc.specs.declared.fact.Part.{Part}
use Rattle.dita_doc.specs.declared.fact.Part.TheVariants as parts
use Rattle.dita_doc.specs.declared.fault.Fault.{Fault}
use Rattle.dita_doc.specs.declared.plan.PagePlan.{PagePlan}
use Rattle.dita_doc.specs.declared.plan.Plan.{Plan}
use Rattle.dita_doc.specs.declared.plan.PlanStop.{PlanStop}
use Rattle.fact_judge.specs.Sound.{IsPartOf}
use Rattle.fault_report.specs.Report.{report_of}
use Rattle.facts.specs.declared.fact.Fact.{Fact}
use Rattle.map_spec.specs.PlanOf.{limits, plan_of}
use Rattle.map_spec.specs.Scopes.{places_from}
use Rattle.part_spec.specs.Parts.{build_by, build_of, clean_build, contents_part, names_of_pages, no_html, page_part, pages_with, rooms, total_limit, total_of}
use Rattle.reader_spec.specs.World.{World, world_of}
use Rattle.run_spec.specs.Language.{dita}
use Rattle.map_makers.specs.PlanTells.{meaning}

-- The build by the HTML of its parts

abbrev html_or_none : Option (Arc Html Global) → Html
html_or_none None = no_html
html_or_none (Some html) = arc_value html

abbrev html_of : Fact → Html
html_of fact = html_or_none fact.html

bytes_same : (html : Option (Arc Html Global)) → html_in html ≡ (html_or_none html).bytes
bytes_same None = refl
bytes_same (Some html) = refl

faults_same : (html : Option (Arc Html Global)) → html_faults html ≡ (html_or_none html).faults
faults_same None = refl
faults_same (Some html) = refl

total_same : (facts : List Fact) → desk.total_of facts ≡ total_of (map html_of facts)
total_same [] = refl
total_same (fact ∷ facts) =
    sum_by-cons (λ (one : Fact). length (html_in one.html)) fact facts
    ∙ ap (λ (count : ℕ). count + desk.total_of facts) (ap length (bytes_same fact.html))
    ∙ ap (λ (count : ℕ). length (html_of fact).bytes + count) (total_same facts)
    ∙ sym (sum_by-cons (λ (part : Html). length part.bytes) (html_of fact) (map html_of facts))

pages_same : (names : List (List ℕ)) (facts : List Fact)
    → desk.pages_with names facts ≡ pages_with names (map html_of facts)
pages_same [] facts = refl
pages_same (name ∷ names) [] = refl
pages_same (name ∷ names) (fact ∷ facts) =
    ap (λ (bytes : List ℕ). (name, bytes) ∷ desk.pages_with names facts) (bytes_same fact.html)
    ∙ ap (λ list. (name, (html_of fact).bytes) ∷ list) (pages_same names facts)

flat_same : (facts : List Fact) → flat_map (λ (fact : Fact). html_faults fact.html) facts
    ≡ flat_map (λ (part : Html). part.faults) (map html_of facts)
flat_same [] = refl
flat_same (fact ∷ facts) =
    ap (λ (faults : List Fault). faults ++ flat_map (λ (one : Fact). html_faults one.html) facts) (faults_same fact.html)
    ∙ ap (λ (faults : List Fault). (html_of fact).faults ++ faults) (flat_same facts)

outcome_same : (plan : Plan) (facts : List Fact)
    → desk.outcome_of plan facts ≡ build_of total_limit plan (map html_of facts)
outcome_same plan facts =
    ap (λ (total : ℕ). if nat_le total total_limit
    then Done (desk.pages_with (names_of_pages plan) facts) (desk.report_of_all plan facts) else TooLarge total)
    (total_same facts)
    ∙ ap (λ pages. if nat_le (total_of (map html_of facts)) total_limit
    then Done pages (desk.report_of_all plan facts) else TooLarge (total_of (map html_of facts)))
    (pages_same (names_of_pages plan) facts)
    ∙ ap (λ (faults : List Fault). if nat_le (total_of (map html_of facts)) total_limit
    then Done (pages_with (names_of_pages plan) (map html_of facts)) (report_of (plan.faults ++ faults))
    else TooLarge (total_of (map html_of facts)))
    (flat_same facts)

-- The parts of a plan

page_html : (world : World) (plan : Plan) (val : Option (List ℕ)) (index : ℕ) (html : Option (Arc Html Global))
    → IsPartOf (parts.Page index) (Ok plan) val html world → html_or_none html ≡ page_part rooms world plan val index
page_html world plan val index None is = absurd is
page_html world plan val index (Some html) is = is.made

contents_html : (world : World) (plan : Plan) (val : Option (List ℕ)) (html : Option (Arc Html Global))
    → IsPartOf parts.Contents (Ok plan) val html world → html_or_none html ≡ contents_part world plan
contents_html world plan val None is = absurd is
contents_html world plan val (Some html) is = is

-- a right fact of this key, whose map and DITAVAL have this plan, is the key's part of it
part_of_plan : (state : State) (root : List ℕ) (val : Option (List ℕ)) (part : Part) (plan : Plan) (fact : Fact)
    → plan_of limits (world_of state) root val ≡ Ok plan → fact.key ≡ key_of root val part
    → IsRight meaning state fact → IsPartOf part (Ok plan) val fact.html (world_of state)
part_of_plan state root val part plan fact planned key right =
    let world = world_of state in
    let plan_is : (arc_value fact.plan).value ≡ Ok plan =
    sym (right.sound.plan world right.agrees.plan)
    ∙ ap (λ (k : FactKey). plan_of limits world k.map k.val) key ∙ planned in
    subst (λ (k : FactKey). IsPartOf k.part (Ok plan) k.val fact.html world) key
    (subst (λ (value : Result Plan PlanStop). IsPartOf fact.key.part value fact.key.val fact.html world) plan_is
    (right.sound.part world right.agrees.plan right.agrees.own))

abbrev parts_from : World → Plan → Option (List ℕ) → ℕ → List PagePlan → List Html
parts_from world plan val index pages =
    map (page_part rooms world plan val) (places_from index pages) ++ contents_part world plan ∷ []

-- the first of some keys, or else this one
abbrev first_or : FactKey → List FactKey → FactKey
first_or other [] = other
first_or other (key ∷ keys) = key

abbrev behind_first : List FactKey → List FactKey
behind_first [] = []
behind_first (key ∷ keys) = keys

abbrev IsEmpty : List FactKey → Type 0
IsEmpty [] = Unit {0}
IsEmpty (key ∷ keys) = ⊥

first_of : (fact : Fact) (facts : List Fact) (key : FactKey) (keys : List FactKey)
    → map (λ (one : Fact). one.key) (fact ∷ facts) ≡ key ∷ keys
    → (fact.key ≡ key) × (map (λ (one : Fact). one.key) facts ≡ keys)
first_of fact facts key keys e = (ap (first_or key) e, ap behind_first e)

none_first : (key : FactKey) (keys : List FactKey) → [] ≡ key ∷ keys → ⊥
none_first key keys e = subst IsEmpty e tt

none_after : (facts : List Fact) → map (λ (one : Fact). one.key) facts ≡ [] → facts ≡ []
none_after [] e = refl
none_after (fact ∷ facts) e = absurd (none_first fact.key (map (λ (one : Fact). one.key) facts) (sym e))

module _ (state : State) (root : List ℕ) (val : Option (List ℕ)) (plan : Plan)
    (planned : plan_of limits (world_of state) root val ≡ Ok plan)
  where
    parts_are : (pages : List PagePlan) (index : ℕ) (facts : List Fact)
        → map (λ (fact : Fact). fact.key) facts ≡ pages_from root val index (length pages)
        → Each (IsRight meaning state) facts → map html_of facts ≡ parts_from (world_of state) plan val index pages
    parts_are [] index [] keys right = absurd (none_first (key_of root val parts.Contents) [] keys)
    parts_are [] index (fact ∷ facts) keys right =
        let both = first_of fact facts (key_of root val parts.Contents) [] keys in
        let html = contents_html (world_of state) plan val fact.html
        (part_of_plan state root val parts.Contents plan fact planned both.0 right.0) in
        ap (λ (list : List Fact). html_of fact ∷ map html_of list) (none_after facts both.1)
        ∙ ap (λ (one : Html). one ∷ []) html
    parts_are (page ∷ pages) index [] keys right =
        absurd (none_first (key_of root val (parts.Page index)) (pages_from root val (index + 1) (length pages)) keys)
    parts_are (page ∷ pages) index (fact ∷ facts) keys right =
        let both = first_of fact facts (key_of root val (parts.Page index)) (pages_from root val (index + 1) (length pages))
        keys in
        let html = page_html (world_of state) plan val index fact.html
        (part_of_plan state root val (parts.Page index) plan fact planned both.0 right.0) in
        ap (λ (one : Html). one ∷ map html_of facts) html
        ∙ ap (λ (list : List Html). page_part rooms (world_of state) plan val index ∷ list)
        (parts_are pages (index + 1) facts both.1 right.1)

pub parts_tell : (state : State) (fact : Fact) (plan : Plan) (facts : List Fact) → IsRightPlan meaning state fact
    → (arc_value fact.plan).value ≡ Ok plan → ArePartsOfPlan meaning state fact.key plan facts
    → PartsTell dita state fact.key plan facts
unfolding clean_build
parts_tell state fact plan facts right is all =
    let world = world_of state in
    let planned = right.right.sound.plan world right.right.agrees.plan ∙ is in
    ap (build_by rooms total_limit world fact.key.val) planned
    ∙ ap (build_of total_limit plan)
    (sym (parts_are state fact.key.map fact.key.val plan planned plan.pages 0 facts all.keys all.right))
    ∙ sym (outcome_same plan facts)

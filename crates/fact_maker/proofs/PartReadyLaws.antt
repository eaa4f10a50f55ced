-- What a plan that is ready gives to those who make its parts.
use Rattle.std.specs.Prelude.{◌≡◌, ◌<◌, ℕ, List, IsTrue, Option, Result, Ok, Err, IfOk, length}
use Rattle.std.specs.Arc.{arc_value}
use Rattle.std.specs.Option.{option_copied}
use Rattle.std.proofs.Common.{sym, subst, ◌∙◌, arith}
use Rattle.std.proofs.Math.Logic.{∥∥₁_elim}
use Rattle.std.proofs.lemmas.Bool.Decides.{nat_tests}
use Rattle.clean_build.specs.declared.build_input.BuildInput.{BuildInput}
use Rattle.dita_doc.specs.Desk.{State}
use Rattle.dita_doc.specs.declared.fact.Part.{Part}
use Rattle.dita_doc.specs.declared.fact.Part.TheVariants as parts
use Rattle.dita_doc.specs.declared.plan.Plan.{Plan}
use Rattle.dita_doc.specs.declared.plan.PlanStop.{PlanStop}
use Rattle.dita_doc.specs.declared.stop.NoMemory.{NoMemory}
use Rattle.fact_judge.specs.Founded.{plan_documents}
use Rattle.fact_judge.specs.Judging.{AreTablesOf}
use Rattle.facts.specs.declared.fact.Fact.{Fact}
use Rattle.node_links.specs.NodeTable.{AreNodeLinks}
use Rattle.node_links.specs.declared.table.NodeLinks.{NodeLinks}
use Rattle.plan_reader.specs.Tables.{AreTables, AreTables-prop}
use Rattle.plan_reader.specs.declared.tables.PlanTables.{PlanTables}
use Rattle.reader_spec.specs.World.{world_of}
use Rattle.fact_maker.proofs.MakeLaws.{planned_of}
use Rattle.fact_maker.proofs.PropLaws.{planned_prop, right_prop}
use Rattle.fact_maker.specs.Findings.{GoOn}
use Rattle.fact_maker.specs.Made.{IsRightOf}
use Rattle.fact_maker.specs.Parts.{has_html, has_part}
use Rattle.fact_maker.specs.Planned.{IsPlanned}
use Rattle.fact_maker.specs.Ready.{FindingsGoOn, HasAgreed, IsGround, IsReady}
use Rattle.fact_maker.specs.declared.findings.Findings.{Findings}
use Rattle.fact_maker.specs.declared.html_made.HtmlMade.{HtmlMade}

one_plan : (value : Result Plan PlanStop) (one other : Plan) → value ≡ Ok one → value ≡ Ok other → one ≡ other
one_plan value one other first second = cc

module _ {sources : State} {fact : Fact} {tables : PlanTables} {links : NodeLinks}
    (ready : IsReady sources fact tables links) where
  pub planned_ready : IsPlanned sources fact.key.map fact.key.val (arc_value fact.plan)
  planned_ready = ∥∥₁_elim ready (planned_prop _ _ _ _) (λ r. planned_of sources fact r.agreed.sound r.agreed.agrees)

  module _ (plan : Plan) (is : (arc_value fact.plan).value ≡ Ok plan) where
    pub tables_ready : AreTables (world_of sources) plan.nodes plan.documents plan.pages tables
    tables_ready = ∥∥₁_elim ready (AreTables-prop _ _ _ _ _) (λ r.
        subst (λ (p : Plan). AreTables (world_of sources) p.nodes p.documents p.pages tables)
        (one_plan (arc_value fact.plan).value r.plan plan r.is is) r.ready.tabled)

    pub links_ready : ∥ AreNodeLinks (world_of sources) plan links ∥₁
    links_ready = ∥∥₁_elim ready (hlevel) (λ r. ∣ subst (λ (p : Plan). AreNodeLinks (world_of sources) p links)
        (one_plan (arc_value fact.plan).value r.plan plan r.is is) r.ready.linked ∣₁)

  pub right_ready : (part : Part) (result : Result HtmlMade NoMemory)
      → (HasAgreed sources fact → IfOk result (λ made. IsRightOf sources fact part made.html made.asked))
      → IfOk result (λ made. IsRightOf sources fact part made.html made.asked)
  right_ready part (Ok made) right = ∥∥₁_elim ready (right_prop _ _ _ _ _ _ _) (λ r. right r.agreed)
  right_ready part (Err stop) right = tt

-- What goes on

pub goes_from : (sources : State) (fact : Fact) (plan : Plan) (findings : Findings)
    → (arc_value fact.plan).value ≡ Ok plan → FindingsGoOn sources fact findings
    → GoOn (world_of sources) plan.documents findings
goes_from sources fact plan findings is goes =
    subst (λ (value : Result Plan PlanStop). GoOn (world_of sources) (plan_documents value) findings) is goes

pub goes_back : (sources : State) (fact : Fact) (plan : Plan) (findings : Findings)
    → (arc_value fact.plan).value ≡ Ok plan → GoOn (world_of sources) plan.documents findings
    → FindingsGoOn sources fact findings
goes_back sources fact plan findings is goes =
    subst (λ (value : Result Plan PlanStop). GoOn (world_of sources) (plan_documents value) findings) (sym is) goes

-- Which parts have HTML

pub page_within : (value : Result Plan PlanStop) (plan : Plan) (part : Part) (index : ℕ) → value ≡ Ok plan
    → part ≡ parts.Page index → IsTrue (has_html value part) → index < length plan.pages
page_within value plan part index is page has =
    let there : IsTrue (has_html (Ok plan) (parts.Page index)) =
    subst (λ (p : Part). IsTrue (has_html (Ok plan) p)) page
    (subst (λ (v : Result Plan PlanStop). IsTrue (has_html v part)) is has) in
    grind (arith, nat_tests, there)

pub no_html_of_plan : (value : Result Plan PlanStop) (part : Part) → part ≡ parts.Plan → IsTrue (has_html value part) → ⊥
no_html_of_plan value part is has =
    let there : IsTrue (has_html value parts.Plan) = subst (λ (p : Part). IsTrue (has_html value p)) is has in
    absurd (cc)

pub html_of_page : (value : Result Plan PlanStop) (part : Part) (index : ℕ) → part ≡ parts.Page index
    → IsTrue (has_part value part) → IsTrue (has_html value part)
html_of_page value part index is has = subst (λ (p : Part). IsTrue (has_html value p)) (sym is)
    (subst (λ (p : Part). IsTrue (has_part value p)) is has)

pub html_of_contents : (value : Result Plan PlanStop) (part : Part) → part ≡ parts.Contents
    → IsTrue (has_part value part) → IsTrue (has_html value part)
html_of_contents value part is has = subst (λ (p : Part). IsTrue (has_html value p)) (sym is)
    (subst (λ (p : Part). IsTrue (has_part value p)) is has)

-- A judge by these tables

pub tables_judged : {sources : State} {fact : Fact} {tables : PlanTables} {links : NodeLinks}
    → IsReady sources fact tables links → AreTablesOf (world_of sources) fact.key.map fact.key.val tables
tables_judged {sources} ready = let planned = planned_ready ready in record {
  each = λ plan is. tables_ready ready plan (sym (planned.fixed (world_of sources) planned.agrees) ∙ is);
}

-- The same of what was handed on

module _ {sources : State} {fact : Fact} {tables : PlanTables} {links : NodeLinks}
    (ready : IsReady sources fact tables links) where
  module _ (plan : Plan) (is : (arc_value fact.plan).value ≡ Ok plan) (state : State) (over : state ≡ sources) where
    pub tables_at : (handed : PlanTables) → handed ≡ tables
        → AreTables (world_of state) plan.nodes plan.documents plan.pages handed
    tables_at handed same =
        subst (λ (s : State). AreTables (world_of s) plan.nodes plan.documents plan.pages handed) (sym over)
        (subst (AreTables (world_of sources) plan.nodes plan.documents plan.pages) (sym same) (tables_ready ready plan is))

    pub links_at : ∥ AreNodeLinks (world_of state) plan links ∥₁
    links_at = subst (λ (s : State). ∥ AreNodeLinks (world_of s) plan links ∥₁) (sym over) (links_ready ready plan is)

  -- the part that is made of this ground is right
  pub right_at : (ground : BuildInput) → ground.map.now ≡ fact.key.map → option_copied ground.val ≡ fact.key.val
      → (arc_value fact.plan).value ≡ Ok ground.plan.now → (state : State) → state ≡ sources → (part wanted : Part)
      → wanted ≡ part → (result : Result HtmlMade NoMemory)
      → ((of : Fact) → IsGround state of ground → IfOk result (λ made. IsRightOf state of part made.html made.asked))
      → IfOk result (λ made. IsRightOf sources fact wanted made.html made.asked)
  right_at ground map val plan state over part wanted same result right =
      subst (λ (p : Part). IfOk result (λ made. IsRightOf sources fact p made.html made.asked)) (sym same)
      (right_ready ready part result (λ agreed. subst (λ (s : State). (of : Fact) → IsGround s of ground
      → IfOk result (λ made. IsRightOf s of part made.html made.asked)) over right fact
      (record { map = map; val = val; plan = plan; agreed = agreed })))

  pub judged_at : (state : State) (map : List ℕ) (val : Option (List ℕ)) (handed : PlanTables) → state ≡ sources
      → map ≡ fact.key.map → val ≡ fact.key.val → handed ≡ tables → AreTablesOf (world_of state) map val handed
  judged_at state map val handed over mapped valued same =
      subst (λ (s : State). AreTablesOf (world_of s) map val handed) (sym over)
      (subst (λ (m : List ℕ). AreTablesOf (world_of sources) m val handed) (sym mapped)
      (subst (λ (v : Option (List ℕ)). AreTablesOf (world_of sources) fact.key.map v handed) (sym valued)
      (subst (AreTablesOf (world_of sources) fact.key.map fact.key.val) (sym same) (tables_judged ready))))

-- What is found once for a plan is right over the sources where it is found.
use Rattle.std.specs.Prelude.{◌≡◌, ℕ, List, Result, Ok, IfOk}
use Rattle.std.specs.Arc.{arc_value}
use Rattle.std.proofs.Common.{sym, ap, subst, ◌∙◌}
use Rattle.clean_build.proofs.PlanLaws.{IsPlanIn, plan_facts}
use Rattle.dita_doc.specs.Desk.{State}
use Rattle.dita_doc.specs.declared.plan.PagePlan.{PagePlan}
use Rattle.dita_doc.specs.declared.plan.Plan.{Plan}
use Rattle.dita_doc.specs.declared.plan.PlanNode.{PlanNode}
use Rattle.dita_doc.specs.declared.stop.NoMemory.{NoMemory}
use Rattle.fact_judge.specs.Agreed.{PlanAnswers}
use Rattle.fact_judge.specs.Sound.{IsSound}
use Rattle.facts.specs.declared.fact.Fact.{Fact}
use Rattle.facts.specs.declared.fact.PlanFact.{PlanFact}
use Rattle.node_links.specs.NodeTable.{AreNodeLinks}
use Rattle.node_links.specs.declared.table.NodeLinks.{NodeLinks}
use Rattle.plan_nodes.specs.Carried.{CarryScopes, CarryValues}
use Rattle.plan_nodes.specs.Preorder.{IsTree}
use Rattle.plan_reader.specs.Tables.{AreTables}
use Rattle.plan_reader.specs.declared.tables.PlanTables.{PlanTables}
use Rattle.reader_spec.specs.World.{World, world_of}
use Rattle.readers.specs.Told.{Agrees, Told}
use Rattle.reltable_links.specs.RowTable.{CanLink}
use Rattle.fact_maker.specs.Ready.{AreReady, IsReady}

-- the tables that a reader finds
pub tables_found : (here there : World) (nodes : List PlanNode) (documents : List (List ℕ)) (pages : List PagePlan)
    (result : Result PlanTables NoMemory) → there ≡ here → IsTree nodes → CarryValues here nodes → CarryScopes nodes
    → (IsTree nodes → CarryValues there nodes → CarryScopes nodes
    → IfOk result (λ tables. AreTables there nodes documents pages tables))
    → IfOk result (λ tables. AreTables here nodes documents pages tables)
tables_found here there nodes documents pages result same tree values scopes found =
    subst (λ (world : World). IfOk result (λ tables. AreTables world nodes documents pages tables)) same
    (found tree (subst (λ (world : World). CarryValues world nodes) (sym same) values) scopes)

-- the links that a reader finds
pub links_found : (here there : World) (plan : Plan) (pages : List PagePlan) (told : List Told)
    (result : Result NodeLinks NoMemory) → there ≡ here → pages ≡ plan.pages → IsTree plan.nodes
    → CarryValues here plan.nodes → Agrees there told
    → ((world : World) → Agrees world told → CanLink world plan pages → IfOk result (AreNodeLinks world plan))
    → IfOk result (AreNodeLinks here plan)
links_found here there plan pages told result same known tree values agrees found =
    found here (subst (λ (world : World). Agrees world told) same agrees)
    (record { tree = tree; values = values; pages = known })

-- the plan of a fact over sources with which it agrees
pub plan_in_fact : (fact : Fact) (plan : PlanFact) (value : Plan) → plan ≡ arc_value fact.plan → plan.value ≡ Ok value
    → (arc_value fact.plan).value ≡ Ok value
plan_in_fact fact plan value same is = ap (λ (p : PlanFact). p.value) (sym same) ∙ is

pub known_here : (sources : State) (fact : Fact) (plan : Plan) → IsSound fact
    → PlanAnswers (arc_value fact.plan) (world_of sources) → (arc_value fact.plan).value ≡ Ok plan
    → IsPlanIn (world_of sources) plan
known_here sources fact plan sound agrees is =
    plan_facts (world_of sources) fact.key.map fact.key.val plan (sound.plan (world_of sources) agrees ∙ is)

-- and so the plan of the fact is ready, wherever the sources, the fact and the tables are kept
pub is_ready : (sources kept_sources : State) (fact kept_fact : Fact) (plan : Plan) (tables kept_tables : PlanTables)
    (links : NodeLinks) → kept_sources ≡ sources → kept_fact ≡ fact → kept_tables ≡ tables → IsSound fact
    → PlanAnswers (arc_value fact.plan) (world_of sources) → (arc_value fact.plan).value ≡ Ok plan
    → AreReady sources plan tables links → IsReady kept_sources kept_fact kept_tables links
is_ready sources kept_sources fact kept_fact plan tables kept_tables links state same table sound agrees is ready =
    subst (λ (s : State). IsReady s kept_fact kept_tables links) (sym state)
    (subst (λ (f : Fact). IsReady sources f kept_tables links) (sym same)
    (subst (λ (t : PlanTables). IsReady sources fact t links) (sym table)
    ∣ record { plan = plan; is = is; agreed = record { sound = sound; agrees = agrees }; ready = ready } ∣₁))

-- The tables of the plan there, and the answers that they give.
use Rattle.std.proofs.Common.{◌≡◌, ◌<◌, ◌∙◌, ℕ, List, Bool, true, false, Option, Some, Result, Ok, length, map, refl, ap, sym, subst}
use Rattle.std.proofs.Math.Logic.{∥∥₁_elim}
use Rattle.std.specs.Arc.{arc_value}
use Rattle.std.specs.Bool.{Decides}
use Rattle.std.specs.declared.alloc.Global.{Global}
use Rattle.std.specs.declared.sync.Arc.{Arc}
use Rattle.std.specs.Coded.{Coded, Coded-set, coded_ℕ}
use Rattle.std.proofs.lemmas.Bool.Decides.{Decides-like}
use Rattle.dita_doc.specs.declared.content.KeyAnswer.{KeyAnswer}
use Rattle.dita_doc.specs.declared.content.Push.{Push}
use Rattle.dita_doc.specs.declared.content.PushList.{PushList}
use Rattle.dita_doc.specs.declared.fault.Fault.{Fault}
use Rattle.dita_doc.specs.declared.plan.Plan.{Plan}
use Rattle.dita_doc.specs.declared.plan.PlanNode.{PlanNode}
use Rattle.dita_doc.specs.declared.plan.PlanStop.{PlanStop}
use Rattle.dita_doc.specs.Desk.{State}
use Rattle.build_plan.proofs.ReadyLaws.{nodes_ready}
use Rattle.fact_judge.specs.Judging.{AreTablesOf, HasTablesOf}
use Rattle.fact_judge.proofs.StoodLaws.{tells_value}
use Rattle.facts.specs.Judged.{Tells}
use Rattle.key_scopes.specs.Table.{Table}
use Rattle.map_spec.specs.PlanOf.{limits, plan_of}
use Rattle.map_spec.specs.Scopes.{scopes}
use Rattle.map_spec.specs.Written.{Whole}
use Rattle.plan_nodes.specs.Carried.{CarryScopes, CarryValues}
use Rattle.plan_nodes.specs.Preorder.{IsTree}
use Rattle.plan_reader.specs.Keyed.{AreKeyed}
use Rattle.plan_reader.specs.Tables.{AreTables}
use Rattle.plan_reader.specs.declared.tables.PlanTables.{PlanTables}
use Rattle.reader_spec.specs.World.{World, world_of}

-- The tables that were made of the plan there

plan_same : (one other : Plan) (found : Result Plan PlanStop) → found ≡ Ok one → found ≡ Ok other → one ≡ other
plan_same one other found is same = cc

pub tables_of_plan : (world there : World) (map : List ℕ) (val : Option (List ℕ)) (plan : Plan) (tables : PlanTables)
    → there ≡ world → plan_of limits world map val ≡ Ok plan
    → (IsTree plan.nodes → CarryValues there plan.nodes → CarryScopes plan.nodes
    → AreTables there plan.nodes plan.documents plan.pages tables)
    → AreTablesOf world map val tables
tables_of_plan world there map val plan tables same is made =
    let ready = nodes_ready limits world map val plan is in
    let own : AreTables world plan.nodes plan.documents plan.pages tables =
    subst (λ w. IsTree plan.nodes → CarryValues w plan.nodes → CarryScopes plan.nodes
    → AreTables w plan.nodes plan.documents plan.pages tables) same made ready.tree ready.values ready.scopes in
    record {
      each = λ other found. subst (λ (p : Plan). AreTables world p.nodes p.documents p.pages tables)
          (plan_same plan other (plan_of limits world map val) is found) own;
    }

-- the tables that a judge has are those of the plan there, over sources that stayed
pub tables_there : (old new here : State) (map own_map : List ℕ) (val own_val : Option (List ℕ))
    (tables : Option (Arc PlanTables Global)) (found : Arc PlanTables Global) (plan : Plan) (own : PlanTables)
    → new ≡ old → own_map ≡ map → own_val ≡ val → here ≡ new → own ≡ arc_value found → tables ≡ Some found
    → HasTablesOf (world_of new) own_map own_val tables → plan_of limits (world_of old) map val ≡ Ok plan
    → AreTables (world_of here) plan.nodes plan.documents plan.pages own
tables_there old new here map own_map val own_val tables found plan own same maps vals at owned is has there =
    let moved : plan_of limits (world_of new) own_map own_val ≡ Ok plan =
    (λ i. plan_of limits (world_of (same i)) (maps i) (vals i)) ∙ there in
    let are : AreTables (world_of new) plan.nodes plan.documents plan.pages (arc_value found) =
    (subst (HasTablesOf (world_of new) own_map own_val) is has).each plan moved in
    subst (λ s. AreTables (world_of s) plan.nodes plan.documents plan.pages own) (sym at)
    (subst (AreTables (world_of new) plan.nodes plan.documents plan.pages) (sym owned) are)

-- Keys

-- the table has the scopes
pub scope_count : (world : World) (nodes : List PlanNode) (homes : List (Option Whole)) (table : Table)
    → AreKeyed world nodes homes table → length table.scopes ≡ length (scopes nodes)
scope_count world nodes homes table keyed =
    ∥∥₁_elim keyed.tabled (Coded-set coded_ℕ _ _) (λ is. ap length is.scopes)

pub tells_key : (r : Bool) (scope count : ℕ) (value given x : KeyAnswer) → scope < count → value ≡ given
    → Decides r (given ≡ x) → Tells r ((scope < count) × (value ≡ x))
tells_key true scope count value given x low is decides = (low, is ∙ decides.0 refl)
tells_key false scope count value given x low is decides = λ both.
    let clash : false ≡ true = decides.1 (sym is ∙ both.1) in absurd (cc)

-- The pushes into a document: they differ, or else the faults decide

abbrev given_list : List Push → List Fault → PushList
given_list pushes faults = record { pushes = pushes; faults = faults }

pub tells_faults : (r t s : Bool) (value given : PushList) (pushes : List Push) (faults : List Fault) → r ≡ s → t ≡ true
    → given ≡ value → Decides t (given.pushes ≡ pushes) → Decides s (given.faults ≡ faults)
    → Tells r (value ≡ given_list pushes faults)
tells_faults r t s value given pushes faults same alike is one other =
    subst (λ b. Tells b (value ≡ given_list pushes faults)) (sym same)
    (tells_value s value given (given_list pushes faults) (sym is) (Decides-like s
    (λ (e : given.faults ≡ faults). λ i. record { pushes = one.0 alike i; faults = e i })
    (λ e. ap (λ (x : PushList). x.faults) e) other))

pub tells_pushes : (r t : Bool) (value given : PushList) (pushes : List Push) (faults : List Fault) → r ≡ false
    → t ≡ false → given ≡ value → Decides t (given.pushes ≡ pushes) → Tells r (value ≡ given_list pushes faults)
tells_pushes r t value given pushes faults same differ is one =
    subst (λ b. Tells b (value ≡ given_list pushes faults)) (sym same)
    (λ e. let alike : t ≡ true = one.1 (ap (λ (x : PushList). x.pushes) (is ∙ e)) in absurd (cc))

-- The tables of a plan as they are made, and how they go on to be known.
use Rattle.std.specs.Prelude.{◌≡◌, ℕ, List, []}
use Rattle.std.proofs.Common.{sym, subst}
use Rattle.build_plan.proofs.CarryLaws.{ready_later}
use Rattle.conref_push.specs.Table.{IsPushTable}
use Rattle.dita_doc.specs.declared.plan.PagePlan.{PagePlan}
use Rattle.dita_doc.specs.declared.plan.Plan.{Plan}
use Rattle.key_layer.specs.Ready.{AreReady}
use Rattle.key_scopes.specs.Made.{IsTableOf}
use Rattle.page_table.specs.Pages.{IsPageTable}
use Rattle.readers.specs.Founded.{AreAllowed, Grows, IsFounded}
use Rattle.readers.specs.Noted.{told_onto}
use Rattle.readers.specs.Setting.{Setting}
use Rattle.readers.specs.Told.{Told, Knows}
use Rattle.readers.specs.declared.questions.Note.{Note}
use Rattle.readers.proofs.GrowthLaws.{agrees_before}
use Rattle.whole_calls.specs.Tables.{AreTables}
use Rattle.whole_calls.specs.declared.build_tables.BuildTables.{BuildTables}

-- what a record of it takes, by the lists that were read
pub tables_made : (old told : List Told) (plan : Plan) (asked : List (List ℕ)) (listed : List PagePlan)
    (tables : BuildTables) → asked ≡ plan.documents → listed ≡ plan.pages → Grows old told
    → AreReady old plan.nodes tables.homes → Knows old (λ world. ∥ IsTableOf world plan.nodes tables.scopes ∥₁)
    → Knows told (λ world. IsPushTable world asked tables.pushes)
    → ((roots : List (List ℕ)) → IsFounded roots told → AreAllowed roots told asked)
    → IsPageTable listed tables.pages → AreTables told plan tables
tables_made old told plan asked listed tables same listing grows ready scoped pushed allowed paged = record {
  ready = ready_later old told plan.nodes tables.homes grows ready;
  scoped = λ world agrees. scoped world (agrees_before world old told grows agrees);
  pushed = λ world agrees. subst (λ names. IsPushTable world names tables.pushes) same (pushed world agrees);
  paged = subst (λ all. IsPageTable all tables.pages) listing paged;
  given = record { by = λ roots founded. subst (AreAllowed roots told) same (allowed roots founded) };
}

-- nothing was noted since
pub tables_noted : (setting : Setting) (told : List Told) (notes : List Note) (plan : Plan) (tables : BuildTables)
    → notes ≡ [] → AreTables told plan tables → AreTables (told_onto setting told notes) plan tables
tables_noted setting told notes plan tables none are =
    subst (λ all. AreTables (told_onto setting told all) plan tables) (sym none) are

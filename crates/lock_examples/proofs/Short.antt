-- Desks in a short form: a gate that is open, with a book at home, and two parties.
use Rattle.std.proofs.Common.{◌≡◌, ℕ, zero, suc, List, [], ◌∷◌, Option, Some, refl, sym, subst}
use mathlib.Core.Option.{some, none, some-injective, some-ne-none}
use lib.ListN.{get_elem?}
use Rattle.atomic_table.specs.Table.{State}
use Rattle.desk_core.specs.Book.{BookData}
use Rattle.desk_core.specs.declared.limits.Limits.{Limits}
use Rattle.desk_lock.specs.declared.view.View.{View}

abbrev pub small : Limits
small = record { entries = 16; text_bytes = 1000; table_bytes = 1000 }

abbrev pub open_desk : BookData → List View → State (Option BookData) View
open_desk book views = record { words = 0 ∷ []; homes = some (Some book) ∷ []; views = views }

abbrev pub shut_desk : BookData → List View → State (Option BookData) View
shut_desk book views = record { words = 1 ∷ []; homes = some (Some book) ∷ []; views = views }

-- what holds of both parties holds of each
pub of_two : (Fact : View → Type 0) (first second : View) → Fact first → Fact second
    → (by : ℕ) (v : View) → get_elem? (first ∷ second ∷ []) by ≡ some v → Fact v
of_two Fact first second one two zero v e = subst Fact (some-injective first v e) one
of_two Fact first second one two (suc zero) v e = subst Fact (some-injective second v e) two
of_two Fact first second one two (suc (suc by)) v e = absurd (some-ne-none v (sym e))

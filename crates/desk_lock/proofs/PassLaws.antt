-- A token may try the gate. Behind a join it may be used, and has seen the longer of both histories.
use Rattle.std.proofs.Common.{◌≡◌, ℕ, ◌≤◌, List, [], Option, refl, sym, ap, ◌∙◌, subst, ⊎_elim, arith, length, eqb}
use Rattle.std.proofs.lemmas.List.{append-nil}
use prog.Atomic.{either}
use Rattle.atomic_table.specs.Table.{Allows, Me}
use Rattle.dita_doc.specs.History.{Entry}
use Rattle.desk_core.specs.Book.{BookData}
use Rattle.desk_lock.specs.Calls.{Joins}
use Rattle.desk_lock.specs.Knows.{both, longer, settled, shorter}
use Rattle.desk_lock.specs.Lists.{StartsWith}
use Rattle.desk_lock.specs.Rule.{RuleKept}
use Rattle.desk_lock.specs.Steps.{Compares, Tries}
use Rattle.desk_lock.specs.Tokens.{IsIdle}
use Rattle.desk_lock.specs.declared.view.View.{View}
use Rattle.desk_lock.proofs.GateLaws.{tries}
use Rattle.desk_lock.proofs.JoinLaws.{compares, longer_cases}

-- a token may try the gate
pub idle_tries : {B : Type 0} (shown : B → BookData) (slots by : ℕ) (me : Me (Option B) View) → IsIdle me
    → Allows (RuleKept shown) slots by me 0 (λ n. either (eqb n 0) 1 n) (Tries shown me)
idle_tries {B} shown slots by me idle = subst
    (λ (carried : List (ℕ × Option B)). Allows (RuleKept shown) slots by (me.0, carried) 0 (λ n. either (eqb n 0) 1 n)
    (Tries shown (me.0, carried)))
    (sym idle.empty) (tries shown slots by me.0 idle.some_part)

-- Behind a join

short_within : (log other : List Entry) → length (shorter log other) ≤ length (longer log other)
short_within log other = ⊎_elim
    (λ first. let s : length (shorter log other) ≡ length other = ap (λ (l : List Entry). length l) first.1 in
    let l : length (longer log other) ≡ length log = ap (λ (l : List Entry). length l) first.0 in
    let within = first.2 in omega arith)
    (λ second. let s : length (shorter log other) ≡ length log = ap (λ (l : List Entry). length l) second.1 in
    let l : length (longer log other) ≡ length other = ap (λ (l : List Entry). length l) second.0 in
    let within = second.2 in omega arith)
    (longer_cases log other)

-- of the longer of two lists which begins with the shorter
longer_begins : (log other : List Entry) → StartsWith (longer log other) (shorter log other)
    → StartsWith (longer log other) log × StartsWith (longer log other) other
longer_begins log other starts = ⊎_elim
    (λ first. (
      subst (λ (l : List Entry). StartsWith l log) (sym first.0) ([], sym (append-nil log)),
      subst (λ (l : List Entry). StartsWith (longer log other) l) first.1 starts,
    ))
    (λ second. (
      subst (λ (l : List Entry). StartsWith (longer log other) l) second.1 starts,
      subst (λ (l : List Entry). StartsWith l other) (sym second.0) ([], sym (append-nil other)),
    ))
    (longer_cases log other)

-- a token that took in another
module _ {B : Type 0} (me other merged : Me (Option B) View) (idle : IsIdle me)
    (is : merged ≡ (both me.0 other.0, me.1)) where
  emptied : merged ≡ (both me.0 other.0, [])
  emptied = is ∙ ap (λ (carried : List (ℕ × Option B)). (both me.0 other.0, carried)) idle.empty

  -- it may look at the gate
  pub may_compare : (shown : B → BookData) (slots by : ℕ)
      → Allows (RuleKept shown) slots by merged 0 (λ n. n) (Compares merged)
  may_compare shown slots by =
      let some_part = idle.some_part in
      subst (λ (x : Me (Option B) View). Allows (RuleKept shown) slots by x 0 (λ n. n) (Compares x)) (sym emptied)
      (compares shown slots by (both me.0 other.0) (omega arith) idle.free (short_within me.0.seen other.0.seen))

  compared : (found : ℕ) (final : Me (Option B) View) → Compares merged found final
      → (final ≡ (settled (both me.0 other.0), []))
      × StartsWith (longer me.0.seen other.0.seen) (shorter me.0.seen other.0.seen)
  compared found final looked =
      subst (λ (x : Me (Option B) View). (final ≡ (settled x.0, x.1)) × StartsWith x.0.seen x.0.also) emptied looked

  pub merged_idle : (found : ℕ) (final : Me (Option B) View) → Compares merged found final → IsIdle final
  merged_idle found final looked =
      let some_part = idle.some_part in
      subst (λ (x : Me (Option B) View). IsIdle x) (sym (compared found final looked).0)
      (record { empty = refl; free = idle.free; some_part = omega arith; compared = refl })

  pub merged_joins : (found : ℕ) (final : Me (Option B) View) → Compares merged found final
      → Joins me.0 other.0 final.0
  merged_joins found final looked =
      let told = compared found final looked in
      let begins = longer_begins me.0.seen other.0.seen told.1 in
      subst (λ (x : Me (Option B) View). Joins me.0 other.0 x.0) (sym told.0)
      (record { knows = refl; later = begins.0; too = begins.1 })

-- The faults of rows: of each node once, or row by row, they are the same faults.
use Rattle.std.specs.Prelude.{◌≡◌, ◌==◌, ◌&&◌, ℕ, zero, suc, Bool, true, false, not, List, [], ◌∷◌, ◌++◌, Option, Some, None, filter, is_some, length, slice_get, if◌then◌else◌}
use Rattle.std.specs.List.{flat_map}
use Rattle.std.proofs.Common.{refl, sym, ap, subst, ◌∙◌, append-nil, arith}
use Rattle.std.proofs.Math.Logic.{⊎_elim}
use Rattle.std.proofs.lemmas.Bool.{and_from, and_parts, true≢false}
use Rattle.std.proofs.lemmas.Bool.Decides.{nat_tests}
use Rattle.std.proofs.lemmas.Map.Keys.{any_passes_from_place}
use Rattle.dita_doc.specs.declared.fault.Fault.{Fault}
use Rattle.dita_doc.specs.declared.plan.PagePlan.{PagePlan}
use Rattle.dita_doc.specs.declared.plan.Plan.{Plan}
use Rattle.fault_report.specs.Report.{IsAmong}
use Rattle.map_spec.specs.Pages.{local_name}
use Rattle.map_spec.specs.Scopes.{places}
use Rattle.link_spec.specs.Links.{cell_of, has_page, lost_in, row_faults, rows, plan_target}
use Rattle.reltable_links.proofs.ListLaws.{any_where}
use Rattle.reltable_links.specs.CellTable.{is_below, is_lost, is_lost_below}
use Rattle.reltable_links.specs.RowTable.{cell_faults, lost_fault}
use Rattle.clean_build.specs.Gathering.{AreAsGood, faults_before, faults_of_each}
use Rattle.clean_build.proofs.GatheredLaws.{among_first, among_parts, among_second}

-- a fault of what one of some numbers gives
record IsGiven (give : ℕ → List Fault) (numbers : List ℕ) (fault : Fault) : Type 0 where
  pub at : ℕ
  pub number : ℕ
  pub is : slice_get numbers at ≡ Some number
  pub among : IsAmong fault (give number)

given_by : (give : ℕ → List Fault) (numbers : List ℕ) (fault : Fault) → IsAmong fault (flat_map give numbers)
    → IsGiven give numbers fault
given_by give [] fault among = absurd among
given_by give (first ∷ numbers) fault among = ⊎_elim
    (λ (here : IsAmong fault (give first)). let found : IsGiven give (first ∷ numbers) fault =
    record { at = 0; number = first; is = refl; among = here } in found)
    (λ (behind : IsAmong fault (flat_map give numbers)).
    let there = given_by give numbers fault behind in
    let found : IsGiven give (first ∷ numbers) fault =
    record { at = suc there.at; number = there.number; is = there.is; among = there.among } in found)
    (among_parts fault (give first) (flat_map give numbers) among)

gives : (give : ℕ → List Fault) (numbers : List ℕ) (fault : Fault) (at number : ℕ)
    → slice_get numbers at ≡ Some number → IsAmong fault (give number) → IsAmong fault (flat_map give numbers)
gives give [] fault zero number is among = cc
gives give [] fault (suc at) number is among = cc
gives give (first ∷ numbers) fault zero number is among =
    let same : number ≡ first = cc in
    among_first fault (give first) (flat_map give numbers) (subst (λ n. IsAmong fault (give n)) same among)
gives give (first ∷ numbers) fault (suc at) number is among =
    among_second fault (give first) (flat_map give numbers) (gives give numbers fault at number is among)

-- one that stays passes the test, and one that passes it stays
record IsKept (test : ℕ → Bool) (numbers : List ℕ) (number : ℕ) : Type 0 where
  pub at : ℕ
  pub is : slice_get numbers at ≡ Some number
  pub holds : test number ≡ true

kept_from : (test : ℕ → Bool) (numbers : List ℕ) (at number : ℕ) → slice_get (filter test numbers) at ≡ Some number
    → IsKept test numbers number
kept_from test [] zero number is = cc
kept_from test [] (suc at) number is = cc
kept_from test (first ∷ numbers) at number is =
    by_test (test first) refl at is (λ left. kept_from test numbers left number)
  where
    behind : IsKept test numbers number → IsKept test (first ∷ numbers) number
    behind there = record { at = suc there.at; is = there.is; holds = there.holds }

    by_test : (b : Bool) → test first ≡ b → (k : ℕ)
        → slice_get (if b then first ∷ filter test numbers else filter test numbers) k ≡ Some number
        → ((left : ℕ) → slice_get (filter test numbers) left ≡ Some number → IsKept test numbers number)
        → IsKept test (first ∷ numbers) number
    by_test true e zero same more =
        let one : first ≡ number = cc in
        record { at = 0; is = same; holds = ap test (sym one) ∙ e }
    by_test true e (suc k) same more = behind (more k same)
    by_test false e k same more = behind (more k same)

-- where one that stays stands
record IsThere (numbers : List ℕ) (number : ℕ) : Type 0 where
  pub at : ℕ
  pub is : slice_get numbers at ≡ Some number

stays : (test : ℕ → Bool) (numbers : List ℕ) (at number : ℕ) → slice_get numbers at ≡ Some number
    → test number ≡ true → IsThere (filter test numbers) number
stays test [] zero number is holds = cc
stays test [] (suc at) number is holds = cc
stays test (first ∷ numbers) zero number is holds =
    let same : first ≡ number = cc in
    let kept : test first ≡ true = ap test same ∙ holds in rw kept (record { at = 0; is = is })
stays test (first ∷ numbers) (suc at) number is holds =
    by_test (test first) refl (stays test numbers at number is holds)
  where
    by_test : (b : Bool) → test first ≡ b → IsThere (filter test numbers) number
        → IsThere (if b then first ∷ filter test numbers else filter test numbers) number
    by_test true e there = record { at = suc there.at; is = there.is }
    by_test false e there = there

module _ (plan : Plan) (fault : Fault) where
  -- a fault of a node has a document that it leads to
  named : (at : ℕ) → IsAmong fault (lost_fault plan at) → is_some (local_name (plan_target plan at)) ≡ true
  named at among = by_name (local_name (plan_target plan at)) refl among
    where
      by_name : (name : Option (List ℕ)) → local_name (plan_target plan at) ≡ name
          → IsAmong fault (lost_fault plan at) → is_some (local_name (plan_target plan at)) ≡ true
      by_name None e is = let none : lost_fault plan at ≡ [] = rw e refl in
          absurd (subst (IsAmong fault) none is)
      by_name (Some name) e is = ap is_some e

  record IsLost (row at : ℕ) : Type 0 where
    pub below : is_some (cell_of plan row at) ≡ true
    pub lost : is_lost plan at ≡ true
    pub among : IsAmong fault (lost_fault plan at)

  lost_from : (row at : ℕ) → IsAmong fault (lost_in plan row at) → IsLost row at
  lost_from row at among = by_test (is_some (cell_of plan row at) && not (has_page plan at)) refl among
    where
      by_test : (b : Bool) → (is_some (cell_of plan row at) && not (has_page plan at)) ≡ b
          → IsAmong fault (if b then lost_fault plan at else []) → IsLost row at
      by_test true e is =
          let parts = and_parts (is_some (cell_of plan row at)) (not (has_page plan at)) e in record {
            below = parts.0;
            lost = and_from (is_some (local_name (plan_target plan at))) (not (has_page plan at)) (named at is) parts.1;
            among = is;
          }
      by_test false e is = absurd is

  lost_again : (row at : ℕ) → is_some (cell_of plan row at) ≡ true → is_lost plan at ≡ true
      → IsAmong fault (lost_fault plan at) → IsAmong fault (lost_in plan row at)
  lost_again row at below lost among =
      let parts = and_parts (is_some (local_name (plan_target plan at))) (not (has_page plan at)) lost in
      let both = and_from (is_some (cell_of plan row at)) (not (has_page plan at)) below parts.1 in
      subst (λ b. IsAmong fault (if b then lost_fault plan at else [])) (sym both) among

  rows_to_cells : IsAmong fault (row_faults plan) → IsAmong fault (cell_faults plan)
  rows_to_cells among =
      let in_row = given_by (λ row. flat_map (lost_in plan row) (places plan.nodes)) (rows plan) fault among in
      let node = given_by (lost_in plan in_row.number) (places plan.nodes) fault in_row.among in
      let lost = lost_from in_row.number node.number node.among in
      let below = any_passes_from_place (λ row. is_some (cell_of plan row node.number))
      (rows plan) in_row.at in_row.number in_row.is
      lost.below in
      let kept = stays (is_lost_below plan) (places plan.nodes) node.at node.number node.is
      (and_from (is_below plan node.number) (is_lost plan node.number) below lost.lost) in
      gives (lost_fault plan) (filter (is_lost_below plan) (places plan.nodes)) fault kept.at node.number kept.is
      lost.among

  cells_to_rows : IsAmong fault (cell_faults plan) → IsAmong fault (row_faults plan)
  cells_to_rows among =
      let node = given_by (lost_fault plan) (filter (is_lost_below plan) (places plan.nodes)) fault among in
      let kept = kept_from (is_lost_below plan) (places plan.nodes) node.at node.number node.is in
      let both = and_parts (is_below plan node.number) (is_lost plan node.number) kept.holds in
      let row = any_where (λ r. is_some (cell_of plan r node.number)) (rows plan) both.0 in
      gives (λ r. flat_map (lost_in plan r) (places plan.nodes)) (rows plan) fault row.at row.item row.is
      (gives (lost_in plan row.item) (places plan.nodes) fault kept.at node.number kept.is
      (lost_again row.item node.number row.holds both.1 node.among))

pub rows_as_cells : (plan : Plan) → AreAsGood (cell_faults plan) (row_faults plan)
rows_as_cells plan = record { there = cells_to_rows plan; back = rows_to_cells plan }

-- What is gathered before any page

empty_is : (pages : List PagePlan) → (length pages == 0) ≡ true → pages ≡ []
empty_is [] is = refl
empty_is (page ∷ pages) is = absurd (grind (arith, nat_tests, is))

some_are : (pages : List PagePlan) (faults : List Fault) → (length pages == 0) ≡ false
    → faults_of_each pages faults ≡ faults
some_are [] faults is = absurd (true≢false is)
some_are (page ∷ pages) faults is = refl

-- without pages
pub before_none : (plan : Plan) (new : List Fault) → (length plan.pages == 0) ≡ true → AreAsGood new plan.faults
    → AreAsGood new (faults_before plan)
before_none plan new is good =
    let none : faults_of_each plan.pages (row_faults plan) ≡ [] =
    ap (λ (pages : List PagePlan). faults_of_each pages (row_faults plan)) (empty_is plan.pages is) in
    subst (AreAsGood new) (sym (ap (λ faults. plan.faults ++ faults) none ∙ append-nil plan.faults)) good

-- and with some
pub before_some : (plan : Plan) (new rows : List Fault) → (length plan.pages == 0) ≡ false → rows ≡ cell_faults plan
    → AreAsGood new (plan.faults ++ rows) → AreAsGood new (faults_before plan)
before_some plan new rows is are good =
    let each = some_are plan.pages (row_faults plan) is in
    let same = rows_as_cells plan in
    let cells : AreAsGood new (plan.faults ++ cell_faults plan) =
    subst (λ faults. AreAsGood new (plan.faults ++ faults)) are good in
    subst (λ faults. AreAsGood new (plan.faults ++ faults)) (sym each) (record {
      there = λ fault among. ⊎_elim (λ a. among_first fault plan.faults (row_faults plan) a)
          (λ b. among_second fault plan.faults (row_faults plan) (same.there fault b))
          (among_parts fault plan.faults (cell_faults plan) (cells.there fault among));
      back = λ fault among. cells.back fault (⊎_elim (λ a. among_first fault plan.faults (cell_faults plan) a)
          (λ b. among_second fault plan.faults (cell_faults plan) (same.back fault b))
          (among_parts fault plan.faults (row_faults plan) among));
    })

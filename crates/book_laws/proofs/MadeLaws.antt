-- Each event leaves a table that keeps what was published, but for the first rows.
use Rattle.std.proofs.Common.{◌≡◌, ◌+◌, ◌-◌, ◌<◌, ◌≤◌, ◌⊎◌, ℕ, List, [], ◌∷◌, ◌++◌, Some, Ok, Err, refl, sym, ap, subst, ◌∙◌, inl, inr, length, drop, take, slice_get, arith, length-append, append_assoc}
use Rattle.std.proofs.lemmas.Bool.Decides.{leb_tells}
use Rattle.std.proofs.lemmas.List.{append-nil, drop-append-le, drop-drop, length-drop}
use Rattle.std.proofs.lemmas.List.Sums.{sum_by-append, sum_by-take-drop}
use Rattle.std.proofs.lemmas.Option.{none-some}
use Rattle.dita_doc.specs.Desk.{State}
use Rattle.dita_doc.specs.History.{sources}
use Rattle.dita_doc.specs.declared.fact.FactKey.{FactKey}
use Rattle.dita_doc.specs.declared.stop.Stop.TheVariants.{Fault, NoMemory}
use Rattle.book_laws.specs.Made.{IsMade, row_published, rows_published}
use Rattle.desk_core.proofs.InvariantLaws.{new_holds, steps_hold}
use Rattle.desk_core.specs.Book.{BookData, new_book}
use Rattle.desk_core.specs.Events as events
use Rattle.desk_core.specs.Events.{Begun, Claimed, Ending, Event, Placed, Published, Released}
use Rattle.desk_core.specs.Invariant.{IsInOrder}
use Rattle.desk_core.specs.Steps.{AreSteps, EventDone, Steps, with_claim}
use Rattle.facts.proofs.Places.{IsEnd, gone_is, push_at}
use Rattle.facts.proofs.TableLaws.{left_ends, left_whole}
use Rattle.facts.specs.Latest.{ClaimAnswer, FactAgrees, Have, Taken, Yours, after_claim}
use Rattle.facts.specs.Rows.{RowData, Running, Stands}
use Rattle.facts.specs.Table.{TableData, left, made, new_table, published, released, row_of, size, with_row}
use Rattle.facts.specs.declared.fact.Fact.{Fact}

pub new_made : (limit : ℕ) → IsMade [] (new_table limit)
new_made limit = record {
  kept = refl;
  count = refl;
  over = λ low. absurd (omega arith);
  ranks = λ place row at. absurd (none-some row at);
}

-- A row is published

module _ (rows : List RowData) (table : TableData) (claim : Running) (fact : Fact) (is_made : IsMade rows table) where
  abbrev new_row : RowData
  new_row = row_of table claim fact

  abbrev all : List RowData
  all = with_row table claim fact

  abbrev end : IsEnd all (left table.limit all)
  end = left_ends table.limit all

  abbrev more : List RowData
  more = rows ++ new_row ∷ []

  dropped_few : table.dropped ≤ length rows
  dropped_few =
      let count : table.dropped + length table.rows ≡ length rows = is_made.count in
      omega arith

  all_is : all ≡ drop table.dropped more
  all_is = ap (λ kept. kept ++ new_row ∷ []) is_made.kept
      ∙ sym (drop-append-le table.dropped rows (new_row ∷ []) dropped_few)

  gone : length all - length (left table.limit all) ≡ end.gone
  gone = gone_is all (left table.limit all) end

  kept_now : left table.limit all ≡ drop (table.dropped + (length all - length (left table.limit all))) more
  kept_now = end.is ∙ ap (drop end.gone) all_is ∙ drop-drop end.gone table.dropped more
      ∙ ap (λ n. drop (table.dropped + n) more) (sym gone)

  left_few : length (left table.limit all) + end.gone ≡ length all
  left_few =
      let rest : length (left table.limit all) ≡ length all - end.gone = ap length end.is ∙ length-drop end.gone all in
      let within : end.gone ≤ length all = end.within in
      omega arith

  count_now : table.dropped + (length all - length (left table.limit all)) + length (left table.limit all)
      ≡ length more
  count_now =
      let few : length (left table.limit all) + end.gone ≡ length all = left_few in
      let longer : length all ≡ length table.rows + 1 = length-append table.rows (new_row ∷ []) in
      let count : table.dropped + length table.rows ≡ length rows = is_made.count in
      let longer_all : length more ≡ length rows + 1 = length-append rows (new_row ∷ []) in
      omega arith

  size_more : size more ≡ size rows + (0 + new_row.bytes)
  size_more = sum_by-append (λ (row : RowData). row.bytes) rows (new_row ∷ [])

  size_all : size all ≤ size more
  size_all =
      let parts : size (take table.dropped more) + size (drop table.dropped more) ≡ size more =
      sum_by-take-drop (λ (row : RowData). row.bytes) more table.dropped in
      let same : size all ≡ size (drop table.dropped more) = ap size all_is in
      omega arith

  over_now : 0 < table.dropped + (length all - length (left table.limit all)) → table.limit < size more
  over_now some = elim (leb_tells (size all) table.limit) [
    | inl within ↦
        let whole : length (left table.limit all) ≡ length all = ap length (left_whole table.limit all within.1) in
        let before : table.limit < size rows = is_made.over (omega arith) in
        let sum : size more ≡ size rows + (0 + new_row.bytes) = size_more in
        omega arith
    | inr above ↦
        let over : table.limit < size all = above.1 in
        let low : size all ≤ size more = size_all in
        omega arith
  ]

  rank_now : (place : ℕ) (row : RowData) → (slice_get rows place ≡ Some row) ⊎ ((place ≡ length rows) × (row ≡ new_row))
      → row.rank ≡ place + 1
  rank_now place row (inl at) = is_made.ranks place row at
  rank_now place row (inr new) =
      let rank : row.rank ≡ made table + 1 = ap (λ (r : RowData). r.rank) new.1 in
      let count : made table ≡ length rows = is_made.count in
      let last : place ≡ length rows = new.0 in
      omega arith

  pub published_made : IsMade more (published table claim fact)
  published_made = record {
    kept = kept_now;
    count = count_now;
    over = over_now;
    ranks = λ place row at. rank_now place row (push_at rows new_row row place at);
  }

-- Each event

abbrev IsMadeOf : List RowData → BookData → Type 0
IsMadeOf rows book = IsMade rows book.table

same_rows : (rows : List RowData) (old new : BookData) → new.table ≡ old.table → IsMadeOf rows old
    → IsMadeOf (rows ++ []) new
same_rows rows old new same is_made =
    subst (λ (rs : List RowData). IsMade rs new.table) (sym (append-nil rows)) (subst (IsMade rows) (sym same) is_made)

after_claim_made : (rows : List RowData) (old : TableData) (key : FactKey) (stamp : ℕ) (sources : State)
    (answer : ClaimAnswer) → IsMade rows old → IsMade rows (after_claim old key stamp sources answer)
after_claim_made rows old key stamp sources (Have row) is_made = is_made
after_claim_made rows old key stamp sources (Taken serial) is_made = is_made
after_claim_made rows old key stamp sources (Yours claim) is_made =
    record { kept = is_made.kept; count = is_made.count; over = is_made.over; ranks = is_made.ranks }

abbrev table_in : BookData → TableData
table_in book = book.table

step_made : (agrees : FactAgrees) (rows : List RowData) (old : BookData) (event : Event) (ending : Ending) (new : BookData)
    → Steps agrees old event ending new → IsMadeOf rows old → IsMadeOf (rows ++ row_published ending) new
step_made agrees rows old (events.Commit session number request) (Ok (Placed place reply)) new step is_made =
    same_rows rows old new (ap table_in step.asked.left) is_made
step_made agrees rows old (events.Commit session number request) (Err (Fault full)) new step is_made =
    same_rows rows old new (ap table_in step.same) is_made
step_made agrees rows old (events.Commit session number request) (Err NoMemory) new step is_made =
    same_rows rows old new (ap table_in step) is_made
step_made agrees rows old (events.Begin session number root val) (Ok (Begun place snapshot)) new step is_made =
    same_rows rows old new (ap table_in step.asked.left) is_made
step_made agrees rows old (events.Begin session number root val) (Err (Fault full)) new step is_made =
    same_rows rows old new (ap table_in step.same) is_made
step_made agrees rows old (events.Begin session number root val) (Err NoMemory) new step is_made =
    same_rows rows old new (ap table_in step) is_made
step_made agrees rows old (events.Claim key snapshot) (Ok (Claimed answer)) new step is_made =
    same_rows rows (with_claim key snapshot answer old) new (ap table_in step.left)
    (after_claim_made rows old.table key snapshot.stamp snapshot.state answer is_made)
step_made agrees rows old (events.Claim key snapshot) (Err NoMemory) new step is_made =
    same_rows rows old new (ap table_in step) is_made
step_made agrees rows old (events.Publish ticket fact) (Ok (Published row)) new step is_made =
    subst (λ (r : RowData). IsMadeOf (rows ++ r ∷ []) new) (sym step.row_is)
    (subst (IsMadeOf (rows ++ row_of old.table step.claim fact ∷ [])) (sym step.left)
    (published_made rows old.table step.claim fact is_made))
step_made agrees rows old (events.Release ticket) (Ok Released) new step is_made =
    subst (IsMadeOf (rows ++ [])) (sym step)
    (subst (λ (rs : List RowData). IsMade rs (released old.table ticket.serial)) (sym (append-nil rows))
    (record { kept = is_made.kept; count = is_made.count; over = is_made.over; ranks = is_made.ranks }))
step_made agrees rows old event ending new step is_made = absurd step

pub steps_made : (agrees : FactAgrees) (sound : Fact → Type 0) (rows : List RowData) (old : BookData)
    (all : List EventDone) (new : BookData) → AreSteps agrees sound old all new → IsMadeOf rows old
    → IsMadeOf (rows ++ rows_published all) new
steps_made agrees sound rows old [] new same is_made = same_rows rows old new (ap table_in same) is_made
steps_made agrees sound rows old (done ∷ more) new steps is_made =
    subst (λ (rs : List RowData). IsMadeOf rs new)
    (append_assoc rows (row_published done.ending) (rows_published more))
    (steps_made agrees sound (rows ++ row_published done.ending) steps.0 more new steps.2
    (step_made agrees rows old done.event done.ending steps.0 steps.1.steps is_made))

-- What follows from the opening on

-- after these events from an opening on
pub book_made : (agrees : FactAgrees) (sound : Fact → Type 0) (entries text bytes : ℕ) (all : List EventDone)
    (book : BookData) → AreSteps agrees sound (new_book entries text bytes) all book
    → IsMade (rows_published all) book.table
book_made agrees sound entries text bytes all book steps =
    steps_made agrees sound [] (new_book entries text bytes) all book steps (new_made bytes)

pub all_kept : (rows : List RowData) (table : TableData) → IsMade rows table → table.dropped ≡ 0 → table.rows ≡ rows
all_kept rows table is_made none_dropped = is_made.kept ∙ ap (λ n. drop n rows) none_dropped

pub rank_below : (rows : List RowData) (table : TableData) (first second : ℕ) (row later : RowData)
    → IsMade rows table → first < second → slice_get rows first ≡ Some row → slice_get rows second ≡ Some later
    → row.rank < later.rank
rank_below rows table first second row later is_made low at at_later =
    let rank : row.rank ≡ first + 1 = is_made.ranks first row at in
    let rank_later : later.rank ≡ second + 1 = is_made.ranks second later at_later in
    omega arith

-- with none dropped, the kept rows are all that were published
pub fresh_of_all : (agrees : FactAgrees) (sound : Fact → Type 0) (entries text bytes : ℕ) (all : List EventDone)
    (book : BookData) (row later : RowData) → AreSteps agrees sound (new_book entries text bytes) all book
    → book.table.dropped ≡ 0 → Stands (rows_published all) row → Stands (rows_published all) later
    → row.fact.key ≡ later.fact.key → row.mark < later.serial
    → agrees row.fact (sources book.store.history later.stamp) → ⊥
fresh_of_all agrees sound entries text bytes all book row later steps none_dropped stands stands_later =
    let kept : book.table.rows ≡ rows_published all =
    all_kept (rows_published all) book.table (book_made agrees sound entries text bytes all book steps) none_dropped in
    let order : IsInOrder agrees sound book = steps_hold agrees sound (new_book entries text bytes) all book steps
    (new_holds agrees sound entries text bytes) in
    order.rows.fresh row later (subst (λ (rows : List RowData). Stands rows row) (sym kept) stands)
    (subst (λ (rows : List RowData). Stands rows later) (sym kept) stands_later)

-- A row more keeps the rule, also if the first rows are dropped.
use Rattle.std.proofs.Common.{◌≡◌, ℕ, zero, suc, ◌+◌, ◌-◌, ◌<◌, ◌≤◌, ◌⊎◌, Bool, List, [], ◌∷◌, ◌++◌, refl, sym, ap, ◌∙◌, subst, inl, inr, ⊎_elim, arith, length, drop, set, length-append, sum_by}
use Rattle.std.specs.Prelude.{if◌then◌else◌}
use Rattle.std.proofs.lemmas.Bool.Decides.{leb_tells}
use Rattle.std.proofs.lemmas.List.{append-nil, length-drop}
use Rattle.std.proofs.lemmas.List.Sums.{sum_by-append, sum_by-cons, sum_by_push}
use Rattle.std.proofs.lemmas.Option.{slice_get_within}
use Rattle.dita_doc.proofs.Lists.{get_front, get_pushed}
use mathlib.Core.Logic.{dite}
use mathlib.Core.Option.{some}
use native.Mathlib.Decide.{dec_lt}
use lib.ListN.{get_elem?}
use Rattle.facts.specs.Rows.{Claim, RowData, Running, Stands, claim_of}
use Rattle.facts.specs.Table.{left, others, size}
use Rattle.desk_core.specs.Book.{BookData}
use Rattle.desk_lock.specs.Knows.{ends, printed, row_serials, serials}
use Rattle.desk_lock.specs.Lists.{IsNoneOf}
use Rattle.desk_lock.specs.Past.{HasPlanAmong, IsCounted, IsDrawn, IsPrinted, Past, row_claim}
use Rattle.desk_lock.specs.Rule.{IsOfPast, Stocked}
use Rattle.desk_lock.specs.declared.view.View.{View}
use Rattle.desk_lock.proofs.EndLaws.{below_more, each_others, others_one, runs_once, serial_stands}
use Rattle.desk_lock.proofs.EventLaws.{each_map, each_with, get_either, stamps_seen}
use Rattle.desk_lock.proofs.RuledLaws.{Ruled, ruled_set}
use Rattle.desk_lock.proofs.Weights.{each_stands, sum_by-map}

-- What is left of rows

abbrev bytes_of : RowData → ℕ
bytes_of row = row.bytes

left_cases : (limit : ℕ) (row : RowData) (rows : List RowData) → (left limit (row ∷ rows) ≡ row ∷ rows)
    ⊎ ((left limit (row ∷ rows) ≡ left limit rows) × (limit < size (row ∷ rows)))
left_cases limit row rows = ⊎_elim
    (λ t. inl (ap (λ (b : Bool). if b then row ∷ rows else left limit rows) t.0))
    (λ t. inr (ap (λ (b : Bool). if b then row ∷ rows else left limit rows) t.0, t.1))
    (leb_tells (size (row ∷ rows)) limit)

left_drop : (limit : ℕ) (rows : List RowData) → (gone : ℕ) × (left limit rows ≡ drop gone rows)
    × (gone + length (left limit rows) ≡ length rows) × (0 < gone → limit < size rows)
left_drop limit [] = (0, refl, omega arith, λ some_gone. absurd (omega arith))
left_drop limit (row ∷ rows) = ⊎_elim
    (λ all. (
      0,
      all,
      (let l : length (left limit (row ∷ rows)) ≡ length (row ∷ rows) =
          ap (λ (list : List RowData). length list) all in omega arith),
      λ some_gone. absurd (omega arith),
    ))
    (λ less. let r = left_drop limit rows in (
      suc r.0,
      less.0 ∙ r.1,
      (let l : length (left limit (row ∷ rows)) ≡ length (left limit rows) =
          ap (λ (list : List RowData). length list) less.0 in let s = r.2 in omega arith),
      λ some_gone. less.1,
    ))
    (left_cases limit row rows)

drop_more : (gone : ℕ) (xs more : List RowData) → gone ≤ length xs → drop gone xs ++ more ≡ drop gone (xs ++ more)
drop_more zero xs more within = refl
drop_more (suc gone) [] more within = absurd (omega arith)
drop_more (suc gone) (x ∷ xs) more within = drop_more gone xs more (omega arith)

drop_nil : (gone : ℕ) → drop {A = RowData} gone [] ≡ []
drop_nil zero = refl
drop_nil (suc gone) = refl

drop_drop : (more gone : ℕ) (xs : List RowData) → drop more (drop gone xs) ≡ drop (gone + more) xs
drop_drop more zero xs = ap (λ (n : ℕ). drop n xs) (omega arith)
drop_drop more (suc gone) [] = drop_nil more ∙ sym (drop_nil (suc gone + more))
drop_drop more (suc gone) (x ∷ xs) =
    drop_drop more gone xs ∙ ap (λ (n : ℕ). drop n (x ∷ xs)) {x = suc (gone + more)} (omega arith)

size_drop : (gone : ℕ) (xs : List RowData) → size (drop gone xs) ≤ size xs
size_drop zero xs = omega arith
size_drop (suc gone) [] = omega arith
size_drop (suc gone) (x ∷ xs) = let c = sum_by-cons bytes_of x xs in let r = size_drop gone xs in omega arith

-- A row more

module _ (past : Past) (row : RowData) where
  abbrev pub with_print : Past
  with_print = record past { prints = past.prints ++ row ∷ [] }

  printed_longer : (other : RowData) → IsPrinted past.prints other → IsPrinted with_print.prints other
  printed_longer other print = (print.0, get_front past.prints (row ∷ []) print.0 other print.1, print.2)

  plan_longer : (other : RowData) → HasPlanAmong past.prints other → HasPlanAmong with_print.prints other
  plan_longer other plan = ⊎_elim (λ none. inl none)
      (λ there. inr (
        there.0,
        (
          there.1.0,
          get_front past.prints
              (row ∷ []) there.1.0 there.0 there.1.1,
        ),
        there.2,
        there.3,
      ))
      plan

  counted_printed : row.rank ≡ suc (length past.prints) → row.serial ≤ row.mark → row.mark ≤ length past.draws
      → HasPlanAmong past.prints row → IsCounted past → IsCounted with_print
  counted_printed rank low high plan counted = record {
    draws = counted.draws;
    ranks = λ before other e. ⊎_elim
        (λ there. counted.ranks before other there)
        (λ here. sym (ap (λ (r : RowData). r.rank) here.1) ∙ rank ∙ ap suc (sym here.0))
        (get_either past.prints row before other e);
    marks = λ before other e. ⊎_elim
        (λ there. counted.marks before other there)
        (λ here. subst (λ (r : RowData). (r.serial ≤ r.mark) × (r.mark ≤ length past.draws)) here.1 (low, high))
        (get_either past.prints row before other e);
    plans = λ before other e. ⊎_elim
        (λ there. plan_longer other (counted.plans before other there))
        (λ here. subst (λ (r : RowData). HasPlanAmong with_print.prints r) here.1 (plan_longer row plan))
        (get_either past.prints row before other e);
  }

  both_longer : (other : RowData) → IsPrinted past.prints other × IsDrawn past.draws (row_claim other)
      → IsPrinted with_print.prints other × IsDrawn past.draws (row_claim other)
  both_longer other both = (printed_longer other both.0, both.1)

  fits_printed : (u : View) → IsOfPast past u → IsOfPast with_print u
  fits_printed u fits = record {
    seen = fits.seen;
    also = fits.also;
    limits = fits.limits;
    mine = fits.mine;
    theirs = fits.theirs;
    drawn = fits.drawn;
    stamps = fits.stamps;
    published = each_map (λ r. IsPrinted past.prints r × IsDrawn past.draws (row_claim r))
        (λ r. IsPrinted with_print.prints r × IsDrawn past.draws (row_claim r)) u.published both_longer fits.published;
    rows = each_map (IsPrinted past.prints) (IsPrinted with_print.prints) u.rows printed_longer fits.rows;
    met = fits.met;
    own = fits.own;
  }

module _ (past : Past) (book : BookData) (views : List View) (by : ℕ) (v : View) (at : get_elem? views by ≡ some v)
    (some_part : 0 < v.parts) (ruled : Ruled past book views) (claim : Claim) (stands : Stands v.drawn claim)
    (none : IsNoneOf (ends v) claim.serial) (row : RowData) (row_is : row_claim row ≡ claim)
    (rank : row.rank ≡ suc (length past.prints)) (mark : row.mark ≡ book.table.drawn)
    (plan : HasPlanAmong past.prints row) where
  abbrev pub with_row : List RowData
  with_row = book.table.rows ++ row ∷ []

  abbrev pub published_book : BookData
  published_book = record book {
    table = record book.table {
      rows = left book.table.limit with_row;
      running = others claim.serial book.table.running;
      dropped = book.table.dropped + (length with_row - length (left book.table.limit with_row));
    };
  }

  drawn_claim : IsDrawn past.draws claim
  drawn_claim = each_stands (IsDrawn past.draws) v.drawn (ruled.fits by v at).drawn stands.0 claim stands.1

  same_serial : row.serial ≡ claim.serial
  same_serial = ap (λ (c : Claim). c.serial) row_is

  low : row.serial ≤ row.mark
  low = let d = drawn_claim in let s = same_serial in let at_serial = d.2 in
      let within = slice_get_within past.draws d.0 claim d.1 in let drawn = ruled.stock.drawn in omega arith

  stocked_printed : Stocked published_book (with_print past row)
  stocked_printed =
      let stock = ruled.stock in let cut = left_drop book.table.limit with_row in let within = stock.dropped in
      let all : with_row ≡ drop book.table.dropped (past.prints ++ row ∷ []) =
      ap (λ (rows : List RowData). rows ++ row ∷ []) stock.rows
      ∙ drop_more book.table.dropped past.prints (row ∷ []) stock.dropped in
      let long : length with_row ≡ length (drop book.table.dropped (past.prints ++ row ∷ [])) =
      ap (λ (rows : List RowData). length rows) all in
      let dropped = length-drop book.table.dropped (past.prints ++ row ∷ []) in
      let one_more = length-append past.prints (row ∷ []) in
      let gone : book.table.dropped + (length with_row - length (left book.table.limit with_row))
      ≡ book.table.dropped + cut.0 = (let c = cut.2 in omega arith) in
      record {
        history = stock.history;
        limits = stock.limits;
        drawn = stock.drawn;
        running = each_others (λ (one : Running). IsDrawn past.draws (claim_of one)) claim.serial book.table.running
            stock.running;
        dropped = (let c = cut.2 in omega arith);
        rows = cut.1 ∙ ap (λ (rows : List RowData). drop cut.0 rows) all
            ∙ drop_drop cut.0 book.table.dropped (past.prints ++ row ∷ [])
            ∙ ap (λ (n : ℕ). drop n (past.prints ++ row ∷ [])) (sym gone);
        over = λ some_gone.
            let limit : book.table.limit ≡ past.limits.table_bytes = ap (λ limits. limits.table_bytes) stock.limits in
            let push = sum_by_push bytes_of past.prints row in
            dite (dec_lt 0 cut.0)
            (λ now. let big = cut.3 now in let less = size_drop book.table.dropped (past.prints ++ row ∷ []) in
            let same : size with_row ≡ size (drop book.table.dropped (past.prints ++ row ∷ [])) =
            ap (λ (rows : List RowData). size rows) all in omega arith)
            (λ before. let big = stock.over (omega arith) in omega arith);
      }

  ends_printed : (weight : ℕ → ℕ) → sum_by weight (ends (printed v past.log row))
      ≡ sum_by weight (ends v) + weight claim.serial
  ends_printed weight =
      let a = sum_by-append weight (row_serials (v.published ++ row ∷ [])) v.released in
      let b = sum_by-append weight (row_serials v.published) v.released in
      let m = sum_by-map weight (λ (r : RowData). r.serial) (v.published ++ row ∷ []) in
      let n = sum_by-map weight (λ (r : RowData). r.serial) v.published in
      let p = sum_by_push (λ (r : RowData). weight r.serial) v.published row in
      let s : weight row.serial ≡ weight claim.serial = ap weight same_serial in omega arith

  print_here : IsPrinted (with_print past row).prints row
  print_here = (length past.prints, get_pushed past.prints row, rank)

  fits_here : IsOfPast (with_print past row) (printed v past.log row)
  fits_here = let fits = ruled.fits by v at in let longer = fits_printed past row v fits in record {
    seen = ([], sym (append-nil past.log));
    also = fits.also;
    limits = fits.limits;
    mine = fits.mine;
    theirs = fits.theirs;
    drawn = fits.drawn;
    stamps = stamps_seen past v fits past.log fits.seen;
    published = each_with (λ r. IsPrinted (with_print past row).prints r
        × IsDrawn past.draws (row_claim r)) v.published row
        longer.published (print_here, subst (λ (c : Claim). IsDrawn past.draws c) (sym row_is) drawn_claim);
    rows = each_with (IsPrinted (with_print past row).prints) v.rows row longer.rows print_here;
    met = fits.met;
    own = λ weight. let e = ends_printed weight in
        let m = below_more (ends v) (serials v.drawn) claim.serial stands.0 none
        (serial_stands past book views by v at some_part ruled claim stands none) fits.own weight in
        omega arith;
  }

  pub ruled_printed : Ruled (with_print past row) published_book (set views by (printed v past.log row))
  ruled_printed = ruled_set past (with_print past row) book published_book views by v (printed v past.log row) at ruled
      (counted_printed past row rank low (let d = ruled.stock.drawn in omega arith) plan ruled.counted)
      stocked_printed
      (record {
        places = λ weight. refl;
        draws = λ weight. refl;
        prints = λ weight. let p = sum_by_push weight v.published row in let q = sum_by_push weight past.prints row in
            omega arith;
        running = λ weight.
            let e = ends_printed weight in
            let r = sum_by-map weight (λ (one : Running). one.serial) book.table.running in
            let s = sum_by-map weight (λ (one : Running). one.serial) (others claim.serial book.table.running) in
            let o = others_one weight claim.serial book.table.running
            (runs_once past book views by v at some_part ruled claim stands none) in
            omega arith;
        parts = refl;
      })
      fits_here (fits_printed past row) (inl refl) some_part

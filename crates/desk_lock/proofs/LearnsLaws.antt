-- What the rule tells a party of the book.
use Rattle.std.proofs.Common.{◌≡◌, ◌≢◌, ℕ, ◌+◌, ◌<◌, ◌≤◌, cond, List, Some, refl, sym, ap, ◌∙◌, subst, ⊎_elim, arith, length, drop, sum_by, eq-eqb, ne_eqb}
use Rattle.std.specs.List.{slice_get}
use Rattle.std.proofs.lemmas.List.Sums.{sum_by-append}
use Rattle.std.proofs.lemmas.Option.{same_Some, slice_get_within}
use Rattle.std.proofs.lemmas.List.{length-drop}
use mathlib.Core.Logic.{dite}
use mathlib.Core.Option.{some}
use native.Mathlib.Decide.{dec_lt, ℕ_discrete}
use lib.ListN.{get_elem?}
use Rattle.dita_doc.specs.History.{Entry}
use Rattle.facts.specs.Rows.{Claim, HaveOnePlan, RowData, Running, Stands, claim_of, plan_in, plan_serial}
use Rattle.desk_core.specs.Book.{BookData}
use Rattle.facts.specs.Table.{made}
use Rattle.desk_lock.specs.Knows.{all_parts, ends, known, row_serials, serials, spent_view}
use Rattle.desk_lock.specs.Learns.{AreLeft, KnowsAll, Learns}
use Rattle.desk_lock.specs.Lists.{Each, IsNoneOf, IsReordered, StartsWith, counted as counted_from}
use Rattle.desk_lock.specs.Past.{IsCounted, IsDrawn, IsPrinted, Past, placed, row_claim}
use Rattle.desk_lock.specs.Rule.{Counts, IsOfPast, Stocked, running_serials}
use Rattle.desk_lock.specs.declared.view.View.{View}
use Rattle.desk_lock.proofs.Weights.{at_weighs, but_one, each_below, each_stands, heavy_stands, none_weighs, none_of_map, numbered_counted, numbered_once, only_one, drop_stands, stands_drop, stands_each, stands_weighs, sum_by-map, tick, tick_is, tick_other, two_at_weigh, two_weigh, weighs_none}

-- how often one serial was drawn, and how often it was ended, by one party
abbrev pub draws_of : ℕ → View → ℕ
draws_of serial v = sum_by (tick serial) (serials v.drawn)

abbrev pub ends_of : ℕ → View → ℕ
ends_of serial v = sum_by (tick serial) (ends v)

-- the rule, of a past, a book and the views of all parties
module _ (past : Past) (book : BookData) (views : List View) (counted : IsCounted past) (stock : Stocked book past)
    (counts : Counts views book past)
    (fits : (by : ℕ) (v : View) → get_elem? views by ≡ some v → IsOfPast past v) where
  -- a claim is drawn at most once, by all parties together
  pub drawn_once : (serial : ℕ) → sum_by (draws_of serial) views ≤ 1
  drawn_once serial =
      let alike = counts.draws (λ (claim : Claim). tick serial claim.serial) in
      let once = numbered_once (λ (claim : Claim). claim.serial) past.draws 0 serial
      (λ k claim e. let c = counted.draws k claim e in omega arith) in
      let same = each_below (draws_of serial) (λ v. sum_by (λ (claim : Claim). tick serial claim.serial) v.drawn) views
      (λ by v e. let m = sum_by-map (tick serial) (λ (claim : Claim). claim.serial) v.drawn in omega arith) in
      omega arith

  ends_below : (serial by : ℕ) (v : View) → get_elem? views by ≡ some v → ends_of serial v ≤ draws_of serial v
  ends_below serial by v e = (fits by v e).own (tick serial)

  ended_once : (serial : ℕ) → sum_by (ends_of serial) views ≤ sum_by (draws_of serial) views
  ended_once serial = each_below (ends_of serial) (draws_of serial) views (ends_below serial)

  -- a row that was published ended its claim
  pub printed_ends : (k : ℕ) (row : RowData) → slice_get past.prints k ≡ Some row
      → 0 < sum_by (ends_of row.serial) views
  printed_ends k row e =
      let alike = counts.prints (λ (one : RowData). tick row.serial one.serial) in
      let here = stands_weighs (λ (one : RowData). tick row.serial one.serial) past.prints k row e in
      let one = tick_is row.serial row.serial refl in
      let below = each_below (λ v. sum_by (λ (one : RowData). tick row.serial one.serial) v.published)
      (ends_of row.serial) views
      (λ by v e. let m = sum_by-map (tick row.serial) (λ (one : RowData). one.serial) v.published in
      let a = sum_by-append (tick row.serial) (row_serials v.published) v.released in omega arith) in
      omega arith

  -- two rows of one serial are one
  printed_once : (j k : ℕ) (row other : RowData) → slice_get past.prints j ≡ Some row
      → slice_get past.prints k ≡ Some other
      → row.serial ≡ other.serial → j < k → ⊥
  printed_once j k row other e g same less =
      let alike = counts.prints (λ (one : RowData). tick row.serial one.serial) in
      let two = two_weigh (λ (one : RowData). tick row.serial one.serial) past.prints j k row other e g less in
      let one = tick_is row.serial row.serial refl in let again = tick_is row.serial other.serial (sym same) in
      let below = each_below (λ v. sum_by (λ (one : RowData). tick row.serial one.serial) v.published)
      (ends_of row.serial) views
      (λ by v e. let m = sum_by-map (tick row.serial) (λ (one : RowData). one.serial) v.published in
      let a = sum_by-append (tick row.serial) (row_serials v.published) v.released in omega arith) in
      let ended = ended_once row.serial in let drawn = drawn_once row.serial in absurd (omega arith)

  pub same_print : (j k : ℕ) (row other : RowData) → slice_get past.prints j ≡ Some row
      → slice_get past.prints k ≡ Some other
      → row.serial ≡ other.serial → row ≡ other
  same_print j k row other e g same = dite (ℕ_discrete j k)
      (λ at. same_Some row other (sym e ∙ ap (λ (n : ℕ). slice_get past.prints n) at ∙ g))
      (λ differ. dite (dec_lt j k)
      (λ less. absurd (printed_once j k row other e g same less))
      (λ more. absurd (printed_once k j other row g e (sym same) (omega arith))))

  -- a claim that its party has not ended was ended by nobody
  pub none_ended : (by : ℕ) (v : View) → get_elem? views by ≡ some v → (claim : Claim) → Stands v.drawn claim
      → IsNoneOf (ends v) claim.serial → sum_by (ends_of claim.serial) views ≡ 0
  none_ended by v e claim stands none =
      let mine = none_weighs (ends v) claim.serial none in
      let m = sum_by-map (tick claim.serial) (λ (one : Claim). one.serial) v.drawn in
      let here = stands_weighs (λ (one : Claim). tick claim.serial one.serial) v.drawn stands.0 claim stands.1 in
      let one = tick_is claim.serial claim.serial refl in
      let but = but_one (ends_of claim.serial) (draws_of claim.serial) views by v e (ends_below claim.serial) in
      let once = drawn_once claim.serial in omega arith

  -- Each field of what is learned

  learns_running : (by : ℕ) (v : View) → get_elem? views by ≡ some v → (claim : Claim) → Stands v.drawn claim
      → IsNoneOf (ends v) claim.serial → (one : Running) × Stands book.table.running one × (claim_of one ≡ claim)
  learns_running by v e claim stands none =
      let ended = none_ended by v e claim stands none in
      let m = sum_by-map (tick claim.serial) (λ (one : Claim). one.serial) v.drawn in
      let here = stands_weighs (λ (one : Claim). tick claim.serial one.serial) v.drawn stands.0 claim stands.1 in
      let tick_one = tick_is claim.serial claim.serial refl in
      let at = at_weighs (draws_of claim.serial) views by v e in
      let alike = counts.running (tick claim.serial) in
      let r = sum_by-map (tick claim.serial) (λ (one : Running). one.serial) book.table.running in
      let h = heavy_stands (λ (one : Running). tick claim.serial one.serial) book.table.running (omega arith) in
      let same : h.1.serial ≡ claim.serial = dite (ℕ_discrete h.1.serial claim.serial) (λ s. s)
      (λ differ. let t = tick_other claim.serial h.1.serial differ in let w = h.3 in absurd (omega arith)) in
      let drew = each_stands (IsDrawn past.draws) v.drawn (fits by v e).drawn stands.0 claim stands.1 in
      let runs = each_stands (λ (one : Running). IsDrawn past.draws (claim_of one))
      book.table.running stock.running h.0 h.1 h.2 in
      let at_one : runs.0 ≡ drew.0 = (let a = runs.2 in let b = drew.2 in omega arith) in (
        h.1,
        (h.0, h.2),
        same_Some (claim_of h.1) claim
            (sym runs.1 ∙ ap (λ (n : ℕ). slice_get past.draws n) at_one ∙ drew.1),
      )

  learns_taken : (by : ℕ) (v : View) → get_elem? views by ≡ some v → (one : Running) → Stands book.table.running one
      → IsNoneOf (ends v) one.serial × IsNoneOf (row_serials v.rows) one.serial
  learns_taken by v e one stands =
      let alike = counts.running (tick one.serial) in
      let r = sum_by-map (tick one.serial) (λ (it : Running). it.serial) book.table.running in
      let here = stands_weighs (λ (it : Running). tick one.serial it.serial) book.table.running stands.0 one stands.1 in
      let tick_one = tick_is one.serial one.serial refl in
      let once = drawn_once one.serial in
      let at = at_weighs (ends_of one.serial) views by v e in (
        weighs_none (ends v) one.serial (omega arith),
        none_of_map (λ (row : RowData). row.serial) v.rows one.serial (λ k row there same.
            let print = each_stands (IsPrinted past.prints) v.rows (fits by v e).rows k row there in
            let ended = subst (λ (n : ℕ). 0 < sum_by (ends_of n) views) same (printed_ends print.0 row print.1) in
            absurd (omega arith)),
      )

  learns_rows : (by : ℕ) (v : View) → get_elem? views by ≡ some v → Each (λ (row : RowData).
      (row.mark ≤ book.table.drawn) × (book.table.dropped < row.rank → Stands book.table.rows row)) v.rows
  learns_rows by v e = stands_each (λ (row : RowData).
      (row.mark ≤ book.table.drawn) × (book.table.dropped < row.rank → Stands book.table.rows row)) v.rows
      (λ k row there.
      let print = each_stands (IsPrinted past.prints) v.rows (fits by v e).rows k row there in
      let marks = counted.marks print.0 row print.1 in let drawn = stock.drawn in (
        (let m = marks.1 in omega arith),
        (λ kept. let rank = print.2 in subst (λ (rows : List RowData). Stands rows row) (sym stock.rows)
            (stands_drop book.table.dropped print.0 past.prints row (omega arith) print.1)),
      ))

  learns_later : (by : ℕ) (v : View) → get_elem? views by ≡ some v → (serial : ℕ) → book.table.drawn < serial
      → IsNoneOf (serials v.drawn) serial × IsNoneOf (ends v) serial
  learns_later by v e serial above =
      let new : IsNoneOf (serials v.drawn) serial =
      none_of_map (λ (claim : Claim). claim.serial) v.drawn serial (λ k claim there same.
      let drew = each_stands (IsDrawn past.draws) v.drawn (fits by v e).drawn k claim there in
      let within = slice_get_within past.draws drew.0 claim drew.1 in
      let drawn = stock.drawn in let at = drew.2 in absurd (omega arith)) in
      let light = none_weighs (serials v.drawn) serial new in
      let own = (fits by v e).own (tick serial) in
      (new, weighs_none (ends v) serial (omega arith))

  -- the row of the plan on which a published row rests
  plan_row : (j : ℕ) (other : RowData) → slice_get past.prints j ≡ Some other → (serial : ℕ)
      → plan_serial other ≡ serial
      → (k : ℕ) × (source : RowData) × (slice_get past.prints k ≡ Some source) × (source.serial ≡ serial)
      × (plan_in source ≡ plan_in other)
  plan_row j other at serial is = dite (ℕ_discrete other.fact.planned 0)
      (λ own. (
        j,
        other,
        at,
        sym (ap (λ b. cond b other.serial other.fact.planned) (eq-eqb other.fact.planned 0 own)) ∙ is,
        refl,
      ))
      (λ rests. let planned : other.fact.planned ≡ serial =
      sym (ap (λ b. cond b other.serial other.fact.planned) (ne_eqb other.fact.planned 0 rests)) ∙ is in
      ⊎_elim (λ own. absurd (rests own))
      (λ named. (named.1.0, named.0, named.1.1, named.2 ∙ planned, named.3))
      (counted.plans j other at))

  pub kept_print : (other : RowData) → Stands book.table.rows other → Stands past.prints other
  kept_print other stands = drop_stands book.table.dropped past.prints other
      (subst (λ (rows : List RowData). Stands rows other) stock.rows stands)

  learns_plans : (by : ℕ) (v : View) → get_elem? views by ≡ some v
      → Each (λ (row : RowData). HaveOnePlan book.table.rows row.serial (plan_in row)) v.rows
  learns_plans by v e =
      stands_each (λ (row : RowData). HaveOnePlan book.table.rows row.serial (plan_in row)) v.rows
      (λ k row there other stands is.
      let print = each_stands (IsPrinted past.prints) v.rows (fits by v e).rows k row there in
      let kept = kept_print other stands in
      let source = plan_row kept.0 other kept.1 row.serial is in
      sym source.4 ∙ ap (λ (r : RowData). plan_in r)
      (same_print source.0 print.0 source.1 row source.2 print.1 source.3))

  learns_unplanned : (by : ℕ) (v : View) → get_elem? views by ≡ some v → (claim : Claim) → Stands v.drawn claim
      → IsNoneOf (ends v) claim.serial → Each (λ (row : RowData). plan_serial row ≢ claim.serial) book.table.rows
  learns_unplanned by v e claim stands none =
      stands_each (λ (row : RowData). plan_serial row ≢ claim.serial) book.table.rows
      (λ k other there is.
      let kept = kept_print other (k, there) in
      let source = plan_row kept.0 other kept.1 claim.serial is in
      let ended = subst (λ (n : ℕ). 0 < sum_by (ends_of n) views) source.3 (printed_ends source.0 source.1 source.2) in
      let nobody = none_ended by v e claim stands none in absurd (omega arith))

  -- What who has all parts learns

  module _ (by : ℕ) (v : View) (e : get_elem? views by ≡ some v) (all : v.parts ≡ all_parts)
      (spent : (other : ℕ) (u : View) → get_elem? views other ≡ some u → u.parts ≡ 0 → u ≡ spent_view) where
    other_spent : (other : ℕ) (u : View) → other ≢ by → get_elem? views other ≡ some u → u ≡ spent_view
    other_spent other u differ there =
        let two = two_at_weigh (λ (w : View). w.parts) views other by u v there e differ in
        let parts = counts.parts in spent other u there (omega arith)

    alone : (f : View → ℕ) → f spent_view ≡ 0 → sum_by f views ≡ f v
    alone f light = only_one f views by v e (λ other u differ there. ap f (other_spent other u differ there) ∙ light)

    knows_places : IsReordered (known v) (placed 0 book.store.history)
    knows_places weight = sym (alone (λ u. sum_by weight (known u)) refl) ∙ counts.places weight
        ∙ ap (λ log. sum_by weight (placed 0 log)) (sym stock.history)

    knows_drawn : IsReordered (serials v.drawn) (counted_from 1 book.table.drawn)
    knows_drawn weight = sum_by-map weight (λ (claim : Claim). claim.serial) v.drawn
        ∙ sym (alone (λ u. sum_by (λ (claim : Claim). weight claim.serial) u.drawn) refl)
        ∙ counts.draws (λ (claim : Claim). weight claim.serial)
        ∙ sym (sum_by-map weight (λ (claim : Claim). claim.serial) past.draws)
        ∙ ap (λ numbers. sum_by weight numbers) (numbered_counted (λ (claim : Claim). claim.serial) past.draws 1
        (λ k claim at. let c = counted.draws k claim at in omega arith))
        ∙ ap (λ n. sum_by weight (counted_from 1 n)) (sym stock.drawn)

    knows_ended : (weight : ℕ → ℕ) → sum_by weight (serials v.drawn)
        ≡ sum_by weight (ends v) + sum_by weight (running_serials book)
    knows_ended weight =
        let drawn = alone (λ u. sum_by weight (serials u.drawn)) refl in
        let ended = alone (λ u. sum_by weight (ends u)) refl in
        let alike = counts.running weight in omega arith

    knows_left : AreLeft book.table.limit past.prints book.table.rows (made book.table) book.table.dropped
    knows_left = record {
      kept = stock.rows;
      made = (let d = length-drop book.table.dropped past.prints in
          let l : length book.table.rows ≡ length (drop book.table.dropped past.prints) =
          ap (λ (rows : List RowData). length rows) stock.rows in
          let within = stock.dropped in omega arith);
      dropped = stock.dropped;
      over = (λ some_gone. let l : book.table.limit ≡ past.limits.table_bytes =
          ap (λ limits. limits.table_bytes) stock.limits in
          let over = stock.over some_gone in omega arith);
      ranks = (λ before row at. let r = counted.ranks before row at in omega arith);
      marks = (λ before row at. (counted.marks before row at).0);
      once = (λ before other row again at also same. dite (ℕ_discrete before other) (λ is. is)
          (λ differ. dite (dec_lt before other) (λ less. absurd (printed_once before other row again at also same less))
          (λ more. absurd (printed_once other before again row also at (sym same) (omega arith)))));
    }

    knows_all : KnowsAll v book
    knows_all = record {
      prints = past.prints;
      places = knows_places;
      drawn = knows_drawn;
      ended = knows_ended;
      published = λ weight. sym (alone (λ u. sum_by weight u.published) refl) ∙ counts.prints weight;
      print = (λ row stands. let p =
          each_stands (λ row. IsPrinted past.prints row × IsDrawn past.draws (row_claim row)) v.published
          (fits by v e).published stands.0 row stands.1 in (p.0.0, p.0.1));
      rows = stands_each (Stands past.prints) v.rows
          (λ k row at. let p = each_stands (IsPrinted past.prints) v.rows (fits by v e).rows k row at in (p.0, p.1));
      marks = stands_each (λ (row : RowData). row.mark ≤ book.table.drawn) past.prints
          (λ k row at. let m = (counted.marks k row at).1 in let d = stock.drawn in omega arith);
      left = knows_left;
    }

  pub learns : (by : ℕ) (v : View) → get_elem? views by ≡ some v → 0 < v.parts
      → ((other : ℕ) (u : View) → get_elem? views other ≡ some u → u.parts ≡ 0 → u ≡ spent_view) → Learns v book
  learns by v e some_part spent = record {
    seen = subst (λ (log : List Entry). StartsWith log v.seen) (sym stock.history) (fits by v e).seen;
    limits = stock.limits ∙ sym ((fits by v e).limits some_part);
    stamps = (fits by v e).stamps;
    running = learns_running by v e;
    taken = learns_taken by v e;
    rows = learns_rows by v e;
    later = learns_later by v e;
    plans = learns_plans by v e;
    unplanned = learns_unplanned by v e;
    all = λ all. knows_all by v e all spent;
  }

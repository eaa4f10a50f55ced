-- A join of two parties keeps the rule, and the look behind it tells that the longer history begins with the shorter.
use Rattle.std.proofs.Common.{◌≡◌, ◌≢◌, ℕ, suc, ◌+◌, ◌<◌, ◌≤◌, ◌⊎◌, Bool, List, [], ◌∷◌, ◌++◌, Option, None, refl, sym, ap, ◌∙◌, subst, inl, inr, ⊎_elim, arith, length, set, get_or, length-append, sum_by}
use Rattle.std.specs.Prelude.{if◌then◌else◌}
use Rattle.std.proofs.lemmas.Bool.Decides.{leb_tells}
use Rattle.std.proofs.lemmas.List.{append-nil}
use Rattle.std.proofs.lemmas.List.Sums.{sum_by-append}
use Rattle.std.proofs.lemmas.Option.{none-some}
use mathlib.Core.Logic.{dite}
use mathlib.Core.Option.{some, some-injective}
use native.Mathlib.Decide.{ℕ_discrete}
use lib.ListN.{get_elem?}
use Rattle.atomic_table.specs.Table.{Allows, Joins, State, keeps}
use Rattle.atomic_table.proofs.Lists.{at_set, set_else, set_here}
use Rattle.dita_doc.specs.History.{Entry}
use Rattle.facts.specs.Rows.{Claim, RowData}
use Rattle.desk_core.specs.Book.{BookData}
use Rattle.desk_lock.specs.Knows.{both, ends, known, longer, row_serials, serials, settled, shorter, spent_view, with_session}
use Rattle.desk_lock.specs.Lists.{Each, StartsWith}
use Rattle.desk_lock.specs.Past.{IsDrawn, IsMade, IsPrinted, Past, row_claim}
use Rattle.desk_lock.specs.Rule.{Counts, IsOfPast, IsOpen, IsShut, RuleKept}
use Rattle.desk_lock.specs.Steps.{Compares}
use Rattle.desk_lock.specs.declared.view.View.{View}
use Rattle.desk_lock.proofs.EventLaws.{each_map, starts_length}
use Rattle.desk_lock.proofs.GateLaws.{kept_of, ruled_of}
use Rattle.desk_lock.proofs.RuledLaws.{Ruled, ruled_set}
use Rattle.desk_lock.proofs.Weights.{at_within, sum_by-map, total_set}

-- Lists

each_append : {X : Type 0} (P : X → Type 0) (xs ys : List X) → Each P xs → Each P ys → Each P (xs ++ ys)
each_append P [] ys first second = second
each_append P (x ∷ xs) ys first second = (first.0, each_append P xs ys first.1 second)

each_session : (log : List Entry) (session : ℕ) (places : List ℕ) → Each (λ place. IsMade log place session) places
    → Each (λ (x : ℕ × ℕ). IsMade log x.0 x.1) (with_session session places)
each_session log session [] each = tt
each_session log session (place ∷ places) each = (each.0, each_session log session places each.1)

-- of two beginnings of one list the longer begins with the shorter
both_begin : {X : Type 0} (log xs ys : List X) → StartsWith log xs → StartsWith log ys → length ys ≤ length xs
    → StartsWith xs ys
both_begin log xs [] begins other short = (xs, refl)
both_begin log [] (y ∷ ys) begins other short = absurd (omega arith)
both_begin [] (x ∷ xs) (y ∷ ys) begins other short =
    let l : 0 ≡ suc (length (xs ++ begins.0)) = ap (λ list. length list) begins.1 in absurd (omega arith)
both_begin (z ∷ log) (x ∷ xs) (y ∷ ys) begins other short =
    let first : x ≡ y = ap (λ list. head_or z list) (sym begins.1 ∙ other.1) in
    let r = both_begin log xs ys (begins.0, ap (λ list. tail_of list) begins.1)
    (other.0, ap (λ list. tail_of list) other.1) (omega arith) in
    (r.0, λ i. first i ∷ r.1 i)
  where
    head_or : {X : Type 0} → X → List X → X
    head_or d [] = d
    head_or d (x ∷ xs) = x

    tail_of : {X : Type 0} → List X → List X
    tail_of [] = []
    tail_of (x ∷ xs) = xs

nothing_left : {X : Type 0} (xs rest : List X) → length (xs ++ rest) ≤ length xs → xs ≡ xs ++ rest
nothing_left xs [] short = sym (append-nil xs)
nothing_left xs (r ∷ rest) short = let l = length-append xs (r ∷ rest) in absurd (omega arith)

whole_beginning : {X : Type 0} (log xs : List X) → StartsWith log xs → length log ≤ length xs → xs ≡ log
whole_beginning log xs begins long = nothing_left xs begins.0
    (let l : length log ≡ length (xs ++ begins.0) = ap (λ list. length list) begins.1 in omega arith) ∙ sym begins.1

pub longer_cases : (log other : List Entry)
    → ((longer log other ≡ log) × (shorter log other ≡ other) × (length other ≤ length log))
    ⊎ ((longer log other ≡ other) × (shorter log other ≡ log) × (length log < length other))
longer_cases log other = ⊎_elim
    (λ t. inl (ap (λ (b : Bool). if b then log else other) t.0, ap (λ (b : Bool). if b then other else log) t.0, t.1))
    (λ t. inr (ap (λ (b : Bool). if b then log else other) t.0, ap (λ (b : Bool). if b then other else log) t.0, t.1))
    (leb_tells (length other) (length log))

-- What two parties know together

module _ (v w : View) where
  known_both : (weight : ℕ × ℕ → ℕ) → sum_by weight (known (both v w))
      ≡ sum_by weight (known v) + sum_by weight (known w)
  known_both weight =
      let a = sum_by-append weight (with_session v.session v.mine)
      (v.theirs ++ w.theirs ++ with_session w.session w.mine) in
      let b = sum_by-append weight (v.theirs ++ w.theirs) (with_session w.session w.mine) in
      let c = sum_by-append weight v.theirs w.theirs in
      let d = sum_by-append weight (with_session v.session v.mine) v.theirs in
      let e = sum_by-append weight (with_session w.session w.mine) w.theirs in omega arith

  serials_both : (weight : ℕ → ℕ)
      → sum_by weight (serials (both v w).drawn) ≡ sum_by weight (serials v.drawn) + sum_by weight (serials w.drawn)
  serials_both weight =
      let a = sum_by-map weight (λ (c : Claim). c.serial) (v.drawn ++ w.drawn) in
      let b = sum_by-map weight (λ (c : Claim). c.serial) v.drawn in
      let c = sum_by-map weight (λ (c : Claim). c.serial) w.drawn in
      let d = sum_by-append (λ (c : Claim). weight c.serial) v.drawn w.drawn in omega arith

  ends_both : (weight : ℕ → ℕ) → sum_by weight (ends (both v w)) ≡ sum_by weight (ends v) + sum_by weight (ends w)
  ends_both weight =
      let a = sum_by-append weight (row_serials (v.published ++ w.published)) (v.released ++ w.released) in
      let b = sum_by-append weight v.released w.released in
      let c = sum_by-map weight (λ (r : RowData). r.serial) (v.published ++ w.published) in
      let d = sum_by-map weight (λ (r : RowData). r.serial) v.published in
      let e = sum_by-map weight (λ (r : RowData). r.serial) w.published in
      let f = sum_by-append (λ (r : RowData). weight r.serial) v.published w.published in
      let g = sum_by-append weight (row_serials v.published) v.released in
      let h = sum_by-append weight (row_serials w.published) w.released in omega arith

  fits_both : (past : Past) → 0 < v.parts → IsOfPast past v → IsOfPast past w → IsOfPast past (both v w)
  fits_both past some_part first second =
      let l = longer_cases v.seen w.seen in
      let long : (length v.seen ≤ length (longer v.seen w.seen)) × (length w.seen ≤ length (longer v.seen w.seen)) =
      ⊎_elim
      (λ t. let e : length (longer v.seen w.seen) ≡ length v.seen = ap (λ (list : List Entry). length list) t.0 in
      let s = t.2 in (omega arith, omega arith))
      (λ t. let e : length (longer v.seen w.seen) ≡ length w.seen = ap (λ (list : List Entry). length list) t.0 in
      let s = t.2 in (omega arith, omega arith))
      l in
      record {
        seen = ⊎_elim
            (λ t. subst (λ (list : List Entry). StartsWith past.log list) (sym t.0) first.seen)
            (λ t. subst (λ (list : List Entry). StartsWith past.log list) (sym t.0) second.seen) l;
        also = ⊎_elim
            (λ t. subst (λ (list : List Entry). StartsWith past.log list) (sym t.1) second.seen)
            (λ t. subst (λ (list : List Entry). StartsWith past.log list) (sym t.1) first.seen) l;
        limits = λ some. first.limits some_part;
        mine = first.mine;
        theirs = each_append (λ (x : ℕ × ℕ). IsMade past.log x.0 x.1) (v.theirs ++ w.theirs)
            (with_session w.session w.mine)
            (each_append (λ (x : ℕ × ℕ). IsMade past.log x.0 x.1) v.theirs w.theirs first.theirs second.theirs)
            (each_session past.log w.session w.mine second.mine);
        drawn = each_append (IsDrawn past.draws) v.drawn w.drawn first.drawn second.drawn;
        stamps = each_append (λ (c : Claim). c.stamp ≤ length (longer v.seen w.seen)) v.drawn w.drawn
            (each_map (λ (c : Claim). c.stamp ≤ length v.seen) (λ (c : Claim). c.stamp ≤ length (longer v.seen w.seen))
            v.drawn (λ c below. let m = long.0 in omega arith) first.stamps)
            (each_map (λ (c : Claim). c.stamp ≤ length w.seen) (λ (c : Claim). c.stamp ≤ length (longer v.seen w.seen))
            w.drawn (λ c below. let m = long.1 in omega arith) second.stamps);
        published = each_append (λ row. IsPrinted past.prints row × IsDrawn past.draws (row_claim row)) v.published
            w.published first.published second.published;
        rows = each_append (IsPrinted past.prints) v.rows w.rows first.rows second.rows;
        met = first.met;
        own = λ weight. let a = serials_both weight in let b = ends_both weight in let c = first.own weight in
            let d = second.own weight in omega arith;
      }

-- A join

module _ (past : Past) (book : BookData) (views : List View) (by : ℕ) (v : View) (other : ℕ) (w : View)
    (at : get_elem? views by ≡ some v) (differ : other ≢ by) (there : get_elem? views other ≡ some w)
    (some_part : 0 < v.parts) where
  abbrev joined_views : List View
  joined_views = set (set views by (both v w)) other spent_view

  still_there : get_elem? (set views by (both v w)) other ≡ some w
  still_there = set_else views by other (both v w) differ ∙ there

  joined_total : (f : View → ℕ) → f (both v w) ≡ f v + f w → f spent_view ≡ 0 → sum_by f joined_views ≡ sum_by f views
  joined_total f sum none =
      let a = total_set f views by v (both v w) at in
      let b = total_set f (set views by (both v w)) other w spent_view still_there in omega arith

  joined_counts : Counts views book past → Counts joined_views book past
  joined_counts counts = record {
    places = λ weight. joined_total (λ u. sum_by weight (known u)) (known_both v w weight) refl ∙ counts.places weight;
    draws = λ weight. joined_total (λ u. sum_by weight u.drawn) (sum_by-append weight v.drawn w.drawn) refl
        ∙ counts.draws weight;
    prints = λ weight. joined_total (λ u. sum_by weight u.published) (sum_by-append weight v.published w.published) refl
        ∙ counts.prints weight;
    running = λ weight. let d = joined_total (λ u. sum_by weight (serials u.drawn)) (serials_both v w weight) refl in
        let e = joined_total (λ u. sum_by weight (ends u)) (ends_both v w weight) refl in
        let c = counts.running weight in omega arith;
    parts = joined_total (λ (u : View). u.parts) refl refl ∙ counts.parts;
  }

  joined_cases : (third : ℕ) (u : View) → get_elem? joined_views third ≡ some u
      → ((spent_view ≡ u) ⊎ (both v w ≡ u)) ⊎ ((third ≢ by) × (third ≢ other) × (get_elem? views third ≡ some u))
  joined_cases third u e = ⊎_elim
      (λ gone. inl (inl gone.1))
      (λ left. ⊎_elim (λ here. inl (inr here.1)) (λ old. inr (old.0, left.0, old.1))
      (at_set views by third (both v w) u left.1))
      (at_set (set views by (both v w)) other third spent_view u e)

  spent_fits : IsOfPast past spent_view
  spent_fits = record {
    seen = (past.log, refl);
    also = (past.log, refl);
    limits = λ some. absurd (omega arith);
    mine = tt;
    theirs = tt;
    drawn = tt;
    stamps = tt;
    published = tt;
    rows = tt;
    met = tt;
    own = λ weight. omega arith;
  }

  joined_here : get_elem? joined_views by ≡ some (both v w)
  joined_here = set_else (set views by (both v w)) other by spent_view (λ same. differ (sym same))
      ∙ set_here views by (both v w) (at_within views by v at)

  seen_all : IsOfPast past v → IsOfPast past w → (v.seen ≡ past.log) ⊎ (w.seen ≡ past.log) → (both v w).seen ≡ past.log
  seen_all first second all = let l = longer_cases v.seen w.seen in ⊎_elim
      (λ t. ⊎_elim (λ mine. t.0 ∙ mine)
      (λ theirs. t.0 ∙ whole_beginning past.log v.seen first.seen
      (let e : length w.seen ≡ length past.log = ap (λ (list : List Entry). length list) theirs in
      let s = t.2 in omega arith))
      all)
      (λ t. ⊎_elim
      (λ mine. absurd (let e : length v.seen ≡ length past.log = ap (λ (list : List Entry). length list) mine in
      let s = t.2 in let b = starts_length past.log w.seen second.seen in omega arith))
      (λ theirs. t.0 ∙ theirs) all)
      l

  joined_ruled : Ruled past book views → Ruled past book joined_views
  joined_ruled ruled = let first = ruled.fits by v at in let second = ruled.fits other w there in record {
    counted = ruled.counted;
    stock = ruled.stock;
    counts = joined_counts ruled.counts;
    fits = λ third u e. ⊎_elim
        (λ changed. ⊎_elim
        (λ gone. subst (λ (x : View). IsOfPast past x) gone spent_fits)
        (λ here. subst (λ (x : View). IsOfPast past x) here (fits_both v w past some_part first second)) changed)
        (λ old. ruled.fits third u old.2)
        (joined_cases third u e);
    longest = (let l = ruled.longest in dite (ℕ_discrete l.0 by)
        (λ same. (
          by,
          both v w,
          joined_here,
          seen_all first second (inl (ap (λ (u : View). u.seen) (some-injective v l.1
              (sym at ∙ ap (λ (n : ℕ). get_elem? views n) (sym same) ∙ l.2)) ∙ l.3)),
        ))
        (λ not_by. dite (ℕ_discrete l.0 other)
        (λ same. (
          by,
          both v w,
          joined_here,
          seen_all first second (inr (ap (λ (u : View). u.seen)
              (some-injective w l.1
              (sym there ∙ ap (λ (n : ℕ). get_elem? views n) (sym same) ∙ l.2)) ∙ l.3)),
        ))
        (λ not_other. (
          l.0,
          l.1,
          set_else (set views by (both v w)) other l.0 spent_view not_other
              ∙ set_else views by l.0 (both v w) not_by ∙ l.2,
          l.3,
        ))));
    spent = λ third u e none. ⊎_elim
        (λ changed. ⊎_elim (λ gone. sym gone)
        (λ here. absurd (let p : v.parts + w.parts ≡ u.parts = ap (λ (x : View). x.parts) here in
        omega arith)) changed)
        (λ old. ruled.spent third u old.2 none)
        (joined_cases third u e);
  }

module _ {B : Type 0} (shown : B → BookData) where
  -- a party takes in another, neither of which holds the gate
  pub joins : (by : ℕ) (v : View) (other : ℕ) (w : View) → 0 < v.parts → v.held ≡ None → w.held ≡ None
      → Joins (RuleKept shown) by v other w (both v w) spent_view
  joins by v other w some_part free free_other s h at differ there_set =
      let there : get_elem? s.views other ≡ some w = sym (set_else s.views by other (both v w) differ) ∙ there_set in
      let no_holder : (n : ℕ) (u : View) → u.held ≡ None → get_elem? s.views n ≡ some u → (shut : IsShut shown s h.book)
      → shut.holder ≢ n = (λ n u free_u e shut same. none-some h.book (sym free_u
      ∙ ap (λ (x : View). x.held) (some-injective u shut.holding
      (sym e ∙ ap (λ (k : ℕ). get_elem? s.views k) (sym same) ∙ shut.there)) ∙ shut.holds)) in
      kept_of shown _ h.past h.book h.one
      (⊎_elim
      (λ open_gate. inl (record {
        word = open_gate.word;
        inside = open_gate.inside;
        home = open_gate.home;
        is_book = open_gate.is_book;
        free = λ third u e. ⊎_elim
            (λ changed. ⊎_elim (λ gone. sym (ap (λ (x : View). x.held) gone))
            (λ here. sym (ap (λ (x : View). x.held) here) ∙ free) changed)
            (λ old. open_gate.free third u old.2)
            (joined_cases h.past h.book s.views by v other w at differ there some_part third u e);
      }))
      (λ shut. inr (record {
        word = shut.word;
        holder = shut.holder;
        holding = shut.holding;
        there = set_else (set s.views by (both v w)) other shut.holder spent_view
            (no_holder other w free_other there shut)
            ∙ set_else s.views by shut.holder (both v w) (no_holder by v free at shut) ∙ shut.there;
        holds = shut.holds;
        others = λ third u other_than e. ⊎_elim
            (λ changed. ⊎_elim (λ gone. sym (ap (λ (x : View). x.held) gone))
            (λ here. sym (ap (λ (x : View). x.held) here) ∙ free) changed)
            (λ old. shut.others third u other_than old.2)
            (joined_cases h.past h.book s.views by v other w at differ there some_part third u e);
      }))
      h.gate)
      (joined_ruled h.past h.book s.views by v other w at differ there some_part (ruled_of shown s h))

  fits_settled : (past : Past) (v : View) → IsOfPast past v → IsOfPast past (settled v)
  fits_settled past v fits = record {
    seen = fits.seen;
    also = (past.log, refl);
    limits = fits.limits;
    mine = fits.mine;
    theirs = fits.theirs;
    drawn = fits.drawn;
    stamps = fits.stamps;
    published = fits.published;
    rows = fits.rows;
    met = fits.met;
    own = fits.own;
  }

  settled_ruled : (past : Past) (book : BookData) (views : List View) (by : ℕ) (v : View) → get_elem? views by ≡ some v
      → 0 < v.parts → Ruled past book views → Ruled past book (set views by (settled v))
  settled_ruled past book views by v at some_part ruled =
      ruled_set past past book book views by v (settled v) at ruled ruled.counted ruled.stock
      (record {
        places = λ weight. refl;
        draws = λ weight. refl;
        prints = λ weight. refl;
        running = λ weight. refl;
        parts = refl;
      })
      (fits_settled past v (ruled.fits by v at)) (λ u f. f) (inr (refl, refl)) some_part

  -- the look at the gate behind a join
  pub compares : (slots by : ℕ) (v : View) → 0 < v.parts → v.held ≡ None → length v.also ≤ length v.seen
      → Allows (RuleKept shown) slots by (v, []) 0 (λ n. n) (Compares {B = B} (v, []))
  compares slots by v some_part free short s h wide at bound =
      let fits = h.fits by v at in (
        settled v,
        keeps,
        tt,
        subst (λ (words : List ℕ). RuleKept shown (record {
          words = words;
          homes = s.homes;
          views =
              set s.views by (settled v);
        }))
            (one_word s.words h.one)
            (kept_of shown _ h.past h.book h.one (gate_settled s h by v free at)
            (settled_ruled h.past h.book s.views by v at some_part (ruled_of shown s h))),
        (refl, both_begin h.past.log v.seen v.also fits.seen fits.also short),
      )
    where
      one_word : (words : List ℕ) → length words ≡ 1 → words ≡ set words 0 (get_or words 0 0)
      one_word [] one = refl
      one_word (word ∷ words) one = refl

      gate_settled : (s : State (Option B) View) (h : RuleKept shown s) (by : ℕ) (v : View) → v.held ≡ None
          → get_elem? s.views by ≡ some v
          → IsOpen shown (record { words = s.words; homes = s.homes; views = set s.views by (settled v) }) h.book
          ⊎ IsShut shown (record { words = s.words; homes = s.homes; views = set s.views by (settled v) }) h.book
      gate_settled s h by v free at = ⊎_elim
          (λ open_gate. inl (record {
            word = open_gate.word;
            inside = open_gate.inside;
            home = open_gate.home;
            is_book = open_gate.is_book;
            free = λ other u e. ⊎_elim
                (λ here. sym (ap (λ (x : View). x.held) here.1) ∙ free)
                (λ old. open_gate.free other u old.1)
                (at_set s.views by other (settled v) u e);
          }))
          (λ shut. inr (record {
            word = shut.word;
            holder = shut.holder;
            holding = shut.holding;
            there = set_else s.views by shut.holder (settled v)
                (λ same. none-some h.book (sym free ∙ ap (λ (x : View). x.held) (some-injective v shut.holding
                (sym at ∙ ap (λ (k : ℕ). get_elem? s.views k) (sym same) ∙ shut.there)) ∙ shut.holds))
                ∙ shut.there;
            holds = shut.holds;
            others = λ other u differ e. ⊎_elim
                (λ here. sym (ap (λ (x : View). x.held) here.1) ∙ free)
                (λ old. shut.others other u differ old.1)
                (at_set s.views by other (settled v) u e);
          }))
          h.gate

-- How far the workers are: at the start, after an attempt, with the parts in another order, and once a hand is joined.
use Rattle.std.proofs.Common.{◌≡◌, ℕ, zero, suc, zero-le, ◌+◌, ◌<◌, ◌≤◌, List, [], ◌∷◌, ◌++◌, Option, Some, None, false, Ok, IfSome, is_some, true≢false, refl, sym, ap, ap₂, ◌∙◌, subst, inl, inr, ⊎_elim, arith, set, append_assoc, sum_by}
use Rattle.std.specs.List.{slice_get}
use Rattle.std.specs.Option.{option_map}
use Rattle.std.proofs.lemmas.List.{append-nil}
use Rattle.std.proofs.lemmas.List.Sums.{sum_by-append}
use Rattle.std.proofs.lemmas.Option.{none-some, same_Some}
use mathlib.Core.Logic.{dite}
use native.Mathlib.Decide.{ℕ_discrete}
use Rattle.dita_doc.specs.declared.fact.FactKey.{FactKey}
use Rattle.facts.specs.Rows.{Claim, RowData, Stands, row_data}
use Rattle.facts.specs.declared.row.Row.{Row}
use Rattle.desk_lock.specs.Calls.{Joins}
use Rattle.desk_lock.specs.Knows.{arrived, both, ends, longer, row_serials, serials, settled, with_session}
use Rattle.desk_lock.specs.Lists.{Each, StartsWith}
use Rattle.desk_lock.specs.declared.view.View.{View}
use Rattle.desk_work.specs.Attempts.{Attempts, GoesOnAt, Got, job_seen}
use Rattle.desk_work.specs.Dealing.{SameItems}
use Rattle.desk_work.specs.Work.{Basis, Cites, IsCitedBy, IsMadeFor, Job, Progress, Worked, cited_weight}
use Rattle.desk_work.proofs.Lists.{each_append, each_at, each_from, each_onward, each_set, each_starts, if_some_onward, map_both_weigh, set_leaves, set_stands, set_weighs, stands_left, stands_right, stands_starts, starts_longer, starts_same, starts_then}

-- a part that is set to what it is
pub set_same : {X : Type 0} (xs : List X) (k : ℕ) (x : X) → slice_get xs k ≡ Some x → set xs k x ≡ xs
set_same [] k x e = refl
set_same (y ∷ ys) zero x e = ap (λ z. z ∷ ys) (sym (same_Some y x e))
set_same (y ∷ ys) (suc k) x e = ap (λ zs. y ∷ zs) (set_same ys k x e)

abbrev weight_of : (RowData → ℕ) → Job → ℕ
weight_of weight job = cited_weight weight job.row

module _ (basis : Basis) where
  -- What workers did, one after the other

  nothing_worked : (v : View) → Worked basis v v []
  nothing_worked v = record {
    seen = starts_same v.seen;
    session = refl;
    limits = refl;
    mine = refl;
    theirs = refl;
    published = sym (append-nil v.published);
    drawn = starts_same v.drawn;
    released = starts_same v.released;
    known = starts_same v.rows;
    met = starts_same v.met;
    stand = tt;
    ended = λ weight. refl;
    fits = tt;
    above = tt;
  }

  worked_then : (v u w : View) (rows more : List RowData) → Worked basis v u rows → Worked basis u w more
      → Worked basis v w (rows ++ more)
  worked_then v u w rows more first then = record {
    seen = starts_then w.seen u.seen v.seen then.seen first.seen;
    session = then.session ∙ first.session;
    limits = then.limits ∙ first.limits;
    mine = then.mine ∙ first.mine;
    theirs = then.theirs ∙ first.theirs;
    published = then.published ∙ ap (λ list. list ++ more) first.published ∙ append_assoc v.published rows more;
    drawn = starts_then w.drawn u.drawn v.drawn then.drawn first.drawn;
    released = starts_then w.released u.released v.released then.released first.released;
    known = starts_then w.rows u.rows v.rows then.known first.known;
    met = starts_then w.met u.met v.met then.met first.met;
    stand = each_append (Stands w.rows) rows more
        (each_onward (Stands u.rows) (Stands w.rows) rows
        (λ row stands. stands_starts w.rows u.rows row then.known stands) first.stand) then.stand;
    ended = λ weight. let a = first.ended weight in let b = then.ended weight in omega arith;
    fits = each_append (IsMadeFor basis) rows more first.fits then.fits;
    above = each_append (λ (row : RowData). Each (λ (old : RowData). old.mark < row.serial) v.rows) rows more first.above
        (each_onward (λ (row : RowData). Each (λ (old : RowData). old.mark < row.serial) u.rows)
        (λ (row : RowData). Each (λ (old : RowData). old.mark < row.serial) v.rows) more
        (λ row each. each_starts (λ (old : RowData). old.mark < row.serial) u.rows v.rows first.known each) then.above);
  }

  -- What is cited is cited still

  cites_later : (v u w : View) (part : FactKey) (rows more : List RowData) (row : RowData) → StartsWith w.rows u.rows
      → Cites basis v u part rows row → Cites basis v w part (rows ++ more) row
  cites_later v u w part rows more row known cites = record {
    right = cites.right;
    stands = stands_starts w.rows u.rows row known cites.stands;
    source = ⊎_elim (λ made. inl (stands_left rows more row made)) (λ old. inr old) cites.source;
  }

  -- what a hand cites, which knew more than was known at the start
  cites_from : (v u w : View) (part : FactKey) (rows more : List RowData) (row : RowData) → StartsWith u.rows v.rows
      → Cites basis u w part more row → Cites basis v w part (rows ++ more) row
  cites_from v u w part rows more row known cites = record {
    right = cites.right;
    stands = cites.stands;
    source = ⊎_elim (λ made. inl (stands_right rows more row made))
        (λ old. inr (each_starts
        (λ (r : RowData). r.fact.key ≡ part → row.rank < r.rank → basis.means.agrees r.fact basis.snapshot.state → ⊥)
        u.rows v.rows known old)) cites.source;
  }

  abbrev AreCited : View → View → List RowData → List Job → Type 0
  AreCited v w rows jobs = Each (λ (job : Job). IfSome job.row (Cites basis v w job.key rows)) jobs

  cited_later : (v u w : View) (rows more : List RowData) (jobs : List Job) → StartsWith w.rows u.rows
      → AreCited v u rows jobs → AreCited v w (rows ++ more) jobs
  cited_later v u w rows more jobs known done = each_onward
      (λ (job : Job). IfSome job.row (Cites basis v u job.key rows))
      (λ (job : Job). IfSome job.row (Cites basis v w job.key (rows ++ more))) jobs
      (λ job. if_some_onward job.row (Cites basis v u job.key rows) (Cites basis v w job.key (rows ++ more))
      (λ row cites. cites_later v u w job.key rows more row known cites)) done

  -- The start

  none_cited : (v w : View) (rows : List RowData) (jobs : List Job) → Each (λ (job : Job). job.row ≡ None) jobs
      → AreCited v w rows jobs
  none_cited v w rows [] none = tt
  none_cited v w rows (job ∷ jobs) none = (
    subst (λ (row : Option RowData). IfSome row (Cites basis v w job.key rows))
        (sym none.0) tt,
    none_cited v w rows jobs none.1,
  )

  pub progress_start : (v : View) (jobs : List Job) → Each (λ (job : Job). job.row ≡ None) jobs
      → Progress basis v v jobs
  progress_start v jobs none = record {
    rows = [];
    worked = nothing_worked v;
    done = none_cited v v [] jobs none;
    once = λ weight. zero-le;
    among = tt;
  }

  -- Attempts

  pub progress_on : (v u w : View) (jobs : List Job) → Worked basis u w [] → Progress basis v u jobs
      → Progress basis v w jobs
  progress_on v u w jobs worked before = record {
    rows = before.rows ++ [];
    worked = worked_then v u w before.rows [] before.worked worked;
    done = cited_later v u w before.rows [] jobs worked.known before.done;
    once = λ weight. let a = before.once weight in let b = sum_by-append weight before.rows [] in omega arith;
    among = each_append (IsCitedBy jobs) before.rows [] before.among tt;
  }

  -- a row that is cited by a part is cited still once a part without a row gets one
  cited_set : (jobs : List Job) (k : ℕ) (old new : Job) (row : RowData) → slice_get jobs k ≡ Some old → old.row ≡ None
      → IsCitedBy jobs row → IsCitedBy (set jobs k new) row
  cited_set jobs k old new row at none cited = dite (ℕ_discrete cited.1.0 k)
      (λ same. let is : cited.0 ≡ old = same_Some cited.0 old (sym cited.1.1 ∙ ap (slice_get jobs) same ∙ at) in
      absurd (none-some row (sym none ∙ sym (ap (λ (job : Job). job.row) is) ∙ cited.2)))
      (λ differ. (cited.0, (cited.1.0, set_leaves jobs k cited.1.0 new differ ∙ cited.1.1), cited.2))

  set_is_cited : (jobs : List Job) (k : ℕ) (old new : Job) (row one : RowData) → slice_get jobs k ≡ Some old
      → new.row ≡ Some row → one ≡ row → IsCitedBy (set jobs k new) one
  set_is_cited jobs k old new row one at is same =
      (new, (k, set_stands jobs k old new at), is ∙ ap Some (sym same))

  pub progress_row : (v u w : View) (jobs : List Job) (k : ℕ) (old new : Job) (row : RowData)
      → slice_get jobs k ≡ Some old → old.row ≡ None → new.row ≡ Some row → Got basis u new.key row w
      → Progress basis v u jobs → Progress basis v w (set jobs k new)
  progress_row v u w jobs k old new row at none is got before = record {
    rows = before.rows ++ got.rows;
    worked = worked_then v u w before.rows got.rows before.worked got.worked;
    done = each_set (λ (job : Job). IfSome job.row (Cites basis v w job.key (before.rows ++ got.rows))) jobs k new
        (cited_later v u w before.rows got.rows jobs got.worked.known before.done)
        (subst (λ (o : Option RowData). IfSome o (Cites basis v w new.key (before.rows ++ got.rows))) (sym is)
        (cites_from v u w new.key before.rows got.rows row before.worked.known got.cites));
    once = λ weight. once_more weight (before.once weight) (got.once weight);
    among = each_append (IsCitedBy (set jobs k new)) before.rows got.rows
        (each_onward (IsCitedBy jobs) (IsCitedBy (set jobs k new)) before.rows
        (λ one cited. cited_set jobs k old new one at none cited) before.among)
        (each_onward (λ (one : RowData). one ≡ row) (IsCitedBy (set jobs k new)) got.rows
        (λ one same. set_is_cited jobs k old new row one at is same) got.among);
  } where
    once_more : (weight : RowData → ℕ) → sum_by weight before.rows ≤ sum_by (weight_of weight) jobs
        → sum_by weight got.rows ≤ weight row
        → sum_by weight (before.rows ++ got.rows) ≤ sum_by (weight_of weight) (set jobs k new)
    once_more weight first then =
        let a = sum_by-append weight before.rows got.rows in
        let s = set_weighs (weight_of weight) jobs k old new at in
        let o : cited_weight weight old.row ≡ 0 = ap (cited_weight weight) none in
        let n : cited_weight weight new.row ≡ weight row = ap (cited_weight weight) is in
        omega arith

  -- Attempts at one part among others

  pub stays_goes_on : (u w : View) (job : Job) → Worked basis u w [] → GoesOnAt basis u job w job
  stays_goes_on u w job worked jobs k at v before = subst (λ (list : List Job). Progress basis v w list)
      (sym (set_same jobs k job at)) (progress_on v u w jobs worked before)

  pub nothing_goes_on : (u : View) (job : Job) → GoesOnAt basis u job u job
  nothing_goes_on u job jobs k at v before =
      subst (λ (list : List Job). Progress basis v u list) (sym (set_same jobs k job at)) before

  no_row_seen : (row : Option Row) → is_some row ≡ false → option_map row_data row ≡ None
  no_row_seen None none = refl
  no_row_seen (Some row) none = absurd (true≢false none)

  pub row_goes_on : (u w : View) (key : FactKey) (old row : Option Row) → is_some old ≡ false
      → Attempts basis u key (Ok row) w
      → GoesOnAt basis u (job_seen (record { key = key; row = old })) w (job_seen (record { key = key; row = row }))
  row_goes_on u w key old (Some row) none got jobs k at v before = progress_row v u w jobs k
      (job_seen (record { key = key; row = old })) (job_seen (record { key = key; row = Some row })) (row_data row) at
      (no_row_seen old none) refl got before
  row_goes_on u w key old None none worked jobs k at v before =
      let same : job_seen (record { key = key; row = old }) ≡ job_seen (record { key = key; row = None }) =
      ap (λ (one : Option RowData). record { key = key; row = one }) (no_row_seen old none) in
      stays_goes_on u w (job_seen (record { key = key; row = None })) worked jobs k (at ∙ ap Some same) v before

  -- Another order

  pub progress_same : (v w : View) (jobs more : List Job) → SameItems jobs more → Progress basis v w jobs
      → Progress basis v w more
  progress_same v w jobs more same before = record {
    rows = before.rows;
    worked = before.worked;
    done = each_from (λ (job : Job). IfSome job.row (Cites basis v w job.key before.rows)) more (λ k job at.
        let from = same.back job (k, at) in
        each_at (λ (one : Job). IfSome one.row (Cites basis v w one.key before.rows)) jobs from.0 job before.done from.1);
    once = λ weight. let a = before.once weight in let b = same.weigh (weight_of weight) in omega arith;
    among = each_onward (IsCitedBy jobs) (IsCitedBy more) before.rows
        (λ row cited. (cited.0, same.there cited.0 cited.1, cited.2)) before.among;
  }

  -- Joins

  joined_drawn : (weight : ℕ → ℕ) (u other : View)
      → sum_by weight (serials (settled (both u other)).drawn)
      ≡ sum_by weight (serials u.drawn) + sum_by weight (serials other.drawn)
  joined_drawn weight u other = map_both_weigh weight (λ (c : Claim). c.serial) u.drawn other.drawn

  joined_ends : (weight : ℕ → ℕ) (u other : View)
      → sum_by weight (ends (settled (both u other))) ≡ sum_by weight (ends u) + sum_by weight (ends other)
  joined_ends weight u other =
      let a = map_both_weigh weight (λ (r : RowData). r.serial) u.published other.published in
      let b = sum_by-append weight (row_serials (u.published ++ other.published)) (u.released ++ other.released) in
      let c = sum_by-append weight u.released other.released in
      let d = sum_by-append weight (row_serials u.published) u.released in
      let e = sum_by-append weight (row_serials other.published) other.released in
      omega arith

  -- what a hand did that was new when the others began
  module _ (v u from other : View) (session parts : ℕ) (rows more : List RowData) (first : Worked basis v u rows)
      (then : Worked basis (arrived from session parts) other more) (known : StartsWith from.rows v.rows)
      (later : StartsWith (longer u.seen other.seen) u.seen) where
    no_more_theirs : u.theirs ++ other.theirs ++ with_session other.session other.mine ≡ u.theirs
    no_more_theirs = ap₂ (λ (xs : List (ℕ × ℕ)) (ys : List ℕ). u.theirs ++ xs ++ with_session other.session ys)
        then.theirs then.mine ∙ append-nil (u.theirs ++ []) ∙ append-nil u.theirs

    joined_end : (weight : ℕ → ℕ)
        → sum_by weight (serials (u.drawn ++ other.drawn)) + sum_by weight (ends v)
        ≡ sum_by weight (serials v.drawn) + sum_by weight (ends (settled (both u other)))
    joined_end weight =
        let a = first.ended weight in
        let b : sum_by weight (serials other.drawn) + 0 ≡ 0 + sum_by weight (ends other) = then.ended weight in
        let c = joined_drawn weight u other in let d = joined_ends weight u other in
        omega arith

    joined_works : Worked basis v (settled (both u other)) (rows ++ more)
    joined_works = record {
      seen = starts_then (longer u.seen other.seen) u.seen v.seen later first.seen;
      session = first.session;
      limits = first.limits;
      mine = first.mine;
      theirs = no_more_theirs ∙ first.theirs;
      published = ap₂ (λ (xs ys : List RowData). xs ++ ys) first.published then.published
          ∙ append_assoc v.published rows more;
      drawn = starts_longer u.drawn v.drawn other.drawn first.drawn;
      released = starts_longer u.released v.released other.released first.released;
      known = starts_longer u.rows v.rows other.rows first.known;
      met = first.met;
      stand = each_append (Stands (u.rows ++ other.rows)) rows more
          (each_onward (Stands u.rows) (Stands (u.rows ++ other.rows)) rows
          (λ row stands. stands_left u.rows other.rows row stands) first.stand)
          (each_onward (Stands other.rows) (Stands (u.rows ++ other.rows)) more
          (λ row stands. stands_right u.rows other.rows row stands) then.stand);
      ended = λ weight. joined_end weight;
      fits = each_append (IsMadeFor basis) rows more first.fits then.fits;
      above = each_append (λ (row : RowData). Each (λ (old : RowData). old.mark < row.serial) v.rows) rows more
          first.above
          (each_onward (λ (row : RowData). Each (λ (old : RowData). old.mark < row.serial) from.rows)
          (λ (row : RowData). Each (λ (old : RowData). old.mark < row.serial) v.rows) more
          (λ row each. each_starts (λ (old : RowData). old.mark < row.serial) from.rows v.rows known each) then.above);
    }

    joined_cites : (part : FactKey) (row : RowData) → Cites basis (arrived from session parts) other part more row
        → Cites basis v (settled (both u other)) part (rows ++ more) row
    joined_cites part row cites = record {
      right = cites.right;
      stands = stands_right u.rows other.rows row cites.stands;
      source = ⊎_elim (λ made. inl (stands_right rows more row made))
          (λ old. inr (each_starts
          (λ (r : RowData). r.fact.key ≡ part → row.rank < r.rank → basis.means.agrees r.fact basis.snapshot.state → ⊥)
          from.rows v.rows known old)) cites.source;
    }

  -- a part that is cited among some is cited among more
  cited_left : (jobs more : List Job) (row : RowData) → IsCitedBy jobs row → IsCitedBy (jobs ++ more) row
  cited_left jobs more row cited = (cited.0, stands_left jobs more cited.0 cited.1, cited.2)

  cited_right : (jobs more : List Job) (row : RowData) → IsCitedBy more row → IsCitedBy (jobs ++ more) row
  cited_right jobs more row cited = (cited.0, stands_right jobs more cited.0 cited.1, cited.2)

  -- parts that are new are not done yet
  pub progress_new : (v w : View) (jobs more : List Job) → Progress basis v w jobs
      → Each (λ (job : Job). job.row ≡ None) more → Progress basis v w (jobs ++ more)
  progress_new v w jobs more before none = record {
    rows = before.rows;
    worked = before.worked;
    done = each_append (λ (job : Job). IfSome job.row (Cites basis v w job.key before.rows)) jobs more before.done
        (none_cited v w before.rows more none);
    once = λ weight.
        let a = before.once weight in let b = sum_by-append (weight_of weight) jobs more in
        omega arith;
    among = each_onward (IsCitedBy jobs) (IsCitedBy (jobs ++ more)) before.rows
        (λ row cited. cited_left jobs more row cited) before.among;
  }

  joined_progress : (v u from other : View) (session parts : ℕ) (jobs more : List Job) → Progress basis v u jobs
      → StartsWith from.rows v.rows → Progress basis (arrived from session parts) other more
      → StartsWith (longer u.seen other.seen) u.seen → Progress basis v (settled (both u other)) (jobs ++ more)
  joined_progress v u from other session parts jobs more before known hand later =
      let w = settled (both u other) in
      record {
        rows = before.rows ++ hand.rows;
        worked = joined_works v u from other session parts before.rows hand.rows before.worked hand.worked known later;
        done = each_append (λ (job : Job). IfSome job.row (Cites basis v w job.key (before.rows ++ hand.rows))) jobs more
            (cited_later v u w before.rows hand.rows jobs (other.rows, refl) before.done)
            (each_onward
            (λ (job : Job). IfSome job.row (Cites basis (arrived from session parts) other job.key hand.rows))
            (λ (job : Job). IfSome job.row (Cites basis v w job.key (before.rows ++ hand.rows))) more
            (λ job. if_some_onward job.row (Cites basis (arrived from session parts) other job.key hand.rows)
            (Cites basis v w job.key (before.rows ++ hand.rows))
            (λ row cites. joined_cites v u from other session parts before.rows hand.rows before.worked hand.worked known
            later job.key row cites)) hand.done);
        once = λ weight.
            let a = sum_by-append weight before.rows hand.rows in
            let b = sum_by-append (weight_of weight) jobs more in
            let c = before.once weight in let d = hand.once weight in
            omega arith;
        among = each_append (IsCitedBy (jobs ++ more)) before.rows hand.rows
            (each_onward (IsCitedBy jobs) (IsCitedBy (jobs ++ more)) before.rows
            (λ row cited. cited_left jobs more row cited) before.among)
            (each_onward (IsCitedBy more) (IsCitedBy (jobs ++ more)) hand.rows
            (λ row cited. cited_right jobs more row cited) hand.among);
      }

  -- once a hand is joined, the pass is on with its parts too
  pub progress_join : (v u from other w : View) (session parts : ℕ) (jobs more : List Job) → Progress basis v u jobs
      → StartsWith from.rows v.rows → Progress basis (arrived from session parts) other more → Joins u other w
      → Progress basis v w (jobs ++ more)
  progress_join v u from other w session parts jobs more before known hand joins =
      subst (λ (x : View). Progress basis v x (jobs ++ more)) (sym joins.knows)
      (joined_progress v u from other session parts jobs more before known hand
      (subst (λ (x : View). StartsWith x.seen u.seen) joins.knows joins.later))

-- An entry more, or a claim more, keeps the rule.
use Rattle.std.proofs.Common.{◌≡◌, ℕ, suc, ◌+◌, ◌<◌, ◌≤◌, List, [], ◌∷◌, ◌++◌, refl, sym, ap, ◌∙◌, subst, inl, ⊎_elim, arith, length, set, length-append, sum_by}
use Rattle.std.specs.List.{slice_get}
use Rattle.std.proofs.lemmas.List.{append-nil}
use Rattle.std.proofs.lemmas.List.Sums.{sum_by-cons, sum_by_push}
use mathlib.Core.Option.{some}
use lib.ListN.{get_elem?}
use Rattle.dita_doc.specs.History.{Entry}
use Rattle.dita_doc.proofs.Lists.{get_front, get_pushed}
use Rattle.facts.specs.Rows.{Claim, RowData, Running, claim_of}
use Rattle.desk_core.specs.Book.{BookData}
use Rattle.desk_lock.specs.Knows.{drew, made, with_session}
use Rattle.desk_lock.specs.Past.{IsCounted, IsDrawn, IsMade, IsPrinted, Past, placed, row_claim}
use Rattle.desk_lock.specs.Rule.{IsOfPast, Stocked}
use Rattle.desk_lock.specs.declared.view.View.{View}
use Rattle.desk_lock.proofs.EventLaws.{each_map, each_with, get_either, stamps_seen, starts_longer}
use Rattle.desk_lock.proofs.RuledLaws.{Ruled, ruled_set}
use Rattle.desk_lock.proofs.Weights.{sum_by-map}

-- Weights of places

session_more : (weight : ℕ × ℕ → ℕ) (session : ℕ) (mine : List ℕ) (place : ℕ) (theirs : List (ℕ × ℕ))
    → sum_by weight (with_session session (mine ++ place ∷ []) ++ theirs)
    ≡ sum_by weight (with_session session mine ++ theirs) + weight (place, session)
session_more weight session [] place theirs = let c = sum_by-cons weight (place, session) theirs in omega arith
session_more weight session (m ∷ mine) place theirs =
    let c = sum_by-cons weight (m, session) (with_session session (mine ++ place ∷ []) ++ theirs) in
    let d = sum_by-cons weight (m, session) (with_session session mine ++ theirs) in
    let r = session_more weight session mine place theirs in omega arith

placed_more : (weight : ℕ × ℕ → ℕ) (from : ℕ) (log : List Entry) (entry : Entry)
    → sum_by weight (placed from (log ++ entry ∷ []))
    ≡ sum_by weight (placed from log) + weight (from + length log, entry.session)
placed_more weight from [] entry =
    let here : weight (from, entry.session) ≡ weight (from + 0, entry.session) =
    ap (λ (n : ℕ). weight (n, entry.session)) (omega arith) in
    let c = sum_by-cons weight (from, entry.session) [] in omega arith
placed_more weight from (e ∷ log) entry =
    let c = sum_by-cons weight (from, e.session) (placed (from + 1) (log ++ entry ∷ [])) in
    let d = sum_by-cons weight (from, e.session) (placed (from + 1) log) in
    let r = placed_more weight (from + 1) log entry in
    let here : weight (from + 1 + length log, entry.session) ≡ weight (from + suc (length log), entry.session) =
    ap (λ (n : ℕ). weight (n, entry.session)) (omega arith) in
    omega arith

-- An entry more

module _ (past : Past) (entry : Entry) where
  abbrev pub logged : Past
  logged = record past { log = past.log ++ entry ∷ [] }

  made_longer : (place session : ℕ) → IsMade past.log place session → IsMade logged.log place session
  made_longer place session made = (made.0, get_front past.log (entry ∷ []) place made.0 made.1, made.2)

  counted_logged : IsCounted past → IsCounted logged
  counted_logged counted =
      record { draws = counted.draws; ranks = counted.ranks; marks = counted.marks; plans = counted.plans }

  fits_logged : (u : View) → IsOfPast past u → IsOfPast logged u
  fits_logged u fits = record {
    seen = starts_longer past.log u.seen (entry ∷ []) fits.seen;
    also = starts_longer past.log u.also (entry ∷ []) fits.also;
    limits = fits.limits;
    mine = each_map (λ place. IsMade past.log place u.session) (λ place. IsMade logged.log place u.session) u.mine
        (λ place. made_longer place u.session) fits.mine;
    theirs = each_map (λ (x : ℕ × ℕ). IsMade past.log x.0 x.1) (λ (x : ℕ × ℕ). IsMade logged.log x.0 x.1) u.theirs
        (λ x. made_longer x.0 x.1) fits.theirs;
    drawn = fits.drawn;
    stamps = fits.stamps;
    published = fits.published;
    rows = fits.rows;
    met = fits.met;
    own = fits.own;
  }

  fits_made : (v : View) (place : ℕ) → place ≡ length past.log → entry.session ≡ v.session → IsOfPast past v
      → IsOfPast logged (made v logged.log place)
  fits_made v place at session fits = let longer = fits_logged v fits in record {
    seen = ([], sym (append-nil logged.log));
    also = longer.also;
    limits = fits.limits;
    mine = each_with (λ place. IsMade logged.log place v.session) v.mine place longer.mine
        (entry, ap (λ (n : ℕ). slice_get logged.log n) at ∙ get_pushed past.log entry, session);
    theirs = longer.theirs;
    drawn = fits.drawn;
    stamps = stamps_seen past v fits logged.log longer.seen;
    published = fits.published;
    rows = fits.rows;
    met = fits.met;
    own = fits.own;
  }

  abbrev pub with_entry : BookData → BookData
  with_entry book =
      record book { store = record book.store { history = book.store.history ++ entry ∷ [] } }

  stocked_logged : (book : BookData) → Stocked book past → Stocked (with_entry book) logged
  stocked_logged book stock = record {
    history = ap (λ (log : List Entry). log ++ entry ∷ []) stock.history;
    limits = stock.limits;
    drawn = stock.drawn;
    running = stock.running;
    dropped = stock.dropped;
    rows = stock.rows;
    over = stock.over;
  }

  pub ruled_made : (book : BookData) (views : List View) (by : ℕ) (v : View) (place : ℕ) → get_elem? views by ≡ some v
      → 0 < v.parts → place ≡ length past.log → entry.session ≡ v.session → Ruled past book views
      → Ruled logged (with_entry book) (set views by (made v logged.log place))
  ruled_made book views by v place at some_part place_is session ruled =
      ruled_set past logged book (with_entry book) views by v (made v logged.log place) at ruled
      (counted_logged ruled.counted) (stocked_logged book ruled.stock)
      (record {
        places = λ weight.
            let m = session_more weight v.session v.mine place v.theirs in
            let p = placed_more weight 0 past.log entry in
            let same : weight (place, v.session) ≡ weight (0 + length past.log, entry.session) =
            ap (λ (n : ℕ). weight (n, v.session)) (place_is ∙ omega arith)
            ∙ ap (λ (s : ℕ). weight (0 + length past.log, s)) (sym session) in
            omega arith;
        draws = λ weight. refl;
        prints = λ weight. refl;
        running = λ weight. refl;
        parts = refl;
      })
      (fits_made v place place_is session (ruled.fits by v at)) fits_logged (inl refl) some_part

-- A claim more

module _ (past : Past) (claim : Claim) where
  abbrev pub granted : Past
  granted = record past { draws = past.draws ++ claim ∷ [] }

  drawn_longer : (other : Claim) → IsDrawn past.draws other → IsDrawn granted.draws other
  drawn_longer other drawn = (drawn.0, get_front past.draws (claim ∷ []) drawn.0 other drawn.1, drawn.2)

  counted_granted : claim.serial ≡ suc (length past.draws) → IsCounted past → IsCounted granted
  counted_granted serial counted = record {
    draws = λ before other e. ⊎_elim
        (λ there. counted.draws before other there)
        (λ here. sym (ap (λ (c : Claim). c.serial) here.1) ∙ serial ∙ ap suc (sym here.0))
        (get_either past.draws claim before other e);
    ranks = counted.ranks;
    marks = λ before row e. let m = counted.marks before row e in let l = length-append past.draws (claim ∷ []) in
        (m.0, (let below = m.1 in omega arith));
    plans = counted.plans;
  }

  published_longer : (row : RowData) → IsPrinted past.prints row × IsDrawn past.draws (row_claim row)
      → IsPrinted granted.prints row × IsDrawn granted.draws (row_claim row)
  published_longer row both = (both.0, drawn_longer (row_claim row) both.1)

  fits_granted : (u : View) → IsOfPast past u → IsOfPast granted u
  fits_granted u fits = record {
    seen = fits.seen;
    also = fits.also;
    limits = fits.limits;
    mine = fits.mine;
    theirs = fits.theirs;
    drawn = each_map (IsDrawn past.draws) (IsDrawn granted.draws) u.drawn drawn_longer fits.drawn;
    stamps = fits.stamps;
    published = each_map (λ row. IsPrinted past.prints row × IsDrawn past.draws (row_claim row))
        (λ row. IsPrinted granted.prints row × IsDrawn granted.draws (row_claim row)) u.published published_longer
        fits.published;
    rows = fits.rows;
    met = each_map (IsDrawn past.draws) (IsDrawn granted.draws) u.met drawn_longer fits.met;
    own = fits.own;
  }

  claim_is_drawn : claim.serial ≡ suc (length past.draws) → IsDrawn granted.draws claim
  claim_is_drawn serial = (length past.draws, get_pushed past.draws claim, serial)

  fits_drew : (v : View) → claim.serial ≡ suc (length past.draws) → claim.stamp ≤ length past.log → IsOfPast past v
      → IsOfPast granted (drew v past.log claim)
  fits_drew v serial stamp fits = let longer = fits_granted v fits in record {
    seen = ([], sym (append-nil past.log));
    also = fits.also;
    limits = fits.limits;
    mine = fits.mine;
    theirs = fits.theirs;
    drawn = each_with (IsDrawn granted.draws) v.drawn claim longer.drawn (claim_is_drawn serial);
    stamps = each_with (λ (c : Claim). c.stamp ≤ length past.log) v.drawn claim
        (stamps_seen past v fits past.log fits.seen) stamp;
    published = longer.published;
    rows = fits.rows;
    met = longer.met;
    own = λ weight.
        let m = sum_by-map weight (λ (c : Claim). c.serial) (v.drawn ++ claim ∷ []) in
        let n = sum_by-map weight (λ (c : Claim). c.serial) v.drawn in
        let p = sum_by_push (λ (c : Claim). weight c.serial) v.drawn claim in
        let o = fits.own weight in omega arith;
  }

  -- the claim runs
  abbrev pub with_claim : BookData → Running → BookData
  with_claim book one = record book {
    table = record book.table { running = book.table.running ++ one ∷ []; drawn = book.table.drawn + 1 };
  }

  stocked_granted : (book : BookData) (one : Running) → claim_of one ≡ claim → claim.serial ≡ suc (length past.draws)
      → Stocked book past → Stocked (with_claim book one) granted
  stocked_granted book one is serial stock = record {
    history = stock.history;
    limits = stock.limits;
    drawn = (let d = stock.drawn in let l = length-append past.draws (claim ∷ []) in omega arith);
    running = each_with (λ (r : Running). IsDrawn granted.draws (claim_of r)) book.table.running one
        (each_map (λ (r : Running). IsDrawn past.draws (claim_of r))
        (λ (r : Running). IsDrawn granted.draws (claim_of r))
        book.table.running (λ r. drawn_longer (claim_of r)) stock.running)
        (subst (λ (c : Claim). IsDrawn granted.draws c) (sym is) (claim_is_drawn serial));
    dropped = stock.dropped;
    rows = stock.rows;
    over = stock.over;
  }

  pub ruled_drew : (book : BookData) (one : Running) (views : List View) (by : ℕ) (v : View)
      → get_elem? views by ≡ some v
      → 0 < v.parts → claim_of one ≡ claim → claim.serial ≡ suc (length past.draws) → claim.stamp ≤ length past.log
      → Ruled past book views → Ruled granted (with_claim book one) (set views by (drew v past.log claim))
  ruled_drew book one views by v at some_part is serial stamp ruled =
      ruled_set past granted book (with_claim book one) views by v (drew v past.log claim) at ruled
      (counted_granted serial ruled.counted) (stocked_granted book one is serial ruled.stock)
      (record {
        places = λ weight. refl;
        draws = λ weight. let p = sum_by_push weight v.drawn claim in
            let q = sum_by_push weight past.draws claim in omega arith;
        prints = λ weight. refl;
        running = λ weight.
            let m = sum_by-map weight (λ (c : Claim). c.serial) (v.drawn ++ claim ∷ []) in
            let n = sum_by-map weight (λ (c : Claim). c.serial) v.drawn in
            let p = sum_by_push (λ (c : Claim). weight c.serial) v.drawn claim in
            let r = sum_by-map weight (λ (r : Running). r.serial) (book.table.running ++ one ∷ []) in
            let s = sum_by-map weight (λ (r : Running). r.serial) book.table.running in
            let q = sum_by_push (λ (r : Running). weight r.serial) book.table.running one in
            let same : weight one.serial ≡ weight claim.serial = ap (λ (c : Claim). weight c.serial) is in
            omega arith;
        parts = refl;
      })
      (fits_drew v serial stamp (ruled.fits by v at)) fits_granted (inl refl) some_part

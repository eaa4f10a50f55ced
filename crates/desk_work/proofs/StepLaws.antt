-- What each way in which an attempt goes does to what a worker knows: nothing was published, or one row, and no claim is
-- left.
use Rattle.std.proofs.Common.{◌≡◌, ℕ, ◌+◌, ◌<◌, ◌≤◌, List, [], ◌∷◌, ◌++◌, Option, Some, None, IfSome, refl, sym, ap, ◌∙◌, subst, inl, inr, arith, length, length-append, sum_by, zero-le}
use Rattle.std.proofs.lemmas.List.{append-nil}
use Rattle.std.proofs.lemmas.List.Sums.{sum_by-append, sum_by-cons}
use Rattle.dita_doc.specs.Desk.{State}
use Rattle.dita_doc.specs.History.{Entry, sources}
use Rattle.dita_doc.specs.declared.fact.FactKey.{FactKey}
use Rattle.facts.specs.Rows.{Claim, RowData, Stands}
use Rattle.facts.specs.Table.{row_bytes}
use Rattle.facts.specs.declared.fact.Fact.{Fact}
use Rattle.version_store.proofs.HistoryLaws.{sources_prefix}
use Rattle.desk_core.specs.Book.{SnapshotData}
use Rattle.desk_core.specs.Steps.{IsSnapshotOf}
use Rattle.desk_language.specs.Language as language_spec
use Rattle.desk_lock.specs.Calls.{Draws, Gives, Looks, Meets, Publishes, Releases, RestsOnPlan}
use Rattle.desk_lock.specs.Knows.{drew, given, has_met, let_go, looked, printed, row_serials, serials}
use Rattle.desk_lock.specs.Lists.{Each, StartsWith}
use Rattle.desk_lock.specs.Meaning.{IsRightRow, NoLaterAgrees}
use Rattle.desk_lock.specs.declared.view.View.{View}
use Rattle.desk_work.specs.Attempts.{Got}
use Rattle.desk_work.specs.Makers.{IsMade, RestsOn}
use Rattle.desk_work.specs.Work.{Basis, IsMadeFor, Worked}
use Rattle.desk_work.proofs.Lists.{map_push_weighs, stands_last, starts_same, starts_then}

-- The history was seen up to the snapshot, and more of it since

later_sources : (log seen : List Entry) (stamp : ℕ) → StartsWith log seen → stamp ≤ length seen
    → sources log stamp ≡ sources seen stamp
later_sources log seen stamp starts within =
    ap (λ (entries : List Entry). sources entries stamp) starts.1 ∙ sources_prefix seen starts.0 stamp within

starts_within : (log seen : List Entry) → StartsWith log seen → length seen ≤ length log
starts_within log seen starts =
    let l : length log ≡ length (seen ++ starts.0) = ap (λ (entries : List Entry). length entries) starts.1 in
    let a = length-append seen starts.0 in omega arith

pub snapshot_stays : (log seen : List Entry) (snapshot : SnapshotData) → StartsWith log seen → IsSnapshotOf seen snapshot
    → IsSnapshotOf log snapshot
snapshot_stays log seen snapshot starts of = record {
  within = let w = of.within in let l = starts_within log seen starts in omega arith;
  state = of.state ∙ sym (later_sources log seen snapshot.stamp starts of.within);
}

-- the plan on which a fact rests is known
pub rests_known : (u : View) (plan : Option RowData) (fact : Fact) → IfSome plan (Stands u.rows) → RestsOn plan fact
    → RestsOnPlan u fact
rests_known u None fact knows rests = inl rests
rests_known u (Some row) fact knows rests = inr (row, knows, sym rests.0, sym rests.1)

-- Weights of what is drawn and ended

printed_weighs : (weight : ℕ → ℕ) (drawn : List Claim) (claim : Claim) (published : List RowData) (row : RowData)
    (released : List ℕ) → row.serial ≡ claim.serial
    → sum_by weight (serials (drawn ++ claim ∷ [])) + sum_by weight (row_serials published ++ released)
    ≡ sum_by weight (serials drawn) + sum_by weight (row_serials (published ++ row ∷ []) ++ released)
printed_weighs weight drawn claim published row released same =
    let a = sum_by-append weight (row_serials published) released in
    let b = sum_by-append weight (row_serials (published ++ row ∷ [])) released in
    let p = map_push_weighs weight (λ (c : Claim). c.serial) drawn claim in
    let q = map_push_weighs weight (λ (r : RowData). r.serial) published row in
    let s : weight row.serial ≡ weight claim.serial = ap weight same in
    omega arith

let_go_weighs : (weight : ℕ → ℕ) (drawn : List Claim) (claim : Claim) (published : List RowData) (released : List ℕ)
    (serial : ℕ) → serial ≡ claim.serial
    → sum_by weight (serials (drawn ++ claim ∷ [])) + sum_by weight (row_serials published ++ released)
    ≡ sum_by weight (serials drawn) + sum_by weight (row_serials published ++ (released ++ serial ∷ []))
let_go_weighs weight drawn claim published released serial same =
    let a = sum_by-append weight (row_serials published) released in
    let b = sum_by-append weight (row_serials published) (released ++ serial ∷ []) in
    let d = sum_by-append weight released (serial ∷ []) in
    let e = sum_by-cons weight serial [] in
    let p = map_push_weighs weight (λ (c : Claim). c.serial) drawn claim in
    let s : weight serial ≡ weight claim.serial = ap weight same in
    omega arith

module _ (basis : Basis) where
  -- Each way as a view

  looked_works : (v : View) (log : List Entry) → StartsWith log v.seen → Worked basis v (looked v log) []
  looked_works v log later = record {
    seen = later;
    session = refl;
    limits = refl;
    mine = refl;
    theirs = refl;
    published = sym (append-nil v.published);
    drawn = starts_same v.drawn;
    released = starts_same v.released;
    known = starts_same v.rows;
    met = starts_same v.met;
    stand = tt;
    ended = λ weight. refl;
    fits = tt;
    above = tt;
  }

  met_works : (v : View) (log : List Entry) (claim : Claim) → StartsWith log v.seen
      → Worked basis v (has_met v log claim) []
  met_works v log claim later = record {
    seen = later;
    session = refl;
    limits = refl;
    mine = refl;
    theirs = refl;
    published = sym (append-nil v.published);
    drawn = starts_same v.drawn;
    released = starts_same v.released;
    known = starts_same v.rows;
    met = (claim ∷ [], refl);
    stand = tt;
    ended = λ weight. refl;
    fits = tt;
    above = tt;
  }

  given_works : (v : View) (log : List Entry) (row : RowData) → StartsWith log v.seen
      → Worked basis v (given v log row) []
  given_works v log row later = record {
    seen = later;
    session = refl;
    limits = refl;
    mine = refl;
    theirs = refl;
    published = sym (append-nil v.published);
    drawn = starts_same v.drawn;
    released = starts_same v.released;
    known = (row ∷ [], refl);
    met = starts_same v.met;
    stand = tt;
    ended = λ weight. refl;
    fits = tt;
    above = tt;
  }

  let_go_works : (v : View) (log next : List Entry) (claim : Claim) (serial : ℕ) → StartsWith next v.seen
      → serial ≡ claim.serial → Worked basis v (let_go (drew v log claim) next serial) []
  let_go_works v log next claim serial later same = record {
    seen = later;
    session = refl;
    limits = refl;
    mine = refl;
    theirs = refl;
    published = sym (append-nil v.published);
    drawn = (claim ∷ [], refl);
    released = (serial ∷ [], refl);
    known = starts_same v.rows;
    met = starts_same v.met;
    stand = tt;
    ended = λ weight. let_go_weighs weight v.drawn claim v.published v.released serial same;
    fits = tt;
    above = tt;
  }

  printed_works : (v : View) (log next : List Entry) (claim : Claim) (row : RowData) → StartsWith next v.seen
      → row.serial ≡ claim.serial → IsMadeFor basis row
      → Each (λ (old : RowData). old.mark < row.serial) v.rows
      → Worked basis v (printed (drew v log claim) next row) (row ∷ [])
  printed_works v log next claim row later same fits above = record {
    seen = later;
    session = refl;
    limits = refl;
    mine = refl;
    theirs = refl;
    published = refl;
    drawn = (claim ∷ [], refl);
    released = starts_same v.released;
    known = (row ∷ [], refl);
    met = starts_same v.met;
    stand = (stands_last v.rows row, tt);
    ended = λ weight. printed_weighs weight v.drawn claim v.published row v.released same;
    fits = (fits, tt);
    above = (above, tt);
  }

  -- The ends of an attempt

  pub looks_works : (v w : View) → Looks v w → Worked basis v w []
  looks_works v w looks = subst (λ (x : View). Worked basis v x []) (sym looks.knows)
      (looked_works v w.seen looks.later)

  pub meets_works : (v w : View) (part : FactKey) (stamp serial : ℕ) → Meets v part stamp serial w → Worked basis v w []
  meets_works v w part stamp serial meets = subst (λ (x : View). Worked basis v x []) (sym meets.knows)
      (met_works v w.seen (record { serial = serial; key = part; stamp = stamp }) meets.later)

  gives_got : (v : View) (log : List Entry) (part : FactKey) (row : RowData) → StartsWith log v.seen
      → IsRightRow basis.means row part basis.snapshot.state → NoLaterAgrees basis.means v.rows row part basis.snapshot.state
      → Got basis v part row (given v log row)
  gives_got v log part row later right latest = record {
    rows = [];
    worked = given_works v log row later;
    cites = record { right = right; stands = stands_last v.rows row; source = inr latest };
    once = λ weight. zero-le;
    among = tt;
  }

  pub gives_works : (v w : View) (part : FactKey) (row : RowData) → Gives basis.means v part basis.snapshot.state row w
      → Got basis v part row w
  gives_works v w part row gives = subst (λ (x : View). Got basis v part row x) (sym gives.knows)
      (gives_got v w.seen part row gives.later gives.right gives.latest)

  pub releases_works : (v u w : View) (part : FactKey) (stamp : ℕ) (claim : Claim) → Draws v part stamp claim u
      → Releases u claim.serial w → Worked basis v w []
  releases_works v u w part stamp claim draws releases =
      subst (λ (x : View). Worked basis v x [])
      (sym (releases.knows ∙ ap (λ (x : View). let_go x w.seen claim.serial) draws.knows))
      (let_go_works v u.seen w.seen claim claim.serial (starts_then w.seen u.seen v.seen releases.later draws.later) refl)

  -- What is made

  claim_sources : (v : View) (log : List Entry) (claim : Claim) → claim.stamp ≡ basis.snapshot.stamp
      → StartsWith log v.seen → IsSnapshotOf v.seen basis.snapshot → sources log claim.stamp ≡ basis.snapshot.state
  claim_sources v log claim stamped later of =
      ap (λ n. sources log n) stamped ∙ later_sources log v.seen basis.snapshot.stamp later of.within ∙ sym of.state

  published_fits : (v u w : View) (part : FactKey) (plan : Option RowData) (claim : Claim) (fact : Fact) (row : RowData)
      → IsSnapshotOf v.seen basis.snapshot → Draws v part basis.snapshot.stamp claim u
      → IsMade basis.means basis.language basis.snapshot.state plan part fact → Publishes u claim fact row w
      → IsMadeFor basis row
  published_fits v u w part plan claim fact row of draws made publishes = record {
    stamped = ap (λ (c : Claim). c.stamp) publishes.claimed ∙ draws.stamped;
    counts = publishes.counts
        ∙ ap (λ (state : State). row_bytes fact state) (claim_sources v w.seen claim draws.stamped
        (starts_then w.seen u.seen v.seen publishes.later draws.later) of)
        ∙ ap (λ n. language_spec.row_bytes (length basis.snapshot.state) n) made.right.counts
        ∙ ap (λ (f : Fact). language_spec.part_bytes basis.language basis.snapshot.state f.key) (sym publishes.keeps);
    right = subst (λ (f : Fact). IsRightRow basis.means (record row { fact = f }) f.key basis.snapshot.state)
        (sym publishes.keeps) (record { key = refl; agrees = made.right.agrees; sound = made.right.sound });
  }

  printed_got : (v u w : View) (part : FactKey) (plan : Option RowData) (claim : Claim) (fact : Fact)
      (row : RowData) → IsSnapshotOf v.seen basis.snapshot → Draws v part basis.snapshot.stamp claim u
      → IsMade basis.means basis.language basis.snapshot.state plan part fact → Publishes u claim fact row w
      → Got basis v part row (printed (drew v u.seen claim) w.seen row)
  printed_got v u w part plan claim fact row of draws made publishes =
      let same : row.serial ≡ claim.serial = ap (λ (c : Claim). c.serial) publishes.claimed in
      let fits = published_fits v u w part plan claim fact row of draws made publishes in
      let later = starts_then w.seen u.seen v.seen publishes.later draws.later in
      let above = subst (λ n. Each (λ (old : RowData). old.mark < n) v.rows) (sym same) draws.above in
      record {
        rows = row ∷ [];
        worked = printed_works v u.seen w.seen claim row later same fits above;
        cites = record {
          right = record {
            key = ap (λ (f : Fact). f.key) publishes.keeps ∙ made.of;
            agrees = fits.right.agrees;
            sound = fits.right.sound;
          };
          stands = stands_last v.rows row;
          source = inl (0, refl);
        };
        once = λ weight. let c = sum_by-cons weight row [] in omega arith;
        among = (refl, tt);
      }

  pub publishes_works : (v u w : View) (part : FactKey) (plan : Option RowData) (claim : Claim) (fact : Fact)
      (row : RowData) → IsSnapshotOf v.seen basis.snapshot → Draws v part basis.snapshot.stamp claim u
      → IsMade basis.means basis.language basis.snapshot.state plan part fact → Publishes u claim fact row w
      → Got basis v part row w
  publishes_works v u w part plan claim fact row of draws made publishes =
      subst (λ (x : View). Got basis v part row x)
      (sym (publishes.knows ∙ ap (λ (x : View). printed x w.seen row) draws.knows))
      (printed_got v u w part plan claim fact row of draws made publishes)

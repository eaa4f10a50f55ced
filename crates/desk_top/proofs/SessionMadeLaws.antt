-- What a session made stays, and grows by each of its builds.
use Rattle.std.proofs.Common.{◌≡◌, ◌⊎◌, ◌<◌, ◌≤◌, ℕ, zero, suc, List, [], ◌∷◌, ◌++◌, Option, Some, append-nil, length, refl, sym, ap, ◌∙◌, subst, inl, inr, ⊎_elim, arith}
use Rattle.std.specs.List.{AllZip, slice_get}
use Rattle.std.proofs.lemmas.List.Concat.{flat_map-append}
use Rattle.std.proofs.lemmas.Option.{none-some, same_Some, slice_get_within}
use Rattle.dita_doc.specs.Desk.{Begun, Reply}
use Rattle.dita_doc.specs.History.{Entry}
use Rattle.dita_doc.specs.Request.{Build, Request}
use Rattle.dita_outside.specs.Pages.{Pages}
use Rattle.dita_doc.specs.declared.fact.FactKey.{FactKey}
use Rattle.facts.specs.Rows.{RowData, Stands}
use Rattle.desk_language.specs.Language.{Language}
use Rattle.desk_lock.specs.Calls.{Appends}
use Rattle.desk_lock.specs.Lists.{Each, StartsWith}
use Rattle.desk_lock.specs.Meaning.{Meaning, NoLaterAgrees}
use Rattle.desk_lock.specs.declared.view.View.{View}
use Rattle.desk_work.proofs.Lists.{each_append, each_at, each_onward, stands_either, stands_starts, starts_then}
use Rattle.desk_work.specs.Build.{BuildOrder, EndsBuilt}
use Rattle.desk_work.specs.Work.{Basis, Cites}
use Rattle.desk_work.specs.declared.built.Built.{Built}
use Rattle.desk_top.specs.Again.{serials_shown}
use Rattle.desk_top.specs.Made.{BuildMade, IsCitedBy, IsMadeAs}
use Rattle.desk_top.specs.SessionMade.{HasMade, IsAfter, IsOf, all_made, rows_made}
use Rattle.desk_top.specs.declared.callers.BuiltAt.{BuiltAt}
use Rattle.desk_top.proofs.AskedLaws.{at_start}
use Rattle.desk_top.proofs.GivenLaws.{at_place, sources_later}
use Rattle.desk_top.proofs.JobRowsLaws.{cited_for, cited_stands, cited_weigh, each_cited, keys_cited, shown_rows}

-- Longer histories

pub one_later : (means : Meaning) (language : Language) (log first : List Entry) (one : BuildMade) → StartsWith log first
    → IsMadeAs means language first one → IsMadeAs means language log one
one_later means language log first one starts is =
    let inside = slice_get_within first one.place is.entry is.stands in
    record {
      entry = is.entry;
      stands = at_start log first one.place is.entry starts is.stands;
      session = is.session;
      request = is.request;
      here = is.here ∙ sym (sources_later log first one.place starts (omega (arith, inside)));
      within = omega (arith, is.within, ap length starts.1, longer first starts.0);
      stored = is.stored ∙ sym (sources_later log first one.stamp starts is.within);
      keys = is.keys;
      cited = is.cited;
      fits = is.fits;
      above = is.above;
      once = is.once;
      among = is.among;
    }
  where
    longer : {X : Type 0} (xs ys : List X) → length xs ≤ length (xs ++ ys)
    longer [] ys = omega arith
    longer (x ∷ xs) ys = omega (arith, longer xs ys)

pub all_later : (means : Meaning) (language : Language) (log first : List Entry) (builds : List BuildMade)
    → StartsWith log first → Each (IsMadeAs means language first) builds → Each (IsMadeAs means language log) builds
all_later means language log first builds starts each =
    each_onward (IsMadeAs means language first) (IsMadeAs means language log) builds
    (λ one is. one_later means language log first one starts is) each

-- Sessions

pub made_none : (means : Meaning) (language : Language) (w : View) → w.published ≡ [] → HasMade means language w []
made_none means language w none = record {
  builds = [];
  of = tt;
  each = tt;
  own = tt;
  follow = λ at later one other before first second. absurd (none-some one first);
  published = none;
  cited = tt;
}

-- a request that is no build
pub made_asked : (means : Meaning) (language : Language) (v w : View) (built : List BuiltAt) (number place : ℕ)
    (asked : Request) (answer : Reply) → Appends v number asked answer place w → HasMade means language v built
    → HasMade means language w built
made_asked means language v w built number place asked answer appends has = record {
  builds = has.builds;
  of = has.of;
  each = all_later means language w.seen v.seen has.builds appends.later has.each;
  own = subst (λ session. Each (λ (one : BuildMade). one.session ≡ session) has.builds)
      (sym (ap (λ (u : View). u.session) appends.knows)) has.own;
  follow = has.follow;
  published = ap (λ (u : View). u.published) appends.knows ∙ has.published;
  cited = subst (λ rows. Each (λ (one : BuildMade). Each (Stands rows) one.cited) has.builds)
      (sym (ap (λ (u : View). u.rows) appends.knows)) has.cited;
}

-- Builds

module _ (means : Meaning) (language : Language) (v : View) (order : BuildOrder) (one : Built) (w : View)
    (old new : Option Pages) (ends : EndsBuilt means language v order one w old new) where
  abbrev between : View
  between = ends.stood.between

  abbrev basis : Basis
  basis = record {
    means = means;
    language = language;
    snapshot = record { stamp = ends.stood.stamp; state = ends.state };
  }

  -- what the build made and cited
  abbrev pub build_made : BuildMade
  build_made = record {
    session = v.session;
    root = order.root;
    val = order.val;
    place = one.place;
    stamp = ends.stood.stamp;
    state = ends.state;
    known = ends.stood.between.rows;
    made = ends.stood.progress.rows;
    cited = cited_for ends.jobs;
  }

  cited_as : (part : FactKey) (row : RowData) → Cites basis between w part ends.stood.progress.rows row
      → IsCitedBy means build_made row
  cited_as part row cites = record {
    right = record { key = refl; agrees = cites.right.agrees; sound = cites.right.sound };
    source = ⊎_elim (λ made. inl made)
        (λ latest. inr (subst (λ (key : FactKey). NoLaterAgrees means ends.stood.between.rows row key ends.state)
        (sym cites.right.key) latest)) cites.source;
  }

  later : StartsWith w.seen v.seen
  later = starts_then w.seen between.seen v.seen ends.stood.progress.worked.seen ends.stood.begun.appends.later

  pub is_made : IsMadeAs means language w.seen build_made
  is_made =
      let begins = ends.stood.begun in
      let worked = ends.stood.progress.worked in
      let entry : Entry =
      record { session = v.session; number = order.number; request = Build order.root order.val; reply = Begun } in
      let inside = slice_get_within between.seen one.place entry begins.appends.entry in
      record {
        entry = entry;
        stands = at_start w.seen between.seen one.place entry worked.seen begins.appends.entry;
        session = refl;
        request = refl;
        here = begins.here ∙ sym (sources_later w.seen between.seen one.place worked.seen (omega (arith, inside)));
        within = omega (arith, begins.stored.within, ap length worked.seen.1, longer between.seen worked.seen.0);
        stored = begins.stored.state
            ∙ sym (sources_later w.seen between.seen ends.stood.stamp worked.seen begins.stored.within);
        keys = keys_cited basis between w ends.stood.progress.rows ends.jobs ends.whole.done ends.stood.progress.done
            ∙ ends.whole.all;
        cited = each_cited basis between w ends.stood.progress.rows (IsCitedBy means build_made) cited_as ends.jobs
            ends.stood.progress.done;
        fits = worked.fits;
        above = worked.above;
        once = λ weight. omega (arith, ends.stood.progress.once weight, cited_weigh weight ends.jobs);
        among = each_onward _ (Stands build_made.cited) ends.stood.progress.rows
            (λ row by. cited_stands ends.jobs row by) ends.stood.progress.among;
      }
    where
      longer : {X : Type 0} (xs ys : List X) → length xs ≤ length (xs ++ ys)
      longer [] ys = omega arith
      longer (x ∷ xs) ys = omega (arith, longer xs ys)

  is_of : IsOf language (at_place one) build_made
  is_of = record {
    place = refl;
    outcome = ends.outcome;
    shows = shown_rows one.outcome ends.jobs ends.cited ends.whole.done
        ∙ ap (λ outcome. serials_shown outcome (cited_for ends.jobs)) ends.outcome;
  }

  rows_known : Each (Stands w.rows) build_made.cited
  rows_known = each_cited basis between w ends.stood.progress.rows (Stands w.rows) (λ part row cites. cites.stands)
      ends.jobs ends.stood.progress.done

  same_rows : ends.stood.between.rows ≡ v.rows
  same_rows = ap (λ (u : View). u.rows) ends.stood.begun.appends.knows

  known_later : (row : RowData) → Stands v.rows row → Stands w.rows row
  known_later row stands = stands_starts w.rows v.rows row
      (subst (StartsWith w.rows) same_rows ends.stood.progress.worked.known) stands

  module _ (built : List BuiltAt) (has : HasMade means language v built) where
    builds_are : List BuildMade
    builds_are = has.builds ++ build_made ∷ []

    zip_push : (xs : List BuiltAt) (ys : List BuildMade) (x : BuiltAt) (y : BuildMade) → AllZip (IsOf language) xs ys
        → IsOf language x y → AllZip (IsOf language) (xs ++ x ∷ []) (ys ++ y ∷ [])
    zip_push [] [] x y all last = (last, tt)
    zip_push [] (z ∷ ys) x y all last = absurd all
    zip_push (z ∷ xs) [] x y all last = absurd all
    zip_push (a ∷ xs) (b ∷ ys) x y all last = (all.0, zip_push xs ys x y all.1 last)

    follow_push : (builds : List BuildMade) (last : BuildMade)
        → ((at later : ℕ) (first other : BuildMade) → at < later → slice_get builds at ≡ Some first
        → slice_get builds later ≡ Some other → IsAfter first other)
        → ((at : ℕ) (first : BuildMade) → slice_get builds at ≡ Some first → IsAfter first last)
        → (at later : ℕ) (first other : BuildMade) → at < later → slice_get (builds ++ last ∷ []) at ≡ Some first
        → slice_get (builds ++ last ∷ []) later ≡ Some other → IsAfter first other
    follow_push [] last follow ahead at zero first other before here there = absurd (omega (arith, before))
    follow_push [] last follow ahead at (suc later) first other before here there = absurd (none-some other there)
    follow_push (b ∷ builds) last follow ahead at zero first other before here there = absurd (omega (arith, before))
    follow_push (b ∷ builds) last follow ahead zero (suc later) first other before here there =
        let is : b ≡ first = same_Some b first here in
        subst (λ (x : BuildMade). IsAfter x other) is
        (by_either (stands_either builds (last ∷ []) later other there))
      where
        by_last : (k : ℕ) → slice_get (last ∷ []) k ≡ Some other → IsAfter b other
        by_last zero e = subst (IsAfter b) (same_Some last other e) (ahead 0 b refl)
        by_last (suc k) e = absurd (none-some other e)

        by_either : Stands builds other ⊎ Stands (last ∷ []) other → IsAfter b other
        by_either (inl stands) = follow 0 (suc stands.0) b other (omega arith) refl stands.1
        by_either (inr stands) = by_last stands.0 stands.1
    follow_push (b ∷ builds) last follow ahead (suc at) (suc later) first other before here there =
        follow_push builds last
        (λ j k x y less e g. follow (suc j) (suc k) x y (omega (arith, less)) e g)
        (λ j x e. ahead (suc j) x e) at later first other (omega (arith, before)) here there

    ahead : (at : ℕ) (first : BuildMade) → slice_get has.builds at ≡ Some first → IsAfter first build_made
    ahead at first here =
        let is = each_at (IsMadeAs means language v.seen) has.builds at first has.each here in
        let inside = slice_get_within v.seen first.place is.entry is.stands in
        record {
          place = omega (arith, inside, ends.stood.begun.appends.behind);
          known = subst (λ rows. Each (Stands rows) first.cited) (sym same_rows)
              (each_at (λ (b : BuildMade). Each (Stands v.rows) b.cited) has.builds at first has.cited here);
        }

    same_session : w.session ≡ v.session
    same_session = ends.stood.progress.worked.session ∙ ap (λ (u : View). u.session) ends.stood.begun.appends.knows

    same_published : w.published ≡ all_made (has.builds ++ build_made ∷ [])
    same_published =
        ends.stood.progress.worked.published
        ∙ ap (λ list. list ++ ends.stood.progress.rows)
        (ap (λ (u : View). u.published) ends.stood.begun.appends.knows ∙ has.published)
        ∙ ap (λ list. all_made has.builds ++ list) (sym (append-nil ends.stood.progress.rows))
        ∙ sym (flat_map-append rows_made has.builds (build_made ∷ []))

    -- one build more
    pub made_built : (more : List BuiltAt) → more ≡ built ++ at_place one ∷ [] → HasMade means language w more
    made_built more pushed = subst (HasMade means language w) (sym pushed) (record {
      builds = has.builds ++ build_made ∷ [];
      of = zip_push built has.builds (at_place one) build_made has.of is_of;
      each = each_append (IsMadeAs means language w.seen) has.builds (build_made ∷ [])
          (all_later means language w.seen v.seen has.builds later has.each) (is_made, tt);
      own = subst (λ session. Each (λ (b : BuildMade). b.session ≡ session) (has.builds ++ build_made ∷ []))
          (sym same_session)
          (each_append (λ (b : BuildMade). b.session ≡ v.session) has.builds (build_made ∷ []) has.own (refl, tt));
      follow = follow_push has.builds build_made has.follow ahead;
      published = same_published;
      cited = each_append (λ (b : BuildMade). Each (Stands w.rows) b.cited) has.builds (build_made ∷ [])
          (each_onward (λ (b : BuildMade). Each (Stands v.rows) b.cited) (λ (b : BuildMade). Each (Stands w.rows) b.cited)
          has.builds (λ b each. each_onward (Stands v.rows) (Stands w.rows) b.cited known_later each) has.cited)
          (rows_known, tt);
    })

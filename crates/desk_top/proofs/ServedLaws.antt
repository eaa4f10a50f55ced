-- What a batch has answered stays answered, and grows by each request; whoever has joined all sessions has answered all.
use Rattle.std.proofs.Common.{◌≡◌, ◌≢◌, ◌<◌, ◌+◌, ◌++◌, ℕ, List, [], ◌∷◌, Option, true, false, true≢false, AllPairs, length, refl, sym, ap, ◌∙◌, subst, arith, sum_by, append_assoc, append-nil, get_or, set}
use Rattle.std.specs.List.{All}
use Rattle.std.specs.declared.alloc.Global.{Global}
use Rattle.std.specs.declared.vec.Vec.{Vec}
use Rattle.std.proofs.lemmas.List.{map-append}
use Rattle.std.proofs.lemmas.List.Elements.{All-append, All-head, All-map, All-nil, All-push, All-set, All-tail, All-weaker}
use Rattle.std.proofs.lemmas.List.Sums.{sum_by-cons}
use mathlib.Core.Logic.{dite}
use native.Mathlib.Decide.{ℕ_discrete}
use Rattle.dita_doc.specs.Desk.{Begun, Reply}
use Rattle.dita_doc.specs.History.{Entry}
use Rattle.dita_doc.specs.Request.{Build, Get, Group, IsUtf8Request, Names, Request, Single}
use Rattle.dita_doc.specs.declared.request.Request as given
use Rattle.dita_outside.specs.Pages.{Pages}
use Rattle.facts.specs.Rows.{RowData, Stands}
use Rattle.map_makers.specs.PlanTells.{meaning}
use Rattle.run_spec.specs.Language.{dita}
use Rattle.desk_core.specs.Book.{BookData, SnapshotData}
use Rattle.desk_core.specs.Steps.{IsNoBuild}
use Rattle.desk_lock.specs.Calls.{Appends, Begins, Joins, Splits}
use Rattle.desk_lock.specs.Closes.{Closes}
use Rattle.desk_lock.specs.Knows.{all_parts, known, session_parts, with_session}
use Rattle.desk_lock.specs.Lists.{StartsWith}
use Rattle.desk_lock.specs.Meaning.{Meaning}
use Rattle.desk_lock.specs.Past.{placed}
use Rattle.desk_lock.specs.Tokens.{IsPassOf, pass_view}
use Rattle.desk_lock.specs.declared.desk.Desk.{Desk}
use Rattle.desk_lock.specs.declared.view.View.{View}
use Rattle.desk_lock.proofs.Weights.{tick, tick_other}
use Rattle.desk_work.specs.Build.{BuildOrder, EndsBuilt}
use Rattle.desk_work.specs.Work.{Basis, Worked}
use Rattle.desk_work.specs.declared.built.Built.{Built}
use Rattle.desk_work.proofs.Lists.{at_left, stands_left, stands_right, starts_then}
use Rattle.desk_top.specs.Asked.{AsksOne, HasNone}
use Rattle.desk_top.specs.Given.{IsGiven, rows_cited, rows_of}
use Rattle.desk_top.specs.Served.{HasBuilt, HasGiven, HasItsPages, HasServed, IsAnswered, IsOfBuild, IsReady, IsServed, MayBeAsked, is_build, places_of, together}
use Rattle.desk_top.specs.SessionMade.{HasMade}
use Rattle.desk_top.specs.declared.callers.BuiltAt.{BuiltAt}
use Rattle.desk_top.specs.declared.callers.Caller.{Caller}
use Rattle.desk_top.proofs.AskedLaws.{at_start}
use Rattle.desk_top.proofs.GivenLaws.{all_given_later, build_cites, build_given, cited_both, cited_push, one_row, rows_later}
use Rattle.desk_top.proofs.HistoryLaws.{heavy_place}
use Rattle.desk_top.proofs.OnceLaws.{built_none}
use Rattle.desk_top.proofs.SessionMadeLaws.{made_none}

-- Longer histories, and more builds

answered_later : (log first : List Entry) (built more : List ℕ) (place : ℕ) → StartsWith log first
    → ((other : ℕ) → Stands built other → Stands more other) → IsAnswered first built place → IsAnswered log more place
answered_later log first built more place starts onward is = record {
  entry = is.entry;
  stands = at_start log first place is.entry starts is.stands;
  utf8 = is.utf8;
  outcome = λ build. onward place (is.outcome build);
}

build_later : (log first : List Entry) (place : ℕ) → StartsWith log first → IsOfBuild first place → IsOfBuild log place
build_later log first place starts is =
    record { entry = is.entry; stands = at_start log first place is.entry starts is.stands; is = is.is }

builds_later : (log first : List Entry) (built : List ℕ) → StartsWith log first → All (IsOfBuild first) built
    → All (IsOfBuild log) built
builds_later log first built starts all =
    All-weaker (IsOfBuild first) (IsOfBuild log) (λ place is. build_later log first place starts is) built all

-- Sessions

abbrev AtPlace : List Entry → List ℕ → ℕ × ℕ → Type 0
AtPlace log built place = IsAnswered log built place.0

-- a party that gave parts away is at a desk of the same limits
pub same_limits : (v w new : View) (session parts : ℕ) → Splits v session parts w new → w.limits ≡ v.limits
same_limits v w new session parts splits = ap (λ (u : View). u.limits) splits.gave

-- a party that has asked nothing
pub none_parted : (v w new : View) (session parts : ℕ) → Splits v session parts w new → HasNone v → HasNone w
none_parted v w new session parts splits none = record {
  mine = ap (λ (u : View). u.mine) splits.gave ∙ none.mine;
  theirs = ap (λ (u : View). u.theirs) splits.gave ∙ none.theirs;
  published = ap (λ (u : View). u.published) splits.gave ∙ none.published;
}

pub none_new : (v w new : View) (session parts : ℕ) → Splits v session parts w new → HasNone new
none_new v w new session parts splits = record {
  mine = ap (λ (u : View). u.mine) splits.got;
  theirs = ap (λ (u : View). u.theirs) splits.got;
  published = ap (λ (u : View). u.published) splits.got;
}

pub given_none : (w : View) → HasNone w → HasGiven w []
given_none w none = record {
  served = record {
    mine = subst (All (IsAnswered w.seen [])) (sym none.mine) (All-nil (IsAnswered w.seen []));
    theirs = subst (All (AtPlace w.seen [])) (sym none.theirs) (All-nil (AtPlace w.seen []));
    builds = All-nil (IsOfBuild w.seen);
  };
  given = All-nil (IsGiven w.seen);
  rows = All-nil (Stands w.rows);
}

-- one entry more
served_grown : (v w : View) (built more : List ℕ) (place : ℕ) → StartsWith w.seen v.seen → w.mine ≡ v.mine ++ place ∷ []
    → w.theirs ≡ v.theirs → ((other : ℕ) → Stands built other → Stands more other) → IsAnswered w.seen more place
    → All (IsOfBuild w.seen) more → HasServed v built → HasServed w more
served_grown v w built more place later mine theirs onward here builds served = record {
  mine = subst (All (IsAnswered w.seen more)) (sym mine)
      (All-push (IsAnswered w.seen more) v.mine place
      (All-weaker (IsAnswered v.seen built) (IsAnswered w.seen more)
      (λ other is. answered_later w.seen v.seen built more other later onward is) v.mine served.mine) here);
  theirs = subst (All (AtPlace w.seen more)) (sym theirs)
      (All-weaker (AtPlace v.seen built) (AtPlace w.seen more)
      (λ other is. answered_later w.seen v.seen built more other.0 later onward is) v.theirs served.theirs);
  builds = builds;
}

no_build : (request : Request) → IsNoBuild request → is_build request ≡ true → ⊥
no_build (Single edit) none is = absurd (true≢false (sym is))
no_build (Get name) none is = absurd (true≢false (sym is))
no_build Names none is = absurd (true≢false (sym is))
no_build (Build root val) none is = none
no_build (Group edits) none is = absurd (true≢false (sym is))

-- a request that is no build
served_asked : (v w : View) (built : List ℕ) (number place : ℕ) (asked : Request) (answer : Reply)
    → Appends v number asked answer place w → IsUtf8Request asked → IsNoBuild asked → HasServed v built → HasServed w built
served_asked v w built number place asked answer appends utf8 none served =
    served_grown v w built built place appends.later (ap (λ (u : View). u.mine) appends.knows)
    (ap (λ (u : View). u.theirs) appends.knows) (λ other stands. stands)
    (record {
      entry = record { session = v.session; number = number; request = asked; reply = answer };
      stands = appends.entry;
      utf8 = utf8;
      outcome = λ is. absurd (no_build asked none is);
    })
    (builds_later w.seen v.seen built appends.later served.builds) served

pub given_asked : (v w : View) (built : List BuiltAt) (number place : ℕ) (asked : Request) (answer : Reply)
    → Appends v number asked answer place w → IsUtf8Request asked → IsNoBuild asked → HasGiven v built → HasGiven w built
given_asked v w built number place asked answer appends utf8 none given = record {
  served = served_asked v w (places_of built) number place asked answer appends utf8 none given.served;
  given = all_given_later w.seen v.seen built appends.later given.given;
  rows = subst (λ rows. All (Stands rows) (rows_cited built)) (sym (ap (λ (u : View). u.rows) appends.knows)) given.rows;
}

pub asks_edit : (v w : View) (number place : ℕ) (asked : Request) (answer : Reply) → Appends v number asked answer place w
    → AsksOne v (record { number = number; request = asked }) w
asks_edit v w number place asked answer appends = record {
  place = place;
  session = ap (λ (u : View). u.session) appends.knows;
  later = appends.later;
  behind = appends.behind;
  mine = ap (λ (u : View). u.mine) appends.knows;
  theirs = ap (λ (u : View). u.theirs) appends.knows;
  at = record { answer = answer; stands = appends.entry };
}

-- a build that gave an outcome
served_built : (v between w : View) (built : List ℕ) (number place : ℕ) (root : List ℕ) (val : _) (snapshot : SnapshotData)
    (basis : Basis) (rows : List RowData) → Begins v number root val place snapshot between → Worked basis between w rows
    → IsUtf8Request (Build root val) → HasServed v built → HasServed w (built ++ place ∷ [])
served_built v between w built number place root val snapshot basis rows begins worked utf8 served =
    let appends = begins.appends in
    let later = starts_then w.seen between.seen v.seen worked.seen appends.later in
    let entry : Entry = record { session = v.session; number = number; request = Build root val; reply = Begun } in
    let there = at_start w.seen between.seen place entry worked.seen appends.entry in
    served_grown v w built (built ++ place ∷ []) place later
    (worked.mine ∙ ap (λ (u : View). u.mine) appends.knows) (worked.theirs ∙ ap (λ (u : View). u.theirs) appends.knows)
    (λ other stands. (stands.0, at_left built (place ∷ []) stands.0 other stands.1))
    (record { entry = entry; stands = there; utf8 = utf8; outcome = λ is. stands_right built (place ∷ []) place (0, refl) })
    (All-push (IsOfBuild w.seen) built place (builds_later w.seen v.seen built later served.builds)
    (record { entry = entry; stands = there; is = refl }))
    served

pub given_built : (means : Meaning) (v w : View) (order : BuildOrder) (one : Built) (old new : Option Pages)
    (built more : List BuiltAt) → EndsBuilt means dita v order one w old new → IsUtf8Request (Build order.root order.val)
    → more ≡ built ++ record { place = one.place; outcome = one.outcome } ∷ [] → HasGiven v built → HasGiven w more
given_built means v w order one old new built more ends utf8 pushed given =
    let begun = ends.stood.begun in
    let worked = ends.stood.progress.worked in
    let later = starts_then w.seen ends.stood.between.seen v.seen worked.seen begun.appends.later in
    let this : BuiltAt = record { place = one.place; outcome = one.outcome } in
    let known = subst (StartsWith w.rows) (ap (λ (u : View). u.rows) begun.appends.knows) worked.known in
    subst (HasGiven w) (sym pushed) (record {
      served = subst (HasServed w) (sym (map-append (λ (other : BuiltAt). other.place) built (this ∷ [])))
          (served_built v ends.stood.between w (places_of built) order.number one.place order.root order.val _ _ _ begun worked
          utf8 given.served);
      given = All-push (IsGiven w.seen) built this (all_given_later w.seen v.seen built later given.given)
          (build_given means v order one w old new ends);
      rows = subst (All (Stands w.rows)) (sym (cited_push built this))
          (All-append (Stands w.rows) (rows_cited built) (rows_of one.outcome)
          (rows_later w.rows v.rows (rows_cited built) known given.rows)
          (build_cites means v order one w old new ends));
    })

pub asks_build : (means : Meaning) (v w : View) (order : BuildOrder) (one : Built) (old new : Option Pages)
    → EndsBuilt means dita v order one w old new
    → AsksOne v (record { number = order.number; request = Build order.root order.val }) w
asks_build means v w order one old new ends =
    let appends = ends.stood.begun.appends in
    let worked = ends.stood.progress.worked in
    let between = ends.stood.between in
    record {
      place = one.place;
      session = worked.session ∙ ap (λ (u : View). u.session) appends.knows;
      later = starts_then w.seen between.seen v.seen worked.seen appends.later;
      behind = appends.behind;
      mine = worked.mine ∙ ap (λ (u : View). u.mine) appends.knows;
      theirs = worked.theirs ∙ ap (λ (u : View). u.theirs) appends.knows;
      at = record { answer = Begun; stands = at_start w.seen between.seen one.place _ worked.seen appends.entry };
    }

-- two sessions
served_joined : (v other w : View) (built more : List ℕ) → Joins v other w → HasServed v built → HasServed other more
    → HasServed w (built ++ more)
served_joined v other w built more joins served too = record {
  mine = subst (All (IsAnswered w.seen (built ++ more))) (sym (ap (λ (u : View). u.mine) joins.knows))
      (All-weaker (IsAnswered v.seen built) (IsAnswered w.seen (built ++ more)) left v.mine served.mine);
  theirs = subst (All (AtPlace w.seen (built ++ more))) (sym (ap (λ (u : View). u.theirs) joins.knows))
      (All-append (AtPlace w.seen (built ++ more)) (v.theirs ++ other.theirs) (with_session other.session other.mine)
      (All-append (AtPlace w.seen (built ++ more)) v.theirs other.theirs
      (All-weaker (AtPlace v.seen built) (AtPlace w.seen (built ++ more)) (λ place is. left place.0 is) v.theirs served.theirs)
      (All-weaker (AtPlace other.seen more) (AtPlace w.seen (built ++ more)) (λ place is. right place.0 is) other.theirs
      too.theirs))
      (All-map (AtPlace w.seen (built ++ more)) (λ place. (place, other.session)) other.mine
      (All-weaker (IsAnswered other.seen more) (IsAnswered w.seen (built ++ more)) right other.mine too.mine)));
  builds = All-append (IsOfBuild w.seen) built more (builds_later w.seen v.seen built joins.later served.builds)
      (builds_later w.seen other.seen more joins.too too.builds);
}
  where
    left : (place : ℕ) → IsAnswered v.seen built place → IsAnswered w.seen (built ++ more) place
    left place is = answered_later w.seen v.seen built (built ++ more) place joins.later
        (λ one stands. (stands.0, at_left built more stands.0 one stands.1)) is

    right : (place : ℕ) → IsAnswered other.seen more place → IsAnswered w.seen (built ++ more) place
    right place is = answered_later w.seen other.seen more (built ++ more) place joins.too
        (λ one stands. stands_right built more one stands) is

-- The whole history

-- of places with a weight one is heavy
among_places : (P : ℕ → Type 0) (place : ℕ) (places : List (ℕ × ℕ)) → 0 < sum_by (λ (one : ℕ × ℕ). tick place one.0) places
    → All (λ (one : ℕ × ℕ). P one.0) places → P place
among_places P place [] heavy all = absurd (omega (arith, heavy))
among_places P place (one ∷ places) heavy all = dite (ℕ_discrete one.0 place)
    (λ same. subst P same (All-head (λ (other : ℕ × ℕ). P other.0) one places all))
    (λ differ. let c = sum_by-cons (λ (other : ℕ × ℕ). tick place other.0) one places in
    let t = tick_other place one.0 differ in
    among_places P place places (omega arith) (All-tail (λ (other : ℕ × ℕ). P other.0) one places all))

pub served_whole : (means : Meaning) (v : View) (book : BookData) (built : List BuiltAt) → Closes means v book
    → v.parts ≡ all_parts → HasGiven v built → All HasItsPages built
    → AllPairs (λ (place other : ℕ). place ≢ other) (places_of built) → IsServed book.store.history built
served_whole means v book built closes parts given pages once = record {
  answered = λ place within.
      let weighs = (closes.all parts).places (λ (one : ℕ × ℕ). tick place one.0) in
      let same : 0 + place ≡ place = omega arith in
      let heavy = subst (λ n. 0 < sum_by (λ (one : ℕ × ℕ). tick n one.0) (placed 0 log)) same
      (heavy_place 0 place log within) in
      among_places (IsAnswered log (places_of built)) place (known v) (omega arith) all;
  builds = builds_later log v.seen (places_of built) closes.begins served.builds;
  pages = pages;
  given = all_given_later log v.seen built closes.begins given.given;
  one_row = one_row v book (rows_cited built) (closes.all parts) given.rows;
  once = once;
}
  where
    served : HasServed v (places_of built)
    served = given.served

    log : List Entry
    log = book.store.history

    onto : (place : ℕ) → IsAnswered v.seen (places_of built) place → IsAnswered log (places_of built) place
    onto place is =
        answered_later log v.seen (places_of built) (places_of built) place closes.begins (λ other stands. stands) is

    all : All (AtPlace log (places_of built)) (known v)
    all = All-append (AtPlace log (places_of built)) (with_session v.session v.mine) v.theirs
        (All-map (AtPlace log (places_of built)) (λ place. (place, v.session)) v.mine
        (All-weaker (IsAnswered v.seen (places_of built)) (IsAnswered log (places_of built)) onto v.mine served.mine))
        (All-weaker (AtPlace v.seen (places_of built)) (AtPlace log (places_of built)) (λ place is. onto place.0 is) v.theirs
        served.theirs)

-- What all sessions built

together_more : (left : List (Vec BuiltAt Global)) (built : Vec BuiltAt Global)
    → together (left ++ built ∷ []) ≡ together left ++ built.items
together_more [] built = append-nil built.items
together_more (first ∷ left) built =
    ap (λ rest. first.items ++ rest) (together_more left built) ∙ sym (append_assoc first.items (together left) built.items)

-- one session more
pub pages_together : (left : List (Vec BuiltAt Global)) (built : Vec BuiltAt Global) → All HasItsPages (together left)
    → All HasItsPages built.items → All HasItsPages (together (left ++ built ∷ []))
pages_together left built all more =
    subst (All HasItsPages) (sym (together_more left built)) (All-append HasItsPages (together left) built.items all more)

rows_both : (v other w : View) (rows more : List RowData) → Joins v other w → All (Stands v.rows) rows
    → All (Stands other.rows) more → All (Stands w.rows) (rows ++ more)
rows_both v other w rows more joins all too =
    subst (λ known. All (Stands known) (rows ++ more)) (sym (ap (λ (u : View). u.rows) joins.knows))
    (All-append (Stands (v.rows ++ other.rows)) rows more
    (All-weaker (Stands v.rows) (Stands (v.rows ++ other.rows))
    (λ row stands. stands_left v.rows other.rows row stands) rows all)
    (All-weaker (Stands other.rows) (Stands (v.rows ++ other.rows))
    (λ row stands. stands_right v.rows other.rows row stands) more too))

pub given_together : (v other w : View) (left : List (Vec BuiltAt Global)) (built : Vec BuiltAt Global) → Joins v other w
    → HasGiven v (together left) → HasGiven other built.items → HasGiven w (together (left ++ built ∷ []))
given_together v other w left built joins given too = subst (HasGiven w) (sym (together_more left built)) (record {
  served = subst (HasServed w) (sym (map-append (λ (one : BuiltAt). one.place) (together left) built.items))
      (served_joined v other w (places_of (together left)) (places_of built.items) joins given.served too.served);
  given = All-append (IsGiven w.seen) (together left) built.items
      (all_given_later w.seen v.seen (together left) joins.later given.given)
      (all_given_later w.seen other.seen built.items joins.too too.given);
  rows = subst (All (Stands w.rows)) (sym (cited_both (together left) built.items))
      (rows_both v other w (rows_cited (together left)) (rows_cited built.items) joins given.rows too.rows);
})

-- Callers

abbrev pub AllMayBeAsked : Vec (ℕ × given.Request) Global → Type 0
AllMayBeAsked pile = All MayBeAsked pile.items

pub asked_put : (piles : List (Vec (ℕ × given.Request) Global)) (home : ℕ) (one new : Vec (ℕ × given.Request) Global)
    (asked : ℕ × given.Request) → home < length piles → MayBeAsked asked
    → new.items ≡ (get_or piles home one).items ++ asked ∷ [] → All AllMayBeAsked piles → All AllMayBeAsked (set piles home new)
asked_put piles home one new asked within may pushed all = All-set AllMayBeAsked piles home new
    (subst (All MayBeAsked) (sym pushed)
    (All-push MayBeAsked (get_or piles home one).items asked (all home one within) may)) all

pub caller_ready : (desk : Desk BookData) (v w : View) (number : ℕ) (caller : Caller) → IsPassOf desk caller.session.pass
    → Splits v number session_parts w (pass_view caller.session.pass) → caller.session.built.items ≡ []
    → All MayBeAsked caller.asked.items → caller.failed ≡ false → IsReady desk caller
caller_ready desk v w number caller pass splits none asked well = record {
  at = record {
    pass = pass;
    parts = ap (λ (u : View). u.parts) splits.got;
    pages = subst (All HasItsPages) (sym none) (All-nil HasItsPages);
  };
  answered = record {
    given = subst (HasGiven (pass_view caller.session.pass)) (sym none) (given_none (pass_view caller.session.pass) new);
    built = subst (λ built. HasBuilt (pass_view caller.session.pass) (places_of built)) (sym none)
        (built_none (pass_view caller.session.pass));
    made = subst (HasMade meaning dita (pass_view caller.session.pass)) (sym none)
        (made_none meaning dita (pass_view caller.session.pass) new.published);
  };
  none = new;
  asked = asked;
  well = well;
}
  where
    new : HasNone (pass_view caller.session.pass)
    new = none_new v w (pass_view caller.session.pass) number session_parts splits

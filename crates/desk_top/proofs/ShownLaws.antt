-- What is shown of builds stands at their places, and each row that is kept is cited by one of them.
use Rattle.std.proofs.Common.{◌≡◌, ◌≢◌, ◌<◌, ◌⊎◌, ℕ, zero, suc, Bool, List, [], ◌∷◌, Option, Some, None, true, false, All, AllPairs, Contains, ap, ◌∙◌, get_or, inl, inr, is_some, length, length-set, map, refl, set, subst, sym, ⊎_elim, true≢false, arith}
use Rattle.std.specs.List.{slice_get}
use Rattle.std.specs.Option.{option_map_or}
use Rattle.std.proofs.lemmas.Bool.{cases_lt}
use Rattle.std.proofs.lemmas.List.{get_or-set_other, get_or-set_same}
use Rattle.std.proofs.lemmas.List.Elements.{All-contains, All-head, All-tail}
use Rattle.std.proofs.lemmas.Option.{get_or_from_slice_get, none-some, same_Some, slice_get_within}
use mathlib.Core.Logic.{dite}
use native.Mathlib.Decide.{ℕ_discrete}
use Rattle.dita_doc.specs.History.{Entry}
use Rattle.facts.specs.Rows.{Stands, row_data}
use Rattle.facts.specs.declared.row.Row.{Row}
use Rattle.transcript_text.specs.declared.built.BuiltText.{BuiltText}
use Rattle.desk_work.specs.declared.built.Outcome.{Outcome}
use Rattle.desk_work.specs.declared.built.Outcome.TheVariants.{Done, Stopped, TooLarge}
use Rattle.desk_work.specs.declared.built.PageRow.{PageRow}
use Rattle.desk_top.specs.Cited.{AreCitedBut, AreShown, IsTextAt, row_in, rows_in, rows_in_all, rows_of_build, text_of, with_rows}
use Rattle.desk_top.specs.Given.{rows_cited, rows_of}
use Rattle.desk_top.specs.Served.{IsOfBuild, IsServed, is_build, places_of}
use Rattle.desk_top.specs.Told.{AreOfBuilds, is_build_at}
use Rattle.desk_top.specs.declared.callers.BuiltAt.{BuiltAt}
use Rattle.desk_top.proofs.ElementLaws.{contained_stands, from_lists, in_lists, mapped, mapped_from, none_of, stands_contained}
use Rattle.desk_top.proofs.KeptLaws.{with_both}

-- One build after another

not_none : (shown : List (Option BuiltText)) (place : ℕ) → All (λ one. one ≡ None) shown
    → is_some (get_or shown place None) ≡ true → ⊥
not_none [] place none is = absurd (true≢false (sym is))
not_none (one ∷ shown) zero none is =
    let first : one ≡ None = none 0 one (omega arith) in absurd (true≢false (sym is ∙ ap is_some first))
not_none (one ∷ shown) (suc place) none is =
    not_none shown place (λ k d within. none (suc k) d (omega arith)) is

pub none_cited : (shown : List (Option BuiltText)) (built : List BuiltAt) → All (λ one. one ≡ None) shown
    → All (λ (place : ℕ). place < length shown) (places_of built) → AreCitedBut shown [] built built
none_cited shown built none within = record {
  forth = λ place stands. inr stands;
  back = λ place text is. absurd (not_none shown place none (ap is_some is));
  among = λ one stands. stands;
  within = within;
  rows = refl;
}

first_or_rest : (first : ℕ) (rest : List ℕ) (place : ℕ) → Stands (first ∷ rest) place
    → (place ≡ first) ⊎ Stands rest place
first_or_rest first rest place (zero, e) = inl (sym (same_Some first place e))
first_or_rest first rest place (suc k, e) = inr (k, e)

pub one_cited : (shown : List (Option BuiltText)) (old new : List (ℕ × Row)) (built : List BuiltAt) (first : BuiltAt)
    (rest : List BuiltAt) (text : BuiltText) → text ≡ text_of first.outcome
    → new ≡ with_rows old (rows_in first.outcome) → AreCitedBut shown old built (first ∷ rest)
    → AreCitedBut (set shown first.place (Some text)) new built rest
one_cited shown old new built first rest text told put cited =
    let later = set shown first.place (Some text) in
    let within = All-head (λ (place : ℕ). place < length shown) first.place (places_of rest) cited.within in
    let here : get_or later first.place None ≡ Some text = get_or-set_same shown first.place (Some text) None within in
    let there : (place : ℕ) → place ≢ first.place → get_or later place None ≡ get_or shown place None =
    λ place differ. get_or-set_other shown first.place place (Some text) None differ in
    let own : IsTextAt built first.place text =
    record { outcome = first.outcome; stands = cited.among first (0, refl); is = told } in
    record {
      forth = λ place stands. dite (ℕ_discrete place first.place)
          (λ same. inl (subst (λ n. is_some (get_or later n None) ≡ true) (sym same) (ap is_some here)))
          (λ differ. ⊎_elim (λ is. inl (ap is_some (there place differ) ∙ is))
          (λ left. ⊎_elim (λ same. absurd (differ same)) (λ behind. inr behind)
          (first_or_rest first.place (places_of rest) place left)) (cited.forth place stands));
      back = λ place one is. dite (ℕ_discrete place first.place)
          (λ same. subst (λ n. IsTextAt built n one) (sym same) (subst (IsTextAt built first.place)
          (same_Some text one (sym here ∙ subst (λ n. get_or later n None ≡ Some one) same is)) own))
          (λ differ. cited.back place one (sym (there place differ) ∙ is));
      among = λ one stands. cited.among one (suc stands.0, stands.1);
      within = subst (λ many. All (λ (place : ℕ). place < many) (places_of rest))
          (sym (length-set shown first.place (Some text)))
          (All-tail (λ (place : ℕ). place < length shown) first.place (places_of rest) cited.within);
      rows = ap (λ kept. with_rows kept (rows_in_all rest)) put
          ∙ sym (with_both (rows_in first.outcome) (rows_in_all rest) old) ∙ cited.rows;
    }

-- all are shown, and all their rows are kept
pub all_shown : (shown : List (Option BuiltText)) (kept : List (ℕ × Row)) (built : List BuiltAt)
    → AreCitedBut shown kept built [] → AreShown shown built
all_shown shown kept built cited = record {
  forth = λ place stands. ⊎_elim (λ is. is) (λ left. absurd (none-some place left.1)) (cited.forth place stands);
  back = cited.back;
}

-- Builds of a history

pub within_log : (log : List Entry) (place : ℕ) (entry : Entry) → slice_get log place ≡ Some entry → place < length log
within_log log place entry is = slice_get_within log place entry is

pub build_within : (log : List Entry) (place : ℕ) → IsOfBuild log place → place < length log
build_within log place is = within_log log place is.entry is.stands

pub stands_at : (log : List Entry) (place : ℕ) (entry : Entry) → slice_get log place ≡ Some entry
    → is_build_at log place ≡ is_build entry.request
stands_at log place entry e = ap (λ found. option_map_or (λ (one : Entry). is_build one.request) found false) e

same_tests : (a b : Bool) → (a ≡ true → b ≡ true) → (b ≡ true → a ≡ true) → a ≡ b
same_tests true b forth back = sym (forth refl)
same_tests false true forth back = back refl
same_tests false false forth back = refl

abbrev place_in : BuiltAt → ℕ
place_in one = one.place

-- a build that was answered stands in the history
pub stands_built : (log : List Entry) (built : List BuiltAt) (one : BuiltAt) → IsServed log built → Contains built one
    → IsOfBuild log one.place
stands_built log built one served among =
    All-contains (IsOfBuild log) (places_of built) one.place served.builds (mapped place_in built one among)

-- and what is shown at its place is what is shown of it
build_at : (built : List BuiltAt) (one : BuiltAt) (k : ℕ) → slice_get built k ≡ Some one
    → slice_get (places_of built) k ≡ Some one.place
build_at [] one k is = absurd (none-some one is)
build_at (first ∷ built) one zero is = ap (λ (b : BuiltAt). Some b.place) (same_Some first one is)
build_at (first ∷ built) one (suc k) is = build_at built one k is

apart : (built : List BuiltAt) (one other : BuiltAt) (i j : ℕ)
    → AllPairs (λ (place other : ℕ). place ≢ other) (places_of built) → i < j → slice_get built i ≡ Some one → slice_get built j ≡ Some other → one.place ≡ other.place → ⊥
apart built one other i j once before first second same =
    let places = places_of built in
    let here = build_at built one i first in
    let there = build_at built other j second in
    once i j 0 before (slice_get_within places j other.place there)
    (get_or_from_slice_get places i one.place 0 here ∙ same ∙ sym (get_or_from_slice_get places j other.place 0 there))

pub same_build : (built : List BuiltAt) (one other : BuiltAt)
    → AllPairs (λ (place other : ℕ). place ≢ other) (places_of built) → Stands built one → Stands built other
    → one.place ≡ other.place → one ≡ other
same_build built one other once (i, first) (j, second) same =
    ⊎_elim (λ low. absurd (apart built one other i j once low first second same))
    (λ upper. ⊎_elim (λ high. absurd (apart built other one j i once high second first (sym same)))
    (λ lower. let equal : j ≡ i = omega (arith, upper, lower) in
    same_Some one other (sym first ∙ subst (λ n. slice_get built n ≡ Some other) equal second)) (cases_lt j i))
    (cases_lt i j)

pub text_shown_at : (built : List BuiltAt) (shown : List (Option BuiltText)) (one : BuiltAt)
    → AllPairs (λ (place other : ℕ). place ≢ other) (places_of built) → AreShown shown built → Contains built one
    → get_or shown one.place None ≡ Some (text_of one.outcome)
text_shown_at built shown one once are among =
    by_text (get_or shown one.place None) refl (are.forth one.place
    (contained_stands (places_of built) one.place (mapped place_in built one among)))
  where
    by_text : (found : Option BuiltText) → get_or shown one.place None ≡ found → is_some found ≡ true
        → get_or shown one.place None ≡ Some (text_of one.outcome)
    by_text None at is = absurd (true≢false (sym is))
    by_text (Some text) at is =
        let of = are.back one.place text at in
        let other : BuiltAt = record { place = one.place; outcome = of.outcome } in
        let same = same_build built other one once of.stands (contained_stands built one among) refl in
        at ∙ ap Some (of.is ∙ ap (λ (b : BuiltAt). text_of b.outcome) same)

pub of_builds : (log : List Entry) (built : List BuiltAt) (shown : List (Option BuiltText)) → IsServed log built
    → AreShown shown built → AreOfBuilds log shown
of_builds log built shown served are place within =
    let answered = served.answered place within in
    let here = stands_at log place answered.entry answered.stands in
    same_tests _ _ (λ is. found (get_or shown place None) refl is)
    (λ is. are.forth place (answered.outcome (sym here ∙ is)))
  where
    found : (one : Option BuiltText) → get_or shown place None ≡ one → is_some one ≡ true → is_build_at log place ≡ true
    found None at is = absurd (true≢false (sym is))
    found (Some text) at is =
        let of = are.back place text at in
        let one : BuiltAt = record { place = place; outcome = of.outcome } in
        let build = stands_built log built one served (stands_contained built one of.stands) in
        stands_at log place build.entry build.stands ∙ build.is

-- Rows

data_in : (pages : List PageRow) (row : Row) → Contains (map row_in pages) row
    → Contains (map (λ (page : PageRow). row_data page.row) pages) (row_data row)
data_in pages row is =
    let found = mapped_from row_in pages row is in
    subst (λ (one : Row). Contains (map (λ (page : PageRow). row_data page.row) pages) (row_data one)) found.is
    (mapped (λ (page : PageRow). row_data page.row) pages found.one found.among)

pub data_of : (outcome : Outcome) (row : Row) → Contains (rows_in outcome) row → Contains (rows_of outcome) (row_data row)
data_of (Done pages faults) row is = data_in pages row is
data_of (Stopped stop) row is = absurd (none_of row is)
data_of (TooLarge total) row is = absurd (none_of row is)

-- a row of a build is among the rows that builds cite
pub cited_by_builds : (built : List BuiltAt) (row : Row) → Contains (rows_in_all built) row
    → Stands (rows_cited built) (row_data row)
cited_by_builds built row is =
    let found = from_lists rows_of_build built row is in
    contained_stands (rows_cited built) (row_data row)
    (in_lists (λ (one : BuiltAt). rows_of one.outcome) built found.one (row_data row) found.among
    (data_of found.one.outcome row found.has))

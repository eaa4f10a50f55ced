-- Whoever has taken in all sessions knows what the batch made.
use Rattle.std.proofs.Common.{◌≡◌, ◌≢◌, ◌<◌, ◌++◌, ℕ, zero, suc, List, [], ◌∷◌, Some, AllPairs, flat_map, length, map, sum_by, refl, sym, ap, ◌∙◌, subst, arith}
use Rattle.std.specs.List.{AllZip, slice_get}
use Rattle.std.proofs.lemmas.Option.{none-some, same_Some, slice_get_within}
use Rattle.dita_doc.specs.History.{Entry}
use Rattle.facts.specs.Rows.{RowData, Stands}
use Rattle.desk_core.specs.Book.{BookData}
use Rattle.desk_language.specs.Language.{Language}
use Rattle.desk_lock.specs.Closes.{Closes}
use Rattle.desk_lock.specs.Knows.{all_parts}
use Rattle.desk_lock.specs.Learns.{KnowsAll}
use Rattle.desk_lock.specs.Meaning.{Meaning}
use Rattle.desk_lock.specs.declared.view.View.{View}
use Rattle.desk_work.proofs.Lists.{each_at, each_from}
use Rattle.desk_top.specs.BatchMade.{BatchMade}
use Rattle.desk_top.specs.Made.{AreMade, BuildMade, IsMadeAs}
use Rattle.desk_top.specs.SessionMade.{IsOf, TakesRows, all_made, rows_made}
use Rattle.desk_top.specs.declared.callers.BuiltAt.{BuiltAt}
use Rattle.desk_top.proofs.AskedLaws.{zip_at}
use Rattle.desk_top.proofs.GatherLaws.{AreGathered, AreSessionsFrom, IsKnownBy, gather}
use Rattle.desk_top.proofs.MadeLaws.{sum_all}
use Rattle.desk_top.proofs.OrderLaws.{AreApart, ordered, ordered_within, rises, stands_ordered, weigh_ordered}
use Rattle.desk_top.proofs.PlaceLaws.{map_at, pair_at}

abbrev place_in : BuildMade → ℕ
place_in one = one.place

abbrev place_given : BuiltAt → ℕ
place_given given = given.place

zip_places : (language : Language) (built : List BuiltAt) (builds : List BuildMade) → AllZip (IsOf language) built builds
    → map place_given built ≡ map place_in builds
zip_places language [] [] zip = refl
zip_places language [] (one ∷ builds) zip = absurd zip
zip_places language (given ∷ built) [] zip = absurd zip
zip_places language (given ∷ built) (one ∷ builds) zip =
    let here = zip.0.place in let rest = zip_places language built builds zip.1 in λ i. here i ∷ rest i

zip_forth : {X Y : Type 0} (R : X → Y → Type 0) (xs : List X) (ys : List Y) (k : ℕ) (x : X) → AllZip R xs ys
    → slice_get xs k ≡ Some x → (y : Y) × (slice_get ys k ≡ Some y) × R x y
zip_forth R [] ys k x zip at = absurd (none-some x at)
zip_forth R (a ∷ xs) [] k x zip at = absurd zip
zip_forth R (a ∷ xs) (b ∷ ys) zero x zip at = (b, refl, subst (λ z. R z b) (same_Some a x at) zip.0)
zip_forth R (a ∷ xs) (b ∷ ys) (suc k) x zip at = zip_forth R xs ys k x zip.1 at

pub flat_mapped : {X Y Z : Type 0} (f : Y → List Z) (g : X → Y) (xs : List X)
    → flat_map f (map g xs) ≡ flat_map (λ x. f (g x)) xs
flat_mapped f g [] = refl
flat_mapped f g (x ∷ xs) = ap (λ rest. f (g x) ++ rest) (flat_mapped f g xs)

module _ (means : Meaning) (language : Language) {C : Type 0} (view : C → View) (gave : C → List BuiltAt) (v w : View)
    (book : BookData) (callers : List C) (closes : Closes means w book) (parts : w.parts ≡ all_parts)
    (fresh : v.published ≡ []) (takes : TakesRows v (map view callers) w)
    (sessions : AreSessionsFrom means language book.store.history view gave 1 callers)
    (once : AllPairs (λ (place other : ℕ). place ≢ other) (map place_given (flat_map gave callers))) where
  abbrev log : List Entry
  log = book.store.history

  knows : KnowsAll w book
  knows = closes.all parts

  gathered : AreGathered means language log view gave 1 callers
  gathered = gather means language log view gave 1 callers sessions

  abbrev builds_in_order : List BuildMade
  builds_in_order = ordered place_in gathered.all 0 (length log)

  apart : AreApart place_in gathered.all
  apart j k one other less here there =
      pair_at (λ (place other : ℕ). place ≢ other) (map place_in gathered.all) j k (place_in one) (place_in other)
      (subst (AllPairs (λ (place other : ℕ). place ≢ other))
      (zip_places language (flat_map gave callers) gathered.all gathered.of) once) less
      (map_at place_in gathered.all j one here) (map_at place_in gathered.all k other there)

  is_made : (one : BuildMade) → Stands gathered.all one → IsMadeAs means language log one
  is_made one stands = each_at (IsMadeAs means language log) gathered.all stands.0 one gathered.each stands.1

  low : (one : BuildMade) → Stands gathered.all one → one.place < length log
  low one stands = let is = is_made one stands in slice_get_within log one.place is.entry is.stands

  among : (one : BuildMade) → Stands builds_in_order one → Stands gathered.all one
  among one stands = (ordered_within place_in gathered.all 0 (length log) one stands).stands

  printed : (row : RowData) → IsKnownBy means language log view gave callers row → Stands knows.prints row
  printed row known =
      let there = takes.rows known.at (view known.who) (map_at view callers known.at known.who known.stands) row
      known.knows in
      each_at (Stands knows.prints) w.rows there.0 row knows.rows there.1

  all_published : (weight : RowData → ℕ) → sum_by weight (all_made gathered.all) ≡ sum_by weight knows.prints
  all_published weight =
      ap (sum_by weight) (sym gathered.published ∙ sym (flat_mapped (λ (u : View). u.published) view callers)
      ∙ ap (λ (first : List RowData). first ++ flat_map (λ (u : View). u.published) (map view callers)) (sym fresh)
      ∙ sym takes.published)
      ∙ knows.published weight

  all_ordered : (weight : RowData → ℕ)
      → sum_by weight (flat_map (λ (one : BuildMade). one.made) builds_in_order) ≡ sum_by weight knows.prints
  all_ordered weight =
      sum_all weight rows_made builds_in_order
      ∙ weigh_ordered place_in (λ (one : BuildMade). sum_by weight one.made) gathered.all (length log) apart
      (λ k one at. low one (k, at))
      ∙ sym (sum_all weight rows_made gathered.all) ∙ all_published weight

  rise : (at later : ℕ) (one other : BuildMade) → at < later → slice_get builds_in_order at ≡ Some one
      → slice_get builds_in_order later ≡ Some other → one.place < other.place
  rise at later one other less here there =
      rises place_in gathered.all 0 (length log) at later one other less here there

  made_in_order : AreMade means language log knows.prints builds_in_order
  made_in_order = record {
    each = λ at one here. is_made one (among one (at, here));
    follow = λ at later one other less here there same. gathered.follow one other (among one (at, here))
        (among other (later, there)) same (rise at later one other less here there);
    all = all_ordered;
    stand = λ at one here. each_from (Stands knows.prints) one.cited
        (λ k row stands. printed row (gathered.cited one (among one (at, here)) row (k, stands)));
  }

  -- the builds in order made what was published
  pub batch_made : BatchMade means language book (flat_map gave callers)
  batch_made = record {
    prints = knows.prints;
    builds = builds_in_order;
    left = knows.left;
    never = closes.never_twice;
    are = made_in_order;
    rise = rise;
    forth = λ given stands. (
        let found = zip_forth (IsOf language) (flat_map gave callers) gathered.all stands.0 given gathered.of stands.1 in
        record {
          one = found.0;
          stands = stands_ordered place_in gathered.all 0 (length log) apart found.0 (stands.0, found.1) (omega arith)
              (omega (arith, low found.0 (stands.0, found.1)));
          of = found.2;
        });
    back = λ one stands. (let there = among one stands in
        let found = zip_at (IsOf language) (flat_map gave callers) gathered.all there.0 one gathered.of there.1 in
        record { given = found.0; stands = (there.0, found.1); of = found.2 });
  }

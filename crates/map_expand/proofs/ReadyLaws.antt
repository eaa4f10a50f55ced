-- The work that is left can be done, from step to step.
use Rattle.std.specs.Prelude.{◌≡◌, ◌+◌, ◌<◌, ◌≤◌, ◌||◌, ℕ, zero, suc, Bool, true, false, List, [], ◌∷◌, ◌++◌, Some, None, length, get_or, bytes_eq}
use Rattle.std.specs.BTreeMap.{get}
use Rattle.std.specs.Cmp.Lexicographic.{slice_cmp}
use Rattle.std.specs.List.{list_any}
use Rattle.std.specs.Ordering.{nat_cmp}
use Rattle.std.proofs.Common.{refl, sym, ap, ◌∙◌, arith, set, subst, append-nil, length-append}
use Rattle.std.proofs.Math.Logic.{⊎_elim}
use Rattle.std.proofs.lemmas.Bool.{cases_lt, false≢true}
use Rattle.std.proofs.lemmas.List.Folds.{list_any-append}
use Rattle.std.proofs.lemmas.Slice.Eq.{bytes_eq-Decides}
use Rattle.dita_doc.proofs.Tests.{same_text}
use Rattle.readers.specs.Founded as founded
use Rattle.readers.specs.Founded.{Grows}
use Rattle.readers.specs.Told.{Told}
use Rattle.map_expand.specs.AskedFor.{AreAsked}
use Rattle.map_expand.specs.Going.{AreApart, Ready, homes_of}
use Rattle.map_expand.specs.Homes.{Extends, Home, flag_at, flags, home_at, homes, name_at}
use Rattle.map_expand.specs.Known.{MapsFit}
use Rattle.map_expand.specs.Making.{AllFit, WalkFits, path_after, path_of}
use Rattle.map_expand.specs.declared.expansion.Expansion.{Expansion}
use Rattle.map_expand.specs.declared.maps.MapDoc.{MapDoc}
use Rattle.map_expand.specs.declared.maps.Maps.{Maps}
use Rattle.map_expand.specs.declared.work.Walk.{Walk}
use Rattle.map_expand.specs.declared.work.Work.{Work}
use Rattle.map_expand.specs.declared.work.Work.TheVariants as works
use Rattle.map_expand.proofs.MakingLaws.{fits_both, fits_more, home_still, path_after_still}
use Rattle.map_expand.proofs.AskedForLaws.{asked_later}
use Rattle.map_expand.proofs.GoingLaws.{path_entered}

-- Names

-- one name more, which is none of them
pub apart_more : (names : List (List ℕ)) (name : List ℕ) → AreApart names → list_any (bytes_eq name) names ≡ false
    → AreApart (names ++ name ∷ [])
apart_more [] name apart absent = (refl, tt)
apart_more (first ∷ names) name apart absent =
    let differ : bytes_eq first name ≡ false = other_way name first (or_first (bytes_eq name first) _ absent) in (
      list_any-append (bytes_eq first) names (name ∷ []) ∙ both_false _ _ apart.0 (both_false _ _ differ refl),
      apart_more names name apart.1 (or_second (bytes_eq name first) _ absent),
    )
  where
    or_first : (a b : Bool) → (a || b) ≡ false → a ≡ false
    or_first true b e = e
    or_first false b e = refl

    or_second : (a b : Bool) → (a || b) ≡ false → b ≡ false
    or_second true b e = cc
    or_second false b e = e

    both_false : (a b : Bool) → a ≡ false → b ≡ false → (a || b) ≡ false
    both_false a b e f = rw (e, f) refl

    other_way : (a b : List ℕ) → bytes_eq a b ≡ false → bytes_eq b a ≡ false
    other_way a b e = by_test (bytes_eq b a) refl
      where
        by_test : (test : Bool) → bytes_eq b a ≡ test → bytes_eq b a ≡ false
        by_test false t = t
        by_test true t =
            absurd (false≢true (sym e ∙ (bytes_eq-Decides a b).1 (sym ((bytes_eq-Decides b a).0 t))))

-- Maps that are known

-- what is known stays so where neither what was told nor the maps change
pub maps_same : (told : List Told) (old new : Maps) → new.known ≡ old.known → homes_of new ≡ homes_of old
    → MapsFit told old → MapsFit told new
maps_same told old new known same fits = record {
  knows = λ world agrees name. rw (known, same) (fits.knows world agrees name);
  stored = λ at within. rw (known, same) (fits.stored at (subst (λ h. at < length h) same within));
  fits = λ at within. rw same (fits.fits at (subst (λ h. at < length h) same within));
  names = λ name at is. rw same (fits.names name at (sym (ap (λ k. get (slice_cmp nat_cmp) k name) known) ∙ is));
  tells = λ at within. rw same (fits.tells at (subst (λ h. at < length h) same within));
}

some_place : (a b : ℕ) → Some (Some a) ≡ Some (Some b) → a ≡ b
some_place a b same = cc

-- two maps of one name are one map
pub one_of_name : (told : List Told) (maps : Maps) (a b : ℕ) → MapsFit told maps → a < length (homes_of maps)
    → b < length (homes_of maps) → name_at (homes_of maps) a ≡ name_at (homes_of maps) b → a ≡ b
one_of_name told maps a b fits first second same = some_place a b
    (sym (fits.stored a first) ∙ ap (get (slice_cmp nat_cmp) maps.known) same ∙ fits.stored b second)

pub fits_later : (homes : List Home) (n m : ℕ) (all : List Work) → n ≤ m → AllFit homes n all → AllFit homes m all
fits_later homes n m all less fits = subst (λ h. AllFit h m all) (append-nil homes) (fits_more homes [] n m all less fits)

-- A map is marked

pub flag_put : (all : List Bool) (at : ℕ) (is : Bool) → at < length all → get_or (set all at is) at false ≡ is
flag_put [] at is inside = absurd (omega arith)
flag_put (first ∷ all) zero is inside = refl
flag_put (first ∷ all) (suc at) is inside = flag_put all at is (omega arith)

pub flag_else : (all : List Bool) (at k : ℕ) (is : Bool) → (k ≡ at → ⊥) → get_or (set all at is) k false ≡ get_or all k false
flag_else [] at k is apart = refl
flag_else (first ∷ all) zero zero is apart = absurd (apart refl)
flag_else (first ∷ all) zero (suc k) is apart = refl
flag_else (first ∷ all) (suc at) zero is apart = refl
flag_else (first ∷ all) (suc at) (suc k) is apart = flag_else all at k is (λ e. apart (ap suc e))

pub length_flags : (maps : List MapDoc) → length (flags maps) ≡ length (homes maps)
length_flags [] = refl
length_flags (map ∷ maps) = ap suc (length_flags maps)

-- the names that are marked, with one name more
module _ (told : List Told) (maps : Maps) (fits : MapsFit told maps) (path : List (List ℕ)) (at : ℕ)
    (there : at < length (homes_of maps))
    (around : (k : ℕ) → k < length (homes_of maps) → flag_at maps.maps.items k
    ≡ list_any (bytes_eq (name_at (homes_of maps) k)) path) where
  marked_at : (k : ℕ) → k < length (homes_of maps) → (is : Bool)
      → bytes_eq (name_at (homes_of maps) k) (name_at (homes_of maps) at) ≡ is
      → get_or (set (flags maps.maps.items) at true) k false
      ≡ (list_any (bytes_eq (name_at (homes_of maps) k)) path || (is || false))
  marked_at k within true same =
      let one : k ≡ at = one_of_name told maps k at fits within there (same_text _ _ same) in
      ap (λ n. get_or (set (flags maps.maps.items) at true) n false) one
      ∙ flag_put (flags maps.maps.items) at true (omega (arith, length_flags maps.maps.items))
      ∙ sym (either (list_any (bytes_eq (name_at (homes_of maps) k)) path))
    where
      either : (b : Bool) → (b || true) ≡ true
      either true = refl
      either false = refl
  marked_at k within false differ =
      flag_else (flags maps.maps.items) at k true (λ e. false≢true (sym differ
      ∙ (bytes_eq-Decides (name_at (homes_of maps) k) (name_at (homes_of maps) at)).1 (ap (name_at (homes_of maps)) e)))
      ∙ around k within ∙ sym (neither (list_any (bytes_eq (name_at (homes_of maps) k)) path))
    where
      neither : (b : Bool) → (b || false) ≡ b
      neither true = refl
      neither false = refl

  pub marked : (k : ℕ) → k < length (homes_of maps) → get_or (set (flags maps.maps.items) at true) k false
      ≡ list_any (bytes_eq (name_at (homes_of maps) k)) (path ++ name_at (homes_of maps) at ∷ [])
  marked k within =
      marked_at k within (bytes_eq (name_at (homes_of maps) k) (name_at (homes_of maps) at)) refl
      ∙ sym (list_any-append (bytes_eq (name_at (homes_of maps) k)) path (name_at (homes_of maps) at ∷ []))

-- a map is entered
pub ready_entered : (told : List Told) (maps new : Maps) (x y : Expansion) (at : ℕ) (walk : Walk) → Ready told maps x
    → at < length (homes_of maps) → flag_at maps.maps.items at ≡ false → new.known ≡ maps.known
    → homes_of new ≡ homes_of maps → flags new.maps.items ≡ set (flags maps.maps.items) at true
    → length x.nodes ≤ length y.nodes
    → y.left.items ≡ (x.left.items ++ works.Leave at ∷ []) ++ works.Walk walk ∷ []
    → WalkFits (homes_of maps) (length y.nodes) walk → AreAsked told (founded.homes y.nodes) → Ready told new y
ready_entered told maps new x y at walk ready there free known same flagged more left fits asked =
    let path = path_of (homes_of maps) x.left.items in
    let path_is : path_of (homes_of new) y.left.items ≡ path ++ name_at (homes_of maps) at ∷ [] =
    ap (λ h. path_of h y.left.items) same ∙ path_entered (homes_of maps) x.left.items y.left.items at walk left in
    record {
      maps_fit = maps_same told maps new known same ready.maps_fit;
      work = subst (λ h. AllFit h (length y.nodes) y.left.items) (sym same)
          (subst (AllFit (homes_of maps) (length y.nodes)) (sym left)
          (fits_both (homes_of maps) (length y.nodes) (x.left.items ++ works.Leave at ∷ []) (works.Walk walk ∷ [])
          (fits_both (homes_of maps) (length y.nodes) x.left.items (works.Leave at ∷ [])
          (fits_later (homes_of maps) (length x.nodes) (length y.nodes) x.left.items more ready.work) (there, tt))
          (fits, tt)));
      around = λ k within.
          let inside : k < length (homes_of maps) = subst (λ h. k < length h) same within in
          ap (λ f. get_or f k false) flagged
          ∙ marked told maps ready.maps_fit path at there ready.around k inside
          ∙ ap (λ h. list_any (bytes_eq (name_at h k)) (path ++ name_at (homes_of maps) at ∷ [])) (sym same)
          ∙ ap (list_any (bytes_eq (name_at (homes_of new) k))) (sym path_is);
      apart = subst AreApart (sym path_is) (apart_more path (name_at (homes_of maps) at) ready.apart
          (sym (ready.around at there) ∙ free));
      asked = asked;
    }

-- More maps are known

no_flag : (all : List Bool) (at : ℕ) → length all ≤ at → get_or all at false ≡ false
no_flag [] at past = refl
no_flag (first ∷ all) zero past = absurd (omega arith)
no_flag (first ∷ all) (suc at) past = no_flag all at (omega arith)

-- a name of none of the maps stands on no path
absent : (homes : List Home) (n : ℕ) (name : List ℕ)
    → ((at : ℕ) → at < length homes → bytes_eq name (name_at homes at) ≡ false)
    → (path : List (List ℕ)) (all : List Work) → AllFit homes n all → list_any (bytes_eq name) path ≡ false
    → list_any (bytes_eq name) (path_after homes path all) ≡ false
absent homes n name other path [] fits none = none
absent homes n name other path (works.Walk walk ∷ all) fits none = absent homes n name other path all fits.1 none
absent homes n name other path (works.Leave at ∷ all) fits none =
    absent homes n name other (path ++ name_at homes at ∷ []) all fits.1
    (list_any-append (bytes_eq name) path (name_at homes at ∷ []) ∙ neither _ _ none (other at fits.0))
  where
    neither : (a b : Bool) → a ≡ false → b ≡ false → (a || (b || false)) ≡ false
    neither a b e f = rw (e, f) refl

pub ready_found : (told later : List Told) (maps new : Maps) (x : Expansion) → Ready told maps x → Grows told later
    → MapsFit later new
    → Extends (homes_of maps) (homes_of new)
    → ((at : ℕ) → flag_at new.maps.items at ≡ flag_at maps.maps.items at) → Ready later new x
ready_found told later maps new x ready grows fits extends flagged =
    let more = extends.more in
    let is = extends.is in
    let homes = homes_of maps in
    let path_is : path_of (homes_of new) x.left.items ≡ path_of homes x.left.items =
    ap (λ h. path_of h x.left.items) is ∙ path_after_still (λ name. None) homes more (length x.nodes) [] x.left.items ready.work in
    let many : length (homes_of new) ≡ length homes + length more = ap (λ l. length l) is ∙ length-append homes more in
    record {
      maps_fit = fits;
      work = subst (λ h. AllFit h (length x.nodes) x.left.items) (sym is)
          (fits_more homes more (length x.nodes) (length x.nodes) x.left.items (omega arith) ready.work);
      around = λ k within.
          ⊎_elim (λ old. flagged k ∙ ready.around k old
          ∙ ap (λ (h : Home). list_any (bytes_eq h.name) (path_of homes x.left.items))
          (sym (ap (λ l. home_at l k) is ∙ home_still homes more k old))
          ∙ ap (list_any (bytes_eq (name_at (homes_of new) k))) (sym path_is))
          (λ past. flagged k ∙ no_flag (flags maps.maps.items) k (omega (arith, length_flags maps.maps.items))
          ∙ sym (ap (list_any (bytes_eq (name_at (homes_of new) k))) path_is
          ∙ absent homes (length x.nodes) (name_at (homes_of new) k) (λ at inside. by_test k at within inside past
          (bytes_eq (name_at (homes_of new) k) (name_at homes at)) refl) [] x.left.items ready.work refl))
          (cases_lt k (length homes));
      apart = subst AreApart (sym path_is) ready.apart;
      asked = asked_later told later (founded.homes x.nodes) grows ready.asked;
    }
  where
    by_test : (k at : ℕ) → k < length (homes_of new) → at < length (homes_of maps) → length (homes_of maps) ≤ k
        → (test : Bool) → bytes_eq (name_at (homes_of new) k) (name_at (homes_of maps) at) ≡ test
        → bytes_eq (name_at (homes_of new) k) (name_at (homes_of maps) at) ≡ false
    by_test k at within inside past false e = e
    by_test k at within inside past true e =
        let is = extends.is in
        let many : length (homes_of new) ≡ length (homes_of maps) + length extends.more = ap (λ l. length l) is ∙ length-append (homes_of maps) extends.more in
        let old : name_at (homes_of new) at ≡ name_at (homes_of maps) at =
        ap (λ (h : Home). h.name) (ap (λ l. home_at l at) is ∙ home_still (homes_of maps) extends.more at inside) in
        let one : k ≡ at = one_of_name later new k at fits within (omega arith) (same_text _ _ e ∙ sym old) in
        absurd (omega (arith, one, past, inside))

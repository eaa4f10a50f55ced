-- A table by names, of each of whose entries the same is known.
use Rattle.std.specs.Prelude.{◌≡◌, ℕ, Bool, true, false, List, [], ◌∷◌, Some, IfSome, cond}
use Rattle.std.specs.BTreeMap.{insert_entry, is_at}
use Rattle.std.specs.Cmp.Lexicographic.{slice_cmp}
use Rattle.std.specs.Map.{lookup}
use Rattle.std.specs.Ordering.{match_ordering, nat_cmp}
use Rattle.std.proofs.Common.{Ordering, Less, Equal, Greater, refl, sym, subst}
use Rattle.dita_doc.proofs.NameOrder.{same_from_equal}
use Rattle.dita_doc.proofs.Orders.{equal_test}

-- what is said of all entries is what is said of each
pub record IsEach {V : Type 0} (Is : List ℕ → V → Type 0) (Are : List (List ℕ × V) → Type 0) : Type 0 where
  pub none : Are []
  pub first : (entry : List ℕ × V) (more : List (List ℕ × V)) → Are (entry ∷ more) → Is entry.0 entry.1
  pub behind : (entry : List ℕ × V) (more : List (List ℕ × V)) → Are (entry ∷ more) → Are more
  pub both : (entry : List ℕ × V) (more : List (List ℕ × V)) → Is entry.0 entry.1 → Are more → Are (entry ∷ more)

-- it still holds of all, if it does of each
pub each_kept : {V : Type 0} (Is Later : List ℕ → V → Type 0) (Are AreLater : List (List ℕ × V) → Type 0)
    → IsEach Is Are → IsEach Later AreLater → ((name : List ℕ) (value : V) → Is name value → Later name value)
    → (entries : List (List ℕ × V)) → Are entries → AreLater entries
each_kept Is Later Are AreLater each later kept [] are = later.none
each_kept Is Later Are AreLater each later kept (entry ∷ more) are =
    later.both entry more (kept entry.0 entry.1 (each.first entry more are))
    (each_kept Is Later Are AreLater each later kept more (each.behind entry more are))

module _ {V : Type 0} (Is : List ℕ → V → Type 0) (Are : List (List ℕ × V) → Type 0) (each : IsEach Is Are) where
  found : (name : List ℕ) (entries : List (List ℕ × V)) → Are entries
      → IfSome (lookup (is_at (slice_cmp nat_cmp name)) entries) (Is name)
  found name [] are = tt
  found name (entry ∷ more) are =
      by_test (found name more (each.behind entry more are)) (is_at (slice_cmp nat_cmp name) entry.0) refl
    where
      by_test : IfSome (lookup (is_at (slice_cmp nat_cmp name)) more) (Is name) → (test : Bool)
          → is_at (slice_cmp nat_cmp name) entry.0 ≡ test
          → IfSome (cond test (Some entry.1) (lookup (is_at (slice_cmp nat_cmp name)) more)) (Is name)
      by_test later true same =
          subst (λ n. Is n entry.1)
          (sym (same_from_equal name entry.0 (equal_test (slice_cmp nat_cmp name entry.0) same)))
          (each.first entry more are)
      by_test later false same = later

  -- of the value that is found under a name
  pub each_found : (name : List ℕ) (entries : List (List ℕ × V)) (value : V)
      → Some value ≡ lookup (is_at (slice_cmp nat_cmp name)) entries → Are entries → Is name value
  each_found name entries value is are =
      subst (λ some. IfSome some (Is name)) (sym is) (found name entries are)

  put : (name : List ℕ) (value : V) (entries : List (List ℕ × V)) → Are entries → Is name value
      → Are (insert_entry (slice_cmp nat_cmp) entries name value)
  put name value [] are is = each.both (name, value) [] is each.none
  put name value (entry ∷ more) are is =
      by_order (put name value more (each.behind entry more are) is) (slice_cmp nat_cmp name entry.0) refl
    where
      by_order : Are (insert_entry (slice_cmp nat_cmp) more name value) → (o : Ordering)
          → slice_cmp nat_cmp name entry.0 ≡ o
          → Are (match_ordering o ((name, value) ∷ entry ∷ more) ((entry.0, value) ∷ more)
          (entry ∷ insert_entry (slice_cmp nat_cmp) more name value))
      by_order later Less same = each.both (name, value) (entry ∷ more) is are
      by_order later Equal same = each.both (entry.0, value) more
          (subst (λ n. Is n value) (same_from_equal name entry.0 same) is) (each.behind entry more are)
      by_order later Greater same = each.both entry (insert_entry (slice_cmp nat_cmp) more name value)
          (each.first entry more are) later

  -- of all, with one that was put under a name
  pub each_put : (name key : List ℕ) (value : V) (entries later : List (List ℕ × V)) → key ≡ name
      → later ≡ insert_entry (slice_cmp nat_cmp) entries key value → Are entries → Is name value → Are later
  each_put name key value entries later same is are here =
      subst Are (sym is) (put key value entries are (subst (λ n. Is n value) (sym same) here))

-- What is left of faults that are sorted and of which each stands once is their report; and they have one report only,
-- the one that is made by putting each fault in its place.
use Rattle.std.specs.Prelude.{◌≡◌, List, [], ◌∷◌, map}
use Rattle.std.specs.List.{All, AllByRecursion, Contains, dedup}
use Rattle.std.specs.List.Sorted.{IsPermutation, IsSorted, IsStrictlySortedBy}
use Rattle.std.specs.Cmp.{IsTotalOrder}
use Rattle.std.specs.Ordering.{eq_by_cmp, ordering_reverse}
use Rattle.std.specs.declared.cmp.Ordering.{Ordering}
use Rattle.std.specs.declared.cmp.Ordering.TheVariants.{Less, Equal, Greater}
use Rattle.std.proofs.Common.{refl, sym, ap, subst, ◌∙◌, inl, inr, arith}
use Rattle.std.proofs.lemmas.Cmp.{on_total, eq_by_cmp_equiv}
use Rattle.std.proofs.lemmas.List.Elements.{All-cons, All-contains, All-weaker, Contains-append_right}
use Rattle.std.proofs.lemmas.List.Kept.{Any-dedup, Contains-from_dedup, IsStrictlySortedBy-dedup}
use Rattle.std.proofs.lemmas.List.Sorted.{Contains-permutation, IsPermutation-sym}
use Rattle.dita_doc.specs.declared.fault.Fault.{Fault}
use Rattle.dita_doc.proofs.Orders.{equal_test}
use Rattle.fault_report.specs.Report.{fault_order, put_by, put_fault, report_of, IsAmong, IsBeforeAll, IsRising, IsReport}
use Rattle.fault_report.proofs.OrderLaws.{fault_order_total, same_fault}

less≢greater : Less ≡ Greater → ⊥
less≢greater e = cc

module _ {X : Type 0} (seen : X → Fault) where
  -- the order of what shows faults, and whether two show the same
  abbrev pub seen_order : X → X → Ordering
  seen_order x y = fault_order (seen x) (seen y)

  before_all : (x : X) (xs : List X) → AllByRecursion (λ y. seen_order x y ≡ Less) xs
      → IsBeforeAll (seen x) (map seen xs)
  before_all x [] below = tt
  before_all x (y ∷ xs) below = (below.0, before_all x xs below.1)

  rises : (xs : List X) → IsStrictlySortedBy seen_order xs → IsRising (map seen xs)
  unfolding IsStrictlySortedBy
  rises [] sorted = tt
  rises (x ∷ xs) sorted = (before_all x xs sorted.0, rises xs sorted.1)

  -- what a list contains shows a fault among those that it shows
  all_among : (xs : List X) → All (λ x. IsAmong (seen x) (map seen xs)) xs
  all_among [] = λ k d less. absurd (omega arith)
  all_among (x ∷ xs) = All-cons (λ y. IsAmong (seen y) (map seen (x ∷ xs))) x xs (inl refl)
      (All-weaker (λ y. IsAmong (seen y) (map seen xs)) (λ y. IsAmong (seen y) (map seen (x ∷ xs)))
      (λ y among. inr among) xs (all_among xs))

  among : (xs : List X) (x : X) → Contains xs x → IsAmong (seen x) (map seen xs)
  among xs x contains = All-contains (λ y. IsAmong (seen y) (map seen xs)) xs x (all_among xs) contains

  -- and a fault among those is shown by something in the list
  record Shows (fault : Fault) (xs : List X) : Type 0 where
    shown : X
    contains : Contains xs shown
    is : fault ≡ seen shown

  shows : (fault : Fault) (xs : List X) → IsAmong fault (map seen xs) → Shows fault xs
  shows fault [] is_among = absurd is_among
  shows fault (x ∷ xs) (inl is) = record { shown = x; contains = (0, omega arith, refl); is = is }
  shows fault (x ∷ xs) (inr is_among) =
      let rest = shows fault xs is_among in
      record {
        shown = rest.shown;
        contains = Contains-append_right (x ∷ []) xs rest.shown rest.contains;
        is = rest.is;
      }

  order_total : IsTotalOrder seen_order
  order_total = on_total seen fault_order_total

  abbrev distinct : List X → List X
  distinct xs = dedup (eq_by_cmp seen_order) xs

  -- no fault is lost, and none comes in
  kept : (fault : Fault) (xs : List X) → Shows fault xs → IsAmong fault (map seen (distinct xs))
  kept fault xs here =
      let same = Any-dedup (eq_by_cmp_equiv order_total) xs here.shown here.contains in
      let is = here.is ∙ same_fault (seen here.shown) (seen same.1) (equal_test _ same.4) in
      subst (λ f. IsAmong f (map seen (distinct xs))) (sym is) (among (distinct xs) same.1 (same.0, same.2, same.3))

  pub report_of_sorted : (faults : List Fault) (xs sorted : List X) → map seen xs ≡ faults → IsPermutation xs sorted
      → IsSorted seen_order sorted → IsReport faults (map seen (distinct sorted))
  report_of_sorted faults xs sorted all moved order =
      record {
        rising = rises (distinct sorted)
            (IsStrictlySortedBy-dedup order_total {E = eq_by_cmp seen_order} (λ x y. refl) sorted order);
        all = λ fault is_among.
            let here = shows fault xs (subst (IsAmong fault) (sym all) is_among) in
            kept fault sorted (record {
              shown = here.shown;
              contains = Contains-permutation xs sorted here.shown moved here.contains;
              is = here.is;
            });
        only = λ fault is_among.
            let here = shows fault (distinct sorted) is_among in
            let contains = Contains-permutation sorted xs here.shown (IsPermutation-sym xs sorted moved)
            (Contains-from_dedup (eq_by_cmp seen_order) sorted here.shown here.contains)
            in
            rw here.is (subst (IsAmong (seen here.shown)) all (among xs here.shown contains));
      }

-- One report

before_among : (x fault : Fault) (faults : List Fault) → IsBeforeAll x faults → IsAmong fault faults
    → fault_order x fault ≡ Less
before_among x fault [] below is_among = absurd is_among
before_among x fault (y ∷ faults) below (inl is) = rw is below.0
before_among x fault (y ∷ faults) below (inr is_among) = before_among x fault faults below.1 is_among

never_both : (x y : Fault) → fault_order x y ≡ Less → fault_order y x ≡ Less → ⊥
never_both x y below above = less≢greater (sym below ∙ fault_order_total.antisymm x y ∙ ap ordering_reverse above)

first_same : (x y : Fault) (a b : List Fault) → IsBeforeAll x a → IsBeforeAll y b → IsAmong x (y ∷ b)
    → IsAmong y (x ∷ a) → x ≡ y
first_same x y a b below above (inl is) other = is
first_same x y a b below above (inr one) (inl is) = sym is
first_same x y a b below above (inr one) (inr other) =
    absurd (never_both x y (before_among x y a below other) (before_among y x b above one))

-- what stands behind the first fault of one report stands behind that of the other
behind_first : (x y fault : Fault) (a b : List Fault) → x ≡ y → IsBeforeAll x a → IsAmong fault a
    → IsAmong fault (y ∷ b) → IsAmong fault b
behind_first x y fault a b same below is_among (inr behind) = behind
behind_first x y fault a b same below is_among (inl is) =
    let less : fault_order x x ≡ Less = subst (λ f. fault_order x f ≡ Less) (is ∙ sym same)
    (before_among x fault a below is_among)
    in
    absurd (never_both x x less less)

same_rising : (a b : List Fault) → IsRising a → IsRising b → ((fault : Fault) → IsAmong fault a → IsAmong fault b)
    → ((fault : Fault) → IsAmong fault b → IsAmong fault a) → a ≡ b
same_rising [] [] rising risen to back = refl
same_rising [] (y ∷ b) rising risen to back = absurd (back y (inl refl))
same_rising (x ∷ a) [] rising risen to back = absurd (to x (inl refl))
same_rising (x ∷ a) (y ∷ b) rising risen to back =
    let same : x ≡ y = first_same x y a b rising.0 risen.0 (to x (inl refl)) (back y (inl refl)) in
    ap (λ f. f ∷ a) same
    ∙ ap (λ rest. y ∷ rest) (same_rising a b rising.1 risen.1
    (λ fault is_among. behind_first x y fault a b same rising.0 is_among (to fault (inr is_among)))
    (λ fault is_among. behind_first y x fault b a (sym same) risen.0 is_among (back fault (inr is_among))))

pub one_report : (faults a b : List Fault) → IsReport faults a → IsReport faults b → a ≡ b
one_report faults a b first second = same_rising a b first.rising second.rising
    (λ fault is_among. second.all fault (first.only fault is_among))
    (λ fault is_among. first.all fault (second.only fault is_among))

-- The report as a list

behind_same : (x fault : Fault) (a b : List Fault) → (IsAmong x a → IsAmong x b) → IsAmong x (fault ∷ a)
    → IsAmong x (fault ∷ b)
behind_same x fault a b to (inl is) = inl is
behind_same x fault a b to (inr is_among) = inr (to is_among)

-- a fault that is put in its place is there, and so is each that was there, and no other
put_by_only : (order : Ordering) (x fault other : Fault) (faults behind : List Fault)
    → (IsAmong x behind → IsAmong x (fault ∷ faults)) → IsAmong x (put_by order fault other faults behind)
    → IsAmong x (fault ∷ other ∷ faults)
put_by_only Less x fault other faults behind rest is_among = is_among
put_by_only Equal x fault other faults behind rest is_among = inr is_among
put_by_only Greater x fault other faults behind rest (inl is) = inr (inl is)
put_by_only Greater x fault other faults behind rest (inr is_among) =
    behind_same x fault faults (other ∷ faults) (λ one. inr one) (rest is_among)

put_only : (x fault : Fault) (faults : List Fault) → IsAmong x (put_fault fault faults) → IsAmong x (fault ∷ faults)
put_only x fault [] is_among = is_among
put_only x fault (other ∷ faults) is_among =
    put_by_only (fault_order fault other) x fault other faults (put_fault fault faults) (put_only x fault faults) is_among

put_by_all : (order : Ordering) (x fault other : Fault) (faults behind : List Fault) → fault_order fault other ≡ order
    → (IsAmong x (fault ∷ faults) → IsAmong x behind) → IsAmong x (fault ∷ other ∷ faults)
    → IsAmong x (put_by order fault other faults behind)
put_by_all Less x fault other faults behind e rest is_among = is_among
put_by_all Equal x fault other faults behind e rest (inl is) = inl (is ∙ same_fault fault other e)
put_by_all Equal x fault other faults behind e rest (inr is_among) = is_among
put_by_all Greater x fault other faults behind e rest (inl is) = inr (rest (inl is))
put_by_all Greater x fault other faults behind e rest (inr (inl is)) = inl is
put_by_all Greater x fault other faults behind e rest (inr (inr is_among)) = inr (rest (inr is_among))

put_all : (x fault : Fault) (faults : List Fault) → IsAmong x (fault ∷ faults) → IsAmong x (put_fault fault faults)
put_all x fault [] is_among = is_among
put_all x fault (other ∷ faults) is_among =
    put_by_all (fault_order fault other) x fault other faults (put_fault fault faults) refl (put_all x fault faults)
    is_among

before_each : (x : Fault) (faults : List Fault)
    → ((fault : Fault) → IsAmong fault faults → fault_order x fault ≡ Less) → IsBeforeAll x faults
before_each x [] below = tt
before_each x (y ∷ faults) below =
    (below y (inl refl), before_each x faults (λ fault is_among. below fault (inr is_among)))

before_through : (x y : Fault) (faults : List Fault) → fault_order x y ≡ Less → IsBeforeAll y faults
    → IsBeforeAll x faults
before_through x y faults less below = before_each x faults
    (λ fault is_among. fault_order_total.trans x y fault less (before_among y fault faults below is_among))

before_put : (x fault : Fault) (faults : List Fault) → IsBeforeAll x (fault ∷ faults)
    → IsBeforeAll x (put_fault fault faults)
before_put x fault faults below = before_each x (put_fault fault faults)
    (λ y is_among. before_among x y (fault ∷ faults) below (put_only y fault faults is_among))

-- faults that rise rise still with one more in its place
put_by_rises : (order : Ordering) (fault other : Fault) (faults : List Fault) → fault_order fault other ≡ order
    → IsRising (other ∷ faults) → IsRising (put_fault fault faults)
    → IsRising (put_by order fault other faults (put_fault fault faults))
put_by_rises Less fault other faults e rising rest = ((e, before_through fault other faults e rising.0), rising)
put_by_rises Equal fault other faults e rising rest = rising
put_by_rises Greater fault other faults e rising rest =
    let less : fault_order other fault ≡ Less = fault_order_total.antisymm other fault ∙ ap ordering_reverse e in
    (before_put other fault faults (less, rising.0), rest)

put_rises : (fault : Fault) (faults : List Fault) → IsRising faults → IsRising (put_fault fault faults)
put_rises fault [] rising = (tt, tt)
put_rises fault (other ∷ faults) rising =
    put_by_rises (fault_order fault other) fault other faults refl rising (put_rises fault faults rising.1)

pub is_report : (faults : List Fault) → IsReport faults (report_of faults)
is_report [] = record { rising = tt; all = λ fault is_among. is_among; only = λ fault is_among. is_among }
is_report (fault ∷ faults) =
    let report = report_of faults in
    let rest = is_report faults in
    record {
      rising = put_rises fault report rest.rising;
      all = λ x is_among. put_all x fault report (behind_same x fault faults report (rest.all x) is_among);
      only = λ x is_among. behind_same x fault report faults (rest.only x) (put_only x fault report is_among);
    }

pub report_is : (faults report : List Fault) → IsReport faults report → report ≡ report_of faults
report_is faults report is = one_report faults report (report_of faults) is (is_report faults)

-- What holds of each element of a list.
use Rattle.std.specs.Prelude.{◌≡◌, ℕ, zero, suc, Bool, true, false, List, [], ◌∷◌, ◌++◌, Option, Some, None, IfSome, filter, find, map, option_map, slice_get, unwrap_or, if◌then◌else◌}
use Rattle.std.specs.List.{AllByRecursion, cons_option, filter_map, flat_map}
use Rattle.std.specs.Option.{option_and_then, option_map_or, option_or}

-- what one of two has, the one that is chosen has
pub chosen : {X : Type 0} (P : X → Type 0) (test : Bool) (x y : X) → P x → P y → P (if test then x else y)
chosen P true x y first second = first
chosen P false x y first second = second

module _ {X : Type 0} (P : X → Type 0) where
  pub of_found : (test : X → Bool) (xs : List X) → AllByRecursion P xs → IfSome (find test xs) P
  of_found test [] all = tt
  of_found test (x ∷ xs) all = chosen (λ found. IfSome found P) (test x) (Some x) (find test xs) all.0
      (of_found test xs all.1)

  pub of_kept : (test : X → Bool) (xs : List X) → AllByRecursion P xs → AllByRecursion P (filter test xs)
  of_kept test [] all = tt
  of_kept test (x ∷ xs) all =
      let rest = of_kept test xs all.1 in
      chosen (AllByRecursion P) (test x) (x ∷ filter test xs) (filter test xs) (all.0, rest) rest

  pub of_both : (xs ys : List X) → AllByRecursion P xs → AllByRecursion P ys → AllByRecursion P (xs ++ ys)
  of_both [] ys first second = second
  of_both (x ∷ xs) ys first second = (first.0, of_both xs ys first.1 second)

  pub of_place : (xs : List X) (at : ℕ) → AllByRecursion P xs → IfSome (slice_get xs at) P
  of_place [] at all = tt
  of_place (x ∷ xs) zero all = all.0
  of_place (x ∷ xs) (suc at) all = of_place xs at all.1

  pub of_option : (option : Option X) (other : X) → IfSome option P → P other → P (unwrap_or option other)
  of_option None other first second = second
  of_option (Some x) other first second = first

  pub of_either : (option other : Option X) → IfSome option P → IfSome other P → IfSome (option_or option other) P
  of_either None other first second = second
  of_either (Some x) other first second = first

  pub known_by : (option : Option X) (x : X) → IfSome option P → option ≡ Some x → P x
  known_by option x all e = rw e at all

module _ {X Y : Type 0} (P : X → Type 0) (Q : Y → Type 0) where
  pub of_mapped : (f : X → Y) (xs : List X) → ((x : X) → P x → Q (f x)) → AllByRecursion P xs
      → AllByRecursion Q (map f xs)
  of_mapped f [] each all = tt
  of_mapped f (x ∷ xs) each all = (each x all.0, of_mapped f xs each all.1)

  pub of_lists : (f : X → List Y) (xs : List X) → ((x : X) → P x → AllByRecursion Q (f x)) → AllByRecursion P xs
      → AllByRecursion Q (flat_map f xs)
  of_lists f [] each all = tt
  of_lists f (x ∷ xs) each all = of_both Q (f x) (flat_map f xs) (each x all.0) (of_lists f xs each all.1)

  pub of_map_or : (f : X → Y) (option : Option X) (other : Y) → ((x : X) → P x → Q (f x)) → IfSome option P → Q other
      → Q (option_map_or f option other)
  of_map_or f None other each first second = second
  of_map_or f (Some x) other each first second = each x first

  pub of_option_map : (f : X → Y) (option : Option X) → ((x : X) → P x → Q (f x)) → IfSome option P
      → IfSome (option_map f option) Q
  of_option_map f None each first = tt
  of_option_map f (Some x) each first = each x first

  pub of_and_then : (f : X → Option Y) (option : Option X) → ((x : X) → P x → IfSome (f x) Q) → IfSome option P
      → IfSome (option_and_then f option) Q
  of_and_then f None each first = tt
  of_and_then f (Some x) each first = each x first

  one_more : (found : Option Y) (rest : List Y) → IfSome found Q → AllByRecursion Q rest
      → AllByRecursion Q (cons_option found rest)
  one_more None rest first second = second
  one_more (Some y) rest first second = (first, second)

  pub of_filter_map : (f : X → Option Y) (xs : List X) → ((x : X) → P x → IfSome (f x) Q) → AllByRecursion P xs
      → AllByRecursion Q (filter_map f xs)
  of_filter_map f [] each all = tt
  of_filter_map f (x ∷ xs) each all = one_more (f x) (filter_map f xs) (each x all.0) (of_filter_map f xs each all.1)

-- of every element, if it holds of everything
pub of_any : {X : Type 0} (P : X → Type 0) (xs : List X) → ((x : X) → P x) → AllByRecursion P xs
of_any P [] each = tt
of_any P (x ∷ xs) each = (each x, of_any P xs each)

-- of an option that may hold anything
pub always : {X : Type 0} (option : Option X) → IfSome option (λ x. Unit {0})
always None = tt
always (Some x) = tt

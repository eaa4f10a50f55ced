-- Names that are taken, the last one first, as a set of names and with the next numbers to try (own).
use Rattle.std.specs.Prelude.{◌≡◌, ◌<◌, ◌≤◌, ℕ, Bool, true, false, List, [], ◌∷◌, ◌++◌, Option, Some, None, length, bytes_eq}
use Rattle.std.specs.List.{list_any}
use Rattle.dita_doc.specs.declared.plan.PagePlan.{PagePlan}
use Rattle.map_spec.specs.Pages.{base_of, contents_name, free_name, good_base, named_from, page_of_use, with_number}
use Rattle.map_spec.specs.Pages as pages_spec
use Rattle.page_names.specs.declared.names.PageNames.{PageNames}

abbrev pub Texts : Type 0
Texts = List (List ℕ)

abbrev pub is_taken : List (List ℕ) → List ℕ → Bool
is_taken taken name = list_any (bytes_eq name) taken

-- all numbers below this one are taken
pub record IsTried (taken : List (List ℕ)) (base : List ℕ) (next : ℕ) : Type 0 where
  pub least : 2 ≤ next
  pub each : (number : ℕ) → 2 ≤ number → number < next → is_taken taken (with_number base number) ≡ true

abbrev pub AreTried : List (List ℕ) → List (List ℕ × ℕ) → Type 0
AreTried taken [] = Unit {0}
AreTried taken (entry ∷ entries) = IsTried taken entry.0 entry.1 × AreTried taken entries

pub record AreTaken (taken : List (List ℕ)) (names : PageNames) : Type 0 where
  pub set : (name : List ℕ) → is_taken names.taken.keys name ≡ is_taken taken name
  pub many : length names.taken.keys ≡ length taken
  pub tried : AreTried taken names.next.entries

-- a name was taken, if it was free
abbrev pub IsTakenBy : List (List ℕ) → List ℕ → PageNames → Option (List ℕ) → Type 0
IsTakenBy taken text names None = (is_taken taken text ≡ true) × AreTaken taken names
IsTakenBy taken text names (Some name) =
    (name ≡ text) × (is_taken taken text ≡ false) × AreTaken (name ∷ taken) names

-- this name was taken
pub record IsFound (taken : List (List ℕ)) (free name : List ℕ) (names : PageNames) : Type 0 where
  pub is : name ≡ free
  pub takes : AreTaken (name ∷ taken) names

abbrev pub name_for : ℕ → List (List ℕ) → pages_spec.Use → List ℕ
name_for index taken page = free_name taken (good_base index (base_of page.id))

pub record IsNamed (index : ℕ) (taken : List (List ℕ)) (page : pages_spec.Use) (made : PagePlan) (names : PageNames)
    : Type 0 where
  pub is : made ≡ page_of_use page (name_for index taken page)
  pub takes : AreTaken (made.name ∷ taken) names

-- pages that were named so far, and those that are to be
pub record AreNamed (taken : List (List ℕ)) (pages : List PagePlan) (rest whole : List pages_spec.Use)
    (names : PageNames) : Type 0 where
  pub takes : AreTaken taken names
  pub are : pages ++ named_from (length pages) taken rest ≡ named_from 0 (contents_name ∷ []) whole

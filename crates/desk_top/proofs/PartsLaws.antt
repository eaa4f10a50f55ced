-- The parts of a build: each is of its map and DITAVAL, and none stands twice.
use Rattle.std.proofs.Common.{◌≡◌, ◌⊎◌, ◌<◌, ◌+◌, ℕ, zero, suc, List, Option, Some, None, refl, sym, ap, ◌∙◌, subst, inl, inr, ⊎_elim, arith}
use Rattle.std.specs.List.{slice_get}
use Rattle.std.proofs.lemmas.Option.{none-some, same_Some}
use Rattle.dita_doc.specs.declared.fact.FactKey.{FactKey}
use Rattle.dita_doc.specs.declared.fact.Part.{Part}
use Rattle.dita_doc.specs.declared.fact.Part.TheVariants as parts
use Rattle.desk_language.specs.Language.{key_of, pages_from, parts_with}

-- each part by a number: the contents page, then the plan, then the pages
abbrev number : Part → ℕ
number parts.Plan = 1
number (parts.Page index) = index + 2
number parts.Contents = 0

abbrev number_in : FactKey → ℕ
number_in key = number key.part

page_spot : (root : List ℕ) (val : Option (List ℕ)) (index more place : ℕ) (key : FactKey)
    → slice_get (pages_from root val index more) place ≡ Some key
    → ((place < more) × (number_in key ≡ index + place + 2)) ⊎ ((place ≡ more) × (number_in key ≡ 0))
page_spot root val index zero zero key at =
    inr (refl, ap number_in (sym (same_Some (key_of root val parts.Contents) key at)))
page_spot root val index zero (suc place) key at = absurd (none-some key at)
page_spot root val index (suc more) zero key at =
    let here : index + 2 ≡ number_in key = ap number_in (same_Some (key_of root val (parts.Page index)) key at) in
    inl (omega arith, omega (arith, here))
page_spot root val index (suc more) (suc place) key at =
    ⊎_elim (λ page. inl (omega (arith, page.0), omega (arith, page.1)))
    (λ last. inr (omega (arith, last.0), last.1)) (page_spot root val (index + 1) more place key at)

spot_once : (index more j k n m : ℕ)
    → ((j < more) × (n ≡ index + j + 2)) ⊎ ((j ≡ more) × (n ≡ 0))
    → ((k < more) × (m ≡ index + k + 2)) ⊎ ((k ≡ more) × (m ≡ 0)) → n ≡ m → j ≡ k
spot_once index more j k n m (inl one) (inl other) same = omega (arith, one.1, other.1, same)
spot_once index more j k n m (inl one) (inr other) same = absurd (omega (arith, one.1, other.1, same))
spot_once index more j k n m (inr one) (inl other) same = absurd (omega (arith, one.1, other.1, same))
spot_once index more j k n m (inr one) (inr other) same = omega (arith, one.0, other.0)

page_once : (root : List ℕ) (val : Option (List ℕ)) (index more j k : ℕ) (one other : FactKey)
    → slice_get (pages_from root val index more) j ≡ Some one → slice_get (pages_from root val index more) k ≡ Some other
    → one ≡ other → j ≡ k
page_once root val index more j k one other first second same =
    spot_once index more j k (number_in one) (number_in other) (page_spot root val index more j one first)
    (page_spot root val index more k other second) (ap number_in same)

no_plan : (index more place n : ℕ) → ((place < more) × (n ≡ index + place + 2)) ⊎ ((place ≡ more) × (n ≡ 0)) → n ≡ 1 → ⊥
no_plan index more place n (inl page) one = omega (arith, page.1, one)
no_plan index more place n (inr last) one = omega (arith, last.1, one)

never_plan : (root : List ℕ) (val : Option (List ℕ)) (index more place : ℕ) (key : FactKey)
    → slice_get (pages_from root val index more) place ≡ Some key → number_in key ≡ 1 → ⊥
never_plan root val index more place key at = no_plan index more place (number_in key) (page_spot root val index more place key at)

-- no part stands twice
pub part_once : (root : List ℕ) (val : Option (List ℕ)) (pages : Option ℕ) (j k : ℕ) (one other : FactKey)
    → slice_get (parts_with root val pages) j ≡ Some one → slice_get (parts_with root val pages) k ≡ Some other
    → one ≡ other → j ≡ k
part_once root val None zero zero one other first second same = refl
part_once root val None zero (suc k) one other first second same = absurd (none-some other second)
part_once root val None (suc j) k one other first second same = absurd (none-some one first)
part_once root val (Some pages) zero zero one other first second same = refl
part_once root val (Some pages) zero (suc k) one other first second same =
    absurd (never_plan root val 0 pages k other second
    (ap number_in (sym (same_Some (key_of root val parts.Plan) one first ∙ same))))
part_once root val (Some pages) (suc j) zero one other first second same =
    absurd (never_plan root val 0 pages j one first
    (ap number_in (same ∙ sym (same_Some (key_of root val parts.Plan) other second))))
part_once root val (Some pages) (suc j) (suc k) one other first second same =
    ap suc (page_once root val 0 pages j k one other first second same)

-- Whose they are

pub record IsOfBuildOf (root : List ℕ) (val : Option (List ℕ)) (key : FactKey) : Type 0 where
  pub map_is : key.map ≡ root
  pub val_is : key.val ≡ val

page_of : (root : List ℕ) (val : Option (List ℕ)) (index more place : ℕ) (key : FactKey)
    → slice_get (pages_from root val index more) place ≡ Some key → IsOfBuildOf root val key
page_of root val index zero zero key at =
    subst (IsOfBuildOf root val) (same_Some (key_of root val parts.Contents) key at) (record { map_is = refl; val_is = refl })
page_of root val index zero (suc place) key at = absurd (none-some key at)
page_of root val index (suc more) zero key at =
    subst (IsOfBuildOf root val) (same_Some (key_of root val (parts.Page index)) key at)
    (record { map_is = refl; val_is = refl })
page_of root val index (suc more) (suc place) key at = page_of root val (index + 1) more place key at

pub part_of : (root : List ℕ) (val : Option (List ℕ)) (pages : Option ℕ) (place : ℕ) (key : FactKey)
    → slice_get (parts_with root val pages) place ≡ Some key → IsOfBuildOf root val key
part_of root val None zero key at =
    subst (IsOfBuildOf root val) (same_Some (key_of root val parts.Plan) key at) (record { map_is = refl; val_is = refl })
part_of root val None (suc place) key at = absurd (none-some key at)
part_of root val (Some pages) zero key at =
    subst (IsOfBuildOf root val) (same_Some (key_of root val parts.Plan) key at) (record { map_is = refl; val_is = refl })
part_of root val (Some pages) (suc place) key at = page_of root val 0 pages place key at

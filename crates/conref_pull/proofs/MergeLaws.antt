-- What an element takes from its targets.
use Rattle.std.specs.Prelude.{◌≡◌, ◌&&◌, ◌-◌, ℕ, Bool, true, false, not, List, [], ◌∷◌, Option, Some, Result, IfOk, filter, length}
use Rattle.std.proofs.Common.{refl, sym, ap, subst, arith}
use Rattle.dita_doc.specs.declared.doc.Attribute.{Attribute}
use Rattle.dita_doc.specs.declared.stop.NoMemory.{NoMemory}
use Rattle.map_spec.specs.Written.{Element, Whole, Written}
use Rattle.conref_spec.specs.Content.{Place, is_written_in, merged_element, names_not_taken}
use Rattle.map_spec.specs.Pushes.{without_names}
use Rattle.conref_pull.specs.Linked.{AreLinks, IsLink}
use Rattle.conref_pull.specs.Merging.{IsMerged, is_missing, is_taken}
use Rattle.conref_pull.specs.Step.{Taken, followed_to_all, merged_onto}
use Rattle.conref_pull.specs.declared.chain.TakenTarget.{TakenTarget}
use Rattle.conref_pull.specs.declared.merge.Merged.{Merged}

-- two tests, one after the other
pub filter_both : (first second : Attribute → Bool) (all : List Attribute)
    → filter second (filter first all) ≡ filter (λ written. first written && second written) all
filter_both first second [] = refl
filter_both first second (one ∷ all) = by_tests (first one) (second one) refl refl (filter_both first second all)
  where
    by_tests : (test check : Bool) → first one ≡ test → second one ≡ check
        → filter second (filter first all) ≡ filter (λ written. first written && second written) all
        → filter second (filter first (one ∷ all)) ≡ filter (λ written. first written && second written) (one ∷ all)
    by_tests false check e d more = rw e more
    by_tests true true e d more = rw (e, d) (ap (λ (some : List Attribute). one ∷ some) more)
    by_tests true false e d more = rw (e, d) more

-- the attributes that are missing are those of the target that the element has not
pub missing_taken : (own taken : List Attribute)
    → filter (is_missing own) taken
    ≡ filter (λ (other : Attribute). not (is_written_in own other)) (without_names names_not_taken taken)
missing_taken own taken = sym (filter_both (λ written. is_taken written.name)
    (λ (other : Attribute). not (is_written_in own other)) taken)

-- A target as it was found

pub pair_first : (one other : Whole) → ◌≡◌ {A = Option Whole} (Some one) (Some other) → one.0 ≡ other.0
pair_first one other e = let same : one ≡ other = cc in ap (λ (whole : Whole). whole.0) same

-- no target was taken, or the farthest of them and others
module _ (element : Element) (inside : Written) (path : List Place) (end : ℕ) (taken : List Taken)
    (links : List TakenTarget)
    (result : Result Merged NoMemory) (linked : AreLinks path end taken links) where
  pub with_none : length links ≡ 0 → IfOk result (λ merged. IsMerged merged element)
      → IfOk result (λ merged. IsMerged merged (followed_to_all element inside [] [] taken).element)
  with_none none gives = by_taken taken links linked none
    where
      by_taken : (some : List Taken) (all : List TakenTarget) → AreLinks path end some all → length all ≡ 0
          → IfOk result (λ merged. IsMerged merged (followed_to_all element inside [] [] some).element)
      by_taken [] all linked none = gives
      by_taken (one ∷ some) [] linked none = absurd linked
      by_taken (one ∷ some) (link ∷ all) linked none = absurd (omega arith)

  pub with_some : (link : TakenTarget) (rest : List TakenTarget) → links ≡ link ∷ rest
      → ((one : Taken) (others : List Taken) → IsLink link one → AreLinks path (end - 1) others rest
      → IfOk result (λ merged. IsMerged merged (merged_element element (merged_onto one.element others))))
      → IfOk result (λ merged. IsMerged merged (followed_to_all element inside [] [] taken).element)
  with_some link rest is gives = by_taken taken (subst (AreLinks path end taken) is linked)
    where
      by_taken : (some : List Taken) → AreLinks path end some (link ∷ rest)
          → IfOk result (λ merged. IsMerged merged (followed_to_all element inside [] [] some).element)
      by_taken [] linked = absurd linked
      by_taken (one ∷ some) linked = gives one some linked.0 linked.2

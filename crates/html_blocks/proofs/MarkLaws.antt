-- The marks of an element among those of others, and the class that they make.
use Rattle.std.specs.Prelude.{◌≡◌, ◌<◌, ◌≤◌, ◌==◌, ◌&&◌, ◌++◌, ℕ, zero, suc, Bool, true, false, List, [], ◌∷◌, codes, drop, filter, length, map, nat_le, nat_lt, take, if◌then◌else◌}
use Rattle.std.specs.List.{flat_map}
use Rattle.std.specs.List.Sorted.{IsPartitionPoint, IsPartitionedBy}
use Rattle.std.proofs.Common.{refl, sym, ap, ◌∙◌, append_assoc, get_or, arith}
use Rattle.std.proofs.lemmas.Bool.{true≢false}
use Rattle.std.proofs.lemmas.Bool.Decides.{nat_tests}
use Rattle.std.proofs.lemmas.Grind.{flat_map-append}
use Rattle.std.proofs.lemmas.List.{append-nil}
use Rattle.std.proofs.lemmas.List.Sorted.{IsNonDecreasingBy-drop}
use Rattle.dita_doc.specs.HtmlEscapes.{escaped_value, escaped_value_byte}
use Rattle.dita_doc.specs.declared.content.Mark.{Mark}
use Rattle.dita_doc.proofs.LackLaws.{no_equal}
use Rattle.dita_doc.proofs.Tests.{less_before, not_zero, number_itself}
use Rattle.html_blocks.specs.Marks.{AreRising, behind, class_text, texts_text}
use Rattle.html_spec.specs.Blocks.{class_with, is_mark_at, marks_at, spaced}

-- The first of some marks

pub mark_here : (left among : List Mark) (mark : Mark) (place : ℕ) → left ≡ mark ∷ among → mark.place ≡ place
    → marks_at left place ≡ mark.text ∷ marks_at among place
mark_here left among mark place first is = rw (first, is, number_itself place) refl

pub mark_elsewhere : (left among : List Mark) (mark : Mark) (place : ℕ) → left ≡ mark ∷ among
    → (mark.place ≡ place → ⊥) → marks_at left place ≡ marks_at among place
mark_elsewhere left among mark place first other = rw (first, no_equal mark.place place other) refl

pub none_left : (left : List Mark) (place : ℕ) → length left ≡ 0 → marks_at left place ≡ []
none_left [] place none = refl
none_left (mark ∷ left) place none = absurd (omega arith)

-- Marks in the order of their places

kept_drop : (p : Mark → Bool) (count : ℕ) (marks : List Mark)
    → ((k : ℕ) (d : Mark) → 0 ≤ k → k < count → p (get_or marks k d) ≡ false)
    → filter p (drop count marks) ≡ filter p marks
kept_drop p zero [] none = refl
kept_drop p (suc count) [] none = refl
kept_drop p zero (mark ∷ marks) none = refl
kept_drop p (suc count) (mark ∷ marks) none =
    rw (none 0 mark (omega arith) (omega arith))
    (kept_drop p count marks (λ k d low high. none (suc k) d (omega arith) (omega arith)))

kept_none : (p : Mark → Bool) (marks : List Mark)
    → ((k : ℕ) (d : Mark) → 0 ≤ k → k < length marks → p (get_or marks k d) ≡ false) → [] ≡ filter p marks
kept_none p [] none = refl
kept_none p (mark ∷ marks) none =
    rw (none 0 mark (omega arith) (omega arith))
    (kept_none p marks (λ k d low high. none (suc k) d (omega arith) (omega arith)))

kept_if : (p : Mark → Bool) (mark : Mark) (some others : List Mark) → some ≡ others
    → (if p mark then mark ∷ some else some) ≡ (if p mark then mark ∷ others else others)
kept_if p mark some others same = ap (λ all. if p mark then mark ∷ all else all) same

kept_take : (p : Mark → Bool) (count : ℕ) (marks : List Mark)
    → ((k : ℕ) (d : Mark) → count ≤ k → k < length marks → p (get_or marks k d) ≡ false)
    → filter p (take count marks) ≡ filter p marks
kept_take p zero [] none = refl
kept_take p (suc count) [] none = refl
kept_take p zero (mark ∷ marks) none = kept_none p (mark ∷ marks) none
kept_take p (suc count) (mark ∷ marks) none = kept_if p mark _ _
    (kept_take p count marks (λ k d low high. none (suc k) d (omega arith) (omega arith)))

within_back : (place i j : ℕ) → i ≤ j → nat_le j place ≡ true → nat_le i place ≡ true
within_back place i j less is = grind (arith, nat_tests)

not_before : (place at : ℕ) → nat_lt at place ≡ true → (at == place) ≡ false
not_before place at is = grind (arith, nat_tests)

not_behind : (place at : ℕ) → nat_le at place ≡ false → (at == place) ≡ false
not_behind place at is = grind (arith, nat_tests)

abbrev pub place_of : Mark → ℕ
place_of mark = mark.place

module _ (marks : List Mark) (rise : AreRising marks) (place : ℕ) where
  pub before_parted : IsPartitionedBy (λ (mark : Mark). nat_lt mark.place place) marks
  before_parted = λ i j d low high is.
      less_before place (get_or marks i d).place (get_or marks j d).place (rise i j d low high) is

  pub within_parted : IsPartitionedBy (λ (mark : Mark). nat_le mark.place place) marks
  within_parted = λ i j d low high is.
      within_back place (get_or marks i d).place (get_or marks j d).place (rise i j d low high) is

pub rises_behind : (marks : List Mark) (count : ℕ) → AreRising marks → AreRising (drop count marks)
rises_behind marks count rise = IsNonDecreasingBy-drop place_of count marks rise

-- of what stands behind those before the place, what stands before those behind it
pub marks_between : (marks : List Mark) (place first count : ℕ)
    → IsPartitionPoint (λ (mark : Mark). nat_lt mark.place place ≡ true)
    (λ (mark : Mark). nat_lt mark.place place ≡ false) marks first
    → IsPartitionPoint (λ (mark : Mark). nat_le mark.place place ≡ true)
    (λ (mark : Mark). nat_le mark.place place ≡ false) (drop first marks) count
    → marks_at (take count (drop first marks)) place ≡ marks_at marks place
marks_between marks place first count before within = ap (map (λ (mark : Mark). mark.text))
    (kept_take (is_mark_at place) count (drop first marks)
    (λ k d low high. not_behind place (get_or (drop first marks) k d).place (within.1 k d low high))
    ∙ kept_drop (is_mark_at place) first marks
    (λ k d low high. not_before place (get_or marks k d).place (before.0 k d low high)))

-- The class

pub no_marks : (class : List ℕ) → class ≡ class_with [] class
no_marks [] = refl
no_marks (b ∷ class) = sym (append-nil (b ∷ class))

behind_value : (marks : List (List ℕ)) → escaped_value (flat_map (λ other. codes " " ++ other) marks) ≡ behind marks
behind_value [] = refl
behind_value (mark ∷ marks) = ap (λ more. codes " " ++ more)
    (flat_map-append escaped_value_byte mark (flat_map (λ other. codes " " ++ other) marks)
    ∙ ap (λ more. escaped_value mark ++ more) (behind_value marks))

-- the class of a text and of marks behind it
pub shown_value : (first : List ℕ) (marks : List (List ℕ))
    → codes " class=\"" ++ (escaped_value (first ++ flat_map (λ other. codes " " ++ other) marks) ++ codes "\"")
    ≡ texts_text first marks
shown_value first marks = ap (λ more. codes " class=\"" ++ more)
    (ap (λ value. value ++ codes "\"")
    (flat_map-append escaped_value_byte first (flat_map (λ other. codes " " ++ other) marks)
    ∙ ap (λ more. escaped_value first ++ more) (behind_value marks))
    ∙ append_assoc (escaped_value first) (behind marks) (codes "\""))

-- a text and marks behind it; if the text is empty and there are no marks, there is no class
pub texts_shown : (first : List ℕ) (marks : List (List ℕ)) → class_text (spaced (first ∷ marks))
    ≡ (if (length first == 0) && (length marks == 0) then [] else texts_text first marks)
texts_shown [] [] = refl
texts_shown [] (mark ∷ marks) =
    shown_value [] (mark ∷ marks)
    ∙ ap (λ test. if test then [] else texts_text [] (mark ∷ marks)) (sym (not_zero (length marks)))
texts_shown (b ∷ first) marks =
    shown_value (b ∷ first) marks
    ∙ ap (λ test. if test && (length marks == 0) then [] else texts_text (b ∷ first) marks)
    (sym (not_zero (length first)))

pub class_behind_none : (marks : List Mark) (place : ℕ) (class : List ℕ) → (length marks == 0) ≡ true
    → class_text class ≡ class_text (class_with (marks_at marks place) class)
class_behind_none [] place class is = ap class_text (no_marks class)
class_behind_none (mark ∷ marks) place class is = absurd (true≢false (sym is ∙ not_zero (length marks)))

pub class_of_none : (marks : List (List ℕ)) (class : List ℕ) → (length class == 0) ≡ true
    → class_text (spaced marks) ≡ class_text (class_with marks class)
class_of_none marks [] is = refl
class_of_none marks (b ∷ class) is = absurd (true≢false (sym is ∙ not_zero (length class)))

pub class_of_some : (marks : List (List ℕ)) (class : List ℕ) → (length class == 0) ≡ false
    → class_text (spaced (class ∷ marks)) ≡ class_text (class_with marks class)
class_of_some marks [] is = absurd (true≢false is)
class_of_some marks (b ∷ class) is = refl

-- Links of which each href is kept once.
use Rattle.std.specs.Prelude.{◌≡◌, ◌&&◌, ℕ, Bool, true, false, not, List, [], ◌∷◌, ◌++◌, bytes_eq, filter, if◌then◌else◌}
use Rattle.std.specs.List.{list_any}
use Rattle.std.proofs.Common.{refl, sym, ap, ◌∙◌, append_assoc}
use Rattle.std.proofs.lemmas.Bool.{true≢false}
use Rattle.std.proofs.lemmas.List.Folds.{list_any-append}
use Rattle.std.proofs.lemmas.Slice.Eq.{bytes_eq-Decides}
use Rattle.dita_doc.specs.declared.content.PageLink.{PageLink}
use Rattle.dita_doc.proofs.Lists.{filter_both, filter_every}
use Rattle.dita_doc.proofs.Tests.{and_swap, not_either}
use Rattle.part_spec.specs.Parts.{hrefs_once}

-- Tests

-- The links that are first

-- whether a link has none of these hrefs
abbrev pub is_new : List (List ℕ) → PageLink → Bool
is_new before link = not (list_any (bytes_eq link.href) before)

abbrev pub has_other : PageLink → PageLink → Bool
has_other link other = not (bytes_eq other.href link.href)

-- a link that fails a test of hrefs leaves none of its href behind
pub other_passes : (test : List ℕ → Bool) (link : PageLink) → test link.href ≡ false → (other : PageLink)
    → (test other.href && has_other link other) ≡ test other.href
other_passes test link fails other = by_test (test other.href) (bytes_eq other.href link.href) refl refl
  where
    by_test : (a b : Bool) → test other.href ≡ a → bytes_eq other.href link.href ≡ b
        → (test other.href && not (bytes_eq other.href link.href)) ≡ test other.href
    by_test true true e f =
        absurd (true≢false (sym e ∙ ap test ((bytes_eq-Decides other.href link.href).0 f) ∙ fails))
    by_test true false e f = simp (e, f) refl
    by_test false b e f = simp e refl

new_behind : (before : List (List ℕ)) (link other : PageLink)
    → (has_other link other && is_new before other) ≡ is_new (before ++ link.href ∷ []) other
new_behind before link other =
    not_either (list_any (bytes_eq other.href) before) (bytes_eq other.href link.href)
    ∙ ap not (sym (list_any-append (bytes_eq other.href) before (link.href ∷ [])))

-- behind links with these hrefs, of those that are left
abbrev pub left_once : List (List ℕ) → List PageLink → List PageLink
left_once before links = filter (is_new before) (hrefs_once links)

pub left_all : (links : List PageLink) → left_once [] links ≡ hrefs_once links
left_all links = filter_every (is_new []) (λ link. refl) (hrefs_once links)

turned : (a b : Bool) → not a ≡ b → not b ≡ a
turned true true e = absurd (true≢false (sym e))
turned true false e = refl
turned false true e = refl
turned false false e = absurd (true≢false e)

module _ (before : List (List ℕ)) (link : PageLink) (links once whole : List PageLink) (added : Bool)
    (there : not added ≡ list_any (bytes_eq link.href) before)
    (so_far : once ++ left_once before (link ∷ links) ≡ whole) where
  is_added : is_new before link ≡ added
  is_added = turned added (list_any (bytes_eq link.href) before) there

  first_left : (a : Bool) → is_new before link ≡ a → filter (is_new before) (link ∷ filter (has_other link) (hrefs_once links))
      ≡ (if a then link ∷ filter (is_new before) (filter (has_other link) (hrefs_once links))
      else filter (is_new before) (filter (has_other link) (hrefs_once links)))
  first_left true e = simp e refl
  first_left false e = simp e refl

  pub new_link : added ≡ true → (new : List PageLink) → new ≡ once ++ link ∷ []
      → new ++ left_once (before ++ link.href ∷ []) links ≡ whole
  new_link is new put =
      ap (λ all. all ++ left_once (before ++ link.href ∷ []) links) put
      ∙ append_assoc once (link ∷ []) (left_once (before ++ link.href ∷ []) links)
      ∙ ap (λ more. once ++ link ∷ more) (sym (filter_both (is_new before) (has_other link)
      (is_new (before ++ link.href ∷ [])) (new_behind before link) (hrefs_once links)))
      ∙ ap (λ more. once ++ more) (sym (first_left true (is_added ∙ is))) ∙ so_far

  pub old_link : added ≡ false → once ++ left_once before links ≡ whole
  old_link is =
      let gone : is_new before link ≡ false = is_added ∙ is in
      ap (λ more. once ++ more) (sym (filter_both (is_new before) (has_other link) (is_new before)
      (λ other. and_swap (has_other link other) (is_new before other)
      ∙ other_passes (λ href. not (list_any (bytes_eq href) before)) link gone other) (hrefs_once links))
      ∙ sym (first_left false gone)) ∙ so_far

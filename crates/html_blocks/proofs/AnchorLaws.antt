-- Anchors that rise by their places: a search by halving finds what a search from the front finds.
use Rattle.std.specs.Prelude.{◌≡◌, ◌+◌, ◌<◌, ◌≤◌, ◌==◌, slice_index, ℕ, zero, suc, false, List, [], ◌∷◌, Option, Some, None, Err, MatchOption, length, map}
use Rattle.std.specs.Borrow.{Bor}
use Rattle.std.specs.Cmp.{nat_cmp_is}
use Rattle.std.specs.Option.{option_copied}
use Rattle.std.specs.List.Sorted.{IsBinarySearchResult, IsNonDecreasingBy, IsSortedBy}
use Rattle.std.specs.Ordering.{is_lt, nat_cmp, ordering_index}
use Rattle.std.specs.declared.cmp.Ordering.{Ordering}
use Rattle.std.specs.declared.cmp.Ordering.TheVariants.{Less, Equal, Greater}
use Rattle.std.proofs.Common.{refl, sym, ap, ◌∙◌, get_or, arith}
use Rattle.std.proofs.lemmas.Cmp.{nat_cmp_total}
use Rattle.std.proofs.lemmas.List.{get_or-map, length-map}
use Rattle.std.proofs.lemmas.List.Sorted.{searchable_from_sorted}
use Rattle.std.proofs.lemmas.Map.Keys.{below_from_sorted, sorted_from_strictly_increasing}
use Rattle.std.proofs.lemmas.Map.Lookups.{exact_unsigned}
use Rattle.dita_doc.specs.declared.content.Anchor.{Anchor}
use Rattle.dita_doc.proofs.LackLaws.{no_equal}
use Rattle.dita_doc.proofs.Tests.{number_itself}
use Rattle.html_blocks.specs.Anchors.{AreByPlace}
use Rattle.html_spec.specs.Blocks.{anchor_at}

-- an anchor before which no other has the place
find_here : (anchors : List Anchor) (place at : ℕ) (d : Anchor)
    → ((k : ℕ) → k < at → ((get_or anchors k d).place == place) ≡ false) → at < length anchors
    → (get_or anchors at d).place ≡ place → Some (get_or anchors at d) ≡ anchor_at anchors place
find_here [] place at d others within is = absurd (omega arith)
find_here (anchor ∷ anchors) place zero d others within is = rw (is, number_itself place) refl
find_here (anchor ∷ anchors) place (suc at) d others within is =
    rw (others 0 (omega arith)) (find_here anchors place at d (λ k low. others (suc k) (omega arith)) (omega arith) is)

-- none has it
find_none : (anchors : List Anchor) (place : ℕ)
    → ((k : ℕ) (d : Anchor) → k < length anchors → ((get_or anchors k d).place == place) ≡ false)
    → None ≡ anchor_at anchors place
find_none [] place others = refl
find_none (anchor ∷ anchors) place others =
    rw (others 0 anchor (omega arith)) (find_none anchors place (λ k d low. others (suc k) d (omega arith)))

other_place : (order : Ordering) (a b : ℕ) → nat_cmp a b ≡ order → (order ≡ Equal → ⊥) → (a == b) ≡ false
other_place order a b e differ = no_equal a b (λ same. differ (sym e ∙ sym (nat_cmp_is a b Equal same)))

less≢equal : Less ≡ Equal → ⊥
less≢equal e = cc

greater≢equal : Greater ≡ Equal → ⊥
greater≢equal e = cc

either : {A : Type 0} (k at : ℕ) → (k < at → A) → (at ≤ k → A) → A
either k zero low high = high (omega arith)
either zero (suc at) low high = low (omega arith)
either (suc k) (suc at) low high = either k at (λ l. low (omega arith)) (λ h. high (omega arith))

module _ (anchors : List Anchor) (rise : AreByPlace anchors) where
  below : (i j : ℕ) (d : Anchor) → i < j → j < length anchors
      → (get_or anchors i d).place < (get_or anchors j d).place
  below i j d low within =
      let places = map (λ (anchor : Anchor). anchor.place) anchors in
      let inside : j < length places = rw (length-map anchors (λ (anchor : Anchor). anchor.place)) within in
      let less = below_from_sorted places i j d.place (sorted_from_strictly_increasing places rise) low inside in
      let first = get_or-map (λ (anchor : Anchor). anchor.place) anchors i d d.place (omega arith) in
      let second = get_or-map (λ (anchor : Anchor). anchor.place) anchors j d d.place within in
      rw (first, second) at less

  sorted : IsSortedBy (λ (a b : Anchor). is_lt (nat_cmp a.place b.place)) anchors
  sorted k d low high =
      let less = below k (k + 1) d (omega arith) high in
      ap is_lt (sym (nat_cmp_is (get_or anchors (k + 1) d).place (get_or anchors k d).place Greater less))

  searchable : (place : ℕ) → IsNonDecreasingBy (λ (anchor : Anchor). ordering_index (nat_cmp anchor.place place)) anchors
  searchable place = searchable_from_sorted nat_cmp_total (λ (anchor : Anchor). anchor.place) anchors place sorted

  -- a search ends at the anchor
  pub found_anchor : (place at : ℕ) (d : Anchor) → at < length anchors
      → nat_cmp (get_or anchors at d).place place ≡ Equal → Some (get_or anchors at d) ≡ anchor_at anchors place
  found_anchor place at d within equal =
      let same : (get_or anchors at d).place ≡ place = exact_unsigned _ _ equal in
      find_here anchors place at d (λ k low. no_equal _ place (λ is. let less = below k at d low within in omega arith))
      within same

  -- and what is lent there is the anchor
  pub got_anchor : (place at : ℕ) (got : Option (Bor Anchor))
      → MatchOption got (length anchors ≤ at) (λ (anchor : Bor Anchor). (at < length anchors)
      × ((d : Anchor) → anchor.now ≡ get_or anchors at d)) → at < length anchors
      → ((d : Anchor) → nat_cmp (get_or anchors at d).place place ≡ Equal)
      → option_copied got ≡ anchor_at anchors place
  got_anchor place at None past within equal = absurd (omega arith)
  got_anchor place at (Some anchor) here within equal =
      ap Some (here.1 anchor.now) ∙ found_anchor place at anchor.now within (equal anchor.now)

  -- or where none is
  pub no_anchor : (place at : ℕ) → at ≤ length anchors
      → IsBinarySearchResult (λ (anchor : Anchor). nat_cmp anchor.place place) anchors (Err at)
      → None ≡ anchor_at anchors place
  no_anchor place at within parted =
      let parts = parted (searchable place) in
      find_none anchors place (λ k d inside. either k at
      (λ low. other_place Less _ place (parts.0 k d (omega arith) low) less≢equal)
      (λ high. other_place Greater _ place (parts.1 k d high inside) greater≢equal))

-- Anchors that were seen to rise

abbrev pub places_of : List Anchor → List ℕ
places_of anchors = map (λ (anchor : Anchor). anchor.place) anchors

-- the places of so many anchors rise
abbrev pub RiseUpTo : List Anchor → ℕ → Type 0
RiseUpTo anchors end = (k : ℕ) → k + 1 < end → slice_index (places_of anchors) k < slice_index (places_of anchors) (k + 1)

place_at : (anchors : List Anchor) (at : ℕ) (d : Anchor) → at < length anchors
    → slice_index (places_of anchors) at ≡ (get_or anchors at d).place
place_at anchors at d within = get_or-map (λ (anchor : Anchor). anchor.place) anchors at d 0 within

pub rises_more : (anchors : List Anchor) (at last : ℕ) (d e : Anchor) → last + 1 ≡ at → at < length anchors
    → (get_or anchors last d).place < (get_or anchors at e).place → RiseUpTo anchors at → RiseUpTo anchors (at + 1)
rises_more anchors at last d e next within less rise = λ k low.
    either (k + 1) at (λ below. rise k below)
    (λ high.
    (let here : k ≡ last = omega (arith, next) in
    let there : k + 1 ≡ at = omega (arith, next) in
    let one = ap (slice_index (places_of anchors)) here ∙ place_at anchors last d (omega (arith, next)) in
    let other = ap (slice_index (places_of anchors)) there ∙ place_at anchors at e within in
    omega (arith, one, other, less)))

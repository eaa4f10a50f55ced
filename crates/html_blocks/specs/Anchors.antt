-- The links of a page's elements, by their places.
use Rattle.std.specs.Prelude.{◌≡◌, ℕ, List, [], Option, map, unwrap_or}
use Rattle.std.specs.List.Sorted.{IsStrictlyIncreasing}
use Rattle.dita_doc.specs.declared.content.Anchor.{Anchor}
use Rattle.html_spec.specs.Blocks.{href_at, label_at}

-- the places rise from one anchor to the next
abbrev pub AreByPlace : List Anchor → Type 0
AreByPlace anchors = IsStrictlyIncreasing (map (λ (anchor : Anchor). anchor.place) anchors)

-- the link of the element at a place: what it leads to, and the text that it shows
pub record IsLinkAt (anchors : List Anchor) (place : ℕ) (href : Option (List ℕ)) (label : List ℕ) : Type 0 where
  pub leads : href ≡ href_at anchors place
  pub shows : label ≡ label_at anchors place

abbrev pub label_or_none : Option (List ℕ) → List ℕ
label_or_none label = unwrap_or label []

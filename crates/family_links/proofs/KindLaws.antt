-- The kind of a collection, by its value.
use Rattle.std.specs.Prelude.{◌≡◌, ℕ, Bool, true, false, List, Option, Some, None, bytes_eq, codes, if◌then◌else◌}
use Rattle.std.proofs.Common.{refl, sym, ◌∙◌}
use Rattle.dita_doc.proofs.Tests.{text_swaps}
use Rattle.family_links.specs.Grouped.{kind_named}
use Rattle.family_links.specs.declared.groups.GroupKind.{GroupKind}
use Rattle.family_links.specs.declared.groups.GroupKind.TheVariants.{Sequence, Family}

abbrev kind_by : Bool → Bool → Option GroupKind
kind_by ordered others = if ordered then Some Sequence else if others then Some Family else None

kind_is : (ordered others a b : Bool) → ordered ≡ a → others ≡ b → kind_by a b ≡ kind_by ordered others
kind_is ordered others a b one two = λ i. kind_by (sym one i) (sym two i)

first_is : (ordered others : Bool) → ordered ≡ true → Some Sequence ≡ kind_by ordered others
first_is true others is = refl
first_is false others is = cc

module _ (value : List ℕ) where
  pub sequence_named : bytes_eq value (codes "sequence") ≡ true → Some Sequence ≡ kind_named (Some value)
  sequence_named is = first_is (bytes_eq (codes "sequence") value) (bytes_eq (codes "family") value)
      (text_swaps (codes "sequence") value ∙ is)

  pub family_named : bytes_eq value (codes "sequence") ≡ false → bytes_eq value (codes "family") ≡ true
      → Some Family ≡ kind_named (Some value)
  family_named apart is = kind_is (bytes_eq (codes "sequence") value) (bytes_eq (codes "family") value) false true
      (text_swaps (codes "sequence") value ∙ apart) (text_swaps (codes "family") value ∙ is)

  pub none_named : bytes_eq value (codes "sequence") ≡ false → bytes_eq value (codes "family") ≡ false
      → None ≡ kind_named (Some value)
  none_named apart neither = kind_is (bytes_eq (codes "sequence") value) (bytes_eq (codes "family") value) false false
      (text_swaps (codes "sequence") value ∙ apart) (text_swaps (codes "family") value ∙ neither)

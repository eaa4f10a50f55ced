-- Orders of texts and affixes, of which pages are told apart: two are equal exactly where they are the same.
use Rattle.std.specs.Prelude.{◌≡◌, ◌&&◌, ℕ, List, [], ◌∷◌, bytes_eq}
use Rattle.std.specs.Cmp.Lexicographic.{slice_cmp}
use Rattle.std.specs.FinMap.{nat_cmp-IsAntisymmetric, slice_cmp-IsAntisymmetric}
use Rattle.std.specs.List.{flat_map}
use Rattle.std.specs.Ordering.{is_eq, nat_cmp, ordering_then}
use Rattle.std.proofs.Common.{Ordering, Less, Equal, Greater, refl, ap, ◌∙◌}
use Rattle.std.proofs.lemmas.Map.Text.{is_eq-slice_cmp}
use Rattle.dita_doc.specs.declared.plan.Affix.{Affix}
use Rattle.dita_doc.proofs.Tests.{and_assoc}
use Rattle.map_spec.specs.Pages.{are_same_affixes, are_same_texts}

-- the prefixes and suffixes in turn
abbrev texts_of : List Affix → List (List ℕ)
texts_of affixes = flat_map (λ (affix : Affix). affix.prefix ∷ affix.suffix ∷ []) affixes

pub then_is : (x y : Ordering) → is_eq (ordering_then x y) ≡ (is_eq x && is_eq y)
then_is Less y = refl
then_is Equal y = refl
then_is Greater y = refl

pub texts_same : (a b : List (List ℕ)) → is_eq (slice_cmp (slice_cmp nat_cmp) a b) ≡ are_same_texts a b
texts_same [] [] = refl
texts_same [] (text ∷ texts) = refl
texts_same (text ∷ texts) [] = refl
texts_same (text ∷ texts) (other ∷ others) =
    then_is (slice_cmp nat_cmp text other) (slice_cmp (slice_cmp nat_cmp) texts others)
    ∙ ap (λ b. b && is_eq (slice_cmp (slice_cmp nat_cmp) texts others)) (is_eq-slice_cmp text other)
    ∙ ap (λ b. bytes_eq text other && b) (texts_same texts others)

pub affixes_same : (a b : List Affix) → is_eq (slice_cmp (slice_cmp nat_cmp) (texts_of a) (texts_of b))
    ≡ are_same_affixes a b
affixes_same [] [] = refl
affixes_same [] (affix ∷ affixes) = refl
affixes_same (affix ∷ affixes) [] = refl
affixes_same (affix ∷ affixes) (other ∷ others) =
    then_is (slice_cmp nat_cmp affix.prefix other.prefix) _
    ∙ ap (λ b. is_eq (slice_cmp nat_cmp affix.prefix other.prefix) && b)
    (then_is (slice_cmp nat_cmp affix.suffix other.suffix) (slice_cmp (slice_cmp nat_cmp) (texts_of affixes)
    (texts_of others)))
    ∙ ap (λ b. b && (is_eq (slice_cmp nat_cmp affix.suffix other.suffix)
    && is_eq (slice_cmp (slice_cmp nat_cmp) (texts_of affixes) (texts_of others))))
    (is_eq-slice_cmp affix.prefix other.prefix)
    ∙ ap (λ b. bytes_eq affix.prefix other.prefix
    && (b && is_eq (slice_cmp (slice_cmp nat_cmp) (texts_of affixes) (texts_of others))))
    (is_eq-slice_cmp affix.suffix other.suffix)
    ∙ ap (λ b. bytes_eq affix.prefix other.prefix && (bytes_eq affix.suffix other.suffix && b))
    (affixes_same affixes others)
    ∙ and_assoc (bytes_eq affix.prefix other.prefix) (bytes_eq affix.suffix other.suffix)
    (are_same_affixes affixes others)

pub texts_equal : (a b : List (List ℕ)) → slice_cmp (slice_cmp nat_cmp) a b ≡ Equal → a ≡ b
texts_equal = slice_cmp-IsAntisymmetric (slice_cmp-IsAntisymmetric nat_cmp-IsAntisymmetric)

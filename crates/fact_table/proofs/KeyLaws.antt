-- The order of keys: two that it takes for equal are the same; and what changes in a map by keys.
use Rattle.std.proofs.Common.{◌≡◌, ◌∙◌, ◌⊎◌, ℕ, Bool, true, false, List, Option, Some, None, IsSome, is_some, refl, ap, sym, subst, inl, inr}
use Rattle.std.specs.BTreeMap as tree
use Rattle.std.proofs.lemmas.Cmp.{nat_cmp_total, tied_itself}
use Rattle.std.specs.Cmp.Lexicographic.{slice_cmp}
use Rattle.std.specs.Option.{option_cmp}
use Rattle.std.specs.Map.{lookup}
use Rattle.std.specs.Ordering.{is_eq, nat_cmp, ordering_then}
use Rattle.std.proofs.lemmas.Map.Lookups.{exact_unsigned}
use Rattle.std.specs.declared.cmp.Ordering.{Ordering}
use Rattle.std.specs.declared.cmp.Ordering.TheVariants.{Less, Equal, Greater}
use Rattle.dita_doc.proofs.NameOrder.{equal_itself, same_from_equal}
use Rattle.dita_doc.specs.declared.fact.FactKey.{FactKey}
use Rattle.dita_doc.specs.declared.fact.Part.{Part}
use Rattle.dita_doc.specs.declared.fact.Part.TheVariants as parts
use Rattle.facts.specs.Judged.{Tells}
use Rattle.fact_table.specs.Order.{order, part_order}
use Rattle.fact_table.specs.Ranks.{AreSame, IsKnown, IsRenewed, Ranks, or_zero, rank_in}

then_equal : (one other : Ordering) → ordering_then one other ≡ Equal → (one ≡ Equal) × (other ≡ Equal)
then_equal Less other is = let no : Less ≡ Equal = is in cc
then_equal Equal other is = (refl, is)
then_equal Greater other is = let no : Greater ≡ Equal = is in cc

option_same : (a b : Option (List ℕ)) → option_cmp (slice_cmp nat_cmp) a b ≡ Equal → a ≡ b
option_same None None is = refl
option_same None (Some b) is = let no : Less ≡ Equal = is in cc
option_same (Some a) None is = let no : Greater ≡ Equal = is in cc
option_same (Some a) (Some b) is = ap Some (same_from_equal a b is)

part_same : (a b : Part) → part_order a b ≡ Equal → a ≡ b
part_same parts.Plan parts.Plan is = refl
part_same parts.Plan (parts.Page j) is = let no : Less ≡ Equal = is in cc
part_same parts.Plan parts.Contents is = let no : Less ≡ Equal = is in cc
part_same (parts.Page i) parts.Plan is = let no : Greater ≡ Equal = is in cc
part_same (parts.Page i) (parts.Page j) is = ap parts.Page (exact_unsigned i j is)
part_same (parts.Page i) parts.Contents is = let no : Less ≡ Equal = is in cc
part_same parts.Contents parts.Plan is = let no : Greater ≡ Equal = is in cc
part_same parts.Contents (parts.Page j) is = let no : Greater ≡ Equal = is in cc
part_same parts.Contents parts.Contents is = refl

abbrev key_of : List ℕ → Option (List ℕ) → Part → FactKey
key_of map val part = record { map = map; val = val; part = part }

pub key_same : (a b : FactKey) → order a b ≡ Equal → a ≡ b
key_same a b is =
    let outer = then_equal (part_order a.part b.part)
    (ordering_then (slice_cmp nat_cmp a.map b.map) (option_cmp (slice_cmp nat_cmp) a.val b.val)) is in
    let inner = then_equal (slice_cmp nat_cmp a.map b.map) (option_cmp (slice_cmp nat_cmp) a.val b.val) outer.1 in
    ap (λ (part : Part). key_of a.map a.val part) (part_same a.part b.part outer.0)
    ∙ ap (λ (map : List ℕ). key_of map a.val b.part) (same_from_equal a.map b.map inner.0)
    ∙ ap (λ (val : Option (List ℕ)). key_of b.map val b.part) (option_same a.val b.val inner.1)

option_itself : (a : Option (List ℕ)) → option_cmp (slice_cmp nat_cmp) a a ≡ Equal
option_itself None = refl
option_itself (Some a) = equal_itself a

part_itself : (a : Part) → part_order a a ≡ Equal
part_itself parts.Plan = refl
part_itself (parts.Page i) = tied_itself nat_cmp_total i
part_itself parts.Contents = refl

then_both : (one other : Ordering) → one ≡ Equal → other ≡ Equal → ordering_then one other ≡ Equal
then_both one other first second = ap (λ (o : Ordering). ordering_then o other) first ∙ second

key_itself : (a : FactKey) → order a a ≡ Equal
key_itself a = then_both (part_order a.part a.part)
    (ordering_then (slice_cmp nat_cmp a.map a.map) (option_cmp (slice_cmp nat_cmp) a.val a.val)) (part_itself a.part)
    (then_both (slice_cmp nat_cmp a.map a.map) (option_cmp (slice_cmp nat_cmp) a.val a.val) (equal_itself a.map)
    (option_itself a.val))

equal_from_test : (found : Ordering) → is_eq found ≡ true → found ≡ Equal
equal_from_test Less is = let no : false ≡ true = is in cc
equal_from_test Equal is = refl
equal_from_test Greater is = let no : false ≡ true = is in cc

differ_from_test : (a c : FactKey) → is_eq (order a c) ≡ false → c ≡ a → ⊥
differ_from_test a c other same =
    let yes : is_eq (order a c) ≡ true = ap is_eq (ap (order a) same ∙ key_itself a) in
    let no : true ≡ false = sym yes ∙ other in
    cc

by_test : (b : Bool) (a c : FactKey) → is_eq (order a c) ≡ b → (c ≡ a) ⊎ (c ≡ a → ⊥)
by_test true a c is = inl (sym (key_same a c (equal_from_test (order a c) is)))
by_test false a c is = inr (differ_from_test a c is)

-- a key is this one or another
pub this_or_other : (a c : FactKey) → (c ≡ a) ⊎ (c ≡ a → ⊥)
this_or_other a c = by_test (is_eq (order a c)) a c refl

by_answer : (b : Bool) (a c : FactKey) → (c ≡ a → ⊥) → is_eq (order a c) ≡ b → is_eq (order a c) ≡ false
by_answer true a c differ is = absurd (differ (sym (key_same a c (equal_from_test (order a c) is))))
by_answer false a c differ is = is

pub told_apart : (a c : FactKey) → (c ≡ a → ⊥) → is_eq (order a c) ≡ false
told_apart a c differ = by_answer (is_eq (order a c)) a c differ refl

-- each other key has what it had
pub record ChangesOnly (key : FactKey) (old new : Ranks) : Type 0 where
  pub others : (other : FactKey) → is_eq (order key other) ≡ false → tree.get order new other ≡ tree.get order old other

pub renewed_by : (key : FactKey) (rank : ℕ) (old new : Ranks) → rank_in new key ≡ rank → ChangesOnly key old new
    → IsRenewed key rank old new
renewed_by key rank old new here only = record {
  here = here;
  others = λ other differ. ap or_zero (only.others other (told_apart key other differ));
  known = λ other differ known.
      subst (λ (o : Option ℕ). IsSome o) (sym (only.others other (told_apart key other differ))) known;
}

-- a key without an entry gets one, with the rank 0
pub entered : (key : FactKey) (old new : Ranks) → tree.get order old key ≡ None → tree.get order new key ≡ Some 0
    → ChangesOnly key old new → AreSame old new
entered key old new none some only = record {
  rank = λ other. elim (this_or_other key other) [
    | inl same ↦ ap (λ k. rank_in new k) same ∙ ap or_zero some ∙ sym (ap or_zero none)
        ∙ sym (ap (λ k. rank_in old k) same)
    | inr differ ↦ ap or_zero (only.others other (told_apart key other differ))
  ];
  known = λ other known. elim (this_or_other key other) [
    | inl same ↦ subst (λ k. IsKnown new k) (sym same) (subst (λ (o : Option ℕ). IsSome o) (sym some) refl)
    | inr differ ↦ subst (λ (o : Option ℕ). IsSome o) (sym (only.others other (told_apart key other differ))) known
  ];
}

-- what a changed map without changes tells
pub unchanged : (old new : Ranks) → ((key : FactKey) → tree.get order new key ≡ tree.get order old key) → AreSame old new
unchanged old new same = record {
  rank = λ key. ap or_zero (same key);
  known = λ key known. subst (λ (o : Option ℕ). IsSome o) (sym (same key)) known;
}

pub unchanged_entries : (old new : Ranks) → new.entries ≡ old.entries → AreSame old new
unchanged_entries old new same =
    unchanged old new (λ key. ap (λ (entries : List (FactKey × ℕ)). lookup (tree.is_at (order key)) entries) same)

pub known_from : (found : Option ℕ) → is_some found ≡ true → IsSome found
known_from None is = let no : false ≡ true = is in cc
known_from (Some rank) is = refl

pub none_from : (found : Option ℕ) → is_some found ≡ false → found ≡ None
none_from None is = refl
none_from (Some rank) is = let no : true ≡ false = is in cc

pub known_more : (key : FactKey) (rank : ℕ) (old new : Ranks) → IsRenewed key rank old new → IsKnown new key
    → (other : FactKey) → IsKnown old other → IsKnown new other
known_more key rank old new renewed here other known = elim (this_or_other key other) [
  | inl same ↦ subst (IsKnown new) (sym same) here
  | inr differ ↦ renewed.known other differ known
]

pub same_ranks : (ranks : Ranks) → AreSame ranks ranks
same_ranks ranks = unchanged ranks ranks (λ key. refl)

tells_if : (b : Bool) (a c : FactKey) → b ≡ is_eq (order a c) → Tells b (a ≡ c)
tells_if true a c is = key_same a c (equal_from_test (order a c) (sym is))
tells_if false a c is = λ same. differ_from_test a c (sym is) (sym same)

pub same_if_equal : (a c : FactKey) (answer : Bool) → answer ≡ is_eq (order a c) → Tells answer (a ≡ c)
same_if_equal a c answer is = tells_if answer a c is

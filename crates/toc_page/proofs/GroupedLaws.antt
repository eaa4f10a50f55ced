-- What steps put out, group by group: the part of each group is what a filter by its name finds.
use Rattle.std.specs.Prelude.{◌≡◌, ◌≢◌, ℕ, Bool, true, false, not, List, [], ◌∷◌, ◌++◌, bytes_eq, filter, if◌then◌else◌}
use Rattle.std.specs.List.{All, flat_map}
use Rattle.std.proofs.Common.{refl, sym, ap, ◌∙◌, append_assoc, append-nil}
use Rattle.std.proofs.lemmas.Bool.{false≢true}
use Rattle.std.proofs.lemmas.List.Elements.{All-cons, All-filter, All-head, All-nil, All-tail, filter-append, filter_passes}
use Rattle.dita_doc.proofs.Tests.{equal_text, other_text}
use Rattle.map_spec.specs.Branches.{each_once}

-- Names that stand once

abbrev pub Once : List (List ℕ) → Type 0
Once [] = Unit {0}
Once (name ∷ names) = All (λ other. name ≢ other) names × Once names

once_filter : (p : List ℕ → Bool) (names : List (List ℕ)) → Once names → Once (filter p names)
once_filter p [] once = tt
once_filter p (name ∷ names) once = by_test (p name) (once_filter p names once.1)
  where
    by_test : (b : Bool) → Once (filter p names) → Once (if b then name ∷ filter p names else filter p names)
    by_test true behind = (All-filter p (λ other. name ≢ other) names once.0, behind)
    by_test false behind = behind

not_itself : (name other : List ℕ) → not (bytes_eq name other) ≡ true → name ≢ other
not_itself name other passes is = absurd (false≢true (ap not (sym (equal_text name other is)) ∙ passes))

all_others : (name : List ℕ) (names : List (List ℕ)) → All (λ other. not (bytes_eq name other) ≡ true) names
    → All (λ other. name ≢ other) names
all_others name [] all = All-nil (λ other. name ≢ other)
all_others name (other ∷ names) all = All-cons (λ other. name ≢ other) other names
    (not_itself name other (All-head (λ other. not (bytes_eq name other) ≡ true) other names all))
    (all_others name names (All-tail (λ other. not (bytes_eq name other) ≡ true) other names all))

pub each_once_is : (names : List (List ℕ)) → Once (each_once names)
each_once_is [] = tt
each_once_is (name ∷ names) = (
  all_others name (filter (λ other. not (bytes_eq name other)) (each_once names))
      (filter_passes (λ other. not (bytes_eq name other)) (each_once names)),
  once_filter (λ other. not (bytes_eq name other)) (each_once names) (each_once_is names),
)

-- Filters by names

alike : {X Y : Type 0} (f g : X → List Y) (xs : List X) → All (λ x. f x ≡ g x) xs → flat_map f xs ≡ flat_map g xs
alike f g [] all = refl
alike f g (x ∷ xs) all =
    (λ i. All-head (λ x. f x ≡ g x) x xs all i ++ alike f g xs (All-tail (λ x. f x ≡ g x) x xs all) i)

module _ (F : Type 0) (name_of : F → List ℕ) where
  abbrev pub named : List ℕ → F → Bool
  named name one = bytes_eq (name_of one) name

  own_named : (name : List ℕ) (all : List F) → All (λ one. name_of one ≡ name) all → filter (named name) all ≡ all
  own_named name [] are = refl
  own_named name (one ∷ all) are =
      ap (λ b. if b then one ∷ filter (named name) all else filter (named name) all)
      (equal_text (name_of one) name (All-head (λ one. name_of one ≡ name) one all are))
      ∙ ap (λ l. one ∷ l) (own_named name all (All-tail (λ one. name_of one ≡ name) one all are))

  none_named : (name : List ℕ) (all : List F) → All (λ one. name_of one ≢ name) all → filter (named name) all ≡ []
  none_named name [] are = refl
  none_named name (one ∷ all) are =
      ap (λ b. if b then one ∷ filter (named name) all else filter (named name) all)
      (other_text (name_of one) name (All-head (λ one. name_of one ≢ name) one all are))
      ∙ none_named name all (All-tail (λ one. name_of one ≢ name) one all are)

  all_apart : (name other : List ℕ) → name ≢ other → (all : List F) → All (λ one. name_of one ≡ name) all
      → All (λ one. name_of one ≢ other) all
  all_apart name other apart [] are = All-nil (λ one. name_of one ≢ other)
  all_apart name other apart (one ∷ all) are = All-cons (λ one. name_of one ≢ other) one all
      (λ is. apart (sym (All-head (λ one. name_of one ≡ name) one all are) ∙ is))
      (all_apart name other apart all (All-tail (λ one. name_of one ≡ name) one all are))

  -- Groups, one behind the other

  module _ (S X : Type 0) (step : S → X → S) (new : S → X → List F) (group : List ℕ → List X) where
    abbrev pub steps : S → List X → S
    steps s [] = s
    steps s (x ∷ xs) = steps (step s x) xs

    abbrev pub put_out : S → List X → List F
    put_out s [] = []
    put_out s (x ∷ xs) = new s x ++ put_out (step s x) xs

    put_both : (s : S) (xs ys : List X) → put_out s (xs ++ ys) ≡ put_out s xs ++ put_out (steps s xs) ys
    put_both s [] ys = refl
    put_both s (x ∷ xs) ys =
        ap (λ l. new s x ++ l) (put_both (step s x) xs ys)
        ∙ sym (append_assoc (new s x) (put_out (step s x) xs) (put_out (steps (step s x) xs) ys))

    -- what a group puts out has its name
    pub record IsGroup (name : List ℕ) : Type 0 where
      pub each : (s : S) → All (λ one. name_of one ≡ name) (put_out s (group name))

    abbrev all_of : List (List ℕ) → List X
    all_of names = flat_map group names

    module _ (are : (name : List ℕ) → IsGroup name) where
      others : (name : List ℕ) (names : List (List ℕ)) (s : S) → All (λ other. name ≢ other) names
          → filter (named name) (put_out s (all_of names)) ≡ []
      others name [] s apart = refl
      others name (other ∷ names) s apart =
          ap (filter (named name)) (put_both s (group other) (all_of names))
          ∙ filter-append (named name) (put_out s (group other)) (put_out (steps s (group other)) (all_of names))
          ∙ (λ i. none_named name (put_out s (group other))
          (all_apart other name (λ is. All-head (λ other. name ≢ other) other names apart (sym is))
          (put_out s (group other)) ((are other).each s)) i
          ++ others name names (steps s (group other)) (All-tail (λ other. name ≢ other) other names apart) i)

      same_behind : (name : List ℕ) (front behind : List F) → All (λ one. name_of one ≡ name) front
          → (names : List (List ℕ)) → All (λ other. name ≢ other) names
          → All (λ other. filter (named other) (front ++ behind) ≡ filter (named other) behind) names
      same_behind name front behind fronts [] apart = All-nil _
      same_behind name front behind fronts (other ∷ names) apart =
          All-cons (λ other. filter (named other) (front ++ behind) ≡ filter (named other) behind) other names
          (filter-append (named other) front behind
          ∙ ap (λ l. l ++ filter (named other) behind) (none_named other front
          (all_apart name other (All-head (λ other. name ≢ other) other names apart) front fronts)))
          (same_behind name front behind fronts names (All-tail (λ other. name ≢ other) other names apart))

      -- the groups of all names, one behind the other
      pub grouped : (names : List (List ℕ)) (s : S) → Once names
          → flat_map (λ name. filter (named name) (put_out s (all_of names))) names ≡ put_out s (all_of names)
      grouped [] s once = refl
      grouped (name ∷ names) s once =
          let front = put_out s (group name) in
          let behind = put_out (steps s (group name)) (all_of names) in
          let both : put_out s (all_of (name ∷ names)) ≡ front ++ behind = put_both s (group name) (all_of names) in
          let own : filter (named name) (front ++ behind) ≡ front =
          filter-append (named name) front behind
          ∙ (λ i. own_named name front ((are name).each s) i ++ others name names (steps s (group name)) once.0 i)
          ∙ append-nil front in
          ap (λ l. flat_map (λ other. filter (named other) l) (name ∷ names)) both
          ∙ (λ i. own i ++ alike (λ other. filter (named other) (front ++ behind)) (λ other. filter (named other) behind) names
          (same_behind name front behind ((are name).each s) names once.0) i)
          ∙ ap (λ l. front ++ l) (grouped names (steps s (group name)) once.1)
          ∙ sym both

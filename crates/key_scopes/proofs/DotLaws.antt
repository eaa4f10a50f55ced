-- A key that begins with a name and a dot: where it is cut, and of some chosen names those that fit at each dot.
use Rattle.std.specs.Prelude.{◌≡◌, ◌+◌, ◌<◌, ◌≤◌, ◌==◌, ◌&&◌, ◌||◌, ◌⊎◌, ℕ, zero, suc, Bool, true, false, List, [], ◌∷◌, ◌++◌, Option, Some, None, bytes_eq, codes, drop, find, is_some, length, nat_lt, option_map, take, if◌then◌else◌}
use Rattle.std.specs.List.{All}
use Rattle.std.proofs.Common.{refl, sym, ap, ◌∙◌, arith, get_or, inl, inr}
use Rattle.std.proofs.lemmas.Bool.{cases_Bool, eq-eqb, eqb-true, true≢false}
use Rattle.std.proofs.lemmas.Bool.Decides.{nat_tests}
use Rattle.std.proofs.lemmas.List.{length-take}
use Rattle.std.proofs.lemmas.List.Elements.{All-cons, All-head, All-nil, All-tail, All-weaker}
use Rattle.dita_doc.specs.declared.plan.Scope.{Scope}
use Rattle.dita_doc.proofs.Tests.{equal_text, same_text, second_holds}
use Rattle.key_scopes.specs.declared.children.ChildName.{ChildName}
use Rattle.key_scopes.specs.Children.{AreChildNames, all_names, is_named, those_named}
use Rattle.key_scopes.specs.Ways.{leads, way_in}
use Rattle.key_scopes.proofs.FirstLaws.{find_filter}
use Rattle.key_scopes.proofs.TurnLaws.{all_in_turn, find_either, find_neither, is_not_behind}
use Rattle.map_spec.specs.Scopes.{behind}

abbrev pub behind_dot : List ℕ → List ℕ → Option (List ℕ)
behind_dot name key = behind (name ++ codes ".") key

-- how a key is cut behind a name
pub record IsCut (name key left : List ℕ) : Type 0 where
  pub within : length name < length key
  pub dot : (d : ℕ) → get_or key (length name) d ≡ 46
  pub front : take (length name) key ≡ name
  pub rest : left ≡ drop (length name + 1) key

pub cut : (name key rest : List ℕ) → behind_dot name key ≡ Some rest → IsCut name key rest
cut [] [] rest e = absurd (cc)
cut [] (c ∷ key) rest e = by_one (46 == c) refl
  where
    by_one : (a : Bool) → (46 == c) ≡ a → IsCut [] (c ∷ key) rest
    by_one true f =
        let there : Some key ≡ Some rest = rw f at e in
        let same : key ≡ rest = cc in
        record { within = omega arith; dot = λ d. sym (eqb-true 46 c f); front = refl; rest = sym same }
    by_one false f = let there = rw f at e in absurd (cc)
cut (b ∷ name) [] rest e = absurd (cc)
cut (b ∷ name) (c ∷ key) rest e = by_one (λ there. cut name key rest there) (b == c) refl
  where
    by_one : (behind_dot name key ≡ Some rest → IsCut name key rest) → (a : Bool) → (b == c) ≡ a
        → IsCut (b ∷ name) (c ∷ key) rest
    by_one behind true f =
        let there = behind (rw f at e) in
        let more : suc (length name + 1) ≡ suc (length name) + 1 = omega arith in
        record {
          within = let low = there.within in omega (arith, low);
          dot = there.dot;
          front = ap (λ one. one ∷ take (length name) key) (sym (eqb-true b c f)) ∙ ap (λ some. b ∷ some) there.front;
          rest = there.rest ∙ ap (λ n. drop n (c ∷ key)) more;
        }
    by_one behind false f = let there = rw f at e in absurd (cc)

pub cut_there : (dot : ℕ) (key : List ℕ) (d : ℕ) → dot < length key → get_or key dot d ≡ 46
    → behind_dot (take dot key) key ≡ Some (drop (dot + 1) key)
cut_there dot [] d within is = absurd (omega arith)
cut_there zero (c ∷ key) d within is = let test = eq-eqb 46 c (sym is) in rw test refl
cut_there (suc dot) (c ∷ key) d within is =
    let test = eq-eqb c c refl in
    let more : suc (dot + 1) ≡ suc dot + 1 = omega arith in
    rw test (cut_there dot key d (omega arith) is ∙ ap (λ n. Some (drop n (c ∷ key))) more)

-- A name of those chosen that fits, up to so many bytes

abbrev pub fits : ℕ → ℕ → List ℕ → (ChildName → Bool) → ChildName → Bool
fits dots scope key chosen name = nat_lt (length name.name) dots && (leads scope key name && chosen name)

abbrev pub fits_at : ℕ → ℕ → List ℕ → (ChildName → Bool) → ChildName → Bool
fits_at dot scope key chosen name = is_named scope (take dot key) name && chosen name

-- what is left of the test if a name leads on
fits_dot : (dot scope : ℕ) (key : List ℕ) (name : List ℕ) (d : ℕ) → dot < length key → get_or key dot d ≡ 46
    → (nat_lt (length name) (dot + 1) && is_some (behind_dot name key))
    ≡ ((nat_lt (length name) dot && is_some (behind_dot name key)) || bytes_eq name (take dot key))
fits_dot dot scope key name d within is = by_found (behind_dot name key) refl
  where
    by_found : (found : Option (List ℕ)) → behind_dot name key ≡ found
        → (nat_lt (length name) (dot + 1) && is_some found)
        ≡ ((nat_lt (length name) dot && is_some found) || bytes_eq name (take dot key))
    by_found None e = by_test (bytes_eq name (take dot key)) refl
      where
        by_test : (a : Bool) → bytes_eq name (take dot key) ≡ a
            → (nat_lt (length name) (dot + 1) && false) ≡ ((nat_lt (length name) dot && false) || a)
        by_test true f =
            let same = same_text name (take dot key) f in
            let none : None ≡ Some (drop (dot + 1) key) =
            sym e ∙ ap (λ n. behind_dot n key) same ∙ cut_there dot key d within is in
            absurd (cc)
        by_test false f = refute (nat_lt (length name) (dot + 1)) (nat_lt (length name) dot)
          where
            refute : (a b : Bool) → (a && false) ≡ ((b && false) || false)
            refute true true = refl
            refute true false = refl
            refute false true = refl
            refute false false = refl
    by_found (Some rest) e = by_test (bytes_eq name (take dot key)) refl
      where
        is_cut : IsCut name key rest
        is_cut = cut name key rest e

        by_test : (a : Bool) → bytes_eq name (take dot key) ≡ a
            → (nat_lt (length name) (dot + 1) && true) ≡ ((nat_lt (length name) dot && true) || a)
        by_test true f =
            let long : length name ≡ dot =
            ap length (same_text name (take dot key) f) ∙ omega (arith, length-take dot key) in
            let first : nat_lt (length name) (dot + 1) ≡ true = grind (arith, nat_tests) in
            let second : nat_lt (length name) dot ≡ false = grind (arith, nat_tests) in
            rw (first, second) refl
        by_test false f =
            by_lengths (cases_Bool (nat_lt (length name) dot)) (cases_Bool (nat_lt (length name) (dot + 1)))
          where
            by_lengths : (nat_lt (length name) dot ≡ true) ⊎ (nat_lt (length name) dot ≡ false)
                → (nat_lt (length name) (dot + 1) ≡ true) ⊎ (nat_lt (length name) (dot + 1) ≡ false)
                → (nat_lt (length name) (dot + 1) && true) ≡ ((nat_lt (length name) dot && true) || false)
            by_lengths (inl g) (inl h) = rw (g, h) refl
            by_lengths (inr g) (inr h) = rw (g, h) refl
            by_lengths (inl g) (inr h) = absurd (grind (arith, nat_tests))
            by_lengths (inr g) (inl h) =
                let long : length name ≡ dot = grind (arith, nat_tests) in
                let same : name ≡ take dot key =
                sym (sym (ap (λ n. take n key) long) ∙ is_cut.front) in
                absurd (true≢false (sym (equal_text name (take dot key) same) ∙ f))

fits_no_dot : (dot : ℕ) (key : List ℕ) (name : List ℕ) (d : ℕ) → (get_or key dot d ≡ 46 → true ≡ false)
    → (nat_lt (length name) (dot + 1) && is_some (behind_dot name key))
    ≡ (nat_lt (length name) dot && is_some (behind_dot name key))
fits_no_dot dot key name d other = by_found (behind_dot name key) refl
  where
    none : (a b : Bool) → (a && false) ≡ (b && false)
    none true true = refl
    none true false = refl
    none false true = refl
    none false false = refl

    by_found : (found : Option (List ℕ)) → behind_dot name key ≡ found
        → (nat_lt (length name) (dot + 1) && is_some found) ≡ (nat_lt (length name) dot && is_some found)
    by_found None e = none (nat_lt (length name) (dot + 1)) (nat_lt (length name) dot)
    by_found (Some rest) e =
        by_lengths (cases_Bool (nat_lt (length name) dot)) (cases_Bool (nat_lt (length name) (dot + 1)))
      where
        by_lengths : (nat_lt (length name) dot ≡ true) ⊎ (nat_lt (length name) dot ≡ false)
            → (nat_lt (length name) (dot + 1) ≡ true) ⊎ (nat_lt (length name) (dot + 1) ≡ false)
            → (nat_lt (length name) (dot + 1) && true) ≡ (nat_lt (length name) dot && true)
        by_lengths (inl g) (inl h) = rw (g, h) refl
        by_lengths (inr g) (inr h) = rw (g, h) refl
        by_lengths (inl g) (inr h) = absurd (grind (arith, nat_tests))
        by_lengths (inr g) (inl h) =
            let long : length name ≡ dot = grind (arith, nat_tests) in
            absurd (true≢false (other (ap (λ n. get_or key n d) (sym long) ∙ (cut name key rest e).dot d)))

-- the tests of a name in its scope
shuffle : (a b c p l : Bool) → (a && b) ≡ ((c && b) || l)
    → (a && ((p && b) && true)) ≡ ((c && ((p && b) && true)) || ((p && l) && true))
shuffle a b c true l e = strip a b c l e
  where
    strip : (a b c l : Bool) → (a && b) ≡ ((c && b) || l)
        → (a && ((true && b) && true)) ≡ ((c && ((true && b) && true)) || ((true && l) && true))
    strip true true true true e = refl
    strip true true true false e = refl
    strip true true false true e = refl
    strip true true false false e = cc
    strip true false true true e = cc
    strip true false true false e = refl
    strip true false false true e = cc
    strip true false false false e = refl
    strip false true true true e = cc
    strip false true true false e = cc
    strip false true false true e = cc
    strip false true false false e = refl
    strip false false true true e = cc
    strip false false true false e = refl
    strip false false false true e = cc
    strip false false false false e = refl
shuffle true b true false l e = refl
shuffle true b false false l e = refl
shuffle false b true false l e = refl
shuffle false b false false l e = refl

off : (a b c p l : Bool) → (a && ((p && b) && false)) ≡ ((c && ((p && b) && false)) || ((p && l) && false))
off a b c p l = by_four a c (p && b) (p && l)
  where
    by_four : (a c x y : Bool) → (a && (x && false)) ≡ ((c && (x && false)) || (y && false))
    by_four true true true true = refl
    by_four true true true false = refl
    by_four true true false true = refl
    by_four true true false false = refl
    by_four true false true true = refl
    by_four true false true false = refl
    by_four true false false true = refl
    by_four true false false false = refl
    by_four false true true true = refl
    by_four false true true false = refl
    by_four false true false true = refl
    by_four false true false false = refl
    by_four false false true true = refl
    by_four false false true false = refl
    by_four false false false true = refl
    by_four false false false false = refl

shuffled : (a b c p l m : Bool) → (a && b) ≡ ((c && b) || l)
    → (a && ((p && b) && m)) ≡ ((c && ((p && b) && m)) || ((p && l) && m))
shuffled a b c p l true e = shuffle a b c p l e
shuffled a b c p l false e = off a b c p l

kept : (a b c p m : Bool) → (a && b) ≡ (c && b) → (a && ((p && b) && m)) ≡ (c && ((p && b) && m))
kept a true c p m e = by_five a c e
  where
    by_five : (a c : Bool) → (a && true) ≡ (c && true) → (a && ((p && true) && m)) ≡ (c && ((p && true) && m))
    by_five true true e = refl
    by_five true false e = cc
    by_five false true e = cc
    by_five false false e = refl
kept a false c p m e = by_four a c p m
  where
    by_four : (a c p m : Bool) → (a && ((p && false) && m)) ≡ (c && ((p && false) && m))
    by_four true true p m = refl
    by_four false false p m = refl
    by_four true false true m = refl
    by_four true false false m = refl
    by_four false true true m = refl
    by_four false true false m = refl

pub fits_more : (dot scope : ℕ) (key : List ℕ) (chosen : ChildName → Bool) (name : ChildName) (d : ℕ)
    → dot < length key → get_or key dot d ≡ 46
    → fits (dot + 1) scope key chosen name ≡ (fits dot scope key chosen name || fits_at dot scope key chosen name)
fits_more dot scope key chosen name d within is =
    shuffled (nat_lt (length name.name) (dot + 1)) (is_some (behind_dot name.name key)) (nat_lt (length name.name) dot)
    (name.parent == scope) (bytes_eq name.name (take dot key)) (chosen name)
    (fits_dot dot scope key name.name d within is)

pub fits_still : (dot scope : ℕ) (key : List ℕ) (chosen : ChildName → Bool) (name : ChildName) (d : ℕ)
    → (get_or key dot d ≡ 46 → true ≡ false)
    → fits (dot + 1) scope key chosen name ≡ fits dot scope key chosen name
fits_still dot scope key chosen name d other =
    kept (nat_lt (length name.name) (dot + 1)) (is_some (behind_dot name.name key)) (nat_lt (length name.name) dot)
    (name.parent == scope) (chosen name) (fits_no_dot dot key name.name d other)

pub leads_short : (scope : ℕ) (key : List ℕ) (n : ChildName) → leads scope key n ≡ true → length n.name < length key
leads_short scope key n e =
    by_found (behind_dot n.name key) refl (second_holds (n.parent == scope) (is_some (behind_dot n.name key)) e)
  where
    by_found : (found : Option (List ℕ)) → behind_dot n.name key ≡ found → is_some found ≡ true
        → length n.name < length key
    by_found None f g = cc
    by_found (Some rest) f g = (cut n.name key rest f).within

-- The loop over the dots

pub find_same : (p q : ChildName → Bool) (names : List ChildName) → All (λ n. p n ≡ q n) names
    → find p names ≡ find q names
find_same p q [] same = refl
find_same p q (name ∷ names) same =
    let here : p name ≡ q name = All-head (λ n. p n ≡ q n) name names same in
    let rest = find_same p q names (All-tail (λ n. p n ≡ q n) name names same) in
    rw (here, rest) refl

pub all_each : (P : ChildName → Type 0) (names : List ChildName) → ((n : ChildName) → P n) → All P names
all_each P [] each = All-nil P
all_each P (name ∷ names) each = All-cons P name names (each name) (all_each P names each)

find_nothing : (p : ChildName → Bool) (names : List ChildName) → ((n : ChildName) → p n ≡ false) → find p names ≡ None
find_nothing p [] none = refl
find_nothing p (name ∷ names) none = rw (none name) (find_nothing p names none)

module _ (scopes : List Scope) (scope : ℕ) (key : List ℕ) (chosen : ChildName → Bool) where
  abbrev pub first_fit : ℕ → Option ChildName
  first_fit dots = find (fits dots scope key chosen) (all_names scopes)

  pub first_none : None ≡ option_map (way_in key) (first_fit 0)
  first_none = ap (option_map (way_in key)) (sym (find_nothing (fits 0 scope key chosen) (all_names scopes)
      (λ n. let test : nat_lt (length n.name) 0 ≡ false = grind (arith, nat_tests) in rw test refl)))

  pub first_still : (dot d : ℕ) → (get_or key dot d ≡ 46 → true ≡ false) → first_fit (dot + 1) ≡ first_fit dot
  first_still dot d other =
      find_same (fits (dot + 1) scope key chosen) (fits dot scope key chosen) (all_names scopes)
      (all_each (λ n. fits (dot + 1) scope key chosen n ≡ fits dot scope key chosen n) (all_names scopes)
      (λ n. fits_still dot scope key chosen n d other))

  found_at : (dot : ℕ) → find chosen (those_named scope (take dot key) (all_names scopes))
      ≡ find (fits_at dot scope key chosen) (all_names scopes)
  found_at dot = find_filter chosen (is_named scope (take dot key)) (all_names scopes)

  pub first_past : (dot d : ℕ) → dot < length key → get_or key dot d ≡ 46
      → find chosen (those_named scope (take dot key) (all_names scopes)) ≡ None
      → first_fit (dot + 1) ≡ first_fit dot
  first_past dot d within is none =
      find_neither (fits dot scope key chosen) (fits_at dot scope key chosen) (fits (dot + 1) scope key chosen)
      (all_names scopes) (λ n. fits_more dot scope key chosen n d within is) (sym (found_at dot) ∙ none)

  pub first_found_at : (dot d : ℕ) (name : ChildName) → dot < length key → get_or key dot d ≡ 46
      → find chosen (those_named scope (take dot key) (all_names scopes)) ≡ Some name
      → first_fit (dot + 1) ≡ (if is_not_behind (first_fit dot) name then Some name else first_fit dot)
  first_found_at dot d name within is found =
      find_either (fits dot scope key chosen) (fits_at dot scope key chosen) (fits (dot + 1) scope key chosen)
      (all_names scopes) name (all_in_turn scopes)
      (λ n. fits_more dot scope key chosen n d within is) (sym (found_at dot) ∙ found)

  -- no name is as long as the key, or longer than the longest
  pub first_of_all : (dots : ℕ) → All (λ n. (leads scope key n ≡ true → length n.name < dots)) (all_names scopes)
      → first_fit dots ≡ find (λ n. leads scope key n && chosen n) (all_names scopes)
  first_of_all dots short =
      find_same (fits dots scope key chosen)
      (λ n. leads scope key n && chosen n) (all_names scopes) (each (all_names scopes) short)
    where
      each : (names : List ChildName) → All (λ n. (leads scope key n ≡ true → length n.name < dots)) names
          → All (λ n. fits dots scope key chosen n ≡ (leads scope key n && chosen n)) names
      each [] short = All-nil (λ n. fits dots scope key chosen n ≡ (leads scope key n && chosen n))
      each (name ∷ names) short =
          All-cons (λ n. fits dots scope key chosen n ≡ (leads scope key n && chosen n)) name names
          (by_test (leads scope key name) refl)
          (each names (All-tail (λ n. (leads scope key n ≡ true → length n.name < dots)) name names short))
        where
          by_test : (a : Bool) → leads scope key name ≡ a
              → (nat_lt (length name.name) dots && (a && chosen name)) ≡ (a && chosen name)
          by_test true e =
              let low = All-head (λ n. (leads scope key n ≡ true → length n.name < dots)) name names short e in
              let test : nat_lt (length name.name) dots ≡ true = grind (arith, nat_tests) in
              rw test refl
          by_test false e = by_any (nat_lt (length name.name) dots)
            where
              by_any : (a : Bool) → (a && false) ≡ false
              by_any true = refl
              by_any false = refl

  pub first_at_end : (dots : ℕ) → length key ≤ dots
      → first_fit dots ≡ find (λ n. leads scope key n && chosen n) (all_names scopes)
  first_at_end dots end =
      first_of_all dots (all_each (λ n. (leads scope key n ≡ true → length n.name < dots)) (all_names scopes)
      (λ n e. let low = leads_short scope key n e in omega (arith, low, end)))

  pub first_behind_longest : (names : List ChildName) (longest dots : ℕ) → AreChildNames scopes names longest
      → longest < dots → first_fit dots ≡ find (λ n. leads scope key n && chosen n) (all_names scopes)
  first_behind_longest names longest dots are past =
      first_of_all dots (All-weaker (λ n. length n.name ≤ longest)
      (λ n. (leads scope key n ≡ true → length n.name < dots))
      (λ n low e. omega (arith, low, past)) (all_names scopes) are.short)

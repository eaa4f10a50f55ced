-- The names of elements that the table of forms gives are names of a page.
use Rattle.std.specs.Prelude.{◌≡◌, ◌+◌, ◌≤◌, ◌==◌, ℕ, zero, suc, Bool, true, false, List, [], ◌∷◌, ◌++◌, IfSome, nat_lt, codes}
use Rattle.std.specs.Fmt.{decimal}
use Rattle.std.specs.List.{AllByRecursion, filter_map, list_all}
use Rattle.std.proofs.Common.{refl, ap, ◌∙◌, arith}
use Rattle.std.proofs.lemmas.Bool.{and_parts}
use Rattle.std.proofs.lemmas.Bool.Decides.{nat_tests}
use Rattle.std.proofs.lemmas.Fmt.{decimal_digit}
use Rattle.map_spec.specs.Elements.{tokens_of}
use Rattle.map_spec.specs.Written.{Element}
use Rattle.html_spec.specs.Blocks.{Form, Tag, Topic, Title, Note, Reference, Image, Cell, SimpleCell, Left, Foreign, forms, TitlePlace, InTopic, InSection, InFigure, InTable, heading, is_form_of, last_of, row_for, row_of, title_tag}
use Rattle.html_laws.specs.Markup.{element_names, is_among}
use Rattle.html_laws.proofs.EachLaws.{of_any, of_filter_map, of_found}

-- Forms

abbrev pub has_known_name : Form → Bool
has_known_name (Tag name class) = is_among element_names name
has_known_name Topic = true
has_known_name Title = true
has_known_name Note = true
has_known_name Reference = true
has_known_name Image = true
has_known_name Cell = true
has_known_name SimpleCell = true
has_known_name Left = true
has_known_name Foreign = true

abbrev pub IsKnownRow : List ℕ × Form → Type 0
IsKnownRow row = has_known_name row.1 ≡ true

-- of the last of a list
last_holds : {X : Type 0} (P : X → Type 0) (xs : List X) → AllByRecursion P xs → IfSome (last_of xs) P
last_holds P [] all = tt
last_holds P (x ∷ []) all = all.0
last_holds P (x ∷ y ∷ xs) all = last_holds P (y ∷ xs) all.1

-- what holds of each row of the table holds of that of an element
pub row_holds : (P : List ℕ × Form → Type 0) (element : Element) → AllByRecursion P forms → IfSome (row_for element) P
row_holds P element all =
    let any : List ℕ → Type 0 = λ token. Unit {0} in
    last_holds P (filter_map row_of (tokens_of element))
    (of_filter_map any P row_of (tokens_of element) (λ token is. of_found P (is_form_of token) forms all)
    (of_any any (tokens_of element) (λ token. tt)))

pub each_passes : {X : Type 0} (test : X → Bool) (xs : List X) → list_all test xs ≡ true
    → AllByRecursion (λ x. test x ≡ true) xs
each_passes test [] all = tt
each_passes test (x ∷ xs) all =
    let parts = and_parts (test x) (list_all test xs) all in (parts.0, each_passes test xs parts.1)

abbrev is_known : List ℕ × Form → Bool
is_known row = has_known_name row.1

forms_known : list_all is_known forms ≡ true
unfolding element_names
forms_known = refl

-- the form of an element has a known name
pub row_known : (element : Element) → IfSome (row_for element) IsKnownRow
row_known element = row_holds IsKnownRow element (each_passes is_known forms forms_known)

-- Titles

level_digit : (n : ℕ) → 1 ≤ n → n ≤ 6 → is_among element_names (codes "h" ++ (48 + n) ∷ []) ≡ true
unfolding element_names
level_digit zero low high = absurd (omega arith)
level_digit (suc zero) low high = refl
level_digit (suc (suc zero)) low high = refl
level_digit (suc (suc (suc zero))) low high = refl
level_digit (suc (suc (suc (suc zero)))) low high = refl
level_digit (suc (suc (suc (suc (suc zero))))) low high = refl
level_digit (suc (suc (suc (suc (suc (suc zero)))))) low high = refl
level_digit (suc (suc (suc (suc (suc (suc (suc n))))))) low high = absurd (omega arith)

level_name : (n : ℕ) → 1 ≤ n → n ≤ 6 → is_among element_names (codes "h" ++ decimal n) ≡ true
level_name n low high =
    ap (λ (digits : List ℕ). is_among element_names (codes "h" ++ digits)) (decimal_digit n (omega arith))
    ∙ level_digit n low high

-- by the two tests of the level
heading_by : (depth : ℕ) (deep none : Bool) → nat_lt 6 depth ≡ deep → (depth == 0) ≡ none
    → is_among element_names (heading depth) ≡ true
heading_by depth true none d z = rw d (level_name 6 (omega arith) (omega arith))
heading_by depth false true d z = rw (d, z) (level_name 1 (omega arith) (omega arith))
heading_by depth false false d z =
    let high : depth ≤ 6 = grind (arith, nat_tests) in
    let low : 1 ≤ depth = grind (arith, nat_tests) in
    rw (d, z) (level_name depth low high)

heading_name : (depth : ℕ) → is_among element_names (heading depth) ≡ true
heading_name depth = heading_by depth (nat_lt 6 depth) (depth == 0) refl refl

pub title_name : (around : TitlePlace) (depth : ℕ) → is_among element_names (title_tag around depth) ≡ true
unfolding element_names
title_name InTopic depth = heading_name depth
title_name InSection depth = heading_name (depth + 1)
title_name InFigure depth = refl
title_name InTable depth = refl

-- The names that a document with its pushes gives: the document gives them, or one that pushes come from.
use Rattle.std.specs.Prelude.{◌≡◌, ℕ, Bool, true, false, List, [], ◌∷◌, ◌++◌, Option, Some, None, IsTrue, bytes_eq, codes, filter, option_map, if◌then◌else◌}
use Rattle.std.specs.List.{cons_option, filter_map, list_any}
use Rattle.std.specs.Option.{option_and_then, option_to_list}
use Rattle.std.proofs.Common.{refl, sym, ap, subst, ◌∙◌}
use Rattle.std.proofs.Math.Logic.{⊎_elim}
use Rattle.std.proofs.lemmas.Bool.{false≢true, or_cases, or_left, or_right}
use Rattle.dita_doc.specs.ClassValue.{value_of}
use Rattle.dita_doc.specs.declared.content.Push.{Push}
use Rattle.dita_doc.specs.declared.doc.Attribute.{Attribute}
use Rattle.dita_doc.proofs.Tests.{same_text}
use Rattle.map_spec.specs.Elements.{attribute}
use Rattle.map_spec.specs.Written.{Element, Written, End, Chars, Node, document}
use Rattle.map_spec.specs.Pushes.{id_written, pushed_element, pushed_from, pushing_names, with_id_of, without_names}
use Rattle.reader_spec.specs.World.{World}
use Rattle.readers.specs.Founded.{is_among}
use Rattle.readers.specs.Named.{given_in, given_in_found, name_joined, name_written, names_of_element, names_of_found, reused_by, reused_of_found}
use Rattle.conref_push.specs.Into.{froms, pushed_by}
use Rattle.readers.proofs.AmongLaws.{among_back, among_front}
use Rattle.conref_push.proofs.AmongLaws.{among_append}
use Rattle.conref_push.proofs.EachLaws.{EachOf, TreeOf, each_from, each_pushed}

-- Attributes that stay

value_step : (names : List (List ℕ)) (name : List ℕ) (one : Attribute) (rest : List Attribute)
    (drops same lost : Bool) → list_any (bytes_eq one.name) names ≡ drops → bytes_eq one.name name ≡ same
    → (same ≡ true → drops ≡ lost)
    → value_of name (without_names names rest) ≡ (if lost then None else value_of name rest)
    → value_of name (without_names names (one ∷ rest)) ≡ (if lost then None else value_of name (one ∷ rest))
value_step names name one rest true true true drops same alike later = rw drops later
value_step names name one rest true true false drops same alike later = absurd (false≢true (sym (alike refl)))
value_step names name one rest true false true drops same alike later = rw drops later
value_step names name one rest true false false drops same alike later = rw (drops, same) later
value_step names name one rest false true true drops same alike later = absurd (false≢true (alike refl))
value_step names name one rest false true false drops same alike later = rw drops (rw same refl)
value_step names name one rest false false true drops same alike later = rw drops (rw same later)
value_step names name one rest false false false drops same alike later = rw drops (rw same later)

-- the value of an attribute, where some are left out
value_kept : (names : List (List ℕ)) (name : List ℕ) (all : List Attribute)
    → value_of name (without_names names all)
    ≡ (if list_any (bytes_eq name) names then None else value_of name all)
value_kept names name [] = by_test (list_any (bytes_eq name) names)
  where
    by_test : (lost : Bool) → None ≡ (if lost then None else value_of name [])
    by_test true = refl
    by_test false = refl
value_kept names name (one ∷ rest) = value_step names name one rest (list_any (bytes_eq one.name) names)
    (bytes_eq one.name name) (list_any (bytes_eq name) names) refl refl
    (λ same. ap (λ n. list_any (bytes_eq n) names) (same_text one.name name same))
    (value_kept names name rest)

-- the value of another attribute than the id
value_behind : (id : Option (List ℕ)) (name : List ℕ) (all : List Attribute) → bytes_eq (codes "id") name ≡ false
    → value_of name (id_written id ++ all) ≡ value_of name all
value_behind None name all other = refl
value_behind (Some id) name all other = ap (λ (same : Bool). if same then Some id else value_of name all) other

-- Names that have a property

abbrev Gives : (List ℕ → Type 0) → List (List ℕ) → Type 0
Gives P names = (m : List ℕ) → IsTrue (is_among names m) → P m

module _ (P : List ℕ → Type 0) where
  gives_both : (a b : List (List ℕ)) → Gives P a → Gives P b → Gives P (a ++ b)
  gives_both a b one other = λ m among.
      ⊎_elim (one m) (other m) (or_cases (is_among a m) (is_among b m) (subst IsTrue (among_append a b m) among))

  own_gives : (first : Option (List ℕ)) (more : List (List ℕ)) → Gives P (cons_option first more)
      → Gives P (option_to_list first)
  own_gives None more gives = λ m among. absurd (false≢true among)
  own_gives (Some name) more gives = λ m among. gives m (⊎_elim
      (λ here. or_left (bytes_eq name m) (is_among more m) here) (λ none. absurd (false≢true none))
      (or_cases (bytes_eq name m) false among))

  more_gives : (first : Option (List ℕ)) (more : List (List ℕ)) → Gives P (cons_option first more) → Gives P more
  more_gives None more gives = gives
  more_gives (Some name) more gives = λ m among. gives m (or_right (bytes_eq name m) _ among)

  both_give : (first : Option (List ℕ)) (more : List (List ℕ)) → Gives P (option_to_list first) → Gives P more
      → Gives P (cons_option first more)
  both_give None more own gives = gives
  both_give (Some name) more own gives = λ m among. ⊎_elim
      (λ here. own m (or_left (bytes_eq name m) false here)) (λ later. gives m later)
      (or_cases (bytes_eq name m) (is_among more m) among)

  -- some of the attributes
  some_give : (doc : List ℕ) (keep : Attribute → Bool) (all : List Attribute)
      → Gives P (filter_map (name_written doc) all) → Gives P (filter_map (name_written doc) (filter keep all))
  some_give doc keep [] gives = gives
  some_give doc keep (one ∷ all) gives = by_test (keep one) refl
      (some_give doc keep all (more_gives (name_written doc one) _ gives))
    where
      by_test : (test : Bool) → keep one ≡ test → Gives P (filter_map (name_written doc) (filter keep all))
          → Gives P (filter_map (name_written doc) (filter keep (one ∷ all)))
      by_test true kept more =
          rw kept (both_give (name_written doc one) _ (own_gives (name_written doc one) _ gives) more)
      by_test false kept more = rw kept more

  pushed_gives : (element : Element) → Gives P (names_of_element element)
      → Gives P (names_of_element (pushed_element element))
  pushed_gives element gives = some_give element.doc _ element.attributes gives

  behind_id : (doc : List ℕ) (id : Option (List ℕ)) (all : List Attribute)
      → Gives P (filter_map (name_written doc) all) → Gives P (filter_map (name_written doc) (id_written id ++ all))
  behind_id doc None all gives = gives
  behind_id doc (Some id) all gives = gives

  instead_gives : (replaced element : Element) → Gives P (names_of_element element)
      → Gives P (names_of_element (with_id_of replaced (pushed_element element)))
  instead_gives replaced element gives =
      behind_id element.doc (attribute (codes "id") replaced)
      (without_names (codes "id" ∷ []) (without_names pushing_names element.attributes))
      (some_give element.doc _ (without_names pushing_names element.attributes)
      (some_give element.doc _ element.attributes gives))

  -- without a conref it has no content reference
  attributes_reuse : (element : Element) (all : List Attribute) → value_of (codes "conref") all ≡ None
      → Gives P (reused_by (record element { attributes = all }))
  attributes_reuse element all none = subst (Gives P)
      (sym (ap (λ value. option_to_list (option_and_then (name_joined element.doc) value)) none))
      (λ m among. absurd (false≢true among))

  pushed_reuses : (element : Element) → Gives P (reused_by element) → Gives P (reused_by (pushed_element element))
  pushed_reuses element gives = attributes_reuse element (without_names pushing_names element.attributes)
      (value_kept pushing_names (codes "conref") element.attributes)

  instead_reuses : (replaced element : Element) → Gives P (reused_by element)
      → Gives P (reused_by (with_id_of replaced (pushed_element element)))
  instead_reuses replaced element gives =
      let id = attribute (codes "id") replaced in
      let all = without_names pushing_names element.attributes in
      let kept = without_names (codes "id" ∷ []) all in
      attributes_reuse element (id_written id ++ kept)
      (value_behind id (codes "conref") kept refl ∙ value_kept (codes "id" ∷ []) (codes "conref") all
      ∙ value_kept pushing_names (codes "conref") element.attributes)

-- Content, by what its elements give, which they still give if they are pushed

module _ (P : List ℕ → Type 0) (names : Element → List (List ℕ))
    (pushes_give : (element : Element) → Gives P (names element) → Gives P (names (pushed_element element)))
    (instead_give : (replaced element : Element) → Gives P (names element)
    → Gives P (names (with_id_of replaced (pushed_element element)))) where
  abbrev GivesAll : Written → Type 0
  GivesAll nodes = Gives P (given_in names nodes)

  abbrev GivesFound : Option Written → Type 0
  GivesFound found = Gives P (given_in_found names found)

  abbrev Each : Element → Type 0
  Each element = Gives P (names element)

  gives_each : (nodes : Written) → EachOf Each nodes → GivesAll nodes
  gives_each End is = λ m among. absurd (false≢true among)
  gives_each (Chars text doc rest) is = gives_each rest is
  gives_each (Node element inside rest) is = gives_both P (names element) (given_in names inside ++ given_in names rest)
      is.0 (gives_both P (given_in names inside) (given_in names rest) (gives_each inside is.1.0) (gives_each rest is.1.1))

  each_gives : (nodes : Written) → GivesAll nodes → EachOf Each nodes
  each_gives End gives = tt
  each_gives (Chars text doc rest) gives = each_gives rest gives
  each_gives (Node element inside rest) gives =
      let own = names element in
      let below = given_in names inside in
      let later = given_in names rest in (
        λ m among. gives m (among_front own (below ++ later) m among),
        (
          each_gives inside
              (λ m among. gives m (among_back own (below ++ later) m (among_front below later m among))),
          each_gives rest (λ m among. gives m (among_back own (below ++ later) m (among_back below later m among))),
        ),
      )

  tree_gives : (found : Option Written) → GivesFound found → TreeOf Each found
  tree_gives None gives = tt
  tree_gives (Some nodes) gives = each_gives nodes gives

  pushed_given : (world : World) (pushes : List Push) (name : List ℕ) → GivesFound (document world name)
      → ((from : List ℕ) → IsTrue (is_among (froms pushes) from) → GivesFound (document world from))
      → GivesFound (pushed_by world pushes name)
  pushed_given world pushes name own each = by_tree (document world name) own
    where
      by_tree : (found : Option Written) → GivesFound found
          → GivesFound (option_map (pushed_from world pushes 0) found)
      by_tree None none = none
      by_tree (Some nodes) gives = gives_each (pushed_from world pushes 0 nodes)
          (each_pushed Each pushes_give instead_give world pushes
          (each_from (λ from. TreeOf Each (document world from)) pushes
          (λ from among. tree_gives (document world from) (each from among)))
          0 nodes (each_gives nodes gives))

module _ (P : List ℕ → Type 0) where
  pub pushed_names : (world : World) (pushes : List Push) (name : List ℕ)
      → Gives P (names_of_found (document world name))
      → ((from : List ℕ) → IsTrue (is_among (froms pushes) from) → Gives P (names_of_found (document world from)))
      → Gives P (names_of_found (pushed_by world pushes name))
  pushed_names = pushed_given P names_of_element (pushed_gives P) (instead_gives P)

  pub pushed_reused : (world : World) (pushes : List Push) (name : List ℕ)
      → Gives P (reused_of_found (document world name))
      → ((from : List ℕ) → IsTrue (is_among (froms pushes) from) → Gives P (reused_of_found (document world from)))
      → Gives P (reused_of_found (pushed_by world pushes name))
  pushed_reused = pushed_given P reused_by (pushed_reuses P) (instead_reuses P)

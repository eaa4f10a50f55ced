-- The search by the ways that may hold something: nothing is found by the others.
use Rattle.std.specs.Prelude.{◌≡◌, ◌&&◌, ℕ, Bool, true, false, List, [], ◌∷◌, Option, Some, None, filter, find, is_some, length, map, option_map}
use Rattle.std.specs.Option.{option_or}
use Rattle.std.proofs.Common.{refl, sym, ap, subst, ◌∙◌}
use Rattle.std.proofs.lemmas.Bool.{true≢false}
use Rattle.std.proofs.lemmas.List.Elements.{All-weaker}
use Rattle.dita_doc.specs.declared.plan.Scope.{Scope}
use Rattle.dita_doc.proofs.Tests.{and_false, second_holds}
use Rattle.key_scopes.specs.declared.children.ChildName.{ChildName}
use Rattle.key_scopes.specs.Children.{all_names}
use Rattle.key_scopes.specs.Rising.{by_names}
use Rattle.key_scopes.specs.Ways.{AreInTurn, Way, answers, has_dot, is_behind, is_later, leads, may_hold, next_way, way_in}
use Rattle.key_scopes.proofs.FirstLaws.{find_is}
use Rattle.key_scopes.proofs.PastLaws.{qualified_without}
use Rattle.key_scopes.proofs.TurnLaws.{all_in_turn, later_trans, not_itself, not_later}
use Rattle.key_scopes.proofs.WayLaws.{behind_way, by_way, filter_same, first_cons}

filter_nothing : (p : ChildName → Bool) (names : List ChildName) → find p names ≡ None → filter p names ≡ []
filter_nothing p [] none = refl
filter_nothing p (name ∷ names) none = by_one (λ there. filter_nothing p names there) (p name) refl
  where
    by_one : (find p names ≡ None → filter p names ≡ []) → (a : Bool) → p name ≡ a → filter p (name ∷ names) ≡ []
    by_one behind true e = let there = rw e at none in absurd (cc)
    by_one behind false e = rw e (behind (rw e at none))

behind_both : (last : Option Way) (a b : ChildName) → is_behind last a ≡ true → is_later a.child a.rank b ≡ true
    → is_behind last b ≡ true
behind_both None a b first second = refl
behind_both (Some way) a b first second = later_trans way.child way.rank a b first second

-- of some names in turn the first one, and those behind it
split_first : (p : ChildName → Bool) (last : Option Way) (names : List ChildName) (first : ChildName)
    → AreInTurn names → find (λ name. p name && is_behind last name) names ≡ Some first
    → filter (λ name. p name && is_behind last name) names
    ≡ first ∷ filter (λ name. p name && is_later first.child first.rank name) names
split_first p last [] first turn is = absurd (cc)
split_first p last (name ∷ names) first turn is =
    by_one (λ there. split_first p last names first turn.1 there) (p name && is_behind last name) refl
  where
    by_one : (find (λ name. p name && is_behind last name) names ≡ Some first
        → filter (λ name. p name && is_behind last name) names
        ≡ first ∷ filter (λ name. p name && is_later first.child first.rank name) names)
        → (a : Bool) → (p name && is_behind last name) ≡ a
        → filter (λ name. p name && is_behind last name) (name ∷ names)
        ≡ first ∷ filter (λ name. p name && is_later first.child first.rank name) (name ∷ names)
    by_one behind true e =
        let there = rw e at is in
        let same : name ≡ first = cc in
        let before = second_holds (p name) (is_behind last name) e in
        let left : filter (λ name. p name && is_behind last name) (name ∷ names)
        ≡ name ∷ filter (λ n. p n && is_behind last n) names = rw e refl in
        let none : (p name && is_later name.child name.rank name) ≡ false =
        ap (λ a. p name && a) (not_itself name) ∙ and_false (p name) in
        let right : filter (λ n. p n && is_later name.child name.rank n) (name ∷ names)
        ≡ filter (λ n. p n && is_later name.child name.rank n) names = rw none refl in
        subst (λ one. filter (λ n. p n && is_behind last n) (name ∷ names)
        ≡ one ∷ filter (λ n. p n && is_later one.child one.rank n) (name ∷ names)) same
        (left ∙ ap (λ some. name ∷ some) (filter_same (λ n. p n && is_behind last n)
        (λ n. p n && is_later name.child name.rank n) names
        (All-weaker (λ n. is_later name.child name.rank n ≡ true)
        (λ n. (p n && is_behind last n) ≡ (p n && is_later name.child name.rank n))
        (λ n later. ap (λ a. p n && a) (behind_both last name n before later ∙ sym later)) names turn.0)
        ∙ sym right))
    by_one behind false e =
        let there : find (λ name. p name && is_behind last name) names ≡ Some first = rw e at is in
        let later = (find_is (λ n. is_later name.child name.rank n ≡ true)
        (λ name. p name && is_behind last name) names first there turn.0).0 in
        let none : (p name && is_later first.child first.rank name) ≡ false =
        ap (λ a. p name && a) (not_later name first later) ∙ and_false (p name) in
        rw (e, none) (behind there)

none_is : (found : Option ℕ) → is_some found ≡ false → found ≡ None
none_is None e = refl
none_is (Some node) e = absurd (true≢false e)

module _ (all : List Scope) (own_at : ℕ → List ℕ → Option ℕ) (scope : ℕ) (key : List ℕ) where
  abbrev holds : ChildName → Bool
  holds name = leads scope key name && may_hold own_at name.child (way_in key name).rest

  nothing_held : (name : ChildName) → may_hold own_at name.child (way_in key name).rest ≡ false
      → by_way all own_at (way_in key name) ≡ None
  nothing_held name e = by_dot (has_dot (way_in key name).rest) refl
    where
      by_dot : (a : Bool) → has_dot (way_in key name).rest ≡ a → by_way all own_at (way_in key name) ≡ None
      by_dot true f = let held = rw f at e in absurd (true≢false held)
      by_dot false f =
          let own : own_at name.child (way_in key name).rest ≡ None =
          none_is (own_at name.child (way_in key name).rest) (rw f at e) in
          ap (λ x. option_or x (by_names all own_at (way_in key name).rest name.child)) own
          ∙ qualified_without (length (way_in key name).rest) all own_at name.child (way_in key name).rest f

  answers_held : (last : Option Way) (names : List ChildName)
      → answers (by_way all own_at) key (filter (λ n. leads scope key n && is_behind last n) names)
      ≡ answers (by_way all own_at) key (filter (λ n. holds n && is_behind last n) names)
  answers_held last [] = refl
  answers_held last (name ∷ names) =
      by_three (answers_held last names) (leads scope key name)
      (may_hold own_at name.child (way_in key name).rest) (is_behind last name) refl refl refl
    where
      by_three : answers (by_way all own_at) key (filter (λ n. leads scope key n && is_behind last n) names)
          ≡ answers (by_way all own_at) key (filter (λ n. holds n && is_behind last n) names)
          → (a b c : Bool) → leads scope key name ≡ a → may_hold own_at name.child (way_in key name).rest ≡ b
          → is_behind last name ≡ c
          → answers (by_way all own_at) key (filter (λ n. leads scope key n && is_behind last n) (name ∷ names))
          ≡ answers (by_way all own_at) key (filter (λ n. holds n && is_behind last n) (name ∷ names))
      by_three behind false b c e f g = rw e behind
      by_three behind true true false e f g = rw (e, f, g) behind
      by_three behind true false false e f g = rw (e, f, g) behind
      by_three behind true true true e f g =
          rw (e, f, g) (first_cons (by_way all own_at (way_in key name))
          (map (λ n. by_way all own_at (way_in key n)) (filter (λ n. leads scope key n && is_behind last n) names))
          ∙ ap (option_or (by_way all own_at (way_in key name))) behind
          ∙ sym (first_cons (by_way all own_at (way_in key name))
          (map (λ n. by_way all own_at (way_in key n)) (filter (λ n. holds n && is_behind last n) names))))
      by_three behind true false true e f g =
          rw (e, f, g) (first_cons (by_way all own_at (way_in key name))
          (map (λ n. by_way all own_at (way_in key n)) (filter (λ n. leads scope key n && is_behind last n) names))
          ∙ ap (λ x. option_or x (answers (by_way all own_at) key
          (filter (λ n. leads scope key n && is_behind last n) names))) (nothing_held name f)
          ∙ behind)

  pub no_way_behind : (last : Option Way) → next_way all own_at scope key last ≡ None
      → behind_way all own_at scope key last ≡ None
  no_way_behind last none =
      answers_held last (all_names all)
      ∙ ap (answers (by_way all own_at) key) (filter_nothing (λ n. holds n && is_behind last n) (all_names all)
      (by_found (find (λ n. holds n && is_behind last n) (all_names all)) refl none))
    where
      by_found : (found : Option ChildName) → find (λ n. holds n && is_behind last n) (all_names all) ≡ found
          → option_map (way_in key) (find (λ n. holds n && is_behind last n) (all_names all)) ≡ None
          → find (λ n. holds n && is_behind last n) (all_names all) ≡ None
      by_found None e f = e
      by_found (Some name) e f = let there = rw e at f in absurd (cc)

  pub way_behind : (last : Option Way) (way : Way) → next_way all own_at scope key last ≡ Some way
      → behind_way all own_at scope key last
      ≡ option_or (by_way all own_at way) (behind_way all own_at scope key (Some way))
  way_behind last way is = by_found (find (λ n. holds n && is_behind last n) (all_names all)) refl
    where
      by_found : (found : Option ChildName) → find (λ n. holds n && is_behind last n) (all_names all) ≡ found
          → behind_way all own_at scope key last
          ≡ option_or (by_way all own_at way) (behind_way all own_at scope key (Some way))
      by_found None e = let none : None ≡ Some way = sym (ap (option_map (way_in key)) e) ∙ is in absurd (cc)
      by_found (Some name) e =
          let some : Some (way_in key name) ≡ Some way = sym (ap (option_map (way_in key)) e) ∙ is in
          let same : way_in key name ≡ way = cc in
          subst (λ w. behind_way all own_at scope key last
          ≡ option_or (by_way all own_at w) (behind_way all own_at scope key (Some w))) same
          (answers_held last (all_names all)
          ∙ ap (answers (by_way all own_at) key) (split_first holds last (all_names all) name (all_in_turn all) e)
          ∙ first_cons (by_way all own_at (way_in key name)) (map (λ n. by_way all own_at (way_in key n))
          (filter (λ n. holds n && is_later name.child name.rank n) (all_names all)))
          ∙ ap (option_or (by_way all own_at (way_in key name)))
          (sym (answers_held (Some (way_in key name)) (all_names all))))

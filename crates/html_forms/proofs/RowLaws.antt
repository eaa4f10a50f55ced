-- The last of some tokens that a table has.
use Rattle.std.specs.Prelude.{◌≡◌, List, [], ◌∷◌, Option, Some, None}
use Rattle.std.specs.List.{filter_map}
use Rattle.std.specs.Option.{option_or}
use Rattle.std.proofs.Common.{refl, sym, ap, ◌∙◌}
use Rattle.html_spec.specs.Blocks.{last_of}

-- the last of one more
last_more : {X : Type 0} (x : X) (xs : List X) → last_of (x ∷ xs) ≡ option_or (last_of xs) (Some x)
last_more x [] = refl
last_more x (y ∷ []) = refl
last_more x (y ∷ z ∷ more) = last_more x (z ∷ more)

behind_both : {X : Type 0} (found : Option X) (x : X) (last : Option X)
    → option_or (option_or found (Some x)) last ≡ option_or found (Some x)
behind_both None x last = refl
behind_both (Some y) x last = refl

module _ {T R : Type 0} (row : T → Option R) where
  one_more : (word : T) (more : List T) (found last : Option R) → row word ≡ found
      → option_or (last_of (filter_map row (word ∷ more))) last
      ≡ option_or (last_of (filter_map row more)) (option_or found last)
  one_more word more None last e = rw e refl
  one_more word more (Some x) last e =
      rw (e, last_more x (filter_map row more)) (behind_both (last_of (filter_map row more)) x last)

  -- a token more was read
  pub row_more : (all : Option R) (rest more : List T) (word : T) (found last : Option R)
      → all ≡ option_or (last_of (filter_map row rest)) last → rest ≡ word ∷ more → found ≡ row word
      → all ≡ option_or (last_of (filter_map row more)) (option_or found last)
  row_more all rest more word found last so_far words is =
      so_far
      ∙ ap (λ tokens. option_or (last_of (filter_map row tokens)) last) words
      ∙ one_more word more found last (sym is)

  -- no token is left
  pub row_last : (all : Option R) (rest : List T) (last : Option R)
      → all ≡ option_or (last_of (filter_map row rest)) last → rest ≡ [] → last ≡ all
  row_last all rest last so_far none =
      sym (so_far ∙ ap (λ tokens. option_or (last_of (filter_map row tokens)) last) none)

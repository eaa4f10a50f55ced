-- Names among others.
use Rattle.std.specs.Prelude.{◌≡◌, ◌||◌, ◌&&◌, ℕ, Bool, true, false, List, [], ◌∷◌, ◌++◌, Some, None, bytes_eq}
use Rattle.std.specs.Option.{option_map_or}
use Rattle.std.proofs.Common.{refl, sym, ap, ◌∙◌}
use Rattle.dita_doc.proofs.Tests.{same_text}
use Rattle.map_spec.specs.Written.{Written, document}
use Rattle.reader_spec.specs.World.{World}
use Rattle.readers.specs.Founded.{is_among}
use Rattle.conref_push.specs.Acting.{has_conaction_in, any_acts}
use Rattle.conref_push.specs.Gathered.{acting_with}
use Rattle.conref_push.specs.Table.{acts_among}

or_assoc : (a b c : Bool) → (a || (b || c)) ≡ ((a || b) || c)
or_assoc true b c = refl
or_assoc false b c = refl

pub among_append : (some more : List (List ℕ)) (m : List ℕ)
    → is_among (some ++ more) m ≡ (is_among some m || is_among more m)
among_append [] more m = refl
among_append (first ∷ some) more m = ap (λ b. bytes_eq first m || b) (among_append some more m)
    ∙ or_assoc (bytes_eq first m) (is_among some m) (is_among more m)

pub among_push : (names : List (List ℕ)) (name m : List ℕ)
    → is_among (names ++ name ∷ []) m ≡ (is_among names m || bytes_eq name m)
among_push [] name m = or_false (bytes_eq name m)
  where
    or_false : (b : Bool) → (b || false) ≡ b
    or_false true = refl
    or_false false = refl
among_push (first ∷ names) name m = ap (λ b. bytes_eq first m || b) (among_push names name m)
    ∙ or_assoc (bytes_eq first m) (is_among names m) (bytes_eq name m)

parts_of : (names same acts own : Bool) → (same ≡ true → acts ≡ own)
    → ((names || same) && acts) ≡ ((names && acts) || (same && own))
parts_of true true true own is = refl
parts_of true true false own is = is refl
parts_of true false true own is = refl
parts_of true false false own is = refl
parts_of false true acts own is = is refl
parts_of false false acts own is = refl

-- a document more, in which elements may act
pub acts_more : (world : World) (documents : List (List ℕ)) (name : List ℕ) (nodes : Written) (m : List ℕ)
    → document world name ≡ Some nodes
    → acting_with (acts_among world documents) name nodes m ≡ acts_among world (documents ++ name ∷ []) m
acts_more world documents name nodes m is = sym (
    ap (λ b. b && has_conaction_in world m) (among_push documents name m)
    ∙ parts_of (is_among documents m) (bytes_eq name m) (has_conaction_in world m) (any_acts nodes)
    (λ same. ap (has_conaction_in world) (sym (same_text name m same)) ∙ ap (λ found. option_map_or any_acts found false) is))

pub acts_same : (world : World) (documents : List (List ℕ)) (name m : List ℕ) → document world name ≡ None
    → acts_among world documents m ≡ acts_among world (documents ++ name ∷ []) m
acts_same world documents name m none = sym (
    ap (λ b. b && has_conaction_in world m) (among_push documents name m)
    ∙ parts_of (is_among documents m) (bytes_eq name m) (has_conaction_in world m) false
    (λ same. ap (has_conaction_in world) (sym (same_text name m same)) ∙ ap (λ found. option_map_or any_acts found false) none)
    ∙ no_more (is_among documents m && has_conaction_in world m) (bytes_eq name m))
  where
    no_more : (a b : Bool) → (a || (b && false)) ≡ a
    no_more true b = refl
    no_more false true = refl
    no_more false false = refl

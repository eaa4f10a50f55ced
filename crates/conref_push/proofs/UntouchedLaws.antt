-- A document into which nothing is pushed, and of which no element acts, is its own pushed document.
use Rattle.std.specs.Prelude.{◌≡◌, ◌+◌, ◌==◌, ℕ, false, not, List, [], ◌∷◌, ◌++◌, Option, Some, None, length, option_map}
use Rattle.std.specs.List.{list_any}
use Rattle.std.specs.Option.{option_map_or}
use Rattle.std.proofs.Common.{refl, sym, ap, ◌∙◌, arith}
use Rattle.std.proofs.lemmas.Bool.{false≢true}
use Rattle.std.proofs.lemmas.Bool.Decides.{nat_tests}
use Rattle.dita_doc.specs.declared.content.Push.{Push}
use Rattle.map_spec.specs.Written.{Written, End, Chars, Node, document, elements_below, size}
use Rattle.map_spec.specs.Pushes.{has_conaction, pushed, pushed_from, pushes_into}
use Rattle.reader_spec.specs.World.{World}
use Rattle.conref_push.specs.Acting.{has_conaction_in, acts_there, any_acts}
use Rattle.conref_push.specs.Into.{pushed_by}
use Rattle.conref_push.specs.Table.{acts_among, is_touched}
use Rattle.conref_push.proofs.SightLaws.{any_both, or_none}

nothing_pushed : (world : World) (place : ℕ) (nodes : Written) → any_acts nodes ≡ false
    → pushed_from world [] place nodes ≡ nodes
nothing_pushed world place End none = refl
nothing_pushed world place (Chars text doc rest) none =
    ap (Chars text doc) (nothing_pushed world (place + 1) rest none)
nothing_pushed world place (Node element inside rest) none =
    let parts = or_none (has_conaction element)
    (list_any acts_there (elements_below inside ++ elements_below rest)) none in
    let both = any_both (elements_below inside) (elements_below rest) parts.1 in
    rw (
      parts.0,
      nothing_pushed world (place + 1) inside both.0,
      nothing_pushed world (place + 1 + size inside) rest both.1,
    ) refl

no_pushes : (pushes : List Push) → not (length pushes == 0) ≡ false → pushes ≡ []
no_pushes [] none = refl
no_pushes (push ∷ pushes) none =
    let full : (length (push ∷ pushes) == 0) ≡ false = grind (arith, nat_tests) in
    absurd (false≢true (sym none ∙ ap not full))

-- the pushes that are given are those of the definition
pub pushed_as : (world : World) (documents : List (List ℕ)) (name : List ℕ) (pushes : List Push)
    → (pushes_into world documents name).pushes ≡ pushes → pushed_by world pushes name ≡ pushed world documents name
pushed_as world documents name pushes same = ap (λ given. pushed_by world given name) (sym same)

pub untouched : (world : World) (documents : List (List ℕ)) (name : List ℕ) → is_touched world documents name ≡ false
    → has_conaction_in world name ≡ false → pushed world documents name ≡ document world name
untouched world documents name touched quiet =
    let none = no_pushes (pushes_into world documents name).pushes
    (or_none (acts_among world documents name) (not (length (pushes_into world documents name).pushes == 0))
    touched).1 in
    ap (λ given. pushed_by world given name) none ∙ by_document (document world name) quiet
  where
    by_document : (found : Option Written) → option_map_or any_acts found false ≡ false
        → option_map (pushed_from world [] 0) found ≡ found
    by_document None none = refl
    by_document (Some nodes) none = ap Some (nothing_pushed world 0 nodes none)

-- An element without an attribute that can exclude it stays.
use Rattle.std.specs.Prelude.{◌≡◌, ◌&&◌, ℕ, Bool, true, false, not, List, [], ◌∷◌}
use Rattle.std.specs.List.{list_all, list_any}
use Rattle.std.proofs.Common.{refl}
use Rattle.std.proofs.lemmas.Bool.{or_from, or_parts}
use Rattle.dita_doc.specs.ClassValue.{words_of}
use Rattle.dita_doc.specs.declared.content.Rule.{Rule}
use Rattle.dita_doc.specs.declared.doc.Attribute.{Attribute}
use Rattle.ditaval_rules.specs.Verdict.{decides_exclude, deciding, excluded, excludes, is_conditional_among, is_grouped, is_some_token}
use Rattle.conref_targets.specs.Judging.{is_judged}
use Rattle.conref_targets.specs.Rules.{some_exclude}

left_fails : (first second third : Bool) → first ≡ false → (first && second && third) ≡ false
left_fails true second third e = cc
left_fails false second third e = refl

none_excludes : (rules : List Rule) (declared : List (List ℕ)) (attributes : List Attribute)
    → list_any (is_judged declared) attributes ≡ false → excluded rules declared attributes ≡ false
none_excludes rules declared [] e = refl
none_excludes rules declared (written ∷ attributes) e =
    let parts = or_parts (is_judged declared written) (list_any (is_judged declared) attributes) e in
    let one = left_fails (is_conditional_among declared written.name && not (is_grouped written.value))
    (is_some_token (words_of written.value))
    (list_all (λ token. decides_exclude (deciding rules written.name token)) (words_of written.value)) parts.0 in
    or_from (excludes rules declared written) (list_any (excludes rules declared) attributes) one
    (none_excludes rules declared attributes parts.1)

pub none_exclude : (all : List (List Rule)) (declared : List (List ℕ)) (attributes : List Attribute)
    → list_any (is_judged declared) attributes ≡ false → some_exclude all declared attributes ≡ false
none_exclude [] declared attributes e = refl
none_exclude (rules ∷ all) declared attributes e =
    or_from (excluded rules declared attributes) (some_exclude all declared attributes)
    (none_excludes rules declared attributes e) (none_exclude all declared attributes e)

-- Class values whose tokens and faults are known by hand.
use Rattle.std.specs.Prelude.{◌≡◌, true, false, [], ◌∷◌, Ok, Err, refl, codes}
use Rattle.dita_doc.specs.declared.class.ClassFault.TheVariants as faults
use Rattle.dita_doc.specs.declared.class.Sign.TheVariants as signs
use Rattle.dita_doc.specs.ClassValue.{class_of, has_type}

two_tokens : class_of (codes "- topic/li task/step ")
    ≡ Ok (record { sign = signs.Structural; tokens = codes "topic/li" ∷ codes "task/step" ∷ [] })
two_tokens = refl

no_blank_behind_the_sign : class_of (codes " +topic/ph")
    ≡ Ok (record { sign = signs.Domain; tokens = codes "topic/ph" ∷ [] })
no_blank_behind_the_sign = refl

no_sign : class_of (codes "topic/p") ≡ Err faults.NoSign
no_sign = refl

nothing : class_of [] ≡ Err faults.NoSign
nothing = refl

no_token : class_of (codes "- ") ≡ Err faults.NoToken
no_token = refl

no_slash : class_of (codes "- topic") ≡ Err faults.BadToken
no_slash = refl

two_slashes : class_of (codes "- topic/p a/b/c") ≡ Err faults.BadToken
two_slashes = refl

a_step : has_type (record { name = codes "class"; value = codes "- topic/li task/step " } ∷ []) (codes "topic/li")
    ≡ true
a_step = refl

part_of_a_token : has_type (record { name = codes "class"; value = codes "- topic/li task/step " } ∷ [])
    (codes "topic/l") ≡ false
part_of_a_token = refl

-- a token that is none makes the whole value one that can't be read
bad_behind : has_type (record { name = codes "class"; value = codes "- topic/li step" } ∷ []) (codes "topic/li") ≡ false
bad_behind = refl

no_class : has_type (record { name = codes "id"; value = codes "- topic/li " } ∷ []) (codes "topic/li") ≡ false
no_class = refl

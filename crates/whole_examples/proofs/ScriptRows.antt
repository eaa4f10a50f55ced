-- The definition of scripts, run on small ones whose requests and faults are known by hand.
use Rattle.std.specs.Prelude.{◌≡◌, ℕ, List, [], ◌∷◌, ◌++◌, Some, Ok, Err, refl, codes}
use Rattle.std.specs.Str.{is_utf8, chars}
use lib.Utf8.{encode}
use Rattle.script_text.specs.declared.fault.ScriptCode.TheVariants as fault
use Rattle.dita_doc.specs.Request.{Put, Remove, Single, Build, Group}
use Rattle.script_text.specs.Script.{script_of}
use Rattle.script_laws.specs.Blocks.{Steps, IsScriptOf}
use Rattle.script_laws.proofs.WholeLaws.{script_said, script_read}

abbrev lf : List ℕ
lf = 10 ∷ []

session_zero : script_of (codes "0 names") ≡ Err (record { code = fault.BadNumber; line = 1 })
unfolding script_of is_utf8 chars encode
session_zero = refl

session_17 : script_of (lf ++ codes "17 names" ++ lf) ≡ Err (record { code = fault.TooManySessions; line = 2 })
unfolding script_of is_utf8 chars encode
session_17 = refl

no_end : script_of (codes "1 put a" ++ lf ++ codes "..") ≡ Err (record { code = fault.NoEnd; line = 2 })
unfolding script_of is_utf8 chars encode
no_end = refl

no_name : script_of (codes "1 get ../a") ≡ Err (record { code = fault.BadName; line = 1 })
unfolding script_of is_utf8 chars encode
no_name = refl

no_command : script_of (codes "1 fly") ≡ Err (record { code = fault.BadCommand; line = 1 })
unfolding script_of is_utf8 chars encode
no_command = refl

-- the count of words before the version
other_words : script_of (codes "1 putif x") ≡ Err (record { code = fault.BadCommand; line = 1 })
unfolding script_of is_utf8 chars encode
other_words = refl

-- a byte that no text begins with
no_text : script_of (codes "0 fly" ++ 255 ∷ []) ≡ Err (record { code = fault.NotUtf8; line = 1 })
unfolding script_of is_utf8 chars encode
no_text = refl

good : script_of (codes "# x" ++ lf ++ codes "1 put a" ++ lf ++ codes "-x" ++ lf ++ codes "." ++ lf
    ++ codes " 02  build a b") ≡ Ok (record { session = 1; request = Single (Put (codes "a") (codes "-x" ++ lf)) } ∷ record
    { session = 2; request = Build (codes "a") (Some (codes "b")) } ∷ [])
unfolding script_of is_utf8 chars encode
good = refl

-- a group with two edits, a comment between them, whose `end` is the last line
group_read : script_of (codes "1 group" ++ lf ++ codes "remove a" ++ lf ++ codes "# x" ++ lf ++ codes "put b" ++ lf
    ++ codes "-x" ++ lf ++ codes "." ++ lf ++ codes "end") ≡ Ok (record
    { session = 1; request = Group (Remove (codes "a") ∷ Put (codes "b") (codes "-x" ++ lf) ∷ []) } ∷ [])
unfolding script_of is_utf8 chars encode
group_read = refl

-- no question stands in a group
question_in_a_group : script_of (codes "1 group" ++ lf ++ codes "get a" ++ lf ++ codes "end")
    ≡ Err (record { code = fault.BadCommand; line = 2 })
unfolding script_of is_utf8 chars encode
question_in_a_group = refl

-- a group ends with a line that is `end` alone, without a space
group_without_end : script_of (codes "1 group" ++ lf ++ codes "remove a" ++ lf)
    ≡ Err (record { code = fault.NoEnd; line = 2 })
unfolding script_of is_utf8 chars encode
group_without_end = refl

space_before_end : script_of (codes "1 group" ++ lf ++ codes " end")
    ≡ Err (record { code = fault.BadCommand; line = 2 })
unfolding script_of is_utf8 chars encode
space_before_end = refl

-- The same texts as lists of blocks

-- the body of its put has no end, so no list of blocks has this text
no_blocks : (steps : Steps) → IsScriptOf steps (codes "1 put a" ++ lf ++ codes "..") → ⊥
no_blocks steps script =
    let read = script_read (codes "1 put a" ++ lf ++ codes "..") steps script in let faulty = no_end in absurd cc

-- a comment, a put, and a build without its last LF
some_blocks : IsScriptOf (record { session = 1; request = Single (Put (codes "a") (codes "-x" ++ lf)) }
    ∷ record { session = 2; request = Build (codes "a") (Some (codes "b")) } ∷ [])
    (codes "# x" ++ lf ++ codes "1 put a" ++ lf ++ codes "-x" ++ lf ++ codes "." ++ lf ++ codes " 02  build a b")
some_blocks = script_said _ _ good

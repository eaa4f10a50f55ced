-- The definitions, run on small texts whose trees and faults are known by hand.
use Rattle.std.specs.Prelude.{◌≡◌, ℕ, true, false, List, [], ◌∷◌, ◌++◌, Ok, Err, refl, codes}
use Rattle.std.specs.Str.{is_utf8, chars}
use lib.Utf8.{encode}
use Rattle.dita_doc.specs.Name.{is_name}
use Rattle.dita_doc.specs.Tree.{End, Chars, Element}
use Rattle.dita_doc.specs.Lines.{lines_of}
use Rattle.dita_doc.specs.PyxEscapes.{unescaped}
use Rattle.dita_doc.specs.Pyx.{document_of}
use Rattle.dita_doc.specs.declared.fault.PyxCode.TheVariants as fault

abbrev lf : List ℕ
lf = 10 ∷ []

name_of_a_topic : is_name (codes "m/t.dita") ≡ true
name_of_a_topic = refl

no_name_above : is_name (codes "../a") ≡ false
no_name_above = refl

no_name_of_a_folder : is_name (codes "a/") ≡ false
no_name_of_a_folder = refl

no_name_dash : is_name (codes "-") ≡ false
no_name_dash = refl

no_empty_name : is_name [] ≡ false
no_empty_name = refl

two_lines : lines_of (codes "a" ++ lf ++ lf ++ codes "b") ≡ codes "a" ∷ [] ∷ codes "b" ∷ []
two_lines = refl

escapes : unescaped (97 ∷ 92 ∷ 92 ∷ 110 ∷ 98 ∷ 92 ∷ 110 ∷ 99 ∷ 92 ∷ 113 ∷ [])
    ≡ 97 ∷ 92 ∷ 110 ∷ 98 ∷ 10 ∷ 99 ∷ 92 ∷ 113 ∷ []
escapes = refl

a_paragraph : document_of (codes "(p" ++ lf ++ codes "Aid x" ++ lf ++ codes "-a" ++ lf ++ codes "(b" ++ lf
    ++ codes ")b" ++ lf ++ codes ")p" ++ lf)
    ≡ Ok (Element (codes "p") (record { name = codes "id"; value = codes "x" } ∷ []) 0 1
    (Chars (codes "a") 0 0 (Element (codes "b") [] 0 4 End End)) End)
unfolding document_of is_utf8 chars encode
a_paragraph = refl

other_close : document_of (codes "(p" ++ lf ++ codes ")q" ++ lf) ≡ Err (record { code = fault.CloseMismatch; line = 2 })
unfolding document_of is_utf8 chars encode
other_close = refl

never_closed : document_of (codes "(p" ++ lf ++ lf) ≡ Err (record { code = fault.Unclosed; line = 2 })
unfolding document_of is_utf8 chars encode
never_closed = refl

nothing : document_of [] ≡ Err (record { code = fault.NoRoot; line = 0 })
unfolding document_of
nothing = refl

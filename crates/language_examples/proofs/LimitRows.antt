-- Pages at the limits of content references, whose bodies and faults are known by hand.
use Rattle.std.specs.Fmt.{decimal, digits}
use Rattle.std.specs.Prelude.{◌≡◌, ◌+◌, ℕ, zero, suc, List, [], ◌∷◌, ◌++◌, Ok, refl, codes}
use Rattle.dita_doc.specs.Tree.{Content}
use Rattle.dita_doc.specs.declared.doc.Attribute.{Attribute}
use Rattle.map_spec.specs.Included.{map_included}
use Rattle.map_spec.specs.PlanOf.{plan_of}
use Rattle.html_spec.specs.Blocks.{body_html}
use Rattle.conref_spec.specs.Content.{followed_from, resolved_from}
use Rattle.map_spec.specs.Pushes.{all_pushes}
use Rattle.part_spec.specs.Parts.{page_part, rooms}
use Rattle.reader_spec.specs.World.{World}
use Rattle.language_examples.proofs.Short.{of_topic, report, text, texts}
use Rattle.language_examples.proofs.ShortPages.{alone, bare, conref, id, in_t, is_shown, p, page, page_in, see, shown, with_text}

-- Long chains

abbrev name_of : ℕ → List ℕ
name_of number = codes "e" ++ decimal number

abbrev id_of : ℕ → Attribute
id_of number = record { name = codes "id"; value = name_of number }

abbrev to : ℕ → Attribute
to number = record { name = codes "conref"; value = codes "#t/" ++ name_of number }

-- paragraphs from a number on, each of which refers to the next
unfoldable chain_of : ℕ → ℕ → List Content
chain_of zero number = of_topic "p" (id_of number ∷ []) (text "x" ∷ []) ∷ []
chain_of (suc more) number = of_topic "p" (id_of number ∷ to (number + 1) ∷ []) [] ∷ chain_of more (number + 1)

unfoldable all_x : ℕ → ℕ → List ℕ
all_x zero number = []
all_x (suc more) number =
    codes "<p id=\"t__" ++ name_of number ++ codes "\">x</p>" ++ all_x more (number + 1)

-- 32 targets may be within one another, and no more
path_limit : shown (page 0 (alone (chain_of 33 0))) ≡ Ok (
  codes "<article id=\"t\"><h1>H</h1><div class=\"body\">"
      ++ codes "<p id=\"t__e0\"></p>" ++ all_x 33 1 ++ codes "</div></article>",
  texts ("t.dita:170 ConrefDepth #t/e33" ∷ []),
)
unfolding plan_of map_included page_part all_pushes resolved_from followed_from body_html digits chain_of all_x
path_limit = refl

path_just_fits : shown (page 0 (alone (chain_of 32 0))) ≡ Ok (
  codes "<article id=\"t\"><h1>H</h1><div class=\"body\">"
      ++ all_x 33 0 ++ codes "</div></article>",
  [],
)
unfolding plan_of map_included page_part all_pushes resolved_from followed_from body_html digits chain_of all_x
path_just_fits = refl

-- Many nodes

abbrev doubled : List Content
doubled = of_topic "div" (id "a" ∷ []) (of_topic "div" (conref "#t/b" ∷ []) [] ∷ of_topic "div" (conref "#t/b" ∷ []) []
    ∷ [])
    ∷ of_topic "div" (id "b" ∷ []) (p "x" ∷ []) ∷ []

-- each element and each text that stays counts
count_just_fits : shown (page_in (record rooms { nodes = 14 }) 0 (alone doubled)) ≡ in_t
    ("<div id=\"t__a\"><div><p>x</p></div><div><p>x</p></div></div><div id=\"t__b\"><p>x</p></div>" ∷ []) []
unfolding plan_of map_included page_part all_pushes resolved_from followed_from body_html digits
count_just_fits = refl

-- a page of more nodes has an empty body, and this one fault of its content
count_limit : shown (page_in (record rooms { nodes = 13 }) 0 (alone (doubled ++ of_topic "p" (conref "no.dita" ∷ []) []
    ∷ [])))
    ≡ is_shown [] ("t.dita:1 TooManyResolved" ∷ [])
unfolding plan_of map_included page_part all_pushes resolved_from followed_from body_html digits
count_limit = refl

-- Deep elements

unfoldable nested : ℕ → Content → Content
nested zero inside = inside
nested (suc more) inside = of_topic "div" [] (nested more inside ∷ [])

abbrev deep : ℕ → World
deep depth = alone (nested depth (of_topic "p" (conref "#t/x" ∷ []) []) ∷ of_topic "p" (id "x" ∷ []) (of_topic "ph"
    (conref "#t/y" ∷ []) (text "own" ∷ []) ∷ []) ∷ bare "p" (with_text "ph" (id "y" ∷ []) "y" ∷ []) ∷ [])

-- an element below the depth of 256 takes nothing
depth_limit : see (λ html. report html.faults) (page 0 (deep 253)) ≡ Ok (texts ("t.dita:776 ConrefDepth #t/y" ∷ []))
unfolding plan_of map_included page_part all_pushes resolved_from followed_from body_html digits nested
depth_limit = refl

depth_just_fits : see (λ html. report html.faults) (page 0 (deep 252)) ≡ Ok []
unfolding plan_of map_included page_part all_pushes resolved_from followed_from body_html digits nested
depth_just_fits = refl

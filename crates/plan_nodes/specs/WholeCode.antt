-- Elements with what they hold are data (own): content is read back from its marks, so that a model may have it.
use Rattle.std.specs.Prelude.{◌≡◌, ℕ, List, [], ◌∷◌, Option}
use Rattle.std.specs.Coded.{Coded, code_by, codes, coded_list, coded_option, coded×}
use Rattle.std.proofs.Common.{refl, ap, ◌∙◌}
use Rattle.map_spec.specs.Written.{Element, Whole, Written, End, Chars, Node}

data Mark : Type 0 where
  Stop : Mark
  Text : (text doc : List ℕ) → Mark
  Open : (element : Element) → Mark

-- the marks of content, in front of others
abbrev marks : Written → List Mark → List Mark
marks End more = Stop ∷ more
marks (Chars text doc rest) more = Text text doc ∷ marks rest more
marks (Node element inside rest) more = Open element ∷ marks inside (marks rest more)

abbrev with_text : List ℕ → List ℕ → List Written → List Written
with_text text doc [] = []
with_text text doc (rest ∷ more) = Chars text doc rest ∷ more

abbrev with_element : Element → List Written → List Written
with_element element [] = []
with_element element (inside ∷ []) = []
with_element element (inside ∷ rest ∷ more) = Node element inside rest ∷ more

-- the contents whose marks stand one behind the other
abbrev contents : List Mark → List Written
contents [] = []
contents (Stop ∷ more) = End ∷ contents more
contents (Text text doc ∷ more) = with_text text doc (contents more)
contents (Open element ∷ more) = with_element element (contents more)

contents-marks : (nodes : Written) (more : List Mark) → contents (marks nodes more) ≡ nodes ∷ contents more
contents-marks End more = refl
contents-marks (Chars text doc rest) more = ap (with_text text doc) (contents-marks rest more)
contents-marks (Node element inside rest) more =
    ap (with_element element) (contents-marks inside (marks rest more))
    ∙ ap (λ all. with_element element (inside ∷ all)) (contents-marks rest more)

abbrev first : List Written → Written
first [] = End
first (nodes ∷ more) = nodes

element_code : Coded Element
element_code = hlevel codes

mark_code : Coded Mark
mark_code = hlevel (codes, element_code)

written_code : Coded Written
written_code = code_by (List Mark) (coded_list mark_code) (λ nodes. marks nodes []) (λ all. first (contents all))
    (λ nodes. ap first (contents-marks nodes []))

pub homes_code : Coded (List (Option Whole))
homes_code = coded_list (coded_option (coded× element_code written_code))

-- The classes of elements, with their marks.
use Rattle.std.specs.Prelude.{ℕ, List, ◌++◌, codes}
use Rattle.std.specs.List.{flat_map}
use Rattle.std.specs.List.Sorted.{IsNonDecreasingBy}
use Rattle.dita_doc.specs.HtmlEscapes.{escaped_value}
use Rattle.dita_doc.specs.declared.content.Mark.{Mark}
use Rattle.html_blocks.specs.declared.mark.ElementMarks.{ElementMarks}
use Rattle.html_spec.specs.Blocks.{attribute_text, if_some_text, marks_at}

-- the places never fall from one mark to the next
abbrev pub AreRising : List Mark → Type 0
AreRising marks = IsNonDecreasingBy (λ (mark : Mark). mark.place) marks

-- the texts of an element's marks
abbrev pub texts_of : ElementMarks → List (List ℕ)
texts_of marks = marks_at marks.among.now marks.place

-- the attribute of a class; an empty class is none
abbrev pub class_text : List ℕ → List ℕ
class_text class = attribute_text (codes "class") (if_some_text class)

-- marks as they are written, each behind a space
abbrev pub behind : List (List ℕ) → List ℕ
behind marks = flat_map (λ mark. codes " " ++ escaped_value mark) marks

-- the attribute of a class of a text and of marks behind it
abbrev pub texts_text : List ℕ → List (List ℕ) → List ℕ
texts_text first marks = codes " class=\"" ++ (escaped_value first ++ (behind marks ++ codes "\""))

-- The text of an item, piece by piece.
use Rattle.std.specs.Prelude.{◌≡◌, ◌++◌, ℕ, Bool, true, false, List, [], codes, if◌then◌else◌}
use Rattle.std.specs.List.{flat_map}
use Rattle.std.proofs.Common.{append_assoc, ap, ◌∙◌}
use Rattle.dita_doc.specs.HtmlEscapes.{escaped}
use Rattle.dita_doc.specs.declared.content.TermEntry.{TermEntry}
use Rattle.html_spec.specs.Terms.{IndexPages, item, index_link, pages_ended}
use Rattle.index_page.specs.Rows.{all_end, entries_of}
use Rattle.index_page.specs.declared.rows.TermRow.{TermRow}
use Rattle.index_page.proofs.GroupLaws.{ends_all}

ended : (a b c d e : List ℕ) → (((a ++ b) ++ c) ++ d) ++ e ≡ a ++ ((((b ++ c) ++ d) ++ []) ++ e)
ended a b c d e = simp append_assoc

going_on : (a b c d e f g h : List ℕ)
    → (((((a ++ b) ++ c) ++ d) ++ e) ++ f) ++ (g ++ h) ≡ a ++ ((((b ++ c) ++ d) ++ ((e ++ f) ++ g)) ++ h)
going_on a b c d e f g h = simp append_assoc

module _ (pages : IndexPages) (items : List TermEntry → List ℕ) (text out : List ℕ) (rows : List TermRow) where
  abbrev links : List ℕ
  links = flat_map (index_link pages) (pages_ended (entries_of rows))

  abbrev with_list : List ℕ → List ℕ
  with_list list = out ++ (codes "<li>" ++ escaped text ++ links ++ list ++ codes "</li>")

  list_by : (b : Bool) → b ≡ all_end rows
      → with_list (if b then [] else codes "<ul>" ++ items (entries_of rows) ++ codes "</ul>")
      ≡ out ++ item pages items text (entries_of rows)
  list_by b is =
      ap (λ b. with_list (if b then [] else codes "<ul>" ++ items (entries_of rows) ++ codes "</ul>")) (is ∙ ends_all rows)

  -- with what a text has in front of the list
  with_front : (a b c more : List ℕ) → a ≡ out ++ codes "<li>" → b ≡ a ++ escaped text → c ≡ b ++ links
      → c ++ more ≡ out ++ codes "<li>" ++ escaped text ++ links ++ more
  with_front a b c more first second third =
      ap (λ l. l ++ more) (third ∙ ap (λ l. l ++ links) (second ∙ ap (λ l. l ++ escaped text) first))

  -- all end here
  pub item_ended : (a b c d : List ℕ) → a ≡ out ++ codes "<li>" → b ≡ a ++ escaped text → c ≡ b ++ links
      → true ≡ all_end rows → d ≡ c ++ codes "</li>" → d ≡ out ++ item pages items text (entries_of rows)
  item_ended a b c d first second third is fourth =
      fourth ∙ with_front a b c (codes "</li>") first second third
      ∙ ended out (codes "<li>") (escaped text) links (codes "</li>") ∙ list_by true is

  -- some go on
  pub item_open : (a b c d e f : List ℕ) → a ≡ out ++ codes "<li>" → b ≡ a ++ escaped text → c ≡ b ++ links
      → false ≡ all_end rows → d ≡ c ++ codes "<ul>" → e ≡ d ++ items (entries_of rows) → f ≡ e ++ codes "</ul></li>"
      → f ≡ out ++ item pages items text (entries_of rows)
  item_open a b c d e f first second third is fourth fifth sixth =
      sixth
      ∙ ap (λ l. l ++ codes "</ul></li>") (fifth ∙ ap (λ l. l ++ items (entries_of rows))
      (fourth ∙ with_front a b c (codes "<ul>") first second third))
      ∙ going_on out (codes "<li>") (escaped text) links (codes "<ul>") (items (entries_of rows)) (codes "</ul>") (codes "</li>")
      ∙ list_by false is

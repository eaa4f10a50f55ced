-- The marks of content in UTF-8 are UTF-8.
use Rattle.std.specs.Prelude.{◌≡◌, ◌+◌, ◌++◌, ℕ, true, List, [], ◌∷◌, Option, Some, None, IfSome, filter, map, codes}
use Rattle.std.specs.List.{AllByRecursion, flat_map, list_all}
use Rattle.std.specs.Str.{IsUtf8}
use Rattle.std.proofs.Common.{refl}
use Rattle.std.proofs.lemmas.Str.{IsUtf8-append}
use Rattle.dita_doc.specs.ClassValue.{value_of, words_of}
use Rattle.dita_doc.specs.declared.content.Rule.{Rule}
use Rattle.dita_doc.specs.declared.doc.Attribute.{Attribute}
use Rattle.ditaval_rules.specs.Verdict.{conditional_names, is_grouped}
use Rattle.flag_marks.specs.Marks.{at_place, rule_flags, mark_text, marks_by, marks_from, marks_of_attribute, marks_of_element, marks_of_tokens, marks_of_value}
use Rattle.map_spec.specs.Written.{Written, End, Chars, Node}
use Rattle.part_spec.specs.Parts.{attributes_in}
use Rattle.html_laws.specs.Utf8.{HasUtf8Value, IsUtf8Content, IsUtf8Mark}
use Rattle.html_laws.proofs.ContentUtf8Laws.{utf8_value_of}
use Rattle.html_laws.proofs.DomainUtf8Laws.{AreUtf8Names, utf8_first_of_each, utf8_words}
use Rattle.html_laws.proofs.EachLaws.{chosen, of_any, of_both, of_kept, of_lists, of_map_or, of_mapped}
use Rattle.html_laws.proofs.FormLaws.{each_passes}
use Rattle.html_laws.proofs.TextUtf8Laws.{is_low, utf8_codes, utf8_three}

-- the names of attributes that are conditional in every document
pub conditional_low : list_all (list_all is_low) conditional_names ≡ true
conditional_low = refl

each_utf8 : (names : List (List ℕ)) → AllByRecursion (λ name. list_all is_low name ≡ true) names → AreUtf8Names names
each_utf8 [] all = tt
each_utf8 (name ∷ names) all = (utf8_codes name all.0, each_utf8 names all.1)

conditional_utf8 : AreUtf8Names conditional_names
conditional_utf8 = each_utf8 conditional_names (each_passes (list_all is_low) conditional_names conditional_low)

-- Marks

utf8_mark : (att token : List ℕ) → IsUtf8 att → IsUtf8 token → IsUtf8 (mark_text att token)
utf8_mark att token named is =
    IsUtf8-append (codes "flag-" ++ att ++ codes "-") token
    (utf8_three (codes "flag-") att (codes "-") (utf8_codes (codes "flag-") refl) named (utf8_codes (codes "-") refl))
    is

utf8_of_value : (rules : List Rule) (att value : List ℕ) → IsUtf8 att → IsUtf8 value
    → AllByRecursion IsUtf8 (marks_of_value rules att value)
utf8_of_value rules att value named is =
    chosen (AllByRecursion IsUtf8) (is_grouped value) [] (marks_of_tokens rules att (words_of value)) tt
    (of_mapped IsUtf8 IsUtf8 (mark_text att) (filter (rule_flags rules att) (words_of value))
    (λ token one. utf8_mark att token named one)
    (of_kept IsUtf8 (rule_flags rules att) (words_of value) (utf8_words value is)))

module _ (declared : List (List ℕ)) (attributes : List Attribute) (names : AreUtf8Names declared)
    (all : AllByRecursion HasUtf8Value attributes) where
  utf8_of_attribute : (rules : List Rule) (att : List ℕ) → IsUtf8 att
      → AllByRecursion IsUtf8 (marks_of_attribute rules attributes att)
  utf8_of_attribute rules att named =
      of_map_or IsUtf8 (AllByRecursion IsUtf8) (marks_of_value rules att) (value_of att attributes) []
      (λ value is. utf8_of_value rules att value named is) (utf8_value_of att attributes all) tt

  utf8_by : (rules : List Rule) → AllByRecursion IsUtf8 (marks_by declared attributes rules)
  utf8_by rules =
      of_lists IsUtf8 IsUtf8 (marks_of_attribute rules attributes) (conditional_names ++ declared)
      (utf8_of_attribute rules) (of_both IsUtf8 conditional_names declared conditional_utf8 names)

  utf8_of_element : (rules : List (List Rule)) → AllByRecursion IsUtf8 (marks_of_element rules declared attributes)
  utf8_of_element rules =
      let any : List Rule → Type 0 = λ own. Unit {0} in
      utf8_first_of_each (flat_map (marks_by declared attributes) rules)
      (of_lists any IsUtf8 (marks_by declared attributes) rules (λ own is. utf8_by own)
      (of_any any rules (λ own. tt)))

-- Content

abbrev HasUtf8Attributes : Option (List Attribute) → Type 0
HasUtf8Attributes attributes = IfSome attributes (AllByRecursion HasUtf8Value)

utf8_attributes_in : (nodes : Written) → IsUtf8Content nodes → AllByRecursion HasUtf8Attributes (attributes_in nodes)
utf8_attributes_in End all = tt
utf8_attributes_in (Chars text doc rest) all = (tt, utf8_attributes_in rest all.1)
utf8_attributes_in (Node element inside rest) all = (
  all.0.0,
  of_both HasUtf8Attributes (attributes_in inside) (attributes_in rest) (utf8_attributes_in inside all.1)
      (utf8_attributes_in rest all.2),
)

utf8_from : (rules : List (List Rule)) (place : ℕ) (names : List (List (List ℕ)))
    (nodes : List (Option (List Attribute)))
    → AllByRecursion AreUtf8Names names → AllByRecursion HasUtf8Attributes nodes
    → AllByRecursion IsUtf8Mark (marks_from rules place names nodes)
utf8_from rules place names [] declared all = tt
utf8_from rules place [] (first ∷ nodes) declared all = tt
utf8_from rules place (own ∷ names) (None ∷ nodes) declared all =
    utf8_from rules (place + 1) names nodes declared.1 all.1
utf8_from rules place (own ∷ names) (Some attributes ∷ nodes) declared all =
    of_both IsUtf8Mark (map (at_place place) (marks_of_element rules own attributes))
    (marks_from rules (place + 1) names nodes)
    (of_mapped IsUtf8 IsUtf8Mark (at_place place) (marks_of_element rules own attributes) (λ text is. is)
    (utf8_of_element own attributes declared.0 all.0 rules))
    (utf8_from rules (place + 1) names nodes declared.1 all.1)

-- the marks of nodes in UTF-8, for which names in UTF-8 are declared
pub utf8_marks : (rules : List (List Rule)) (names : List (List (List ℕ))) (nodes : Written)
    → AllByRecursion AreUtf8Names names → IsUtf8Content nodes
    → AllByRecursion IsUtf8Mark (marks_from rules 0 names (attributes_in nodes))
utf8_marks rules names nodes declared all =
    utf8_from rules 0 names (attributes_in nodes) declared (utf8_attributes_in nodes all)

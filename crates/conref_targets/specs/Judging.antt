-- The judging of elements (own): an element is judged by its attributes, as they are written or as they are merged.
use Rattle.std.specs.Prelude.{◌&&◌, ℕ, Bool, not, List}
use Rattle.dita_doc.specs.declared.doc.Attribute.{Attribute}
use Rattle.ditaval_rules.specs.Verdict.{is_conditional_among, is_grouped}
use Rattle.map_spec.specs.Written.{Element}

abbrev pub with_attributes : List Attribute → Element → Element
with_attributes attributes element = record element { attributes = attributes }

-- an attribute that can exclude its element, for which these names are declared
abbrev pub is_judged : List (List ℕ) → Attribute → Bool
is_judged declared written = is_conditional_among declared written.name && not (is_grouped written.value)

-- What a reference leads to (DITA 1.3, "URI-based (direct) addressing", "The @format attribute", "The @scope
-- attribute"). That nothing is inferred from an extension is our own.
use Rattle.std.specs.Prelude.{◌==◌, ◌&&◌, ◌||◌, ℕ, Bool, not, List, [], ◌∷◌, Option, Some, None, Result, Ok, Err, length, option_map, codes, bytes_eq, unwrap_or, if◌then◌else◌}
use Rattle.std.specs.List.{before_first}
use Rattle.dita_doc.specs.Bytes.{number_sign}
use Rattle.dita_doc.specs.declared.plan.Reference.{Reference}
use Rattle.dita_doc.specs.declared.plan.Target.{Target}
use Rattle.dita_doc.specs.declared.plan.Target.TheVariants as targets
use Rattle.href_text.specs.declared.fault.RefFault.{RefFault}
use Rattle.href_text.specs.Joined.{joined}
use Rattle.href_text.specs.Reference.{is_external, is_number_sign, reference_of}
use Rattle.map_spec.specs.Written.{Element}
use Rattle.map_spec.specs.Elements.{attribute}

-- what was read, if it was
abbrev pub if_read : {X : Type 0} → Result X RefFault → Option X
if_read (Ok value) = Some value
if_read (Err fault) = None

-- `#./element` names the topic around the element that carries it (DITA 1.3, "URI-based (direct) addressing")
abbrev pub is_same_topic : Reference → Bool
is_same_topic reference = (length reference.file == 0) && bytes_eq reference.topic (codes ".")
    && not (length reference.element == 0)

-- the file of a value, and what stands behind it, from the first `#` on
abbrev pub file_of : List ℕ → List ℕ
file_of value = before_first is_number_sign value

abbrev pub rest_of : List ℕ → List ℕ
rest_of [] = []
rest_of (b ∷ value) = if b == number_sign then b ∷ value else rest_of value

-- the document that the file of a value names, seen from a document
abbrev pub file_named : List ℕ → List ℕ → Option (List ℕ)
file_named doc value = if length value == 0 then None else if_read (joined doc (file_of value))

-- a reference leads away from our documents by its scope
abbrev pub is_far : List ℕ → Bool
is_far scope = bytes_eq scope (codes "external") || bytes_eq scope (codes "peer")

abbrev pub local_file : List ℕ → List ℕ → Option Target
local_file doc value = option_map (λ name. targets.File name (rest_of value)) (file_named doc value)

abbrev pub local_topic : List ℕ → Option Reference → Option Target
local_topic doc None = None
local_topic doc (Some reference) = option_map (λ name. targets.Local name reference) (if_read (joined doc reference.file))

-- what a value leads to from a document, under this format and this scope; nothing if it can't be read or joined
abbrev pub target_by : (value format scope doc : List ℕ) → Option Target
target_by value format scope doc =
    if is_far scope || is_external value then Some (targets.Other value)
    else if bytes_eq format (codes "dita") then local_topic doc (if_read (reference_of value))
    else local_file doc value

abbrev pub default_format : List ℕ
default_format = codes "dita"

abbrev pub default_scope : List ℕ
default_scope = codes "local"

-- what a file's reference on an element names, whatever its format: a document; nothing of ours; or no name at all
pub data Named : Type 0 where
  Document : List ℕ → Named
  Elsewhere : Named
  Unreadable : Named

abbrev pub named_if_read : Option (List ℕ) → Named
named_if_read None = Unreadable
named_if_read (Some name) = Document name

abbrev pub named_of : Element → List ℕ → Named
named_of element value =
    if is_far (unwrap_or (attribute (codes "scope") element) default_scope) || is_external value then Elsewhere
    else named_if_read (file_named element.doc value)

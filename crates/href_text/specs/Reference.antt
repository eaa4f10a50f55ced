-- References (DITA 1.3, "URI-based (direct) addressing"): a file, and behind a `#` a topic and, behind a `/`, an element
-- of it. The faults and their order are our own.
use Rattle.std.specs.Prelude.{◌==◌, ◌||◌, ◌&&◌, ℕ, Bool, List, [], ◌∷◌, Result, Ok, Err, length, if◌then◌else◌}
use Rattle.std.specs.List.{before_first, after_first, list_any}
use Rattle.dita_doc.specs.Bytes.{colon, slash, number_sign, is_slash, has_bytes, parts_by}
use Rattle.dita_doc.specs.declared.plan.Reference.{Reference}
use Rattle.href_text.specs.declared.fault.RefFault.{RefFault}
use Rattle.href_text.specs.declared.fault.RefFault.TheVariants as faults

abbrev pub is_colon : ℕ → Bool
is_colon b = b == colon

abbrev pub is_number_sign : ℕ → Bool
is_number_sign b = b == number_sign

abbrev pub ends_scheme : ℕ → Bool
ends_scheme b = (b == slash) || (b == number_sign)

-- the value names no document of ours: a `:` stands before the first `/` and `#`
abbrev pub is_external : List ℕ → Bool
is_external value = list_any is_colon (before_first ends_scheme value)

-- behind the `#` stands a topic, or a topic and an element, and none of them is empty
abbrev pub reference_to : List ℕ → List (List ℕ) → Result Reference RefFault
reference_to file (topic ∷ []) =
    if has_bytes topic then Ok (record { file = file; topic = topic; element = [] }) else Err faults.BadFragment
reference_to file (topic ∷ element ∷ []) =
    if has_bytes topic && has_bytes element then Ok (record { file = file; topic = topic; element = element })
    else Err faults.BadFragment
reference_to file parts = Err faults.BadFragment

-- and no second `#`
abbrev pub reference_with : List ℕ → List ℕ → Result Reference RefFault
reference_with file fragment =
    if list_any is_number_sign fragment then Err faults.BadFragment
    else reference_to file (parts_by is_slash fragment)

-- what a value refers to, or its first fault
abbrev pub reference_of : List ℕ → Result Reference RefFault
reference_of value =
    if is_external value then Err faults.External
    else if length value == 0 then Err faults.Empty
    else if list_any is_number_sign value
    then reference_with (before_first is_number_sign value) (after_first is_number_sign value)
    else Ok (record { file = value; topic = []; element = [] })

-- The file of a reference that is read stands before the first `#` of its value.
use Rattle.std.specs.Prelude.{◌≡◌, ◌==◌, ◌&&◌, ℕ, Bool, true, false, List, [], ◌∷◌, Result, Ok, Err, length, if◌then◌else◌}
use Rattle.std.specs.List.{after_first, list_any}
use Rattle.std.proofs.Common.{refl, sym, ◌∙◌}
use Rattle.dita_doc.specs.Bytes.{has_bytes, is_slash, parts_by}
use Rattle.dita_doc.specs.declared.plan.Reference.{Reference}
use Rattle.dita_doc.proofs.CutLaws.{front_alone}
use Rattle.href_text.specs.Reference.{is_external, is_number_sign, reference_of, reference_to, reference_with}
use Rattle.href_text.specs.declared.fault.RefFault.{RefFault}
use Rattle.href_text.specs.declared.fault.RefFault.TheVariants as faults
use Rattle.map_spec.specs.Target.{file_of}

read_to : (test : Bool) (file topic element : List ℕ) (reference : Reference)
    → (if test then Ok (record { file = file; topic = topic; element = element }) else Err faults.BadFragment)
    ≡ Ok reference → reference.file ≡ file
read_to true file topic element reference is = cc
read_to false file topic element reference is = cc

file_to : (file : List ℕ) (parts : List (List ℕ)) (reference : Reference) → reference_to file parts ≡ Ok reference
    → reference.file ≡ file
file_to file [] reference is = cc
file_to file (topic ∷ []) reference is = read_to (has_bytes topic) file topic [] reference is
file_to file (topic ∷ element ∷ []) reference is =
    read_to (has_bytes topic && has_bytes element) file topic element reference is
file_to file (topic ∷ element ∷ other ∷ more) reference is = cc

file_with : (test : Bool) (file : List ℕ) (parts : List (List ℕ)) (reference : Reference)
    → (if test then Err faults.BadFragment else reference_to file parts) ≡ Ok reference → reference.file ≡ file
file_with true file parts reference is = cc
file_with false file parts reference is = file_to file parts reference is

file_by : (external empty signed : Bool) (value front fragment : List ℕ) (reference : Reference)
    → (signed ≡ false → front ≡ value)
    → (if external then Err faults.External else if empty then Err faults.Empty
    else if signed then reference_with front fragment else Ok (record { file = value; topic = []; element = [] }))
    ≡ Ok reference → reference.file ≡ front
file_by true empty signed value front fragment reference alone is = cc
file_by false true signed value front fragment reference alone is = cc
file_by false false true value front fragment reference alone is =
    file_with (list_any is_number_sign fragment) front (parts_by is_slash fragment) reference is
file_by false false false value front fragment reference alone is =
    let same : reference.file ≡ value = cc in same ∙ sym (alone refl)

pub file_read : (value : List ℕ) (reference : Reference) → reference_of value ≡ Ok reference
    → reference.file ≡ file_of value
file_read value reference is =
    file_by (is_external value) (length value == 0) (list_any is_number_sign value) value (file_of value)
    (after_first is_number_sign value) reference (front_alone is_number_sign value) is

pub not_external : (external : Bool) (more : Result Reference RefFault) (reference : Reference)
    → (if external then Err faults.External else more) ≡ Ok reference → external ≡ false
not_external true more reference is = cc
not_external false more reference is = refl

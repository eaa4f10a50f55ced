-- Files, joined to the folder of the document that refers to them, and relative paths (own).
use Rattle.std.specs.Prelude.{◌-◌, ◌==◌, ◌||◌, ℕ, Bool, List, [], ◌∷◌, ◌++◌, Result, Ok, Err, length, take, slice_index, if◌then◌else◌, codes, bytes_eq}
use Rattle.std.specs.List.{flat_map}
use Rattle.dita_doc.specs.Bytes.{slash, is_slash, parts_by}
use Rattle.dita_doc.specs.Name.{is_name, segments_of}
use Rattle.href_text.specs.declared.fault.RefFault.{RefFault}
use Rattle.href_text.specs.declared.fault.RefFault.TheVariants as faults

-- all but the last
abbrev pub without_last : List (List ℕ) → List (List ℕ)
without_last segments = take (length segments - 1) segments

-- the folders in which a document stands, the outermost first
abbrev pub folders_of : List ℕ → List (List ℕ)
folders_of name = without_last (segments_of name)

-- an empty segment and `.` name the folder where they stand, and `..` the one around it
abbrev pub is_here : List ℕ → Bool
is_here segment = (length segment == 0) || bytes_eq segment (codes ".")

abbrev pub is_above : List ℕ → Bool
is_above segment = bytes_eq segment (codes "..")

-- the segments that stay when these are followed from a folder
abbrev pub followed : List (List ℕ) → List (List ℕ) → Result (List (List ℕ)) RefFault
followed stay [] = Ok stay
followed stay (segment ∷ segments) =
    if is_here segment then followed stay segments
    else if is_above segment
    then (if length stay == 0 then Err faults.AboveRoot else followed (without_last stay) segments)
    else followed (stay ++ segment ∷ []) segments

-- segments with a `/` between them
abbrev pub path_of : List (List ℕ) → List ℕ
path_of [] = []
path_of (segment ∷ []) = segment
path_of (segment ∷ next ∷ segments) = segment ++ slash ∷ path_of (next ∷ segments)

-- the name that the segments that stay are
abbrev pub name_of_segments : List (List ℕ) → Result (List ℕ) RefFault
name_of_segments [] = Err faults.Empty
name_of_segments (segment ∷ segments) =
    if is_name (path_of (segment ∷ segments)) then Ok (path_of (segment ∷ segments)) else Err faults.BadName

abbrev pub name_if_followed : Result (List (List ℕ)) RefFault → Result (List ℕ) RefFault
name_if_followed (Ok stay) = name_of_segments stay
name_if_followed (Err fault) = Err fault

-- the document that a file names from a document; an empty file names that document itself
abbrev pub joined : List ℕ → List ℕ → Result (List ℕ) RefFault
joined from file =
    if length file == 0 then Ok from
    else if slice_index file 0 == slash then Err faults.AboveRoot
    else name_if_followed (followed (folders_of from) (parts_by is_slash file))

-- the relative path: up to the root, once for each folder, and then the name
abbrev pub relative_path : List ℕ → List ℕ → List ℕ
relative_path from to = flat_map (λ folder. codes "../") (folders_of from) ++ to

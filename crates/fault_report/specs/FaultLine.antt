-- The line of a fault (own): `NAME:LINE CODE`, and if there is a detail, a space and the detail, in which LF, tab and
-- backslash are escaped.
use Rattle.std.specs.Prelude.{ℕ, List, [], ◌∷◌, ◌++◌, codes}
use Rattle.std.specs.Fmt.{decimal}
use Rattle.dita_doc.specs.Bytes.{space}
use Rattle.dita_doc.specs.Faults.{fault_code_text}
use Rattle.dita_doc.specs.PyxEscapes.{escaped}
use Rattle.dita_doc.specs.declared.fault.Fault.{Fault}
use Rattle.dita_doc.specs.declared.fault.FaultCode.{FaultCode}

-- a detail behind a space; an empty one has no space
abbrev pub with_detail : List ℕ → List ℕ
with_detail [] = []
with_detail (b ∷ detail) = space ∷ b ∷ detail

-- the line of a document's name, a line, a code and a detail as it is shown, without the LF that ends it
abbrev pub line_of : List ℕ → ℕ → FaultCode → List ℕ → List ℕ
line_of name number code shown =
    name ++ codes ":" ++ decimal number ++ codes " " ++ fault_code_text code ++ with_detail shown

abbrev pub fault_line : Fault → List ℕ
fault_line fault = line_of fault.name fault.line fault.code (escaped fault.detail)

-- The texts of a script's faults (own): each code is spelled as its name.
use Rattle.std.specs.Prelude.{◌++◌, ℕ, List, codes}
use Rattle.std.specs.Fmt.{decimal}
use Rattle.dita_doc.specs.Lines.{line}
use Rattle.script_text.specs.declared.fault.ScriptCode.{ScriptCode}
use Rattle.script_text.specs.declared.fault.ScriptCode.TheVariants as script
use Rattle.script_text.specs.declared.fault.ScriptFault.{ScriptFault}

abbrev pub script_code_text : ScriptCode → List ℕ
script_code_text script.BadCommand = codes "BadCommand"
script_code_text script.BadNumber = codes "BadNumber"
script_code_text script.BadName = codes "BadName"
script_code_text script.NoEnd = codes "NoEnd"
script_code_text script.TooManySessions = codes "TooManySessions"
script_code_text script.TooManyRequests = codes "TooManyRequests"
script_code_text script.TooLong = codes "TooLong"
script_code_text script.NotUtf8 = codes "NotUtf8"
script_code_text script.TooManyEdits = codes "TooManyEdits"

-- the line that tells why bytes were rejected
abbrev pub rejection_line : ScriptFault → List ℕ
rejection_line fault = line (codes "script " ++ script_code_text fault.code ++ codes " " ++ decimal fault.line)

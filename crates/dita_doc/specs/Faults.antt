-- The texts of faults (own): each code is spelled as its name.
use Rattle.std.specs.Prelude.{ℕ, List, codes}
use Rattle.dita_doc.specs.declared.fault.PyxCode.{PyxCode}
use Rattle.dita_doc.specs.declared.fault.PyxCode.TheVariants as pyx
use Rattle.dita_doc.specs.declared.fault.FaultCode.{FaultCode}
use Rattle.dita_doc.specs.declared.fault.FaultCode.TheVariants as fault

abbrev pub pyx_code_text : PyxCode → List ℕ
pyx_code_text pyx.BadLine = codes "BadLine"
pyx_code_text pyx.Entity = codes "Entity"
pyx_code_text pyx.AttributePlace = codes "AttributePlace"
pyx_code_text pyx.AttributeTwice = codes "AttributeTwice"
pyx_code_text pyx.Unclosed = codes "Unclosed"
pyx_code_text pyx.CloseMismatch = codes "CloseMismatch"
pyx_code_text pyx.NoRoot = codes "NoRoot"
pyx_code_text pyx.SecondRoot = codes "SecondRoot"
pyx_code_text pyx.TextOutside = codes "TextOutside"
pyx_code_text pyx.TooDeep = codes "TooDeep"
pyx_code_text pyx.TooLong = codes "TooLong"
pyx_code_text pyx.NotUtf8 = codes "NotUtf8"

abbrev pub fault_code_text : FaultCode → List ℕ
fault_code_text fault.NoClass = codes "NoClass"
fault_code_text fault.BadClass = codes "BadClass"
fault_code_text fault.BadReference = codes "BadReference"
fault_code_text fault.MapMissing = codes "MapMissing"
fault_code_text fault.MapCycle = codes "MapCycle"
fault_code_text fault.TopicMissing = codes "TopicMissing"
fault_code_text fault.NotTopic = codes "NotTopic"
fault_code_text fault.MapConref = codes "MapConref"
fault_code_text fault.GroupValue = codes "GroupValue"
fault_code_text fault.DitavalMissing = codes "DitavalMissing"
fault_code_text fault.DitavalTwice = codes "DitavalTwice"
fault_code_text fault.BadAction = codes "BadAction"
fault_code_text fault.CopyTo = codes "CopyTo"
fault_code_text fault.Chunk = codes "Chunk"
fault_code_text fault.NameChanged = codes "NameChanged"
fault_code_text fault.BadKeyName = codes "BadKeyName"
fault_code_text fault.BadScopeName = codes "BadScopeName"
fault_code_text fault.KeyUndefined = codes "KeyUndefined"
fault_code_text fault.KeyCycle = codes "KeyCycle"
fault_code_text fault.KeyNoText = codes "KeyNoText"
fault_code_text fault.ConrefMissing = codes "ConrefMissing"
fault_code_text fault.ConrefType = codes "ConrefType"
fault_code_text fault.ConrefCycle = codes "ConrefCycle"
fault_code_text fault.ConrefDepth = codes "ConrefDepth"
fault_code_text fault.RangeEnd = codes "RangeEnd"
fault_code_text fault.PushPlace = codes "PushPlace"
fault_code_text fault.PushTwice = codes "PushTwice"
fault_code_text fault.TooManyResolved = codes "TooManyResolved"
fault_code_text fault.LinkNoPage = codes "LinkNoPage"
fault_code_text fault.PageTooLarge = codes "PageTooLarge"
fault_code_text fault.Foreign = codes "Foreign"

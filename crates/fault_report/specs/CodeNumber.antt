-- The numbers of the codes of faults (own): they order the faults of one line.
use Rattle.std.specs.Prelude.{ℕ}
use Rattle.dita_doc.specs.declared.fault.FaultCode.{FaultCode}
use Rattle.dita_doc.specs.declared.fault.FaultCode.TheVariants as fault

abbrev pub code_number : FaultCode → ℕ
code_number fault.NoClass = 1
code_number fault.BadClass = 2
code_number fault.BadReference = 3
code_number fault.MapMissing = 4
code_number fault.MapCycle = 5
code_number fault.TopicMissing = 6
code_number fault.NotTopic = 7
code_number fault.MapConref = 8
code_number fault.GroupValue = 9
code_number fault.DitavalMissing = 10
code_number fault.DitavalTwice = 11
code_number fault.BadAction = 12
code_number fault.CopyTo = 13
code_number fault.Chunk = 14
code_number fault.NameChanged = 15
code_number fault.BadKeyName = 16
code_number fault.BadScopeName = 17
code_number fault.KeyUndefined = 18
code_number fault.KeyCycle = 19
code_number fault.KeyNoText = 20
code_number fault.ConrefMissing = 21
code_number fault.ConrefType = 22
code_number fault.ConrefCycle = 23
code_number fault.ConrefDepth = 24
code_number fault.RangeEnd = 25
code_number fault.PushPlace = 26
code_number fault.PushTwice = 27
code_number fault.TooManyResolved = 28
code_number fault.LinkNoPage = 29
code_number fault.PageTooLarge = 30
code_number fault.Foreign = 31

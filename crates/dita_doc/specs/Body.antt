-- What a body says of its reading.
use Rattle.std.specs.Prelude.{List, Result, Ok, Err}
use Rattle.std.specs.Arc.{arc_value}
use Rattle.std.specs.declared.sync.Arc.{Arc}
use Rattle.std.specs.declared.alloc.Global.{Global}
use Rattle.dita_doc.specs.declared.doc.Doc.{Doc}
use Rattle.dita_doc.specs.declared.doc.Node.{Node}
use Rattle.dita_doc.specs.declared.fault.PyxFault.{PyxFault}

-- the nodes of the document that was read, or the fault
abbrev pub nodes_read : Result (Arc Doc Global) PyxFault → Result (List Node) PyxFault
nodes_read (Ok doc) = Ok (arc_value doc).nodes
nodes_read (Err fault) = Err fault

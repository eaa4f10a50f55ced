use Rattle.std.proofs.Common.{◌≡◌, ◌++◌, map}
use Rattle.dita_doc.specs.Desk.{listed}
use Rattle.dita_doc.specs.Seen.{read_seen}
use Rattle.version_store.proofs.reply.names_reply.Given as goal

-- the names so far, and those of the documents that are left
abbrev pub invariant-loop-document : goal.invariant-loop-document
invariant-loop-document l =
    map read_seen l.names.items ++ map listed l.document-iterator ≡ map listed l.sources

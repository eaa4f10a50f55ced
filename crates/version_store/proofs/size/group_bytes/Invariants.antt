use Rattle.std.proofs.Common.{◌≡◌, ◌≤◌, ◌*◌, ◌^◌, map, sum, take}
use Rattle.dita_doc.specs.Request.{edit_size}
use Rattle.dita_doc.specs.Seen.{edit_seen}
use Rattle.version_store.proofs.size.group_bytes.Given as goal

abbrev pub invariant-loop-edit : goal.invariant-loop-edit
invariant-loop-edit l = record {
  so_far : l.bytes ≡ sum (map edit_size (map edit_seen (take l.edit-index l.edits)));
  fits : l.bytes ≤ l.edit-index * 2 ^ 64;
}

use Rattle.std.proofs.Common.{◌≡◌, ◌++◌, map, drop, take}
use Rattle.std.specs.List.{flat_map, All}
use Rattle.dita_doc.specs.Seen.{read_seen}
use Rattle.transcript_text.specs.Transcript.{IsNameLine, bar_line, name_line}
use Rattle.transcript_text.proofs.write.append_names.Given as goal

abbrev pub invariant-loop-read : goal.invariant-loop-read
invariant-loop-read l = record {
  text : l.out ++ flat_map bar_line (map name_line (map read_seen (drop l.read-index l.names)))
      ≡ l.initial.out ++ flat_map bar_line (map name_line (map read_seen l.names));
  form : All (λ read. IsNameLine (read_seen read)) (take l.read-index l.names);
}

use Rattle.std.proofs.Common.{◌≡◌, ◌||◌, length}
use Rattle.std.specs.Prelude.{◌==◌, bytes_eq, codes, not}
use Rattle.std.specs.List.{list_any}
use Rattle.dita_doc.specs.ClassValue.{words_of}
use Rattle.xref_links.proofs.types.Types.of.Given as goal

abbrev pub invariant-loop-word : goal.invariant-loop-word
invariant-loop-word l = record {
  any : (l.types.has_types || not (length (words_of l.rest) == 0)) ≡ not (length (words_of l.initial.rest) == 0);
  topic : (l.types.is_topic || list_any (bytes_eq (codes "topic/topic")) (words_of l.rest))
      ≡ list_any (bytes_eq (codes "topic/topic")) (words_of l.initial.rest);
  image : (l.types.is_image || list_any (bytes_eq (codes "topic/image")) (words_of l.rest))
      ≡ list_any (bytes_eq (codes "topic/image")) (words_of l.initial.rest);
  xref : (l.types.is_xref || list_any (bytes_eq (codes "topic/xref")) (words_of l.rest))
      ≡ list_any (bytes_eq (codes "topic/xref")) (words_of l.initial.rest);
  link : (l.types.is_link || list_any (bytes_eq (codes "topic/link")) (words_of l.rest))
      ≡ list_any (bytes_eq (codes "topic/link")) (words_of l.initial.rest);
}

abbrev pub decreases-loop-word : goal.decreases-loop-word
decreases-loop-word l = length l.rest

use Rattle.std.proofs.Common.{◌≡◌, ◌||◌, bytes_eq, codes, length, not}
use Rattle.std.specs.Prelude.{◌==◌}
use Rattle.std.specs.List.{list_any}
use Rattle.dita_doc.specs.ClassValue.{words_of}
use Rattle.map_expand.proofs.element.map_types.Given as goal

abbrev pub invariant-loop-token : goal.invariant-loop-token
invariant-loop-token l = record {
  any : (l.types.any || not (length (words_of l.left) == 0)) ≡ not (length (words_of l.tokens) == 0);
  ditavalref : (l.types.ditavalref || list_any (bytes_eq (codes "ditavalref-d/ditavalref")) (words_of l.left))
      ≡ list_any (bytes_eq (codes "ditavalref-d/ditavalref")) (words_of l.tokens);
  topicref : (l.types.topicref || list_any (bytes_eq (codes "map/topicref")) (words_of l.left))
      ≡ list_any (bytes_eq (codes "map/topicref")) (words_of l.tokens);
  reltable : (l.types.reltable || list_any (bytes_eq (codes "map/reltable")) (words_of l.left))
      ≡ list_any (bytes_eq (codes "map/reltable")) (words_of l.tokens);
  relrow : (l.types.relrow || list_any (bytes_eq (codes "map/relrow")) (words_of l.left))
      ≡ list_any (bytes_eq (codes "map/relrow")) (words_of l.tokens);
  relcell : (l.types.relcell || list_any (bytes_eq (codes "map/relcell")) (words_of l.left))
      ≡ list_any (bytes_eq (codes "map/relcell")) (words_of l.tokens);
}

abbrev pub decreases-loop-token : goal.decreases-loop-token
decreases-loop-token l = length l.left

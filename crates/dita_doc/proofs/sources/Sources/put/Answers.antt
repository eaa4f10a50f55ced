use Rattle.std.proofs.Common.{sym, subst, arith}
use Rattle.dita_doc.specs.Desk.{IsSortedByName}
use Rattle.dita_doc.specs.Sources.{document_seen, all_stored}
use Rattle.dita_doc.proofs.NameOrder.{sorted_with}
use Rattle.dita_doc.proofs.BlockLaws.{from_test}
use Rattle.dita_doc.proofs.sources.Sources.put.Goals as goal

pub invariant_of-self-2 : goal.invariant_of-self-2
invariant_of-self-2 c =
    let before = c.self.invariant in
    let told = c.in_ok-is_new.ensures in
    record {
      sorted = subst IsSortedByName (sym told.ok)
          (sorted_with (document_seen c.args.document) (all_stored c.self.inside.blocks.items) before.sorted);
      number = omega (arith, told.count, before.number, c.from.ensures, from_test c.in_ok-is_new.is_new);
    }

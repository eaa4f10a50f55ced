use Rattle.std.proofs.Common.{sym, ap, subst, ◌∙◌, arith, is_some}
use Rattle.std.specs.Int.{from_bool}
use Rattle.dita_doc.specs.Desk.{IsSortedByName}
use Rattle.dita_doc.specs.Sources.{all_stored}
use Rattle.dita_doc.proofs.NameOrder.{sorted_without}
use Rattle.dita_doc.proofs.BlockLaws.{from_test}
use Rattle.dita_doc.proofs.sources.Sources.remove.Goals as goal

pub invariant_of-self-2 : goal.invariant_of-self-2
invariant_of-self-2 c =
    let before = c.self.invariant in
    let told = c.in_ok-version.ensures in
    let one = c.from.ensures ∙ ap from_bool c.is_some.ensures ∙ from_test (is_some c.in_ok-version.version) in
    record {
      sorted = subst IsSortedByName (sym told.ok)
          (sorted_without c.args.name.now (all_stored c.self.inside.blocks.items) before.sorted);
      number = omega (arith, told.count, before.number, one);
    }

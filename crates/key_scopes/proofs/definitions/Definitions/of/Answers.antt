use Rattle.std.proofs.Common.{◌≡◌, [], ap, arith, drop, filter, subst, sym}
use Rattle.key_scopes.specs.Defined.{firsts_by, is_level_within}
use Rattle.key_scopes.specs.Table.{firsts_of}
use Rattle.key_scopes.specs.Numbered.{entries}
use Rattle.key_scopes.specs.Outermost.{AreTopped}
use Rattle.key_scopes.proofs.DefineLaws.{WrittenKey, firsts_end, firsts_step}
use Rattle.std.specs.Prelude.{List}
use Rattle.key_scopes.proofs.definitions.Definitions.of.Goals as goal

pub loop-entry-init : goal.loop-entry-init
loop-entry-init c = record {
  topped = subst (AreTopped c.args.spans.now.ends.items) (sym c.new-sorted.ensures.items) (λ at own is. absurd (cc));
  firsts = ap (λ some. firsts_by (firsts_of some) (filter (is_level_within c.args.count)
      (entries c.deref-entry-items.result.now))) c.new-sorted.ensures.items;
}

pub loop-entry-preserved : goal.loop-entry-preserved
loop-entry-preserved c =
    let items = c.deref-entry-items.result.now in
    record {
      topped = c.in_ok-push_entry.ensures.topped c.loop-entry.invariant.topped;
      firsts = firsts_step c.args.count items c.loop-entry.entry-index (record { ref_ptr = (0, 0); now = [] }, 0, 0, 0)
          (firsts_of c.loop-entry.sorted.items) (firsts_of c.push_entry.new.sorted.items)
          (firsts_by [] (filter (is_level_within c.args.count) (entries items)))
          c.loop-entry-test.true c.loop-entry.invariant.firsts c.in_ok-push_entry.ensures.firsts;
    }

pub returns-clause-firsts : goal.returns-clause-firsts
returns-clause-firsts c =
    firsts_end c.args.count c.args.written.items c.sort_unstable.new.self.items c.loop-entry.entry-index
    (firsts_of c.loop-entry.sorted.items) (omega (arith, c.deref-entry-items.ensures.len, c.sort_unstable.ensures.len))
    (subst (λ (items : List WrittenKey). firsts_by (firsts_of c.loop-entry.sorted.items)
    (filter (is_level_within c.args.count) (entries (drop c.loop-entry.entry-index items)))
    ≡ firsts_by [] (filter (is_level_within c.args.count) (entries items)))
    c.deref-entry-items.ensures.value c.loop-entry.invariant.firsts)
    c.sort_unstable.ensures.permutation c.sort_unstable.ensures.sorted

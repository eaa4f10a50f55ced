use Rattle.std.proofs.Common.{List, length, refl, subst, sym, ◌∙◌}
use Rattle.dita_doc.specs.declared.plan.Scope.{Scope}
use Rattle.key_scopes.specs.Above.{AreEndsFrom, AreInPreorder, parent_in}
use Rattle.key_scopes.specs.Children.{AreChildNames}
use Rattle.key_scopes.specs.Numbered.{entries}
use Rattle.key_scopes.specs.OwnKeys.{by_level, rows_by}
use Rattle.key_scopes.specs.Table.{firsts_of}
use Rattle.key_scopes.proofs.OwnKeyLaws.{rows_long}
use Rattle.key_scopes.proofs.StrictLaws.{firsts_strict}
use Rattle.key_scopes.proofs.made.table_of.Goals as goal

pub returns : goal.returns
returns c = record {
  scopes = refl;
  ends = λ ordered.
      let same = c.as_slice.ensures in
      let there = subst (λ (all : List Scope). AreInPreorder (parent_in all) (length all)) (sym same) ordered in
      subst (λ (all : List Scope). AreEndsFrom (parent_in all) (length all) 0 c.in_ok-spans.spans.ends.items) same
      (c.in_ok-spans.ensures there.root there.before);
  topped = c.in_ok-definitions.ensures.topped;
  children = subst (λ all. AreChildNames all c.in_ok-children.children.sorted.items c.in_ok-children.children.longest)
      c.as_slice-2.ensures c.in_ok-children.ensures;
  firsts = c.in_ok-definitions.ensures.firsts;
  own_keys = c.in_ok-own_keys.ensures
      ∙ (λ i. rows_by (c.len.ensures.length i) (by_level c.args.count (entries (c.deref.ensures.value i))));
}

pub invariant_of-result : goal.invariant_of-result
invariant_of-result c = record {
  strict = firsts_strict c.args.count _ (firsts_of c.in_ok-definitions.definitions.sorted.items)
      c.in_ok-definitions.ensures.firsts;
  children = subst (λ all. AreChildNames all c.in_ok-children.children.sorted.items c.in_ok-children.children.longest)
      c.as_slice-2.ensures c.in_ok-children.ensures;
  long = rows_long c.in_ok-own_keys.own_keys.items c.len.result (by_level c.args.count (entries c.deref.result.now))
      c.in_ok-own_keys.ensures ∙ c.len.ensures.length;
}

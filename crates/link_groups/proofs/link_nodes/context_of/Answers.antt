use Rattle.std.proofs.Common.{None, ap, ◌∙◌}
use Rattle.dita_doc.specs.declared.plan.Context.{Context}
use Rattle.link_groups.proofs.link_nodes.context_of.Goals as goal

pub returns-clause-page : goal.returns-clause-page
returns-clause-page c = ap (λ (context : Context). context.page) c.in_ok-new.ensures.ok ∙ (λ i. record {
  doc = c.in_ok-clone.ensures.cases i;
  scope = c.args.node.now.scope;
  filters = (c.in_ok-copy_names.ensures ∙ c.as_slice.ensures) i;
  affixes = (c.in_ok-copy_affixes.ensures ∙ c.as_slice-2.ensures) i;
})

pub returns-clause-whole : goal.returns-clause-whole
returns-clause-whole c = c.in_ok-new.ensures.ok ∙ (λ i. record {
  map = (c.in_ok-clone-2.ensures.cases ∙ c.map_of.ensures) i;
  val = None;
  page = record {
    doc = c.in_ok-clone.ensures.cases i;
    scope = c.args.node.now.scope;
    filters = (c.in_ok-copy_names.ensures ∙ c.as_slice.ensures) i;
    affixes = (c.in_ok-copy_affixes.ensures ∙ c.as_slice-2.ensures) i;
  };
  name = c.in_ok-clone-3.ensures.cases i;
})

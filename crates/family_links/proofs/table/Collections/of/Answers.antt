use Rattle.std.proofs.Common.{◌∙◌, subst}
use Rattle.family_links.specs.Collected.{IsMade, families_of, sequences_of}
use Rattle.family_links.proofs.MadeLaws.{collected_is}
use Rattle.family_links.proofs.table.Collections.of.Goals as goal

pub returns-clause-known : goal.returns-clause-known
returns-clause-known g c = λ world agrees ready homes known.
    let same = c.in_ok-kinds.ensures world ready.before homes in
    let entries = c.in_ok-children.children.entries in
    collected_is world c.args.plan.now c.in_ok-kinds.kinds.items entries c.children_of.new.link_nodes
    c.in_ok-collected.field-0 same
    (c.in_ok-children.ensures.known world agrees ready.values ready.pages (c.deref.ensures.value ∙ same) known)
    (subst (λ l. IsMade (sequences_of l entries) (families_of l entries) c.in_ok-collected.field-0)
    c.deref-2.ensures.value c.in_ok-collected.ensures)

pub returns-in_err-children-clause-stand : goal.returns-in_err-children-clause-stand
returns-in_err-children-clause-stand g c = c.children_of.ensures.stand

pub returns-in_err-children-clause-founded : goal.returns-in_err-children-clause-founded
returns-in_err-children-clause-founded g c = c.children_of.ensures.founded

pub returns-in_err-children-clause-asks : goal.returns-in_err-children-clause-asks
returns-in_err-children-clause-asks g c = c.children_of.ensures.asks

pub returns-in_err-children-clause-grows : goal.returns-in_err-children-clause-grows
returns-in_err-children-clause-grows g c = c.children_of.ensures.grows

pub returns-in_err-collected-clause-stand : goal.returns-in_err-collected-clause-stand
returns-in_err-collected-clause-stand g c = c.children_of.ensures.stand

pub returns-in_err-collected-clause-founded : goal.returns-in_err-collected-clause-founded
returns-in_err-collected-clause-founded g c = c.children_of.ensures.founded

pub returns-in_err-collected-clause-asks : goal.returns-in_err-collected-clause-asks
returns-in_err-collected-clause-asks g c = c.children_of.ensures.asks

pub returns-in_err-collected-clause-grows : goal.returns-in_err-collected-clause-grows
returns-in_err-collected-clause-grows g c = c.children_of.ensures.grows

pub returns-clause-stand : goal.returns-clause-stand
returns-clause-stand g c = c.children_of.ensures.stand

pub returns-clause-founded : goal.returns-clause-founded
returns-clause-founded g c = c.children_of.ensures.founded

pub returns-clause-asks : goal.returns-clause-asks
returns-clause-asks g c = c.children_of.ensures.asks

pub returns-clause-grows : goal.returns-clause-grows
returns-clause-grows g c = c.children_of.ensures.grows

pub returns-clause-only : goal.returns-clause-only
returns-clause-only g c = c.in_ok-children.ensures.only

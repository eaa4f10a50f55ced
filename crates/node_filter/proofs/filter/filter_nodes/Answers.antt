use Rattle.std.proofs.Common.{◌∙◌, subst}
use Rattle.std.specs.List.{each_same}
use Rattle.readers.specs.Told.{Agrees}
use Rattle.node_filter.proofs.SieveLaws.{filtered_here}
use Rattle.node_filter.proofs.filter.filter_nodes.Goals as goal

pub returns-clause-known : goal.returns-clause-known
returns-clause-known g c = λ world agrees.
    filtered_here world c.args.rules.now c.in_ok-table.table c.args.nodes.now c.as_slice.result.now c.as_slice-2.result.now
    c.in_ok-nodes.nodes c.in_ok-elements.elements c.in_ok-kept.field-0
    (c.in_ok-table.ensures ∙ each_same _ _ c.in_ok-clone.ensures.cases) c.as_slice.ensures
    c.as_slice-2.ensures (c.in_ok-elements.ensures.known world agrees) (c.in_ok-elements.ensures.declared world agrees)
    (c.in_ok-kept.ensures world) c.in_ok-nodes.ensures

pub returns-clause-value : goal.returns-clause-value
returns-clause-value g c =
    returns-clause-known g c (g.R.Reader.stand c.args.reader.now).world
    (subst (λ s. Agrees s.world (g.R.Reader.told c.of.new.reader)) c.in_ok-elements.ensures.stand
    (g.met.R.Reader.agrees c.of.new.reader))

pub returns-in_err-elements-clause-stand : goal.returns-in_err-elements-clause-stand
returns-in_err-elements-clause-stand g c = c.of.ensures.stand

pub returns-in_err-elements-clause-founded : goal.returns-in_err-elements-clause-founded
returns-in_err-elements-clause-founded g c = rw c.as_slice.ensures at c.of.ensures.founded

pub returns-in_err-elements-clause-asks : goal.returns-in_err-elements-clause-asks
returns-in_err-elements-clause-asks g c = rw c.as_slice.ensures at c.of.ensures.asks

pub returns-in_err-elements-clause-grows : goal.returns-in_err-elements-clause-grows
returns-in_err-elements-clause-grows g c = c.of.ensures.grows

pub returns-in_err-clone-clause-stand : goal.returns-in_err-clone-clause-stand
returns-in_err-clone-clause-stand g c = c.of.ensures.stand

pub returns-in_err-clone-clause-founded : goal.returns-in_err-clone-clause-founded
returns-in_err-clone-clause-founded g c = rw c.as_slice.ensures at c.of.ensures.founded

pub returns-in_err-clone-clause-asks : goal.returns-in_err-clone-clause-asks
returns-in_err-clone-clause-asks g c = rw c.as_slice.ensures at c.of.ensures.asks

pub returns-in_err-clone-clause-grows : goal.returns-in_err-clone-clause-grows
returns-in_err-clone-clause-grows g c = c.of.ensures.grows

pub returns-in_err-table-clause-stand : goal.returns-in_err-table-clause-stand
returns-in_err-table-clause-stand g c = c.of.ensures.stand

pub returns-in_err-table-clause-founded : goal.returns-in_err-table-clause-founded
returns-in_err-table-clause-founded g c = rw c.as_slice.ensures at c.of.ensures.founded

pub returns-in_err-table-clause-asks : goal.returns-in_err-table-clause-asks
returns-in_err-table-clause-asks g c = rw c.as_slice.ensures at c.of.ensures.asks

pub returns-in_err-table-clause-grows : goal.returns-in_err-table-clause-grows
returns-in_err-table-clause-grows g c = c.of.ensures.grows

pub returns-in_err-kept-clause-stand : goal.returns-in_err-kept-clause-stand
returns-in_err-kept-clause-stand g c = c.of.ensures.stand

pub returns-in_err-kept-clause-founded : goal.returns-in_err-kept-clause-founded
returns-in_err-kept-clause-founded g c = rw c.as_slice.ensures at c.of.ensures.founded

pub returns-in_err-kept-clause-asks : goal.returns-in_err-kept-clause-asks
returns-in_err-kept-clause-asks g c = rw c.as_slice.ensures at c.of.ensures.asks

pub returns-in_err-kept-clause-grows : goal.returns-in_err-kept-clause-grows
returns-in_err-kept-clause-grows g c = c.of.ensures.grows

pub returns-in_err-nodes-clause-stand : goal.returns-in_err-nodes-clause-stand
returns-in_err-nodes-clause-stand g c = c.of.ensures.stand

pub returns-in_err-nodes-clause-founded : goal.returns-in_err-nodes-clause-founded
returns-in_err-nodes-clause-founded g c = rw c.as_slice.ensures at c.of.ensures.founded

pub returns-in_err-nodes-clause-asks : goal.returns-in_err-nodes-clause-asks
returns-in_err-nodes-clause-asks g c = rw c.as_slice.ensures at c.of.ensures.asks

pub returns-in_err-nodes-clause-grows : goal.returns-in_err-nodes-clause-grows
returns-in_err-nodes-clause-grows g c = c.of.ensures.grows

pub returns-clause-stand : goal.returns-clause-stand
returns-clause-stand g c = c.of.ensures.stand

pub returns-clause-founded : goal.returns-clause-founded
returns-clause-founded g c = rw c.as_slice.ensures at c.of.ensures.founded

pub returns-clause-asks : goal.returns-clause-asks
returns-clause-asks g c = rw c.as_slice.ensures at c.of.ensures.asks

pub returns-clause-grows : goal.returns-clause-grows
returns-clause-grows g c = c.of.ensures.grows

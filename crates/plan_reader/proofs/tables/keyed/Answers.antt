use Rattle.std.proofs.Common.{◌≡◌, List, map, ap, subst, sym, ◌∙◌}
use Rattle.dita_doc.specs.declared.plan.PlanNode.{PlanNode}
use Rattle.key_scopes.specs.Made.{IsTableOf}
use Rattle.map_spec.specs.Cascade.{whole_at}
use Rattle.plan_nodes.specs.Preorder.{IsTree}
use Rattle.readers.proofs.DocumentLaws.{homes_asked}
use Rattle.readers.proofs.FoundedLaws.{homes_founded}
use Rattle.plan_reader.proofs.TableLaws.{are_keyed}
use Rattle.plan_reader.proofs.tables.keyed.Goals as goal

pub returns-in_err-homes-clause-founded : goal.returns-in_err-homes-clause-founded
returns-in_err-homes-clause-founded g c = homes_founded _ _ _ _ c.as_slice.ensures c.of.ensures.founded

pub returns-in_err-homes-clause-asks : goal.returns-in_err-homes-clause-asks
returns-in_err-homes-clause-asks g c = homes_asked _ _ _ _ c.as_slice.ensures c.of.ensures.asks

pub returns-in_err-table-clause-founded : goal.returns-in_err-table-clause-founded
returns-in_err-table-clause-founded g c = homes_founded _ _ _ _ c.as_slice.ensures c.in_ok-homes.ensures.founded

pub returns-in_err-table-clause-asks : goal.returns-in_err-table-clause-asks
returns-in_err-table-clause-asks g c = homes_asked _ _ _ _ c.as_slice.ensures c.in_ok-homes.ensures.asks

pub returns-clause-keyed : goal.returns-clause-keyed
returns-clause-keyed g c = λ tree values scopes.
    let own = (g.R.Reader.stand c.args.reader.now).world in
    let nodes = c.args.nodes.now in
    let elements : c.in_ok-homes.homes ≡ map (whole_at own) nodes =
    subst (λ (all : List PlanNode). c.in_ok-homes.homes ≡ map (whole_at own) all) c.as_slice.ensures
    c.in_ok-homes.ensures.value in
    are_keyed own nodes c.in_ok-homes.homes c.in_ok-table.table elements values scopes
    (subst (λ (all : List PlanNode). IsTableOf own all c.in_ok-table.table) c.as_slice-2.ensures
    (c.in_ok-table.ensures own (c.in_ok-homes.ensures.value ∙ ap (map (whole_at own)) (c.as_slice.ensures ∙ sym c.as_slice-2.ensures))
    (subst IsTree (sym c.as_slice-2.ensures) tree)))

pub returns-clause-founded : goal.returns-clause-founded
returns-clause-founded g c = homes_founded _ _ _ _ c.as_slice.ensures c.in_ok-homes.ensures.founded

pub returns-clause-asks : goal.returns-clause-asks
returns-clause-asks g c = homes_asked _ _ _ _ c.as_slice.ensures c.in_ok-homes.ensures.asks

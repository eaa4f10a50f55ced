use Rattle.std.specs.Prelude.{◌≡◌, true, nat_lt}
use Rattle.std.proofs.Common.{arith}
use Rattle.std.proofs.lemmas.Bool.Decides.{nat_tests}
use Rattle.link_groups.proofs.AskedLaws.{node_asked}
use Rattle.reltable_links.proofs.cells.Cells.put_node.Goals as goal

pub returns-clause-known : goal.returns-clause-known
returns-clause-known g c = λ world agrees carry pages are.
    let found = c.in_ok-found.ensures.known world agrees carry pages are in
    let before : nat_lt c.args.at c.args.self.now.end ≡ true = grind (arith, nat_tests) in
    (c.in_ok-put_found.ensures world found.is before, found.kept)

pub returns-clause-stand : goal.returns-clause-stand
returns-clause-stand g c = c.find.ensures.stand

pub returns-clause-founded : goal.returns-clause-founded
returns-clause-founded g c = c.find.ensures.founded

pub returns-clause-asks : goal.returns-clause-asks
returns-clause-asks g c = c.find.ensures.asks

pub returns-clause-grows : goal.returns-clause-grows
returns-clause-grows g c = c.find.ensures.grows

pub returns-in_err-found-clause-stand : goal.returns-in_err-found-clause-stand
returns-in_err-found-clause-stand g c = c.find.ensures.stand

pub returns-in_err-found-clause-founded : goal.returns-in_err-found-clause-founded
returns-in_err-found-clause-founded g c = c.find.ensures.founded

pub returns-in_err-found-clause-asks : goal.returns-in_err-found-clause-asks
returns-in_err-found-clause-asks g c = c.find.ensures.asks

pub returns-in_err-found-clause-grows : goal.returns-in_err-found-clause-grows
returns-in_err-found-clause-grows g c = c.find.ensures.grows

pub returns-in_err-put_found-clause-stand : goal.returns-in_err-put_found-clause-stand
returns-in_err-put_found-clause-stand g c = c.find.ensures.stand

pub returns-in_err-put_found-clause-founded : goal.returns-in_err-put_found-clause-founded
returns-in_err-put_found-clause-founded g c = c.find.ensures.founded

pub returns-in_err-put_found-clause-asks : goal.returns-in_err-put_found-clause-asks
returns-in_err-put_found-clause-asks g c = c.find.ensures.asks

pub returns-in_err-put_found-clause-grows : goal.returns-in_err-put_found-clause-grows
returns-in_err-put_found-clause-grows g c = c.find.ensures.grows

pub returns-clause-only : goal.returns-clause-only
returns-clause-only g c = node_asked c.args.plan.now c.args.at _ _ _ c.in_ok-found.ensures.asked

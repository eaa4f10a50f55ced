use Rattle.std.proofs.Common.{rules, tests, ◌==◌}
use Rattle.std.proofs.lemmas.Iterator.{YieldsList-from_slice}
use Rattle.std.proofs.lemmas.Iterator.Search.{position_from_yields_List}
use Rattle.dita_doc.proofs.CutLaws.{IsCutBy, cut_at}
use Rattle.dita_doc.proofs.bytes.split_at_first.Goals as goal
use Rattle.dita_doc.proofs.bytes.split_at_first.Goals.{After-position}

-- where the bytes are cut, by what `position` answered
found : (c : After-position) → IsCutBy c.args.byte c.args.bytes.now c.position.result
found c =
    cut_at c.args.byte c.args.bytes.now c.position.result
    (position_from_yields_List (λ b. b == c.args.byte) _ _ c.position.result c.position.ensures.ran
    (YieldsList-from_slice _ c.iter.ensures.rest) (λ x b q k. search (rules, tests)))

pub returns-in_err-at : goal.returns-in_err-at
returns-in_err-at c =
    let lacks = rw c.in_err-at.was at (found (goal.at.returns-in_err-at c).After-position) in
    rw c.from_residual.ensures lacks

pub returns : goal.returns
returns c = rw c.in_ok-at.was at (found (goal.at.returns c).After-position)

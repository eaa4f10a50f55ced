use Rattle.pushed_docs.specs.Made.{IsKept}
use Rattle.pushed_docs.proofs.MadeLaws.{known_found}
use Rattle.pushed_docs.proofs.docs.PushedDocs.find.Goals as goal

pub returns-clause-kept : goal.returns-clause-kept
returns-clause-kept c = λ world documents kept. known_found (IsKept world documents) c.args.self.now.docs
    c.args.name.now _ c.get.ensures.value kept.made

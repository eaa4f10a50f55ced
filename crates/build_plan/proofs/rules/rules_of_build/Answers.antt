use Rattle.std.proofs.Common.{refl}
use Rattle.readers.proofs.DocumentLaws.{asks_same}
use Rattle.readers.proofs.FoundedLaws.{stays_same}
use Rattle.readers.proofs.GrowthLaws.{grows_same}
use Rattle.build_plan.proofs.TellLaws.{asks_named, stays_named}
use Rattle.build_plan.proofs.rules.rules_of_build.Goals as goal

pub returns-in_default-clause-founded : goal.returns-in_default-clause-founded
returns-in_default-clause-founded g c = stays_same _ _ _ refl

pub returns-in_default-clause-asks : goal.returns-in_default-clause-asks
returns-in_default-clause-asks g c = asks_same _ _ _ _ refl

pub returns-in_default-clause-grows : goal.returns-in_default-clause-grows
returns-in_default-clause-grows g c = grows_same _

pub returns-in_err-doc-clause-founded : goal.returns-in_err-doc-clause-founded
returns-in_err-doc-clause-founded g c = stays_named c.args.val c.in-Some.val _ _ c.in-Some.is c.doc.ensures.founded

pub returns-in_err-doc-clause-asks : goal.returns-in_err-doc-clause-asks
returns-in_err-doc-clause-asks g c = asks_named c.args.val c.in-Some.val _ _ c.in-Some.is c.doc.ensures.asks

pub returns-in_default-2-clause-founded : goal.returns-in_default-2-clause-founded
returns-in_default-2-clause-founded g c = stays_named c.args.val c.in-Some.val _ _ c.in-Some.is c.doc.ensures.founded

pub returns-in_default-2-clause-asks : goal.returns-in_default-2-clause-asks
returns-in_default-2-clause-asks g c = asks_named c.args.val c.in-Some.val _ _ c.in-Some.is c.doc.ensures.asks

pub returns-in-Ok-clause-founded : goal.returns-in-Ok-clause-founded
returns-in-Ok-clause-founded g c = stays_named c.args.val c.in-Some.val _ _ c.in-Some.is c.doc.ensures.founded

pub returns-in-Ok-clause-asks : goal.returns-in-Ok-clause-asks
returns-in-Ok-clause-asks g c = asks_named c.args.val c.in-Some.val _ _ c.in-Some.is c.doc.ensures.asks

pub returns-in-Err-Fault-clause-founded : goal.returns-in-Err-Fault-clause-founded
returns-in-Err-Fault-clause-founded g c = stays_named c.args.val c.in-Some.val _ _ c.in-Some.is c.doc.ensures.founded

pub returns-in-Err-Fault-clause-asks : goal.returns-in-Err-Fault-clause-asks
returns-in-Err-Fault-clause-asks g c = asks_named c.args.val c.in-Some.val _ _ c.in-Some.is c.doc.ensures.asks

pub returns-clause-founded : goal.returns-clause-founded
returns-clause-founded g c = stays_named c.args.val c.in-Some.val _ _ c.in-Some.is c.doc.ensures.founded

pub returns-clause-asks : goal.returns-clause-asks
returns-clause-asks g c = asks_named c.args.val c.in-Some.val _ _ c.in-Some.is c.doc.ensures.asks

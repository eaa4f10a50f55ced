use Rattle.std.proofs.Common.{refl, subst, sym}
use Rattle.std.specs.Prelude.{IsTrue, is_some}
use Rattle.std.specs.BTreeMap as tree
use Rattle.std.specs.Cmp.Lexicographic.{slice_cmp}
use Rattle.std.specs.Ordering.{nat_cmp}
use Rattle.readers.proofs.DocumentLaws.{asks_same}
use Rattle.readers.proofs.FoundedLaws.{stays_same}
use Rattle.readers.proofs.GrowthLaws.{grows_same}
use Rattle.conref_push.specs.Targets.{IsTargetDoc}
use Rattle.conref_push.proofs.DocLaws.{known_put, put_here}
use Rattle.conref_push.proofs.target_docs.Targets.ask.Goals as goal

pub returns-then-contains_key-clause-has : goal.returns-then-contains_key-clause-has
returns-then-contains_key-clause-has g c = sym c.if-contains_key.ensures

pub returns-clause-docs : goal.returns-clause-docs
returns-clause-docs g c = λ world agrees docs.
    known_put (IsTargetDoc world) c.args.self.now.docs c.insert.new.self c.args.name.now c.in_ok-clone.field-0
    c.in_ok-found.found c.in_ok-insert.ensures.updates.0 c.in_ok-clone.ensures.cases
    (c.in_ok-found.ensures.known world agrees) docs

pub returns-clause-has : goal.returns-clause-has
returns-clause-has g c = subst (λ n. IsTrue (is_some (tree.get (slice_cmp nat_cmp) c.insert.new.self n)))
    c.in_ok-clone.ensures.cases (put_here c.args.self.now.docs c.insert.new.self c.in_ok-clone.field-0
    c.in_ok-found.found c.in_ok-insert.ensures.updates.0)

pub returns-then-contains_key-clause-stand : goal.returns-then-contains_key-clause-stand
returns-then-contains_key-clause-stand g c = refl

pub returns-then-contains_key-clause-founded : goal.returns-then-contains_key-clause-founded
returns-then-contains_key-clause-founded g c = stays_same _ _ _ refl

pub returns-then-contains_key-clause-asks : goal.returns-then-contains_key-clause-asks
returns-then-contains_key-clause-asks g c = asks_same _ _ _ _ refl

pub returns-then-contains_key-clause-grows : goal.returns-then-contains_key-clause-grows
returns-then-contains_key-clause-grows g c = grows_same _

pub returns-in_err-found-clause-stand : goal.returns-in_err-found-clause-stand
returns-in_err-found-clause-stand g c = c.target_doc.ensures.stand

pub returns-in_err-found-clause-founded : goal.returns-in_err-found-clause-founded
returns-in_err-found-clause-founded g c = c.target_doc.ensures.founded

pub returns-in_err-found-clause-asks : goal.returns-in_err-found-clause-asks
returns-in_err-found-clause-asks g c = c.target_doc.ensures.asks

pub returns-in_err-found-clause-grows : goal.returns-in_err-found-clause-grows
returns-in_err-found-clause-grows g c = c.target_doc.ensures.grows

pub returns-in_err-clone-clause-stand : goal.returns-in_err-clone-clause-stand
returns-in_err-clone-clause-stand g c = c.target_doc.ensures.stand

pub returns-in_err-clone-clause-founded : goal.returns-in_err-clone-clause-founded
returns-in_err-clone-clause-founded g c = c.target_doc.ensures.founded

pub returns-in_err-clone-clause-asks : goal.returns-in_err-clone-clause-asks
returns-in_err-clone-clause-asks g c = c.target_doc.ensures.asks

pub returns-in_err-clone-clause-grows : goal.returns-in_err-clone-clause-grows
returns-in_err-clone-clause-grows g c = c.target_doc.ensures.grows

pub returns-in_err-insert-clause-stand : goal.returns-in_err-insert-clause-stand
returns-in_err-insert-clause-stand g c = c.target_doc.ensures.stand

pub returns-in_err-insert-clause-founded : goal.returns-in_err-insert-clause-founded
returns-in_err-insert-clause-founded g c = c.target_doc.ensures.founded

pub returns-in_err-insert-clause-asks : goal.returns-in_err-insert-clause-asks
returns-in_err-insert-clause-asks g c = c.target_doc.ensures.asks

pub returns-in_err-insert-clause-grows : goal.returns-in_err-insert-clause-grows
returns-in_err-insert-clause-grows g c = c.target_doc.ensures.grows

pub returns-clause-stand : goal.returns-clause-stand
returns-clause-stand g c = c.target_doc.ensures.stand

pub returns-clause-founded : goal.returns-clause-founded
returns-clause-founded g c = c.target_doc.ensures.founded

pub returns-clause-asks : goal.returns-clause-asks
returns-clause-asks g c = c.target_doc.ensures.asks

pub returns-clause-grows : goal.returns-clause-grows
returns-clause-grows g c = c.target_doc.ensures.grows

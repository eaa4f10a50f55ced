use Rattle.std.proofs.Common.{◌∙◌, sym, subst}
use Rattle.readers.specs.Setting.{Stand}
use Rattle.readers.specs.Told.{Agrees, tree_found}
use Rattle.conref_targets.proofs.RuleLaws.{keeps_same, one_same, rules_put, rules_there}
use Rattle.readers.proofs.OnlyLaws.{document_is_of, only_told}
use Rattle.conref_targets.proofs.rules.RuleLists.read_one.Goals as goal

pub returns-then-contains_key-clause-has : goal.returns-then-contains_key-clause-has
returns-then-contains_key-clause-has g c =
    record { keeps = keeps_same c.args.self.now; has = sym c.if-contains_key.ensures }

pub returns-clause-kept : goal.returns-clause-kept
returns-clause-kept g c = λ are.
    let here = (g.R.Reader.stand c.args.reader.now).world in
    rules_put c.args.self.now (record { lists = c.insert.new.self }) c.in_ok-clone.field-0 c.args.name.now
    c.in_ok-rules.rules c.in_ok-clone.ensures.cases c.in_ok-insert.ensures.updates.0 here
    (c.in_ok-rules.ensures here (subst (Agrees here) c.in_ok-doc.ensures.told
    (subst (λ (stand : Stand). Agrees stand.world (g.R.Reader.told c.doc.new.self)) c.in_ok-doc.ensures.stand
    (g.met.R.Reader.agrees c.doc.new.self))).0) are

pub returns-then-contains_key-clause-same : goal.returns-then-contains_key-clause-same
returns-then-contains_key-clause-same g c = λ world agrees.
    let here = (g.R.Reader.stand c.args.reader.now).world in
    one_same here world c.args.name.now ((subst (Agrees world) c.in_ok-doc.ensures.told agrees).0
    ∙ sym (subst (Agrees here) c.in_ok-doc.ensures.told
    (subst (λ (stand : Stand). Agrees stand.world (g.R.Reader.told c.doc.new.self)) c.in_ok-doc.ensures.stand
    (g.met.R.Reader.agrees c.doc.new.self))).0)

pub returns-clause-same : goal.returns-clause-same
returns-clause-same g c = λ world agrees.
    let here = (g.R.Reader.stand c.args.reader.now).world in
    one_same here world c.args.name.now ((subst (Agrees world) c.in_ok-doc.ensures.told agrees).0
    ∙ sym (subst (Agrees here) c.in_ok-doc.ensures.told
    (subst (λ (stand : Stand). Agrees stand.world (g.R.Reader.told c.doc.new.self)) c.in_ok-doc.ensures.stand
    (g.met.R.Reader.agrees c.doc.new.self))).0)

pub returns-clause-has : goal.returns-clause-has
returns-clause-has g c =
    rules_there c.args.self.now (record { lists = c.insert.new.self }) c.in_ok-clone.field-0 c.args.name.now
    c.in_ok-rules.rules c.in_ok-clone.ensures.cases c.in_ok-insert.ensures.updates.0 c.in_ok-insert.ensures.updates.1

pub returns-then-contains_key-clause-only : goal.returns-then-contains_key-clause-only
returns-then-contains_key-clause-only g c =
    only_told _ _ _ _ (document_is_of c.args.name.now (tree_found c.in_ok-doc.doc)) c.in_ok-doc.ensures.told

pub returns-clause-only : goal.returns-clause-only
returns-clause-only g c =
    only_told _ _ _ _ (document_is_of c.args.name.now (tree_found c.in_ok-doc.doc)) c.in_ok-doc.ensures.told

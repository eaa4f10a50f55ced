use Rattle.std.proofs.Common.{OnOk, ◌+◌, ◌∙◌, subst, sym}
use Rattle.map_spec.specs.MapTree.{count}
use Rattle.branch_copies.specs.Appended.{AreAppended}
use Rattle.branch_copies.proofs.OwnLaws.{child_passed, child_read}
use Rattle.branch_copies.proofs.branches.Branches.read_child.Goals as goal

pub returns-then-not-is_ditavalref_at-clause-known : goal.returns-then-not-is_ditavalref_at-clause-known
returns-then-not-is_ditavalref_at-clause-known g c = λ world parent head below more agrees are stands known.
    child_passed world c.args.nodes.now parent c.args.child head below more stands c.args.ditavals.now.read.items
    c.args.ditavals.now.known.entries c.args.self.now known
    (sym c.is_ditavalref_at.ensures ∙ c.if-not-is_ditavalref_at.true)

pub returns-clause-known : goal.returns-clause-known
returns-clause-known g c = λ world parent head below more agrees are stands known.
    let place = c.args.child in
    subst (λ defined. OnOk c.read.result (AreAppended world c.args.nodes.now c.args.ditavals.now.read.items
    c.read.new.ditavals.read.items c.read.new.ditavals.known.entries c.args.self.now c.read.new.self defined))
    (child_read world c.args.nodes.now parent place head below more stands
    (sym c.is_ditavalref_at.ensures ∙ c.if-not-is_ditavalref_at.false))
    (c.read.ensures.known world head parent (place + 1 + count below) agrees are stands.0 known)

pub returns-clause-asks : goal.returns-clause-asks
returns-clause-asks g c =
    c.read.ensures.asks (sym c.is_ditavalref_at.ensures ∙ c.if-not-is_ditavalref_at.false)

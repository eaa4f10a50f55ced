use Rattle.std.proofs.Common.{◌∙◌, refl, sym}
use Rattle.readers.proofs.FoundedLaws.{stays_same}
use Rattle.readers.proofs.GrowthLaws.{grows_same}
use Rattle.branch_copies.proofs.DitavalrefLaws.{ditavals_same}
use Rattle.branch_copies.proofs.OwnLaws.{other_passed, own_read, ref_passed}
use Rattle.branch_copies.proofs.branches.Branches.read_from.Goals as goal

pub returns-then-is_ditavalref_at-clause-known : goal.returns-then-is_ditavalref_at-clause-known
returns-then-is_ditavalref_at-clause-known g c = λ world parent head below more agrees are stands known past.
    ref_passed world c.args.nodes.now parent c.args.at head below more stands c.args.ditavals.now.read.items
    c.args.ditavals.now.known.entries c.args.self.now known c.end_of.result
    (sym c.is_ditavalref_at.ensures ∙ c.if-is_ditavalref_at.true) c.end_of.ensures.is

pub returns-then-not-has_branches_at-clause-known : goal.returns-then-not-has_branches_at-clause-known
returns-then-not-has_branches_at-clause-known g c = λ world parent head below more agrees are stands known past.
    other_passed world c.args.nodes.now parent c.args.at head below more stands c.args.ditavals.now.read.items
    c.args.ditavals.now.known.entries c.args.self.now known
    (sym c.is_ditavalref_at.ensures ∙ c.if-is_ditavalref_at.false)
    (sym c.has_branches_at.ensures ∙ c.if-not-has_branches_at.true)

pub returns-clause-known : goal.returns-clause-known
returns-clause-known g c = λ world parent head below more agrees are stands known past.
    own_read world c.args.nodes.now parent c.args.at head below more stands c.args.ditavals.now.read.items
    c.read_at.new.ditavals.read.items c.read_at.new.ditavals.known.entries c.args.self.now c.read_at.new.self
    (sym c.is_ditavalref_at.ensures ∙ c.if-is_ditavalref_at.false)
    (sym c.has_branches_at.ensures ∙ c.if-not-has_branches_at.false)
    (c.in_ok-read_at.ensures.known world parent head below more agrees are stands known)

pub returns-then-at-next-clause-stand : goal.returns-then-at-next-clause-stand
returns-then-at-next-clause-stand g c = refl

pub returns-then-at-next-clause-grows : goal.returns-then-at-next-clause-grows
returns-then-at-next-clause-grows g c = grows_same _

pub returns-then-at-next-clause-founded : goal.returns-then-at-next-clause-founded
returns-then-at-next-clause-founded g c = stays_same _ _ _ refl

pub returns-then-at-next-clause-asks : goal.returns-then-at-next-clause-asks
returns-then-at-next-clause-asks g c = ditavals_same _ _ _ _ _ refl

pub returns-then-is_ditavalref_at-clause-stand : goal.returns-then-is_ditavalref_at-clause-stand
returns-then-is_ditavalref_at-clause-stand g c = refl

pub returns-then-is_ditavalref_at-clause-grows : goal.returns-then-is_ditavalref_at-clause-grows
returns-then-is_ditavalref_at-clause-grows g c = grows_same _

pub returns-then-is_ditavalref_at-clause-founded : goal.returns-then-is_ditavalref_at-clause-founded
returns-then-is_ditavalref_at-clause-founded g c = stays_same _ _ _ refl

pub returns-then-is_ditavalref_at-clause-asks : goal.returns-then-is_ditavalref_at-clause-asks
returns-then-is_ditavalref_at-clause-asks g c = ditavals_same _ _ _ _ _ refl

pub returns-then-not-has_branches_at-clause-stand : goal.returns-then-not-has_branches_at-clause-stand
returns-then-not-has_branches_at-clause-stand g c = refl

pub returns-then-not-has_branches_at-clause-grows : goal.returns-then-not-has_branches_at-clause-grows
returns-then-not-has_branches_at-clause-grows g c = grows_same _

pub returns-then-not-has_branches_at-clause-founded : goal.returns-then-not-has_branches_at-clause-founded
returns-then-not-has_branches_at-clause-founded g c = stays_same _ _ _ refl

pub returns-then-not-has_branches_at-clause-asks : goal.returns-then-not-has_branches_at-clause-asks
returns-then-not-has_branches_at-clause-asks g c = ditavals_same _ _ _ _ _ refl

pub returns-in_err-read_at-clause-stand : goal.returns-in_err-read_at-clause-stand
returns-in_err-read_at-clause-stand g c = c.read_at.ensures.stand

pub returns-in_err-read_at-clause-grows : goal.returns-in_err-read_at-clause-grows
returns-in_err-read_at-clause-grows g c = c.read_at.ensures.grows

pub returns-in_err-read_at-clause-founded : goal.returns-in_err-read_at-clause-founded
returns-in_err-read_at-clause-founded g c = c.read_at.ensures.founded

pub returns-in_err-read_at-clause-asks : goal.returns-in_err-read_at-clause-asks
returns-in_err-read_at-clause-asks g c = c.read_at.ensures.asks

pub returns-clause-stand : goal.returns-clause-stand
returns-clause-stand g c = c.read_at.ensures.stand

pub returns-clause-grows : goal.returns-clause-grows
returns-clause-grows g c = c.read_at.ensures.grows

pub returns-clause-founded : goal.returns-clause-founded
returns-clause-founded g c = c.read_at.ensures.founded

pub returns-clause-asks : goal.returns-clause-asks
returns-clause-asks g c = c.read_at.ensures.asks

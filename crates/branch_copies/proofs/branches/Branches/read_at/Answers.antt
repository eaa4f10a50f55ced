use Rattle.std.proofs.Common.{◌≡◌, ◌+◌, ◌∙◌, [], arith, refl}
use Rattle.map_spec.specs.MapTree.{count}
use Rattle.readers.proofs.FoundedLaws.{stays_after, stays_same}
use Rattle.readers.proofs.GrowthLaws.{agrees_before, grows_same, grows_trans}
use Rattle.branch_copies.proofs.DitavalrefLaws.{ditavals_after, ditavals_same, given_later}
use Rattle.branch_copies.proofs.RefLaws.{refs_begin, refs_end_read, refs_next}
use Rattle.branch_copies.proofs.StandLaws.{end_stands}
use Rattle.branch_copies.proofs.branches.Branches.read_at.Goals as goal

pub loop-child-init : goal.loop-child-init
loop-child-init g c = record {
  read = λ world parent head below more agrees are stands known.
      (let at = c.args.at in
      let end = c.end_of-end.result in
      let ends : end ≡ at + 1 + count below =
      c.end_of-end.ensures.is ∙ end_stands c.args.nodes.now parent at head below more stands in
      let first : c.saturating_add-child.result ≡ at + 1 =
      omega (arith, ends, c.end_of-end.type_inv, c.saturating_add-child.ensures) in
      refs_begin world c.args.nodes.now c.args.ditavals.now.read.items c.args.self.now at end below parent
      c.saturating_add-child.result head more c.args.ditavals.now.known.entries first c.end_of-end.ensures.is stands
      known);
  stand = refl;
  grows = grows_same _;
  founded = stays_same [] _ _ refl;
  asks = ditavals_same _ _ [] _ _ refl;
}

pub loop-child-preserved : goal.loop-child-preserved
loop-child-preserved g c = record {
  read = λ world parent head below more agrees are stands known.
      refs_next world c.args.nodes.now c.args.ditavals.now.read.items c.args.self.now c.args.at c.end_of-end.result below
      c.loop-child.ditavals.read.items c.read_child.new.ditavals.read.items c.loop-child.ditavals.known.entries
      c.read_child.new.ditavals.known.entries c.loop-child.self c.read_child.new.self c.loop-child.child
      c.next_sibling-child.result c.loop-child-test.true c.next_sibling-child.ensures.is
      (c.loop-child.invariant.read world parent head below more
      (agrees_before world _ _ c.in_ok-read_child.ensures.grows agrees) are stands known)
      (λ child inside rest standing knowing.
      c.in_ok-read_child.ensures.known world c.args.at child inside rest agrees are standing knowing);
  stand = c.in_ok-read_child.ensures.stand ∙ c.loop-child.invariant.stand;
  grows = grows_trans _ _ _ c.loop-child.invariant.grows c.in_ok-read_child.ensures.grows;
  founded = stays_after [] _ _ _ c.loop-child.invariant.grows c.loop-child.invariant.founded c.in_ok-read_child.ensures.founded;
  asks = ditavals_after _ _ _ _ _ c.loop-child.invariant.asks c.in_ok-read_child.ensures.asks;
}

pub returns-clause-known : goal.returns-clause-known
returns-clause-known g c = λ world parent head below more agrees are stands known.
    refs_end_read world c.args.nodes.now c.args.ditavals.now.read.items c.args.self.now c.args.at c.end_of-end.result
    below c.loop-child.ditavals.read.items c.loop-child.ditavals.known.entries c.loop-child.self c.loop-child.child
    c.loop-child-test.false (c.loop-child.invariant.read world parent head below more agrees are stands known)

pub read_child-requires : goal.read_child-requires
read_child-requires g c = record { given = given_later _ _ _ _ c.loop-child.invariant.grows c.requires.given }

pub returns-in_err-read_child-clause-stand : goal.returns-in_err-read_child-clause-stand
returns-in_err-read_child-clause-stand g c = c.read_child.ensures.stand ∙ c.loop-child.invariant.stand

pub returns-in_err-read_child-clause-grows : goal.returns-in_err-read_child-clause-grows
returns-in_err-read_child-clause-grows g c = grows_trans _ _ _ c.loop-child.invariant.grows c.read_child.ensures.grows

pub returns-in_err-read_child-clause-founded : goal.returns-in_err-read_child-clause-founded
returns-in_err-read_child-clause-founded g c = stays_after [] _ _ _ c.loop-child.invariant.grows c.loop-child.invariant.founded c.read_child.ensures.founded

pub returns-in_err-read_child-clause-asks : goal.returns-in_err-read_child-clause-asks
returns-in_err-read_child-clause-asks g c =
    ditavals_after _ _ _ _ _ c.loop-child.invariant.asks c.read_child.ensures.asks

pub returns-clause-stand : goal.returns-clause-stand
returns-clause-stand g c = c.loop-child.invariant.stand

pub returns-clause-grows : goal.returns-clause-grows
returns-clause-grows g c = c.loop-child.invariant.grows

pub returns-clause-founded : goal.returns-clause-founded
returns-clause-founded g c = c.loop-child.invariant.founded

pub returns-clause-asks : goal.returns-clause-asks
returns-clause-asks g c = c.loop-child.invariant.asks

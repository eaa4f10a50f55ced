use Rattle.std.proofs.Common.{◌≡◌, ◌∙◌, [], arith, length, refl, rules, vec_len}
use Rattle.readers.proofs.FoundedLaws.{stays_after, stays_same}
use Rattle.readers.proofs.GrowthLaws.{agrees_before, grows_same, grows_trans}
use Rattle.branch_copies.proofs.DitavalrefLaws.{ditavals_after, ditavals_same, given_later}
use Rattle.branch_copies.proofs.ReadingLaws.{reading_begins, reading_ends, reading_next}
use Rattle.branch_copies.proofs.branches.read_branches.Goals as goal

pub loop-at-init : goal.loop-at-init
loop-at-init g c = record {
  read = λ world tree agrees are stands long known.
      reading_begins world c.args.nodes.now tree c.args.ditavals.now.read.items c.args.ditavals.now.known.entries
      c.new-read.result known c.new-read.ensures.branches c.new-read.ensures.spans c.new-read.ensures.faults stands long;
  stand = refl;
  grows = grows_same _;
  founded = stays_same [] _ _ refl;
  asks = ditavals_same _ _ [] _ _ refl;
}

pub loop-at-preserved : goal.loop-at-preserved
loop-at-preserved g c = record {
  read = λ world tree agrees are stands long known.
      (let count : vec_len c.loop-at.read.branches ≡ length c.loop-at.read.branches.items = search rules in
      let more : vec_len c.read_from.new.self.branches ≡ length c.read_from.new.self.branches.items = search rules in
      reading_next world c.args.nodes.now tree c.loop-at.ditavals.read.items c.read_from.new.ditavals.read.items
      c.loop-at.ditavals.known.entries c.read_from.new.ditavals.known.entries c.loop-at.read c.read_from.new.self _
      c.len-first.result c.saturating_sub-count.result refl refl c.in_ok-push.ensures.items
      (c.len-first.ensures ∙ count)
      (omega (arith, c.saturating_sub-count.ensures, c.len.ensures, c.len-first.ensures, count, more)) c.loop-at.at c.loop-at.next
      c.in_ok-next.next c.loop-at-test.true
      (c.loop-at.invariant.read world tree (agrees_before world _ _ c.in_ok-next.ensures.grows agrees) are stands long
      known)
      (λ knowing less. c.in_ok-next.ensures.passed world knowing less)
      (λ parent head below more standing knowing past.
      c.in_ok-next.ensures.known world parent head below more agrees are standing knowing past));
  stand = c.in_ok-next.ensures.stand ∙ c.loop-at.invariant.stand;
  grows = grows_trans _ _ _ c.loop-at.invariant.grows c.in_ok-next.ensures.grows;
  founded = stays_after [] _ _ _ c.loop-at.invariant.grows c.loop-at.invariant.founded c.in_ok-next.ensures.founded;
  asks = ditavals_after _ _ _ _ _ c.loop-at.invariant.asks c.in_ok-next.ensures.asks;
}

pub returns-clause-known : goal.returns-clause-known
returns-clause-known g c = λ world tree agrees are stands long known.
    reading_ends world c.args.nodes.now tree c.loop-at.ditavals.read.items c.loop-at.ditavals.known.entries c.loop-at.read
    c.loop-at.at c.loop-at.next c.loop-at-test.false (c.loop-at.invariant.read world tree agrees are stands long known)

pub read_from-requires : goal.read_from-requires
read_from-requires g c = record { given = given_later _ _ _ _ c.loop-at.invariant.grows c.requires.given }

pub returns-in_err-next-clause-stand : goal.returns-in_err-next-clause-stand
returns-in_err-next-clause-stand g c = c.read_from.ensures.stand ∙ c.loop-at.invariant.stand

pub returns-in_err-next-clause-grows : goal.returns-in_err-next-clause-grows
returns-in_err-next-clause-grows g c = grows_trans _ _ _ c.loop-at.invariant.grows c.read_from.ensures.grows

pub returns-in_err-next-clause-founded : goal.returns-in_err-next-clause-founded
returns-in_err-next-clause-founded g c = stays_after [] _ _ _ c.loop-at.invariant.grows c.loop-at.invariant.founded c.read_from.ensures.founded

pub returns-in_err-next-clause-asks : goal.returns-in_err-next-clause-asks
returns-in_err-next-clause-asks g c =
    ditavals_after _ _ _ _ _ c.loop-at.invariant.asks c.read_from.ensures.asks

pub returns-in_err-push-clause-stand : goal.returns-in_err-push-clause-stand
returns-in_err-push-clause-stand g c = c.read_from.ensures.stand ∙ c.loop-at.invariant.stand

pub returns-in_err-push-clause-grows : goal.returns-in_err-push-clause-grows
returns-in_err-push-clause-grows g c = grows_trans _ _ _ c.loop-at.invariant.grows c.read_from.ensures.grows

pub returns-in_err-push-clause-founded : goal.returns-in_err-push-clause-founded
returns-in_err-push-clause-founded g c = stays_after [] _ _ _ c.loop-at.invariant.grows c.loop-at.invariant.founded c.read_from.ensures.founded

pub returns-in_err-push-clause-asks : goal.returns-in_err-push-clause-asks
returns-in_err-push-clause-asks g c =
    ditavals_after _ _ _ _ _ c.loop-at.invariant.asks c.read_from.ensures.asks

pub returns-clause-stand : goal.returns-clause-stand
returns-clause-stand g c = c.loop-at.invariant.stand

pub returns-clause-grows : goal.returns-clause-grows
returns-clause-grows g c = c.loop-at.invariant.grows

pub returns-clause-founded : goal.returns-clause-founded
returns-clause-founded g c = c.loop-at.invariant.founded

pub returns-clause-asks : goal.returns-clause-asks
returns-clause-asks g c = c.loop-at.invariant.asks

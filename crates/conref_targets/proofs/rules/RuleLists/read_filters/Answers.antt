use Rattle.std.proofs.Common.{◌∙◌, ◌∷◌, [], sym, subst, arith}
use Rattle.std.proofs.lemmas.List.{take_all}
use Rattle.readers.specs.Setting.{Stand}
use Rattle.readers.proofs.DocumentLaws.{asks_after, asks_one}
use Rattle.readers.proofs.FoundedLaws.{document_among, stays_after, stays_one}
use Rattle.readers.proofs.GrowthLaws.{agrees_before, grows_trans}
use Rattle.conref_targets.specs.Rules.{AreRules, HasAll, HaveSame}
use Rattle.conref_targets.proofs.RuleLaws.{keeps_trans, next_same, read_next}
use Rattle.readers.proofs.OnlyLaws.{only_after, only_one}
use Rattle.conref_targets.proofs.rules.RuleLists.read_filters.Goals as goal

pub loop-filter-preserved : goal.loop-filter-preserved
loop-filter-preserved g c = record {
  kept = λ are.
      let here = λ (stand : Stand). AreRules stand.world c.read_one.new.self in
      subst here c.loop-filter.invariant.stand (c.in_ok-read_one.ensures.kept
      (subst (λ (stand : Stand). AreRules stand.world c.loop-filter.self) (sym c.loop-filter.invariant.stand)
      (c.loop-filter.invariant.kept are)));
  same = λ world agrees.
      next_same (g.R.Reader.stand c.args.reader.now).world world c.args.filters.now c.loop-filter.filter-index c.filter-item.result c.loop-filter-test.true
      c.filter-item.is
      (c.loop-filter.invariant.same world (agrees_before world _ _ c.in_ok-read_one.ensures.grows agrees))
      (subst (λ (stand : Stand). HaveSame stand.world world (c.filter-item.result ∷ [])) c.loop-filter.invariant.stand
      (c.in_ok-read_one.ensures.same world agrees));
  keeps = keeps_trans _ _ _ c.loop-filter.invariant.keeps c.in_ok-read_one.ensures.has.keeps;
  has = read_next c.loop-filter.self c.read_one.new.self c.args.filters.now c.loop-filter.filter-index
      c.filter-item.result c.loop-filter-test.true c.filter-item.is c.loop-filter.invariant.has
      c.in_ok-read_one.ensures.has;
  stand = c.in_ok-read_one.ensures.stand ∙ c.loop-filter.invariant.stand;
  founded = stays_after _ _ _ _ c.loop-filter.invariant.grows c.loop-filter.invariant.founded
      (stays_one c.filter-item.result _ _ _
      (document_among c.args.filters.now c.loop-filter.filter-index c.filter-item.result c.loop-filter-test.true
      c.filter-item.is) c.in_ok-read_one.ensures.founded);
  asks = asks_after _ _ _ _ _ c.loop-filter.invariant.grows c.loop-filter.invariant.asks
      (asks_one _ c.filter-item.result _ _ _
      (document_among c.args.filters.now c.loop-filter.filter-index c.filter-item.result c.loop-filter-test.true
      c.filter-item.is) c.in_ok-read_one.ensures.asks);
  only = only_after _ _ _ _ c.loop-filter.invariant.only (only_one c.filter-item.result c.args.filters.now _ _
      (document_among c.args.filters.now c.loop-filter.filter-index c.filter-item.result c.loop-filter-test.true
      c.filter-item.is) c.in_ok-read_one.ensures.only);
  grows = grows_trans _ _ _ c.loop-filter.invariant.grows c.in_ok-read_one.ensures.grows;
}

pub returns-clause-has : goal.returns-clause-has
returns-clause-has g c =
    subst (HasAll c.loop-filter.self) (take_all c.loop-filter.filter-index c.args.filters.now (omega arith))
    c.loop-filter.invariant.has

pub returns-in_err-read_one-clause-founded : goal.returns-in_err-read_one-clause-founded
returns-in_err-read_one-clause-founded g c =
    stays_after _ _ _ _ c.loop-filter.invariant.grows c.loop-filter.invariant.founded
    (stays_one c.filter-item.result _ _ _
    (document_among c.args.filters.now c.loop-filter.filter-index c.filter-item.result c.loop-filter-test.true
    c.filter-item.is) c.read_one.ensures.founded)

pub returns-in_err-read_one-clause-asks : goal.returns-in_err-read_one-clause-asks
returns-in_err-read_one-clause-asks g c =
    asks_after _ _ _ _ _ c.loop-filter.invariant.grows c.loop-filter.invariant.asks
    (asks_one _ c.filter-item.result _ _ _
    (document_among c.args.filters.now c.loop-filter.filter-index c.filter-item.result c.loop-filter-test.true
    c.filter-item.is) c.read_one.ensures.asks)

pub returns-in_err-read_one-clause-grows : goal.returns-in_err-read_one-clause-grows
returns-in_err-read_one-clause-grows g c = grows_trans _ _ _ c.loop-filter.invariant.grows c.read_one.ensures.grows

pub returns-in_err-read_one-clause-stand : goal.returns-in_err-read_one-clause-stand
returns-in_err-read_one-clause-stand g c = c.read_one.ensures.stand ∙ c.loop-filter.invariant.stand

pub returns-clause-kept : goal.returns-clause-kept
returns-clause-kept g c = c.loop-filter.invariant.kept

pub returns-clause-same : goal.returns-clause-same
returns-clause-same g c = λ world agrees.
    subst (HaveSame (g.R.Reader.stand c.args.reader.now).world world)
    (take_all c.loop-filter.filter-index c.args.filters.now (omega arith)) (c.loop-filter.invariant.same world agrees)

pub returns-clause-founded : goal.returns-clause-founded
returns-clause-founded g c = c.loop-filter.invariant.founded

pub returns-clause-asks : goal.returns-clause-asks
returns-clause-asks g c = c.loop-filter.invariant.asks

pub returns-clause-grows : goal.returns-clause-grows
returns-clause-grows g c = c.loop-filter.invariant.grows

pub returns-clause-only : goal.returns-clause-only
returns-clause-only g c = c.loop-filter.invariant.only

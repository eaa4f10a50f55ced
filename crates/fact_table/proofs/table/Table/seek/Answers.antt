use Rattle.std.proofs.Common.{ap, refl, subst, sym, IfOk}
use Rattle.facts.specs.Latest.{Agrees, IsLatest}
use Rattle.facts.specs.Memo.{MayNote}
use Rattle.fact_table.specs.Noted.{MayClaim, judged_seen}
use Rattle.fact_table.specs.Seen.{TableSeen}
use Rattle.fact_table.specs.Shelf.{row_found}
use Rattle.fact_table.proofs.TableLaws.{noted_table}
use Rattle.fact_table.proofs.table.Table.seek.Goals as goal

pub find-requires : goal.find-requires
find-requires g c = record {
  shelf = c.self.invariant.shelf;
  may = subst (λ (t : TableSeen). MayClaim g.P.Parts.plan_agrees g.P.Parts.own_agrees g.P.Parts.is_sound t.table.rows
      t.judged c.args.key.now c.args.stamp (g.J.Judge.sources c.args.judge.now) (g.J.Judge.build c.args.judge.now))
      (sym c.self.view_is) c.requires;
  noted = c.self.invariant.noted;
}

pub invariant_of-self : goal.invariant_of-self
invariant_of-self g c =
    noted_table c.self.inside _ c.self.invariant refl refl refl refl c.find.ensures.noted

pub returns-clause-found : goal.returns-clause-found
returns-clause-found g c = subst (λ (t : TableSeen). IfOk c.find.result (λ found. IsLatest
    (Agrees g.P.Parts.plan_agrees g.P.Parts.own_agrees) t.table.rows c.args.key.now
    (g.J.Judge.sources c.args.judge.now) (row_found found))) c.self.view_is c.find.ensures.found

pub returns-clause-same : goal.returns-clause-same
returns-clause-same g c = ap (λ (t : TableSeen). t.table) c.self.view_is

pub returns-clause-judged : goal.returns-clause-judged
returns-clause-judged g c = subst (λ (t : TableSeen). MayNote g.P.Parts.plan_agrees
    (g.J.Judge.sources c.args.judge.now) c.args.stamp t.table.rows t.judged (judged_seen c.find.new.memo.items))
    c.self.view_is c.find.ensures.memo

pub returns-clause-sources : goal.returns-clause-sources
returns-clause-sources g c = c.find.ensures.sources

pub returns-clause-build : goal.returns-clause-build
returns-clause-build g c = c.find.ensures.build

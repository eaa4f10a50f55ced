-- The search begins behind all rows, and goes from each row of the key to the one before it.
use Rattle.std.proofs.Common.{◌∙◌, rules, length, refl, sym, subst, true, false}
use Rattle.dita_doc.specs.Desk.{State}
use Rattle.facts.specs.Latest.{Agrees, IsLast}
use Rattle.facts.specs.Rows.{RowData}
use Rattle.fact_table.specs.Noted.{MayGrow, judged_seen}
use Rattle.fact_table.specs.Shelf.{IsNewest, row_of_kept, rows_seen}
use Rattle.fact_table.proofs.FindLaws.{IsRead, agreed_last, is_within, may_judge, older_lower, row_of_key, row_stands, tells_first, walk_on}
use Rattle.fact_table.proofs.MemoLaws.{may_claim_more, notes_more, notes_nothing, rows_more}
use Rattle.fact_table.proofs.WalkLaws.{begins, ends}
use Rattle.fact_table.proofs.shelf.Shelf.find.Goals as goal

pub loop-at-init : goal.loop-at-init
loop-at-init g c =
    let shelf = c.args.self.now in
    let key = c.args.key.now in
    record {
      walk = begins (Agrees g.P.Parts.plan_agrees g.P.Parts.own_agrees) shelf.dropped (rows_seen shelf) key
          (g.J.Judge.sources c.args.judge.now) c.rank_of-at.result
          (subst (IsNewest shelf.dropped (rows_seen shelf) (length (rows_seen shelf)) key) (sym c.rank_of-at.ensures)
          (c.requires.shelf.newest key));
      sources = refl;
      build = refl;
      may = c.requires.may;
      memo = notes_nothing g.P.Parts.plan_agrees (g.J.Judge.sources c.args.judge.now) c.args.stamp (rows_seen shelf)
          (judged_seen c.args.memo.now.items);
      noted = c.requires.noted;
    }

pub overflow_sub-at : goal.overflow_sub-at
overflow_sub-at g c = search rules

pub overflow_sub-at-in-loop-at : goal.overflow_sub-at-in-loop-at
overflow_sub-at-in-loop-at g c = search rules

pub index-kept-requires : goal.index-kept-requires
index-kept-requires g c = is_within (Agrees g.P.Parts.plan_agrees g.P.Parts.own_agrees) c.args.self.now c.args.key.now
    (g.J.Judge.sources c.args.judge.now) c.loop-at.at c.loop-at.invariant.walk c.loop-at-test.true

pub row_agrees-requires : goal.row_agrees-requires
row_agrees-requires g c =
    let agrees = Agrees g.P.Parts.plan_agrees g.P.Parts.own_agrees in
    let sources = g.J.Judge.sources c.args.judge.now in
    let is = c.loop-at.invariant in
    let read : IsRead c.args.self.now c.loop-at.at c.index-kept.result.now = record {
      above = c.loop-at-test.true;
      within = is_within agrees c.args.self.now c.args.key.now sources c.loop-at.at is.walk c.loop-at-test.true;
      is = c.index-kept.ensures;
    } in
    record {
      may = may_judge g.P.Parts.plan_agrees g.P.Parts.own_agrees g.P.Parts.is_sound sources
          (g.J.Judge.sources c.loop-at.judge) (g.J.Judge.build c.args.judge.now) (g.J.Judge.build c.loop-at.judge)
          c.args.stamp (judged_seen c.loop-at.memo.items) (row_of_kept c.index-kept.result.now) is.sources is.build
          (is.may.each (row_of_kept c.index-kept.result.now)
          (row_stands agrees c.args.self.now c.args.key.now sources c.loop-at.at c.index-kept.result.now is.walk read)
          (row_of_key agrees c.args.self.now c.args.key.now sources c.loop-at.at c.index-kept.result.now is.walk read));
    }

pub returns-in_err-row_agrees-clause-memo : goal.returns-in_err-row_agrees-clause-memo
returns-in_err-row_agrees-clause-memo g c =
    let agrees = Agrees g.P.Parts.plan_agrees g.P.Parts.own_agrees in
    let shelf = c.args.self.now in
    let key = c.args.key.now in
    let sources = g.J.Judge.sources c.args.judge.now in
    let at = c.loop-at.at in
    let kept = c.index-kept.result.now in
    let is = c.loop-at.invariant in
    let read : IsRead shelf at kept = record {
      above = c.loop-at-test.true;
      within = is_within agrees shelf key sources at is.walk c.loop-at-test.true;
      is = c.index-kept.ensures;
    } in
    let grows : MayGrow g.P.Parts.plan_agrees sources c.args.stamp (row_of_kept kept) c.loop-at.memo.items
    c.row_agrees.new.memo.items = subst
    (λ (s : State). MayGrow g.P.Parts.plan_agrees s c.args.stamp (row_of_kept kept) c.loop-at.memo.items
    c.row_agrees.new.memo.items) is.sources c.row_agrees.ensures.memo in
    notes_more g.P.Parts.plan_agrees sources c.args.stamp (rows_seen shelf) c.args.memo.now.items c.loop-at.memo.items
    c.row_agrees.new.memo.items (row_of_kept kept) (row_stands agrees shelf key sources at kept is.walk read)
    is.memo grows

pub returns-in_err-row_agrees-clause-noted : goal.returns-in_err-row_agrees-clause-noted
returns-in_err-row_agrees-clause-noted g c =
    let agrees = Agrees g.P.Parts.plan_agrees g.P.Parts.own_agrees in
    let shelf = c.args.self.now in
    let key = c.args.key.now in
    let sources = g.J.Judge.sources c.args.judge.now in
    let at = c.loop-at.at in
    let kept = c.index-kept.result.now in
    let is = c.loop-at.invariant in
    let read : IsRead shelf at kept = record {
      above = c.loop-at-test.true;
      within = is_within agrees shelf key sources at is.walk c.loop-at-test.true;
      is = c.index-kept.ensures;
    } in
    let grows : MayGrow g.P.Parts.plan_agrees sources c.args.stamp (row_of_kept kept) c.loop-at.memo.items
    c.row_agrees.new.memo.items = subst
    (λ (s : State). MayGrow g.P.Parts.plan_agrees s c.args.stamp (row_of_kept kept) c.loop-at.memo.items
    c.row_agrees.new.memo.items) is.sources c.row_agrees.ensures.memo in
    rows_more g.P.Parts.plan_agrees sources c.args.stamp (rows_seen shelf) c.loop-at.memo.items
    c.row_agrees.new.memo.items (row_of_kept kept) (row_stands agrees shelf key sources at kept is.walk read)
    is.noted grows

pub returns-in_err-clone-clause-memo : goal.returns-in_err-clone-clause-memo
returns-in_err-clone-clause-memo g c =
    let agrees = Agrees g.P.Parts.plan_agrees g.P.Parts.own_agrees in
    let shelf = c.args.self.now in
    let key = c.args.key.now in
    let sources = g.J.Judge.sources c.args.judge.now in
    let at = c.loop-at.at in
    let kept = c.index-kept.result.now in
    let is = c.loop-at.invariant in
    let read : IsRead shelf at kept = record {
      above = c.loop-at-test.true;
      within = is_within agrees shelf key sources at is.walk c.loop-at-test.true;
      is = c.index-kept.ensures;
    } in
    let grows : MayGrow g.P.Parts.plan_agrees sources c.args.stamp (row_of_kept kept) c.loop-at.memo.items
    c.row_agrees.new.memo.items = subst
    (λ (s : State). MayGrow g.P.Parts.plan_agrees s c.args.stamp (row_of_kept kept) c.loop-at.memo.items
    c.row_agrees.new.memo.items) is.sources c.row_agrees.ensures.memo in
    notes_more g.P.Parts.plan_agrees sources c.args.stamp (rows_seen shelf) c.args.memo.now.items c.loop-at.memo.items
    c.row_agrees.new.memo.items (row_of_kept kept) (row_stands agrees shelf key sources at kept is.walk read)
    is.memo grows

pub returns-in_err-clone-clause-noted : goal.returns-in_err-clone-clause-noted
returns-in_err-clone-clause-noted g c =
    let agrees = Agrees g.P.Parts.plan_agrees g.P.Parts.own_agrees in
    let shelf = c.args.self.now in
    let key = c.args.key.now in
    let sources = g.J.Judge.sources c.args.judge.now in
    let at = c.loop-at.at in
    let kept = c.index-kept.result.now in
    let is = c.loop-at.invariant in
    let read : IsRead shelf at kept = record {
      above = c.loop-at-test.true;
      within = is_within agrees shelf key sources at is.walk c.loop-at-test.true;
      is = c.index-kept.ensures;
    } in
    let grows : MayGrow g.P.Parts.plan_agrees sources c.args.stamp (row_of_kept kept) c.loop-at.memo.items
    c.row_agrees.new.memo.items = subst
    (λ (s : State). MayGrow g.P.Parts.plan_agrees s c.args.stamp (row_of_kept kept) c.loop-at.memo.items
    c.row_agrees.new.memo.items) is.sources c.row_agrees.ensures.memo in
    rows_more g.P.Parts.plan_agrees sources c.args.stamp (rows_seen shelf) c.loop-at.memo.items
    c.row_agrees.new.memo.items (row_of_kept kept) (row_stands agrees shelf key sources at kept is.walk read)
    is.noted grows

pub returns-then-branch-clause-memo : goal.returns-then-branch-clause-memo
returns-then-branch-clause-memo g c =
    let agrees = Agrees g.P.Parts.plan_agrees g.P.Parts.own_agrees in
    let shelf = c.args.self.now in
    let key = c.args.key.now in
    let sources = g.J.Judge.sources c.args.judge.now in
    let at = c.loop-at.at in
    let kept = c.index-kept.result.now in
    let is = c.loop-at.invariant in
    let read : IsRead shelf at kept = record {
      above = c.loop-at-test.true;
      within = is_within agrees shelf key sources at is.walk c.loop-at-test.true;
      is = c.index-kept.ensures;
    } in
    let grows : MayGrow g.P.Parts.plan_agrees sources c.args.stamp (row_of_kept kept) c.loop-at.memo.items
    c.row_agrees.new.memo.items = subst
    (λ (s : State). MayGrow g.P.Parts.plan_agrees s c.args.stamp (row_of_kept kept) c.loop-at.memo.items
    c.row_agrees.new.memo.items) is.sources c.row_agrees.ensures.memo in
    notes_more g.P.Parts.plan_agrees sources c.args.stamp (rows_seen shelf) c.args.memo.now.items c.loop-at.memo.items
    c.row_agrees.new.memo.items (row_of_kept kept) (row_stands agrees shelf key sources at kept is.walk read)
    is.memo grows

pub returns-then-branch-clause-noted : goal.returns-then-branch-clause-noted
returns-then-branch-clause-noted g c =
    let agrees = Agrees g.P.Parts.plan_agrees g.P.Parts.own_agrees in
    let shelf = c.args.self.now in
    let key = c.args.key.now in
    let sources = g.J.Judge.sources c.args.judge.now in
    let at = c.loop-at.at in
    let kept = c.index-kept.result.now in
    let is = c.loop-at.invariant in
    let read : IsRead shelf at kept = record {
      above = c.loop-at-test.true;
      within = is_within agrees shelf key sources at is.walk c.loop-at-test.true;
      is = c.index-kept.ensures;
    } in
    let grows : MayGrow g.P.Parts.plan_agrees sources c.args.stamp (row_of_kept kept) c.loop-at.memo.items
    c.row_agrees.new.memo.items = subst
    (λ (s : State). MayGrow g.P.Parts.plan_agrees s c.args.stamp (row_of_kept kept) c.loop-at.memo.items
    c.row_agrees.new.memo.items) is.sources c.row_agrees.ensures.memo in
    rows_more g.P.Parts.plan_agrees sources c.args.stamp (rows_seen shelf) c.loop-at.memo.items
    c.row_agrees.new.memo.items (row_of_kept kept) (row_stands agrees shelf key sources at kept is.walk read)
    is.noted grows

pub returns-then-branch-clause-found : goal.returns-then-branch-clause-found
returns-then-branch-clause-found g c =
    let agrees = Agrees g.P.Parts.plan_agrees g.P.Parts.own_agrees in
    let shelf = c.args.self.now in
    let key = c.args.key.now in
    let sources = g.J.Judge.sources c.args.judge.now in
    let at = c.loop-at.at in
    let kept = c.index-kept.result.now in
    let is = c.loop-at.invariant in
    let read : IsRead shelf at kept = record {
      above = c.loop-at-test.true;
      within = is_within agrees shelf key sources at is.walk c.loop-at-test.true;
      is = c.index-kept.ensures;
    } in
    subst (λ (row : RowData). IsLast agrees (rows_seen shelf) key sources row) (sym c.in_ok-clone.ensures.cases)
    (agreed_last agrees shelf key sources at kept is.walk read
    (tells_first agrees (row_of_kept kept).fact sources (g.J.Judge.sources c.loop-at.judge) c.in_ok-row_agrees.field-0 true
    is.sources c.if-branch.true c.in_ok-row_agrees.ensures.tells))

pub loop-at-smaller : goal.loop-at-smaller
loop-at-smaller g c =
    let agrees = Agrees g.P.Parts.plan_agrees g.P.Parts.own_agrees in
    let shelf = c.args.self.now in
    let key = c.args.key.now in
    let sources = g.J.Judge.sources c.args.judge.now in
    let at = c.loop-at.at in
    let kept = c.index-kept.result.now in
    let is = c.loop-at.invariant in
    let read : IsRead shelf at kept = record {
      above = c.loop-at-test.true;
      within = is_within agrees shelf key sources at is.walk c.loop-at-test.true;
      is = c.index-kept.ensures;
    } in
    older_lower agrees shelf key sources at kept is.walk read c.requires.shelf

pub loop-at-preserved : goal.loop-at-preserved
loop-at-preserved g c =
    let agrees = Agrees g.P.Parts.plan_agrees g.P.Parts.own_agrees in
    let shelf = c.args.self.now in
    let key = c.args.key.now in
    let sources = g.J.Judge.sources c.args.judge.now in
    let at = c.loop-at.at in
    let kept = c.index-kept.result.now in
    let is = c.loop-at.invariant in
    let read : IsRead shelf at kept = record {
      above = c.loop-at-test.true;
      within = is_within agrees shelf key sources at is.walk c.loop-at-test.true;
      is = c.index-kept.ensures;
    } in
    let grows : MayGrow g.P.Parts.plan_agrees sources c.args.stamp (row_of_kept kept) c.loop-at.memo.items
    c.row_agrees.new.memo.items = subst
    (λ (s : State). MayGrow g.P.Parts.plan_agrees s c.args.stamp (row_of_kept kept) c.loop-at.memo.items
    c.row_agrees.new.memo.items) is.sources c.row_agrees.ensures.memo in
    record {
      walk = walk_on agrees shelf key sources at kept is.walk read c.requires.shelf
          (tells_first agrees (row_of_kept kept).fact sources (g.J.Judge.sources c.loop-at.judge)
          c.in_ok-row_agrees.field-0 false is.sources c.if-branch.false c.in_ok-row_agrees.ensures.tells);
      sources = c.row_agrees.ensures.sources ∙ is.sources;
      build = c.row_agrees.ensures.build ∙ is.build;
      may = may_claim_more g.P.Parts.plan_agrees g.P.Parts.own_agrees g.P.Parts.is_sound (rows_seen shelf) key
          c.args.stamp sources (g.J.Judge.build c.args.judge.now) c.loop-at.memo.items c.row_agrees.new.memo.items
          (row_of_kept kept) (row_stands agrees shelf key sources at kept is.walk read) is.may grows;
      memo = notes_more g.P.Parts.plan_agrees sources c.args.stamp (rows_seen shelf) c.args.memo.now.items c.loop-at.memo.items
          c.row_agrees.new.memo.items (row_of_kept kept) (row_stands agrees shelf key sources at kept is.walk read)
          is.memo grows;
      noted = rows_more g.P.Parts.plan_agrees sources c.args.stamp (rows_seen shelf) c.loop-at.memo.items
          c.row_agrees.new.memo.items (row_of_kept kept) (row_stands agrees shelf key sources at kept is.walk read)
          is.noted grows;
    }

pub returns-in_err-row_agrees-clause-found : goal.returns-in_err-row_agrees-clause-found
returns-in_err-row_agrees-clause-found g c = search rules

pub returns-in_err-row_agrees-clause-sources : goal.returns-in_err-row_agrees-clause-sources
returns-in_err-row_agrees-clause-sources g c = c.in_err-row_agrees.ensures.sources ∙ c.loop-at.invariant.sources

pub returns-in_err-row_agrees-clause-build : goal.returns-in_err-row_agrees-clause-build
returns-in_err-row_agrees-clause-build g c = c.in_err-row_agrees.ensures.build ∙ c.loop-at.invariant.build

pub returns-in_err-clone-clause-found : goal.returns-in_err-clone-clause-found
returns-in_err-clone-clause-found g c = search rules

pub returns-in_err-clone-clause-sources : goal.returns-in_err-clone-clause-sources
returns-in_err-clone-clause-sources g c = c.in_ok-row_agrees.ensures.sources ∙ c.loop-at.invariant.sources

pub returns-in_err-clone-clause-build : goal.returns-in_err-clone-clause-build
returns-in_err-clone-clause-build g c = c.in_ok-row_agrees.ensures.build ∙ c.loop-at.invariant.build

pub returns-then-branch-clause-sources : goal.returns-then-branch-clause-sources
returns-then-branch-clause-sources g c = c.in_ok-row_agrees.ensures.sources ∙ c.loop-at.invariant.sources

pub returns-then-branch-clause-build : goal.returns-then-branch-clause-build
returns-then-branch-clause-build g c = c.in_ok-row_agrees.ensures.build ∙ c.loop-at.invariant.build

pub returns-clause-found : goal.returns-clause-found
returns-clause-found g c =
    ends (Agrees g.P.Parts.plan_agrees g.P.Parts.own_agrees) c.args.self.now.dropped (rows_seen c.args.self.now)
    c.args.key.now (g.J.Judge.sources c.args.judge.now) c.loop-at.at c.loop-at.invariant.walk (search rules)

pub returns-clause-memo : goal.returns-clause-memo
returns-clause-memo g c = c.loop-at.invariant.memo

pub returns-clause-noted : goal.returns-clause-noted
returns-clause-noted g c = c.loop-at.invariant.noted

pub returns-clause-sources : goal.returns-clause-sources
returns-clause-sources g c = c.loop-at.invariant.sources

pub returns-clause-build : goal.returns-clause-build
returns-clause-build g c = c.loop-at.invariant.build

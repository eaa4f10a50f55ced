use Rattle.std.specs.Prelude.{IfOk, OnOk}
use Rattle.std.proofs.Common.{sym, ap, subst}
use Rattle.std.proofs.lemmas.Result.{IfOk-weaker}
use Rattle.readers.proofs.FoundedLaws.{stays_after}
use Rattle.readers.proofs.GrowthLaws.{agrees_before, grows_trans}
use Rattle.conref_targets.specs.PageAsking.{page_at}
use Rattle.conref_targets.specs.Rules.{AreRules}
use Rattle.readers.specs.Setting.{Stand}
use Rattle.clean_build.specs.Bodies.{AreKnown}
use Rattle.clean_build.specs.BuildInput.{IsReady, context_for}
use Rattle.clean_build.specs.Made.{IsMadeAt, IsPageMade, IsRootLine}
use Rattle.clean_build.specs.Names.{about_page}
use Rattle.clean_build.specs.declared.works.PageMade.{PageMade}
use Rattle.clean_build.specs.Reads.{MayReadFor, ReadsOnly}
use Rattle.clean_build.proofs.NameLaws.{stays_doc, stays_with}
use Rattle.clean_build.proofs.PageLaws.{made_from, made_rooted, made_rootless}
use Rattle.clean_build.proofs.AskLaws.{asks_first, asks_page}
use Rattle.clean_build.proofs.ReadLaws.{reads_own, reads_then}
use Rattle.clean_build.proofs.works.PageWorkPlanTask.run.Goals as goal

pub returns-clause-known : goal.returns-clause-known
returns-clause-known g c = λ world agrees.
    let work = c.args.self in
    let line = c.in-Some.line in
    let here = (g.A.Reader.stand c.args.asker.now).world in
    let stands = c.in_ok-line.ensures.stand in
    let before = agrees_before world _ _ c.rooted.ensures.grows agrees in
    let at = subst (IsRootLine world work.page.now.id.doc) c.in-Some.is (c.in_ok-line.ensures.known world before) in
    made_from c.rooted.result work here world _
    (subst (λ (s : Stand). AreRules s.world work.content.rules
    → IfOk c.rooted.result (λ made. AreRules s.world made.content.rules)) stands c.rooted.ensures.kept)
    (λ ready there links known. IfOk-weaker c.rooted.result (IsMadeAt here world work line)
    (IsPageMade here world work) (λ made is. made_rooted here world work line made at is)
    (subst (λ (s : Stand). IfOk c.rooted.result (IsMadeAt s.world world work line)) stands
    (c.rooted.ensures.known world agrees
    (subst (IsReady world work.ground) (sym (ap (λ (s : Stand). s.setting) stands)) ready) there links
    (subst (λ (s : Stand). AreKnown s.world world work.ground.plan.now work.content) (sym stands) known))))

pub returns-in_default-clause-known : goal.returns-in_default-clause-known
returns-in_default-clause-known g c = λ world agrees.
    let work = c.args.self in
    record {
      rules = λ are. subst (λ (made : PageMade). AreRules (g.A.Reader.stand c.args.asker.now).world made.content.rules)
          (sym c.nothing.ensures) are;
      page = λ ready there links known.
          made_rootless (g.A.Reader.stand c.args.asker.now).world world work _
          (subst (IsRootLine world work.page.now.id.doc) c.in_default.is (c.in_ok-line.ensures.known world agrees))
          c.nothing.ensures known;
    }

pub returns-in_err-line-clause-founded : goal.returns-in_err-line-clause-founded
returns-in_err-line-clause-founded g c =
    stays_doc _ _ _ c.args.self.ground c.args.self.page.now c.root_line.ensures.founded

pub returns-in_default-clause-founded : goal.returns-in_default-clause-founded
returns-in_default-clause-founded g c =
    stays_doc _ _ _ c.args.self.ground c.args.self.page.now c.root_line.ensures.founded

pub returns-clause-founded : goal.returns-clause-founded
returns-clause-founded g c = stays_after _ _ _ _ c.root_line.ensures.grows
    (stays_doc _ _ _ c.args.self.ground c.args.self.page.now c.root_line.ensures.founded)
    (stays_with _ _ (about_page c.args.self) _ _ c.in_ok-line.ensures.stand c.rooted.ensures.founded)

pub returns-clause-grows : goal.returns-clause-grows
returns-clause-grows g c = grows_trans _ _ _ c.root_line.ensures.grows c.rooted.ensures.grows

pub returns-in_err-line-clause-asks : goal.returns-in_err-line-clause-asks
returns-in_err-line-clause-asks g c = asks_first _ _ _ _ c.root_line.ensures.asks

pub returns-in_default-clause-asks : goal.returns-in_default-clause-asks
returns-in_default-clause-asks g c = asks_first _ _ _ _ c.root_line.ensures.asks

pub returns-clause-asks : goal.returns-clause-asks
returns-clause-asks g c =
    asks_page _ _ _ _ _ c.root_line.ensures.grows c.root_line.ensures.asks c.rooted.ensures.asks

pub returns-in_default-clause-only : goal.returns-in_default-clause-only
returns-in_default-clause-only g c = λ world agrees.
    let context = context_for c.args.self.ground c.args.self.page.now in
    let setting = (g.A.Reader.stand c.args.asker.now).setting in
    reads_own (page_at world setting context.val context.page) _ _ c.in_ok-line.ensures.asks

pub returns-clause-only : goal.returns-clause-only
returns-clause-only g c = λ world agrees.
    let context = context_for c.args.self.ground c.args.self.page.now in
    let setting = (g.A.Reader.stand c.args.asker.now).setting in
    reads_then (MayReadFor world setting context) c.rooted.result _ _ _
    (reads_own (page_at world setting context.val context.page) _ _ c.in_ok-line.ensures.asks)
    (subst (λ (s : Stand). OnOk c.rooted.result (ReadsOnly (MayReadFor world s.setting context)
    (g.A.Reader.told c.root_line.new.reader) (g.A.Reader.told c.rooted.new.asker)))
    c.in_ok-line.ensures.stand (c.rooted.ensures.only world agrees))

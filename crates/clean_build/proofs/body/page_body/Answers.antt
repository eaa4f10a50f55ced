use Rattle.std.proofs.Common.{ap, ◌∙◌}
use Rattle.std.specs.Arc.{arc_value}
use Rattle.std.specs.Prelude.{map}
use Rattle.conref_targets.specs.Rules.{all_kept, ditavals}
use Rattle.dita_doc.specs.declared.plan.Context.{Context}
use Rattle.flag_marks.specs.Marks.{attributes_at, marks_from}
use Rattle.part_spec.specs.Parts.{here_of}
use Rattle.readers.proofs.GrowthLaws.{agrees_before, grows_trans}
use Rattle.readers.specs.Setting.{Setting, Stand}
use Rattle.clean_build.specs.Bodies.{content_of, rules_for}
use Rattle.clean_build.proofs.BodyLaws.{body_is, body_links, marks_are, stays_body, terms_are}
use Rattle.clean_build.proofs.AskLaws.{asks_behind}
use Rattle.conref_targets.specs.PageAsking.{page_at}
use Rattle.clean_build.proofs.ReadLaws.{reads_after, reads_none, reads_page}
use Rattle.clean_build.proofs.body.page_body.Goals as goal

pub returns-clause-known : goal.returns-clause-known
returns-clause-known g c = λ world page index agrees made is_page known.
    let plan = c.args.plan.now in
    let context = arc_value c.args.context.now in
    let resolved = c.in_ok-resolved.resolved in
    let before = agrees_before world _ _ c.in_ok-anchors.ensures.grows agrees in
    let is = c.in_ok-resolved.ensures.known world plan before made known in
    let stands = ap (λ (s : Stand). s.setting) c.in_ok-resolved.ensures.stand ∙ made in
    let added = c.in_ok-anchors.ensures.known world page index agrees (record {
      nodes = ap (λ (s : Setting). s.nodes) stands;
      pages = ap (λ (s : Setting). s.pages) stands;
    }) is_page in
    let here = here_of world plan page index in
    let content = content_of world plan context in
    let lists = c.resolved_for.new.tables.rules in
    let marked = marks_are content resolved is world context lists c.in_ok-marks.marks
    (c.in_ok-resolved.ensures.rules known.rules world before) (c.in_ok-marks.ensures ∙ ap (λ (of : Context).
    marks_from (all_kept lists (ditavals of.val of.page.filters)) 0 resolved.declared
    (map attributes_at resolved.doc.nodes)) c.deref.ensures) in
    record {
      body = body_is content resolved is here c.in_ok-anchors.field-0 added (rules_for world context)
          c.in_ok-marks.marks c.in_ok-body.body c.args.behind marked c.in_ok-body.ensures;
      links = body_links content resolved is here c.in_ok-anchors.field-0 added;
      terms = terms_are content resolved is c.args.number c.in_ok-terms.terms c.in_ok-terms.ensures;
      content = record {
        rules = c.in_ok-resolved.ensures.kept known.rules;
        places = c.in_ok-resolved.ensures.places world plan before made known;
      };
    }

pub returns-clause-kept : goal.returns-clause-kept
returns-clause-kept g c = c.in_ok-resolved.ensures.kept

pub returns-in_err-anchors-clause-founded : goal.returns-in_err-anchors-clause-founded
returns-in_err-anchors-clause-founded g c =
    let context = arc_value c.args.context.now in
    let resolved = c.in_ok-resolved.resolved in
    stays_body _ _ context resolved _ _ _ c.in_ok-resolved.ensures.stand c.resolved_for.ensures.grows
    c.resolved_for.ensures.founded c.in_ok-resolved.ensures.given c.anchors.ensures.founded

pub returns-in_err-body-clause-founded : goal.returns-in_err-body-clause-founded
returns-in_err-body-clause-founded g c =
    let context = arc_value c.args.context.now in
    let resolved = c.in_ok-resolved.resolved in
    stays_body _ _ context resolved _ _ _ c.in_ok-resolved.ensures.stand c.resolved_for.ensures.grows
    c.resolved_for.ensures.founded c.in_ok-resolved.ensures.given c.anchors.ensures.founded

pub returns-clause-founded : goal.returns-clause-founded
returns-clause-founded g c =
    let context = arc_value c.args.context.now in
    let resolved = c.in_ok-resolved.resolved in
    stays_body _ _ context resolved _ _ _ c.in_ok-resolved.ensures.stand c.resolved_for.ensures.grows
    c.resolved_for.ensures.founded c.in_ok-resolved.ensures.given c.anchors.ensures.founded

pub returns-in_err-anchors-clause-grows : goal.returns-in_err-anchors-clause-grows
returns-in_err-anchors-clause-grows g c =
    grows_trans _ _ _ c.resolved_for.ensures.grows c.anchors.ensures.grows

pub returns-in_err-body-clause-grows : goal.returns-in_err-body-clause-grows
returns-in_err-body-clause-grows g c =
    grows_trans _ _ _ c.resolved_for.ensures.grows c.anchors.ensures.grows

pub returns-clause-grows : goal.returns-clause-grows
returns-clause-grows g c = grows_trans _ _ _ c.resolved_for.ensures.grows c.anchors.ensures.grows

pub returns-in_err-anchors-clause-asks : goal.returns-in_err-anchors-clause-asks
returns-in_err-anchors-clause-asks g c = asks_behind _ _ _ _ c.resolved_for.ensures.grows
    c.resolved_for.ensures.asks c.anchors.ensures.asks

pub returns-in_err-body-clause-asks : goal.returns-in_err-body-clause-asks
returns-in_err-body-clause-asks g c = asks_behind _ _ _ _ c.resolved_for.ensures.grows
    c.resolved_for.ensures.asks c.anchors.ensures.asks

pub returns-clause-asks : goal.returns-clause-asks
returns-clause-asks g c = asks_behind _ _ _ _ c.resolved_for.ensures.grows
    c.resolved_for.ensures.asks c.anchors.ensures.asks

pub returns-clause-only : goal.returns-clause-only
returns-clause-only g c = λ world agrees.
    let before = agrees_before world _ _ c.in_ok-anchors.ensures.grows agrees in
    let page = page_at world (g.A.Reader.stand c.args.asker.now).setting (arc_value c.args.context.now).val
    (arc_value c.args.context.now).page in
    reads_after _ _ _ _ (reads_page page _ _ (c.in_ok-resolved.ensures.only world before))
    (reads_none _ _ _ c.in_ok-anchors.ensures.asks)

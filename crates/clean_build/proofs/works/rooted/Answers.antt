use Rattle.std.specs.Prelude.{ℕ, Option}
use Rattle.std.proofs.Common.{ap, ◌∙◌}
use Rattle.clean_build.specs.Bodies.{content_of, terms_wanted}
use Rattle.clean_build.specs.BuildInput.{context_for}
use Rattle.clean_build.proofs.NameLaws.{stays_content, stays_linked, stays_titled}
use Rattle.clean_build.proofs.PageLaws.{page_shown}
use Rattle.readers.proofs.GrowthLaws.{agrees_before, grows_trans}
use Rattle.clean_build.proofs.AskLaws.{asks_behind}
use Rattle.clean_build.proofs.ReadLaws.{reads_after, reads_none}
use Rattle.clean_build.proofs.works.rooted.Goals as goal

pub returns-clause-known : goal.returns-clause-known
returns-clause-known g c = λ world agrees ready there links known.
    let work = c.args.work in
    let page = work.page.now in
    let plan = work.ground.plan.now in
    let context = context_for work.ground page in
    let at_links = agrees_before world _ _ c.in_ok-html.ensures.grows agrees in
    let at_body = agrees_before world _ _ c.in_ok-of_nodes.ensures.grows at_links in
    let made = c.in_ok-body.ensures.known world work.index at_body ready there known in record {
      html = page_shown (g.A.Reader.stand c.args.asker.now).world world plan work.index page work.behind c.args.line c.number_wanted-number.result context
          c.in_ok-body.field-0 c.in_ok-of_nodes.of_nodes c.in_ok-hrefs.hrefs c.in_ok-html.html made
          (c.in_ok-of_nodes.ensures.known world at_links links) c.in_ok-hrefs.ensures
          (c.in_ok-html.ensures.known world agrees);
      terms = made.terms ∙ ap (λ (number : Option ℕ). terms_wanted number (content_of world plan context).nodes)
          c.number_wanted-number.ensures;
      content = made.content;
    }

pub returns-clause-kept : goal.returns-clause-kept
returns-clause-kept g c = c.in_ok-body.ensures.kept

pub returns-in_err-body-clause-founded : goal.returns-in_err-body-clause-founded
returns-in_err-body-clause-founded g c = stays_content _ _ _ c.args.work.ground c.args.work.page.now c.body_on_ground.ensures.founded

pub returns-in_err-of_nodes-clause-founded : goal.returns-in_err-of_nodes-clause-founded
returns-in_err-of_nodes-clause-founded g c = stays_linked _ c.args.work.ground c.args.work.page.now _ _ _
    c.body_on_ground.ensures.grows c.body_on_ground.ensures.founded c.of_page.ensures.founded

pub returns-in_err-hrefs-clause-founded : goal.returns-in_err-hrefs-clause-founded
returns-in_err-hrefs-clause-founded g c = stays_linked _ c.args.work.ground c.args.work.page.now _ _ _
    c.body_on_ground.ensures.grows c.body_on_ground.ensures.founded c.of_page.ensures.founded

pub returns-in_err-html-clause-founded : goal.returns-in_err-html-clause-founded
returns-in_err-html-clause-founded g c = stays_titled _ c.args.work.ground c.args.work.page.now _ _ _
    c.body_on_ground.ensures.grows c.body_on_ground.ensures.founded c.of_page.ensures.founded _ c.of_page.ensures.grows c.titled.ensures.founded

pub returns-clause-founded : goal.returns-clause-founded
returns-clause-founded g c = stays_titled _ c.args.work.ground c.args.work.page.now _ _ _
    c.body_on_ground.ensures.grows c.body_on_ground.ensures.founded c.of_page.ensures.founded _ c.of_page.ensures.grows c.titled.ensures.founded

pub returns-in_err-of_nodes-clause-grows : goal.returns-in_err-of_nodes-clause-grows
returns-in_err-of_nodes-clause-grows g c = grows_trans _ _ _ c.body_on_ground.ensures.grows c.of_page.ensures.grows

pub returns-in_err-hrefs-clause-grows : goal.returns-in_err-hrefs-clause-grows
returns-in_err-hrefs-clause-grows g c = grows_trans _ _ _ c.body_on_ground.ensures.grows c.of_page.ensures.grows

pub returns-in_err-html-clause-grows : goal.returns-in_err-html-clause-grows
returns-in_err-html-clause-grows g c = grows_trans _ _ _ c.body_on_ground.ensures.grows
    (grows_trans _ _ _ c.of_page.ensures.grows c.titled.ensures.grows)

pub returns-clause-grows : goal.returns-clause-grows
returns-clause-grows g c = grows_trans _ _ _ c.body_on_ground.ensures.grows
    (grows_trans _ _ _ c.of_page.ensures.grows c.titled.ensures.grows)

pub returns-in_err-body-clause-asks : goal.returns-in_err-body-clause-asks
returns-in_err-body-clause-asks g c = c.body_on_ground.ensures.asks

pub returns-in_err-of_nodes-clause-asks : goal.returns-in_err-of_nodes-clause-asks
returns-in_err-of_nodes-clause-asks g c = asks_behind _ _ _ _ c.body_on_ground.ensures.grows
    c.body_on_ground.ensures.asks c.of_page.ensures.asks

pub returns-in_err-hrefs-clause-asks : goal.returns-in_err-hrefs-clause-asks
returns-in_err-hrefs-clause-asks g c = asks_behind _ _ _ _ c.body_on_ground.ensures.grows
    c.body_on_ground.ensures.asks c.of_page.ensures.asks

pub returns-in_err-html-clause-asks : goal.returns-in_err-html-clause-asks
returns-in_err-html-clause-asks g c = asks_behind _ _ _ _
    (grows_trans _ _ _ c.body_on_ground.ensures.grows c.of_page.ensures.grows)
    (asks_behind _ _ _ _ c.body_on_ground.ensures.grows c.body_on_ground.ensures.asks c.of_page.ensures.asks)
    c.titled.ensures.asks

pub returns-clause-asks : goal.returns-clause-asks
returns-clause-asks g c = asks_behind _ _ _ _
    (grows_trans _ _ _ c.body_on_ground.ensures.grows c.of_page.ensures.grows)
    (asks_behind _ _ _ _ c.body_on_ground.ensures.grows c.body_on_ground.ensures.asks c.of_page.ensures.asks)
    c.titled.ensures.asks

pub returns-clause-only : goal.returns-clause-only
returns-clause-only g c = λ world agrees.
    let at_links = agrees_before world _ _ c.in_ok-html.ensures.grows agrees in
    let at_body = agrees_before world _ _ c.in_ok-of_nodes.ensures.grows at_links in
    reads_after _ _ _ _ (c.in_ok-body.ensures.only world at_body) (reads_after _ _ _ _
    (reads_none _ _ _ c.in_ok-of_nodes.ensures.asks) (reads_none _ _ _ c.in_ok-html.ensures.asks))

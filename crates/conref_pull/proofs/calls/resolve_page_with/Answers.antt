use Rattle.std.proofs.Common.{ℕ, List, Option, unwrap_or, false, [], sym, ap, refl, subst, ◌∙◌}
use Rattle.std.specs.Arc.{arc_value}
use Rattle.std.specs.declared.alloc.Global.{Global}
use Rattle.std.specs.declared.sync.Arc.{Arc}
use Rattle.std.proofs.lemmas.Result.{IfOk-weaker, on_ok_weaker}
use Rattle.dita_doc.specs.declared.doc.Doc.{Doc}
use Rattle.dita_doc.specs.declared.plan.Context.{Context}
use Rattle.map_spec.specs.Written.{Written}
use Rattle.readers.specs.Documents.{IsGiven}
use Rattle.conref_spec.specs.Content.{Made, nothing_around, page_root, resolved_in}
use Rattle.map_spec.specs.Written.{End}
use Rattle.readers.specs.Named.{named_found, named_tree, reused_in}
use Rattle.readers.specs.Setting.{Stand}
use Rattle.doc_maker.specs.Made.{resolved_tree}
use Rattle.readers.proofs.GrowthLaws.{agrees_before, grows_trans}
use Rattle.conref_targets.specs.Asking.{AreGiven, reused_of_doc}
use Rattle.conref_targets.specs.Origin.{named_content}
use Rattle.conref_targets.specs.Hrefs.{HaveNamed}
use Rattle.conref_targets.specs.PageAsking.{AreMet, page_at}
use Rattle.conref_targets.specs.Rules.{ditavals, page_rules}
use Rattle.conref_targets.specs.ResolveInput.{documents_in, setting_of}
use Rattle.conref_targets.proofs.AskingLaws.{about_ditavals, about_next, about_rules_first, about_then, given_reused, none_among}
use Rattle.conref_targets.proofs.OriginLaws.{content_named}
use Rattle.conref_targets.proofs.HrefGivenLaws.{found_named}
use Rattle.conref_pull.specs.PutHrefs.{HaveNamedIn}
use Rattle.conref_pull.specs.Putting.{built}
use Rattle.conref_pull.specs.Resolved.{IsResolved, too_many_faults}
use Rattle.conref_pull.specs.Walking.{among_made, seen_by}
use Rattle.conref_pull.proofs.CallLaws.{Begins, all_made, done_of, here_begins, none_made, ready_begins, setting_begins, tables_kept}
use Rattle.conref_pull.proofs.HrefLaws.{building_later, linked_allowed}
use Rattle.conref_pull.proofs.WalkLaws.{walks_as}
use Rattle.conref_pull.proofs.CallAskLaws.{asks_done, asks_unless, asks_rules_first, at_later, at_next, begins_at, met_as, root_met}
use Rattle.conref_pull.proofs.calls.resolve_page_with.Goals as goal

pub returns-in_err-read-clause-founded : goal.returns-in_err-read-clause-founded
returns-in_err-read-clause-founded g c =
    (about_ditavals (g.A.Reader.stand c.args.asker.now).setting.nodes _ _ _ _ c.read.ensures.founded
    c.read.ensures.asks).founded

pub returns-in_err-read-clause-asks : goal.returns-in_err-read-clause-asks
returns-in_err-read-clause-asks g c =
    (about_ditavals (g.A.Reader.stand c.args.asker.now).setting.nodes _ _ _ _ c.read.ensures.founded
    c.read.ensures.asks).asks

pub returns-in_err-doc-clause-founded : goal.returns-in_err-doc-clause-founded
returns-in_err-doc-clause-founded g c =
    (about_rules_first (g.A.Reader.stand c.args.asker.now).setting.nodes _ _ _ _ _ c.read.ensures.grows
    c.read.ensures.founded c.read.ensures.asks c.pushed.ensures.founded c.pushed.ensures.asks).founded

pub returns-in_err-doc-clause-asks : goal.returns-in_err-doc-clause-asks
returns-in_err-doc-clause-asks g c =
    (about_rules_first (g.A.Reader.stand c.args.asker.now).setting.nodes _ _ _ _ _ c.read.ensures.grows
    c.read.ensures.founded c.read.ensures.asks c.pushed.ensures.founded c.pushed.ensures.asks).asks

pub returns-in_default-clause-founded : goal.returns-in_default-clause-founded
returns-in_default-clause-founded g c =
    (about_rules_first (g.A.Reader.stand c.args.asker.now).setting.nodes _ _ _ _ _ c.read.ensures.grows
    c.read.ensures.founded c.read.ensures.asks c.pushed.ensures.founded c.pushed.ensures.asks).founded

pub returns-in_default-clause-asks : goal.returns-in_default-clause-asks
returns-in_default-clause-asks g c =
    (about_rules_first (g.A.Reader.stand c.args.asker.now).setting.nodes _ _ _ _ _ c.read.ensures.grows
    c.read.ensures.founded c.read.ensures.asks c.pushed.ensures.founded c.pushed.ensures.asks).asks

pub returns-in_err-rules-clause-founded : goal.returns-in_err-rules-clause-founded
returns-in_err-rules-clause-founded g c =
    (about_rules_first (g.A.Reader.stand c.args.asker.now).setting.nodes _ _ _ _ _ c.read.ensures.grows
    c.read.ensures.founded c.read.ensures.asks c.pushed.ensures.founded c.pushed.ensures.asks).founded

pub returns-in_err-rules-clause-asks : goal.returns-in_err-rules-clause-asks
returns-in_err-rules-clause-asks g c =
    (about_rules_first (g.A.Reader.stand c.args.asker.now).setting.nodes _ _ _ _ _ c.read.ensures.grows
    c.read.ensures.founded c.read.ensures.asks c.pushed.ensures.founded c.pushed.ensures.asks).asks

pub returns-clause-founded : goal.returns-clause-founded
returns-clause-founded g c = (about_next (g.A.Reader.stand c.args.asker.now).setting.nodes _ _ _ _ _ _ _ refl
    (none_among _)
    (grows_trans _ _ _ (grows_trans _ _ _ c.read.ensures.grows c.pushed.ensures.grows) c.siblings-done.ensures.grows)
    (about_then (g.A.Reader.stand c.args.asker.now).setting.nodes _ _ _ _ _ _ _
    (ap (λ (context : Context). context.page.doc) c.new-resolver.ensures.context)
    (subst (λ (all : Written). AreGiven (g.A.Reader.told c.pushed.new.self) (reused_in all))
    (sym (content_named c.of-2.result c.deref.result.now c.of-2.ensures.content c.of-2.ensures.document))
    (subst (λ (doc : Doc). AreGiven (g.A.Reader.told c.pushed.new.self) (reused_of_doc doc)) (sym c.deref.ensures)
    (given_reused _ (arc_value c.in-Some.doc)
    (subst (λ (found : Option (Arc Doc Global)). IsGiven (g.A.Reader.told c.pushed.new.self) (named_found found))
    c.in-Some.is c.in_ok-doc.ensures.given)))) (grows_trans _ _ _ c.read.ensures.grows c.pushed.ensures.grows)
    (about_rules_first (g.A.Reader.stand c.args.asker.now).setting.nodes _ _ _ _ _ c.read.ensures.grows
    c.read.ensures.founded c.read.ensures.asks c.pushed.ensures.founded c.pushed.ensures.asks)
    (c.siblings-done.ensures.asks (g.A.Reader.stand c.args.asker.now).setting.nodes
    (ap (λ (stand : Stand). stand.setting.nodes) (c.in_ok-doc.ensures.stand ∙ c.in_ok-read.ensures.stand))))
    (c.finish.ensures.asks (g.A.Reader.stand c.args.asker.now).setting.nodes)).founded

pub returns-clause-asks : goal.returns-clause-asks
returns-clause-asks g c = (about_next (g.A.Reader.stand c.args.asker.now).setting.nodes _ _ _ _ _ _ _ refl
    (none_among _)
    (grows_trans _ _ _ (grows_trans _ _ _ c.read.ensures.grows c.pushed.ensures.grows) c.siblings-done.ensures.grows)
    (about_then (g.A.Reader.stand c.args.asker.now).setting.nodes _ _ _ _ _ _ _
    (ap (λ (context : Context). context.page.doc) c.new-resolver.ensures.context)
    (subst (λ (all : Written). AreGiven (g.A.Reader.told c.pushed.new.self) (reused_in all))
    (sym (content_named c.of-2.result c.deref.result.now c.of-2.ensures.content c.of-2.ensures.document))
    (subst (λ (doc : Doc). AreGiven (g.A.Reader.told c.pushed.new.self) (reused_of_doc doc)) (sym c.deref.ensures)
    (given_reused _ (arc_value c.in-Some.doc)
    (subst (λ (found : Option (Arc Doc Global)). IsGiven (g.A.Reader.told c.pushed.new.self) (named_found found))
    c.in-Some.is c.in_ok-doc.ensures.given)))) (grows_trans _ _ _ c.read.ensures.grows c.pushed.ensures.grows)
    (about_rules_first (g.A.Reader.stand c.args.asker.now).setting.nodes _ _ _ _ _ c.read.ensures.grows
    c.read.ensures.founded c.read.ensures.asks c.pushed.ensures.founded c.pushed.ensures.asks)
    (c.siblings-done.ensures.asks (g.A.Reader.stand c.args.asker.now).setting.nodes
    (ap (λ (stand : Stand). stand.setting.nodes) (c.in_ok-doc.ensures.stand ∙ c.in_ok-read.ensures.stand))))
    (c.finish.ensures.asks (g.A.Reader.stand c.args.asker.now).setting.nodes)).asks

pub returns-in_default-clause-known : goal.returns-in_default-clause-known
returns-in_default-clause-known g c = λ world agrees rules tables.
    (let stand = g.A.Reader.stand c.args.asker.now in
    let page = c.args.context.now.page in
    let setting = setting_of world stand.setting page
    (page_rules world (ditavals c.args.context.now.val page.filters)) in
    subst (λ (m : Made). IsResolved c.nothing.result m)
    (none_made setting (too_many_faults world page.doc)
    (ap (λ (s : Stand). documents_in world s.setting page.doc) (sym c.in_ok-read.ensures.stand)
    ∙ sym (c.in_ok-doc.ensures.known world agrees) ∙ ap named_found c.in_default.is)) c.nothing.ensures)

pub returns-in_default-clause-rules : goal.returns-in_default-clause-rules
returns-in_default-clause-rules g c = λ rules world agrees.
    c.in_ok-read.ensures.known rules world (agrees_before world _ _ c.in_ok-doc.ensures.grows agrees)

pub returns-clause-rules : goal.returns-clause-rules
returns-clause-rules g c = λ rules world agrees.
    let later = agrees_before world _ _ c.finish.ensures.grows agrees in
    let asked = agrees_before world _ _ c.siblings-done.ensures.grows later in
    on_ok_weaker c.finish.result
    (λ memory. c.in_ok-read.ensures.known rules world (agrees_before world _ _ c.in_ok-doc.ensures.grows asked))
    c.finish.ensures.memory

pub returns-in_default-clause-kept : goal.returns-in_default-clause-kept
returns-in_default-clause-kept g c = c.in_ok-read.ensures.kept

pub returns-clause-kept : goal.returns-clause-kept
returns-clause-kept g c = λ rules.
    on_ok_weaker c.finish.result (λ memory. c.in_ok-read.ensures.kept rules) c.finish.ensures.memory

pub returns-clause-known : goal.returns-clause-known
returns-clause-known g c = λ world agrees rules tables.
    (let stand = g.A.Reader.stand c.args.asker.now in
    let page = c.args.context.now.page in
    let names = ditavals c.args.context.now.val page.filters in
    let setting = setting_of world stand.setting page (page_rules world names) in
    let later = agrees_before world _ _ c.finish.ensures.grows agrees in
    let asked = agrees_before world _ _ c.siblings-done.ensures.grows later in
    let stands = c.in_ok-doc.ensures.stand ∙ c.in_ok-read.ensures.stand in
    let begins : Begins c.new-resolver.result = record {
      nodes = c.new-resolver.ensures.nodes;
      declared = c.new-resolver.ensures.declared;
      count = c.new-resolver.ensures.count;
      faults = c.new-resolver.ensures.faults;
      path = c.new-resolver.ensures.path;
    } in
    let is = setting_begins world stand (g.A.Reader.stand c.pushed.new.self) c.args.context.now c.new-resolver.result
    (page_rules world names) (sym stands) c.new-resolver.ensures.context
    (c.new-resolver.ensures.rules ∙ c.in_ok-rules.ensures ∙ c.in_ok-read.ensures.known rules world
    (agrees_before world _ _ c.in_ok-doc.ensures.grows asked)) in
    let ready = ready_begins world (g.A.Reader.stand c.pushed.new.self) setting 0 c.new-resolver.result
    c.args.tables.now.places begins is c.new-resolver.ensures.deepest tables in
    let root = content_named c.of-2.result c.deref.result.now c.of-2.ensures.content c.of-2.ensures.document
    ∙ ap named_tree c.deref.ensures
    ∙ ap (λ (found : Option Written). unwrap_or found End) (ap named_found (sym c.in-Some.is)
    ∙ c.in_ok-doc.ensures.known world asked
    ∙ ap (λ (s : Stand). documents_in world s.setting page.doc) c.in_ok-read.ensures.stand) in
    c.finish.ensures.known world (resolved_in setting nothing_around 1 (page_root setting)) agrees
    (done_of c.siblings-done.result setting.pushed 0 (resolved_in setting nothing_around 1 (page_root setting))
    c.new-resolver.result c.siblings-done.new.self c.siblings-done.new.places begins
    (walks_as c.siblings-done.result setting.pushed 0
    (among_made (here_begins setting 1) false (seen_by [] c.new-declared.result) (named_content c.of-2.result))
    (resolved_in setting nothing_around 1 (page_root setting)) c.new-resolver.result c.siblings-done.new.self
    c.siblings-done.new.places
    (all_made setting (seen_by [] c.new-declared.result) 1 (named_content c.of-2.result)
    ∙ ap (λ (names : List (List ℕ)). resolved_in setting (seen_by [] names) 1 (named_content c.of-2.result))
    c.new-declared.ensures ∙ ap (resolved_in setting nothing_around 1) root)
    (c.siblings-done.ensures.known world (here_begins setting 1) later ready))))

pub returns-clause-places : goal.returns-clause-places
returns-clause-places g c = λ world agrees rules tables.
    (let stand = g.A.Reader.stand c.args.asker.now in
    let names = ditavals c.args.context.now.val c.args.context.now.page.filters in
    let setting = setting_of world stand.setting c.args.context.now.page (page_rules world names) in
    let later = agrees_before world _ _ c.finish.ensures.grows agrees in
    let asked = agrees_before world _ _ c.siblings-done.ensures.grows later in
    let begins : Begins c.new-resolver.result = record {
      nodes = c.new-resolver.ensures.nodes;
      declared = c.new-resolver.ensures.declared;
      count = c.new-resolver.ensures.count;
      faults = c.new-resolver.ensures.faults;
      path = c.new-resolver.ensures.path;
    } in
    let is = setting_begins world stand (g.A.Reader.stand c.pushed.new.self) c.args.context.now c.new-resolver.result
    (page_rules world names) (sym (c.in_ok-doc.ensures.stand ∙ c.in_ok-read.ensures.stand))
    c.new-resolver.ensures.context
    (c.new-resolver.ensures.rules ∙ c.in_ok-rules.ensures ∙ c.in_ok-read.ensures.known rules world
    (agrees_before world _ _ c.in_ok-doc.ensures.grows asked)) in
    let ready = ready_begins world (g.A.Reader.stand c.pushed.new.self) setting 0 c.new-resolver.result
    c.args.tables.now.places begins is c.new-resolver.ensures.deepest tables in
    on_ok_weaker c.finish.result
    (λ memory.
    tables_kept c.siblings-done.result setting.pushed 0
    (among_made (here_begins setting 1) false (seen_by [] c.new-declared.result) (named_content c.of-2.result))
    c.new-resolver.result
    c.siblings-done.new.self c.siblings-done.new.places memory
    (c.siblings-done.ensures.known world (here_begins setting 1) later ready)) c.finish.ensures.memory)

pub returns-in_default-clause-given : goal.returns-in_default-clause-given
returns-in_default-clause-given g c = λ roots.
    linked_allowed roots (g.A.Reader.told c.pushed.new.self) (resolved_tree c.nothing.result)
    (subst (HaveNamed (g.A.Reader.told c.pushed.new.self)) (sym c.nothing.ensures.nodes) tt)

pub returns-clause-given : goal.returns-clause-given
returns-clause-given g c =
    let asked = g.A.Reader.told c.pushed.new.self in
    let walked = g.A.Reader.told c.siblings-done.new.asker in
    let last = g.A.Reader.told c.finish.new.asker in
    let all = subst (HaveNamed asked)
    (sym (content_named c.of-2.result c.deref.result.now c.of-2.ensures.content c.of-2.ensures.document))
    (subst (λ (doc : Doc). HaveNamed asked (named_tree doc)) (sym c.deref.ensures)
    (found_named asked _ c.in-Some.doc c.in-Some.is c.in_ok-doc.ensures.given)) in
    let none = subst (HaveNamedIn asked) (sym c.new-resolver.ensures.nodes) tt in
    IfOk-weaker c.finish.result _ _ (λ resolved named roots. linked_allowed roots last (resolved_tree resolved) named)
    (c.finish.ensures.hrefs last
    (on_ok_weaker c.siblings-done.result
    (λ put. building_later walked last c.finish.ensures.grows (built c.siblings-done.new.self) put)
    (c.siblings-done.ensures.hrefs all none)))

pub returns-in_err-doc-clause-grows : goal.returns-in_err-doc-clause-grows
returns-in_err-doc-clause-grows g c = grows_trans _ _ _ c.read.ensures.grows c.pushed.ensures.grows

pub returns-in_err-doc-clause-stand : goal.returns-in_err-doc-clause-stand
returns-in_err-doc-clause-stand g c = c.pushed.ensures.stand ∙ c.read.ensures.stand

pub returns-in_default-clause-grows : goal.returns-in_default-clause-grows
returns-in_default-clause-grows g c = grows_trans _ _ _ c.read.ensures.grows c.pushed.ensures.grows

pub returns-in_default-clause-stand : goal.returns-in_default-clause-stand
returns-in_default-clause-stand g c = c.pushed.ensures.stand ∙ c.read.ensures.stand

pub returns-in_err-rules-clause-grows : goal.returns-in_err-rules-clause-grows
returns-in_err-rules-clause-grows g c = grows_trans _ _ _ c.read.ensures.grows c.pushed.ensures.grows

pub returns-in_err-rules-clause-stand : goal.returns-in_err-rules-clause-stand
returns-in_err-rules-clause-stand g c = c.pushed.ensures.stand ∙ c.read.ensures.stand

pub returns-clause-grows : goal.returns-clause-grows
returns-clause-grows g c =
    grows_trans _ _ _ (grows_trans _ _ _ c.read.ensures.grows c.pushed.ensures.grows)
    (grows_trans _ _ _ c.siblings-done.ensures.grows c.finish.ensures.grows)

pub returns-clause-stand : goal.returns-clause-stand
returns-clause-stand g c =
    c.finish.ensures.stand ∙ c.siblings-done.ensures.stand ∙ c.pushed.ensures.stand ∙ c.read.ensures.stand

pub returns-in_default-clause-only : goal.returns-in_default-clause-only
returns-in_default-clause-only g c = λ world agrees. asks_rules_first world c.args.context.now c.in_ok-read.ensures.stand
    c.in_ok-read.ensures.only (c.in_ok-doc.ensures.only world agrees)

pub returns-clause-only : goal.returns-clause-only
returns-clause-only g c = λ world agrees.
    (let context = c.args.context.now in
    let same = c.in_ok-read.ensures.stand in
    let page = page_at world (g.A.Reader.stand c.args.asker.now).setting context.val context.page in
    let later = agrees_before world _ _ c.finish.ensures.grows agrees in
    let asked = agrees_before world _ _ c.siblings-done.ensures.grows later in
    let at = at_later (begins_at world context same) c.in_ok-doc.ensures.stand in
    asks_done page _ _ _ c.finish.result c.siblings-done.result c.finish.ensures.memory
    (asks_unless page _ _ _ c.siblings-done.result
    (asks_rules_first world context same c.in_ok-read.ensures.only (c.in_ok-doc.ensures.only world asked))
    (c.siblings-done.ensures.only page later
    (at_next at refl (ap (λ (at : Context). at.page) c.new-resolver.ensures.context))
    (subst (AreMet page)
    (sym (content_named c.of-2.result c.deref.result.now c.of-2.ensures.content c.of-2.ensures.document))
    (met_as page c.deref.ensures (root_met world context same (named_tree (arc_value c.in-Some.doc))
    (ap named_found (sym c.in-Some.is) ∙ c.in_ok-doc.ensures.known world asked))))))
    (c.finish.ensures.only page agrees (at_later at c.siblings-done.ensures.stand)))

use Rattle.std.proofs.Common.{◌≡◌, Option, sym, ap, refl, subst, ◌∙◌, unwrap_or, false, ◌+◌}
use Rattle.std.specs.Arc.{arc_value}
use Rattle.std.specs.declared.alloc.Global.{Global}
use Rattle.std.specs.declared.sync.Arc.{Arc}
use Rattle.dita_doc.specs.declared.doc.Doc.{Doc}
use Rattle.dita_doc.specs.declared.plan.Context.{Context}
use Rattle.map_spec.specs.Written.{Written, End}
use Rattle.readers.specs.Documents.{IsGiven}
use Rattle.readers.specs.Named.{named_found, named_tree}
use Rattle.readers.specs.Setting.{Stand}
use Rattle.doc_maker.specs.Made.{resolved_tree}
use Rattle.readers.proofs.GivenLaws.{given_later}
use Rattle.readers.proofs.GrowthLaws.{grows_trans, agrees_before}
use Rattle.conref_targets.specs.Asking.{AreGiven, reused_of_doc}
use Rattle.conref_targets.proofs.AskingLaws.{about_next, about_page, about_rules, about_then, given_none, given_reused, none_among}
use Rattle.std.proofs.lemmas.Result.{IfOk-weaker, on_ok_weaker}
use Rattle.conref_spec.specs.Content.{Made, page_root, resolved_in}
use Rattle.conref_targets.specs.Hrefs.{HaveNamed}
use Rattle.conref_targets.specs.PageAsking.{page_at}
use Rattle.conref_targets.specs.Rules.{AreRules, ditavals, page_rules}
use Rattle.conref_targets.specs.ResolveInput.{setting_of}
use Rattle.conref_targets.specs.Around.{StandsAround, alone_at, around_at, nothing_around, standing_shown}
use Rattle.conref_targets.proofs.HrefGivenLaws.{found_named}
use Rattle.conref_pull.specs.PutHrefs.{HaveNamedIn}
use Rattle.conref_pull.specs.Putting.{built}
use Rattle.conref_pull.specs.Resolved.{IsResolved, too_many_faults}
use Rattle.conref_pull.specs.Walking.{among_made}
use Rattle.conref_pull.proofs.CallLaws.{Begins, all_made, done_of, here_begins, ready_begins, setting_begins, tables_kept, no_node_made}
use Rattle.conref_pull.proofs.HrefLaws.{building_later, linked_allowed, nodes_later}
use Rattle.conref_pull.proofs.WalkLaws.{walks_as}
use Rattle.conref_pull.proofs.NodeStandLaws.{node_walks}
use Rattle.conref_pull.proofs.CallAskLaws.{asks_done, asks_first, asks_unless, asks_rules, at_later, at_next, begins_at, met_as, root_met}
use Rattle.conref_pull.proofs.calls.resolve_with.Goals as goal

pub returns-in_err-doc-clause-founded : goal.returns-in_err-doc-clause-founded
returns-in_err-doc-clause-founded g c = (about_page (g.A.Reader.stand c.args.asker.now).setting.nodes _ _ _ _
    c.pushed.ensures.founded c.pushed.ensures.asks).founded

pub returns-in_err-doc-clause-asks : goal.returns-in_err-doc-clause-asks
returns-in_err-doc-clause-asks g c = (about_page (g.A.Reader.stand c.args.asker.now).setting.nodes _ _ _ _
    c.pushed.ensures.founded c.pushed.ensures.asks).asks

pub returns-in_default-clause-founded : goal.returns-in_default-clause-founded
returns-in_default-clause-founded g c = (about_page (g.A.Reader.stand c.args.asker.now).setting.nodes _ _ _ _
    c.pushed.ensures.founded c.pushed.ensures.asks).founded

pub returns-in_default-clause-asks : goal.returns-in_default-clause-asks
returns-in_default-clause-asks g c = (about_page (g.A.Reader.stand c.args.asker.now).setting.nodes _ _ _ _
    c.pushed.ensures.founded c.pushed.ensures.asks).asks

pub returns-in_err-read-clause-founded : goal.returns-in_err-read-clause-founded
returns-in_err-read-clause-founded g c = (about_rules (g.A.Reader.stand c.args.asker.now).setting.nodes _ _ _ _ _
    c.pushed.ensures.grows c.pushed.ensures.founded c.pushed.ensures.asks
    c.read.ensures.founded c.read.ensures.asks).founded

pub returns-in_err-read-clause-asks : goal.returns-in_err-read-clause-asks
returns-in_err-read-clause-asks g c = (about_rules (g.A.Reader.stand c.args.asker.now).setting.nodes _ _ _ _ _
    c.pushed.ensures.grows c.pushed.ensures.founded c.pushed.ensures.asks
    c.read.ensures.founded c.read.ensures.asks).asks

pub returns-in_err-rules-clause-founded : goal.returns-in_err-rules-clause-founded
returns-in_err-rules-clause-founded g c = (about_rules (g.A.Reader.stand c.args.asker.now).setting.nodes _ _ _ _ _
    c.pushed.ensures.grows c.pushed.ensures.founded c.pushed.ensures.asks
    c.read.ensures.founded c.read.ensures.asks).founded

pub returns-in_err-rules-clause-asks : goal.returns-in_err-rules-clause-asks
returns-in_err-rules-clause-asks g c = (about_rules (g.A.Reader.stand c.args.asker.now).setting.nodes _ _ _ _ _
    c.pushed.ensures.grows c.pushed.ensures.founded c.pushed.ensures.asks
    c.read.ensures.founded c.read.ensures.asks).asks

pub returns-in_err-standing-clause-founded : goal.returns-in_err-standing-clause-founded
returns-in_err-standing-clause-founded g c = (about_rules (g.A.Reader.stand c.args.asker.now).setting.nodes _ _ _ _ _
    c.pushed.ensures.grows c.pushed.ensures.founded c.pushed.ensures.asks
    c.read.ensures.founded c.read.ensures.asks).founded

pub returns-in_err-standing-clause-asks : goal.returns-in_err-standing-clause-asks
returns-in_err-standing-clause-asks g c = (about_rules (g.A.Reader.stand c.args.asker.now).setting.nodes _ _ _ _ _
    c.pushed.ensures.grows c.pushed.ensures.founded c.pushed.ensures.asks
    c.read.ensures.founded c.read.ensures.asks).asks

pub returns-clause-founded : goal.returns-clause-founded
returns-clause-founded g c = (about_next (g.A.Reader.stand c.args.asker.now).setting.nodes _ _ _ _ _ _ _ refl
    (none_among _)
    (grows_trans _ _ _ (grows_trans _ _ _ c.pushed.ensures.grows c.read.ensures.grows) c.node_at-done.ensures.grows)
    (about_then (g.A.Reader.stand c.args.asker.now).setting.nodes _ _ _ _ _ _ _
    (ap (λ (context : Context). context.page.doc) c.new-resolver.ensures.context)
    (given_none _)
    (grows_trans _ _ _ c.pushed.ensures.grows c.read.ensures.grows)
    (about_rules (g.A.Reader.stand c.args.asker.now).setting.nodes _ _ _ _ _ c.pushed.ensures.grows
    c.pushed.ensures.founded c.pushed.ensures.asks
    c.read.ensures.founded c.read.ensures.asks) (c.node_at-done.ensures.asks
    (g.A.Reader.stand c.args.asker.now).setting.nodes
    (ap (λ (stand : Stand). stand.setting.nodes) (c.in_ok-read.ensures.stand ∙ c.in_ok-doc.ensures.stand))
    (subst (λ (doc : Doc). AreGiven (g.A.Reader.told c.read.new.reader) (reused_of_doc doc)) (sym c.deref-2.ensures)
    (given_reused _ (arc_value c.in-Some.doc) (given_later _ _ _ c.in_ok-read.ensures.grows
    (subst (λ (found : Option (Arc Doc Global)). IsGiven (g.A.Reader.told c.pushed.new.self) (named_found found))
    c.in-Some.is c.in_ok-doc.ensures.given))))))
    (c.finish.ensures.asks (g.A.Reader.stand c.args.asker.now).setting.nodes)).founded

pub returns-clause-asks : goal.returns-clause-asks
returns-clause-asks g c = (about_next (g.A.Reader.stand c.args.asker.now).setting.nodes _ _ _ _ _ _ _ refl
    (none_among _)
    (grows_trans _ _ _ (grows_trans _ _ _ c.pushed.ensures.grows c.read.ensures.grows) c.node_at-done.ensures.grows)
    (about_then (g.A.Reader.stand c.args.asker.now).setting.nodes _ _ _ _ _ _ _
    (ap (λ (context : Context). context.page.doc) c.new-resolver.ensures.context)
    (given_none _)
    (grows_trans _ _ _ c.pushed.ensures.grows c.read.ensures.grows)
    (about_rules (g.A.Reader.stand c.args.asker.now).setting.nodes _ _ _ _ _ c.pushed.ensures.grows
    c.pushed.ensures.founded c.pushed.ensures.asks
    c.read.ensures.founded c.read.ensures.asks) (c.node_at-done.ensures.asks
    (g.A.Reader.stand c.args.asker.now).setting.nodes
    (ap (λ (stand : Stand). stand.setting.nodes) (c.in_ok-read.ensures.stand ∙ c.in_ok-doc.ensures.stand))
    (subst (λ (doc : Doc). AreGiven (g.A.Reader.told c.read.new.reader) (reused_of_doc doc)) (sym c.deref-2.ensures)
    (given_reused _ (arc_value c.in-Some.doc) (given_later _ _ _ c.in_ok-read.ensures.grows
    (subst (λ (found : Option (Arc Doc Global)). IsGiven (g.A.Reader.told c.pushed.new.self) (named_found found))
    c.in-Some.is c.in_ok-doc.ensures.given))))))
    (c.finish.ensures.asks (g.A.Reader.stand c.args.asker.now).setting.nodes)).asks

pub returns-in_default-clause-known : goal.returns-in_default-clause-known
returns-in_default-clause-known g c = λ world agrees rules tables.
    (let stand = g.A.Reader.stand c.args.asker.now in
    let page = c.args.context.now.page in
    let setting = setting_of world stand.setting page
    (page_rules world (ditavals c.args.context.now.val page.filters)) in
    subst (λ (m : Made). IsResolved c.nothing.result m)
    (no_node_made setting (too_many_faults world page.doc) c.args.place
    (sym (c.in_ok-doc.ensures.known world agrees) ∙ ap named_found c.in_default.is)) c.nothing.ensures)

pub returns-clause-known : goal.returns-clause-known
returns-clause-known g c = λ world agrees rules tables.
    (let stand = g.A.Reader.stand c.args.asker.now in
    let page = c.args.context.now.page in
    let names = ditavals c.args.context.now.val page.filters in
    let setting = setting_of world stand.setting page (page_rules world names) in
    let later = agrees_before world _ _ c.finish.ensures.grows agrees in
    let read = agrees_before world _ _ c.node_at-done.ensures.grows later in
    let stands = c.in_ok-read.ensures.stand ∙ c.in_ok-doc.ensures.stand in
    let begins : Begins c.new-resolver.result = record {
      nodes = c.new-resolver.ensures.nodes;
      declared = c.new-resolver.ensures.declared;
      count = c.new-resolver.ensures.count;
      faults = c.new-resolver.ensures.faults;
      path = c.new-resolver.ensures.path;
    } in
    let is = setting_begins world stand (g.A.Reader.stand c.read.new.reader) c.args.context.now c.new-resolver.result
    (page_rules world names) (sym stands) c.new-resolver.ensures.context
    (c.new-resolver.ensures.rules ∙ c.in_ok-rules.ensures ∙ c.in_ok-read.ensures.known
    (subst (λ (s : Stand). AreRules s.world c.args.tables.now.rules) (sym c.in_ok-doc.ensures.stand) rules) world read) in
    let ready = ready_begins world (g.A.Reader.stand c.read.new.reader) setting c.in_ok-standing.standing.depth
    c.new-resolver.result c.args.tables.now.places begins is
    (c.new-resolver.ensures.deepest ∙ c.saturating_sub-deepest.ensures) tables in
    let root = ap (λ (found : Option Written). unwrap_or found End) (ap named_found (sym c.in-Some.is)
    ∙ c.in_ok-doc.ensures.known world (agrees_before world _ _ c.in_ok-read.ensures.grows read)) in
    let here = here_begins setting (c.in_ok-standing.standing.depth + 1) in
    let around = (standing_shown c.in_ok-standing.standing).around in
    let meant = around_at nothing_around (page_root setting) c.args.place in
    let all = resolved_in setting meant.around (meant.depth + 1) (alone_at (page_root setting) c.args.place) in
    let alone = alone_at (named_tree c.deref-2.result.now) c.args.place in
    c.finish.ensures.known world all agrees
    (done_of c.node_at-done.result setting.pushed 0 all c.new-resolver.result c.node_at-done.new.self
    c.node_at-done.new.places begins
    (walks_as c.node_at-done.result setting.pushed 0 (among_made here false around alone) all c.new-resolver.result
    c.node_at-done.new.self c.node_at-done.new.places
    (all_made setting around (c.in_ok-standing.standing.depth + 1) alone
    ∙ ap (λ (stands : StandsAround). resolved_in setting stands.around (stands.depth + 1) alone)
    (c.in_ok-standing.ensures ∙ ap (λ (nodes : Written). around_at nothing_around nodes c.args.place)
    (ap named_tree c.deref.ensures ∙ root))
    ∙ ap (λ (nodes : Written). resolved_in setting meant.around (meant.depth + 1) (alone_at nodes c.args.place))
    (ap named_tree c.deref-2.ensures ∙ root))
    (node_walks c.deref-2.result.now c.args.place c.node_at-done.result here false around setting.pushed 0
    c.new-resolver.result c.node_at-done.new.self c.node_at-done.new.places
    (λ part there some. c.node_at-done.ensures.known world here part later ready there some)
    (λ none. c.node_at-done.ensures.missing world here later ready none)))))

pub returns-clause-kept : goal.returns-clause-kept
returns-clause-kept g c = λ rules.
    let before = subst (λ (s : Stand). AreRules s.world c.args.tables.now.rules) (sym c.in_ok-doc.ensures.stand) rules in
    on_ok_weaker c.finish.result
    (λ memory.
    subst (λ (s : Stand). AreRules s.world c.read.new.self) c.in_ok-doc.ensures.stand (c.in_ok-read.ensures.kept before))
    c.finish.ensures.memory

pub returns-clause-places : goal.returns-clause-places
returns-clause-places g c = λ world agrees rules tables.
    (let stand = g.A.Reader.stand c.args.asker.now in
    let names = ditavals c.args.context.now.val c.args.context.now.page.filters in
    let setting = setting_of world stand.setting c.args.context.now.page (page_rules world names) in
    let later = agrees_before world _ _ c.finish.ensures.grows agrees in
    let read = agrees_before world _ _ c.node_at-done.ensures.grows later in
    let before = subst (λ (s : Stand). AreRules s.world c.args.tables.now.rules) (sym c.in_ok-doc.ensures.stand) rules in
    let begins : Begins c.new-resolver.result = record {
      nodes = c.new-resolver.ensures.nodes;
      declared = c.new-resolver.ensures.declared;
      count = c.new-resolver.ensures.count;
      faults = c.new-resolver.ensures.faults;
      path = c.new-resolver.ensures.path;
    } in
    let is = setting_begins world stand (g.A.Reader.stand c.read.new.reader) c.args.context.now c.new-resolver.result
    (page_rules world names) (sym (c.in_ok-read.ensures.stand ∙ c.in_ok-doc.ensures.stand))
    c.new-resolver.ensures.context
    (c.new-resolver.ensures.rules ∙ c.in_ok-rules.ensures ∙ c.in_ok-read.ensures.known before world read) in
    let ready = ready_begins world (g.A.Reader.stand c.read.new.reader) setting c.in_ok-standing.standing.depth
    c.new-resolver.result c.args.tables.now.places begins is
    (c.new-resolver.ensures.deepest ∙ c.saturating_sub-deepest.ensures) tables in
    let here = here_begins setting (c.in_ok-standing.standing.depth + 1) in
    let around = (standing_shown c.in_ok-standing.standing).around in
    on_ok_weaker c.finish.result
    (λ memory.
    tables_kept c.node_at-done.result setting.pushed 0
    (among_made here false around (alone_at (named_tree c.deref-2.result.now) c.args.place)) c.new-resolver.result
    c.node_at-done.new.self c.node_at-done.new.places memory
    (node_walks c.deref-2.result.now c.args.place c.node_at-done.result here false around setting.pushed 0
    c.new-resolver.result c.node_at-done.new.self c.node_at-done.new.places
    (λ part there some. c.node_at-done.ensures.known world here part later ready there some)
    (λ none. c.node_at-done.ensures.missing world here later ready none))) c.finish.ensures.memory)

pub returns-in_default-clause-given : goal.returns-in_default-clause-given
returns-in_default-clause-given g c = λ roots.
    linked_allowed roots (g.A.Reader.told c.pushed.new.self) (resolved_tree c.nothing.result)
    (subst (HaveNamed (g.A.Reader.told c.pushed.new.self)) (sym c.nothing.ensures.nodes) tt)

pub returns-clause-given : goal.returns-clause-given
returns-clause-given g c =
    let asked = g.A.Reader.told c.pushed.new.self in
    let read = g.A.Reader.told c.read.new.reader in
    let walked = g.A.Reader.told c.node_at-done.new.asker in
    let last = g.A.Reader.told c.finish.new.asker in
    let all = subst (λ (doc : Doc). HaveNamed read (named_tree doc)) (sym c.deref-2.ensures)
    (nodes_later asked read c.in_ok-read.ensures.grows (named_tree (arc_value c.in-Some.doc))
    (found_named asked _ c.in-Some.doc c.in-Some.is c.in_ok-doc.ensures.given)) in
    let none = subst (HaveNamedIn read) (sym c.new-resolver.ensures.nodes) tt in
    IfOk-weaker c.finish.result _ _ (λ resolved named roots. linked_allowed roots last (resolved_tree resolved) named)
    (c.finish.ensures.hrefs last
    (on_ok_weaker c.node_at-done.result
    (λ put. building_later walked last c.finish.ensures.grows (built c.node_at-done.new.self) put)
    (c.node_at-done.ensures.hrefs all none)))

pub returns-in_err-read-clause-grows : goal.returns-in_err-read-clause-grows
returns-in_err-read-clause-grows g c = grows_trans _ _ _ c.pushed.ensures.grows c.read.ensures.grows

pub returns-in_err-read-clause-stand : goal.returns-in_err-read-clause-stand
returns-in_err-read-clause-stand g c = c.read.ensures.stand ∙ c.pushed.ensures.stand

pub returns-in_err-rules-clause-grows : goal.returns-in_err-rules-clause-grows
returns-in_err-rules-clause-grows g c = grows_trans _ _ _ c.pushed.ensures.grows c.read.ensures.grows

pub returns-in_err-rules-clause-stand : goal.returns-in_err-rules-clause-stand
returns-in_err-rules-clause-stand g c = c.read.ensures.stand ∙ c.pushed.ensures.stand

pub returns-in_err-standing-clause-grows : goal.returns-in_err-standing-clause-grows
returns-in_err-standing-clause-grows g c = grows_trans _ _ _ c.pushed.ensures.grows c.read.ensures.grows

pub returns-in_err-standing-clause-stand : goal.returns-in_err-standing-clause-stand
returns-in_err-standing-clause-stand g c = c.read.ensures.stand ∙ c.pushed.ensures.stand

pub returns-clause-grows : goal.returns-clause-grows
returns-clause-grows g c =
    grows_trans _ _ _ (grows_trans _ _ _ c.pushed.ensures.grows c.read.ensures.grows)
    (grows_trans _ _ _ c.node_at-done.ensures.grows c.finish.ensures.grows)

pub returns-clause-stand : goal.returns-clause-stand
returns-clause-stand g c =
    c.finish.ensures.stand ∙ c.node_at-done.ensures.stand ∙ c.read.ensures.stand ∙ c.pushed.ensures.stand

pub returns-in_default-clause-only : goal.returns-in_default-clause-only
returns-in_default-clause-only g c = λ world agrees.
    (let stand = g.A.Reader.stand c.args.asker.now in
    let same : stand ≡ stand = refl in
    asks_first world c.args.context.now same (c.in_ok-doc.ensures.only world agrees))

pub returns-clause-only : goal.returns-clause-only
returns-clause-only g c = λ world agrees.
    (let context = c.args.context.now in
    let stand = g.A.Reader.stand c.args.asker.now in
    let same : stand ≡ stand = refl in
    let page = page_at world stand.setting context.val context.page in
    let later = agrees_before world _ _ c.finish.ensures.grows agrees in
    let read = agrees_before world _ _ c.node_at-done.ensures.grows later in
    let asked = agrees_before world _ _ c.in_ok-read.ensures.grows read in
    let at = at_later (begins_at world context same) (c.in_ok-read.ensures.stand ∙ c.in_ok-doc.ensures.stand) in
    asks_done page _ _ _ c.finish.result c.node_at-done.result c.finish.ensures.memory
    (asks_unless page _ _ _ c.node_at-done.result
    (asks_rules world context same (c.in_ok-doc.ensures.only world asked) c.in_ok-read.ensures.only)
    (c.node_at-done.ensures.only page later
    (at_next at refl (ap (λ (at : Context). at.page) c.new-resolver.ensures.context))
    (met_as page c.deref-2.ensures (root_met world context same (named_tree (arc_value c.in-Some.doc))
    (ap named_found (sym c.in-Some.is) ∙ c.in_ok-doc.ensures.known world asked)))))
    (c.finish.ensures.only page agrees (at_later at c.node_at-done.ensures.stand)))

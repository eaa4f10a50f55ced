use Rattle.std.proofs.Common.{Option, sym, ap, subst, ◌∙◌}
use Rattle.std.specs.Arc.{arc_value}
use Rattle.std.specs.declared.alloc.Global.{Global}
use Rattle.std.specs.declared.sync.Arc.{Arc}
use Rattle.dita_doc.specs.declared.doc.Doc.{Doc}
use Rattle.readers.specs.Documents.{IsGiven}
use Rattle.readers.specs.Named.{named_found, named_tree}
use Rattle.conref_targets.specs.ResolveInput.{setting_of}
use Rattle.conref_targets.proofs.AskingLaws.{about_pushed}
use Rattle.conref_targets.proofs.FindLaws.{given_found, not_stored}
use Rattle.conref_targets.proofs.PageAskingLaws.{asks_pushed, document_met, finds_in, finds_none}
use Rattle.conref_targets.proofs.find.find_in.Goals as goal

pub returns-in-None-clause-known : goal.returns-in-None-clause-known
returns-in-None-clause-known g c = λ world page rules agrees are.
    not_stored (setting_of world (g.A.Reader.stand c.args.asker.now).setting page rules) c.args.name c.args.topic.now
    c.args.element.now c.args.value.now c.args.places.now are
    (sym (c.in_ok-stored.ensures.known world agrees) ∙ ap named_found c.in-None.is)

pub returns-clause-known : goal.returns-clause-known
returns-clause-known g c = λ world page rules agrees are.
    c.found_in.ensures.known (setting_of world (g.A.Reader.stand c.args.asker.now).setting page rules) are
    (sym (c.in_ok-stored.ensures.known world agrees) ∙ ap named_found c.in-Some.is)

pub returns-clause-given : goal.returns-clause-given
returns-clause-given g c =
    given_found (g.A.Reader.told c.pushed.new.self) c.in-Some.doc c.found_in.result c.found_in.ensures.doc
    (subst (λ (found : Option (Arc Doc Global)). IsGiven (g.A.Reader.told c.pushed.new.self) (named_found found))
    c.in-Some.is c.in_ok-stored.ensures.given)

pub returns-in_err-stored-clause-asks : goal.returns-in_err-stored-clause-asks
returns-in_err-stored-clause-asks g c = λ nodes same.
    about_pushed nodes c.args.name _ _ c.pushed.ensures.founded c.pushed.ensures.asks

pub returns-in-None-clause-asks : goal.returns-in-None-clause-asks
returns-in-None-clause-asks g c = λ nodes same.
    about_pushed nodes c.args.name _ _ c.pushed.ensures.founded c.pushed.ensures.asks

pub returns-clause-asks : goal.returns-clause-asks
returns-clause-asks g c = λ nodes same.
    about_pushed nodes c.args.name _ _ c.pushed.ensures.founded c.pushed.ensures.asks

pub returns-in-None-clause-only : goal.returns-in-None-clause-only
returns-in-None-clause-only g c = λ page id agrees at of.
    finds_none (asks_pushed page c.args.name of (g.A.Reader.stand c.args.asker.now) id _ _ at
    (c.in_ok-stored.ensures.only page.world agrees))

pub returns-clause-only : goal.returns-clause-only
returns-clause-only g c = λ page id agrees at of.
    (let stand = g.A.Reader.stand c.args.asker.now in
    finds_in _ _ c.in-Some.doc c.found_in.result c.found_in.ensures.doc
    (asks_pushed page c.args.name of stand id _ _ at (c.in_ok-stored.ensures.only page.world agrees))
    (document_met page c.args.name of stand id (named_tree (arc_value c.in-Some.doc)) at
    (ap named_found (sym c.in-Some.is) ∙ c.in_ok-stored.ensures.known page.world agrees)))

use Rattle.std.proofs.Common.{refl, subst, sym}
use Rattle.dita_doc.specs.ClassValue.{words_of}
use Rattle.doc_elements.specs.Walk.{element_of}
use Rattle.html_forms.specs.Shown.{form_shown_of}
use Rattle.html_tables.specs.Walk.{HasColumns, columns_within, content_named}
use Rattle.html_tables.proofs.WalkLaws.{within_none, within_some}
use Rattle.html_tables.proofs.table.enter.Goals as goal

pub returns-in-Some-clause-within : goal.returns-in-Some-clause-within
returns-in-Some-clause-within c = λ names name around is.
    let words = words_of c.tokens_of-tokens.result.now in
    let inside = content_named names c.args.inside in
    let nearest = subst (λ group. HasColumns c.enter.new.self group (columns_within words inside around.columns))
    (sym c.within.ensures.group) (c.in_ok-group.ensures.nearest names around.columns is.columns) in
    within_some c.args.groups.now _ c.args.context _ (element_of name c.args.element.now) inside around words is
    (c.tokens_of-tokens.ensures name) nearest c.in-Some.token.now (form_shown_of c.in-Some.field-0-1) c.in-Some.ensures
    c.within.ensures.head c.within.ensures.simple_head

pub returns-in-None-clause-within : goal.returns-in-None-clause-within
returns-in-None-clause-within c = λ names name around is.
    within_none c.args.groups.now _ c.args.context _ (element_of name c.args.element.now)
    (content_named names c.args.inside) around (words_of c.tokens_of-tokens.result.now) is
    (c.tokens_of-tokens.ensures name) (c.in_ok-group.ensures.nearest names around.columns is.columns)
    c.in-None.ensures refl refl

use Rattle.std.proofs.Common.{[], ◌++◌, ◌∙◌, ap}
use Rattle.map_spec.specs.Written.{written_in}
use Rattle.doc_elements.specs.Walk.{content_in}
use Rattle.index_page.specs.Walk.{entries_among}
use Rattle.index_page.proofs.BodyLaws.{terms_same}
use Rattle.index_page.proofs.walk.terms_of.Goals as goal

pub returns : goal.returns
returns c = λ nodes are.
    let page = c.args.page in
    c.in_ok-append_terms.ensures []
    ∙ ap (λ before. before ++ entries_among page [] (content_in [] c.of.result)) c.new-entries.ensures
    ∙ ap (λ content. entries_among page [] (written_in [] content)) c.of.ensures.content
    ∙ terms_same c.args.body.now nodes page [] are

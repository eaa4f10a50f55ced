use Rattle.html_blocks.specs.Walk.{origins_of}
use Rattle.html_blocks.proofs.page.BodyText.enter.Goals as goal

pub returns-clause-nearest : goal.returns-clause-nearest
returns-clause-nearest c = λ columns has.
    c.enter.ensures.nearest (origins_of c.args.element.inside) columns has

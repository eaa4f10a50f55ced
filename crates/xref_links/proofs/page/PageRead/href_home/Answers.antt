use Rattle.xref_links.proofs.BodyLaws.{href_there}
use Rattle.xref_links.proofs.page.PageRead.href_home.Goals as goal

pub returns : goal.returns
returns c =
    href_there c.args.self.body.now c.args.standing.place 0 c.as_slice-hrefs.result.now c.as_slice-origins.result.now
    c.index-origins-origin.result _ c.as_slice-hrefs.ensures c.as_slice-origins.ensures c.requires.place
    c.index-origins-origin.is

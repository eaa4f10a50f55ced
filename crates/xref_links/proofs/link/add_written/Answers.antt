use Rattle.std.specs.Arc.{arc_value}
use Rattle.std.proofs.Common.{refl}
use Rattle.std.specs.Prelude.{codes}
use Rattle.dita_doc.proofs.Lists.{on_ok}
use Rattle.map_spec.specs.Elements.{attribute}
use Rattle.html_spec.specs.Anchors.{read_href}
use Rattle.xref_links.specs.Adding.{element_of}
use Rattle.xref_links.proofs.LinkLaws.{written_more}
use Rattle.xref_links.proofs.NameLaws.{read_founded}
use Rattle.readers.proofs.DocumentLaws.{asks_same}
use Rattle.readers.proofs.FoundedLaws.{stays_same}
use Rattle.readers.proofs.GrowthLaws.{grows_same}
use Rattle.xref_links.proofs.link.add_written.Goals as goal

pub returns-clause-known : goal.returns-clause-known
returns-clause-known g c = λ here agrees is typed none.
    let page = c.args.page in
    let standing = c.args.standing in
    let element = element_of page standing in
    on_ok _ _ c.add_read.result
    (written_more here page standing (read_href here standing.topic.now element (attribute (codes "href") element))
    c.in_ok-target.target c.args.made.now
    (record {
      anchors = c.args.made.now.anchors;
      links = c.args.made.now.links;
      faults = c.read_href.new.faults;
    }) c.add_read.new.made (c.in_ok-target.ensures here is.id) refl refl)
    (c.add_read.ensures.known here agrees is typed none)

pub returns-clause-founded : goal.returns-clause-founded
returns-clause-founded g c =
    read_founded (arc_value c.args.page.context.now).page c.args.standing.topic.now
    (element_of c.args.page c.args.standing)
    c.in_ok-target.target c.args.made.now.faults c.read_href.new.faults _ _
    (λ here same. c.in_ok-target.ensures here same) c.add_read.ensures.founded

pub returns-clause-stand : goal.returns-clause-stand
returns-clause-stand g c = c.add_read.ensures.stand

pub returns-clause-asks : goal.returns-clause-asks
returns-clause-asks g c = c.add_read.ensures.asks

pub returns-clause-grows : goal.returns-clause-grows
returns-clause-grows g c = c.add_read.ensures.grows

pub returns-in_err-target-clause-stand : goal.returns-in_err-target-clause-stand
returns-in_err-target-clause-stand g c = refl

pub returns-in_err-target-clause-founded : goal.returns-in_err-target-clause-founded
returns-in_err-target-clause-founded g c = stays_same _ _ _ refl

pub returns-in_err-target-clause-asks : goal.returns-in_err-target-clause-asks
returns-in_err-target-clause-asks g c = asks_same _ _ _ _ refl

pub returns-in_err-target-clause-grows : goal.returns-in_err-target-clause-grows
returns-in_err-target-clause-grows g c = grows_same _

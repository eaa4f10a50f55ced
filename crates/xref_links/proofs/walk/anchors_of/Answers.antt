use Rattle.std.specs.Arc.{arc_value}
use Rattle.std.proofs.Common.{None, refl, subst}
use Rattle.dita_doc.specs.Tree.{Content}
use Rattle.readers.specs.Founded.{StaysFounded}
use Rattle.xref_links.specs.Adding.{HaveMore, added_from}
use Rattle.xref_links.specs.Body.{written_at}
use Rattle.readers.specs.Named.{linked_in}
use Rattle.xref_links.specs.Names.{names_with}
use Rattle.xref_links.proofs.BodyLaws.{root_room}
use Rattle.xref_links.proofs.WayLaws.{made_all}
use Rattle.xref_links.proofs.walk.anchors_of.Goals as goal

pub walk-requires-clause-room : goal.walk-requires-clause-room
walk-requires-clause-room g c =
    root_room c.args.page.body.now.doc.nodes _ c.args.page.body.now.doc.tree c.of.ensures.content

pub walk-requires-clause-document : goal.walk-requires-clause-document
walk-requires-clause-document g c = c.of.ensures.document

pub returns-clause-known : goal.returns-clause-known
returns-clause-known g c = λ here agrees is.
    let body = c.args.page.body.now in
    let Is : Content → Type 0 =
    λ tree. HaveMore c.new-made.result c.walk.new.made (added_from here 0 None (written_at body 0 tree)) in
    made_all here _ c.new-made.result c.walk.new.made c.new-made.ensures
    (subst Is c.of.ensures.content (c.in_ok-walk.ensures.known here None agrees is refl))

pub returns-clause-founded : goal.returns-clause-founded
returns-clause-founded g c =
    let body = c.args.page.body.now in
    let Is : Content → Type 0 = λ tree. StaysFounded
    (names_with (g.A.Reader.stand c.args.asker.now).setting.nodes (arc_value c.args.page.context.now).page.doc
    (linked_in (written_at body 0 tree)))
    (g.A.Reader.told c.args.asker.now) (g.A.Reader.told c.walk.new.asker) in
    subst Is c.of.ensures.content (c.in_ok-walk.ensures.founded _ refl)

pub returns-in_err-walk-clause-founded : goal.returns-in_err-walk-clause-founded
returns-in_err-walk-clause-founded g c =
    let body = c.args.page.body.now in
    let Is : Content → Type 0 = λ tree. StaysFounded
    (names_with (g.A.Reader.stand c.args.asker.now).setting.nodes (arc_value c.args.page.context.now).page.doc
    (linked_in (written_at body 0 tree)))
    (g.A.Reader.told c.args.asker.now) (g.A.Reader.told c.walk.new.asker) in
    subst Is c.of.ensures.content (c.in_err-walk.ensures.founded _ refl)

pub returns-clause-stand : goal.returns-clause-stand
returns-clause-stand g c = c.walk.ensures.stand

pub returns-clause-asks : goal.returns-clause-asks
returns-clause-asks g c = c.walk.ensures.asks

pub returns-clause-grows : goal.returns-clause-grows
returns-clause-grows g c = c.walk.ensures.grows

pub returns-in_err-walk-clause-stand : goal.returns-in_err-walk-clause-stand
returns-in_err-walk-clause-stand g c = c.walk.ensures.stand

pub returns-in_err-walk-clause-asks : goal.returns-in_err-walk-clause-asks
returns-in_err-walk-clause-asks g c = c.walk.ensures.asks

pub returns-in_err-walk-clause-grows : goal.returns-in_err-walk-clause-grows
returns-in_err-walk-clause-grows g c = c.walk.ensures.grows

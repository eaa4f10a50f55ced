use Rattle.std.specs.Arc.{arc_value}
use Rattle.std.proofs.Common.{Option, subst, sym}
use Rattle.dita_doc.specs.declared.plan.Target.{Target}
use Rattle.dita_doc.proofs.Lists.{on_ok}
use Rattle.html_spec.specs.Anchors.{defined_key, image_added, image_by, keyref_of}
use Rattle.readers.specs.Founded.{StaysFounded}
use Rattle.xref_links.specs.Adding.{HasMore, alone, element_of, target_of}
use Rattle.readers.specs.Named.{link_names}
use Rattle.xref_links.specs.Names.{names_of_target}
use Rattle.xref_links.specs.declared.keyed.Keyed.{Keyed}
use Rattle.xref_links.proofs.AddLaws.{image_more, key_defined, key_undefined, keyed_more}
use Rattle.xref_links.proofs.NameLaws.{href_part, key_part}
use Rattle.xref_links.proofs.walk.add_behind.Goals as goal

pub returns-then-types-clause-known : goal.returns-then-types-clause-known
returns-then-types-clause-known g c = λ here around agrees is types topic key.
    let page = c.args.page in
    let standing = c.args.standing in
    on_ok _ _ c.add_image.result
    (λ more. image_more here page standing around c.args.types c.args.keyed c.args.made.now c.add_image.new.made types
    c.if-types.true key
    (subst (λ (target : Target). HasMore c.args.made.now c.add_image.new.made
    (image_added here (alone page standing) (image_by (element_of page standing) target))) c.target_of.ensures more))
    (c.add_image.ensures here is.name)

pub returns-in-Some-clause-known : goal.returns-in-Some-clause-known
returns-in-Some-clause-known g c = λ here around agrees is types topic key.
    let page = c.args.page in
    let standing = c.args.standing in
    let element = element_of page standing in
    let found =
    key_defined (keyref_of element) (defined_key here element) c.args.keyed c.in-Some.keyed c.in-Some.is key in
    on_ok _ _ c.add_keyed.result
    (keyed_more here page standing around c.args.types found.answer c.args.made.now c.add_keyed.new.made types
    c.if-types.false found.is)
    (c.add_keyed.ensures.known here found.answer agrees is types.link found.is found.given)

pub returns-in-Some-clause-founded : goal.returns-in-Some-clause-founded
returns-in-Some-clause-founded g c =
    let page = c.args.page in
    let links = link_names (element_of page c.args.standing) in
    key_part (names_of_target (target_of c.args.keyed)) (arc_value page.context.now).page.doc links _ _
    (subst (λ (keyed : Option Keyed). StaysFounded (names_of_target (target_of keyed))
    (g.A.Reader.told c.args.asker.now)
    (g.A.Reader.told c.add_keyed.new.asker)) (sym c.in-Some.is) c.add_keyed.ensures.founded)

pub returns-in-None-clause-known : goal.returns-in-None-clause-known
returns-in-None-clause-known g c = λ here around agrees is types topic key.
    let element = element_of c.args.page c.args.standing in
    c.add_unkeyed.ensures.known here around agrees is types c.if-types.false topic
    (key_undefined (keyref_of element) (defined_key here element) c.args.keyed c.in-None.is key)

pub returns-in-None-clause-founded : goal.returns-in-None-clause-founded
returns-in-None-clause-founded g c =
    href_part (names_of_target (target_of c.args.keyed)) (arc_value c.args.page.context.now).page.doc
    (link_names (element_of c.args.page c.args.standing)) _ _ c.add_unkeyed.ensures.founded

pub returns-in-Some-clause-stand : goal.returns-in-Some-clause-stand
returns-in-Some-clause-stand g c = c.add_keyed.ensures.stand

pub returns-in-Some-clause-asks : goal.returns-in-Some-clause-asks
returns-in-Some-clause-asks g c = c.add_keyed.ensures.asks

pub returns-in-Some-clause-grows : goal.returns-in-Some-clause-grows
returns-in-Some-clause-grows g c = c.add_keyed.ensures.grows

pub returns-in-None-clause-stand : goal.returns-in-None-clause-stand
returns-in-None-clause-stand g c = c.add_unkeyed.ensures.stand

pub returns-in-None-clause-asks : goal.returns-in-None-clause-asks
returns-in-None-clause-asks g c = c.add_unkeyed.ensures.asks

pub returns-in-None-clause-grows : goal.returns-in-None-clause-grows
returns-in-None-clause-grows g c = c.add_unkeyed.ensures.grows

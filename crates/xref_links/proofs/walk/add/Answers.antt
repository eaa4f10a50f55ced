use Rattle.std.specs.Arc.{arc_value}
use Rattle.std.proofs.Common.{[], ◌∙◌, refl}
use Rattle.dita_doc.proofs.Lists.{on_ok}
use Rattle.readers.proofs.GrowthLaws.{agrees_before, grows_trans}
use Rattle.xref_links.specs.Adding.{element_of, target_of}
use Rattle.readers.specs.Named.{link_names}
use Rattle.xref_links.specs.Names.{names_of_target}
use Rattle.xref_links.proofs.AddLaws.{typed_by, typed_more}
use Rattle.xref_links.proofs.HereLaws.{here_kept}
use Rattle.xref_links.proofs.NameLaws.{behind_founded, key_founded}
use Rattle.readers.specs.Documents.{nothing}
use Rattle.readers.proofs.DocumentLaws.{asks_after}
use Rattle.xref_links.proofs.walk.add.Goals as goal

pub returns-clause-known : goal.returns-clause-known
returns-clause-known g c = λ here around agrees is types topic.
    let key = c.in_ok-keyed.ensures.known here
    (agrees_before here.world _ _ c.add_behind.ensures.grows agrees) is in
    on_ok _ _ c.add_behind.result
    (typed_more here c.args.page c.args.standing around c.in_ok-keyed.keyed c.args.made.now
    (record {
      anchors = c.args.made.now.anchors;
      links = c.args.made.now.links;
      faults = c.defined_key.new.faults;
    }) c.add_behind.new.made (typed_by c.args.types.has_types _ c.if-not-types.false types.any) key refl refl)
    (c.add_behind.ensures.known here around agrees (here_kept _ _ _ here c.in_ok-keyed.ensures.stand is) types topic
    key.is)

pub returns-clause-founded : goal.returns-clause-founded
returns-clause-founded g c = λ nodes same.
    behind_founded nodes _ (arc_value c.args.page.context.now).page.doc
    (link_names (element_of c.args.page c.args.standing)) (names_of_target (target_of c.in_ok-keyed.keyed)) _ _ _ same
    c.in_ok-keyed.ensures.grows c.in_ok-keyed.ensures.founded (λ roots. c.in_ok-keyed.ensures.given roots)
    c.add_behind.ensures.founded

pub returns-in_err-keyed-clause-founded : goal.returns-in_err-keyed-clause-founded
returns-in_err-keyed-clause-founded g c = λ nodes same.
    key_founded nodes _ (arc_value c.args.page.context.now).page.doc
    (link_names (element_of c.args.page c.args.standing)) _ _ same c.in_err-keyed.ensures.founded

pub returns-in_err-keyed-clause-stand : goal.returns-in_err-keyed-clause-stand
returns-in_err-keyed-clause-stand g c = c.defined_key.ensures.stand

pub returns-in_err-keyed-clause-asks : goal.returns-in_err-keyed-clause-asks
returns-in_err-keyed-clause-asks g c = c.defined_key.ensures.asks

pub returns-in_err-keyed-clause-grows : goal.returns-in_err-keyed-clause-grows
returns-in_err-keyed-clause-grows g c = c.defined_key.ensures.grows

pub returns-clause-stand : goal.returns-clause-stand
returns-clause-stand g c = c.add_behind.ensures.stand ∙ c.in_ok-keyed.ensures.stand

pub returns-clause-asks : goal.returns-clause-asks
returns-clause-asks g c =
    asks_after nothing [] _ _ _ c.in_ok-keyed.ensures.grows c.in_ok-keyed.ensures.asks c.add_behind.ensures.asks

pub returns-clause-grows : goal.returns-clause-grows
returns-clause-grows g c = grows_trans _ _ _ c.in_ok-keyed.ensures.grows c.add_behind.ensures.grows

use Rattle.std.proofs.Common.{◌∙◌, sym}
use Rattle.dita_doc.proofs.Lists.{on_ok}
use Rattle.xref_links.proofs.AddLaws.{other_more, read_more}
use Rattle.xref_links.proofs.walk.add_unkeyed.Goals as goal

pub returns-then-not-is_linked-clause-known : goal.returns-then-not-is_linked-clause-known
returns-then-not-is_linked-clause-known g c = λ here around agrees is types image topic none.
    other_more here c.args.page c.args.standing around c.args.types c.args.made.now types image
    (sym c.is_linked.ensures ∙ c.if-not-is_linked.true) none

pub returns-clause-known : goal.returns-clause-known
returns-clause-known g c = λ here around agrees is types image topic none.
    on_ok _ _ c.add_written.result
    (read_more here c.args.page c.args.standing around c.args.types c.args.made.now c.add_written.new.made types image
    (sym c.is_linked.ensures ∙ c.if-not-is_linked.false) none topic)
    (c.add_written.ensures.known here agrees is types.link none)

pub returns-clause-stand : goal.returns-clause-stand
returns-clause-stand g c = c.add_written.ensures.stand

pub returns-clause-founded : goal.returns-clause-founded
returns-clause-founded g c = c.add_written.ensures.founded

pub returns-clause-asks : goal.returns-clause-asks
returns-clause-asks g c = c.add_written.ensures.asks

pub returns-clause-grows : goal.returns-clause-grows
returns-clause-grows g c = c.add_written.ensures.grows

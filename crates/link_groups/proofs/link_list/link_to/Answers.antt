use Rattle.std.proofs.Common.{ap, sym, ◌∙◌}
use Rattle.map_spec.specs.Titles.{title_in}
use Rattle.readers.specs.Told.{title}
use Rattle.readers.proofs.GrowthLaws.{told_answer}
use Rattle.link_groups.proofs.AskedLaws.{title_asked}
use Rattle.link_groups.proofs.link_list.link_to.Goals as goal

pub returns-clause-known : goal.returns-clause-known
returns-clause-known g c = λ world agrees.
    let doc = c.args.other.now.id.doc in
    let told = told_answer world (title doc c.new-no_topic.result c.in_ok-label.label) _ _ c.in_ok-label.ensures.told agrees in
    let label = sym told ∙ ap (title_in world doc) c.new-no_topic.ensures in
    (λ i. record { kind = c.args.kind; href = c.in_ok-relative.ensures i; label = label i })

pub returns-clause-stand : goal.returns-clause-stand
returns-clause-stand g c = c.title.ensures.stand

pub returns-clause-founded : goal.returns-clause-founded
returns-clause-founded g c = c.title.ensures.founded

pub returns-clause-asks : goal.returns-clause-asks
returns-clause-asks g c = c.title.ensures.asks

pub returns-clause-grows : goal.returns-clause-grows
returns-clause-grows g c = c.title.ensures.grows

pub returns-in_err-label-clause-stand : goal.returns-in_err-label-clause-stand
returns-in_err-label-clause-stand g c = c.title.ensures.stand

pub returns-in_err-label-clause-founded : goal.returns-in_err-label-clause-founded
returns-in_err-label-clause-founded g c = c.title.ensures.founded

pub returns-in_err-label-clause-asks : goal.returns-in_err-label-clause-asks
returns-in_err-label-clause-asks g c = c.title.ensures.asks

pub returns-in_err-label-clause-grows : goal.returns-in_err-label-clause-grows
returns-in_err-label-clause-grows g c = c.title.ensures.grows

pub returns-in_err-relative-clause-stand : goal.returns-in_err-relative-clause-stand
returns-in_err-relative-clause-stand g c = c.title.ensures.stand

pub returns-in_err-relative-clause-founded : goal.returns-in_err-relative-clause-founded
returns-in_err-relative-clause-founded g c = c.title.ensures.founded

pub returns-in_err-relative-clause-asks : goal.returns-in_err-relative-clause-asks
returns-in_err-relative-clause-asks g c = c.title.ensures.asks

pub returns-in_err-relative-clause-grows : goal.returns-in_err-relative-clause-grows
returns-in_err-relative-clause-grows g c = c.title.ensures.grows

pub returns-clause-only : goal.returns-clause-only
returns-clause-only g c = title_asked _ _ _ _ _ c.new-no_topic.ensures c.in_ok-label.ensures.told

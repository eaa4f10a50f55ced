use Rattle.std.proofs.Common.{◌++◌}
use Rattle.family_links.specs.Sequenced.{links_beside}
use Rattle.family_links.proofs.MadeLaws.{appended_all}
use Rattle.family_links.proofs.table.Collections.append.Goals as goal

pub returns : goal.returns
returns c = λ world plan all are holds.
    appended_all world plan c.args.page all c.append-2.result c.append-2.new.links
    (c.append-2.ensures world plan (all ++ links_beside world plan c.args.page) are.families
    (c.in_ok-append.ensures world plan all are.sequences holds))

use Rattle.build_plan.proofs.WordLaws.{name_under}
use Rattle.desk_top.proofs.path.page_path.Goals as goal

pub new-requires : goal.new-requires
new-requires c = rw (c.in_ok-text.ensures, c.as_str.ensures.value)
    (name_under c.args.number c.args.page.now c.requires.number c.requires.page.named c.requires.page.within)

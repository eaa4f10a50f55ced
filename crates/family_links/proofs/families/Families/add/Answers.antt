use Rattle.std.proofs.Common.{◌≡◌, ◌∙◌, length, rules, vec_len}
use Rattle.family_links.proofs.TargetLaws.{family_added}
use Rattle.family_links.proofs.families.Families.add.Goals as goal

pub returns : goal.returns
returns c = λ groups before.
    let count : vec_len c.args.self.now.targets ≡ length c.args.self.now.targets.items = search rules in
    family_added groups c.args.nodes.now c.args.self.now
    (record { targets = c.push.new.self; of_pages = c.put_pages.new.of_pages }) c.len-place.result
    c.in_ok-first_targets.field-0 before (c.len-place.ensures ∙ count) c.in_ok-put_pages.ensures
    c.in_ok-first_targets.ensures c.in_ok-push.ensures.items

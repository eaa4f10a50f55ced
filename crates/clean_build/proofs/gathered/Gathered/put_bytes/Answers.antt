use Rattle.std.proofs.Common.{◌+◌, ap, ◌∙◌}
use Rattle.clean_build.proofs.GatheredLaws.{pages_put, seen_more}
use Rattle.clean_build.proofs.gathered.Gathered.put_bytes.Goals as goal

pub returns-clause-pages : goal.returns-clause-pages
returns-clause-pages c = λ names parts part has same. pages_put names c.args.name parts part c.args.self.now _
    c.args.bytes has same
    (c.in-Some.ensures.1 ∙ ap (λ n. c.args.self.now.total + n) c.len.ensures.length)
    (λ few. seen_more _ _ _ _ _ c.in_ok-push.ensures c.name.view_is c.in_ok-new.ensures.ok)

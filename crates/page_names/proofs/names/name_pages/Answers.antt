use Rattle.std.proofs.Common.{◌≡◌, ◌∷◌, rules, subst}
use Rattle.std.specs.Vec.Iter.{into_iter_items}
use Rattle.page_names.specs.Shown.{use_shown, uses_shown}
use Rattle.page_names.specs.Taken.{AreNamed}
use Rattle.page_names.proofs.NameLaws.{faults_more, named_more}
use Rattle.page_names.proofs.names.name_pages.Goals as goal

pub loop-page-preserved : goal.loop-page-preserved
loop-page-preserved c =
    let before = c.loop-page.invariant.named in
    let rest = into_iter_items c.next.new.self in
    let first : into_iter_items c.loop-page.page-iterator ≡ c.in-Some.page ∷ rest = search rules in
    record {
      named = (
        c.in_ok-named.named.name ∷ before.0,
        named_more before.0 c.loop-page.pages c.push.new.self (use_shown c.in-Some.page) (uses_shown rest)
            (uses_shown c.args.uses.items) c.loop-page.names c.name_page.new.names c.in_ok-named.named c.len.result
            c.len.ensures.length c.in_ok-push.ensures
            (subst (λ us. AreNamed before.0 c.loop-page.pages (uses_shown us) (uses_shown c.args.uses.items)
            c.loop-page.names) first before.1)
            (c.in_ok-named.ensures.named before.0 before.1.takes),
      );
      faults = faults_more c.args.nodes.now c.args.faults.now c.loop-page.faults c.name_page.new.faults
          c.loop-page.pages
          c.push.new.self c.in_ok-named.named c.loop-page.invariant.faults c.in_ok-named.ensures.faults
          c.in_ok-push.ensures;
    }

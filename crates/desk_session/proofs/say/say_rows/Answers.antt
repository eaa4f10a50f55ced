use Rattle.std.proofs.Common.{◌≡◌, ◌∙◌, ◌+◌, [], ◌∷◌, Err, drop, map, rules, subst, sym, take}
use Rattle.desk_session.proofs.LinkLaws.{all_then, front_longer, says_then}
use Rattle.desk_session.proofs.Lists.{map_around, map_more}
use Rattle.desk_session.specs.Asking.{row_message}
use Rattle.desk_session.specs.Saying.{Says, SaysAll, SaysFront}
use Rattle.desk_session.proofs.say.say_rows.Goals as goal

pub returns-in_err-say_row : goal.returns-in_err-say_row
returns-in_err-say_row g c =
    let old = g.L.Link.told c.args.link.now in
    let new = g.L.Link.told c.say_row.new.link in
    let pages = c.args.pages.now in
    let index = c.loop-page.page-index in
    let page = c.page-item.result in
    let ended = c.in_err-say_row.field-0.0 in
    let is : c.from_residual.result ≡ Err ended = search rules in
    subst (λ result. SaysAll old new result (map row_message pages)) (sym is)
    (subst (SaysFront old new ended)
    (sym (map_around row_message pages index page c.loop-page-test.true c.page-item.is))
    (front_longer old new ended _ (map row_message (drop (index + 1) pages))
    (all_then old (g.L.Link.told c.loop-page.link) new (Err ended) (map row_message (take index pages))
    (row_message page ∷ []) c.loop-page.invariant.says c.loop-page.invariant.sure c.in_err-say_row.ensures)))

pub loop-page-preserved : goal.loop-page-preserved
loop-page-preserved g c =
    let old = g.L.Link.told c.args.link.now in
    let new = g.L.Link.told c.say_row.new.link in
    let pages = c.args.pages.now in
    let index = c.loop-page.page-index in
    let page = c.page-item.result in
    record {
      says = subst (Says old new) (sym (map_more row_message pages index page c.loop-page-test.true c.page-item.is))
          (says_then old (g.L.Link.told c.loop-page.link) new (map row_message (take index pages)) (row_message page ∷ [])
          c.loop-page.invariant.says c.in_ok-say_row.ensures.0);
      sure = c.in_ok-say_row.ensures.1 ∙ c.loop-page.invariant.sure;
    }

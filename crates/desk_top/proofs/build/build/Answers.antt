use Rattle.std.proofs.Common.{Some, ap, subst, ◌∙◌}
use Rattle.clean_build.specs.Clean.{clean_seen}
use Rattle.dita_doc.specs.Seen.{entry_seen, request_seen}
use Rattle.dita_outside.specs.Pages.{TakesPages, TakesPagesFront}
use Rattle.desk_top.specs.Builds.{pages_put_by, terms_put}
use Rattle.desk_top.proofs.AnswerLaws.{put_whole}
use Rattle.desk_top.proofs.TakesLaws.{front_more, puts_front, takes_then, takes_then_front}
use Rattle.desk_top.proofs.build.build.Goals as goal

pub returns-in_err-text-in-Build-clause-pages : goal.returns-in_err-text-in-Build-clause-pages
returns-in_err-text-in-Build-clause-pages g c =
    let built = clean_seen c.in_ok-built-in-Build.built in
    let terms = c.in_ok-built-in-Build.terms in
    let number = c.args.number in
    let whole =
    put_whole c.args.with_terms c.args.store.now c.args.place number (entry_seen c.entry.result.now) _ c.in-Build.map
    c.in-Build.val _ built terms c.entry.ensures (ap request_seen c.in-Build.is) (c.deref.ensures ∙ c.sources.ensures)
    c.as_ref.ensures.value c.in_ok-built-in-Build.ensures.built c.in_ok-built-in-Build.ensures.terms in
    puts_front _ _ _ _ c.from_residual-in_err-text-in-Build.result c.from_residual-in_err-text-in-Build.ensures.1
    (subst (TakesPagesFront (g.O.Outlet.pages c.args.outlet.now) (g.O.Outlet.pages c.put_built.new.outlet)) whole
    (front_more _ _ (pages_put_by number (Some built)) (terms_put number terms) c.in_err-text-in-Build.ensures.pages))

pub returns-in_err-deliver_terms-in-Build-clause-pages : goal.returns-in_err-deliver_terms-in-Build-clause-pages
returns-in_err-deliver_terms-in-Build-clause-pages g c =
    let built = clean_seen c.in_ok-built-in-Build.built in
    let terms = c.in_ok-built-in-Build.terms in
    let number = c.args.number in
    let whole =
    put_whole c.args.with_terms c.args.store.now c.args.place number (entry_seen c.entry.result.now) _ c.in-Build.map
    c.in-Build.val _ built terms c.entry.ensures (ap request_seen c.in-Build.is) (c.deref.ensures ∙ c.sources.ensures)
    c.as_ref.ensures.value c.in_ok-built-in-Build.ensures.built c.in_ok-built-in-Build.ensures.terms in
    puts_front _ _ _ _ c.from_residual-in_err-deliver_terms-in-Build.result
    c.from_residual-in_err-deliver_terms-in-Build.ensures.1
    (subst (TakesPagesFront (g.O.Outlet.pages c.args.outlet.now) (g.O.Outlet.pages c.deliver_terms.new.outlet)) whole
    (takes_then_front _ (g.O.Outlet.pages c.put_built.new.outlet) _ (pages_put_by number (Some built))
    (terms_put number terms) c.in_ok-text-in-Build.ensures.pages c.in_err-deliver_terms-in-Build.ensures.pages))

pub returns-in_ok-deliver_terms-in-Build-clause-pages : goal.returns-in_ok-deliver_terms-in-Build-clause-pages
returns-in_ok-deliver_terms-in-Build-clause-pages g c =
    let built = clean_seen c.in_ok-built-in-Build.built in
    let terms = c.in_ok-built-in-Build.terms in
    let number = c.args.number in
    let whole =
    put_whole c.args.with_terms c.args.store.now c.args.place number (entry_seen c.entry.result.now) _ c.in-Build.map
    c.in-Build.val _ built terms c.entry.ensures (ap request_seen c.in-Build.is) (c.deref.ensures ∙ c.sources.ensures)
    c.as_ref.ensures.value c.in_ok-built-in-Build.ensures.built c.in_ok-built-in-Build.ensures.terms in
    subst (TakesPages (g.O.Outlet.pages c.args.outlet.now) (g.O.Outlet.pages c.deliver_terms.new.outlet)) whole
    (takes_then _ (g.O.Outlet.pages c.put_built.new.outlet) _ (pages_put_by number (Some built))
    (terms_put number terms) c.in_ok-text-in-Build.ensures.pages c.in_ok-deliver_terms-in-Build.ensures.pages)

use Rattle.std.proofs.Common.{◌++◌, subst, ◌∙◌, ap}
use Rattle.readers.specs.Documents.{AsksOnly, nothing}
use Rattle.readers.specs.Founded.{StaysFounded}
use Rattle.readers.proofs.DocumentLaws.{asks_after}
use Rattle.readers.proofs.FoundedLaws.{stays_after}
use Rattle.readers.proofs.GrowthLaws.{agrees_before}
use Rattle.build_plan.specs.declared.scoped.Planned.{Planned}
use Rattle.build_plan.proofs.CarryLaws.{homes_scoped, ready_later, table_scoped}
use Rattle.build_plan.proofs.PlanLaws.{plan_gives, plan_stopped}
use Rattle.build_plan.proofs.scoped.plan_of_nodes.Goals as goal

pub keyed_pages-requires-clause-tabled : goal.keyed_pages-requires-clause-tabled
keyed_pages-requires-clause-tabled g c = λ world agrees.
    ∣ table_scoped world c.args.nodes c.in_ok-made.field-0.made.nodes c.in_ok-made.field-0.made.table c.in_ok-made.ensures.nodes
    (c.in_ok-made.ensures.made world agrees).table ∣₁

pub returns-in-Err-clause-known : goal.returns-in-Err-clause-known
returns-in-Err-clause-known g c = λ world agrees.
    plan_stopped world c.args.before c.args.nodes c.in_ok-made.field-0.made.nodes c.in_ok-made.ensures.nodes
    (λ (planned : Planned). planned.plan) c.in-Err.stop (c.in-Err.ensures.known world agrees)

pub returns-in-Err-clause-founded : goal.returns-in-Err-clause-founded
returns-in-Err-clause-founded g c =
    stays_after _ _ _ _ c.with_scopes.ensures.grows c.with_scopes.ensures.founded
    (subst (λ ns. StaysFounded ns (g.T.Reader.told c.with_scopes.new.reader) (g.T.Reader.told c.keyed_pages.new.asker))
    (homes_scoped c.args.nodes c.in_ok-made.field-0.made.nodes c.in_ok-made.ensures.nodes) c.keyed_pages.ensures.founded)

pub returns-in-Err-clause-asks : goal.returns-in-Err-clause-asks
returns-in-Err-clause-asks g c =
    asks_after _ _ _ _ _ c.with_scopes.ensures.grows c.with_scopes.ensures.asks
    (subst (λ ns. AsksOnly nothing ns (g.T.Reader.told c.with_scopes.new.reader) (g.T.Reader.told c.keyed_pages.new.asker))
    (homes_scoped c.args.nodes c.in_ok-made.field-0.made.nodes c.in_ok-made.ensures.nodes) c.keyed_pages.ensures.asks)

pub returns-in_err-append_faults-2-clause-founded : goal.returns-in_err-append_faults-2-clause-founded
returns-in_err-append_faults-2-clause-founded g c =
    stays_after _ _ _ _ c.with_scopes.ensures.grows c.with_scopes.ensures.founded
    (subst (λ ns. StaysFounded ns (g.T.Reader.told c.with_scopes.new.reader) (g.T.Reader.told c.keyed_pages.new.asker))
    (homes_scoped c.args.nodes c.in_ok-made.field-0.made.nodes c.in_ok-made.ensures.nodes) c.keyed_pages.ensures.founded)

pub returns-in_err-append_faults-2-clause-asks : goal.returns-in_err-append_faults-2-clause-asks
returns-in_err-append_faults-2-clause-asks g c =
    asks_after _ _ _ _ _ c.with_scopes.ensures.grows c.with_scopes.ensures.asks
    (subst (λ ns. AsksOnly nothing ns (g.T.Reader.told c.with_scopes.new.reader) (g.T.Reader.told c.keyed_pages.new.asker))
    (homes_scoped c.args.nodes c.in_ok-made.field-0.made.nodes c.in_ok-made.ensures.nodes) c.keyed_pages.ensures.asks)

pub returns-in_err-scopes-clause-founded : goal.returns-in_err-scopes-clause-founded
returns-in_err-scopes-clause-founded g c =
    stays_after _ _ _ _ c.with_scopes.ensures.grows c.with_scopes.ensures.founded
    (subst (λ ns. StaysFounded ns (g.T.Reader.told c.with_scopes.new.reader) (g.T.Reader.told c.keyed_pages.new.asker))
    (homes_scoped c.args.nodes c.in_ok-made.field-0.made.nodes c.in_ok-made.ensures.nodes) c.keyed_pages.ensures.founded)

pub returns-in_err-scopes-clause-asks : goal.returns-in_err-scopes-clause-asks
returns-in_err-scopes-clause-asks g c =
    asks_after _ _ _ _ _ c.with_scopes.ensures.grows c.with_scopes.ensures.asks
    (subst (λ ns. AsksOnly nothing ns (g.T.Reader.told c.with_scopes.new.reader) (g.T.Reader.told c.keyed_pages.new.asker))
    (homes_scoped c.args.nodes c.in_ok-made.field-0.made.nodes c.in_ok-made.ensures.nodes) c.keyed_pages.ensures.asks)

pub returns-clause-founded : goal.returns-clause-founded
returns-clause-founded g c =
    stays_after _ _ _ _ c.with_scopes.ensures.grows c.with_scopes.ensures.founded
    (subst (λ ns. StaysFounded ns (g.T.Reader.told c.with_scopes.new.reader) (g.T.Reader.told c.keyed_pages.new.asker))
    (homes_scoped c.args.nodes c.in_ok-made.field-0.made.nodes c.in_ok-made.ensures.nodes) c.keyed_pages.ensures.founded)

pub returns-clause-asks : goal.returns-clause-asks
returns-clause-asks g c =
    asks_after _ _ _ _ _ c.with_scopes.ensures.grows c.with_scopes.ensures.asks
    (subst (λ ns. AsksOnly nothing ns (g.T.Reader.told c.with_scopes.new.reader) (g.T.Reader.told c.keyed_pages.new.asker))
    (homes_scoped c.args.nodes c.in_ok-made.field-0.made.nodes c.in_ok-made.ensures.nodes) c.keyed_pages.ensures.asks)

pub returns-clause-known : goal.returns-clause-known
returns-clause-known g c = λ world agrees.
    let made = c.in_ok-made.field-0.made in
    let scoped = c.in_ok-made.ensures.made world (agrees_before world _ _ c.keyed_pages.ensures.grows agrees) in
    plan_gives world c.args.before c.args.nodes made.nodes c.in_ok-made.ensures.nodes c.in_ok-scopes.scopes made.faults
    (c.in_ok-scopes.ensures ∙ c.as_slice.ensures ∙ c.list.ensures ∙ scoped.table.scopes) scoped.faults c.in-Ok.pages
    c.append_faults-2.new.out (c.in-Ok.ensures.known world agrees)
    (c.in_ok-append_faults-2.ensures ∙ ap (λ f. f ++ c.in-Ok.pages.faults) c.in_ok-append_faults.ensures)

pub returns-clause-ready : goal.returns-clause-ready
returns-clause-ready g c = ready_later _ _ c.in_ok-made.field-0.made.nodes _ c.keyed_pages.ensures.grows c.in_ok-made.ensures.ready

pub returns-clause-tabled : goal.returns-clause-tabled
returns-clause-tabled g c = λ world agrees.
    ∣ table_scoped world c.args.nodes c.in_ok-made.field-0.made.nodes c.in_ok-made.field-0.made.table c.in_ok-made.ensures.nodes
    (c.in_ok-made.ensures.made world (agrees_before world _ _ c.keyed_pages.ensures.grows agrees)).table ∣₁

pub returns-clause-nodes : goal.returns-clause-nodes
returns-clause-nodes g c = c.in_ok-made.ensures.nodes

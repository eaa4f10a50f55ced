use Rattle.std.proofs.Common.{subst, ◌∙◌, ap}
use Rattle.std.specs.Prelude.{map}
use Rattle.map_spec.specs.Cascade.{whole_at}
use Rattle.readers.specs.Documents.{AsksOnly, nothing}
use Rattle.readers.specs.Founded.{StaysFounded, homes}
use Rattle.readers.proofs.DocumentLaws.{asks_after}
use Rattle.readers.proofs.FoundedLaws.{stays_after}
use Rattle.readers.proofs.GrowthLaws.{agrees_before, grows_trans}
use Rattle.build_plan.proofs.CarryLaws.{homes_scoped, parents_scoped, scopes_scoped, values_scoped}
use Rattle.build_plan.proofs.scoped.with_scopes.Goals as goal

pub returns-in_err-homes-clause-founded : goal.returns-in_err-homes-clause-founded
returns-in_err-homes-clause-founded g c =
    stays_after _ _ _ _ c.into_scopes.ensures.grows c.into_scopes.ensures.founded
    (subst (λ ns. StaysFounded ns (g.R.Reader.told c.into_scopes.new.reader) (g.R.Reader.told c.of.new.reader))
    (ap homes c.as_slice.ensures ∙ homes_scoped c.args.nodes c.in_ok-made.made.nodes (c.in_ok-made.ensures.value c.requires.tree).nodes)
    c.of.ensures.founded)

pub returns-in_err-homes-clause-asks : goal.returns-in_err-homes-clause-asks
returns-in_err-homes-clause-asks g c =
    asks_after _ _ _ _ _ c.into_scopes.ensures.grows c.into_scopes.ensures.asks
    (subst (λ ns. AsksOnly nothing ns (g.R.Reader.told c.into_scopes.new.reader) (g.R.Reader.told c.of.new.reader))
    (ap homes c.as_slice.ensures ∙ homes_scoped c.args.nodes c.in_ok-made.made.nodes (c.in_ok-made.ensures.value c.requires.tree).nodes)
    c.of.ensures.asks)

pub returns-clause-founded : goal.returns-clause-founded
returns-clause-founded g c =
    stays_after _ _ _ _ c.into_scopes.ensures.grows c.into_scopes.ensures.founded
    (subst (λ ns. StaysFounded ns (g.R.Reader.told c.into_scopes.new.reader) (g.R.Reader.told c.of.new.reader))
    (ap homes c.as_slice.ensures ∙ homes_scoped c.args.nodes c.in_ok-made.made.nodes (c.in_ok-made.ensures.value c.requires.tree).nodes)
    c.of.ensures.founded)

pub returns-clause-asks : goal.returns-clause-asks
returns-clause-asks g c =
    asks_after _ _ _ _ _ c.into_scopes.ensures.grows c.into_scopes.ensures.asks
    (subst (λ ns. AsksOnly nothing ns (g.R.Reader.told c.into_scopes.new.reader) (g.R.Reader.told c.of.new.reader))
    (ap homes c.as_slice.ensures ∙ homes_scoped c.args.nodes c.in_ok-made.made.nodes (c.in_ok-made.ensures.value c.requires.tree).nodes)
    c.of.ensures.asks)

pub returns-clause-made : goal.returns-clause-made
returns-clause-made g c = λ world agrees.
    c.in_ok-made.ensures.known world (agrees_before world _ _ c.of.ensures.grows agrees) c.requires.tree

pub returns-clause-parents : goal.returns-clause-parents
returns-clause-parents g c =
    parents_scoped c.args.nodes c.in_ok-made.made.nodes (c.in_ok-made.ensures.value c.requires.tree).nodes c.requires.tree

pub returns-clause-ready : goal.returns-clause-ready
returns-clause-ready g c =
    let are = (c.in_ok-made.ensures.value c.requires.tree).nodes in
    record {
      elements = λ world agrees. c.in_ok-homes.ensures.known world agrees ∙ ap (map (whole_at world)) c.as_slice.ensures;
      values = λ world agrees. values_scoped world c.args.nodes c.in_ok-made.made.nodes are
          (c.requires.values world (agrees_before world _ _ (grows_trans _ _ _ c.into_scopes.ensures.grows c.of.ensures.grows) agrees));
      scopes = scopes_scoped c.args.nodes c.in_ok-made.made.nodes are;
      given = c.in_ok-homes.ensures.given;
    }

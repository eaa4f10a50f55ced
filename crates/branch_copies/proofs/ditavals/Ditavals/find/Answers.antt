use Rattle.std.proofs.Common.{sym, subst, ◌∙◌}
use Rattle.branch_copies.specs.Ditavals.{AreKnown}
use Rattle.branch_copies.proofs.DitavalLaws.{place_found, place_put}
use Rattle.branch_copies.proofs.ditavals.Ditavals.find.Goals as goal

pub returns-in-Some-clause-known : goal.returns-in-Some-clause-known
returns-in-Some-clause-known g c = λ world agrees known.
    place_found world c.args.self.now.read.items c.args.name.now c.args.self.now.known.entries c.in-Some.ditaval.now
    c.in-Some.ensures.value known

pub returns-clause-known : goal.returns-clause-known
returns-clause-known g c = λ world agrees known.
    place_put world c.args.self.now.read.items c.put.new.self.read.items c.args.name.now c.in_ok-clone.field-0
    c.in_ok-ditaval.ditaval c.put.new.self.known.entries c.insert.new.self.entries c.in_ok-ditaval.ensures.longer
    c.in_ok-clone.ensures.cases c.in_ok-insert.ensures.entries
    (subst (λ (t : _). AreKnown world c.args.self.now.read.items t.entries) (sym c.put.ensures.known) known)
    (record {
      within = c.in_ok-ditaval.ensures.within;
      is = c.in_ok-ditaval.ensures.is ∙ c.in_ok-read.ensures.known world agrees;
    })

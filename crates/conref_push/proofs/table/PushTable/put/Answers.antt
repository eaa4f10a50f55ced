use Rattle.std.proofs.Common.{◌∙◌, refl, subst, sym}
use Rattle.dita_doc.proofs.Lists.{on_ok}
use Rattle.conref_push.specs.Sight.{sight_of}
use Rattle.conref_push.specs.Table.{IsChanged, with_push}
use Rattle.conref_push.specs.Targets.{IsNoted}
use Rattle.conref_push.proofs.GatherLaws.{gathered_push, gathered_twice}
use Rattle.conref_push.proofs.table.PushTable.put.Goals as goal

pub returns-then-twice : goal.returns-then-twice
returns-then-twice c = λ world all acting gathered is.
    on_ok _ _ c.put_fault.result
    (λ tabled. gathered_twice world all acting (sight_of c.args.name.now c.args.pushing) c.args.target
    c.args.targets.now c.note.new.self c.put_fault.new.self is (sym c.if-twice.true ∙ c.in_ok-twice.ensures.told)
    (subst (λ t. IsNoted c.args.pushing.kind c.args.target t c.args.targets.now.replaced c.note.new.self.replaced)
    c.if-twice.true c.in_ok-twice.ensures.noted) c.in_ok-twice.ensures.docs tabled gathered.docs gathered.replaced)
    (c.put_fault.ensures all acting gathered.tabled)

pub returns : goal.returns
returns c = λ world all acting gathered is.
    on_ok _ _ c.add_push.result
    (λ changed. gathered_push world all acting (sight_of c.args.name.now c.args.pushing) c.args.target
    c.args.targets.now c.note.new.self c.args.self.now
    (record { entries = c.add_push.new.self; faults = c.args.self.now.faults }) is
    (sym c.if-twice.false ∙ c.in_ok-twice.ensures.told)
    (subst (λ t. IsNoted c.args.pushing.kind c.args.target t c.args.targets.now.replaced c.note.new.self.replaced)
    c.if-twice.false c.in_ok-twice.ensures.noted) c.in_ok-twice.ensures.docs
    (subst (λ from. IsChanged c.args.self.now.entries c.add_push.new.self c.args.target.doc
    (with_push (record {
      kind = c.args.pushing.kind;
      at = c.args.target.place;
      from = from;
      place = c.args.pushing.place;
    }))) c.in_ok-clone.ensures.cases changed) refl gathered)
    c.add_push.ensures

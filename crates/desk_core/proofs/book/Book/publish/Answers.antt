use Rattle.std.specs.Arc.{arc_value}
use Rattle.facts.specs.Rows.{row_data}
use Rattle.desk_core.proofs.StepLaws.{publish_inside, published_is}
use Rattle.desk_core.proofs.book.Book.publish.Goals as goal

pub invariant_of-self : goal.invariant_of-self
invariant_of-self g c = publish_inside g.P.Parts.plan_agrees g.P.Parts.own_agrees g.P.Parts.is_sound
    c.self.inside.store c.self.inside.table c.publish.new.self c.self.inside.stamp c.args.self.now c.self.invariant
    c.self.view_is c.args.ticket (arc_value c.args.fact.kept) (row_data c.publish.result) c.requires
    c.publish.ensures.published c.publish.ensures.judged c.publish.ensures.rows

pub returns : goal.returns
returns g c = published_is g.P.Parts.plan_agrees g.P.Parts.own_agrees g.P.Parts.is_sound
    c.self.inside.store c.self.inside.table c.publish.new.self c.self.inside.stamp c.args.self.now c.self.invariant
    c.self.view_is c.args.ticket (arc_value c.args.fact.kept) (row_data c.publish.result) c.publish.ensures.published

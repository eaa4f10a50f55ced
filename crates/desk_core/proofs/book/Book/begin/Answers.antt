use Rattle.desk_core.proofs.StepLaws.{begin_inside}
use Rattle.desk_core.proofs.book.Book.begin.Goals as goal

pub invariant_of-self-2 : goal.invariant_of-self-2
invariant_of-self-2 g c = begin_inside g.P.Parts.plan_agrees g.P.Parts.own_agrees g.P.Parts.is_sound
    c.self.inside.store c.answer.new.self c.self.inside.table c.self.inside.stamp c.self.invariant c.args.session
    c.args.number c.args.map c.args.val c.in_ok-place.ensures.ok c.in_ok-place.ensures.room

use Rattle.desk_core.proofs.StepLaws.{release_inside}
use Rattle.desk_core.proofs.book.Book.release.Goals as goal

pub invariant_of-self : goal.invariant_of-self
invariant_of-self g c = release_inside g.P.Parts.plan_agrees g.P.Parts.own_agrees g.P.Parts.is_sound
    c.self.inside.store c.self.inside.table c.release.new.self c.self.inside.stamp c.args.self.now c.self.invariant
    c.self.view_is c.args.ticket c.requires c.release.ensures.left c.release.ensures.judged

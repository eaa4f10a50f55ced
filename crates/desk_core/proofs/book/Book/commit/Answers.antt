use Rattle.dita_doc.specs.Seen.{reply_seen, request_seen}
use Rattle.desk_core.proofs.StepLaws.{commit_inside}
use Rattle.desk_core.proofs.book.Book.commit.Goals as goal

pub invariant_of-self-2 : goal.invariant_of-self-2
invariant_of-self-2 g c = commit_inside g.P.Parts.plan_agrees g.P.Parts.own_agrees g.P.Parts.is_sound
    c.self.inside.store c.answer_with_reply.new.self c.self.inside.table c.self.inside.stamp c.self.invariant
    c.args.session c.args.number (request_seen c.args.request) (reply_seen c.in_ok-place.reply) c.in_ok-place.place
    c.stamp_after-self-inside.result c.requires.may c.in_ok-place.ensures.ok c.in_ok-place.ensures.room
    c.in_ok-place.ensures.reply c.in_ok-place.ensures.place c.stamp_after-self-inside.ensures

use Rattle.desk_core.specs.Seen.{snapshot_seen}
use Rattle.fact_table.specs.Answers.{answer_seen}
use Rattle.desk_core.proofs.StepLaws.{claim_inside, claim_not_inside, may_be_claimed}
use Rattle.desk_core.proofs.book.Book.claim.Goals as goal

pub claim-requires-clause-may : goal.claim-requires-clause-may
claim-requires-clause-may g c = may_be_claimed g.P.Parts.plan_agrees g.P.Parts.own_agrees g.P.Parts.is_sound
    c.self.inside.store c.self.inside.table c.self.inside.stamp c.args.self.now c.self.invariant c.self.view_is
    (g.J.Judge.build c.args.judge.now) (g.J.Judge.sources c.args.judge.now) c.args.key.now
    (snapshot_seen c.args.snapshot.now) c.requires.of c.requires.judge

-- without memory the table has the same rows
pub invariant_of-self : goal.invariant_of-self
invariant_of-self g c = claim_not_inside g.P.Parts.plan_agrees g.P.Parts.own_agrees g.P.Parts.is_sound
    c.self.inside.store c.self.inside.table c.claim.new.self c.self.inside.stamp c.args.self.now c.self.invariant
    c.self.view_is c.args.key.now (snapshot_seen c.args.snapshot.now) c.requires.of c.in_err-claimed.ensures.err
    c.claim.ensures.judged

pub invariant_of-self-2 : goal.invariant_of-self-2
invariant_of-self-2 g c = claim_inside g.P.Parts.plan_agrees g.P.Parts.own_agrees g.P.Parts.is_sound
    c.self.inside.store c.self.inside.table c.claim.new.self c.self.inside.stamp c.args.self.now c.self.invariant
    c.self.view_is c.args.key.now (snapshot_seen c.args.snapshot.now) (answer_seen c.in_ok-claimed.claimed)
    c.requires.of c.in_ok-claimed.ensures.answers c.in_ok-claimed.ensures.left c.claim.ensures.judged

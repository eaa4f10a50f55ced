use Rattle.family_links.proofs.SequenceLaws.{both_appended, previous_appended}
use Rattle.family_links.proofs.sequences.Sequences.append.Goals as goal

pub returns : goal.returns
returns c = λ world plan all are holds.
    both_appended world plan c.args.page all c.args.self.now c.append-2.result _ c.append-2.new.self are
    c.in_ok-copied-2.ensures
    (c.append-2.ensures c.args.page _
    (previous_appended world plan c.args.page all c.args.self.now _ c.append.new.self are c.in_ok-copied.ensures
    (c.in_ok-append.ensures c.args.page all holds)))

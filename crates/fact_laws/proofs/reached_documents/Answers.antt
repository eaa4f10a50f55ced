use Rattle.reader_spec.specs.World.{world_of}
use Rattle.fact_laws.proofs.ReachLaws.{back, forth}
use Rattle.fact_laws.proofs.reached_documents.Goals as goal

pub returns-clause-forth : goal.returns-clause-forth
returns-clause-forth c = λ fact first second sound same agrees.
    forth fact sound (world_of first) (world_of second) same.each agrees.0 agrees.1

pub returns-clause-back : goal.returns-clause-back
returns-clause-back c = λ fact first second sound same agrees.
    back fact sound (world_of first) (world_of second) same.each agrees.0 agrees.1

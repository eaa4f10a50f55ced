use Rattle.doc_gen.proofs.Joined.{project_written}
use Rattle.doc_gen.proofs.requests.project.Goals as goal

pub returns : goal.returns
returns c =
    project_written c.args.number c.args.topics _ _ _ _ _ _ c.new-out.ensures c.in_ok-append_ground.ensures
    c.in_ok-append_topics.ensures c.in_ok-append_build.ensures c.in_ok-append_edits.ensures
    c.in_ok-append_edits-2.ensures

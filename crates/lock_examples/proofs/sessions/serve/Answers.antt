use Rattle.lock_examples.proofs.SessionLaws.{pages_end}
use Rattle.lock_examples.proofs.sessions.serve.Goals as goal

pub serve_link-end-requires-clause-pages : goal.serve_link-end-requires-clause-pages
serve_link-end-requires-clause-pages g c κs within = pages_end

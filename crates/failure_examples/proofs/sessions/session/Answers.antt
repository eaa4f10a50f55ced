use Rattle.desk_top.proofs.PagesEndLaws.{pages_end}
use Rattle.failure_examples.proofs.sessions.session.Goals as goal

pub serve_link-end-requires-clause-pages : goal.serve_link-end-requires-clause-pages
serve_link-end-requires-clause-pages g c κs within = pages_end

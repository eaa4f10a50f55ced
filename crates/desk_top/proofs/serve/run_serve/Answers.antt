use Rattle.desk_top.proofs.PagesEndLaws.{pages_end}
use Rattle.desk_top.proofs.serve.run_serve.Goals as goal

pub run_serve-requires-clause-pages : goal.run_serve-requires-clause-pages
run_serve-requires-clause-pages g c κs within = pages_end

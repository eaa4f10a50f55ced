use Rattle.std.proofs.Common.{subst, sym}
use Rattle.desk_lock.specs.Tokens.{pass_view}
use Rattle.desk_session.specs.Answers.{CleanBuild}
use Rattle.desk_session.specs.Pass.{ServesPass}
use Rattle.desk_serve.proofs.session.serve.Goals as goal

pub returns : goal.returns
returns g c = record {
  of = c.serve_link-end.ensures.pass;
  served = subst (λ (clean : CleanBuild). ServesPass clean (pass_view c.args.pass) (pass_view c.serve_link-end.new.pass)
      (g.L.Link.told c.args.link) (g.L.Link.told c.serve_link-end.new.link) c.serve_link-end.result)
      (sym c.requires.same) c.serve_link-end.ensures.served;
}

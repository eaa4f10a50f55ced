use Rattle.std.proofs.Common.{[], ◌∷◌}
use Rattle.desk_core.specs.Seen.{snapshot_seen}
use Rattle.desk_lock.specs.Tokens.{pass_view}
use Rattle.desk_work.specs.Sites.{basis_of}
use Rattle.desk_work.proofs.RoundLaws.{on_err, tries_none}
use Rattle.desk_work.proofs.rounds.plan_row.Goals as goal

pub returns-in_err-parts-clause-tries : goal.returns-in_err-parts-clause-tries
returns-in_err-parts-clause-tries g c =
    let basis = basis_of g.P.Parts.plan_agrees g.P.Parts.own_agrees g.P.Parts.is_sound g.M.Makers.language
    (snapshot_seen c.args.site.now.snapshot.now) in
    on_err c.from_residual.result (tries_none basis (pass_view c.args.pass.now) (c.args.site.now.key.now ∷ []))

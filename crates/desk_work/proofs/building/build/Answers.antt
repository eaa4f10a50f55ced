use Rattle.std.proofs.Common.{inl}
use Rattle.std.specs.Option.{option_copied}
use Rattle.desk_core.specs.Seen.{snapshot_seen}
use Rattle.desk_lock.specs.Meaning.{meant_by}
use Rattle.desk_lock.specs.Tokens.{pass_view}
use Rattle.desk_work.proofs.EndsLaws.{ends_unfinished}
use Rattle.desk_work.proofs.building.build.Goals as goal

pub returns-clause-ends : goal.returns-clause-ends
returns-clause-ends g c =
    inl (ends_unfinished (meant_by g.P.Parts.plan_agrees g.P.Parts.own_agrees g.P.Parts.is_sound) g.M.Makers.language
    (pass_view c.args.pass.now) (pass_view c.begin.new.pass) (pass_view c.build_over-made.new.pass) c.args.number
    c.args.map.now (option_copied c.args.val) c.in-Ok.begun.0 (snapshot_seen c.in-Ok.begun.1) c.in-Ok.ensures.ok
    c.build_over-made.ensures.kept c.in-Ok-made.outcome (g.O.Outlet.pages c.args.outlet.now)
    (g.O.Outlet.pages c.put_pages.new.outlet) c.in-Ok-made.ensures.builds c.in-Err-NoMemory-put_pages.ensures.pages)

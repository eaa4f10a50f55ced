use Rattle.std.proofs.Common.{sym, subst}
use Rattle.std.specs.Prelude.{OnOk}
use Rattle.map_makers.specs.PlanTells.{meaning}
use Rattle.run_spec.specs.Language.{dita}
use Rattle.desk_top.specs.Asked.{asked_seen}
use Rattle.desk_top.specs.Served.{Answers}
use Rattle.desk_top.proofs.OnceLaws.{built_asked}
use Rattle.desk_top.proofs.ServedLaws.{asks_edit, given_asked}
use Rattle.desk_top.proofs.SessionMadeLaws.{made_asked}
use Rattle.desk_top.proofs.callers.ask_edit.Goals as goal
use Rattle.desk_top.proofs.callers.ask_edit.Goals.{in-Ok, in-Err}

pub returns-clause-ok : goal.returns-clause-ok
returns-clause-ok g c = elim c.match-edit.branch [
  | in-Ok w ↦ subst
      (λ result. OnOk result (Answers c.args.session.now (asked_seen (c.args.number, c.args.request))
      (record { pass = c.edit.new.pass; built = c.args.session.now.built })))
      (sym w.result-is)
      (record {
        answered = record {
          given = given_asked _ _ _ _ _ _ _ w.in-Ok.ensures.ok c.requires.asked.utf8 c.requires.no_build
              c.requires.answered.given;
          built = built_asked _ _ _ _ _ _ _ w.in-Ok.ensures.ok c.requires.answered.built;
          made = made_asked meaning dita _ _ _ _ _ _ _ w.in-Ok.ensures.ok c.requires.answered.made;
        };
        asked = asks_edit _ _ _ _ _ _ w.in-Ok.ensures.ok;
      })
  | in-Err w ↦ subst
      (λ result. OnOk result (Answers c.args.session.now (asked_seen (c.args.number, c.args.request))
      (record { pass = c.edit.new.pass; built = c.args.session.now.built })))
      (sym w.result-is) tt
]

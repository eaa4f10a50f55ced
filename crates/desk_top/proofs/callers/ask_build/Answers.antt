use Rattle.std.proofs.Common.{◌∙◌, sym, subst}
use Rattle.std.specs.List.{All}
use Rattle.std.specs.Option.{option_copied}
use Rattle.std.proofs.lemmas.List.Elements.{All-push}
use Rattle.map_makers.specs.PlanTells.{meaning}
use Rattle.run_spec.specs.Language.{dita}
use Rattle.desk_work.specs.Build.{order_of}
use Rattle.desk_work.specs.declared.built.Built.{Built}
use Rattle.desk_top.specs.Served.{HasItsPages, HasPages}
use Rattle.desk_top.proofs.GivenLaws.{pushed_as}
use Rattle.desk_top.proofs.OnceLaws.{built_more}
use Rattle.desk_top.proofs.PageFactLaws.{right_have_pages}
use Rattle.desk_top.proofs.PageLaws.{pages_of_build}
use Rattle.desk_top.proofs.ServedLaws.{asks_build, given_built}
use Rattle.desk_top.proofs.SessionMadeLaws.{made_built}
use Rattle.desk_top.proofs.callers.ask_build.Goals as goal

pub returns-clause-at : goal.returns-clause-at
returns-clause-at g c = record {
  pass = c.in-Ok.ensures.pass;
  parts = c.in-Ok.ensures.ends.stood.parts ∙ c.requires.at.parts;
  pages = subst (All HasItsPages) (sym c.in_ok-push.ensures.items)
      (All-push HasItsPages _ _ c.requires.at.pages
      (subst (λ (built : Built). HasPages built.outcome) c.in-Ok.field-0-is
      (pages_of_build _ _ _ _ _ _ _ _ right_have_pages c.in-Ok.ensures.ends)));
}

pub returns-clause-ok : goal.returns-clause-ok
returns-clause-ok g c =
    let order = order_of c.args.number c.args.map.now (option_copied c.args.val) in
    let pushed = pushed_as _ c.push.new.self.items _ _ c.in-Ok.field-0-is c.in_ok-push.ensures.items in
    record {
      answered = record {
        given = given_built _ _ _ order _ _ _ _ c.push.new.self.items c.in-Ok.ensures.ends c.requires.utf8 pushed c.requires.answered.given;
        built = built_more _ _ _ order _ _ _ _ c.push.new.self.items c.in-Ok.ensures.ends pushed c.requires.answered.built;
        made = made_built meaning dita _ order _ _ _ _ c.in-Ok.ensures.ends c.args.session.now.built.items
            c.requires.answered.made c.push.new.self.items pushed;
      };
      asked = asks_build _ _ _ order _ _ _ c.in-Ok.ensures.ends;
    }

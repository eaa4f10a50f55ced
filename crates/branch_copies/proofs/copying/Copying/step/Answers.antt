use Rattle.std.proofs.Common.{◌<◌, arith, refl, sym, subst, ◌∙◌}
use Rattle.branch_copies.specs.Going.{chains_of}
use Rattle.branch_copies.specs.Originals.{SeesFirst}
use Rattle.branch_copies.proofs.StepLaws.{none_made, step_excluded, step_next, step_ref, walk_none}
use Rattle.branch_copies.proofs.copying.Copying.step.Goals as goal

pub returns-in_default-clause-goes : goal.returns-in_default-clause-goes
returns-in_default-clause-goes c = λ world defined tree all is makes going.
    let source = c.args.source.now in
    let x = c.args.self.now in
    let walk = c.args.walk in
    none_made world source defined x walk.parent tree all
    (walk_none world source defined (chains_of x) walk tree makes
    (λ above head below more stands have ends. subst (SeesFirst world source defined walk.at head below) c.in_default.is
    (c.see.ensures.first world defined above head below more is stands have ends)))
    going

pub returns-then-is_ditavalref-clause-goes : goal.returns-then-is_ditavalref-clause-goes
returns-then-is_ditavalref-clause-goes c = λ world defined tree all is makes going.
    let x = c.args.self.now in
    let some : c.args.walk.at < c.args.walk.end = omega (arith, c.in-Some.ensures.begins, c.in-Some.ensures.ends) in
    step_ref world c.args.source.now defined x (record { made = x.made; chains = x.chains; left = c.push.new.self })
    c.args.walk c.in-Some.seen tree all is makes some (c.in-Some.ensures.first world defined)
    (sym c.is_ditavalref.ensures ∙ c.if-is_ditavalref.true) refl refl c.in_ok-push.ensures.items going

pub returns-then-is_excluded-clause-goes : goal.returns-then-is_excluded-clause-goes
returns-then-is_excluded-clause-goes c = λ world defined tree all is makes going.
    let x = c.args.self.now in
    let some : c.args.walk.at < c.args.walk.end = omega (arith, c.in-Some.ensures.begins, c.in-Some.ensures.ends) in
    step_excluded world c.args.source.now defined x
    (record { made = x.made; chains = x.chains; left = c.push.new.self })
    c.args.walk c.in-Some.seen tree all is makes some (c.in-Some.ensures.first world defined)
    (sym c.is_excluded.ensures ∙ c.if-is_excluded.true) refl refl c.in_ok-push.ensures.items going

pub returns-clause-goes : goal.returns-clause-goes
returns-clause-goes c = λ world defined tree all is makes going.
    let x = c.args.self.now in
    let some : c.args.walk.at < c.args.walk.end = omega (arith, c.in-Some.ensures.begins, c.in-Some.ensures.ends) in
    let next = step_next world c.args.source.now defined x
    (record { made = x.made; chains = x.chains; left = c.push.new.self })
    c.args.walk c.in-Some.seen tree all is makes some (c.in-Some.ensures.first world defined)
    (sym c.is_ditavalref.ensures ∙ c.if-is_ditavalref.false) (sym c.is_excluded.ensures ∙ c.if-is_excluded.false)
    refl refl c.in_ok-push.ensures.items going in
    c.copy_first.ensures.goes world defined next.head next.below all is next.next next.going

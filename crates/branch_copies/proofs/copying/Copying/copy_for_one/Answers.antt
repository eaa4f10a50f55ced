use Rattle.std.proofs.Common.{◌<◌, arith, length, refl, sym, ◌∙◌}
use Rattle.branch_copies.specs.Going.{chains_of}
use Rattle.branch_copies.specs.declared.copying.Copying.{Copying}
use Rattle.branch_copies.proofs.ReadLaws.{read_length}
use Rattle.branch_copies.proofs.StepLaws.{none_made}
use Rattle.branch_copies.proofs.TopLaws.{copies_done, copies_split, one_excluded, one_next, others_left}
use Rattle.branch_copies.proofs.copying.Copying.copy_for_one.Goals as goal

pub returns-then-copies-eq0-clause-goes : goal.returns-then-copies-eq0-clause-goes
returns-then-copies-eq0-clause-goes c = λ world defined tree all is makes going.
    let source = c.args.source.now in
    let x = c.args.self.now in
    none_made world source defined x c.args.copies.parent tree all
    (copies_done world source defined (chains_of x) c.args.copies tree c.if-copies-eq0.true makes) going

pub returns-then-is_top_excluded-clause-goes : goal.returns-then-is_top_excluded-clause-goes
returns-then-is_top_excluded-clause-goes c = λ world defined tree all is makes going.
    let source = c.args.source.now in
    let x = c.args.self.now in
    let y : Copying = record { made = x.made; chains = x.chains; left = c.push.new.self } in
    let copies = c.args.copies in
    let some : 0 < copies.count = omega arith in
    let split = copies_split world source defined (chains_of x) copies tree makes some in
    let long = read_length is.ditavals source.nodes.now source.branches.now defined is.read in
    let within : copies.branch < length source.branches.now = omega (arith, some, makes.fits, long) in
    one_excluded world source defined x y copies tree all is makes split
    (sym c.is_top_excluded.ensures ∙ c.if-is_top_excluded.true)
    (others_left world source defined x y copies c.behind.result tree all makes split (c.behind.ensures within)
    refl refl c.in_ok-push.ensures.items going)

pub returns-clause-goes : goal.returns-clause-goes
returns-clause-goes c = λ world defined tree all is makes going.
    let source = c.args.source.now in
    let x = c.args.self.now in
    let y : Copying = record { made = x.made; chains = x.chains; left = c.push.new.self } in
    let copies = c.args.copies in
    let some : 0 < copies.count = omega arith in
    let split = copies_split world source defined (chains_of x) copies tree makes some in
    let long = read_length is.ditavals source.nodes.now source.branches.now defined is.read in
    let within : copies.branch < length source.branches.now = omega (arith, some, makes.fits, long) in
    c.copy_top.ensures.goes world defined makes.head makes.below split.branch all is
    (one_next world source defined x y copies tree makes split refl
    (sym c.is_top_excluded.ensures ∙ c.if-is_top_excluded.false))
    (others_left world source defined x y copies c.behind.result tree all makes split (c.behind.ensures within)
    refl refl c.in_ok-push.ensures.items going)

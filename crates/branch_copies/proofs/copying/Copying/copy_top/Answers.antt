use Rattle.std.proofs.Common.{◌≡◌, ◌<◌, ◌++◌, ◌∷◌, [], ap, arith, sym, ◌∙◌}
use Rattle.std.proofs.lemmas.Option.{none-some, same_Some}
use Rattle.map_spec.specs.Branches.{copied}
use Rattle.map_spec.specs.MapTree.{node_of}
use Rattle.branch_copies.specs.Going.{chains_of, top_copied}
use Rattle.branch_copies.specs.Leaves.{around}
use Rattle.branch_copies.specs.Through.{through}
use Rattle.branch_copies.specs.declared.copying.Copying.{Copying}
use Rattle.branch_copies.specs.declared.work.Walk.{Walk}
use Rattle.branch_copies.specs.declared.work.Work.TheVariants as works
use Rattle.branch_copies.proofs.StepLaws.{full_over}
use Rattle.branch_copies.proofs.TopLaws.{chains_put, copy_is, shown_length, top_goes, top_made}
use Rattle.branch_copies.proofs.copying.Copying.copy_top.Goals as goal

pub returns-in_default-clause-goes : goal.returns-in_default-clause-goes
returns-in_default-clause-goes c = λ world defined head below branch all is top going.
    let source = c.args.source.now in
    let x = c.args.self.now in
    let copies = c.args.copies in
    let made = top_made world source defined x copies head below branch is top in
    absurd (none-some _ (sym c.in_default.is
    ∙ copy_is world source defined x copies head below branch is top c.put.new.self.chains.items c.get-around.result.now
    c.in_ok-chain.chain c.in_ok-copy.field-0 made c.in_ok-chain.ensures.place c.in_ok-chain.ensures.put
    c.get-around.ensures c.in_ok-copy.ensures))

pub returns-in-Err-clause-goes : goal.returns-in-Err-clause-goes
returns-in-Err-clause-goes c = λ world defined head below branch all is top going.
    let source = c.args.source.now in
    let x = c.args.self.now in
    let copies = c.args.copies in
    let made = top_made world source defined x copies head below branch is top in
    full_over world source defined x c.in-Err.stop copies.parent (top_copied world defined x copies head below branch)
    (through world (branch ∷ around defined (chains_of x) copies.chain) (copied world below)) made.top all made.tree
    c.in-Err.ensures.full going

pub returns-clause-goes : goal.returns-clause-goes
returns-clause-goes c = λ world defined head below branch all is top going.
    let source = c.args.source.now in
    let x = c.args.self.now in
    let copies = c.args.copies in
    let made = top_made world source defined x copies head below branch is top in
    let y : Copying = record { made = c.put-2.new.made; chains = c.put.new.self; left = c.push.new.self } in
    let same : c.in-Some.copy ≡ node_of made.top copies.parent 0 = same_Some _ _ (sym c.in-Some.is
    ∙ copy_is world source defined x copies head below branch is top c.put.new.self.chains.items c.get-around.result.now
    c.in_ok-chain.chain c.in_ok-copy.field-0 made c.in_ok-chain.ensures.place c.in_ok-chain.ensures.put
    c.get-around.ensures c.in_ok-copy.ensures) in
    let within : copies.at < copies.end = omega (arith, top.ends) in
    top_goes world source defined x copies head below branch is top y c.in-Some.copy c.in-Ok.place c.in_ok-chain.chain all
    made same c.in-Ok.ensures.room c.in-Ok.ensures.made
    (chains_put world source defined x copies head below branch is top c.put.new.self.chains.items c.in_ok-chain.ensures.put)
    c.in-Ok.ensures.place (c.in_ok-chain.ensures.place ∙ sym (shown_length x.chains.chains.items))
    (c.in_ok-push.ensures.items
    ∙ ap (λ n. x.left.items ++ works.Walk (let walk : Walk = record {
      at = n;
      end = copies.end;
      parent = c.in-Ok.place;
      chain = c.in_ok-chain.chain;
    } in walk) ∷ []) (c.behind.ensures within))
    going

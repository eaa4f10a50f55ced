use Rattle.std.proofs.Common.{◌∙◌, ap, refl}
use Rattle.std.proofs.lemmas.Result.{on_ok_weaker}
use Rattle.std.specs.Prelude.{codes, if◌then◌else◌}
use Rattle.map_spec.specs.Cascade.{default_of, walk}
use Rattle.attr_cascade.proofs.ValueLaws.{put_next}
use Rattle.attr_cascade.proofs.values.put_nearest.Goals as goal

pub returns : goal.returns
returns c = λ world nodes within near in_table none.
    let at = c.args.at in
    let around = walk nodes at in
    let put1 = put_next world (codes "linking") nodes at _ c.args.values.now c.put.new.values (codes "normal") (default_of (codes "linking") around)
    c.deref.result.now c.args.nearest.now.linking.items within near.linking c.deref.ensures.value refl
    none c.in_ok-put.ensures in
    let put2 = put_next world (codes "toc") nodes at _ c.put.new.values c.put-2.new.values c.toc_in.result.now (default_of (codes "toc") around)
    c.deref-2.result.now c.args.nearest.now.toc.items within near.toc c.deref-2.ensures.value (c.toc_in.ensures ∙ ap (λ b. if b then codes "no" else codes "yes") in_table)
    put1 c.in_ok-put-2.ensures in
    let put3 = put_next world (codes "format") nodes at _ c.put-2.new.values c.put-3.new.values (codes "dita") (default_of (codes "format") around)
    c.deref-3.result.now c.args.nearest.now.format.items within near.format c.deref-3.ensures.value refl
    put2 c.in_ok-put-3.ensures in
    let put4 = put_next world (codes "scope") nodes at _ c.put-3.new.values c.put-4.new.values (codes "local") (default_of (codes "scope") around)
    c.deref-4.result.now c.args.nearest.now.scope.items within near.scope c.deref-4.ensures.value refl
    put3 c.in_ok-put-4.ensures in
    let put5 = put_next world (codes "processing-role") nodes at _ c.put-4.new.values c.put-5.new.values (codes "normal") (default_of (codes "processing-role") around)
    c.deref-5.result.now c.args.nearest.now.role.items within near.role c.deref-5.ensures.value refl
    put4 c.in_ok-put-5.ensures in
    on_ok_weaker c.put-6.result (put_next world (codes "cascade") nodes at _ c.put-5.new.values c.put-6.new.values (codes "merge") (default_of (codes "cascade") around)
    c.deref-6.result.now c.args.nearest.now.cascade.items within near.cascade c.deref-6.ensures.value refl
    put5)
    c.put-6.ensures

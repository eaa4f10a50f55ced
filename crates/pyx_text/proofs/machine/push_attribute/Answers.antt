use Rattle.std.proofs.Common.{◌≡◌, ◌-◌, ◌<◌, ◌++◌, ◌∷◌, [], ap, ◌∙◌, set, slice_index_or, subst, length, vec_len, arith, rules}
use Rattle.pyx_text.specs.Machine.{giving}
use Rattle.pyx_text.proofs.Lists.{changed-set}
use Rattle.pyx_text.proofs.machine.push_attribute.Goals as goal

pub returns-in_ok-append_attribute : goal.returns-in_ok-append_attribute
returns-in_ok-append_attribute c =
    let nodes = c.args.nodes.now.items in
    let node = c.in-Some.node.now in
    let pushed : c.append_attribute.new.attributes ≡ node.attributes ++ c.args.attribute ∷ [] = search rules in
    let some : 0 < length nodes = search rules in
    let count : vec_len c.args.nodes.now ≡ length nodes = search rules in
    ap (λ attributes. set nodes (vec_len c.args.nodes.now - 1) (record node { attributes = attributes })) pushed
    ∙ ap (λ n. set nodes (n - 1) (giving c.args.attribute node)) count
    ∙ changed-set nodes (length nodes - 1) (giving c.args.attribute) node (omega arith)
    (subst (λ n. node ≡ slice_index_or nodes (n - 1) node) count c.in-Some.ensures.value)

use Rattle.std.proofs.Common.{◌∙◌, ap}
use Rattle.std.specs.List.{list_any}
use Rattle.std.specs.Prelude.{bytes_eq}
use Rattle.std.proofs.lemmas.List.{take_all}
use Rattle.map_spec.specs.Pushes.{pushing_names, without_names}
use Rattle.conref_push.proofs.AttributeLaws.{kept_more}
use Rattle.conref_push.proofs.attributes.attributes_beside.Goals as goal

pub loop-attribute-preserved : goal.loop-attribute-preserved
loop-attribute-preserved c = kept_more pushing_names c.as_slice-attribute-items.result.now c.loop-attribute.kept
    c.keep.new.kept c.loop-attribute.attribute-index c.attribute-item.result c.is_pushing_name-drops.result
    c.loop-attribute-test.true c.attribute-item.is
    (c.is_pushing_name-drops.ensures ∙ ap (λ n. list_any (bytes_eq n) pushing_names) c.as_str.ensures)
    c.in_ok-keep.ensures
    c.loop-attribute.invariant

pub returns : goal.returns
returns c = c.loop-attribute.invariant
    ∙ ap (without_names pushing_names) (take_all c.loop-attribute.attribute-index
    c.as_slice-attribute-items.result.now c.loop-attribute-test.false ∙ c.as_slice-attribute-items.ensures)

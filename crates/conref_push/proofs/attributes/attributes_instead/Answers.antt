use Rattle.std.proofs.Common.{◌∷◌, ◌++◌, ◌∙◌, [], ap, append-nil, codes, sym}
use Rattle.std.proofs.lemmas.List.{take_all}
use Rattle.std.specs.List.{list_any}
use Rattle.std.specs.Prelude.{◌||◌, bytes_eq}
use Rattle.dita_doc.specs.ClassValue.{value_of}
use Rattle.map_spec.specs.Pushes.{id_written, pushing_names, without_names}
use Rattle.conref_push.proofs.AttributeLaws.{kept_instead}
use Rattle.conref_push.proofs.attributes.attributes_instead.Goals as goal

pub loop-attribute-init : goal.loop-attribute-init
loop-attribute-init c = c.in_ok-kept.ensures ∙ ap id_written c.value_of.ensures
    ∙ sym (append-nil (id_written (value_of (codes "id") c.args.replaced.now.attributes)))

pub loop-attribute-preserved : goal.loop-attribute-preserved
loop-attribute-preserved c = kept_instead (id_written (value_of (codes "id") c.args.replaced.now.attributes))
    c.as_slice-attribute-items.result.now c.loop-attribute.kept c.keep.new.kept c.loop-attribute.attribute-index
    c.attribute-item.result c.is_name_to_drop-drops.result c.loop-attribute-test.true c.attribute-item.is
    (c.is_name_to_drop-drops.ensures
    ∙ ap (λ n. bytes_eq n (codes "id") || list_any (bytes_eq n) pushing_names) c.as_str.ensures)
    c.in_ok-keep.ensures c.loop-attribute.invariant

pub returns : goal.returns
returns c = c.loop-attribute.invariant
    ∙ ap (λ l. id_written (value_of (codes "id") c.args.replaced.now.attributes)
    ++ without_names (codes "id" ∷ []) (without_names pushing_names l)) (take_all c.loop-attribute.attribute-index
    c.as_slice-attribute-items.result.now c.loop-attribute-test.false ∙ c.as_slice-attribute-items.ensures)

use Rattle.std.proofs.Common.{◌≡◌, ◌<◌, ◌+◌, ◌++◌, ℕ, List, length, drop, get_or, append_assoc}
use Rattle.std.proofs.lemmas.List.{drop_more}
use Rattle.dita_doc.specs.declared.doc.Attribute.{Attribute}
use Rattle.pyx_text.specs.Canonical.{attribute_line, attribute_lines}
use Rattle.pyx_text.proofs.write.append_attributes.Goals as goal

-- one more attribute is written
line_more : (text more whole : List ℕ) (attributes : List Attribute) (i : ℕ) (attribute : Attribute)
    → i < length attributes → attribute ≡ get_or attributes i attribute
    → text ++ attribute_lines (drop i attributes) ≡ whole → more ≡ text ++ attribute_line attribute
    → more ++ attribute_lines (drop (i + 1) attributes) ≡ whole
line_more text more whole attributes i attribute h is before put =
    let next = rw (drop_more attributes i attribute h, ← is) at before in
    rw (put, append_assoc) next

pub loop-attribute-preserved : goal.loop-attribute-preserved
loop-attribute-preserved c =
    line_more _ _ _ c.args.attributes.now _ _ c.loop-attribute-test.true c.attribute-item.is c.loop-attribute.invariant
    c.in_ok-append_attribute.ensures

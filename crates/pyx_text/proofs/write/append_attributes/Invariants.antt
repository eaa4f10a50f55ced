use Rattle.std.proofs.Common.{◌≡◌, ◌++◌, drop}
use Rattle.pyx_text.specs.Canonical.{attribute_lines}
use Rattle.pyx_text.proofs.write.append_attributes.Given as goal

abbrev pub invariant-loop-attribute : goal.invariant-loop-attribute
invariant-loop-attribute l = l.text ++ attribute_lines (drop l.attribute-index l.attributes) ≡ l.fn.text
    ++ attribute_lines l.attributes

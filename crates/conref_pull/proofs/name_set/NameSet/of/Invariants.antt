use Rattle.std.proofs.Common.{◌≡◌, ◌||◌, ℕ, List, drop, is_some}
use Rattle.std.specs.Borrow.{Bor}
use Rattle.dita_doc.specs.ClassValue.{value_of}
use Rattle.conref_pull.specs.NameSet.{is_name_in}
use Rattle.conref_pull.proofs.name_set.NameSet.of.Given as goal

abbrev pub invariant-loop-attribute : goal.invariant-loop-attribute
invariant-loop-attribute l = (name : Bor (List ℕ))
    → (is_name_in l.names name || is_some (value_of name.now (drop l.attribute-index l.attribute-items)))
    ≡ is_some (value_of name.now l.attributes)

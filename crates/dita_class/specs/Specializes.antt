-- Types that specialize others (DITA 1.3, "Specialization in DITA: design, implementation and rules", "The @class
-- attribute rules and syntax"). The sign plays no part in it (own).
use Rattle.std.specs.Prelude.{◌≡◌, ◌++◌, ℕ, List}
use Rattle.dita_doc.specs.declared.class.ClassList.{ClassList}

-- the tokens of the base are the first of the special type's, perhaps all
abbrev pub Specializes : (special base : ClassList) → Type 0
Specializes special base = (more : List (List ℕ)) × (special.tokens ≡ base.tokens ++ more)

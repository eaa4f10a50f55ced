-- The names of attributes, as the code keeps them in a set (own).
use Rattle.std.specs.Prelude.{◌≡◌, ℕ, Bool, List, is_some}
use Rattle.std.specs.Borrow.{Bor}
use Rattle.std.specs.BTreeSet.{BTreeSet, contains}
use Rattle.std.specs.Cmp.Lexicographic.{slice_cmp}
use Rattle.std.specs.Ordering.{nat_cmp}
use Rattle.std.specs.declared.cmp.Ordering.{Ordering}
use Rattle.dita_doc.specs.ClassValue.{value_of}
use Rattle.dita_doc.specs.declared.doc.Attribute.{Attribute}
use Rattle.conref_pull.specs.declared.name_set.NameSet.{NameSet}

-- the order of the set
abbrev pub name_cmp : Bor (List ℕ) → Bor (List ℕ) → Ordering
name_cmp one other = slice_cmp nat_cmp one.now other.now

abbrev pub is_name_in : BTreeSet (Bor (List ℕ)) → Bor (List ℕ) → Bool
is_name_in names name = contains name_cmp names name

-- a name is in the set just if one of these attributes has it
pub record HasNamesOf (set : NameSet) (attributes : List Attribute) : Type 0 where
  pub has : (name : Bor (List ℕ)) → is_name_in set.names name ≡ is_some (value_of name.now attributes)

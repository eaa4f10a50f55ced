-- What is kept of documents (own): the elements that fragments name, where siblings end, and the names of conditional
-- attributes that elements declare.
use Rattle.std.specs.Prelude.{◌≡◌, ℕ, List, Option, Some}
use Rattle.std.specs.BTreeMap as tree
use Rattle.std.specs.declared.alloc.Global.{Global}
use Rattle.std.specs.declared.vec.Vec.{Vec}
use Rattle.dita_doc.specs.TextOrder.{text_cmp}
use Rattle.dita_doc.specs.Tree.{Content}
use Rattle.ditaval_rules.specs.Declarations.{AreDeclarations, Declaring}
use Rattle.map_spec.specs.Written.{Written}
use Rattle.readers.specs.Named.{under_names}
use Rattle.topic_find.specs.Table.{IsTableFor}
use Rattle.topic_find.specs.declared.table.TargetTable.{TargetTable}
use Rattle.conref_targets.specs.Parts.{ends_of}
use Rattle.conref_targets.specs.declared.tables.PlaceTables.{PlaceTables}

-- the documents that stand under names
abbrev pub Documents : Type 0
Documents = List ℕ → Option Written

-- these are the declarations in a tree of these nodes
pub record AreDeclared (declared : List Declaring) (nodes : Written) : Type 0 where
  pub names : List (List ℕ)
  pub tree : Content
  pub is : under_names names tree ≡ nodes
  pub are : AreDeclarations tree declared

-- what is kept under a name is that of the document which stands under it
pub record AreTables (documents : Documents) (tables : PlaceTables) : Type 0 where
  pub targets : (name : List ℕ) (table : TargetTable) (nodes : Written)
      → Some table ≡ tree.get text_cmp tables.targets name → documents name ≡ Some nodes → IsTableFor table nodes
  pub ends : (name : List ℕ) (ends : Vec ℕ Global) (nodes : Written)
      → Some ends ≡ tree.get text_cmp tables.ends name → documents name ≡ Some nodes → ends.items ≡ ends_of nodes
  pub declared : (name : List ℕ) (declared : List Declaring) (nodes : Written)
      → Some declared ≡ tree.get text_cmp tables.declared name → documents name ≡ Some nodes
      → AreDeclared declared nodes

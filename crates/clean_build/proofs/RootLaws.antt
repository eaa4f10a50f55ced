-- The root of a document that stands in a world: where it stands.
use Rattle.std.specs.Prelude.{◌≡◌, ℕ, List, Option, Some, None, option_map}
use Rattle.std.specs.Option.{option_and_then}
use Rattle.std.proofs.Common.{refl, sym, ap, ◌∙◌}
use Rattle.dita_doc.specs.Tree.{Content}
use Rattle.dita_doc.specs.declared.doc.Node.{Node}
use Rattle.doc_elements.specs.Root.{root_element, root_named}
use Rattle.doc_elements.specs.Walk.{element_of}
use Rattle.map_spec.specs.Included.{root_in}
use Rattle.map_spec.specs.Written.{Whole, first_sibling, written_in}
use Rattle.reader_spec.specs.World.{World}
use Rattle.clean_build.specs.Made.{IsRootAt}

root_by : (name : List ℕ) (node : Node) (first : Option Whole)
    → root_named name (Some node) ≡ option_map (λ (one : Whole). one.0) first
    → (root : Whole) × (first ≡ Some root) × (root.0.doc ≡ name) × (root.0.line ≡ node.line)
root_by name node None same = cc
root_by name node (Some one) same =
    let element : element_of name node ≡ one.0 = cc in
    (one, refl, ap (λ e. e.doc) (sym element), ap (λ e. e.line) (sym element))

pub root_at : (world : World) (name : List ℕ) (tree : Content) (node : Node) → world name ≡ Some tree
    → root_named name (Some node) ≡ root_element (written_in name tree) → IsRootAt world name node.line
root_at world name tree node stored is =
    let (root, there, doc, line) = root_by name node (first_sibling (written_in name tree)) is in record {
      root = root;
      there = ap (λ (found : Option Content). option_and_then first_sibling (option_map (written_in name) found)) stored
          ∙ there;
      doc = doc;
      line_is = line;
    }

no_root : (name : List ℕ) (first : Option Whole) → root_named name None ≡ option_map (λ (one : Whole). one.0) first
    → first ≡ None
no_root name None same = refl
no_root name (Some one) same = cc

pub rootless : (world : World) (name : List ℕ) (tree : Content) → world name ≡ Some tree
    → root_named name None ≡ root_element (written_in name tree) → root_in world name ≡ None
rootless world name tree stored is =
    ap (λ (found : Option Content). option_and_then first_sibling (option_map (written_in name) found)) stored
    ∙ no_root name (first_sibling (written_in name tree)) is

pub not_stored : (world : World) (name : List ℕ) → world name ≡ None → root_in world name ≡ None
not_stored world name stored =
    ap (λ (found : Option Content). option_and_then first_sibling (option_map (written_in name) found)) stored

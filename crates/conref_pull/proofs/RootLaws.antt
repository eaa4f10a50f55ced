-- The fault of too much content stands at the root of its document.
use Rattle.std.specs.Prelude.{◌≡◌, ℕ, List, [], ◌∷◌, Option, Some, None, option_map}
use Rattle.std.specs.Option.{option_and_then}
use Rattle.std.proofs.Common.{refl, sym, ap, ◌∙◌}
use Rattle.dita_doc.specs.Tree.{Content}
use Rattle.dita_doc.specs.declared.doc.Node.{Node}
use Rattle.dita_doc.specs.declared.fault.Fault.{Fault}
use Rattle.dita_doc.specs.declared.fault.FaultCode.TheVariants as codes
use Rattle.doc_elements.specs.Root.{root_element, root_named}
use Rattle.doc_elements.specs.Walk.{element_of}
use Rattle.map_spec.specs.Elements.{fault_at}
use Rattle.map_spec.specs.Written as written
use Rattle.map_spec.specs.Written.{Whole, first_sibling, written_in}
use Rattle.reader_spec.specs.World.{World}
use Rattle.conref_pull.specs.Resolved.{root_faults, too_many_faults}

by_root : (name : List ℕ) (faults : List Fault) (root : Node) (first : Option Whole)
    → root_named name (Some root) ≡ option_map (λ (one : Whole). one.0) first
    → faults ≡ fault_at (element_of name root) codes.TooManyResolved [] ∷ [] → faults ≡ root_faults first
by_root name faults root None same is = cc
by_root name faults root (Some one) same is =
    let element : element_of name root ≡ one.0 = cc in
    is ∙ ap (λ (e : written.Element). fault_at e codes.TooManyResolved [] ∷ []) element

rootless : (name : List ℕ) (first : Option Whole) → root_named name None ≡ option_map (λ (one : Whole). one.0) first
    → ◌≡◌ {A = List Fault} [] (root_faults first)
rootless name None same = refl
rootless name (Some one) same = cc

module _ (world : World) (name : List ℕ) where
  pub faults_some : (tree : Content) (root : Node) (faults : List Fault) → world name ≡ Some tree
      → root_named name (Some root) ≡ root_element (written_in name tree)
      → faults ≡ fault_at (element_of name root) codes.TooManyResolved [] ∷ [] → faults ≡ too_many_faults world name
  faults_some tree root faults stored is fault =
      by_root name faults root (first_sibling (written_in name tree)) is fault
      ∙ ap (λ (found : Option Content). root_faults (option_and_then first_sibling (option_map (written_in name) found)))
      (sym stored)

  pub faults_rootless : (tree : Content) → world name ≡ Some tree
      → root_named name None ≡ root_element (written_in name tree)
      → ◌≡◌ {A = List Fault} [] (too_many_faults world name)
  faults_rootless tree stored is =
      rootless name (first_sibling (written_in name tree)) is
      ∙ ap (λ (found : Option Content). root_faults (option_and_then first_sibling (option_map (written_in name) found)))
      (sym stored)

  pub faults_none : world name ≡ None → ◌≡◌ {A = List Fault} [] (too_many_faults world name)
  faults_none stored = ap (λ (found : Option Content).
      root_faults (option_and_then first_sibling (option_map (written_in name) found))) (sym stored)

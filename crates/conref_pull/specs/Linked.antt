-- Targets that were taken, as the code keeps them (own).
use Rattle.std.specs.Prelude.{◌≡◌, ◌+◌, ◌-◌, ◌≤◌, ℕ, List, [], ◌∷◌, ◌++◌, Option, Some, None, length, map, take}
use Rattle.std.specs.Arc.{arc_value}
use Rattle.dita_doc.specs.Tree as tree
use Rattle.dita_doc.specs.Tree.{Content, size_of, tree_of}
use Rattle.dita_doc.specs.declared.doc.Attribute.{Attribute}
use Rattle.dita_doc.specs.declared.fault.Fault.{Fault}
use Rattle.map_spec.specs.Written.{Element, Written}
use Rattle.conref_spec.specs.Content.{Followed, Place}
use Rattle.readers.specs.Documents.{IsGiven}
use Rattle.readers.specs.Named.{under_names, named_tree}
use Rattle.readers.specs.Told.{Told}
use Rattle.conref_targets.specs.Origin.{first_whole}
use Rattle.conref_targets.specs.Parts.{AreSiblingsAt, among_first}
use Rattle.conref_targets.specs.Tables.{AreTables, Documents}
use Rattle.conref_targets.specs.declared.tables.PlaceTables.{PlaceTables}
use Rattle.conref_pull.specs.State.{path_within, place_shown}
use Rattle.conref_pull.specs.Step.{FollowStep, Taken, followed_to_all}
use Rattle.conref_pull.specs.declared.chain.TakenTarget.{TakenTarget}
use Rattle.conref_pull.specs.declared.resolver.Resolver.{Resolver}

-- this target was taken: the element stands at the place of the link, these names are declared around it, and its range goes
-- from one place to the other
pub record IsLink (link : TakenTarget) (one : Taken) : Type 0 where
  pub name : List ℕ
  pub attributes : List Attribute
  pub origin : ℕ
  pub line : ℕ
  pub inside : Content
  pub rest : Content
  pub part : AreSiblingsAt (tree_of (arc_value link.doc).nodes) link.place (tree.Element name attributes origin line inside rest)
  pub whole :
      first_whole (arc_value link.doc).origins (tree.Element name attributes origin line inside rest) ≡
      Some (one.element, one.inside)
  pub declared : link.declared ≡ one.around
  pub from : link.from ≡ link.place + 1 + size_of inside
  pub forward : link.from ≤ link.to
  pub fits : link.to ≤ link.from + size_of rest
  pub range : one.range ≡ among_first (link.to - link.from) (under_names (arc_value link.doc).origins rest)

abbrev pub IsLinked : Option Taken → Option TakenTarget → Type 0
IsLinked None None = Unit {0}
IsLinked None (Some link) = ⊥
IsLinked (Some one) None = ⊥
IsLinked (Some one) (Some link) = IsLink link one

-- the path is that of the target that was taken
abbrev pub IsPathAfter : Option Taken → Resolver → Resolver → Type 0
IsPathAfter None old new = new.path ≡ old.path
IsPathAfter (Some one) old new = map place_shown new.path.items ≡ one.path

-- the step was done
pub record IsStep (documents : Documents) (step : FollowStep) (old new : Resolver) (places : PlaceTables)
    (done : Option TakenTarget)
    : Type 0 where
  pub link : IsLinked step.taken done
  pub state : new ≡ record old { faults = old.faults ++ step.faults; path = new.path }
  pub path : IsPathAfter step.taken old new
  pub tables : AreTables documents places

-- these targets were taken, the farthest first, each within so many targets of the path
abbrev pub AreLinks : List Place → ℕ → List Taken → List TakenTarget → Type 0
AreLinks path end [] [] = Unit {0}
AreLinks path end [] (link ∷ links) = ⊥
AreLinks path end (one ∷ all) [] = ⊥
AreLinks path end (one ∷ all) (link ∷ links) =
    IsLink link one × (one.path ≡ take end path) × AreLinks path (end - 1) all links

-- references were followed from an element within so many targets, up to another number
pub record IsFollowed (documents : Documents) (element : Element) (inside : Written) (followed : Followed)
    (before after : List TakenTarget) (links end : ℕ) (old new : Resolver) (places : PlaceTables) : Type 0 where
  pub taken : List Taken
  pub more : List TakenTarget
  pub faults : List Fault
  pub items : after ≡ before ++ more
  pub linked : AreLinks (path_within new end) end taken more
  pub count : end ≡ links + length taken
  pub is : followed ≡ followed_to_all element inside (path_within old links) faults taken
  pub state : new ≡ record old { faults = old.faults ++ faults; path = new.path }
  pub kept : path_within new links ≡ path_within old links
  pub room : end ≤ length new.path.items
  pub tables : AreTables documents places

-- answers name all that the documents of targets name
abbrev pub IsGivenTo : List Told → TakenTarget → Type 0
IsGivenTo told link = IsGiven told (Some (named_tree (arc_value link.doc)))

abbrev pub IsGivenIf : List Told → Option TakenTarget → Type 0
IsGivenIf told None = Unit {0}
IsGivenIf told (Some link) = IsGivenTo told link

abbrev pub AreGivenTo : List Told → List TakenTarget → Type 0
AreGivenTo told [] = Unit {0}
AreGivenTo told (link ∷ links) = IsGivenTo told link × AreGivenTo told links

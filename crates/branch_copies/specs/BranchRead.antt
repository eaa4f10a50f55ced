-- What was read of a ditavalref (own): its filter by a place among the DITAVALs, and its affixes.
use Rattle.std.specs.Prelude.{◌≡◌, ◌++◌, ℕ, List, [], ◌∷◌, Option, codes, length, option_map}
use Rattle.std.specs.Option.{option_map_or}
use Rattle.dita_doc.specs.declared.fault.Fault.{Fault}
use Rattle.map_spec.specs.Branches as branches
use Rattle.map_spec.specs.Branches.{affix_of, filter_of}
use Rattle.map_spec.specs.Elements.{attribute}
use Rattle.map_spec.specs.Target.{Named, Document, Elsewhere, Unreadable, named_of}
use Rattle.map_spec.specs.Written.{Element, Written}
use Rattle.ditaval_rules.specs.declared.rules.RulesRead.{RulesRead}
use Rattle.reader_spec.specs.World.{World}
use Rattle.plan_nodes.specs.HomeDocs.{IsWithin, Known}
use Rattle.branch_copies.specs.Ditavals.{AreKnown, Longer, rules_at}
use Rattle.branch_copies.specs.declared.branch.Branch.{Branch}
use Rattle.branch_copies.specs.declared.branch.Filter.{Filter}

-- the document that a ditavalref asks for, if it names one
abbrev pub documents_named : Named → List (List ℕ)
documents_named (Document name) = name ∷ []
documents_named Elsewhere = []
documents_named Unreadable = []

abbrev pub targets_of : Element → List (List ℕ)
targets_of element = option_map_or (λ href. documents_named (named_of element href)) (attribute (codes "href") element) []

abbrev pub place_of : Option Filter → Option ℕ
place_of filter = option_map (λ (own : Filter). own.ditaval) filter

abbrev pub name_of : Option Filter → Option (List ℕ)
name_of filter = option_map (λ (own : Filter). own.name) filter

-- a filter is as it is defined, by the DITAVALs that are read by now, and its faults are appended
pub record IsFilterOf (world : World) (old new : List RulesRead) (entries : List Known) (before after : List Fault)
    (defined : branches.Filter) (filter : Option Filter) : Type 0 where
  pub longer : Longer old new
  pub known : AreKnown world new entries
  pub within : IsWithin (length new) (place_of filter)
  pub name : name_of filter ≡ defined.name
  pub rules : rules_at new (place_of filter) ≡ defined.rules
  pub faults : after ≡ before ++ defined.faults

pub record IsBranchOf (world : World) (old new : List RulesRead) (entries : List Known) (before after : List Fault)
    (place : ℕ) (element : Element) (inside : Written) (branch : Branch) : Type 0 where
  pub filter : IsFilterOf world old new entries before after (filter_of world element) branch.filter
  pub at : branch.place ≡ place
  pub resource : branch.resource
      ≡ affix_of inside (codes "ditavalref-d/dvrResourcePrefix") (codes "ditavalref-d/dvrResourceSuffix")
  pub keyscope : branch.keyscope
      ≡ affix_of inside (codes "ditavalref-d/dvrKeyscopePrefix") (codes "ditavalref-d/dvrKeyscopeSuffix")

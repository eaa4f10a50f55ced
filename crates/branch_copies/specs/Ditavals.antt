-- The DITAVALs that were asked for (own): for each name its place among those that were read, if one stands under it.
use Rattle.std.specs.Prelude.{◌≡◌, ◌++◌, ℕ, List, [], ◌∷◌, Option, Some, None, length, slice_get}
use Rattle.std.specs.Option.{option_map_or}
use Rattle.dita_doc.specs.declared.content.Rule.{Rule}
use Rattle.dita_doc.specs.declared.fault.Fault.{Fault}
use Rattle.ditaval_rules.specs.declared.rules.RulesRead.{RulesRead}
use Rattle.map_spec.specs.Branches.{ditaval_in}
use Rattle.plan_nodes.specs.HomeDocs.{IsWithin, Known}
use Rattle.reader_spec.specs.World.{World}

abbrev pub ditaval_at : List RulesRead → Option ℕ → Option RulesRead
ditaval_at read None = None
ditaval_at read (Some at) = slice_get read at

-- what is wrong with the DITAVAL at a place, and its rules
abbrev pub faults_at : List RulesRead → ℕ → List Fault
faults_at read at = option_map_or (λ (ditaval : RulesRead). ditaval.faults) (slice_get read at) []

abbrev pub rules_at : List RulesRead → Option ℕ → List Rule
rules_at read at = option_map_or (λ (ditaval : RulesRead). ditaval.rules) (ditaval_at read at) []

-- a name has the place of its DITAVAL
pub record IsKnown (world : World) (read : List RulesRead) (name : List ℕ) (place : Option ℕ) : Type 0 where
  pub within : IsWithin (length read) place
  pub is : ditaval_at read place ≡ ditaval_in world name

abbrev pub AreKnown : World → List RulesRead → List Known → Type 0
AreKnown world read [] = Unit {0}
AreKnown world read (entry ∷ entries) = IsKnown world read entry.0 entry.1 × AreKnown world read entries

-- DITAVALs are put behind others
abbrev pub Longer : List RulesRead → List RulesRead → Type 0
Longer old new = (more : List RulesRead) × (new ≡ old ++ more)

-- the place of a DITAVAL was found, or it was asked for
pub record IsDitavalOf (world : World) (old new : List RulesRead) (entries : List Known) (name : List ℕ)
    (place : Option ℕ) : Type 0 where
  pub longer : Longer old new
  pub known : AreKnown world new entries
  pub here : IsKnown world new name place

-- The rules by which a page is judged (own): those of the build's DITAVAL and of each filter of the page, kept by the names
-- of the DITAVALs.
use Rattle.std.specs.Prelude.{◌≡◌, ◌++◌, ℕ, Bool, true, List, [], ◌∷◌, Option, Some, is_some, option_map}
use Rattle.std.specs.BTreeMap as tree
use Rattle.std.specs.List.{flat_map, list_any}
use Rattle.std.specs.Option.{option_and_then, option_to_list}
use Rattle.dita_doc.specs.TextOrder.{text_cmp}
use Rattle.dita_doc.specs.declared.content.Rule.{Rule}
use Rattle.dita_doc.specs.declared.doc.Attribute.{Attribute}
use Rattle.ditaval_rules.specs.Verdict.{excluded}
use Rattle.ditaval_rules.specs.declared.rules.RulesRead.{RulesRead}
use Rattle.map_spec.specs.Branches.{ditaval_in}
use Rattle.reader_spec.specs.World.{World}
use Rattle.conref_targets.specs.declared.rules.RuleLists.{RuleLists}

-- the rules of the DITAVAL of this name; a document that is none has no rules
abbrev pub rules_under : World → List ℕ → Option (List Rule)
rules_under world name = option_map (λ (read : RulesRead). read.rules) (ditaval_in world name)

-- the rules of a page: those of each of its DITAVALs
abbrev pub page_rules : World → List (List ℕ) → List (List Rule)
page_rules world names = flat_map (λ name. option_to_list (rules_under world name)) names

-- what is kept under a name
abbrev pub kept_under : RuleLists → List ℕ → Option (Option (List Rule))
kept_under lists name = tree.get text_cmp lists.lists name

-- each name under which something is kept has the rules of its DITAVAL
pub record AreRules (world : World) (lists : RuleLists) : Type 0 where
  pub each : (name : List ℕ) (rules : Option (List Rule)) → Some rules ≡ kept_under lists name
      → rules ≡ rules_under world name

-- the DITAVALs of these names have the same rules in both worlds
abbrev pub HaveSame : World → World → List (List ℕ) → Type 0
HaveSame here world names = page_rules world names ≡ page_rules here names

-- something is kept under each of these names
abbrev pub HasAll : RuleLists → List (List ℕ) → Type 0
HasAll lists [] = Unit {0}
HasAll lists (name ∷ names) = (is_some (kept_under lists name) ≡ true) × HasAll lists names

-- nothing that was kept is gone
pub record Keeps (old new : RuleLists) : Type 0 where
  pub each : (name : List ℕ) → is_some (kept_under old name) ≡ true → is_some (kept_under new name) ≡ true

-- one more was read
pub record HasRead (lists : RuleLists) (old : RuleLists) (name : List ℕ) : Type 0 where
  pub keeps : Keeps old lists
  pub has : is_some (kept_under lists name) ≡ true

abbrev pub rules_kept : RuleLists → List ℕ → List (List Rule)
rules_kept lists name = option_to_list (option_and_then (λ rules. rules) (kept_under lists name))

-- the DITAVALs of a page: the build's and its filters
abbrev pub ditavals : Option (List ℕ) → List (List ℕ) → List (List ℕ)
ditavals val filters = option_to_list val ++ filters

abbrev pub all_kept : RuleLists → List (List ℕ) → List (List Rule)
all_kept lists names = flat_map (rules_kept lists) names

-- some of these rules exclude an element of these attributes, for which these names are declared
abbrev pub some_exclude : List (List Rule) → List (List ℕ) → List Attribute → Bool
some_exclude all declared attributes = list_any (λ rules. excluded rules declared attributes) all

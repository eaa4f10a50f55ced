-- Titles that were made (own): each is that of its topic in a world.
use Rattle.std.specs.Prelude.{◌≡◌, ℕ, List, [], ◌∷◌}
use Rattle.std.specs.Coded.{Coded-set, coded_list, coded_ℕ, ×_prop, Unit-prop}
use Rattle.map_spec.specs.Titles.{title_in}
use Rattle.reader_spec.specs.World.{World}
use Rattle.readers.specs.declared.title_table.TitleKey.{TitleKey}

abbrev pub Titled : Type 0
Titled = TitleKey × List ℕ

-- the text is the title
abbrev pub IsTitle : World → Titled → Type 0
IsTitle world titled = title_in world titled.0.name titled.0.topic ≡ titled.1

abbrev pub AreTitles : World → List Titled → Type 0
AreTitles world [] = Unit {0}
AreTitles world (titled ∷ more) = IsTitle world titled × AreTitles world more

pub AreTitles-prop : (world : World) (all : List Titled) → IsProp (AreTitles world all)
AreTitles-prop world [] = Unit-prop
AreTitles-prop world (titled ∷ more) = ×_prop (Coded-set (coded_list coded_ℕ) _ _) (AreTitles-prop world more)

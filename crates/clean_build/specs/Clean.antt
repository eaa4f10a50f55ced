-- What a build gives, in the words of the definition: an `Arc` is what it holds.
use Rattle.std.specs.Prelude.{ℕ, List, map}
use Rattle.std.specs.Arc.{arc_value}
use Rattle.std.specs.List.{All}
use Rattle.std.specs.declared.alloc.Global.{Global}
use Rattle.std.specs.declared.sync.Arc.{Arc}
use Rattle.build_spec.specs.Built.{BuildOutcome, Page, Done, Stopped, TooLarge}
use Rattle.build_plan.specs.PageNames.{IsPageName}
use Rattle.clean_build.specs.declared.built.Clean.{Clean}
use Rattle.clean_build.specs.declared.built.Clean.TheVariants as given
use Rattle.dita_doc.specs.declared.fact.Html.{Html}

-- a page as it was made
abbrev pub MadePage : Type 0
MadePage = List ℕ × Arc Html Global

abbrev pub page_seen : MadePage → Page
page_seen page = (page.0, (arc_value page.1).bytes)

abbrev pub clean_seen : Clean → BuildOutcome
clean_seen (given.Done pages faults) = Done (map page_seen pages) faults
clean_seen (given.Stopped stop) = Stopped stop
clean_seen (given.TooLarge total) = TooLarge total

abbrev pub HasPageName : MadePage → Type 0
HasPageName page = IsPageName page.0

-- each page that is given has the name of a page
abbrev pub HasPageNames : Clean → Type 0
HasPageNames (given.Done pages faults) = All HasPageName pages
HasPageNames (given.Stopped stop) = Unit {0}
HasPageNames (given.TooLarge total) = Unit {0}

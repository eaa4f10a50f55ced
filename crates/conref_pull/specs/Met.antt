-- What is asked for where references are followed, and the targets that are met: each stands in a document of the page (own).
use Rattle.std.specs.Prelude.{List, Option, Some, None, Result, Ok, Err, All}
use Rattle.std.specs.Arc.{arc_value}
use Rattle.dita_doc.specs.declared.stop.Stop.{Stop}
use Rattle.dita_doc.specs.declared.stop.Stop.TheVariants as stops
use Rattle.readers.specs.Named.{named_tree}
use Rattle.readers.specs.Told.{Told}
use Rattle.conref_targets.specs.PageAsking.{AreMet, AsksPage, PageAt}
use Rattle.conref_pull.specs.declared.chain.TakenTarget.{TakenTarget}
use Rattle.conref_pull.specs.declared.resolver.TooMany.{TooMany}

-- all elements of the document of a target
abbrev pub LinkMet : PageAt → TakenTarget → Type 0
LinkMet page link = AreMet page (named_tree (arc_value link.doc))

abbrev pub LinkMetIf : PageAt → Option TakenTarget → Type 0
LinkMetIf page None = Unit {0}
LinkMetIf page (Some link) = LinkMet page link

abbrev pub LinksMet : PageAt → List TakenTarget → Type 0
LinksMet page links = All (LinkMet page) links

-- a target was taken, and questions were told for the page alone
pub record TakesOnly (page : PageAt) (old new : List Told) (link : Option TakenTarget) : Type 0 where
  pub asks : AsksPage page old new
  pub met : LinkMetIf page link

-- these targets were taken, and questions were told for the page alone
pub record FollowsOnly (page : PageAt) (old new : List Told) (links : List TakenTarget) : Type 0 where
  pub asks : AsksPage page old new
  pub met : LinksMet page links

-- it holds, also where the walk was stopped by too many nodes; out of memory, nothing is said
abbrev pub UnlessOut : Result (Unit {0}) (Stop TooMany) → Type 0 → Type 0
UnlessOut (Ok done) P = P
UnlessOut (Err (stops.Fault fault)) P = P
UnlessOut (Err stops.NoMemory) P = Unit {0}

-- Which documents the parts of a build that stand alone ask for as a whole: those of the content of a page, and those in
-- which nodes stand.
use Rattle.std.specs.Prelude.{◌≡◌, ℕ, List, [], Some, slice_get}
use Rattle.std.specs.Option.{option_map_or}
use Rattle.std.proofs.Common.{sym, ap, subst}
use Rattle.conref_targets.specs.Asking.{of_content}
use Rattle.dita_doc.specs.declared.plan.PagePlan.{PagePlan}
use Rattle.readers.specs.Documents.{AsksOnly, nothing}
use Rattle.readers.specs.Founded.{Grows, homes}
use Rattle.readers.specs.Told.{Told}
use Rattle.readers.proofs.AmongLaws.{among_back, among_front}
use Rattle.readers.proofs.DocumentLaws.{asks_after, asks_among, covers_nothing}
use Rattle.clean_build.specs.Names.{names_of_content}
use Rattle.clean_build.specs.declared.build_input.BuildInput.{BuildInput}
use Rattle.whole_calls.specs.Single.{documents_of_alone}

-- by a rule from which more follows
pub asks_widely : (names : List (List ℕ)) (old new : List Told) → AsksOnly nothing names old new
    → AsksOnly of_content names old new
asks_widely names old new =
    asks_among of_content nothing names names old new (covers_nothing of_content) (λ m among. among)

-- A page that stands alone

module _ (ground : BuildInput) (index : ℕ) where
  abbrev front : List (List ℕ)
  front = homes ground.plan.now.nodes

  abbrev behind : List (List ℕ)
  behind = option_map_or (names_of_content ground) (slice_get ground.plan.now.pages index) []

  pub asks_links : (old new : List Told) → AsksOnly nothing (homes ground.plan.now.nodes) old new
      → AsksOnly of_content (documents_of_alone ground index) old new
  asks_links old new = asks_among of_content nothing front (documents_of_alone ground index) old new
      (covers_nothing of_content) (λ m among. among_front front behind m among)

  pub asks_alone : (page : PagePlan) → slice_get ground.plan.now.pages index ≡ Some page → (a b c : List Told)
      → Grows a b → AsksOnly nothing (homes ground.plan.now.nodes) a b
      → AsksOnly of_content (names_of_content ground page) b c
      → AsksOnly of_content (documents_of_alone ground index) a c
  asks_alone page there a b c grows links content =
      let same : behind ≡ names_of_content ground page =
      ap (λ found. option_map_or (names_of_content ground) found []) there
      in
      asks_after of_content (documents_of_alone ground index) a b c grows (asks_links a b links)
      (asks_among of_content of_content behind (documents_of_alone ground index) b c
      (record { each = λ t m here. here }) (λ m among. among_back front behind m among)
      (subst (λ names. AsksOnly of_content names b c) (sym same) content))

-- What an entry builds, and what a build puts into the outlet.
use Rattle.std.specs.Prelude.{ℕ, Bool, List, Option, map}
use Rattle.std.specs.List.{slice_get}
use Rattle.std.specs.Option.{option_and_then, option_map, option_to_list}
use Rattle.build_spec.specs.Built.{BuildOutcome, Page}
use Rattle.clean_build.specs.Clean.{MadePage, page_seen}
use Rattle.dita_doc.specs.declared.fact.Html.{Html}
use Rattle.run_spec.specs.Answers.{built_by, delivered, pages_built, pages_wanted, page_of_terms, terms_for}
use Rattle.version_store.specs.Kept.{Kept, stored_now}

-- what the entry at a place builds over what is stored now
abbrev pub built_at : Kept → ℕ → Option BuildOutcome
built_at kept place = option_and_then (λ entry. built_by (stored_now kept) entry.request) (slice_get kept.history place)

-- the page of the terms of that
abbrev pub terms_at : Kept → ℕ → Option Page
terms_at kept place =
    option_and_then (λ entry. terms_for (stored_now kept) entry.request) (slice_get kept.history place)

-- the pages that it puts, under the number of its request
abbrev pub pages_put_at : Bool → ℕ → Kept → ℕ → List Page
pages_put_at with_terms number kept place =
    map (delivered number) (pages_wanted with_terms (built_at kept place) (terms_at kept place))

-- the pages of a build, under the number of its request
abbrev pub pages_put_by : ℕ → Option BuildOutcome → List Page
pages_put_by number built = map (delivered number) (pages_built built)

-- pages that were made, under the number of their request
abbrev pub pages_put : ℕ → List MadePage → List Page
pages_put number pages = map (delivered number) (map page_seen pages)

-- the page of terms, under that number
abbrev pub terms_put : ℕ → Option Html → List Page
terms_put number terms = map (delivered number) (option_to_list (option_map page_of_terms terms))

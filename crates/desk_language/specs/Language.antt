-- What the desk takes of the language of documents (own): what the build of a map with a DITAVAL or without gives over
-- what is stored, how many pages its plan has, how many bytes the value of each of its parts has, and which names it
-- reaches. The parts of a build are its plan and, if there is one, each page of the plan in order and the contents
-- page.
use Rattle.std.specs.Prelude.{◌+◌, ◌*◌, ℕ, zero, suc, List, [], ◌∷◌, Option, Some, None, length, map}
use Rattle.build_spec.specs.Built.{BuildOutcome}
use Rattle.dita_doc.specs.Desk.{State}
use Rattle.dita_doc.specs.declared.fact.FactKey.{FactKey}
use Rattle.dita_doc.specs.declared.fact.Part.{Part}
use Rattle.dita_doc.specs.declared.fact.Part.TheVariants as parts

pub record Language : Type 1 where
  pub clean : State → List ℕ → Option (List ℕ) → BuildOutcome
  -- none if there is no plan
  pub page_count : State → List ℕ → Option (List ℕ) → Option ℕ
  pub value_bytes : State → FactKey → ℕ
  pub Reaches : State → List ℕ → Option (List ℕ) → List ℕ → Type 0

-- The parts of a build

abbrev pub key_of : List ℕ → Option (List ℕ) → Part → FactKey
key_of root val part = record { map = root; val = val; part = part }

-- so many pages from this index on, and behind them the contents page
abbrev pub pages_from : List ℕ → Option (List ℕ) → ℕ → ℕ → List FactKey
pages_from root val index zero = key_of root val parts.Contents ∷ []
pages_from root val index (suc more) = key_of root val (parts.Page index) ∷ pages_from root val (index + 1) more

-- with a plan of so many pages, or without a plan
abbrev pub parts_with : List ℕ → Option (List ℕ) → Option ℕ → List FactKey
parts_with root val None = key_of root val parts.Plan ∷ []
parts_with root val (Some pages) = key_of root val parts.Plan ∷ pages_from root val 0 pages

abbrev pub parts_of : Language → State → List ℕ → Option (List ℕ) → List FactKey
parts_of language state root val = parts_with root val (language.page_count state root val)

-- What their rows count for

-- a row whose value has so many bytes, over so many stored names
abbrev pub row_bytes : ℕ → ℕ → ℕ
row_bytes names value = value + 64 + 32 * names

abbrev pub part_bytes : Language → State → FactKey → ℕ
part_bytes language state key = row_bytes (length state) (language.value_bytes state key)

-- of each part of a build, in order
abbrev pub bytes_of_parts : Language → State → List ℕ → Option (List ℕ) → List ℕ
bytes_of_parts language state root val = map (part_bytes language state) (parts_of language state root val)

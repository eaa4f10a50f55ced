-- What the words ask of the modes `gen`, `batch` and `trial`.
use Rattle.std.specs.Prelude.{◌≤◌, ℕ}

-- the greatest number from which a project is made
abbrev pub most_number : ℕ
most_number = 9223372036854775807

abbrev pub least_topics : ℕ
least_topics = 2

abbrev pub most_topics : ℕ
most_topics = 4000

-- the number from which a project is made, and how many topics it has
pub record ProjectAsked : Type 0 where
  pub number : ℕ
  pub topics : ℕ

pub record IsWithinBounds (number topics : ℕ) : Type 0 where
  pub number_most : number ≤ most_number
  pub topics_least : least_topics ≤ topics
  pub topics_most : topics ≤ most_topics

abbrev pub least_workers : ℕ
least_workers = 1

abbrev pub most_workers : ℕ
most_workers = 16

-- how many threads may work on one build
pub record IsTeam (count : ℕ) : Type 0 where
  pub least : least_workers ≤ count
  pub most : count ≤ most_workers

-- What an object of a run tells before the run and after it.
use Rattle.std.specs.Prelude.{ℕ, Option}
use Rattle.run_spec.specs.EndsBatch.{Streams}
use Rattle.run_spec.specs.Written.{Sunk}
use Rattle.dita_doc.specs.Bytes.{Bytes}

-- its bytes or its pages, if it tells them, and the count of its faults
pub record Change (X : Type 0) : Type 0 where
  pub before : Option X
  pub after : Option X
  pub faults_before : ℕ
  pub faults_after : ℕ

-- the same of an object, by what it tells and by its faults
abbrev pub change : {S X : Type 0} → (S → Option X) → (S → ℕ) → (before after : S) → Change X
change tells faults before after = record {
  before = tells before;
  after = tells after;
  faults_before = faults before;
  faults_after = faults after;
}

-- what the sink tells, of that
abbrev pub sunk_before : Change Bytes → Sunk
sunk_before sink = record { taken = sink.before; faults = sink.faults_before }

abbrev pub sunk_after : Change Bytes → Sunk
sunk_after sink = record { taken = sink.after; faults = sink.faults_after }

-- what the source and the sink tell, of that
abbrev pub streams_before : (source sink : Change Bytes) → Streams
streams_before source sink = record {
  left = source.before;
  read_faults = source.faults_before;
  taken = sink.before;
  write_faults = sink.faults_before;
}

abbrev pub streams_after : (source sink : Change Bytes) → Streams
streams_after source sink = record {
  left = source.after;
  read_faults = source.faults_after;
  taken = sink.after;
  write_faults = sink.faults_after;
}

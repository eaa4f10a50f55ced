-- What a claim and a publish are answered (own).
use Rattle.std.specs.Prelude.{◌≡◌, List}
use Rattle.facts.specs.Latest as latest
use Rattle.facts.specs.Latest.{ClaimAnswer}
use Rattle.facts.specs.Rows.{Claim, RowData, Running, Stands, claim_of, row_data}
use Rattle.facts.specs.Table.{TableData, published, row_of}
use Rattle.facts.specs.declared.fact.Fact.{Fact}
use Rattle.fact_table.specs.declared.ticket.Claimed.{Claimed}
use Rattle.fact_table.specs.declared.ticket.Claimed.TheVariants.{Have, Taken, Yours}

abbrev pub answer_seen : Claimed → ClaimAnswer
answer_seen (Have row) = latest.Have (row_data row)
answer_seen (Taken serial) = latest.Taken serial
answer_seen (Yours ticket) = latest.Yours ticket

-- the claim of a ticket runs
pub record RunsAs (running : List Running) (ticket : Claim) (claim : Running) : Type 0 where
  pub stands : Stands running claim
  pub same : claim_of claim ≡ ticket

abbrev pub IsRunning : List Running → Claim → Type 0
IsRunning running ticket = (claim : Running) × RunsAs running ticket claim

-- the row of the ticket's claim stands last
pub record IsPublished (ticket : Claim) (fact : Fact) (old : TableData) (row : RowData) (new : TableData) : Type 0 where
  pub claim : Running
  pub runs : RunsAs old.running ticket claim
  pub row_is : row ≡ row_of old claim fact
  pub left : new ≡ published old claim fact

-- each of these stands among others
pub record AreAmong {X : Type 0} (some all : List X) : Type 0 where
  pub each : (x : X) → Stands some x → Stands all x

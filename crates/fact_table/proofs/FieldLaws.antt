-- Tables and rows that have the same fields are the same.
use Rattle.std.proofs.Common.{◌≡◌, ◌∙◌, ℕ, List, ap}
use Rattle.facts.specs.Rows.{RowData, Running}
use Rattle.facts.specs.Table.{TableData}
use Rattle.facts.specs.declared.fact.Fact.{Fact}

abbrev table_of : List RowData → List Running → ℕ → ℕ → ℕ → TableData
table_of rows running drawn dropped limit =
    record { rows = rows; running = running; drawn = drawn; dropped = dropped; limit = limit }

pub same_table : (a b : TableData) → a.rows ≡ b.rows → a.running ≡ b.running → a.drawn ≡ b.drawn
    → a.dropped ≡ b.dropped → a.limit ≡ b.limit → a ≡ b
same_table a b rows running drawn dropped limit =
    ap (λ (x : List RowData). table_of x a.running a.drawn a.dropped a.limit) rows
    ∙ ap (λ (x : List Running). table_of b.rows x a.drawn a.dropped a.limit) running
    ∙ ap (λ (x : ℕ). table_of b.rows b.running x a.dropped a.limit) drawn
    ∙ ap (λ (x : ℕ). table_of b.rows b.running b.drawn x a.limit) dropped
    ∙ ap (λ (x : ℕ). table_of b.rows b.running b.drawn b.dropped x) limit

abbrev row_by : ℕ → ℕ → ℕ → ℕ → ℕ → Fact → RowData
row_by serial stamp rank mark bytes fact =
    record { serial = serial; stamp = stamp; rank = rank; mark = mark; bytes = bytes; fact = fact }

pub same_row : (a b : RowData) → a.serial ≡ b.serial → a.stamp ≡ b.stamp → a.rank ≡ b.rank → a.mark ≡ b.mark
    → a.bytes ≡ b.bytes → a.fact ≡ b.fact → a ≡ b
same_row a b serial stamp rank mark bytes fact =
    ap (λ (x : ℕ). row_by x a.stamp a.rank a.mark a.bytes a.fact) serial
    ∙ ap (λ (x : ℕ). row_by b.serial x a.rank a.mark a.bytes a.fact) stamp
    ∙ ap (λ (x : ℕ). row_by b.serial b.stamp x a.mark a.bytes a.fact) rank
    ∙ ap (λ (x : ℕ). row_by b.serial b.stamp b.rank x a.bytes a.fact) mark
    ∙ ap (λ (x : ℕ). row_by b.serial b.stamp b.rank b.mark x a.fact) bytes
    ∙ ap (λ (x : Fact). row_by b.serial b.stamp b.rank b.mark b.bytes x) fact

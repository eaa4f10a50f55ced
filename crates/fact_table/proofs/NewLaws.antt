-- What holds inside of a table without rows and claims.
use Rattle.std.proofs.Common.{◌≡◌, ◌<◌, ◌^◌, List, [], sym, ap, ◌∙◌, length, slice_get, arith}
use Rattle.std.proofs.lemmas.Option.{none-some}
use Rattle.std.specs.VecDeque.{deque_len}
use Rattle.facts.specs.Rows.{Stands}
use Rattle.facts.specs.Table.{size}
use Rattle.fact_table.specs.Claims.{claims_seen}
use Rattle.fact_table.specs.Inside.{IsTable}
use Rattle.fact_table.specs.Shelf.{IsShelf, rows_seen}
use Rattle.fact_table.specs.declared.table.Table.TheInside.{Inside}

pub nothing_stands : {X : Type 0} (xs : List X) (x : X) → xs ≡ [] → Stands xs x → ⊥
nothing_stands xs x none stands =
    none-some x (sym (ap (λ (all : List _). slice_get all stands.0) none) ∙ stands.1)

pub new_is : (table : Inside) → IsShelf table.shelf → rows_seen table.shelf ≡ [] → table.claims.items ≡ []
    → table.memo.items ≡ [] → table.shelf.dropped ≡ 0 → deque_len table.shelf.rows ≡ 0 → table.drawn < 2 ^ 64
    → table.limit < 2 ^ 64 → IsTable table
new_is table shelf rows claims memo dropped len drawn limit =
    let running : claims_seen table.claims.items ≡ [] = ap claims_seen claims in
    let no_rows : length (rows_seen table.shelf) ≡ 0 = ap length rows in
    let no_claims : length (claims_seen table.claims.items) ≡ 0 = ap length running in
    let no_items : length table.claims.items ≡ 0 = ap length claims in
    let no_bytes : size (rows_seen table.shelf) ≡ 0 = ap size rows in
    record {
      shelf = shelf;
      drawn = record {
        rise = λ i j claim later low at behind.
            absurd (nothing_stands (claims_seen table.claims.items) claim running (i, at));
        drawn = λ claim stands. absurd (nothing_stands (claims_seen table.claims.items) claim running stands);
        names = λ claim stands. absurd (nothing_stands (claims_seen table.claims.items) claim running stands);
        made = omega arith;
      };
      fits = omega arith;
      room = record {
        rows = omega arith;
        keys = record {
          each = λ claim stands. absurd (nothing_stands (claims_seen table.claims.items) claim running stands);
        };
      };
      noted = λ noted stands. absurd (nothing_stands table.memo.items noted memo stands);
      words = record { drawn = drawn; limit = limit };
    }

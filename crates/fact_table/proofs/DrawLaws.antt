-- A table whose shelf has made room, and a claim that is put behind the others.
use Rattle.std.proofs.Common.{◌≡◌, ◌∙◌, ◌+◌, ◌<◌, ◌≤◌, ◌^◌, ℕ, List, [], ◌∷◌, ◌++◌, sym, ap, subst, inl, inr, length, arith, length-append}
use Rattle.std.specs.VecDeque.{deque_capacity, deque_len}
use Rattle.dita_doc.specs.Desk.{State}
use Rattle.dita_doc.specs.declared.fact.FactKey.{FactKey}
use Rattle.facts.proofs.Places.{push_at}
use Rattle.facts.specs.Rows.{Claim, Running}
use Rattle.facts.specs.Table.{TableData, next_claim}
use Rattle.fact_table.specs.Claims.{claim_seen, claims_seen}
use Rattle.fact_table.specs.Inside.{IsTable, data_seen}
use Rattle.fact_table.specs.Ranks.{AreSame, IsKnown, Ranks}
use Rattle.fact_table.specs.Shelf.{IsShelf, KnowsClaims, rows_seen}
use Rattle.fact_table.specs.declared.claims.RunningClaim.{RunningClaim}
use Rattle.fact_table.specs.declared.shelf.Shelf.{Shelf}
use Rattle.fact_table.specs.declared.table.Table.TheInside.{Inside}
use Rattle.fact_table.proofs.ListLaws.{made_push}
use Rattle.fact_table.proofs.ShelfLaws.{knows_still}
use Rattle.fact_table.proofs.TableLaws.{Draws, Rests, noted_rows}

-- the shelf has made room, and has the same rows
pub record IsReserved (old new : Shelf) : Type 0 where
  pub shelf : IsShelf new
  pub rows : rows_seen new ≡ rows_seen old
  pub dropped : new.dropped ≡ old.dropped
  pub same : AreSame old.newest new.newest
  pub len : deque_len new.rows ≡ deque_len old.rows
  pub capacity : deque_capacity old.rows ≤ deque_capacity new.rows

pub reserved_rests : (old new : Inside) → IsTable old → IsReserved old.shelf new.shelf
    → claims_seen new.claims.items ≡ claims_seen old.claims.items → new.drawn ≡ old.drawn → new.limit ≡ old.limit
    → new.memo.items ≡ old.memo.items → Rests old new
reserved_rests old new table reserved claims drawn limit memo = record {
  claims = claims;
  shelf = reserved.shelf;
  rows = reserved.rows;
  dropped = reserved.dropped;
  known = knows_still old.shelf.newest new.shelf.newest (claims_seen old.claims.items) reserved.same table.room.keys;
  len = reserved.len;
  capacity = reserved.capacity;
  drawn = drawn;
  limit = limit;
  noted = noted_rows old new memo table.noted;
}

knows_push : (ranks : Ranks) (running : List Running) (claim : Running) → KnowsClaims ranks running
    → IsKnown ranks claim.key → KnowsClaims ranks (running ++ claim ∷ [])
knows_push ranks running claim knows known = record {
  each = λ one stands. elim (push_at running claim one stands.0 stands.1) [
    | inl old ↦ knows.each one (stands.0, old)
    | inr new ↦ subst (λ (c : Running). IsKnown ranks c.key) (sym new.1) known
  ];
}

abbrev running_by : ℕ → FactKey → ℕ → State → Running
running_by serial key stamp state = record { serial = serial; key = key; stamp = stamp; state = state }

-- the claim is the next one of the table
pub record IsNext (table : TableData) (key : FactKey) (stamp : ℕ) (sources : State) (claim : Running) : Type 0 where
  pub serial : claim.serial ≡ table.drawn + 1
  pub key_is : claim.key ≡ key
  pub stamp_is : claim.stamp ≡ stamp
  pub state : claim.state ≡ sources

next_is : (table : TableData) (key : FactKey) (stamp : ℕ) (sources : State) (claim : Running)
    → IsNext table key stamp sources claim → claim ≡ next_claim table key stamp sources
next_is table key stamp sources claim is =
    ap (λ (x : ℕ). running_by x claim.key claim.stamp claim.state) is.serial
    ∙ ap (λ (x : FactKey). running_by (table.drawn + 1) x claim.stamp claim.state) is.key_is
    ∙ ap (λ (x : ℕ). running_by (table.drawn + 1) key x claim.state) is.stamp_is
    ∙ ap (λ (x : State). running_by (table.drawn + 1) key stamp x) is.state

abbrev claim_by : ℕ → FactKey → ℕ → Claim
claim_by serial key stamp = record { serial = serial; key = key; stamp = stamp }

-- a ticket is what its claim is known by
pub same_ticket : (a b : Claim) → a.serial ≡ b.serial → a.key ≡ b.key → a.stamp ≡ b.stamp → a ≡ b
same_ticket a b serial key stamp =
    ap (λ (x : ℕ). claim_by x a.key a.stamp) serial
    ∙ ap (λ (x : FactKey). claim_by b.serial x a.stamp) key
    ∙ ap (λ (x : ℕ). claim_by b.serial b.key x) stamp

-- a claim is put behind the others, for which the shelf has made room
pub draws : (old new : Inside) (key : FactKey) (stamp : ℕ) (sources : State) (claim : RunningClaim) → IsTable old
    → IsReserved old.shelf new.shelf → length sources ≤ 2 ^ 48 → new.claims.items ≡ old.claims.items ++ claim ∷ []
    → IsNext (data_seen old) key stamp sources (claim_seen claim) → IsKnown new.shelf.newest key
    → deque_len new.shelf.rows + length old.claims.items + 1 ≤ deque_capacity new.shelf.rows
    → new.drawn ≡ old.drawn + 1 → new.drawn < 2 ^ 64 → new.limit ≡ old.limit → new.memo.items ≡ old.memo.items
    → Draws old new key stamp sources
draws old new key stamp sources claim table reserved few items next known room drawn fits limit memo = record {
  few = few;
  claims = claims_are;
  shelf = reserved.shelf;
  rows = reserved.rows;
  dropped = reserved.dropped;
  known = subst (KnowsClaims new.shelf.newest) (sym claims_are)
      (knows_push new.shelf.newest (claims_seen old.claims.items) (next_claim (data_seen old) key stamp sources)
      (knows_still old.shelf.newest new.shelf.newest (claims_seen old.claims.items) reserved.same table.room.keys) known);
  room =
      let count : length new.claims.items ≡ length old.claims.items + 1 =
      ap length items ∙ length-append old.claims.items (claim ∷ []) in
      omega arith;
  drawn = drawn;
  fits = fits;
  limit = limit;
  memo = memo;
} where
  claims_are : claims_seen new.claims.items
      ≡ claims_seen old.claims.items ++ next_claim (data_seen old) key stamp sources ∷ []
  claims_are = ap claims_seen items ∙ made_push claim_seen old.claims.items claim
      ∙ ap (λ (c : Running). claims_seen old.claims.items ++ c ∷ [])
      (next_is (data_seen old) key stamp sources (claim_seen claim) next)

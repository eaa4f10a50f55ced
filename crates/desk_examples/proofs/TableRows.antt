-- What the events of the table leave, computed on small tables.
use Rattle.std.specs.Prelude.{◌≡◌, [], ◌∷◌, refl}
use Rattle.dita_doc.specs.declared.fact.Part.TheVariants as parts
use Rattle.facts.specs.Table.{claimed, left, published, released, row_of}
use Rattle.desk_examples.proofs.Small.{Share, contents, key_of, row, running, table, three_rows}

-- Dropping

first_goes : (plan : Share) → left 250 (three_rows plan) ≡ row plan 2 100 ∷ row plan 3 100 ∷ []
first_goes plan = refl

-- bytes that reach the limit do not exceed it
none_goes : (plan : Share) → left 300 (three_rows plan) ≡ three_rows plan
none_goes plan = refl

all_go : (plan : Share) → left 99 (three_rows plan) ≡ []
all_go plan = refl

-- the small first row goes before the large second one
first_goes_first : (plan : Share) → left 100 (row plan 1 10 ∷ row plan 2 200 ∷ row plan 3 30 ∷ []) ≡ row plan 3 30 ∷ []
first_goes_first plan = refl

-- Claims

-- the claims of serials 4 and 5 run, of seven that were drawn
two_run : (plan : Share) → claimed
    (table (three_rows plan) (running 4 parts.Plan 0 ∷ running 5 parts.Contents 0 ∷ []) 7 0 1000) (key_of (parts.Page 3)) 2 []
    ≡ table (three_rows plan)
    (running 4 parts.Plan 0 ∷ running 5 parts.Contents 0 ∷ running 8 (parts.Page 3) 2 ∷ []) 8 0 1000
two_run plan = refl

one_is_released : (plan : Share) → released
    (table (three_rows plan) (running 4 parts.Plan 0 ∷ running 5 parts.Contents 0 ∷ []) 7 0 1000) 4
    ≡ table (three_rows plan) (running 5 parts.Contents 0 ∷ []) 7 0 1000
one_is_released plan = refl

-- Publishing: the row has the next rank, the mark is the last serial that was drawn, and without HTML and names it has 64
-- bytes

published_row : (plan : Share) → row_of (table (three_rows plan) (running 4 parts.Contents 2 ∷ []) 6 5 1000)
    (running 4 parts.Contents 2) (contents plan 0)
    ≡ record { serial = 4; stamp = 2; rank = 9; mark = 6; bytes = 64; fact = contents plan 0 }
published_row plan = refl

-- two rows go for it
published_table : (plan : Share) → published
    (table (three_rows plan) (running 4 parts.Contents 2 ∷ running 5 parts.Plan 2 ∷ []) 6 5 200)
    (running 4 parts.Contents 2) (contents plan 0)
    ≡ table (row plan 3 100 ∷ record { serial = 4; stamp = 2; rank = 9; mark = 6; bytes = 64; fact = contents plan 0 } ∷ [])
    (running 5 parts.Plan 2 ∷ []) 6 7 200
published_table plan = refl

-- a row that is larger than the limit goes with all others, and counts as made
too_large : (plan : Share) → published (table (three_rows plan) (running 4 parts.Contents 2 ∷ []) 6 5 1)
    (running 4 parts.Contents 2) (contents plan 0) ≡ table [] [] 6 9 1
too_large plan = refl

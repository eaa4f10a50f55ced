-- A book that may have one entry: the first request has its place, and a second finds no room. A table that may have
-- one byte: three rows of a build are made, and none is kept.
use Rattle.std.proofs.Common.{◌≡◌, ◌≤◌, ◌<◌, ◌⊎◌, ℕ, [], ◌∷◌, None, Ok, Err, refl, inl, ⊎_elim, arith}
use Rattle.std.specs.Prelude.{codes}
use Rattle.std.specs.Arc.{arc_with_value}
use Rattle.dita_doc.specs.Desk.{Absent}
use Rattle.dita_doc.specs.Request.{Request, Remove, Single}
use Rattle.dita_doc.specs.declared.fact.Part.{Part}
use Rattle.dita_doc.specs.declared.fact.Part.TheVariants as parts
use Rattle.dita_doc.specs.declared.stop.Stop.TheVariants.{Fault}
use Rattle.desk_core.specs.Book.{BookData, new_book}
use Rattle.desk_core.specs.Events.{Commit, Placed}
use Rattle.desk_core.specs.Steps.{IsStep, with_asked}
use Rattle.facts.specs.Latest.{FactAgrees}
use Rattle.facts.specs.Table.{TableData, claimed, made, new_table, next_claim, published}
use Rattle.facts.specs.declared.fact.Fact.{Fact}
use Rattle.version_store.specs.Kept.{IsFull}
use Rattle.version_store.specs.declared.full.Full.{Full}
use Rattle.desk_examples.proofs.Small.{Share, key_of, table}

-- One entry

abbrev remove_a : Request
remove_a = Single (Remove (codes "a"))

abbrev opening : BookData
opening = new_book 1 67108864 1073741824

abbrev one_entry : BookData
one_entry = with_asked 1 1 remove_a opening

abbrev full : Full
full = record { entries = 1; bytes = 1 }

module _ (agrees : FactAgrees) (sound : Fact → Type 0) where
  first_stands : IsStep agrees sound opening
      (record { event = Commit 1 1 remove_a; ending = Ok (Placed 0 Absent) }) one_entry
  first_stands = record {
    may = record { no_build = tt; few = tt };
    steps = record {
      asked = record { at = refl; room = record { entries = omega arith; text = omega arith }; left = refl };
      replied = refl;
    };
  }

  second_is_full : IsStep agrees sound one_entry
      (record { event = Commit 1 2 remove_a; ending = Err (Fault full) }) one_entry
  second_is_full = record {
    may = record { no_build = tt; few = tt };
    steps = record {
      full_is = record { entries = refl; bytes = refl; passed = inl (omega arith) };
      same = refl;
    };
  }

-- the first is not full, whatever is told
first_has_room : (told : Full) → IsFull opening.store remove_a told → ⊥
first_has_room told is = ⊎_elim (λ entries. absurd (omega (arith, entries)))
    (λ bytes. absurd (omega (arith, bytes))) is.passed

-- One byte

-- a part of a build whose plan has one page and no nodes
abbrev fact_of : Share → Part → Fact
fact_of any part = record {
  key = key_of part;
  plan = arc_with_value any (record {
    asked = [];
    value = Ok (record {
      nodes = [];
      scopes = [];
      pages = record {
        id = record { doc = codes "t.dita"; scope = 0; filters = []; affixes = [] };
        node = 0;
        name = codes "t.html";
      } ∷ [];
      targets = [];
      documents = codes "t.dita" ∷ [];
      faults = [];
    });
  });
  planned = 0;
  asked = [];
  html = None;
}

-- the table after a part is claimed and published
abbrev with_part : Share → TableData → Part → TableData
with_part any old part =
    published (claimed old (key_of part) 0 []) (next_claim old (key_of part) 0 []) (fact_of any part)

abbrev after_build : Share → TableData
after_build any =
    with_part any (with_part any (with_part any (new_table 1) parts.Plan) (parts.Page 0)) parts.Contents

none_is_kept : (any : Share) → after_build any ≡ table [] [] 3 3 1
none_is_kept any = refl

three_are_made : (any : Share) → made (after_build any) ≡ 3
three_are_made any = refl

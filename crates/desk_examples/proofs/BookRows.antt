-- The events of a book, one after the other: two documents are put and a build begins; its plan is claimed, and claimed
-- again while it is made; a document is put anew, and the plan is published; it is had for the first build, and for one
-- that begins later, over whose sources it agrees too.
use Rattle.std.proofs.Common.{◌≡◌, ◌+◌, ◌<◌, ◌≤◌, ℕ, zero, suc, List, [], ◌∷◌, ◌++◌, Some, None, Ok, Err, refl, length, slice_get, subst, sym, arith}
use Rattle.std.proofs.lemmas.Option.{none-some}
use Rattle.std.specs.Prelude.{codes}
use Rattle.std.specs.Arc.{arc_with_value}
use Rattle.std.specs.Str.{is_utf8, chars}
use lib.Utf8.{encode}
use Rattle.dita_doc.specs.Desk.{IsStored, State}
use Rattle.dita_doc.specs.History.{history_size}
use Rattle.dita_doc.specs.Pyx.{document_of}
use Rattle.dita_doc.specs.Request.{Request, Build, Put, Single, text_size}
use Rattle.dita_doc.specs.declared.fact.FactKey.{FactKey}
use Rattle.dita_doc.specs.declared.fact.Part.TheVariants as parts
use Rattle.dita_doc.specs.declared.plan.PlanStop.TheVariants as stops
use Rattle.desk_core.specs.Book.{BookData, SnapshotData, new_book, snapshot_of}
use Rattle.desk_core.specs.Events.{Begin, Begun, Claim, Claimed, Commit, Event, EventAnswer, Placed, Publish, Published}
use Rattle.desk_core.specs.Steps.{AreSteps, EventDone, IsSnapshotOf, IsStep}
use Rattle.facts.specs.Latest.{FactAgrees, Have, IsClaimAnswer, Taken, Yours}
use Rattle.facts.specs.Rows as rows
use Rattle.facts.specs.Rows.{RowData, Running}
use Rattle.facts.specs.Table.{claimed, published, row_of}
use Rattle.facts.specs.declared.fact.Fact.{Fact}
use Rattle.version_store.specs.Kept.{Fits, answered}
use Rattle.desk_examples.proofs.Small.{Share, key_of}

abbrev lf : List ℕ
lf = 10 ∷ []

abbrev good : List ℕ
good = codes "(p" ++ lf ++ codes ")p" ++ lf

abbrev put_m : Request
put_m = Single (Put (codes "m.ditamap") good)

abbrev put_t : Request
put_t = Single (Put (codes "t.dita") good)

-- The books

abbrev asked : BookData → ℕ → Request → BookData
asked book number request = record book { store = answered 1 number request book.store }

abbrev opening : BookData
opening = new_book 65536 67108864 1073741824

abbrev both_stored : BookData
both_stored = asked (asked opening 1 put_m) 2 put_t

abbrev begun : BookData
begun = asked both_stored 3 (Build (codes "m.ditamap") None)

-- what is stored at the place of the build
abbrev snapshot : SnapshotData
snapshot = snapshot_of both_stored.store

two_entries : snapshot.stamp ≡ 2
unfolding document_of is_utf8 chars encode
two_entries = refl

abbrev claim : Running
claim = record { serial = 1; key = key_of parts.Plan; stamp = 2; state = snapshot.state }

abbrev ticket : rows.Claim
ticket = record { serial = 1; key = key_of parts.Plan; stamp = 2 }

abbrev drawn : BookData
drawn = record begun { table = claimed begun.table (key_of parts.Plan) 2 snapshot.state }

abbrev put_again : BookData
put_again = asked drawn 4 put_t

-- a build without a plan
abbrev fact : Share → Fact
fact any = record {
  key = key_of parts.Plan;
  plan = arc_with_value any (record { asked = []; value = Err stops.NotMap });
  planned = 0;
  asked = [];
  html = None;
}

abbrev plan_row : Share → RowData
plan_row any = record { serial = 1; stamp = 2; rank = 1; mark = 1; bytes = 128; fact = fact any }

same_row : (any : Share) → row_of put_again.table claim (fact any) ≡ plan_row any
unfolding document_of is_utf8 chars encode
same_row any = refl

abbrev made_once : Share → BookData
made_once any = record put_again { table = published put_again.table claim (fact any) }

one_row : (any : Share) → (made_once any).table.rows ≡ plan_row any ∷ []
unfolding document_of is_utf8 chars encode
one_row any = refl

abbrev begun_again : Share → BookData
begun_again any = asked (made_once any) 5 (Build (codes "m.ditamap") None)

abbrev snapshot_again : Share → SnapshotData
snapshot_again any = snapshot_of (made_once any).store

four_entries : (any : Share) → (snapshot_again any).stamp ≡ 4
unfolding document_of is_utf8 chars encode
four_entries any = refl

-- The events

abbrev done : Event → EventAnswer → EventDone
done event answer = record { event = event; ending = Ok answer }

abbrev plan_key : FactKey
plan_key = key_of parts.Plan

abbrev events : Share → List EventDone
events any = done (Commit 1 1 put_m) (Placed 0 (IsStored 1)) ∷ done (Commit 1 2 put_t) (Placed 1 (IsStored 2))
    ∷ done (Begin 1 3 (codes "m.ditamap") None) (Begun 2 snapshot)
    ∷ done (Claim plan_key snapshot) (Claimed (Yours ticket)) ∷ done (Claim plan_key snapshot) (Claimed (Taken 1))
    ∷ done (Commit 1 4 put_t) (Placed 3 (IsStored 4)) ∷ done (Publish ticket (fact any)) (Published (plan_row any))
    ∷ done (Claim plan_key snapshot) (Claimed (Have (plan_row any)))
    ∷ done (Begin 1 5 (codes "m.ditamap") None) (Begun 4 (snapshot_again any))
    ∷ done (Claim plan_key (snapshot_again any)) (Claimed (Have (plan_row any))) ∷ []

at_most : {a b : ℕ} (m n : ℕ) → a ≡ m → b ≡ n → m ≤ n → a ≤ b
at_most m n a-is b-is low = omega arith

has_room : (old : BookData) (request : Request) (entries bytes : ℕ) → length old.store.history ≡ entries
    → history_size old.store.history + text_size request ≡ bytes → entries < old.store.entry_limit
    → bytes ≤ old.store.text_limit → Fits old.store request
has_room old request entries bytes entries-is bytes-is few short = record {
  entries = subst (λ n. n < old.store.entry_limit) (sym entries-is) few;
  text = subst (λ n. n ≤ old.store.text_limit) (sym bytes-is) short;
}

none_behind : (only found : RowData) (place : ℕ) → 1 ≤ place → slice_get (only ∷ []) place ≡ Some found → ⊥
none_behind only found zero low at = absurd (omega arith)
none_behind only found (suc place) low at = none-some found at

module _ (agrees : FactAgrees) (sound : Fact → Type 0) (any : Share) (is_sound : sound (fact any))
    (agreed : agrees (fact any) snapshot.state) (agreed_again : agrees (fact any) (snapshot_again any).state) where
  map_stored : IsStep agrees sound opening (done (Commit 1 1 put_m) (Placed 0 (IsStored 1))) (asked opening 1 put_m)
  unfolding document_of is_utf8 chars encode
  map_stored = record {
    may = record { no_build = tt; few = tt };
    steps = record {
      asked = record { at = refl; room = has_room opening put_m 0 15 refl refl (omega arith) (omega arith); left = refl };
      replied = refl;
    };
  }

  topic_stored : IsStep agrees sound (asked opening 1 put_m) (done (Commit 1 2 put_t) (Placed 1 (IsStored 2))) both_stored
  unfolding document_of is_utf8 chars encode
  topic_stored = record {
    may = record { no_build = tt; few = tt };
    steps = record {
      asked = record {
        at = refl;
        room = has_room (asked opening 1 put_m) put_t 1 27 refl refl (omega arith) (omega arith);
        left = refl;
      };
      replied = refl;
    };
  }

  build_begins : IsStep agrees sound both_stored
      (done (Begin 1 3 (codes "m.ditamap") None) (Begun 2 snapshot)) begun
  build_begins = record {
    may = tt;
    steps = record {
      asked = record {
        at = refl;
        room = has_room both_stored (Build (codes "m.ditamap") None) 2 36 refl refl (omega arith) (omega arith);
        left = refl;
      };
      taken = refl;
    };
  }

  -- the snapshot at the build's place, seen from a later history
  is_snapshot : IsSnapshotOf begun.store.history snapshot
  unfolding document_of is_utf8 chars encode
  is_snapshot = record { within = at_most 2 3 refl refl (omega arith); state = refl }

  plan_is_drawn : IsStep agrees sound begun (done (Claim plan_key snapshot) (Claimed (Yours ticket))) drawn
  unfolding document_of is_utf8 chars encode
  plan_is_drawn = record {
    may = is_snapshot;
    steps = record {
      answers = record {
        none_agrees = record { each = λ place found low at of fits. none-some found at };
        none_runs = λ claim runs. none-some claim runs.stands.1;
        drawn = refl;
      };
      left = refl;
    };
  }

  plan_is_taken : IsStep agrees sound drawn (done (Claim plan_key snapshot) (Claimed (Taken 1))) drawn
  unfolding document_of is_utf8 chars encode
  plan_is_taken = record {
    may = is_snapshot;
    steps = record {
      answers = record {
        none_agrees = record { each = λ place found low at of fits. none-some found at };
        claim = claim;
        runs = record { stands = (0, refl); of = refl; at = refl };
        number = refl;
      };
      left = refl;
    };
  }

  topic_stored_again : IsStep agrees sound drawn (done (Commit 1 4 put_t) (Placed 3 (IsStored 4))) put_again
  unfolding document_of is_utf8 chars encode
  topic_stored_again = record {
    may = record { no_build = tt; few = tt };
    steps = record {
      asked = record { at = refl; room = has_room drawn put_t 3 48 refl refl (omega arith) (omega arith); left = refl };
      replied = refl;
    };
  }

  plan_is_published : IsStep agrees sound put_again (done (Publish ticket (fact any)) (Published (plan_row any)))
      (made_once any)
  unfolding document_of is_utf8 chars encode
  plan_is_published = record {
    may = record {
      claim = claim;
      runs = record { stands = (0, refl); same = refl };
      key = refl;
      is_sound = is_sound;
      agreed = agreed;
      one_plan = λ other stands same. absurd (none-some other stands.1);
    };
    steps = record {
      claim = claim;
      runs = record { stands = (0, refl); same = refl };
      row_is = refl;
      left = refl;
    };
  }

  -- the only row, for sources with which it agrees
  is_had : (stamp : ℕ) (sources : State) → agrees (fact any) sources
      → IsClaimAnswer agrees (made_once any).table plan_key stamp sources (Have (plan_row any))
  unfolding document_of is_utf8 chars encode
  is_had stamp sources agreed_there = record {
    place = 0;
    stands = refl;
    of = refl;
    agreed = agreed_there;
    later = record { each = λ place found low at of again. none_behind (plan_row any) found place low at };
  }

  plan_is_had : IsStep agrees sound (made_once any) (done (Claim plan_key snapshot) (Claimed (Have (plan_row any))))
      (made_once any)
  unfolding document_of is_utf8 chars encode
  plan_is_had = record {
    may = record { within = at_most 2 4 refl refl (omega arith); state = refl };
    steps = record { answers = is_had snapshot.stamp snapshot.state agreed; left = refl };
  }

  build_begins_again : IsStep agrees sound (made_once any)
      (done (Begin 1 5 (codes "m.ditamap") None) (Begun 4 (snapshot_again any))) (begun_again any)
  build_begins_again = record {
    may = tt;
    steps = record {
      asked = record {
        at = refl;
        room = has_room (made_once any) (Build (codes "m.ditamap") None) 4 57 refl refl (omega arith) (omega arith);
        left = refl;
      };
      taken = refl;
    };
  }

  plan_is_had_again : IsStep agrees sound (begun_again any)
      (done (Claim plan_key (snapshot_again any)) (Claimed (Have (plan_row any)))) (begun_again any)
  unfolding document_of is_utf8 chars encode
  plan_is_had_again = record {
    may = record { within = at_most 4 5 refl refl (omega arith); state = refl };
    steps =
        record { answers = is_had (snapshot_again any).stamp (snapshot_again any).state agreed_again; left = refl };
  }

  all_steps : AreSteps agrees sound opening (events any) (begun_again any)
  all_steps = (
    asked opening 1 put_m,
    map_stored,
    (
      both_stored,
      topic_stored,
      (
        begun,
        build_begins,
        (
          drawn,
          plan_is_drawn,
          (
            drawn,
            plan_is_taken,
            (
              put_again,
              topic_stored_again,
              (
                made_once any,
                plan_is_published,
                (
                  made_once any,
                  plan_is_had,
                  (
                    begun_again any,
                    build_begins_again,
                    (
                      begun_again any,
                      plan_is_had_again,
                      refl,
                    ),
                  ),
                ),
              ),
            ),
          ),
        ),
      ),
    ),
  )

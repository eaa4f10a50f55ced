-- The row of a claim is put behind the others, and then the first ones go. Of the judgements those of its plan are
-- raised, and then those of dropped rows go.
use Rattle.std.proofs.Common.{◌≡◌, ◌∙◌, ◌+◌, ◌*◌, ◌<◌, ◌≤◌, ◌^◌, ℕ, List, ap, arith, length, refl, subst, sym}
use Rattle.std.specs.Arc.{arc_value}
use Rattle.std.specs.Vec.{with_items}
use Rattle.std.proofs.lemmas.List.{with_items_is}
use Rattle.facts.specs.Rows.{Claim, row_data}
use Rattle.facts.specs.Table.{others, value_bytes}
use Rattle.facts.specs.declared.fact.Fact.{Fact}
use Rattle.facts.specs.declared.row.Row.{Row}
use Rattle.fact_table.specs.Answers.{AreAmong, IsPublished, IsRunning}
use Rattle.fact_table.specs.Claims.{AreNamesOf, claims_seen}
use Rattle.fact_table.specs.Inside.{data_seen}
use Rattle.fact_table.specs.Noted.{AreRaised, judged_seen}
use Rattle.fact_table.specs.Seen.{TableSeen}
use Rattle.fact_table.specs.Shelf.{rows_seen}
use Rattle.fact_table.specs.declared.claims.RunningClaim.{RunningClaim}
use Rattle.fact_table.specs.declared.memo.Noted.{Noted}
use Rattle.fact_table.specs.declared.table.Table.TheInside.{Inside}
use Rattle.fact_table.proofs.PublishLaws.{IsDone, bytes_are, bytes_fit, done_publishes, done_row, given_is, has_room, key_is, knows_key, knows_left, knows_read, names_are, names_few, put_small, rank_drawn, serial_is}
use Rattle.fact_table.proofs.TableLaws.{Publishes, made_fits, publishes_data, publishes_judged, publishes_rows, publishes_table}
use Rattle.fact_table.proofs.table.Table.publish.Goals as goal

pub made-made-requires : goal.made-made-requires
made-made-requires c = made_fits c.self.inside c.self.invariant

pub overflow_add-rank : goal.overflow_add-rank
overflow_add-rank c =
    let old = c.self.inside in
    let running : IsRunning (claims_seen old.claims.items) c.args.ticket =
    subst (λ (t : TableSeen). IsRunning t.table.running c.args.ticket) (sym c.self.view_is) c.requires.runs in
    let drawn : old.shelf.dropped + length (rows_seen old.shelf) + 1 ≤ old.drawn =
    rank_drawn old running.0 c.self.invariant running.1.stands in
    let fits : old.drawn < 2 ^ 64 = c.self.invariant.words.drawn in
    omega (arith, c.made-made.ensures)

pub overflow_add-bytes : goal.overflow_add-bytes
overflow_add-bytes c = omega (arith, c.args.fact.small)

pub overflow_mul-bytes : goal.overflow_mul-bytes
overflow_mul-bytes c =
    let old = c.self.inside in
    let running : IsRunning (claims_seen old.claims.items) c.args.ticket =
    subst (λ (t : TableSeen). IsRunning t.table.running c.args.ticket) (sym c.self.view_is) c.requires.runs in
    let serial : c.ticket.inside.serial ≡ c.args.ticket.serial = ap (λ (t : Claim). t.serial) c.ticket.view_is in
    let few : length running.0.state ≤ 2 ^ 48 = names_few old running.0 c.self.invariant running.1.stands in
    let names : c.names_of-names.result ≡ length running.0.state =
    names_are old running.0 c.self.invariant running.1.stands c.ticket.inside.serial c.names_of-names.result
    (serial_is c.args.ticket running.0 running.1.same ∙ sym serial)
    (subst (λ (all : List RunningClaim). AreNamesOf (claims_seen all) c.ticket.inside.serial c.names_of-names.result)
    c.deref.ensures.value c.names_of-names.ensures) in
    omega arith

pub overflow_add-bytes-2 : goal.overflow_add-bytes-2
overflow_add-bytes-2 c =
    let old = c.self.inside in
    let running : IsRunning (claims_seen old.claims.items) c.args.ticket =
    subst (λ (t : TableSeen). IsRunning t.table.running c.args.ticket) (sym c.self.view_is) c.requires.runs in
    let serial : c.ticket.inside.serial ≡ c.args.ticket.serial = ap (λ (t : Claim). t.serial) c.ticket.view_is in
    let few : length running.0.state ≤ 2 ^ 48 = names_few old running.0 c.self.invariant running.1.stands in
    let names : c.names_of-names.result ≡ length running.0.state =
    names_are old running.0 c.self.invariant running.1.stands c.ticket.inside.serial c.names_of-names.result
    (serial_is c.args.ticket running.0 running.1.same ∙ sym serial)
    (subst (λ (all : List RunningClaim). AreNamesOf (claims_seen all) c.ticket.inside.serial c.names_of-names.result)
    c.deref.ensures.value c.names_of-names.ensures) in
    omega (arith, c.args.fact.small)

pub put-requires : goal.put-requires
put-requires c =
    let old = c.self.inside in
    let running : IsRunning (claims_seen old.claims.items) c.args.ticket =
    subst (λ (t : TableSeen). IsRunning t.table.running c.args.ticket) (sym c.self.view_is) c.requires.runs in
    let fits : old.shelf.bytes ≤ old.limit = bytes_fit old running.0 c.self.invariant running.1.stands in
    let limit : old.limit < 2 ^ 64 = c.self.invariant.words.limit in
    record {
      shelf = c.self.invariant.shelf;
      rank = ap (λ (n : ℕ). n + 1) c.made-made.ensures;
      known = knows_key old running.0 c.self.invariant running.1.stands (arc_value c.args.fact.kept).key
          (key_is c.args.ticket running.0 running.1.same ∙ sym c.requires.key);
      room = has_room old running.0 c.self.invariant running.1.stands;
      small = omega arith;
    }

pub fit-requires : goal.fit-requires
fit-requires c =
    let old = c.self.inside in
    let running : IsRunning (claims_seen old.claims.items) c.args.ticket =
    subst (λ (t : TableSeen). IsRunning t.table.running c.args.ticket) (sym c.self.view_is) c.requires.runs in
    record {
      shelf = c.put.ensures.shelf;
      known = knows_left old c.put.new.self.newest c.end.new.claims.items c.deref-2.result.now c.ticket.inside.serial
          c.self.invariant c.end.ensures c.deref-2.ensures.value c.put.ensures.known;
      small = put_small old running.0 c.self.invariant running.1.stands c.put.new.self _ c.put.ensures.rows
          c.put.ensures.dropped c.self.invariant.words.drawn;
    }

pub invariant_of-self : goal.invariant_of-self
invariant_of-self c =
    let old = c.self.inside in
    let fact : Fact = arc_value c.args.fact.kept in
    let names : ℕ = c.names_of-names.result in
    let new : Inside = record {
      shelf = c.fit.new.self;
      claims = c.end.new.claims;
      memo = c.forget.new.memo;
      drawn = old.drawn;
      limit = old.limit;
    } in
    let kept : Row = record {
      serial = c.ticket.inside.serial;
      stamp = c.ticket.inside.stamp;
      rank = c.made-made.result + 1;
      mark = old.drawn;
      bytes = c.args.fact.bytes + 64 + 32 * names;
      fact = c.args.fact.kept;
    } in
    let raised : List Noted = (with_items old.memo c.raise.new.memo).items in
    let serial : c.ticket.inside.serial ≡ c.args.ticket.serial = ap (λ (t : Claim). t.serial) c.ticket.view_is in
    let running : IsRunning (claims_seen old.claims.items) c.args.ticket =
    subst (λ (t : TableSeen). IsRunning t.table.running c.args.ticket) (sym c.self.view_is) c.requires.runs in
    let done : IsDone old new c.args.ticket fact (row_data kept) c.put.new.self names c.plan_of.result raised = record {
      claims = c.end.ensures ∙ ap (λ (n : ℕ). others n (claims_seen old.claims.items)) serial;
      serial = serial;
      stamp = ap (λ (t : Claim). t.stamp) c.ticket.view_is;
      rank = ap (λ (n : ℕ). n + 1) c.made-made.ensures;
      mark = refl;
      names_of = subst (λ (n : ℕ). AreNamesOf (claims_seen old.claims.items) n names) serial
          (subst (λ (all : List RunningClaim). AreNamesOf (claims_seen all) c.ticket.inside.serial names)
          c.deref.ensures.value c.names_of-names.ensures);
      bytes = ap (λ (n : ℕ). n + 64 + 32 * names)
          (bytes_are c.args.fact.bytes (value_bytes fact) c.args.fact.measured);
      fact_is = refl;
      put_rows = c.put.ensures.rows;
      put_dropped = c.put.ensures.dropped;
      put_capacity = c.put.ensures.capacity;
      shelf = c.fit.ensures.shelf;
      known = knows_read c.fit.new.self.newest c.end.new.claims.items c.deref-2.result.now c.deref-2.ensures.value
          c.fit.ensures.known;
      rows = c.fit.ensures.rows;
      made_is = c.fit.ensures.made;
      capacity = c.fit.ensures.capacity;
      plan_is = c.plan_of.ensures;
      are_raised = subst (AreRaised c.plan_of.result (c.made-made.result + 1) old.memo.items)
          (sym (with_items_is old.memo c.raise.new.memo (omega arith)))
          (subst (λ (all : List Noted). AreRaised c.plan_of.result (c.made-made.result + 1) all c.raise.new.memo)
          c.deref_mut.ensures.value c.raise.ensures);
      memo = c.forget.ensures;
      drawn = refl;
      limit = refl;
    } in
    let publishes : Publishes old new running.0 fact = done_publishes old new c.args.ticket fact (row_data kept) c.put.new.self
    names c.plan_of.result raised c.self.invariant running done in
    publishes_table old new running.0 fact c.self.invariant publishes

pub returns : goal.returns
returns c =
    let old = c.self.inside in
    let fact : Fact = arc_value c.args.fact.kept in
    let names : ℕ = c.names_of-names.result in
    let new : Inside = record {
      shelf = c.fit.new.self;
      claims = c.end.new.claims;
      memo = c.forget.new.memo;
      drawn = old.drawn;
      limit = old.limit;
    } in
    let kept : Row = record {
      serial = c.ticket.inside.serial;
      stamp = c.ticket.inside.stamp;
      rank = c.made-made.result + 1;
      mark = old.drawn;
      bytes = c.args.fact.bytes + 64 + 32 * names;
      fact = c.args.fact.kept;
    } in
    let raised : List Noted = (with_items old.memo c.raise.new.memo).items in
    let serial : c.ticket.inside.serial ≡ c.args.ticket.serial = ap (λ (t : Claim). t.serial) c.ticket.view_is in
    let running : IsRunning (claims_seen old.claims.items) c.args.ticket =
    subst (λ (t : TableSeen). IsRunning t.table.running c.args.ticket) (sym c.self.view_is) c.requires.runs in
    let done : IsDone old new c.args.ticket fact (row_data kept) c.put.new.self names c.plan_of.result raised = record {
      claims = c.end.ensures ∙ ap (λ (n : ℕ). others n (claims_seen old.claims.items)) serial;
      serial = serial;
      stamp = ap (λ (t : Claim). t.stamp) c.ticket.view_is;
      rank = ap (λ (n : ℕ). n + 1) c.made-made.ensures;
      mark = refl;
      names_of = subst (λ (n : ℕ). AreNamesOf (claims_seen old.claims.items) n names) serial
          (subst (λ (all : List RunningClaim). AreNamesOf (claims_seen all) c.ticket.inside.serial names)
          c.deref.ensures.value c.names_of-names.ensures);
      bytes = ap (λ (n : ℕ). n + 64 + 32 * names)
          (bytes_are c.args.fact.bytes (value_bytes fact) c.args.fact.measured);
      fact_is = refl;
      put_rows = c.put.ensures.rows;
      put_dropped = c.put.ensures.dropped;
      put_capacity = c.put.ensures.capacity;
      shelf = c.fit.ensures.shelf;
      known = knows_read c.fit.new.self.newest c.end.new.claims.items c.deref-2.result.now c.deref-2.ensures.value
          c.fit.ensures.known;
      rows = c.fit.ensures.rows;
      made_is = c.fit.ensures.made;
      capacity = c.fit.ensures.capacity;
      plan_is = c.plan_of.ensures;
      are_raised = subst (AreRaised c.plan_of.result (c.made-made.result + 1) old.memo.items)
          (sym (with_items_is old.memo c.raise.new.memo (omega arith)))
          (subst (λ (all : List Noted). AreRaised c.plan_of.result (c.made-made.result + 1) all c.raise.new.memo)
          c.deref_mut.ensures.value c.raise.ensures);
      memo = c.forget.ensures;
      drawn = refl;
      limit = refl;
    } in
    let publishes : Publishes old new running.0 fact = done_publishes old new c.args.ticket fact (row_data kept) c.put.new.self
    names c.plan_of.result raised c.self.invariant running done in
    let given : Row = record {
      serial = c.ticket.inside.serial;
      stamp = c.ticket.inside.stamp;
      rank = c.made-made.result + 1;
      mark = old.drawn;
      bytes = c.args.fact.bytes + 64 + 32 * names;
      fact = c.args.fact.given;
    } in
    record {
      published = subst
          (λ (t : TableSeen). IsPublished c.args.ticket fact t.table (row_data given) (data_seen new)) c.self.view_is
          (record {
            claim = running.0;
            runs = running.1;
            row_is = done_row old new c.args.ticket fact (row_data kept) c.put.new.self names c.plan_of.result raised
                c.self.invariant running done (row_data given) refl refl refl refl refl
                (given_is fact (arc_value c.args.fact.given) c.args.fact.same);
            left = publishes_data old new running.0 fact c.self.invariant publishes;
          });
      judged = subst (λ (t : TableSeen). AreAmong (judged_seen c.forget.new.memo.items) t.judged) c.self.view_is
          (publishes_judged old new running.0 fact c.self.invariant publishes);
      rows = publishes_rows old new running.0 fact c.self.invariant publishes;
    }

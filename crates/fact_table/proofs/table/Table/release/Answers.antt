use Rattle.std.proofs.Common.{◌≡◌, ◌∙◌, ℕ, ap, refl, subst, sym}
use Rattle.facts.specs.Rows.{Claim}
use Rattle.facts.specs.Table.{others, released}
use Rattle.fact_table.specs.Answers.{IsRunning}
use Rattle.fact_table.specs.Claims.{claims_seen}
use Rattle.fact_table.specs.Inside.{data_seen}
use Rattle.fact_table.specs.Seen.{TableSeen}
use Rattle.fact_table.specs.declared.table.Table.TheInside.{Inside}
use Rattle.fact_table.proofs.PublishLaws.{knows_left, knows_read, serial_is}
use Rattle.fact_table.proofs.TableLaws.{Releases, releases_data, releases_table}
use Rattle.fact_table.proofs.table.Table.release.Goals as goal

pub forget-requires : goal.forget-requires
forget-requires c =
    let old = c.self.inside in
    record {
      shelf = c.self.invariant.shelf;
      known = knows_left old old.shelf.newest c.end.new.claims.items c.deref.result.now c.ticket.inside.serial
          c.self.invariant c.end.ensures c.deref.ensures.value (λ key known. known);
    }

pub invariant_of-self : goal.invariant_of-self
invariant_of-self c =
    let old = c.self.inside in
    let ticket = c.args.ticket in
    let new : Inside = record {
      shelf = c.forget.new.self;
      claims = c.end.new.claims;
      memo = old.memo;
      drawn = old.drawn;
      limit = old.limit;
    } in
    let running : IsRunning (claims_seen old.claims.items) ticket =
    subst (λ (t : TableSeen). IsRunning t.table.running ticket) (sym c.self.view_is) c.requires in
    let serial : c.ticket.inside.serial ≡ ticket.serial = ap (λ (t : Claim). t.serial) c.ticket.view_is in
    let releases : Releases old new running.0 = record {
      runs = running.1.stands;
      claims = c.end.ensures
          ∙ ap (λ (n : ℕ). others n (claims_seen old.claims.items))
          (serial ∙ sym (serial_is ticket running.0 running.1.same));
      shelf = c.forget.ensures.shelf;
      rows = c.forget.ensures.rows;
      dropped = c.forget.ensures.dropped;
      known = knows_read c.forget.new.self.newest c.end.new.claims.items c.deref.result.now c.deref.ensures.value
          c.forget.ensures.known;
      len = c.forget.ensures.len;
      capacity = c.forget.ensures.capacity;
      drawn = refl;
      limit = refl;
      memo = refl;
    } in
    releases_table old new running.0 c.self.invariant releases

pub returns-clause-left : goal.returns-clause-left
returns-clause-left c =
    let old = c.self.inside in
    let ticket = c.args.ticket in
    let new : Inside = record {
      shelf = c.forget.new.self;
      claims = c.end.new.claims;
      memo = old.memo;
      drawn = old.drawn;
      limit = old.limit;
    } in
    let running : IsRunning (claims_seen old.claims.items) ticket =
    subst (λ (t : TableSeen). IsRunning t.table.running ticket) (sym c.self.view_is) c.requires in
    let serial : c.ticket.inside.serial ≡ ticket.serial = ap (λ (t : Claim). t.serial) c.ticket.view_is in
    let releases : Releases old new running.0 = record {
      runs = running.1.stands;
      claims = c.end.ensures
          ∙ ap (λ (n : ℕ). others n (claims_seen old.claims.items))
          (serial ∙ sym (serial_is ticket running.0 running.1.same));
      shelf = c.forget.ensures.shelf;
      rows = c.forget.ensures.rows;
      dropped = c.forget.ensures.dropped;
      known = knows_read c.forget.new.self.newest c.end.new.claims.items c.deref.result.now c.deref.ensures.value
          c.forget.ensures.known;
      len = c.forget.ensures.len;
      capacity = c.forget.ensures.capacity;
      drawn = refl;
      limit = refl;
      memo = refl;
    } in
    releases_data old new running.0 releases
    ∙ ap (λ (n : ℕ). released (data_seen old) n) (serial_is ticket running.0 running.1.same)
    ∙ ap (λ (t : TableSeen). released t.table ticket.serial) c.self.view_is

pub returns-clause-judged : goal.returns-clause-judged
returns-clause-judged c = ap (λ (t : TableSeen). t.judged) c.self.view_is

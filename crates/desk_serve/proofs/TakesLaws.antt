-- Whoever takes sessions in, one after the other.
use Rattle.std.proofs.Common.{◌≡◌, ◌++◌, List, [], ◌∷◌, append-nil, append_assoc, flat_map, refl, sym, ap, ◌∙◌, subst}
use Rattle.std.proofs.lemmas.List.Concat.{flat_map-append}
use Rattle.facts.specs.Rows.{RowData, Stands}
use Rattle.desk_lock.specs.Calls.{Joins}
use Rattle.desk_lock.specs.Knows.{with_session}
use Rattle.desk_lock.specs.Lists.{Each, StartsWith}
use Rattle.desk_lock.specs.declared.view.View.{View}
use Rattle.desk_work.proofs.Lists.{each_append, each_from, each_onward, stands_left, stands_right, starts_then}
use Rattle.desk_serve.specs.Sessions.{TakesIn, brought}

pub takes_none : (v : View) → TakesIn v [] v
takes_none v = record { limits = refl; mine = refl; theirs = sym (append-nil v.theirs); seen = tt; rows = tt }

pub takes_more : (v w new : View) (others : List View) (other : View) → TakesIn v others w → Joins w other new
    → TakesIn v (others ++ other ∷ []) new
takes_more v w new others other takes joins = record {
  limits = ap (λ (u : View). u.limits) joins.knows ∙ takes.limits;
  mine = ap (λ (u : View). u.mine) joins.knows ∙ takes.mine;
  theirs = ap (λ (u : View). u.theirs) joins.knows
      ∙ append_assoc w.theirs other.theirs (with_session other.session other.mine)
      ∙ ap (λ list. list ++ brought other) takes.theirs
      ∙ append_assoc v.theirs (flat_map brought others) (brought other)
      ∙ ap (λ list. v.theirs ++ list) (sym (flat_map-append brought others (other ∷ [])
      ∙ ap (λ list. flat_map brought others ++ list) (append-nil (brought other))));
  seen = each_append (λ (u : View). StartsWith new.seen u.seen) others (other ∷ [])
      (each_onward (λ (u : View). StartsWith w.seen u.seen) (λ (u : View). StartsWith new.seen u.seen) others
      (λ u starts. starts_then new.seen w.seen u.seen joins.later starts) takes.seen) (joins.too, tt);
  rows = each_append (λ (u : View). Each (Stands new.rows) u.rows) others (other ∷ [])
      (each_onward (λ (u : View). Each (Stands w.rows) u.rows) (λ (u : View). Each (Stands new.rows) u.rows) others
      (λ u each. each_onward (Stands w.rows) (Stands new.rows) u.rows
      (λ row stands. all_rows row (stands_left w.rows other.rows row stands)) each) takes.rows)
      (each_from (Stands new.rows) other.rows (λ k row at. all_rows row (stands_right w.rows other.rows row (k, at))), tt);
}
  where
    all_rows : (row : RowData) → Stands (w.rows ++ other.rows) row → Stands new.rows row
    all_rows row stands =
        subst (λ (list : List RowData). Stands list row) (sym (ap (λ (u : View). u.rows) joins.knows)) stands

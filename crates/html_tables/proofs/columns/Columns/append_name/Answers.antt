use Rattle.std.proofs.Common.{refl, string_bytes, sym, ◌∙◌}
use Rattle.std.specs.BTreeMap.{get_by_text}
use Rattle.std.proofs.lemmas.Map.Text.{btree_map_updates_text}
use Rattle.html_tables.proofs.ColumnLaws.{place_kept, place_taken}
use Rattle.html_tables.proofs.columns.Columns.append_name.Goals as goal

pub returns-then-contains_key : goal.returns-then-contains_key
returns-then-contains_key c = record {
  count = refl;
  places = λ other. place_kept (get_by_text c.args.self.now.places) c.args.name.now other _
      (sym c.if-contains_key.ensures);
}

pub returns : goal.returns
returns c =
    let sets = btree_map_updates_text (string_bytes c.in_ok-key.key) c.args.self.now.places c.insert.new.self _
    c.in_ok-insert.ensures.updates in
    let named = rw c.in_ok-key.ensures.ok at sets in
    record {
      count = refl;
      places = λ other. named other
          ∙ place_taken (get_by_text c.args.self.now.places) c.args.name.now other _ (sym c.if-contains_key.ensures);
    }

-- Rows by their first texts; and the rows of a loop, one by one.
use Rattle.std.specs.Prelude.{◌≡◌, ◌&&◌, ◌++◌, ℕ, suc, Bool, true, false, cond, List, [], ◌∷◌, Option, Some, None, bytes_eq, filter, length, map, max, slice_get, unwrap_or, if◌then◌else◌}
use Rattle.std.specs.BTreeMap.{insert_entry, is_at}
use Rattle.std.specs.BTreeSet.{insert_key}
use Rattle.std.specs.Cmp.Lexicographic.{texts_ties}
use Rattle.std.specs.List.{All, cons_option, filter_map, flat_map, fold, list_all}
use Rattle.std.specs.Map.{keys_of, lookup}
use Rattle.std.specs.Option.{option_map_or}
use Rattle.std.specs.Ordering.{is_eq, match_ordering, nat_cmp}
use Rattle.std.specs.declared.cmp.Ordering.{Ordering}
use Rattle.std.specs.declared.cmp.Ordering.TheVariants.{Less, Equal, Greater}
use Rattle.std.specs.declared.alloc.Global.{Global}
use Rattle.std.specs.declared.vec.Vec.{Vec}
use Rattle.std.proofs.Common.{◌+◌, ◌<◌, add-one, append-nil, append_assoc, ap, drop, drop-cons, get_or, refl, sym, ◌∙◌}
use Rattle.std.proofs.lemmas.List.{map-append}
use Rattle.std.proofs.lemmas.List.Elements.{All-head, All-tail}
use Rattle.std.proofs.lemmas.Slice.Eq.{bytes_eq-Decides}
use Rattle.dita_doc.specs.TextOrder.{text_cmp}
use Rattle.dita_doc.specs.declared.content.TermEntry.{TermEntry}
use Rattle.html_spec.specs.Terms.{IndexPages, below, ends, entry_behind, first_text, item, items_of}
use Rattle.index_page.specs.Groups.{AreGroups, Groups, if_there, listed}
use Rattle.index_page.specs.Rows.{all_end, entries_of, entry_of}
use Rattle.index_page.specs.Walk.{entry_at}
use Rattle.index_page.specs.declared.rows.TermRow.{TermRow}

-- Puts

-- the keys after an insert
pub keys_put : {K X : Type 0} (order : K → K → Ordering) (es : List (K × X)) (k : K) (v : X)
    → keys_of (insert_entry order es k v) ≡ insert_key order (keys_of es) k
keys_put order [] k v = refl
keys_put {K} {X} order (e ∷ es) k v =
    by (order k e.0)
    ∙ ap (λ l. match_ordering (order k e.0) (k ∷ e.0 ∷ keys_of es) (e.0 ∷ keys_of es) (e.0 ∷ l)) (keys_put order es k v)
  where
    by : (o : Ordering) → keys_of (match_ordering o ((k, v) ∷ e ∷ es) ((e.0, v) ∷ es) (e ∷ insert_entry order es k v))
        ≡ match_ordering o (k ∷ e.0 ∷ keys_of es) (e.0 ∷ keys_of es) (e.0 ∷ keys_of (insert_entry order es k v))
    by Less = refl
    by Equal = refl
    by Greater = refl

abbrev if_some : Bool → TermEntry → Option TermEntry
if_some b entry = if b then Some entry else None

-- texts that compare alike are the same
pub text_same : (one other : List ℕ) → is_eq (text_cmp one other) ≡ true → one ≡ other
text_same one other is = (bytes_eq-Decides one other).0 (texts_ties one other ∙ is)

-- what is listed after a put
pub listed_put : (old new : Groups) (text : List ℕ) (row : TermRow) (first after none : Vec TermRow Global)
    → first ≡ unwrap_or (lookup (is_at (text_cmp text)) old) none → none.items ≡ []
    → after.items ≡ first.items ++ row ∷ [] → (other : List ℕ)
    → lookup (is_at (text_cmp other)) new
    ≡ cond (is_eq (text_cmp text other)) (Some after) (lookup (is_at (text_cmp other)) old)
    → listed other new ≡ listed other old ++ if_there other text row
listed_put old new text row first after none begun empty pushed other found =
    ap (λ there. option_map_or items there []) found ∙ by (is_eq (text_cmp text other)) refl
  where
    items : Vec TermRow Global → List TermRow
    items rows = rows.items

    list_or : (there : Option (Vec TermRow Global)) → items (unwrap_or there none) ≡ option_map_or items there []
    list_or None = empty
    list_or (Some rows) = refl

    by : (b : Bool) → is_eq (text_cmp text other) ≡ b
        → option_map_or items (cond b (Some after) (lookup (is_at (text_cmp other)) old)) []
        ≡ listed other old ++ (if b then row ∷ [] else [])
    by true is =
        pushed
        ∙ ap (λ l. l ++ row ∷ []) (ap items begun ∙ list_or (lookup (is_at (text_cmp text)) old)
        ∙ ap (λ key. listed key old) (text_same text other is))
    by false is = sym (append-nil (listed other old))

-- the first of those that are left
pub row_at : (rows : List TermRow) (at : ℕ) (row : TermRow) → at < length rows → row ≡ get_or rows at row
    → drop at rows ≡ row ∷ drop (at + 1) rows
row_at rows at row within is =
    rw (add-one, drop-cons rows at row) (ap (λ first. first ∷ drop (suc at) rows) (sym is))

-- What a loop over rows has left

abbrev pub with_texts : List (List ℕ) → List TermRow → List (List ℕ)
with_texts done rows = fold (insert_key text_cmp) done (filter_map first_text (entries_of rows))

abbrev pub with_rows : Groups → List TermRow → List ℕ → List TermEntry
with_rows groups rows text = entries_of (listed text groups) ++ below text (entries_of rows)

abbrev pub with_pages : List ℕ → List TermRow → List ℕ
with_pages done rows =
    fold (insert_key nat_cmp) done (map (λ (entry : TermEntry). entry.page) (filter ends (entries_of rows)))

abbrev pub with_levels : ℕ → List TermRow → ℕ
with_levels most rows = fold (λ most (entry : TermEntry). max most (length entry.path)) most (entries_of rows)

module _ (row : TermRow) (more : List TermRow) (text : List ℕ) (path : List (List ℕ))
    (goes : row.path.now ≡ text ∷ path) where
  pub text_step : (done after : List (List ℕ)) → after ≡ insert_key text_cmp done text
      → with_texts after more ≡ with_texts done (row ∷ more)
  text_step done after put =
      ap (λ l. with_texts l more) put
      ∙ sym (ap (λ p. fold (insert_key text_cmp) done (cons_option (slice_get p 0) (filter_map first_text (entries_of more))))
      goes)

  behind_by : (other : List ℕ) → entry_behind other (entry_of row) ≡ if_some (bytes_eq text other) (entry_at row.page path)
  behind_by other = ap (λ p. entry_behind other (entry_at row.page p)) goes ∙ by (bytes_eq text other)
    where
      by : (b : Bool) → option_map_or (λ p. Some (entry_at row.page p)) (if b then Some path else None) None
          ≡ if_some b (entry_at row.page path)
      by true = refl
      by false = refl

  -- the row behind its first text is put there
  pub row_step : (old new : Groups) (behind : TermRow) → behind.path.now ≡ path → behind.page ≡ row.page
      → ((other : List ℕ) → listed other new ≡ listed other old ++ if_there other text behind)
      → (other : List ℕ) → with_rows new more other ≡ with_rows old (row ∷ more) other
  row_step old new behind paths pages put other =
      let later = below other (entries_of more) in
      let before = listed other old in
      ap (λ l. entries_of l ++ later) (put other)
      ∙ ap (λ b. entries_of (before ++ (if b then behind ∷ [] else [])) ++ later) (sym (texts_ties text other))
      ∙ by (bytes_eq text other)
      ∙ ap (λ found. entries_of before ++ cons_option found later) (sym (behind_by other))
    where
      by : (b : Bool) → entries_of (listed other old ++ (if b then behind ∷ [] else [])) ++ below other (entries_of more)
          ≡ entries_of (listed other old)
          ++ cons_option (if_some b (entry_at row.page path)) (below other (entries_of more))
      by true =
          ap (λ l. l ++ below other (entries_of more)) (map-append entry_of (listed other old) (behind ∷ []))
          ∙ append_assoc (entries_of (listed other old)) (entry_of behind ∷ []) (below other (entries_of more))
          ∙ (λ i. entries_of (listed other old) ++ entry_at (pages i) (paths i) ∷ below other (entries_of more))
      by false =
          ap (λ l. l ++ below other (entries_of more)) (map-append entry_of (listed other old) [])
          ∙ append_assoc (entries_of (listed other old)) [] (below other (entries_of more))

-- a row that ends here stands below no text
module _ (row : TermRow) (more : List TermRow) (none : row.path.now ≡ []) where
  pub text_kept : (done : List (List ℕ)) → with_texts done more ≡ with_texts done (row ∷ more)
  text_kept done =
      sym (ap (λ p. fold (insert_key text_cmp) done (cons_option (slice_get p 0) (filter_map first_text (entries_of more))))
      none)

  pub row_kept : (groups : Groups) (other : List ℕ) → with_rows groups more other ≡ with_rows groups (row ∷ more) other
  row_kept groups other =
      sym (ap (λ p. entries_of (listed other groups)
      ++ cons_option (entry_behind other (entry_at row.page p)) (below other (entries_of more))) none)

-- that all end here
pub ends_all : (rows : List TermRow) → all_end rows ≡ list_all ends (entries_of rows)
ends_all [] = refl
ends_all (row ∷ rows) = ap (λ b. ends (entry_of row) && b) (ends_all rows)

-- Pages

pub page_step : (row : TermRow) (more : List TermRow) (done after : List ℕ) → ends (entry_of row) ≡ true
    → after ≡ insert_key nat_cmp done row.page → with_pages after more ≡ with_pages done (row ∷ more)
page_step row more done after is put =
    ap (λ l. with_pages l more) put
    ∙ sym (ap (λ b. fold (insert_key nat_cmp) done (map (λ (entry : TermEntry). entry.page)
    (if b then entry_of row ∷ filter ends (entries_of more) else filter ends (entries_of more)))) is)

pub page_kept : (row : TermRow) (more : List TermRow) (done : List ℕ) → ends (entry_of row) ≡ false
    → with_pages done more ≡ with_pages done (row ∷ more)
page_kept row more done is =
    sym (ap (λ b. fold (insert_key nat_cmp) done (map (λ (entry : TermEntry). entry.page)
    (if b then entry_of row ∷ filter ends (entries_of more) else filter ends (entries_of more)))) is)

-- Items

-- what is written of groups, each below its text
abbrev pub written : (List ℕ → List TermEntry → List ℕ) → Groups → List ℕ
written form groups = flat_map (λ (group : List ℕ × Vec TermRow Global). form group.0 (entries_of group.1.items)) groups

written_all : (form : List ℕ → List TermEntry → List ℕ) (entries : List TermEntry) (all : Groups)
    → ((text : List ℕ) → entries_of (listed text all) ≡ below text entries) → (groups : Groups)
    → All (λ (group : List ℕ × Vec TermRow Global). lookup (is_at (text_cmp group.0)) all ≡ Some group.1) groups
    → written form groups ≡ flat_map (λ text. form text (below text entries)) (keys_of groups)
written_all form entries all are [] found = refl
written_all form entries all are (group ∷ groups) found =
    let Found = λ (group : List ℕ × Vec TermRow Global). lookup (is_at (text_cmp group.0)) all ≡ Some group.1 in
    let here : lookup (is_at (text_cmp group.0)) all ≡ Some group.1 = All-head Found group groups found in
    let rows : entries_of group.1.items ≡ below group.0 entries =
    ap (λ (found : Option (Vec TermRow Global)).
    entries_of (option_map_or (λ (rows : Vec TermRow Global). rows.items) found [])) (sym here)
    ∙ are group.0 in
    (λ i. form group.0 (rows i) ++ written_all form entries all are groups (All-tail Found group groups found) i)

-- the items of a level
pub items_written : (pages : IndexPages) (levels : ℕ) (entries : List TermEntry) (groups : Groups)
    → AreGroups groups entries
    → All (λ (group : List ℕ × Vec TermRow Global). lookup (is_at (text_cmp group.0)) groups ≡ Some group.1) groups
    → written (item pages (items_of levels pages)) groups ≡ items_of (suc levels) pages entries
items_written pages levels entries groups are found =
    written_all (item pages (items_of levels pages)) entries groups are.rows groups found
    ∙ ap (flat_map (λ text. item pages (items_of levels pages) text (below text entries))) are.texts

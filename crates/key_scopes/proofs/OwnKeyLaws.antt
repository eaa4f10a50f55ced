-- The keys of scopes: one entry more, and those of all nodes.
use Rattle.std.specs.Prelude.{◌≡◌, ◌+◌, ◌<◌, ◌≤◌, ◌==◌, ◌++◌, ℕ, zero, suc, Bool, true, false, not, List, [], ◌∷◌, Option, Some, None, bytes_eq, filter, is_some, length, map, nat_lt, take, if◌then◌else◌}
use Rattle.std.specs.List.{flat_map, list_any}
use Rattle.std.proofs.Common.{refl, sym, ap, ◌∙◌, arith, append-nil, get_or, set}
use Rattle.std.specs.Map.{lookup}
use Rattle.std.proofs.lemmas.Bool.{false≢true}
use Rattle.std.proofs.lemmas.Bool.Decides.{nat_tests}
use Rattle.std.proofs.lemmas.Grind.{flat_map-append}
use Rattle.std.proofs.lemmas.List.{get_or-map, length-map, take_more}
use Rattle.std.proofs.lemmas.List.Elements.{filter-append}
use Rattle.indexmap.specs.IndexMap.{IndexMap, get, insert_entry}
use Rattle.indexmap.proofs.CallerLemmas.{insert_entry-new}
use Rattle.dita_doc.specs.declared.plan.PlanNode.{PlanNode}
use Rattle.dita_doc.proofs.Tests.{equal_text, same_text, text_swaps}
use Rattle.key_scopes.specs.Defined.{is_level_within}
use Rattle.key_scopes.specs.Numbered.{KeyEntry, entries, entries_at, entry, entry_of, level_at}
use Rattle.key_scopes.specs.OwnKeys.{KeyPlace, by_level, first_of_each, in_scope, is_at, is_of, key_place, keys_at, numbers, own_definitions, own_keys, rows_by, rows_of, with_entry, with_key, with_key_at}
use Rattle.key_scopes.proofs.DefineLaws.{WrittenKey}
use Rattle.key_scopes.proofs.LevelLaws.{map_both, through}
use Rattle.key_scopes.proofs.OwnLaws.{level_is}
use Rattle.map_spec.specs.Scopes.{is_at_level, is_in_scope, keys_defined, places, places_from, scope_at, scopes}
use Rattle.plan_nodes.proofs.OnceLaws.{firsts, firsts_push}
use Rattle.reader_spec.specs.World.{World}

abbrev pub Keys : Type 0 → Type 0
Keys S = IndexMap (List ℕ) ℕ S

-- The first of each key, one more

abbrev same_key : KeyPlace → KeyPlace → Bool
same_key a b = bytes_eq a.0 b.0

same_keys : (a b c : KeyPlace) → same_key a b ≡ true → same_key b c ≡ true → same_key a c ≡ true
same_keys a b c one two = equal_text a.0 c.0 (same_text a.0 b.0 one ∙ same_text b.0 c.0 two)

once_is : (all : List KeyPlace) → first_of_each all ≡ firsts same_key same_keys all
once_is [] = refl
once_is (first ∷ all) = ap (λ more. first ∷ filter (λ other. not (same_key first other)) more) (once_is all)

once_more : (all : List KeyPlace) (one : KeyPlace)
    → first_of_each (all ++ one ∷ []) ≡ with_key one (first_of_each all)
once_more all one =
    once_is (all ++ one ∷ []) ∙ firsts_push same_key same_keys all one ∙ ap (with_key one) (sym (once_is all))

-- Rows

rows_same : (F G : ℕ → List KeyPlace) (from count place : ℕ) → place < from
    → ((other : ℕ) → (other == place) ≡ false → F other ≡ G other)
    → map F (numbers from count) ≡ map G (numbers from count)
rows_same F G from zero place below others = refl
rows_same F G from (suc count) place below others =
    let other : (from == place) ≡ false = grind (arith, nat_tests) in
    ap (λ first. first ∷ map F (numbers (from + 1) count)) (others from other)
    ∙ ap (λ more. G from ∷ more) (rows_same F G (from + 1) count place (omega arith) others)

row_put : (F G : ℕ → List KeyPlace) (one : KeyPlace) (at from count place : ℕ) → from + at ≡ place
    → with_key one (F place) ≡ G place → ((other : ℕ) → (other == place) ≡ false → F other ≡ G other)
    → with_key_at at one (map F (numbers from count)) ≡ map G (numbers from count)
row_put F G one zero from zero place is here others = refl
row_put F G one (suc at) from zero place is here others = refl
row_put F G one zero from (suc count) place is here others =
    let same : from ≡ place = omega arith in
    ap (λ first. with_key one (F first) ∷ map F (numbers (from + 1) count)) same
    ∙ ap (λ first. first ∷ map F (numbers (from + 1) count)) here
    ∙ ap (λ first. G first ∷ map F (numbers (from + 1) count)) (sym same)
    ∙ ap (λ more. G from ∷ more) (rows_same F G (from + 1) count place (omega arith) others)
row_put F G one (suc at) from (suc count) place is here others =
    let other : (from == place) ≡ false = grind (arith, nat_tests) in
    ap (λ first. first ∷ with_key_at at one (map F (numbers (from + 1) count))) (others from other)
    ∙ ap (λ more. G from ∷ more) (row_put F G one at (from + 1) count place (omega arith) here others)

-- an entry more in its scope
in_more : (scope : ℕ) (all : List KeyEntry) (e : KeyEntry) → in_scope scope (all ++ e ∷ [])
    ≡ in_scope scope all ++ in_scope scope (e ∷ [])
in_more scope all e = ap (map key_place) (filter-append (is_of scope) all (e ∷ []))
    ∙ map_both key_place (filter (is_of scope) all) (filter (is_of scope) (e ∷ []))

rows_more : (count : ℕ) (all : List KeyEntry) (e : KeyEntry)
    → with_key_at e.1 (key_place e) (rows_by count all) ≡ rows_by count (all ++ e ∷ [])
rows_more count all e =
    row_put (λ scope. first_of_each (in_scope scope all)) (λ scope. first_of_each (in_scope scope (all ++ e ∷ [])))
    (key_place e) e.1 0 count e.1 (omega arith)
    (sym (ap first_of_each (in_more e.1 all e ∙ ap (λ some. in_scope e.1 all ++ some) here)
    ∙ once_more (in_scope e.1 all) (key_place e)))
    (λ other differs. ap first_of_each (sym (in_more other all e
    ∙ ap (λ some. in_scope other all ++ some) (there other differs) ∙ append-nil (in_scope other all))))
  where
    here : in_scope e.1 (e ∷ []) ≡ key_place e ∷ []
    here = let same : (e.1 == e.1) ≡ true = grind (arith, nat_tests) in rw same refl

    there : (other : ℕ) → (other == e.1) ≡ false → in_scope other (e ∷ []) ≡ []
    there other differs = let apart : (e.1 == other) ≡ false = grind (arith, nat_tests) in rw apart refl

-- one scope more
longer : (from count : ℕ)
    → map (λ scope. first_of_each (in_scope scope [])) (numbers from count) ++ [] ∷ []
    ≡ map (λ scope. first_of_each (in_scope scope [])) (numbers from (suc count))
longer from zero = refl
longer from (suc count) = ap (λ more. [] ∷ more) (longer (from + 1) count)

pub none_more : {S : Type 0} (maps all : List (Keys S)) (one : Keys S) (count : ℕ) → rows_of maps ≡ rows_by count []
    → one.entries ≡ [] → all ≡ maps ++ one ∷ [] → rows_of all ≡ rows_by (count + 1) []
none_more maps all one count before none put =
    let next : suc count ≡ count + 1 = omega arith in
    ap rows_of put ∙ map_both (λ (m : Keys _). m.entries) maps (one ∷ [])
    ∙ ap (λ rows. rows ++ one.entries ∷ []) before ∙ ap (λ row. rows_by count [] ++ row ∷ []) none
    ∙ longer 0 count ∙ ap (λ n. rows_by n []) next

-- One key more in a map

found_there : (key : List ℕ) (row : List KeyPlace)
    → is_some (lookup (bytes_eq key) row) ≡ list_any (λ (other : KeyPlace). bytes_eq other.0 key) row
found_there key [] = refl
found_there key (first ∷ row) = by_one (found_there key row) (bytes_eq first.0 key) refl
  where
    by_one : is_some (lookup (bytes_eq key) row) ≡ list_any (λ (other : KeyPlace). bytes_eq other.0 key) row
        → (a : Bool) → bytes_eq first.0 key ≡ a
        → is_some (lookup (bytes_eq key) (first ∷ row))
        ≡ list_any (λ (other : KeyPlace). bytes_eq other.0 key) (first ∷ row)
    by_one behind true e = simp (e, text_swaps key first.0 ∙ e) refl
    by_one behind false e = simp (e, text_swaps key first.0 ∙ e) behind

module _ {S : Type 0} (old : Keys S) (key : List ℕ) (node : ℕ) where
  pub put_there : is_some (get bytes_eq old key) ≡ true → old.entries ≡ with_key (key, node) old.entries
  put_there there =
      sym (ap (λ b. if b then old.entries else old.entries ++ (key, node) ∷ [])
      (sym (found_there key old.entries) ∙ there))

  pub put_new : (new : Keys S) → is_some (get bytes_eq old key) ≡ false
      → new.entries ≡ insert_entry bytes_eq old.entries key node → new.entries ≡ with_key (key, node) old.entries
  put_new new absent put =
      put ∙ insert_entry-new bytes_eq old key node (by_found (get bytes_eq old key) refl)
      ∙ sym (ap (λ b. if b then old.entries else old.entries ++ (key, node) ∷ [])
      (sym (found_there key old.entries) ∙ absent))
    where
      by_found : (found : Option ℕ) → get bytes_eq old key ≡ found → get bytes_eq old key ≡ None
      by_found None e = e
      by_found (Some other) e = absurd (false≢true (sym absent ∙ ap is_some e))

-- in the map of a scope
pub put_in : {S : Type 0} (maps : List (Keys S)) (at : ℕ) (one : KeyPlace) (old new : Keys S) → at < length maps
    → old ≡ get_or maps at old → new.entries ≡ with_key one old.entries
    → rows_of (set maps at new) ≡ with_key_at at one (rows_of maps)
put_in [] at one old new within is put = absurd (omega arith)
put_in (map ∷ maps) zero one old new within is put =
    ap (λ row. row ∷ rows_of maps) (put ∙ ap (λ (m : Keys _). with_key one m.entries) is)
put_in (map ∷ maps) (suc at) one old new within is put =
    ap (λ rows. map.entries ∷ rows) (put_in maps at one old new (omega arith) is put)

pub put_past : {S : Type 0} (maps : List (Keys S)) (at : ℕ) (one : KeyPlace) → length maps ≤ at
    → rows_of maps ≡ with_key_at at one (rows_of maps)
put_past [] at one past = refl
put_past (map ∷ maps) zero one past = absurd (omega arith)
put_past (map ∷ maps) (suc at) one past = ap (λ more. map.entries ∷ more) (put_past maps at one (omega arith))

-- Behind so many entries, of which those beyond the count are passed over
pub rows_step : (count scopes : ℕ) (written : List WrittenKey) (at : ℕ) (d : WrittenKey)
    (old new : List (List KeyPlace))
    → at < length written → old ≡ rows_by scopes (filter (is_level_within count) (entries (take at written)))
    → new ≡ with_entry count old (entry_of (get_or written at d))
    → new ≡ rows_by scopes (filter (is_level_within count) (entries (take (at + 1) written)))
rows_step count scopes written at d old new within before more =
    more ∙ ap (λ rows. with_entry count rows (entry_of (get_or written at d))) before
    ∙ by_one (get_or written at d) (nat_lt (get_or written at d).2 count) refl
    ∙ ap (λ some. rows_by scopes some) (sym (ap (λ some. filter (is_level_within count) (entries some))
    (take_more written at d within)
    ∙ ap (filter (is_level_within count)) (map_both entry_of (take at written) (get_or written at d ∷ []))
    ∙ filter-append (is_level_within count) (entries (take at written)) (entry_of (get_or written at d) ∷ [])))
  where
    by_one : (item : WrittenKey) (a : Bool) → nat_lt item.2 count ≡ a
        → with_entry count (rows_by scopes (filter (is_level_within count) (entries (take at written)))) (entry_of item)
        ≡ rows_by scopes (filter (is_level_within count) (entries (take at written))
        ++ filter (is_level_within count) (entry_of item ∷ []))
    by_one item true e =
        rw e (rows_more scopes (filter (is_level_within count) (entries (take at written))) (entry_of item))
    by_one item false e =
        rw e (ap (rows_by scopes) (sym (append-nil (filter (is_level_within count) (entries (take at written))))))

-- Those of all nodes

numbers_places : {X : Type 0} (from : ℕ) (xs : List X) → numbers from (length xs) ≡ places_from from xs
numbers_places from [] = refl
numbers_places from (x ∷ xs) = ap (λ more. from ∷ more) (numbers_places (from + 1) xs)

places_same : {X Y : Type 0} (f g : ℕ → List Y) (from to : ℕ) (xs : List X) → from + length xs ≡ to
    → ((at : ℕ) → at < to → f at ≡ g at) → flat_map f (places_from from xs) ≡ flat_map g (places_from from xs)
places_same f g from to [] long same = refl
places_same f g from to (x ∷ xs) long same =
    ap (λ first. first ++ flat_map f (places_from (from + 1) xs)) (same from (omega arith))
    ∙ ap (λ more. g from ++ more) (places_same f g (from + 1) to xs (omega arith) same)

flat_filter : {X Y : Type 0} (f : X → List Y) (p : X → Bool) (xs : List X)
    → flat_map f (filter p xs) ≡ flat_map (λ x. if p x then f x else []) xs
flat_filter f p [] = refl
flat_filter f p (x ∷ xs) = by_one (flat_filter f p xs) (p x) refl
  where
    by_one : flat_map f (filter p xs) ≡ flat_map (λ y. if p y then f y else []) xs → (a : Bool) → p x ≡ a
        → flat_map f (filter p (x ∷ xs)) ≡ flat_map (λ y. if p y then f y else []) (x ∷ xs)
    by_one behind true e = simp e (ap (λ more. f x ++ more) behind)
    by_one behind false e = simp e behind

abbrev no_keys : List KeyPlace
no_keys = []

none : (a b : Bool) → no_keys ≡ (if a then if b then [] else [] else [])
none true true = refl
none true false = refl
none false b = refl

-- the keys of one node, which all have its scope and level
keys_in : (scope level own at place : ℕ) (keys : List (List ℕ))
    → in_scope scope (filter (is_at level) (map (entry own at place) keys))
    ≡ (if own == scope then if at == level then map (λ key. (key, place)) keys else [] else [])
keys_in scope level own at place [] = none (own == scope) (at == level)
keys_in scope level own at place (key ∷ keys) =
    by_two (keys_in scope level own at place keys) (own == scope) (at == level) refl refl
  where
    by_two : in_scope scope (filter (is_at level) (map (entry own at place) keys))
        ≡ (if own == scope then if at == level then map (λ other. (other, place)) keys else [] else [])
        → (a b : Bool) → (own == scope) ≡ a → (at == level) ≡ b
        → in_scope scope (filter (is_at level) (map (entry own at place) (key ∷ keys)))
        ≡ (if own == scope then if at == level then map (λ other. (other, place)) (key ∷ keys) else [] else [])
    by_two behind true true e f = simp (e, f) (ap (λ more. (key, place) ∷ more) (behind ∙ rw (e, f) refl))
    by_two behind true false e f = simp (e, f) (behind ∙ rw (e, f) refl)
    by_two behind false true e f = simp (e, f) (behind ∙ rw e refl)
    by_two behind false false e f = simp (e, f) (behind ∙ rw e refl)

module _ (world : World) (nodes : List PlanNode) (scope : ℕ) where
  abbrev all : List KeyEntry
  all = flat_map (entries_at world nodes) (places nodes)

  abbrev of_level : ℕ → List ℕ
  of_level level = filter (is_at_level nodes level) (filter (is_in_scope nodes scope) (places nodes))

  abbrev at_once : ℕ → ℕ → List KeyPlace
  at_once level at =
      if is_in_scope nodes scope at then if is_at_level nodes level at then keys_at world nodes at else [] else []

  one_level : (level : ℕ) → in_scope scope (filter (is_at level) all) ≡ flat_map (keys_at world nodes) (of_level level)
  one_level level =
      through (λ es. in_scope scope (filter (is_at level) es)) refl
      (λ a b. ap (in_scope scope) (filter-append (is_at level) a b)
      ∙ ap (map key_place) (filter-append (is_of scope) (filter (is_at level) a) (filter (is_at level) b))
      ∙ map_both key_place (filter (is_of scope) (filter (is_at level) a)) (filter (is_of scope) (filter (is_at level) b)))
      (entries_at world nodes) (places nodes)
      ∙ places_same (λ at. in_scope scope (filter (is_at level) (entries_at world nodes at))) (at_once level) 0
      (length nodes) nodes (omega arith)
      (λ at within. keys_in scope level (scope_at nodes at) (level_at nodes at) at (keys_defined world nodes at)
      ∙ ap (λ b. if is_in_scope nodes scope at then if b then keys_at world nodes at else [] else [])
      (level_is nodes level at within))
      ∙ sym (flat_filter (keys_at world nodes) (is_at_level nodes level) (filter (is_in_scope nodes scope) (places nodes))
      ∙ flat_filter (λ at. if is_at_level nodes level at then keys_at world nodes at else []) (is_in_scope nodes scope)
      (places nodes))

  -- a scope's entries by level are its definitions
  own_entries : in_scope scope (by_level (length nodes) all) ≡ own_definitions world nodes scope
  own_entries =
      through (in_scope scope) refl
      (λ a b. ap (map key_place) (filter-append (is_of scope) a b)
      ∙ map_both key_place (filter (is_of scope) a) (filter (is_of scope) b))
      (λ level. filter (is_at level) all) (numbers 0 (length nodes))
      ∙ (λ i. flat_map (λ level. one_level level i) (numbers_places 0 nodes i))
      ∙ sym (through (flat_map (keys_at world nodes)) refl (flat_map-append (keys_at world nodes)) of_level (places nodes))

-- the rows of all entries are the keys of all scopes
pub own_rows : (world : World) (nodes : List PlanNode)
    → rows_by (length (scopes nodes)) (by_level (length nodes) (flat_map (entries_at world nodes) (places nodes)))
    ≡ own_keys world nodes
own_rows world nodes = λ i.
    map (λ scope. first_of_each (own_entries world nodes scope i)) (numbers_places 0 (scopes nodes) i)

-- One scope

row_at : (F : ℕ → List KeyPlace) {X : Type 0} (xs : List X) (from at place : ℕ) (d : List KeyPlace) → from + at ≡ place
    → at < length xs → get_or (map F (places_from from xs)) at d ≡ F place
row_at F [] from at place d is within = absurd (omega arith)
row_at F (x ∷ xs) from zero place d is within = ap F (omega arith)
row_at F (x ∷ xs) from (suc at) place d is within = row_at F xs (from + 1) at place d (omega arith) (omega arith)

-- the map of a scope has its keys
pub own_at : {S : Type 0} (world : World) (nodes : List PlanNode) (maps : List (Keys S)) (scope : ℕ) (found : Keys S)
    → rows_of maps ≡ own_keys world nodes → scope < length (scopes nodes) → scope < length maps
    → found ≡ get_or maps scope found → found.entries ≡ first_of_each (own_definitions world nodes scope)
own_at world nodes maps scope found are within there is =
    ap (λ (m : Keys _). m.entries) is
    ∙ sym (get_or-map (λ (m : Keys _). m.entries) maps scope found [] there)
    ∙ ap (λ rows. get_or rows scope []) are
    ∙ row_at (λ own. first_of_each (own_definitions world nodes own)) (scopes nodes) 0 scope scope [] (omega arith) within

-- Each scope has a map

numbers_long : (from count : ℕ) → length (numbers from count) ≡ count
numbers_long from zero = refl
numbers_long from (suc count) = ap suc (numbers_long (from + 1) count)

pub rows_long : {S : Type 0} (maps : List (Keys S)) (count : ℕ) (all : List KeyEntry) → rows_of maps ≡ rows_by count all
    → length maps ≡ count
rows_long maps count all are =
    sym (length-map maps (λ (m : Keys _). m.entries)) ∙ ap length are
    ∙ length-map (numbers 0 count) (λ scope. first_of_each (in_scope scope all)) ∙ numbers_long 0 count

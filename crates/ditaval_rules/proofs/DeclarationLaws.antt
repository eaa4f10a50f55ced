-- The elements that declare names: those of a tree, and the last around a place.
use Rattle.std.specs.Prelude.{◌≡◌, ◌+◌, ◌-◌, ◌==◌, ◌<◌, ◌≤◌, ◌&&◌, ℕ, zero, suc, Bool, true, false, List, [], ◌∷◌, ◌++◌, Option, Some, None, codes, length, map, nat_le, nat_lt, option_map, slice_index_or, unwrap_or, if◌then◌else◌}
use Rattle.std.specs.Option.{option_map_or, option_to_list}
use Rattle.std.proofs.Common.{refl, sym, ◌∙◌, ap, subst, arith, append_assoc, length-append, ⊎_elim}
use Rattle.std.proofs.lemmas.Bool.{true≢false, eqb-true, ltb-true, ltb-false, cases_lt}
use Rattle.std.proofs.lemmas.Bool.Decides.{nat_tests}
use Rattle.std.proofs.lemmas.List.{get_or_at, get_or_default, get_or_append_left}
use Rattle.dita_doc.specs.ClassValue.{value_of}
use Rattle.dita_doc.specs.declared.doc.Attribute.{Attribute}
use Rattle.dita_doc.specs.declared.doc.Node.{Node}
use Rattle.dita_doc.specs.Tree.{Content, End, Chars, Element, size_of, nodes_of, tree_of, ArePreorder}
use Rattle.dita_doc.proofs.TreeLaws.{length_nodes}
use Rattle.ditaval_rules.specs.Domains.{declared_at, declared_around, declared_by, names_declared}
use Rattle.ditaval_rules.specs.Declarations.{Declaring, declaring_at, declaring_by, declaring_from, declaring_among, declaring_of, AreDeclarations, holds, lies_around, last_names, IsCut, IsLastAround, StandBefore, AreLinked, AreBefore, end_at, place_at, outer_at}
use Rattle.ditaval_rules.specs.declared.declarations.DeclaredEntry.{DeclaredEntry}

-- Nodes and content

among_both : (place : ℕ) (nodes more : List Node)
    → declaring_among place (nodes ++ more) ≡ declaring_among place nodes ++ declaring_among (place + length nodes) more
among_both place [] more = let same : place ≡ place + 0 = omega arith in ap (λ n. declaring_among n more) same
among_both place (node ∷ nodes) more =
    let same : place + 1 + length nodes ≡ place + suc (length nodes) = omega arith in
    ap (λ l. declaring_by place node.end node.attributes ++ l)
    (among_both (place + 1) nodes more
    ∙ ap (λ n. declaring_among (place + 1) nodes ++ declaring_among n more) same)
    ∙ sym (append_assoc (declaring_by place node.end node.attributes) (declaring_among (place + 1) nodes) _)

among_nodes : (c : Content) (place : ℕ) → declaring_among place (nodes_of c place) ≡ declaring_from place c
among_nodes End place = refl
among_nodes (Chars text origin line rest) place = among_nodes rest (place + 1)
among_nodes (Element name attributes origin line inside rest) place =
    let end : ℕ = place + 1 + size_of inside in
    let same : place + 1 + length (nodes_of inside (place + 1)) ≡ end = ap (λ n. place + 1 + n) (length_nodes inside (place + 1)) in
    ap (λ l. declaring_by place end attributes ++ l)
    (among_both (place + 1) (nodes_of inside (place + 1)) (nodes_of rest end)
    ∙ ap (λ n. declaring_among (place + 1) (nodes_of inside (place + 1)) ++ declaring_among n (nodes_of rest end)) same
    ∙ ap (λ l. l ++ declaring_among end (nodes_of rest end)) (among_nodes inside (place + 1))
    ∙ ap (λ l. declaring_from (place + 1) inside ++ l) (among_nodes rest end))

-- those of a document are those of its tree
pub among_tree : (nodes : List Node) → ArePreorder nodes 0 → declaring_among 0 nodes ≡ declaring_from 0 (tree_of nodes)
among_tree nodes tree = ap (declaring_among 0) tree ∙ among_nodes (tree_of nodes) 0

-- The last that passes a test

abbrev last_of : (Declaring → Bool) → List (List ℕ) → List Declaring → List (List ℕ)
last_of test names [] = names
last_of test names (one ∷ more) = last_of test (if test one then one.names else names) more

last_both : (test : Declaring → Bool) (names : List (List ℕ)) (some more : List Declaring)
    → last_of test names (some ++ more) ≡ last_of test (last_of test names some) more
last_both test names [] more = refl
last_both test names (one ∷ some) more = last_both test (if test one then one.names else names) some more

last_map : (test : Declaring → Bool) (names : List (List ℕ)) (entries : List DeclaredEntry)
    → last_names (λ entry. test (declaring_of entry)) names entries ≡ last_of test names (map declaring_of entries)
last_map test names [] = refl
last_map test names (entry ∷ entries) =
    last_map test (if test (declaring_of entry) then entry.names else names) entries

-- Tests of places

positive : (k : ℕ) → (k == 0) ≡ false → 0 < k
positive zero e = absurd (true≢false e)
positive (suc k) e = omega arith

abbrev stands : ℕ → Declaring → Bool
stands place one = nat_le one.place place && nat_lt place one.end

abbrev stands_around : ℕ → Declaring → Bool
stands_around place one = nat_lt one.place place && nat_lt place one.end

-- those that lie all before or all behind a place
before_none : (test : Declaring → Bool) (names : List (List ℕ)) (from : ℕ) (c : Content) (ends : ℕ)
    → from + size_of c ≤ ends → ((one : Declaring) → one.end ≤ ends → test one ≡ false)
    → last_of test names (declaring_from from c) ≡ names
before_none test names from End ends fits never = refl
before_none test names from (Chars text origin line rest) ends fits never =
    before_none test names (from + 1) rest ends (omega arith) never
before_none test names from (Element name attributes origin line inside rest) ends fits never =
    let end : ℕ = from + 1 + size_of inside in
    last_both test names (declaring_by from end attributes) _
    ∙ ap (λ n. last_of test n (declaring_from (from + 1) inside ++ declaring_from end rest))
    (by_value (value_of (codes "domains") attributes))
    ∙ last_both test names (declaring_from (from + 1) inside) _
    ∙ ap (λ n. last_of test n (declaring_from end rest)) (before_none test names (from + 1) inside ends (omega arith) never)
    ∙ before_none test names end rest ends (omega arith) never
  where
    by_value : (value : Option (List ℕ))
        → last_of test names (option_to_list (option_map (declaring_at from (from + 1 + size_of inside)) value)) ≡ names
    by_value None = refl
    by_value (Some value) = rw (never (declaring_at from (from + 1 + size_of inside) value) (omega arith)) refl

behind_none : (test : Declaring → Bool) (names : List (List ℕ)) (from : ℕ) (c : Content) (begins : ℕ)
    → begins ≤ from → ((one : Declaring) → begins ≤ one.place → test one ≡ false)
    → last_of test names (declaring_from from c) ≡ names
behind_none test names from End begins fits never = refl
behind_none test names from (Chars text origin line rest) begins fits never =
    behind_none test names (from + 1) rest begins (omega arith) never
behind_none test names from (Element name attributes origin line inside rest) begins fits never =
    let end : ℕ = from + 1 + size_of inside in
    last_both test names (declaring_by from end attributes) _
    ∙ ap (λ n. last_of test n (declaring_from (from + 1) inside ++ declaring_from end rest))
    (by_value (value_of (codes "domains") attributes))
    ∙ last_both test names (declaring_from (from + 1) inside) _
    ∙ ap (λ n. last_of test n (declaring_from end rest)) (behind_none test names (from + 1) inside begins (omega arith) never)
    ∙ behind_none test names end rest begins (omega arith) never
  where
    by_value : (value : Option (List ℕ))
        → last_of test names (option_to_list (option_map (declaring_at from (from + 1 + size_of inside)) value)) ≡ names
    by_value None = refl
    by_value (Some value) = rw (never (declaring_at from (from + 1 + size_of inside) value) (omega arith)) refl

-- an element that has the attribute, or none
own_found : (test : Declaring → Bool) (around : List (List ℕ)) (place end : ℕ) (attributes : List Attribute)
    → ((one : Declaring) → one.place ≡ place → one.end ≡ end → test one ≡ true)
    → last_of test around (declaring_by place end attributes) ≡ declared_by around attributes
own_found test around place end attributes always = by_value (value_of (codes "domains") attributes)
  where
    by_value : (value : Option (List ℕ))
        → last_of test around (option_to_list (option_map (declaring_at place end) value))
        ≡ option_map_or names_declared value around
    by_value None = refl
    by_value (Some value) = rw (always (declaring_at place end value) refl refl) refl

own_passed : (test : Declaring → Bool) (around : List (List ℕ)) (place end : ℕ) (attributes : List Attribute)
    → ((one : Declaring) → one.place ≡ place → one.end ≡ end → test one ≡ false)
    → last_of test around (declaring_by place end attributes) ≡ around
own_passed test around place end attributes never = by_value (value_of (codes "domains") attributes)
  where
    by_value : (value : Option (List ℕ))
        → last_of test around (option_to_list (option_map (declaring_at place end) value)) ≡ around
    by_value None = refl
    by_value (Some value) = rw (never (declaring_at place end value) refl refl) refl

-- what a test must say of those that lie before a place, behind it, and around it
record Tells (test : Declaring → Bool) (place : ℕ) : Type 0 where
  past : (one : Declaring) → one.end ≤ place → test one ≡ false
  later : (one : Declaring) → place + 1 ≤ one.place → test one ≡ false
  around : (one : Declaring) → one.place < place → place < one.end → test one ≡ true

stands_tells : (place : ℕ) → Tells (stands place) place
stands_tells place = record {
  past = λ one e. grind (arith, nat_tests);
  later = λ one e. grind (arith, nat_tests);
  around = λ one e f. grind (arith, nat_tests);
}

around_tells : (place : ℕ) → Tells (stands_around place) place
around_tells place = record {
  past = λ one e. grind (arith, nat_tests);
  later = λ one e. grind (arith, nat_tests);
  around = λ one e f. grind (arith, nat_tests);
}

last_three : (test : Declaring → Bool) (names : List (List ℕ)) (own inside rest : List Declaring)
    → last_of test names (own ++ (inside ++ rest)) ≡ last_of test (last_of test (last_of test names own) inside) rest
last_three test names own inside rest =
    last_both test names own (inside ++ rest) ∙ last_both test (last_of test names own) inside rest

module _ (test : Declaring → Bool) (place : ℕ) (tells : Tells test place) where
  later_none : (names : List (List ℕ)) (from : ℕ) (c : Content) → place + 1 ≤ from
      → last_of test names (declaring_from from c) ≡ names
  later_none names from c fits = behind_none test names from c (place + 1) fits tells.later

  module _ (around : List (List ℕ)) (attributes : List Attribute) (from : ℕ) (inside rest : Content) where
    abbrev all : List Declaring
    all = declaring_by from (from + 1 + size_of inside) attributes
        ++ (declaring_from (from + 1) inside ++ declaring_from (from + 1 + size_of inside) rest)

    -- an element before the place
    past_it : from + 1 + size_of inside ≤ place
        → last_of test around all ≡ last_of test around (declaring_from (from + 1 + size_of inside) rest)
    past_it past =
        last_three test around (declaring_by from (from + 1 + size_of inside) attributes) (declaring_from (from + 1) inside)
        (declaring_from (from + 1 + size_of inside) rest)
        ∙ ap (λ n. last_of test n (declaring_from (from + 1 + size_of inside) rest))
        (ap (λ n. last_of test n (declaring_from (from + 1) inside))
        (own_passed test around from (from + 1 + size_of inside) attributes (λ one p e. tells.past one (omega arith)))
        ∙ before_none test around (from + 1) inside place (omega arith) tells.past)

    -- one around it
    in_it : from < place → place < from + 1 + size_of inside
        → last_of test around all ≡ last_of test (declared_by around attributes) (declaring_from (from + 1) inside)
    in_it begun reaches =
        last_three test around (declaring_by from (from + 1 + size_of inside) attributes) (declaring_from (from + 1) inside)
        (declaring_from (from + 1 + size_of inside) rest)
        ∙ later_none _ (from + 1 + size_of inside) rest (omega arith)
        ∙ ap (λ n. last_of test n (declaring_from (from + 1) inside))
        (own_found test around from (from + 1 + size_of inside) attributes (λ one p e. tells.around one (omega arith) (omega arith)))

    -- the one that stands there
    at_it : from ≡ place
        → last_of test around all ≡ last_of test around (declaring_by from (from + 1 + size_of inside) attributes)
    at_it is =
        last_three test around (declaring_by from (from + 1 + size_of inside) attributes) (declaring_from (from + 1) inside)
        (declaring_from (from + 1 + size_of inside) rest)
        ∙ later_none _ (from + 1 + size_of inside) rest (omega arith)
        ∙ later_none _ (from + 1) inside (omega arith)

-- The two words for a tree, and the last that passes its test

at_text : (test : Declaring → Bool) (around : List (List ℕ)) (from place k : ℕ) (rest : Content)
    (told : ℕ → List (List ℕ)) → Tells test place → place ≡ from + k
    → (0 < k → last_of test around (declaring_from (from + 1) rest) ≡ told (k - 1))
    → (zero : Bool) → (k == 0) ≡ zero
    → last_of test around (declaring_from (from + 1) rest) ≡ (if k == 0 then around else told (k - 1))
at_text test around from place k rest told tells is more true e =
    let none : k ≡ 0 = eqb-true k 0 e in
    rw e (later_none test place tells around (from + 1) rest (omega arith))
at_text test around from place k rest told tells is more false e = rw e (more (positive k e))

pub at_place : (around : List (List ℕ)) (tree : Content) (from place k : ℕ) → place ≡ from + k
    → last_of (stands place) around (declaring_from from tree) ≡ declared_at around tree k
at_place around End from place k is = refl
at_place around (Chars text origin line rest) from place k is =
    at_text (stands place) around from place k rest (declared_at around rest) (stands_tells place) is
    (λ more. at_place around rest (from + 1) place (k - 1) (omega arith)) (k == 0) refl
at_place around (Element name attributes origin line inside rest) from place k is =
    by_cases (λ past. at_place around rest (from + 1 + size_of inside) place (k - (1 + size_of inside)) (omega arith))
    (λ more. at_place (declared_by around attributes) inside (from + 1) place (k - 1) (omega arith))
    (k == 0) (nat_lt (size_of inside) k) refl refl
  where
    by_cases : (size_of inside < k → last_of (stands place) around (declaring_from (from + 1 + size_of inside) rest)
        ≡ declared_at around rest (k - (1 + size_of inside)))
        → (0 < k → last_of (stands place) (declared_by around attributes) (declaring_from (from + 1) inside)
        ≡ declared_at (declared_by around attributes) inside (k - 1))
        → (zero past : Bool) → (k == 0) ≡ zero → nat_lt (size_of inside) k ≡ past
        → last_of (stands place) around (declaring_from from (Element name attributes origin line inside rest))
        ≡ declared_at around (Element name attributes origin line inside rest) k
    by_cases behind within true past e f =
        let none : k ≡ 0 = eqb-true k 0 e in
        rw e (at_it (stands place) place (stands_tells place) around attributes from inside rest (omega arith)
        ∙ own_found (stands place) around from (from + 1 + size_of inside) attributes
        (λ one p q. grind (arith, nat_tests)))
    by_cases behind within false true e f =
        let past : size_of inside < k = ltb-true (size_of inside) k f in
        rw (e, f) (past_it (stands place) place (stands_tells place) around attributes from inside rest (omega arith)
        ∙ behind past)
    by_cases behind within false false e f =
        let past : k ≤ size_of inside = ltb-false (size_of inside) k f in
        let more : 0 < k = positive k e in
        rw (e, f) (in_it (stands place) place (stands_tells place) around attributes from inside rest (omega arith)
        (omega arith) ∙ within more)

pub around_place : (around : List (List ℕ)) (tree : Content) (from place k : ℕ) → place ≡ from + k
    → last_of (stands_around place) around (declaring_from from tree) ≡ declared_around around tree k
around_place around End from place k is = refl
around_place around (Chars text origin line rest) from place k is =
    at_text (stands_around place) around from place k rest (declared_around around rest) (around_tells place) is
    (λ more. around_place around rest (from + 1) place (k - 1) (omega arith)) (k == 0) refl
around_place around (Element name attributes origin line inside rest) from place k is =
    by_cases (λ past. around_place around rest (from + 1 + size_of inside) place (k - (1 + size_of inside)) (omega arith))
    (λ more. around_place (declared_by around attributes) inside (from + 1) place (k - 1) (omega arith))
    (k == 0) (nat_lt (size_of inside) k) refl refl
  where
    by_cases : (size_of inside < k → last_of (stands_around place) around (declaring_from (from + 1 + size_of inside) rest)
        ≡ declared_around around rest (k - (1 + size_of inside)))
        → (0 < k → last_of (stands_around place) (declared_by around attributes) (declaring_from (from + 1) inside)
        ≡ declared_around (declared_by around attributes) inside (k - 1))
        → (zero past : Bool) → (k == 0) ≡ zero → nat_lt (size_of inside) k ≡ past
        → last_of (stands_around place) around (declaring_from from (Element name attributes origin line inside rest))
        ≡ declared_around around (Element name attributes origin line inside rest) k
    by_cases behind within true past e f =
        let none : k ≡ 0 = eqb-true k 0 e in
        rw e (at_it (stands_around place) place (around_tells place) around attributes from inside rest (omega arith)
        ∙ own_passed (stands_around place) around from (from + 1 + size_of inside) attributes
        (λ one p q. grind (arith, nat_tests)))
    by_cases behind within false true e f =
        let past : size_of inside < k = ltb-true (size_of inside) k f in
        rw (e, f) (past_it (stands_around place) place (around_tells place) around attributes from inside rest
        (omega arith) ∙ behind past)
    by_cases behind within false false e f =
        let past : k ≤ size_of inside = ltb-false (size_of inside) k f in
        let more : 0 < k = positive k e in
        rw (e, f) (in_it (stands_around place) place (around_tells place) around attributes from inside rest (omega arith)
        (omega arith) ∙ within more)

-- what is declared for a place, and around it
pub found_at : (entries : List DeclaredEntry) (place : ℕ) (tree : Content)
    → AreDeclarations tree (map declaring_of entries)
    → last_names (holds place) [] entries ≡ declared_at [] tree place
found_at entries place tree are =
    last_map (stands place) [] entries ∙ ap (last_of (stands place) []) are
    ∙ at_place [] tree 0 place place (omega arith)

pub found_around : (entries : List DeclaredEntry) (place : ℕ) (tree : Content)
    → AreDeclarations tree (map declaring_of entries)
    → last_names (lies_around place) [] entries ≡ declared_around [] tree place
found_around entries place tree are =
    last_map (stands_around place) [] entries ∙ ap (last_of (stands_around place) []) are
    ∙ around_place [] tree 0 place place (omega arith)

-- The last of some entries

no_names : (test : DeclaredEntry → Bool) (names : List (List ℕ)) (entries : List DeclaredEntry)
    → ((k : ℕ) (d : DeclaredEntry) → k < length entries → test (slice_index_or entries k d) ≡ false)
    → last_names test names entries ≡ names
no_names test names [] never = refl
no_names test names (entry ∷ entries) never =
    rw (never 0 entry (omega arith)) (no_names test names entries (λ k d less. never (suc k) d (omega arith)))

names_there : (test : DeclaredEntry → Bool) (names : List (List ℕ)) (entries : List DeclaredEntry) (i : ℕ)
    (d : DeclaredEntry)
    → i < length entries → test (slice_index_or entries i d) ≡ true
    → ((k : ℕ) (d : DeclaredEntry) → i < k → k < length entries → test (slice_index_or entries k d) ≡ false)
    → last_names test names entries ≡ (slice_index_or entries i d).names
names_there test names [] i d less always never = absurd (omega arith)
names_there test names (entry ∷ entries) zero d less always never =
    rw always (no_names test entry.names entries (λ k d less. never (suc k) d (omega arith) (omega arith)))
names_there test names (entry ∷ entries) (suc i) d less always never =
    names_there test (if test entry then entry.names else names) entries i d (omega arith) always
    (λ k d low high. never (suc k) d (omega arith) (omega arith))

module _ (test : DeclaredEntry → Bool) (names : List (List ℕ)) (entries : List DeclaredEntry) (place count last : ℕ)
    (cut : IsCut test entries place count) (is : IsLastAround entries place count last) where
  later_passed : (k : ℕ) (d : DeclaredEntry) → last ≤ k → k < length entries → test (slice_index_or entries k d) ≡ false
  later_passed k d low high = ⊎_elim (λ less. cut.passed k d less (is.passed k d low less))
      (λ more. cut.behind k d more high) (cases_lt k count)

  pub last_none : last ≡ 0 → last_names test names entries ≡ names
  last_none none = no_names test names entries (λ k d high. later_passed k d (omega arith) high)

  pub last_there : (k : ℕ) (entry : DeclaredEntry) → last ≡ k + 1 → entry ≡ slice_index_or entries k entry
      → last_names test names entries ≡ entry.names
  last_there k entry here same =
      let within : last ≤ count = is.within in
      let fits : count ≤ length entries = cut.stand.0 in
      names_there test names entries k entry (omega arith)
      (cut.reaches k entry (omega arith) (is.reaches k entry here))
      (λ j d low high. later_passed j d (omega arith) high)
      ∙ ap (λ (e : DeclaredEntry). e.names) (sym same)

-- One step to the next one around

pub passed_back : (entries : List DeclaredEntry) (place count last : ℕ) (one other : DeclaredEntry) → AreLinked entries
    → StandBefore entries place count → last ≤ count → 0 < last
    → ((k : ℕ) (d : DeclaredEntry) → last ≤ k → k < count → end_at entries k d ≤ place)
    → end_at entries (last - 1) one ≤ place
    → (k : ℕ) (d : DeclaredEntry) → outer_at entries (last - 1) other ≤ k → k < count → end_at entries k d ≤ place
passed_back entries place count last one other linked stand within some passed ended k d low high =
    ⊎_elim (λ less.
    let out : outer_at entries (last - 1) d ≤ k =
    subst (λ (e : DeclaredEntry). e.outer ≤ k) (get_or_default entries (last - 1) other d inside) low in
    let first = linked.between (last - 1) k d inside out less in
    let second = stand.1 (last - 1) d (omega arith) in
    omega arith)
    (λ more. ⊎_elim (λ less. passed k d (omega arith) high)
    (λ least.
    let same : last - 1 ≡ k = omega arith in
    let here : end_at entries (last - 1) d ≤ place =
    subst (λ (e : DeclaredEntry). e.end ≤ place) (get_or_default entries (last - 1) one d inside) ended in
    subst (λ n. end_at entries n d ≤ place) same here)
    (cases_lt (last - 1) k))
    (cases_lt k (last - 1))
  where
    inside : last - 1 < length entries
    inside = let fits = stand.0 in omega arith

-- One element more

abbrev pub entry_of : ℕ → ℕ → ℕ → List (List ℕ) → DeclaredEntry
entry_of place end outer names = record { place = place; end = end; outer = outer; names = names }

module _ (entries : List DeclaredEntry) (place : ℕ) (entry : DeclaredEntry) (before : AreBefore place entries)
    (here : entry.place ≡ place) (last : IsLastAround entries place (length entries) entry.outer) where
  abbrev more : List DeclaredEntry
  more = entries ++ entry ∷ []

  old : (k : ℕ) (d : DeclaredEntry) → k < length entries → slice_index_or more k d ≡ slice_index_or entries k d
  old k d less = get_or_append_left entries (entry ∷ []) d k less

  old_place : (k : ℕ) (d : DeclaredEntry) → k < length entries → place_at more k d ≡ place_at entries k d
  old_place k d less = ap (λ (e : DeclaredEntry). e.place) (old k d less)

  old_end : (k : ℕ) (d : DeclaredEntry) → k < length entries → end_at more k d ≡ end_at entries k d
  old_end k d less = ap (λ (e : DeclaredEntry). e.end) (old k d less)

  old_outer : (k : ℕ) (d : DeclaredEntry) → k < length entries → outer_at more k d ≡ outer_at entries k d
  old_outer k d less = ap (λ (e : DeclaredEntry). e.outer) (old k d less)

  new : (k : ℕ) (d : DeclaredEntry) → k ≡ length entries → slice_index_or more k d ≡ entry
  new k d is = ap (λ n. slice_index_or more n d) is ∙ get_or_at entries entry [] d (length entries) refl

  new_place : (k : ℕ) (d : DeclaredEntry) → k ≡ length entries → place_at more k d ≡ place
  new_place k d is = ap (λ (e : DeclaredEntry). e.place) (new k d is) ∙ here

  new_outer : (k : ℕ) (d : DeclaredEntry) → k ≡ length entries → outer_at more k d ≡ entry.outer
  new_outer k d is = ap (λ (e : DeclaredEntry). e.outer) (new k d is)

  longer : length more ≡ length entries + 1
  longer = length-append entries (entry ∷ []) ∙ omega arith

  sorted_more : (i k : ℕ) (d : DeclaredEntry) → i < k → k < length more → place_at more i d < place_at more k d
  sorted_more i k d less inside = ⊎_elim
      (λ low.
      let one = old_place i d (omega arith) in let two = old_place k d low in
      let known = before.linked.sorted i k d less low in
      omega arith)
      (λ high.
      let one = old_place i d (omega (arith, longer)) in let two = new_place k d (omega (arith, longer)) in
      let known = before.before i d (omega (arith, longer)) in
      omega arith)
      (cases_lt k (length entries))

  outer_more : (i : ℕ) (d : DeclaredEntry) → i < length more → outer_at more i d ≤ i
  outer_more i d inside = ⊎_elim
      (λ low. let one = old_outer i d low in let known = before.linked.outer i d low in omega arith)
      (λ high. let one = new_outer i d (omega (arith, longer)) in let known = last.within in omega arith)
      (cases_lt i (length entries))

  between_more : (i k : ℕ) (d : DeclaredEntry) → i < length more → outer_at more i d ≤ k → k < i
      → end_at more k d ≤ place_at more i d
  between_more i k d inside from less = ⊎_elim
      (λ low.
      let one = old_outer i d low in let two = old_end k d (omega arith) in let three = old_place i d low in
      let known = before.linked.between i k d low (omega arith) less in
      omega arith)
      (λ high.
      let is : i ≡ length entries = omega (arith, longer) in
      let one = new_outer i d is in let two = old_end k d (omega arith) in let three = new_place i d is in
      let known = last.passed k d (omega arith) (omega arith) in
      omega arith)
      (cases_lt i (length entries))

  before_more : (k : ℕ) (d : DeclaredEntry) → k < length more → place_at more k d < place + 1
  before_more k d inside = ⊎_elim
      (λ low. let one = old_place k d low in let known = before.before k d low in omega arith)
      (λ high. let one = new_place k d (omega (arith, longer)) in omega arith)
      (cases_lt k (length entries))

  pub one_more : AreBefore (place + 1) (entries ++ entry ∷ [])
  one_more = record {
    linked = record { sorted = sorted_more; outer = outer_more; between = between_more };
    before = before_more;
  }

pub none_more : (entries : List DeclaredEntry) (place : ℕ) → AreBefore place entries → AreBefore (place + 1) entries
none_more entries place before = record {
  linked = before.linked;
  before = λ k d inside. let less = before.before k d inside in omega arith;
}

pub stand_all : (entries : List DeclaredEntry) (place : ℕ) → AreBefore place entries → StandBefore entries place (length entries)
stand_all entries place before = (omega arith, λ k d less. let low = before.before k d less in omega arith)

abbrev pub declaring_named : ℕ → ℕ → List (List ℕ) → Declaring
declaring_named place end names = record { place = place; end = end; names = names }

-- what is told of an element's own names
pub own_is : (place end : ℕ) (attributes : List Attribute) (own : Option (List (List ℕ)))
    → ((around : List (List ℕ)) → declared_by around attributes ≡ unwrap_or own around)
    → declaring_by place end attributes
    ≡ option_to_list (option_map (λ (names : List (List ℕ)). declaring_named place end names) own)
own_is place end attributes own told = by_value (value_of (codes "domains") attributes) own told
  where
    by_value : (value : Option (List ℕ)) (own : Option (List (List ℕ)))
        → ((around : List (List ℕ)) → option_map_or names_declared value around ≡ unwrap_or own around)
        → option_to_list (option_map (declaring_at place end) value)
        ≡ option_to_list (option_map (λ (names : List (List ℕ)). declaring_named place end names) own)
    by_value None None told = refl
    by_value (Some value) (Some names) told = ap (λ l. declaring_named place end l ∷ []) (told [])
    by_value None (Some names) told =
        let one = told [] in let two = told ([] ∷ []) in absurd (cc)
    by_value (Some value) None told =
        let one = told [] in let two = told ([] ∷ []) in absurd (cc)

-- Names that are taken, and the first name that is free.
use Rattle.std.specs.Prelude.{◌≡◌, ◌||◌, ◌+◌, ◌-◌, ◌^◌, ◌<◌, ◌≤◌, ◌==◌, ℕ, zero, suc, Bool, true, false, not, List, [], ◌∷◌, ◌++◌, Option, Some, None, length, min, bytes_eq, unwrap_or, if◌then◌else◌}
use Rattle.std.specs.BTreeMap.{insert_entry, is_at}
use Rattle.std.specs.BTreeSet.{insert_key}
use Rattle.std.specs.Cmp.Lexicographic.{slice_cmp}
use Rattle.std.specs.List.{flat_map, list_any}
use Rattle.std.specs.Map.{lookup}
use Rattle.std.specs.Ordering.{match_ordering, nat_cmp}
use Rattle.std.proofs.Common.{Ordering, Less, Equal, Greater, cond, refl, sym, ap, subst, ◌∙◌, append-nil, append_assoc, length-append, arith}
use Rattle.std.proofs.lemmas.Bool.{eqb-true, false≢true, or_left, or_right}
use Rattle.std.proofs.lemmas.Bool.Decides.{nat_tests}
use Rattle.std.proofs.lemmas.Grind.{flat_map-append}
use Rattle.dita_doc.specs.declared.fault.Fault.{Fault}
use Rattle.dita_doc.specs.declared.plan.PlanNode.{PlanNode}
use Rattle.std.proofs.lemmas.Slice.Eq.{bytes_eq-Decides}
use Rattle.dita_doc.proofs.Lists.{any_put}
use Rattle.dita_doc.proofs.NameOrder.{same_from_equal}
use Rattle.dita_doc.proofs.Orders.{at_text, equal_test}
use Rattle.dita_doc.proofs.Tests.{not_false, not_true}
use Rattle.dita_doc.specs.declared.plan.PagePlan.{PagePlan}
use Rattle.map_spec.specs.Pages as pages_spec
use Rattle.map_spec.specs.Pages.{contents_name, free_from, free_name, html, name_fault, named_from, page_of_use, with_number}
use Rattle.page_names.specs.Taken.{AreNamed, AreTaken, AreTried, IsFound, IsNamed, IsTakenBy, IsTried, is_taken, name_for}
use Rattle.page_names.specs.declared.names.PageNames.{PageNames}

-- Names in a set

any_key : (word : List ℕ) (keys : List (List ℕ))
    → list_any (is_at (slice_cmp nat_cmp word)) keys ≡ is_taken keys word
any_key word [] = refl
any_key word (key ∷ keys) = rw (at_text key word, any_key word keys) refl

-- Numbers that were tried

mono : (taken : List (List ℕ)) (name other : List ℕ) → is_taken taken other ≡ true → is_taken (name ∷ taken) other
    ≡ true
mono taken name other is = or_right (bytes_eq other name) (is_taken taken other) is

tried_more : (taken : List (List ℕ)) (name base : List ℕ) (next : ℕ) → IsTried taken base next
    → IsTried (name ∷ taken) base next
tried_more taken name base next tried = record {
  least = tried.least;
  each = λ number from below. mono taken name (with_number base number) (tried.each number from below);
}

all_more : (taken : List (List ℕ)) (name : List ℕ) (entries : List (List ℕ × ℕ)) → AreTried taken entries
    → AreTried (name ∷ taken) entries
all_more taken name [] tried = tt
all_more taken name (entry ∷ entries) tried =
    (tried_more taken name entry.0 entry.1 tried.0, all_more taken name entries tried.1)

-- no number is tried before the first
pub none_tried : (taken : List (List ℕ)) (base : List ℕ) → IsTried taken base 2
none_tried taken base = record { least = omega arith; each = λ number from below. absurd (omega arith) }

pub next_found : (taken : List (List ℕ)) (base : List ℕ) (entries : List (List ℕ × ℕ)) → AreTried taken entries
    → IsTried taken base (unwrap_or (lookup (is_at (slice_cmp nat_cmp base)) entries) 2)
next_found taken base [] tried = none_tried taken base
next_found taken base (entry ∷ more) tried =
    by_test (next_found taken base more tried.1) (is_at (slice_cmp nat_cmp base) entry.0) refl
  where
    by_test : IsTried taken base (unwrap_or (lookup (is_at (slice_cmp nat_cmp base)) more) 2) → (test : Bool)
        → is_at (slice_cmp nat_cmp base) entry.0 ≡ test
        → IsTried taken base (unwrap_or (cond test (Some entry.1) (lookup (is_at (slice_cmp nat_cmp base)) more)) 2)
    by_test behind true same =
        subst (λ n. IsTried taken n entry.1)
        (sym (same_from_equal base entry.0 (equal_test (slice_cmp nat_cmp base entry.0) same))) tried.0
    by_test behind false same = behind

next_put : (taken : List (List ℕ)) (base : List ℕ) (next : ℕ) (entries : List (List ℕ × ℕ)) → AreTried taken entries
    → IsTried taken base next → AreTried taken (insert_entry (slice_cmp nat_cmp) entries base next)
next_put taken base next [] tried is = (is, tt)
next_put taken base next (entry ∷ more) tried is =
    by_order (next_put taken base next more tried.1 is) (slice_cmp nat_cmp base entry.0) refl
  where
    by_order : AreTried taken (insert_entry (slice_cmp nat_cmp) more base next) → (o : Ordering)
        → slice_cmp nat_cmp base entry.0 ≡ o
        → AreTried taken (match_ordering o ((base, next) ∷ entry ∷ more) ((entry.0, next) ∷ more)
        (entry ∷ insert_entry (slice_cmp nat_cmp) more base next))
    by_order behind Less same = (is, tried)
    by_order behind Equal same =
        (subst (λ n. IsTried taken n next) (same_from_equal base entry.0 same) is, tried.1)
    by_order behind Greater same = (tried.0, behind)

-- one more number that is taken
pub tried_next : (taken : List (List ℕ)) (base : List ℕ) (number : ℕ) → IsTried taken base number
    → is_taken taken (with_number base number) ≡ true → IsTried taken base (number + 1)
tried_next taken base number tried here = record {
  least = let least = tried.least in omega arith;
  each = λ other from below. by_test other from below (other == number) refl;
}
  where
    by_test : (other : ℕ) → 2 ≤ other → other < number + 1 → (test : Bool) → (other == number) ≡ test
        → is_taken taken (with_number base other) ≡ true
    by_test other from below true same =
        subst (λ n. is_taken taken (with_number base n) ≡ true) (sym (eqb-true other number same)) here
    by_test other from below false differs =
        let less : other < number = grind (arith, nat_tests) in tried.each other from less

-- Taking a name

-- whether the set has it
has : (taken : List (List ℕ)) (names : PageNames) (text copy : List ℕ) → AreTaken taken names → copy ≡ text
    → list_any (is_at (slice_cmp nat_cmp copy)) names.taken.keys ≡ is_taken taken text
has taken names text copy are same = any_key copy names.taken.keys ∙ are.set copy ∙ ap (is_taken taken) same

-- the set with one more name
pub name_taken : (taken : List (List ℕ)) (old new : PageNames) (text name copy : List ℕ) (added : Bool)
    → AreTaken taken old → name ≡ text → copy ≡ name
    → added ≡ not (list_any (is_at (slice_cmp nat_cmp copy)) old.taken.keys) → added ≡ true
    → new.taken.keys ≡ insert_key (slice_cmp nat_cmp) old.taken.keys copy
    → length new.taken.keys ≡ length old.taken.keys + (if added then 1 else 0) → new.next ≡ old.next
    → IsTakenBy taken text new (Some name)
name_taken taken old new text name copy added are is same asked fresh put longer kept = (
  is,
  not_true (is_taken taken text) added fresh (asked ∙ ap not (has taken old text copy are (same ∙ is))),
  record {
    set = λ other.
        ap (λ ks. is_taken ks other) put ∙ any_put (bytes_eq other) copy old.taken.keys
        ∙ ap (λ c. bytes_eq other c || is_taken old.taken.keys other) same
        ∙ ap (λ b. bytes_eq other name || b) (are.set other);
    many =
        let one : length new.taken.keys ≡ length old.taken.keys + 1 =
        longer ∙ ap (λ b. length old.taken.keys + (if b then 1 else 0)) fresh in
        let before = are.many in omega arith;
    tried = subst (λ n. AreTried (name ∷ taken) n.entries) (sym kept) (all_more taken name old.next.entries are.tried);
  },
)

-- a name that is there changes nothing
pub name_known : (taken : List (List ℕ)) (old new : PageNames) (text name copy : List ℕ) (added : Bool)
    → AreTaken taken old → name ≡ text → copy ≡ name
    → added ≡ not (list_any (is_at (slice_cmp nat_cmp copy)) old.taken.keys) → added ≡ false
    → new.taken.keys ≡ old.taken.keys → new.next ≡ old.next → IsTakenBy taken text new None
name_known taken old new text name copy added are is same asked there put kept = (
  not_false (is_taken taken text) added there (asked ∙ ap not (has taken old text copy are (same ∙ is))),
  record {
    set = λ other. ap (λ ks. is_taken ks other) put ∙ are.set other;
    many = ap length put ∙ are.many;
    tried = subst (λ n. AreTried taken n.entries) (sym kept) are.tried;
  },
)

pub nothing_taken : (names : PageNames) → names.taken.keys ≡ [] → names.next.entries ≡ [] → AreTaken [] names
nothing_taken names none no_next = record {
  set = λ name. ap (λ ks. is_taken ks name) none;
  many = ap length none;
  tried = subst (AreTried []) (sym no_next) tt;
}

-- the first name
pub first_taken : (text : List ℕ) (names : PageNames) (found : Option (List ℕ)) → IsTakenBy [] text names found
    → AreTaken (text ∷ []) names
first_taken text names None taken = absurd (false≢true taken.0)
first_taken text names (Some name) taken = subst (λ n. AreTaken (n ∷ []) names) taken.0 taken.2

-- with the next number for its base
pub number_put : (taken : List (List ℕ)) (base name : List ℕ) (number : ℕ) (old new : PageNames)
    → AreTaken (name ∷ taken) old → IsTried taken base number → name ≡ with_number base number
    → new.taken ≡ old.taken → new.next.entries ≡ insert_entry (slice_cmp nat_cmp) old.next.entries base (number + 1)
    → AreTaken (name ∷ taken) new
number_put taken base name number old new are tried is kept put = record {
  set = λ other. ap (λ t. is_taken t.keys other) kept ∙ are.set other;
  many = ap (λ t. length t.keys) kept ∙ are.many;
  tried = subst (AreTried (name ∷ taken)) (sym put) (next_put (name ∷ taken) base
      (number + 1) old.next.entries are.tried
      (tried_next (name ∷ taken) base number (tried_more taken name base number tried)
      (or_left (bytes_eq (with_number base number) name) _ ((bytes_eq-Decides (with_number base number) name).1
      (sym is)))));
}

-- The first name that is free

-- the first number that is not taken
pub free_there : (others from number : ℕ) (taken : List (List ℕ)) (base : List ℕ) → from ≤ number
    → number ≤ from + others
    → ((other : ℕ) → from ≤ other → other < number → is_taken taken (with_number base other) ≡ true)
    → is_taken taken (with_number base number) ≡ false → with_number base number ≡ free_from others from taken base
free_there zero from number taken base least most each free =
    let same : number ≡ from = omega arith in ap (with_number base) same
free_there (suc others) from number taken base least most each free =
    by_place (number == from) refl
    (λ less. free_there others (from + 1) number taken base (omega arith) (omega arith)
    (λ other low high. each other (omega arith) high) free)
  where
    by_place : (test : Bool) → (number == from) ≡ test
        → (from < number → with_number base number ≡ free_from others (from + 1) taken base)
        → with_number base number ≡ free_from (suc others) from taken base
    by_place true is later =
        let same : number ≡ from = eqb-true number from is in
        let none : is_taken taken (with_number base from) ≡ false =
        subst (λ n. is_taken taken (with_number base n) ≡ false) same free in
        ap (with_number base) same
        ∙ ap (λ b. if b then free_from others (from + 1) taken base else with_number base from) (sym none)
    by_place false differs later =
        let less : from < number = grind (arith, nat_tests) in
        later less
        ∙ ap (λ b. if b then free_from others (from + 1) taken base else with_number base from)
        (sym (each from (omega arith) less))

pub number_free : (taken : List (List ℕ)) (base name text : List ℕ) (number : ℕ) → IsTried taken base number
    → number ≤ 2 + length taken → name ≡ text → text ≡ with_number base number → is_taken taken text ≡ false
    → name ≡ free_from (length taken) 2 taken base
number_free taken base name text number tried most is of_number free =
    is ∙ of_number ∙ free_there (length taken) 2 number taken base tried.least most tried.each
    (ap (is_taken taken) (sym of_number) ∙ free)

-- Pages, one after the other

pub named_more : (taken : List (List ℕ)) (pages more : List PagePlan) (page : pages_spec.Use)
    (rest whole : List pages_spec.Use) (old new : PageNames) (made : PagePlan) (index : ℕ) → index ≡ length pages
    → more ≡ pages ++ made ∷ [] → AreNamed taken pages (page ∷ rest) whole old → IsNamed index taken page made new
    → AreNamed (made.name ∷ taken) more rest whole new
named_more taken pages more page rest whole old new made index counted pushed so_far named =
    let name : made.name ≡ name_for index taken page = ap (λ (p : PagePlan). p.name) named.is in
    record {
      takes = named.takes;
      are =
          ap (λ ps. ps ++ named_from (length ps) (made.name ∷ taken) rest) pushed
          ∙ append_assoc pages (made ∷ []) _
          ∙ ap (λ n. pages ++ made ∷ named_from n (made.name ∷ taken) rest)
          (length-append pages (made ∷ []) ∙ ap (λ n. n + 1) (sym counted))
          ∙ ap (λ m. pages ++ m ∷ named_from (index + 1) (made.name ∷ taken) rest) named.is
          ∙ ap (λ n. pages ++ page_of_use page (name_for index taken page) ∷ named_from (index + 1)
          (n ∷ taken) rest) name
          ∙ ap (λ i. pages ++ named_from i taken (page ∷ rest)) counted
          ∙ so_far.are;
    }

-- Names with numbers

min_below : (a b limit number : ℕ) → limit ≡ min (a + 3) b → number < limit → number < a + 3
min_below a b limit number is below = omega (arith, is, below)

-- a name with this number was free
pub number_taken : (taken : List (List ℕ)) (base name text : List ℕ) (number count limit : ℕ)
    (start before after : PageNames) → AreTaken taken start → IsTried taken base number
    → count ≡ length start.taken.keys → limit ≡ min (count + 3) (2 ^ 64 - 1) → number < limit
    → text ≡ with_number base number → IsTakenBy taken text before (Some name) → after.taken ≡ before.taken
    → after.next.entries ≡ insert_entry (slice_cmp nat_cmp) before.next.entries base (number + 1)
    → IsFound taken (free_from (length taken) 2 taken base) name after
number_taken taken base name text number count limit start before after are tried counted is_limit below of_number
    by kept put =
    let less : number < count + 3 = min_below count (2 ^ 64 - 1) limit number is_limit below in
    let many = are.many in
    record {
      is = number_free taken base name text number tried (omega (arith, counted)) by.0 of_number by.1;
      takes = number_put taken base name number before after by.2 tried (by.0 ∙ of_number) kept put;
    }

-- or it was taken
pub number_known : (taken : List (List ℕ)) (base text : List ℕ) (number : ℕ) (after : PageNames)
    → IsTried taken base number → text ≡ with_number base number → IsTakenBy taken text after None
    → AreTaken taken after × IsTried taken base (number + 1)
number_known taken base text number after tried of_number by =
    (by.1, tried_next taken base number tried (ap (is_taken taken) (sym of_number) ∙ by.0))

-- the faults of one page more
pub faults_more : (nodes : List PlanNode) (start old new : List Fault) (pages more : List PagePlan) (made : PagePlan)
    → old ≡ start ++ flat_map (name_fault nodes) pages → new ≡ old ++ name_fault nodes made → more ≡ pages ++ made ∷ []
    → new ≡ start ++ flat_map (name_fault nodes) more
faults_more nodes start old new pages more made before met pushed =
    met ∙ ap (λ fs. fs ++ name_fault nodes made) before
    ∙ append_assoc start (flat_map (name_fault nodes) pages) (name_fault nodes made)
    ∙ ap (λ fs. start ++ (flat_map (name_fault nodes) pages ++ fs)) (sym (append-nil (name_fault nodes made)))
    ∙ ap (λ fs. start ++ fs) (sym (flat_map-append (name_fault nodes) pages (made ∷ [])))
    ∙ ap (λ ps. start ++ flat_map (name_fault nodes) ps) (sym pushed)

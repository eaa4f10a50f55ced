-- The table, one page after the other, and what is found in it.
use Rattle.std.specs.Prelude.{◌≡◌, ◌&&◌, ◌||◌, not, ℕ, Bool, true, false, List, [], ◌∷◌, ◌++◌, Option, Some, None, cond, is_some, length, option_map}
use Rattle.std.specs.BTreeMap as tree
use Rattle.std.specs.Cmp.Lexicographic.{slice_cmp, texts_ties}
use Rattle.std.specs.Option.{option_or}
use Rattle.std.specs.Ordering.{nat_cmp}
use Rattle.std.proofs.Common.{refl, sym, ap, subst, ◌∙◌}
use Rattle.dita_doc.proofs.NameOrder.{same_from_equal}
use Rattle.dita_doc.proofs.Orders.{equal_test}
use Rattle.dita_doc.specs.declared.plan.PageId.{PageId}
use Rattle.dita_doc.specs.declared.plan.PagePlan.{PagePlan}
use Rattle.map_spec.specs.Pages.{is_page_for, is_page_of, is_same_context, page_for, place_of}
use Rattle.page_table.specs.Pages.{IsPageTable, doc_in, doc_with, first_page, key_of, order, page_at}
use Rattle.page_table.specs.declared.keys.PageKey.{PageKey}
use Rattle.page_table.specs.declared.table.DocPages.{DocPages}
use Rattle.page_table.specs.declared.table.PageTable.{PageTable}
use Rattle.page_table.proofs.KeyLaws.{equal_keys, keys_same}
use Rattle.page_table.proofs.PlaceLaws.{if_holds, none_for, page_more}

pub no_pages : (table : PageTable) → table.docs.entries ≡ [] → table.pages.entries ≡ [] → IsPageTable [] table
no_pages table docs pages = record {
  first = λ name. rw docs refl;
  each = λ name context. rw pages refl;
  alone = λ name context doc is alone.
      let none : doc_in table name ≡ None = rw docs refl in let no : None ≡ Some doc = sym none ∙ is in cc;
}

or_none : (place : Option ℕ) → option_or place None ≡ place
or_none None = refl
or_none (Some at) = refl

-- the table has this for a document, and this for a key that it had not
abbrev PutsDoc : PageTable → PageTable → List ℕ → DocPages → Type 0
PutsDoc old new name doc = (q : List ℕ) → doc_in new q
    ≡ cond (tree.is_at (slice_cmp nat_cmp name) q) (Some doc) (doc_in old q)

abbrev pub PutsPage : PageTable → PageTable → PageKey → ℕ → Type 0
PutsPage old new key place = (q : PageKey) → page_at new q ≡ cond (tree.is_at (order key) q) (Some place) (page_at old q)

module _ (pages : List PagePlan) (page : PagePlan) (old new : PageTable) (before : IsPageTable pages old) where
  abbrev with_it : List PagePlan
  with_it = pages ++ page ∷ []

  doc_test : (name : List ℕ) → tree.is_at (slice_cmp nat_cmp page.id.doc) name ≡ is_page_of name page
  doc_test name = sym (texts_ties page.id.doc name)

  same_doc : (name : List ℕ) → is_page_of name page ≡ true → page.id.doc ≡ name
  same_doc name is = same_from_equal page.id.doc name
      (equal_test (slice_cmp nat_cmp page.id.doc name) (doc_test name ∙ is))

  -- the first page of a document
  first_with : (found : Option DocPages) (place : Option ℕ) → option_map first_page found ≡ place
      → Some (doc_with found (length pages)).first ≡ option_or place (Some (length pages))
  first_with None place is = ap (λ p. option_or p (Some (length pages))) is
  first_with (Some doc) place is = ap (λ p. option_or p (Some (length pages))) is

  first_more : (name : List ℕ) → PutsDoc old new page.id.doc (doc_with (doc_in old page.id.doc) (length pages))
      → option_map first_page (doc_in new name) ≡ place_of (is_page_of name) 0 with_it
  first_more name puts = ap (option_map first_page) (puts name)
      ∙ by_test (is_page_of name page) refl (doc_test name)
    where
      by_test : (holds : Bool) → is_page_of name page ≡ holds
          → tree.is_at (slice_cmp nat_cmp page.id.doc) name ≡ is_page_of name page
          → option_map first_page (cond (tree.is_at (slice_cmp nat_cmp page.id.doc) name)
          (Some (doc_with (doc_in old page.id.doc) (length pages))) (doc_in old name))
          ≡ place_of (is_page_of name) 0 with_it
      by_test true is at =
          ap (λ b. option_map first_page (cond b (Some (doc_with (doc_in old page.id.doc) (length pages)))
          (doc_in old name))) (at ∙ is)
          ∙ first_with (doc_in old page.id.doc) (place_of (is_page_of name) 0 pages)
          (ap (λ n. option_map first_page (doc_in old n)) (same_doc name is) ∙ before.first name)
          ∙ ap (λ b. option_or (place_of (is_page_of name) 0 pages) (if_holds b (length pages))) (sym is)
          ∙ sym (page_more (is_page_of name) pages page)
      by_test false is at =
          ap (λ b. option_map first_page (cond b (Some (doc_with (doc_in old page.id.doc) (length pages)))
          (doc_in old name))) (at ∙ is)
          ∙ before.first name ∙ sym (or_none (place_of (is_page_of name) 0 pages))
          ∙ ap (λ b. option_or (place_of (is_page_of name) 0 pages) (if_holds b (length pages))) (sym is)
          ∙ sym (page_more (is_page_of name) pages page)

  for_more : (name : List ℕ) (context : PageId) (holds : Bool) → is_page_for name context page ≡ holds
      → place_of (is_page_for name context) 0 with_it
      ≡ option_or (place_of (is_page_for name context) 0 pages) (if_holds holds (length pages))
  for_more name context holds is = page_more (is_page_for name context) pages page
      ∙ ap (λ b. option_or (place_of (is_page_for name context) 0 pages) (if_holds b (length pages))) is

  same_key : (name : List ℕ) (context : PageId) → is_page_for name context page ≡ true
      → key_of page.id.doc page.id ≡ key_of name context
  same_key name context is = equal_keys (key_of page.id.doc page.id) (key_of name context)
      (equal_test (order (key_of page.id.doc page.id) (key_of name context)) (keys_same page name context ∙ is))

  absent : (found : Option ℕ) → is_some found ≡ false → found ≡ None
  absent None is = refl
  absent (Some place) is = cc

  kept : (found : Option ℕ) (more : Option ℕ) → is_some found ≡ true → option_or found more ≡ found
  kept None more is = cc
  kept (Some place) more is = refl

  -- the key was not there
  each_put : (name : List ℕ) (context : PageId) → is_some (page_at old (key_of page.id.doc page.id)) ≡ false
      → PutsPage old new (key_of page.id.doc page.id) (length pages)
      → page_at new (key_of name context) ≡ place_of (is_page_for name context) 0 with_it
  each_put name context fresh puts = puts (key_of name context) ∙ by_test (is_page_for name context page) refl
    where
      by_test : (holds : Bool) → is_page_for name context page ≡ holds
          → cond (tree.is_at (order (key_of page.id.doc page.id)) (key_of name context)) (Some (length pages))
          (page_at old (key_of name context)) ≡ place_of (is_page_for name context) 0 with_it
      by_test true is =
          let none : place_of (is_page_for name context) 0 pages ≡ None = sym (before.each name context)
          ∙ ap (page_at old) (sym (same_key name context is)) ∙ absent (page_at old (key_of page.id.doc page.id)) fresh in
          ap (λ b. cond b (Some (length pages)) (page_at old (key_of name context))) (keys_same page name context ∙ is)
          ∙ ap (λ p. option_or p (Some (length pages))) (sym none) ∙ sym (for_more name context true is)
      by_test false is =
          ap (λ b. cond b (Some (length pages)) (page_at old (key_of name context))) (keys_same page name context ∙ is)
          ∙ before.each name context ∙ sym (or_none (place_of (is_page_for name context) 0 pages))
          ∙ sym (for_more name context false is)

  -- the key was there
  each_kept : (name : List ℕ) (context : PageId) → is_some (page_at old (key_of page.id.doc page.id)) ≡ true
      → page_at old (key_of name context) ≡ place_of (is_page_for name context) 0 with_it
  each_kept name context known = by_test (is_page_for name context page) refl
    where
      by_test : (holds : Bool) → is_page_for name context page ≡ holds
          → page_at old (key_of name context) ≡ place_of (is_page_for name context) 0 with_it
      by_test true is =
          before.each name context
          ∙ sym (kept (place_of (is_page_for name context) 0 pages) (Some (length pages))
          (ap is_some (sym (before.each name context)) ∙ ap (λ k. is_some (page_at old k))
          (sym (same_key name context is)) ∙ known))
          ∙ sym (for_more name context true is)
      by_test false is =
          before.each name context ∙ sym (or_none (place_of (is_page_for name context) 0 pages))
          ∙ sym (for_more name context false is)

  -- a document that has one page alone
  alone_with : (found : Option DocPages) (name : List ℕ) (context : PageId) → doc_in old name ≡ found
      → is_page_of name page ≡ true → (doc_with found (length pages)).alone ≡ true
      → page_for with_it name context ≡ Some (doc_with found (length pages)).first
  alone_with None name context is holds alone =
      let none : place_of (is_page_of name) 0 pages ≡ None =
      sym (before.first name) ∙ ap (option_map first_page) is in
      let first : place_of (is_page_of name) 0 with_it ≡ Some (length pages) =
      page_more (is_page_of name) pages page
      ∙ ap (λ b. option_or (place_of (is_page_of name) 0 pages) (if_holds b (length pages))) holds
      ∙ ap (λ p. option_or p (Some (length pages))) none in
      let own : place_of (is_page_for name context) 0 with_it
      ≡ if_holds (is_page_for name context page) (length pages) =
      for_more name context (is_page_for name context page) refl
      ∙ ap (λ p. option_or p (if_holds (is_page_for name context page) (length pages)))
      (none_for 0 pages name context none) in
      ap (λ p. option_or p (place_of (is_page_of name) 0 with_it)) own
      ∙ ap (option_or (if_holds (is_page_for name context page) (length pages))) first
      ∙ either (is_page_for name context page)
    where
      either : (b : Bool) → option_or (if_holds b (length pages)) (Some (length pages)) ≡ Some (length pages)
      either true = refl
      either false = refl
  alone_with (Some doc) name context is holds alone = cc

  alone_else : (name : List ℕ) (context : PageId) → is_page_of name page ≡ false
      → page_for with_it name context ≡ page_for pages name context
  alone_else name context other =
      let not_for : is_page_for name context page ≡ false = ap (λ b. b && is_same_context page.id context) other in
      ap (λ p. option_or p (place_of (is_page_of name) 0 with_it)) (for_more name context false not_for
      ∙ or_none (place_of (is_page_for name context) 0 pages))
      ∙ ap (option_or (place_of (is_page_for name context) 0 pages)) (page_more (is_page_of name) pages page
      ∙ ap (λ b. option_or (place_of (is_page_of name) 0 pages) (if_holds b (length pages))) other
      ∙ or_none (place_of (is_page_of name) 0 pages))

  alone_more : (name : List ℕ) (context : PageId) (doc : DocPages)
      → PutsDoc old new page.id.doc (doc_with (doc_in old page.id.doc) (length pages))
      → doc_in new name ≡ Some doc → doc.alone ≡ true → page_for with_it name context ≡ Some doc.first
  alone_more name context doc puts is alone = by_test (is_page_of name page) refl (sym (puts name) ∙ is)
    where
      by_test : (holds : Bool) → is_page_of name page ≡ holds
          → cond (tree.is_at (slice_cmp nat_cmp page.id.doc) name)
          (Some (doc_with (doc_in old page.id.doc) (length pages))) (doc_in old name) ≡ Some doc
          → page_for with_it name context ≡ Some doc.first
      by_test true holds at =
          let same : Some (doc_with (doc_in old page.id.doc) (length pages)) ≡ Some doc =
          sym (ap (λ b. cond b (Some (doc_with (doc_in old page.id.doc) (length pages))) (doc_in old name))
          (doc_test name ∙ holds)) ∙ at in
          let doc_is : doc_with (doc_in old page.id.doc) (length pages) ≡ doc = cc in
          alone_with (doc_in old page.id.doc) name context (ap (doc_in old) (sym (same_doc name holds))) holds
          (ap (λ (d : DocPages). d.alone) doc_is ∙ alone) ∙ ap (λ (d : DocPages). Some d.first) doc_is
      by_test false holds at =
          let same : doc_in old name ≡ Some doc =
          sym (ap (λ b. cond b (Some (doc_with (doc_in old page.id.doc) (length pages))) (doc_in old name))
          (doc_test name ∙ holds)) ∙ at in
          alone_else name context holds ∙ before.alone name context doc same alone

-- A key is fresh if no page has it. A document that is new has no page, so that its key is

abbrev pub IsFresh : PageTable → DocPages → PageKey → Bool
IsFresh table doc key = doc.alone || not (is_some (page_at table key))

not_there : (there : Bool) → true ≡ not there → there ≡ false
not_there false is = refl
not_there true is = cc

is_there : (alone there : Bool) → false ≡ (alone || not there) → there ≡ true
is_there false true is = refl
is_there false false is = cc
is_there true there is = cc

module _ (pages : List PagePlan) (page : PagePlan) (old : PageTable) (before : IsPageTable pages old) where
  fresh_key : (found : Option DocPages) (place : ℕ) → doc_in old page.id.doc ≡ found
      → true ≡ IsFresh old (doc_with found place) (key_of page.id.doc page.id)
      → is_some (page_at old (key_of page.id.doc page.id)) ≡ false
  fresh_key None place none fresh =
      let first : place_of (is_page_of page.id.doc) 0 pages ≡ None =
      sym (before.first page.id.doc) ∙ ap (option_map first_page) none in
      ap is_some (before.each page.id.doc page.id ∙ none_for 0 pages page.id.doc page.id first)
  fresh_key (Some doc) place known fresh = not_there (is_some (page_at old (key_of page.id.doc page.id))) fresh

-- one page more, as the table puts it
pub page_put : (pages : List PagePlan) (page : PagePlan) (old new : PageTable) (doc : DocPages) (name : List ℕ)
    (key : PageKey) (place : ℕ) → IsPageTable pages old → place ≡ length pages → name ≡ page.id.doc
    → key ≡ key_of page.id.doc page.id → doc ≡ doc_with (doc_in old page.id.doc) place
    → PutsDoc old new name doc → true ≡ IsFresh old doc key → PutsPage old new key place
    → IsPageTable (pages ++ page ∷ []) new
page_put pages page old new doc name key place before at named keyed made puts fresh put =
    let docs : PutsDoc old new page.id.doc (doc_with (doc_in old page.id.doc) (length pages)) =
    subst (λ n. PutsDoc old new n (doc_with (doc_in old page.id.doc) (length pages))) named
    (subst (PutsDoc old new name) (made ∙ ap (doc_with (doc_in old page.id.doc)) at) puts) in
    record {
      first = λ q. first_more pages page old new before q docs;
      each = λ q context. each_put pages page old new before q context
          (fresh_key pages page old before (doc_in old page.id.doc) place refl
          (fresh ∙ ap (λ d. IsFresh old d key) made ∙ ap (IsFresh old (doc_with (doc_in old page.id.doc) place)) keyed))
          (subst (λ k. PutsPage old new k (length pages)) keyed (subst (PutsPage old new key) at put));
      alone = λ q context found. alone_more pages page old new before q context found docs;
    }

-- the same, where its key was there
pub page_kept : (pages : List PagePlan) (page : PagePlan) (old new : PageTable) (doc : DocPages) (name : List ℕ)
    (key : PageKey) (place : ℕ) → IsPageTable pages old → place ≡ length pages → name ≡ page.id.doc
    → key ≡ key_of page.id.doc page.id → doc ≡ doc_with (doc_in old page.id.doc) place
    → PutsDoc old new name doc → false ≡ IsFresh old doc key → new.pages ≡ old.pages
    → IsPageTable (pages ++ page ∷ []) new
page_kept pages page old new doc name key place before at named keyed made puts known same =
    let docs : PutsDoc old new page.id.doc (doc_with (doc_in old page.id.doc) (length pages)) =
    subst (λ n. PutsDoc old new n (doc_with (doc_in old page.id.doc) (length pages))) named
    (subst (PutsDoc old new name) (made ∙ ap (doc_with (doc_in old page.id.doc)) at) puts) in
    record {
      first = λ q. first_more pages page old new before q docs;
      each = λ q context. ap (λ ps. tree.get order ps (key_of q context)) same
          ∙ each_kept pages page old new before q context
          (ap (λ k. is_some (page_at old k)) (sym keyed) ∙ is_there doc.alone (is_some (page_at old key)) known);
      alone = λ q context found. alone_more pages page old new before q context found docs;
    }

-- What is found

module _ (pages : List PagePlan) (table : PageTable) (is : IsPageTable pages table) (name : List ℕ)
    (context : PageId) where
  pub found_nothing : None ≡ doc_in table name → None ≡ page_for pages name context
  found_nothing none =
      let first : place_of (is_page_of name) 0 pages ≡ None =
      sym (is.first name) ∙ ap (option_map first_page) (sym none) in
      sym (ap (λ p. option_or p (place_of (is_page_of name) 0 pages)) (none_for 0 pages name context first) ∙ first)

  pub found_alone : (doc : DocPages) → Some doc ≡ doc_in table name → true ≡ doc.alone
      → Some doc.first ≡ page_for pages name context
  found_alone doc found alone = sym (is.alone name context doc (sym found) (sym alone))

  pub found_key : (key : PageKey) (place : ℕ) → key ≡ key_of name context → Some place ≡ page_at table key
      → Some place ≡ page_for pages name context
  found_key key place keyed found = sym (ap (λ p. option_or p (place_of (is_page_of name) 0 pages))
      (sym (is.each name context) ∙ ap (page_at table) (sym keyed) ∙ sym found))

  pub found_first : (doc : DocPages) (key : PageKey) → Some doc ≡ doc_in table name → key ≡ key_of name context
      → None ≡ page_at table key → Some doc.first ≡ page_for pages name context
  found_first doc key found keyed none = sym (ap (λ p. option_or p (place_of (is_page_of name) 0 pages))
      (sym (is.each name context) ∙ ap (page_at table) (sym keyed) ∙ sym none)
      ∙ sym (is.first name) ∙ ap (option_map first_page) (sym found))

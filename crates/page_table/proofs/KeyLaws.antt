-- The order of keys: two are equal exactly where a page is that of a document for a context.
use Rattle.std.specs.Prelude.{◌≡◌, ◌&&◌, ◌==◌, ℕ, Bool, true, false, List, bytes_eq}
use Rattle.std.specs.Cmp.Lexicographic.{slice_cmp}
use Rattle.std.specs.FinMap.{nat_cmp-IsAntisymmetric}
use Rattle.std.specs.Ordering.{is_eq, nat_cmp}
use Rattle.std.proofs.Common.{Equal, refl, ap, ◌∙◌}
use Rattle.std.proofs.lemmas.Map.Text.{is_eq-slice_cmp}
use Rattle.dita_doc.proofs.NameOrder.{same_from_equal}
use Rattle.dita_doc.proofs.Orders.{both_equal, numbers_same}
use Rattle.dita_doc.specs.declared.plan.PageId.{PageId}
use Rattle.dita_doc.specs.declared.plan.PagePlan.{PagePlan}
use Rattle.map_spec.specs.Pages.{are_same_affixes, are_same_texts, is_page_for}
use Rattle.plan_nodes.specs.Affixes.{texts_of}
use Rattle.page_table.specs.Pages.{key_of, order}
use Rattle.page_table.specs.declared.keys.PageKey.{PageKey}
use Rattle.plan_nodes.proofs.OrderLaws.{affixes_same, texts_equal, texts_same, then_is}

last_first : (s t a d : Bool) → (s && (t && (a && d))) ≡ (d && ((s && t) && a))
last_first true true true true = refl
last_first true true true false = refl
last_first true true false true = refl
last_first true true false false = refl
last_first true false a true = refl
last_first true false a false = refl
last_first false t a true = refl
last_first false t a false = refl

-- the key of a page is that of a document and a context exactly where it is their page
pub keys_same : (page : PagePlan) (name : List ℕ) (context : PageId)
    → is_eq (order (key_of page.id.doc page.id) (key_of name context)) ≡ is_page_for name context page
keys_same page name context =
    let id = page.id in
    then_is (nat_cmp id.scope context.scope) _
    ∙ ap (λ t. is_eq (nat_cmp id.scope context.scope) && t) (
    then_is (slice_cmp (slice_cmp nat_cmp) id.filters context.filters) _
    ∙ ap (λ t. is_eq (slice_cmp (slice_cmp nat_cmp) id.filters context.filters) && t) (
    then_is (slice_cmp (slice_cmp nat_cmp) (texts_of id.affixes) (texts_of context.affixes)) (slice_cmp nat_cmp id.doc name)
    ∙ ap (λ t. t && is_eq (slice_cmp nat_cmp id.doc name)) (affixes_same id.affixes context.affixes)
    ∙ ap (λ t. are_same_affixes id.affixes context.affixes && t) (is_eq-slice_cmp id.doc name))
    ∙ ap (λ t. t && (are_same_affixes id.affixes context.affixes && bytes_eq id.doc name))
    (texts_same id.filters context.filters))
    ∙ ap (λ t. t && (are_same_texts id.filters context.filters
    && (are_same_affixes id.affixes context.affixes && bytes_eq id.doc name)))
    (numbers_same id.scope context.scope)
    ∙ last_first (id.scope == context.scope) (are_same_texts id.filters context.filters)
    (are_same_affixes id.affixes context.affixes) (bytes_eq id.doc name)

abbrev key : ℕ → List (List ℕ) → List (List ℕ) → List ℕ → PageKey
key scope filters affixes doc = record { scope = scope; filters = filters; affixes = affixes; doc = doc }

pub equal_keys : (a b : PageKey) → order a b ≡ Equal → a ≡ b
equal_keys a b same =
    let one = both_equal (nat_cmp a.scope b.scope) _ same in
    let two = both_equal (slice_cmp (slice_cmp nat_cmp) a.filters b.filters) _ one.1 in
    let three = both_equal (slice_cmp (slice_cmp nat_cmp) a.affixes b.affixes) _ two.1 in
    ap (λ scope. key scope a.filters a.affixes a.doc) (nat_cmp-IsAntisymmetric a.scope b.scope one.0)
    ∙ ap (λ filters. key b.scope filters a.affixes a.doc) (texts_equal a.filters b.filters two.0)
    ∙ ap (λ affixes. key b.scope b.filters affixes a.doc) (texts_equal a.affixes b.affixes three.0)
    ∙ ap (λ doc. key b.scope b.filters b.affixes doc) (same_from_equal a.doc b.doc three.1)

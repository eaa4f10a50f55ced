-- The first use of each page, and one use more.
use Rattle.std.specs.Prelude.{◌≡◌, ◌||◌, ℕ, Bool, true, false, not, List, [], ◌∷◌, ◌++◌, if◌then◌else◌}
use Rattle.std.specs.BTreeMap.{is_at}
use Rattle.std.specs.BTreeSet.{insert_key}
use Rattle.std.specs.List.{list_any}
use Rattle.std.specs.Ordering.{is_eq}
use Rattle.std.proofs.Common.{sym, ap, ◌∙◌}
use Rattle.std.proofs.lemmas.List.{map-append}
use Rattle.dita_doc.specs.declared.plan.PageId.{PageId}
use Rattle.dita_doc.proofs.Lists.{any_push}
use Rattle.dita_doc.proofs.Tests.{not_true}
use Rattle.map_spec.specs.Pages as pages_spec
use Rattle.map_spec.specs.Pages.{is_same_page}
use Rattle.page_names.specs.PageUses.{AreFirst, is_used, key_of, order, with_use}
use Rattle.page_names.specs.Shown.{use_shown, uses_shown}
use Rattle.page_names.specs.declared.page_uses.PageKey.{PageKey}
use Rattle.page_names.specs.declared.page_uses.PageUses.{PageUses}
use Rattle.page_names.specs.declared.page_uses.Use.{Use}
use Rattle.page_names.proofs.KeyLaws.{any_key_put, keys_same, same_turned}

asked_is : (uses : List pages_spec.Use) (old : PageUses) (id : PageId) (key : PageKey) → AreFirst uses old
    → key ≡ key_of id → list_any (is_at (order key)) old.seen.keys ≡ is_used uses id
asked_is uses old id key first same = ap (λ k. list_any (is_at (order k)) old.seen.keys) same ∙ first.seen id

-- the use makes a page
pub page_more : (uses : List pages_spec.Use) (old new : PageUses) (key : PageKey) (page : pages_spec.Use) (made : Use)
    (added : Bool) → AreFirst uses old → key ≡ key_of page.id
    → added ≡ not (list_any (is_at (order key)) old.seen.keys) → added ≡ true
    → new.seen.keys ≡ insert_key order old.seen.keys key → new.uses.items ≡ old.uses.items ++ made ∷ []
    → use_shown made ≡ page → AreFirst (with_use uses page) new
page_more uses old new key page made added first same asked fresh put pushed shown =
    let absent : is_used uses page.id ≡ false =
    not_true (is_used uses page.id) added fresh (asked ∙ ap not (asked_is uses old page.id key first same)) in
    let with_it : uses ++ page ∷ [] ≡ with_use uses page =
    sym (ap (λ b. if b then uses else uses ++ page ∷ []) absent) in
    record {
      are =
          ap uses_shown pushed ∙ map-append use_shown old.uses.items (made ∷ [])
          ∙ ap (λ us. us ++ use_shown made ∷ []) first.are ∙ ap (λ u. uses ++ u ∷ []) shown ∙ with_it;
      seen = λ id.
          ap (list_any (is_at (order (key_of id)))) put
          ∙ any_key_put (is_at (order (key_of id))) key old.seen.keys
          ∙ ap (λ b. is_eq (order (key_of id) key) || b) (first.seen id)
          ∙ ap (λ b. b || is_used uses id)
          (ap (λ k. is_eq (order (key_of id) k)) same ∙ keys_same id page.id ∙ same_turned id page.id)
          ∙ sym (any_push (λ (u : pages_spec.Use). is_same_page u.id id) uses page)
          ∙ ap (λ us. is_used us id) with_it;
    }

abbrev made_of : PageId → ℕ → pages_spec.Use
made_of id node = record { id = id; node = node }

pub use_is : (id other : PageId) (node at : ℕ) → id ≡ other → node ≡ at → made_of id node ≡ made_of other at
use_is id other node at same place = ap (λ i. made_of i node) same ∙ ap (made_of other) place

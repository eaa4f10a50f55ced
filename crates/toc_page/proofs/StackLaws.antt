-- The items that are open, one more or one less.
use Rattle.std.specs.Prelude.{◌≡◌, ◌<◌, ◌≤◌, ℕ, Bool, List, [], ◌∷◌, ◌++◌, if◌then◌else◌}
use Rattle.std.proofs.Common.{refl, sym, ap, ◌∙◌, append_assoc}
use Rattle.std.proofs.lemmas.Bool.{le-ltb, lt-ltb}
use Rattle.toc_page.specs.Opened.{Stack, Page, Within, around_place, ends_all, ends_before, item_end, stack_on}
use Rattle.toc_page.specs.declared.list.OpenItem.{OpenItem}

-- the last item is the innermost
pub stack_more : (items : List OpenItem) (item : OpenItem) (around : Stack)
    → stack_on (items ++ item ∷ []) around ≡ Within item (stack_on items around)
stack_more [] item around = refl
stack_more (first ∷ items) item around = stack_more items item (Within first around)

-- all end, one after the other
pub ended_one : (out text : List ℕ) (item : OpenItem) (items : List OpenItem) (begun : Bool) → text ≡ out ++ item_end item
    → out ++ ends_all (stack_on (items ++ item ∷ []) (Page begun)) ≡ text ++ ends_all (stack_on items (Page begun))
ended_one out text item items begun is =
    ap (λ stack. out ++ ends_all stack) (stack_more items item (Page begun))
    ∙ sym (append_assoc out (item_end item) (ends_all (stack_on items (Page begun))))
    ∙ ap (λ l. l ++ ends_all (stack_on items (Page begun))) (sym is)

-- those before a place end
pub passed_text : (place : ℕ) (out text : List ℕ) (item : OpenItem) (items : List OpenItem) (begun : Bool)
    → item.end ≤ place → text ≡ out ++ item_end item
    → out ++ ends_before place (stack_on (items ++ item ∷ []) (Page begun))
    ≡ text ++ ends_before place (stack_on items (Page begun))
passed_text place out text item items begun past is =
    let rest = stack_on items (Page begun) in
    ap (λ stack. out ++ ends_before place stack) (stack_more items item (Page begun))
    ∙ ap (λ b. out ++ (if b then [] else item_end item ++ ends_before place rest)) (le-ltb place item.end past)
    ∙ sym (append_assoc out (item_end item) (ends_before place rest))
    ∙ ap (λ l. l ++ ends_before place rest) (sym is)

pub passed_open : (place : ℕ) (item : OpenItem) (items : List OpenItem) (begun : Bool) → item.end ≤ place
    → around_place place (stack_on (items ++ item ∷ []) (Page begun)) ≡ around_place place (stack_on items (Page begun))
passed_open place item items begun past =
    let rest = stack_on items (Page begun) in
    ap (around_place place) (stack_more items item (Page begun))
    ∙ ap (λ b. if b then Within item rest else around_place place rest) (le-ltb place item.end past)

-- one around a place stays, and so do those around it
pub kept_text : (place : ℕ) (item : OpenItem) (items : List OpenItem) (begun : Bool) → place < item.end
    → ends_before place (stack_on (items ++ item ∷ []) (Page begun)) ≡ []
kept_text place item items begun within =
    let rest = stack_on items (Page begun) in
    ap (ends_before place) (stack_more items item (Page begun))
    ∙ ap (λ b. if b then [] else item_end item ++ ends_before place rest) (lt-ltb place item.end within)

pub kept_open : (place : ℕ) (item : OpenItem) (items : List OpenItem) (begun : Bool) → place < item.end
    → around_place place (stack_on (items ++ item ∷ []) (Page begun)) ≡ stack_on (items ++ item ∷ []) (Page begun)
kept_open place item items begun within =
    let rest = stack_on items (Page begun) in
    ap (around_place place) (stack_more items item (Page begun))
    ∙ ap (λ b. if b then Within item rest else around_place place rest) (lt-ltb place item.end within)
    ∙ sym (stack_more items item (Page begun))

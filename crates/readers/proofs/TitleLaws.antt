-- A table of titles, found by their topics.
use Rattle.std.proofs.Common.{◌≡◌, ℕ, Bool, true, false, List, [], ◌∷◌, Option, Some, None, IfSome, Ordering, Less, Equal, Greater, cond, sym, subst, refl, ◌∙◌}
use Rattle.std.specs.BTreeMap.{insert_entry, is_at}
use Rattle.std.specs.Borrow.{Bor}
use Rattle.std.specs.Cmp.Lexicographic.{slice_cmp}
use Rattle.std.specs.Map.{lookup}
use Rattle.std.specs.Option.{option_copied}
use Rattle.std.specs.Ordering.{match_ordering, nat_cmp, ordering_then}
use Rattle.dita_doc.proofs.NameOrder.{same_from_equal}
use Rattle.dita_doc.proofs.Orders.{both_equal, equal_test}
use Rattle.map_spec.specs.Titles.{title_in}
use Rattle.reader_spec.specs.World.{World}
use Rattle.readers.specs.Titled.{AreTitles, IsTitle, Titled}
use Rattle.readers.specs.declared.title_table.TitleKey.{TitleKey}

-- the order of topics
abbrev order : TitleKey → TitleKey → Ordering
order a b = ordering_then (slice_cmp nat_cmp a.name b.name) (slice_cmp nat_cmp a.topic b.topic)

-- topics that the order takes for one have one title
title_of_equal : (world : World) (a b : TitleKey) (text : List ℕ) → order a b ≡ Equal → IsTitle world (b, text)
    → IsTitle world (a, text)
title_of_equal world a b text equal title =
    let parts = both_equal (slice_cmp nat_cmp a.name b.name) (slice_cmp nat_cmp a.topic b.topic) equal in
    subst (λ name. title_in world name a.topic ≡ text) (sym (same_from_equal a.name b.name parts.0))
    (subst (λ topic. title_in world b.name topic ≡ text) (sym (same_from_equal a.topic b.topic parts.1)) title)

pub title_found : (world : World) (topic : TitleKey) (all : List Titled) → AreTitles world all
    → IfSome (lookup (is_at (order topic)) all) (λ text. IsTitle world (topic, text))
title_found world topic [] titles = tt
title_found world topic (titled ∷ more) titles =
    by_test (title_found world topic more titles.1) (is_at (order topic) titled.0) refl
  where
    by_test : IfSome (lookup (is_at (order topic)) more) (λ text. IsTitle world (topic, text)) → (test : Bool)
        → is_at (order topic) titled.0 ≡ test
        → IfSome (cond test (Some titled.1) (lookup (is_at (order topic)) more)) (λ text. IsTitle world (topic, text))
    by_test behind true same =
        title_of_equal world topic titled.0 titled.1 (equal_test (order topic titled.0) same) titles.0
    by_test behind false same = behind

pub title_put : (world : World) (topic : TitleKey) (text : List ℕ) (all : List Titled) → AreTitles world all
    → IsTitle world (topic, text) → AreTitles world (insert_entry order all topic text)
title_put world topic text [] titles title = (title, tt)
title_put world topic text (titled ∷ more) titles title =
    by_order (title_put world topic text more titles.1 title) (order topic titled.0) refl
  where
    turned : order topic titled.0 ≡ Equal → IsTitle world (titled.0, text)
    turned equal = let parts = both_equal (slice_cmp nat_cmp topic.name titled.0.name)
        (slice_cmp nat_cmp topic.topic titled.0.topic) equal in
        subst (λ name. title_in world name titled.0.topic ≡ text) (same_from_equal topic.name titled.0.name parts.0)
        (subst (λ t. title_in world topic.name t ≡ text) (same_from_equal topic.topic titled.0.topic parts.1) title)

    by_order : AreTitles world (insert_entry order more topic text) → (o : Ordering) → order topic titled.0 ≡ o
        → AreTitles world (match_ordering o ((topic, text) ∷ titled ∷ more) ((titled.0, text) ∷ more)
        (titled ∷ insert_entry order more topic text))
    by_order behind Less is = (title, titles)
    by_order behind Equal is = (turned is, titles.1)
    by_order behind Greater is = (titles.0, behind)

-- what a search gave, as a reference to the text
pub text_found : (P : List ℕ → Type 0) (found : Option (Bor (List ℕ))) (text : Option (List ℕ))
    → option_copied found ≡ text → IfSome text P → IfSome found (λ t. P t.now)
text_found P None text is holds = tt
text_found P (Some t) text is holds = subst (λ o. IfSome o P) (sym is) holds

-- the title of a topic, said of the same topic
pub title_moved : (world : World) (at : TitleKey) (name topic text copy : List ℕ) → at.name ≡ name → at.topic ≡ topic
    → copy ≡ text → title_in world at.name at.topic ≡ text → title_in world name topic ≡ copy
title_moved world at name topic text copy of_name of_topic same title =
    subst (λ n. title_in world n topic ≡ copy) of_name
    (subst (λ t. title_in world at.name t ≡ copy) of_topic (title ∙ sym same))

pub title_at : (world : World) (at : TitleKey) (name topic text copy : List ℕ) → at.name ≡ name → at.topic ≡ topic
    → copy ≡ text → title_in world name topic ≡ text → title_in world at.name at.topic ≡ copy
title_at world at name topic text copy of_name of_topic same title =
    subst (λ n. title_in world n at.topic ≡ copy) (sym of_name)
    (subst (λ t. title_in world name t ≡ copy) (sym of_topic) (title ∙ sym same))

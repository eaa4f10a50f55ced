-- The documents that are used, each once, and their kinds.
use Rattle.std.specs.Prelude.{◌≡◌, ◌||◌, ℕ, Bool, true, false, List, [], ◌∷◌, ◌++◌, Option, Some, None, bytes_eq, if◌then◌else◌}
use Rattle.std.specs.BTreeMap.{insert_entry, is_at}
use Rattle.std.specs.Cmp.Lexicographic.{slice_cmp}
use Rattle.std.specs.List.{list_any}
use Rattle.std.specs.Map.{lookup}
use Rattle.std.specs.Ordering.{is_eq, match_ordering, nat_cmp}
use Rattle.std.proofs.Common.{Ordering, Less, Equal, Greater, cond, refl, sym, ap, subst, ◌∙◌}
use Rattle.std.proofs.lemmas.Bool.{false≢true}
use Rattle.std.proofs.lemmas.Slice.Eq.{bytes_eq-Decides}
use Rattle.dita_doc.proofs.Lists.{any_push}
use Rattle.dita_doc.proofs.NameOrder.{same_from_equal}
use Rattle.dita_doc.proofs.Orders.{at_text}
use Rattle.dita_doc.specs.declared.question.DocKind.{DocKind}
use Rattle.map_spec.specs.Titles.{kind_in}
use Rattle.reader_spec.specs.World.{World}
use Rattle.page_names.specs.Used.{AreUsed, IsKindOf, kind_known, with_name}
use Rattle.page_names.specs.declared.documents.Documents.{Documents}

abbrev Entry : Type 0
Entry = List ℕ × DocKind

abbrev find_kind : List ℕ → List Entry → Option DocKind
find_kind name entries = lookup (is_at (slice_cmp nat_cmp name)) entries

-- a search in a table with one more entry
kind_put : (name key : List ℕ) (kind : DocKind) (entries : List Entry)
    → find_kind name (insert_entry (slice_cmp nat_cmp) entries key kind)
    ≡ (if bytes_eq name key then Some kind else find_kind name entries)
kind_put name key kind [] = ap (λ b. cond b (Some kind) None) (at_text key name)
kind_put name key kind (entry ∷ more) =
    by_order (kind_put name key kind more) (slice_cmp nat_cmp key entry.0) refl
  where
    not_both : (a b : Bool) (x y : Option DocKind) → (a ≡ true → b ≡ true → x ≡ y) → (z : Option DocKind)
        → cond a x (if b then y else z) ≡ (if b then y else cond a x z)
    not_both true true x y same z = same refl refl
    not_both true false x y same z = refl
    not_both false b x y same z = refl

    -- one entry is not at two names
    apart : slice_cmp nat_cmp key entry.0 ≡ Greater → is_at (slice_cmp nat_cmp name) entry.0 ≡ true
        → bytes_eq name key ≡ true → Some entry.1 ≡ Some kind
    apart greater here there =
        let one : name ≡ entry.0 = (bytes_eq-Decides name entry.0).0 (sym (at_text entry.0 name) ∙ here) in
        let two : name ≡ key = (bytes_eq-Decides name key).0 there in
        let equal : is_at (slice_cmp nat_cmp key) entry.0 ≡ true =
        at_text entry.0 key ∙ (bytes_eq-Decides key entry.0).1 (sym two ∙ one) in
        absurd (false≢true (sym (ap is_eq greater) ∙ equal))

    by_order : find_kind name (insert_entry (slice_cmp nat_cmp) more key kind)
        ≡ (if bytes_eq name key then Some kind else find_kind name more) → (o : Ordering)
        → slice_cmp nat_cmp key entry.0 ≡ o
        → find_kind name (match_ordering o ((key, kind) ∷ entry ∷ more) ((entry.0, kind) ∷ more)
        (entry ∷ insert_entry (slice_cmp nat_cmp) more key kind))
        ≡ (if bytes_eq name key then Some kind else find_kind name (entry ∷ more))
    by_order behind Less is = ap (λ b. cond b (Some kind) (find_kind name (entry ∷ more))) (at_text key name)
    by_order behind Equal is =
        ap (λ b. cond b (Some kind) (find_kind name more))
        (at_text entry.0 name ∙ ap (bytes_eq name) (sym (same_from_equal key entry.0 is)))
        ∙ again (bytes_eq name key) (is_at (slice_cmp nat_cmp name) entry.0)
        (at_text entry.0 name ∙ ap (bytes_eq name) (sym (same_from_equal key entry.0 is)))
      where
        again : (a b : Bool) → b ≡ a → cond a (Some kind) (find_kind name more)
            ≡ (if a then Some kind else cond b (Some entry.1) (find_kind name more))
        again true b same = refl
        again false true same = cc
        again false false same = refl
    by_order behind Greater is =
        ap (cond (is_at (slice_cmp nat_cmp name) entry.0) (Some entry.1)) behind
        ∙ not_both (is_at (slice_cmp nat_cmp name) entry.0) (bytes_eq name key) (Some entry.1) (Some kind) (apart is)
        (find_kind name more)

-- what is known with one more name
known_push : (world : World) (names : List (List ℕ)) (key name : List ℕ)
    → (if bytes_eq name key then Some (kind_in world key) else kind_known world names name)
    ≡ kind_known world (names ++ key ∷ []) name
known_push world names key name =
    by_test (bytes_eq name key) (list_any (bytes_eq name) names) refl
    ∙ ap (λ b. if b then Some (kind_in world name) else None) (sym (any_push (bytes_eq name) names key))
  where
    by_test : (a b : Bool) → bytes_eq name key ≡ a
        → (if a then Some (kind_in world key) else (if b then Some (kind_in world name) else None))
        ≡ (if a || b then Some (kind_in world name) else None)
    by_test true b same = ap (λ n. Some (kind_in world n)) (sym ((bytes_eq-Decides name key).0 same))
    by_test false b same = refl

known_there : (world : World) (names : List (List ℕ)) (name : List ℕ) (kind : DocKind)
    → Some kind ≡ kind_known world names name → (kind ≡ kind_in world name) × (with_name names name ≡ names)
known_there world names name kind is = by_test (list_any (bytes_eq name) names) is
  where
    by_test : (b : Bool) → Some kind ≡ (if b then Some (kind_in world name) else None)
        → (kind ≡ kind_in world name) × ((if b then names else names ++ name ∷ []) ≡ names)
    by_test true is = (cc, refl)
    by_test false is = cc

known_not : (world : World) (names : List (List ℕ)) (name : List ℕ) → None ≡ kind_known world names name
    → names ++ name ∷ [] ≡ with_name names name
known_not world names name is = by_test (list_any (bytes_eq name) names) is
  where
    by_test : (b : Bool) → None ≡ (if b then Some (kind_in world name) else None)
        → names ++ name ∷ [] ≡ (if b then names else names ++ name ∷ [])
    by_test true is = cc
    by_test false is = refl

-- a document whose kind is known
pub kind_again : (world : World) (names : List (List ℕ)) (name : List ℕ) (kind : DocKind) (documents : Documents)
    → Some kind ≡ find_kind name documents.kinds.entries → AreUsed world names documents
    → IsKindOf world names name kind documents
kind_again world names name kind documents is used =
    let there = known_there world names name kind (is ∙ used.kinds name) in record {
      is = there.0;
      used = subst (λ ns. AreUsed world ns documents) (sym there.1) used;
    }

-- a document whose kind was asked for
pub kind_asked : (world : World) (names : List (List ℕ)) (name key copy : List ℕ) (kind : DocKind) (old new : Documents)
    → find_kind name old.kinds.entries ≡ None → AreUsed world names old → kind_in world name ≡ kind → key ≡ name
    → copy ≡ name → new.kinds.entries ≡ insert_entry (slice_cmp nat_cmp) old.kinds.entries key kind
    → new.names ≡ old.names ++ copy ∷ [] → IsKindOf world names name kind new
kind_asked world names name key copy kind old new none used asked of_key of_copy put pushed =
    let with_it = known_not world names name (sym none ∙ used.kinds name) in record {
      is = sym asked;
      used = record {
        are = pushed ∙ ap (λ c. old.names ++ c ∷ []) of_copy ∙ ap (λ ns. ns ++ name ∷ []) used.are ∙ with_it;
        kinds = λ other.
            ap (find_kind other) (put ∙ ap (λ k. insert_entry (slice_cmp nat_cmp) old.kinds.entries k kind) of_key)
            ∙ kind_put other name kind old.kinds.entries
            ∙ ap (λ k. if bytes_eq other name then Some k else find_kind other old.kinds.entries) (sym asked)
            ∙ ap (λ o. if bytes_eq other name then Some (kind_in world name) else o) (used.kinds other)
            ∙ known_push world names name other
            ∙ ap (λ ns. kind_known world ns other) with_it;
      };
    }

-- The types of an element by its tokens, one after the other.
use Rattle.std.specs.Prelude.{◌≡◌, ◌==◌, ◌||◌, ℕ, Bool, true, not, List, [], ◌∷◌, length, bytes_eq}
use Rattle.std.specs.List.{list_any}
use Rattle.std.proofs.Common.{sym, ap, ◌∙◌, arith}
use Rattle.dita_doc.proofs.LackLaws.{no_equal}
use Rattle.dita_doc.proofs.Tests.{or_assoc, or_false, or_true}
use Rattle.doc_elements.proofs.SpecialLaws.{has_some}

-- one more token
pub token_more : (token word : List ℕ) (all before behind : List (List ℕ)) (seen now : Bool)
    → (seen || list_any (bytes_eq token) before) ≡ list_any (bytes_eq token) all → before ≡ word ∷ behind
    → now ≡ (seen || bytes_eq token word)
    → (now || list_any (bytes_eq token) behind) ≡ list_any (bytes_eq token) all
token_more token word all before behind seen now is first same =
    ap (λ b. b || list_any (bytes_eq token) behind) same
    ∙ or_assoc seen (bytes_eq token word) (list_any (bytes_eq token) behind)
    ∙ ap (λ words. seen || list_any (bytes_eq token) words) (sym first) ∙ is

pub token_last : (token : List ℕ) (all before : List (List ℕ)) (seen : Bool)
    → (seen || list_any (bytes_eq token) before) ≡ list_any (bytes_eq token) all → before ≡ []
    → seen ≡ list_any (bytes_eq token) all
token_last token all before seen is none =
    sym (or_false seen) ∙ ap (λ words. seen || list_any (bytes_eq token) words) (sym none) ∙ is

some_first : (word : List ℕ) (words : List (List ℕ)) → has_some (word ∷ words) ≡ true
some_first word words = ap not (no_equal (length (word ∷ words)) 0 (λ same. omega arith))

pub any_more : (word : List ℕ) (all before behind : List (List ℕ)) (seen now : Bool)
    → (seen || not (length before == 0)) ≡ not (length all == 0) → before ≡ word ∷ behind → now ≡ true
    → (now || not (length behind == 0)) ≡ not (length all == 0)
any_more word all before behind seen now is first same =
    ap (λ b. b || has_some behind) same
    ∙ sym (or_true seen) ∙ ap (λ b. seen || b) (sym (some_first word behind))
    ∙ ap (λ words. seen || has_some words) (sym first) ∙ is

pub any_last : (all before : List (List ℕ)) (seen : Bool)
    → (seen || not (length before == 0)) ≡ not (length all == 0) → before ≡ [] → seen ≡ not (length all == 0)
any_last all before seen is none =
    sym (or_false seen) ∙ ap (λ words. seen || has_some words) (sym none) ∙ is

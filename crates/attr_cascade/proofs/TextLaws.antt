-- Texts one behind the other, with the set of them.
use Rattle.std.specs.Prelude.{◌≡◌, ◌+◌, ◌<◌, ◌==◌, Option, None, Some, MatchOption, take, ℕ, suc, Bool, true, false, not, List, [], ◌∷◌, ◌++◌, length, if◌then◌else◌}
use Rattle.std.specs.BTreeMap.{is_at}
use Rattle.std.specs.BTreeSet.{insert_key}
use Rattle.std.specs.List.{list_any}
use Rattle.std.proofs.Common.{refl, sym, ap, subst, ◌∙◌, arith, get_or, length-append}
use Rattle.std.proofs.lemmas.List.{append-nil, append_assoc, length-map, length-take, take_more}
use Rattle.std.proofs.lemmas.Bool.Decides.{nat_tests}
use Rattle.plan_nodes.proofs.TextSetLaws.{Str, has_one, is_one, order, set_put, texts_push}
use Rattle.dita_doc.specs.Bytes.{space}
use Rattle.dita_doc.proofs.Tests.{not_false, not_true}
use Rattle.map_spec.specs.Cascade.{spaced, with_new}
use Rattle.attr_cascade.specs.Tokens.{AreTexts, texts, with_one}

-- one more text, and the set with it
pub both_put : (old tokens keys later : List Str) (text : Str) (all : List (List ℕ)) → AreTexts old keys all
    → tokens ≡ old ++ text ∷ [] → later ≡ insert_key order keys text → AreTexts tokens later (all ++ text.now ∷ [])
both_put old tokens keys later text all are more put = record {
  are = ap texts more ∙ texts_push old text ∙ ap (λ some. some ++ text.now ∷ []) are.are;
  set = set_put keys later text all are.set put;
}

is_known : (old keys : List Str) (text : Str) (all : List (List ℕ)) → AreTexts old keys all
    → list_any (is_at (order text)) keys ≡ is_one text.now all
is_known old keys text all are = has_one text keys ∙ are.set text.now

pub one_put : (old tokens keys later : List Str) (text : Str) (all : List (List ℕ)) (added : Bool)
    → AreTexts old keys all → added ≡ not (list_any (is_at (order text)) keys) → added ≡ true
    → tokens ≡ old ++ text ∷ [] → later ≡ insert_key order keys text → AreTexts tokens later (with_one all text.now)
one_put old tokens keys later text all added are is new more put =
    let other : is_one text.now all ≡ false =
    sym (is_known old keys text all are) ∙ not_true (list_any (is_at (order text)) keys) added new is in
    subst (AreTexts tokens later)
    (ap (λ test. if test then all else all ++ text.now ∷ []) (sym other))
    (both_put old tokens keys later text all are more put)

pub none_put : (old keys later : List Str) (text : Str) (all : List (List ℕ)) (added : Bool)
    → AreTexts old keys all → added ≡ not (list_any (is_at (order text)) keys) → added ≡ false
    → later ≡ keys → AreTexts old later (with_one all text.now)
none_put old keys later text all added are is new same =
    let there : is_one text.now all ≡ true =
    sym (is_known old keys text all are) ∙ not_false (list_any (is_at (order text)) keys) added new is in
    subst (AreTexts old later)
    (ap (λ test. if test then all else all ++ text.now ∷ []) (sym there))
    (subst (λ ks. AreTexts old ks all) (sym same) are)

-- those of a list that are not there yet, one more
pub with_more : (all xs : List (List ℕ)) (y : List ℕ) → with_new all (xs ++ y ∷ []) ≡ with_one (with_new all xs) y
with_more all [] y = refl
with_more all (x ∷ xs) y = with_more (with_one all x) xs y

abbrev Grown : List (List ℕ) → List (List ℕ) → Type 0
Grown all new = (more : List (List ℕ)) × (new ≡ all ++ more)

grown_one : (test : Bool) (all own : List (List ℕ)) (x : List ℕ)
    → Grown (if test then all else all ++ x ∷ []) own → Grown all own
grown_one true all own x grown = grown
grown_one false all own x grown = (x ∷ grown.0, grown.1 ∙ append_assoc all (x ∷ []) grown.0)

grown_new : (all own : List (List ℕ)) → Grown all (with_new all own)
grown_new all [] = ([], sym (append-nil all))
grown_new all (x ∷ own) = grown_one (is_one x all) all (with_new (with_one all x) own) x (grown_new (with_one all x) own)

none_more : (all more : List (List ℕ)) → length (all ++ more) ≡ length all → all ++ more ≡ all
none_more all [] same = append-nil all
none_more all (x ∷ more) same = absurd (omega (arith, length-append all (x ∷ more)))

-- as many as before are those of before
pub none_new : (all own : List (List ℕ)) → length (with_new all own) ≡ length all → with_new all own ≡ all
none_new all own same =
    let grown = grown_new all own in
    grown.1 ∙ none_more all grown.0 (sym (ap length grown.1) ∙ same)

-- texts with a space between them, and one more
pub spaced-push : (xs : List (List ℕ)) (at : ℕ) (y : List ℕ) → at ≡ length xs
    → spaced (xs ++ y ∷ []) ≡ (if at == 0 then spaced xs ++ y else spaced xs ++ space ∷ y)
spaced-push [] at y is = rw is refl
spaced-push (x ∷ []) at y is = rw is refl
spaced-push (x ∷ next ∷ xs) at y is =
    let other : (at == 0) ≡ false = grind (arith, nat_tests) in
    let one : (suc (length xs) == 0) ≡ false = grind (arith, nat_tests) in
    let behind : spaced (next ∷ xs ++ y ∷ []) ≡ spaced (next ∷ xs) ++ space ∷ y =
    spaced-push (next ∷ xs) (suc (length xs)) y refl ∙ rw one refl in
    rw other (
    ap (λ more. x ++ space ∷ more) behind ∙ sym (append_assoc x (space ∷ spaced (next ∷ xs)) (space ∷ y))
    )

-- a word that was cut off stands behind those before it
pub words_on : (old new : List Str) (text : Str) (word : List ℕ) (all more value : List (List ℕ))
    → new ≡ old ++ text ∷ [] → text.now ≡ word → all ≡ word ∷ more → texts old ++ all ≡ value
    → texts new ++ more ≡ value
words_on old new text word all more value push same cut whole =
    ap (λ some. texts some ++ more) push
    ∙ ap (λ some. some ++ more) (texts_push old text)
    ∙ append_assoc (texts old) (text.now ∷ []) more
    ∙ ap (λ first. texts old ++ first ∷ more) same
    ∙ ap (λ words. texts old ++ words) (sym cut)
    ∙ whole

-- one more text of a list
abbrev pub no_str : Str
no_str = record { ref_ptr = (0, 0); now = [] }

pub take_texts : (all : List Str) (at : ℕ) → at < length all
    → texts (take (at + 1) all) ≡ texts (take at all) ++ (get_or all at no_str).now ∷ []
take_texts all at within =
    ap texts (take_more all at no_str within) ∙ texts_push (take at all) (get_or all at no_str)

pub match_weaker : {X : Type 0} (found : Option X) (P P' : Type 0) (Q Q' : X → Type 0) → (P → P')
    → ((x : X) → Q x → Q' x) → MatchOption found P Q → MatchOption found P' Q'
match_weaker None P P' Q Q' none some is = none is
match_weaker (Some x) P P' Q Q' none some is = some x is

length-texts : (tokens : List Str) → length (texts tokens) ≡ length tokens
length-texts tokens = length-map tokens (λ (token : Str). token.now)

pub merged_none : (old new : List Str) (all own : List (List ℕ)) (count : ℕ) → texts old ≡ all → count ≡ length old
    → texts new ≡ with_new all own → length new ≡ count → with_new all own ≡ all
merged_none old new all own count before long after same =
    none_new all own (
    sym (ap length after) ∙ length-texts new ∙ same ∙ long ∙ sym (length-texts old) ∙ ap length before
    )

pub spaced_more : (all : List Str) (at : ℕ) (old new : List ℕ) → at < length all → old ≡ spaced (texts (take at all))
    → new ≡ (if at == 0 then old ++ (get_or all at no_str).now else old ++ space ∷ (get_or all at no_str).now)
    → new ≡ spaced (texts (take (at + 1) all))
spaced_more all at old new within told is =
    let last = (get_or all at no_str).now in
    let long : at ≡ length (texts (take at all)) =
    omega (arith, length-texts (take at all), length-take at all) in
    is ∙ ap (λ v. if at == 0 then v ++ last else v ++ space ∷ last) told
    ∙ sym (ap spaced (take_texts all at within) ∙ spaced-push (texts (take at all)) at last long)

pub some_texts : (tokens : List Str) (count : ℕ) → false ≡ (count == 0) → count ≡ length tokens
    → 0 < length (texts tokens)
some_texts tokens count some long =
    let many : 0 < count = grind (arith, nat_tests) in
    omega (arith, length-texts tokens)

-- Which questions are told by calls one after another.
use Rattle.std.proofs.Common.{◌≡◌, ◌++◌, ◌||◌, ℕ, Bool, true, false, List, [], ◌∷◌, Option, None, IsTrue, Result, Ok, Err, IfOk, bytes_eq, map, sym, ap, subst, refl, ◌∙◌, append_assoc}
use Rattle.std.proofs.Math.Logic.{∥∥₁_elim}
use Rattle.std.proofs.lemmas.Bool.{and_from, and_parts, eq-eqb, false≢true, or_left, or_right}
use Rattle.std.proofs.lemmas.List.Folds.{list_all-append}
use Rattle.std.proofs.lemmas.Result.{IfOk-weaker}
use Rattle.std.proofs.lemmas.Slice.Eq.{bytes_eq-Decides}
use Rattle.std.specs.List.{list_all}
use Rattle.dita_doc.specs.Tree.{Content}
use Rattle.dita_doc.specs.declared.content.Push.{Push}
use Rattle.dita_doc.specs.declared.content.PushList.{PushList}
use Rattle.dita_doc.specs.declared.plan.Affix.{Affix}
use Rattle.dita_doc.specs.declared.plan.PageId.{PageId}
use Rattle.dita_doc.specs.declared.plan.PagePlan.{PagePlan}
use Rattle.dita_doc.specs.declared.plan.Reference.{Reference}
use Rattle.dita_doc.specs.declared.plan.Target.{Target}
use Rattle.dita_doc.specs.declared.plan.Target.TheVariants as targets
use Rattle.map_spec.specs.Pages.{are_same_affixes, are_same_texts, is_same_page}
use Rattle.map_spec.specs.Pushes.{pushes_into}
use Rattle.reader_spec.specs.World.{World}
use Rattle.readers.specs.Founded.{AreAmong, Grows, is_among}
use Rattle.readers.specs.Only.{TellsOnly, is_document_of, is_of_pushed, is_page_in, is_pushes_of, is_title_among, is_title_at, is_title_of, sources_of}
use Rattle.readers.specs.Told.{Told, document, kind, title, first, key, pushes, page_of, pending, pending_document}
use Rattle.readers.proofs.FoundedLaws.{among_first, among_one}

pub only_same : (test : Told → Bool) (old new : List Told) → new ≡ old → TellsOnly test old new
only_same test old new is = record { is = ∣ ([], (is, refl)) ∣₁ }

-- a question is told
pub only_told : (test : Told → Bool) (t : Told) (old new : List Told) → IsTrue (test t) → new ≡ t ∷ old
    → TellsOnly test old new
only_told test t old new passes is = record { is = ∣ (t ∷ [], (is, and_from (test t) _ passes refl)) ∣₁ }

-- one call after another
pub only_after : (test : Told → Bool) (a b c : List Told) → TellsOnly test a b → TellsOnly test b c
    → TellsOnly test a c
only_after test a b c before next = record {
  is = ∥∥₁_elim before.is (hlevel) (λ p. ∥∥₁_elim next.is (hlevel) (λ q. ∣ (
    q.0 ++ p.0,
    (
      q.1.0 ∙ ap (λ ts. q.0 ++ ts) p.1.0 ∙ sym (append_assoc q.0 p.0 a),
      list_all-append test q.0 p.0 ∙ and_from (list_all test q.0) (list_all test p.0) q.1.1 p.1.1,
    ),
  ) ∣₁));
}

-- all pass a test that lets more through
pub all_weaker : {X : Type 0} (less more : X → Bool) → ((x : X) → IsTrue (less x) → IsTrue (more x)) → (xs : List X)
    → IsTrue (list_all less xs) → IsTrue (list_all more xs)
all_weaker less more each [] all = refl
all_weaker less more each (x ∷ xs) all = let parts = and_parts (less x) (list_all less xs) all in
    and_from (more x) (list_all more xs) (each x parts.0) (all_weaker less more each xs parts.1)

-- a test that lets less through
pub only_weaker : (less more : Told → Bool) (old new : List Told) → ((t : Told) → IsTrue (less t) → IsTrue (more t))
    → TellsOnly less old new → TellsOnly more old new
only_weaker less more old new each only = record {
  is = ∥∥₁_elim only.is (hlevel) (λ p. ∣ (p.0, (p.1.0, all_weaker less more each p.0 p.1.1)) ∣₁);
}

-- one of two tests
pub only_left : (test other : Told → Bool) (old new : List Told) → TellsOnly test old new
    → TellsOnly (λ t. test t || other t) old new
only_left test other old new = only_weaker test _ old new (λ t. or_left (test t) (other t))

pub only_right : (other test : Told → Bool) (old new : List Told) → TellsOnly test old new
    → TellsOnly (λ t. other t || test t) old new
only_right other test old new = only_weaker test _ old new (λ t. or_right (other t) (test t))

-- a call that tells nothing
pub only_none : (test : Told → Bool) (old new : List Told) → TellsOnly (λ t. false) old new → TellsOnly test old new
only_none test old new = only_weaker _ test old new (λ t none. absurd (false≢true none))

pub only_grows : (test : Told → Bool) (old new : List Told) → TellsOnly test old new → Grows old new
only_grows test old new only = record { is = ∥∥₁_elim only.is (hlevel) (λ p. ∣ (p.0, p.1.0) ∣₁) }

-- what asks for one of some documents asks for one of all
pub documents_among : (some names : List (List ℕ))
    → ((m : List ℕ) → IsTrue (is_among some m) → IsTrue (is_among names m)) → (t : Told)
    → IsTrue (is_document_of some t) → IsTrue (is_document_of names t)
documents_among some names among (document name tree) here = among name here
documents_among some names among (kind name answer) here = absurd (false≢true here)
documents_among some names among (title name topic text) here = absurd (false≢true here)
documents_among some names among (first name id) here = absurd (false≢true here)
documents_among some names among (key nodes scope text answer) here = absurd (false≢true here)
documents_among some names among (pushes documents name answer) here = absurd (false≢true here)
documents_among some names among (page_of pages name context answer) here = absurd (false≢true here)
documents_among some names among (pending about) here = all_weaker (is_among some) (is_among names) among about here
documents_among some names among (pending_document name) here = among name here

-- a call that asks for one of the documents
pub only_one : (name : List ℕ) (names : List (List ℕ)) (old new : List Told) → IsTrue (is_among names name)
    → TellsOnly (is_document_of (name ∷ [])) old new → TellsOnly (is_document_of names) old new
only_one name names old new among = only_weaker _ _ old new (documents_among (name ∷ []) names
    (λ m here. subst (λ n. IsTrue (is_among names n)) (among_one name m here) among))

-- the document is asked for
pub document_is_of : (name : List ℕ) (tree : Option Content) → IsTrue (is_document_of (name ∷ []) (document name tree))
document_is_of name tree = among_first name []

bytes_same : (bytes : List ℕ) → IsTrue (bytes_eq bytes bytes)
bytes_same bytes = (bytes_eq-Decides bytes bytes).1 refl

-- the title of this topic is asked for
pub title_is_of : (name topic text : List ℕ) → IsTrue (is_title_of name topic (title name topic text))
title_is_of name topic text = and_from _ _ (bytes_same name) (bytes_same topic)

-- what asks for the title of one of some documents asks for that of one of all
pub titles_among : (some names : List (List ℕ)) → AreAmong some names → (t : Told) → IsTrue (is_title_among some t)
    → IsTrue (is_title_among names t)
titles_among some names among (document name tree) here = absurd (false≢true here)
titles_among some names among (kind name answer) here = absurd (false≢true here)
titles_among some names among (title name topic text) here = let parts = and_parts (is_among some name) _ here in
    and_from (is_among names name) _ (among.each name parts.0) parts.1
titles_among some names among (first name id) here = absurd (false≢true here)
titles_among some names among (key nodes scope text answer) here = absurd (false≢true here)
titles_among some names among (pushes documents name answer) here = absurd (false≢true here)
titles_among some names among (page_of pages name context answer) here = absurd (false≢true here)
titles_among some names among (pending about) here = all_weaker (is_among some) (is_among names) among.each about here
titles_among some names among (pending_document name) here = absurd (false≢true here)

-- the title of the first topic is asked for, by the empty text
pub title_is_among : (name text : List ℕ) → IsTrue (is_title_among (name ∷ []) (title name [] text))
title_is_among name text = and_from (is_among (name ∷ []) name) _ (among_first name []) (bytes_same [])

-- A page is the same page as itself

texts_same : (texts : List (List ℕ)) → IsTrue (are_same_texts texts texts)
texts_same [] = refl
texts_same (text ∷ texts) = and_from _ _ (bytes_same text) (texts_same texts)

affixes_same : (affixes : List Affix) → IsTrue (are_same_affixes affixes affixes)
affixes_same [] = refl
affixes_same (affix ∷ affixes) =
    and_from _ _ (and_from _ _ (bytes_same affix.prefix) (bytes_same affix.suffix)) (affixes_same affixes)

pub page_same : (id : PageId) → IsTrue (is_same_page id id)
page_same id = and_from _ _ (bytes_same id.doc)
    (and_from _ _ (and_from _ _ (eq-eqb id.scope id.scope refl) (texts_same id.filters)) (affixes_same id.affixes))

-- the page in this context is asked for
pub page_is_in : (pages : List PagePlan) (map name : List ℕ) (own : PageId) (place : Option ℕ)
    → IsTrue (is_page_in map name own
    (page_of pages name (record { map = map; val = None; page = own; name = name }) place))
page_is_in pages map name own place =
    and_from (bytes_eq name name) _ (bytes_same name)
    (and_from (is_same_page own own) _ (page_same own) (and_from (bytes_eq map map) true (bytes_same map) refl))

-- What a document with the pushes into it asks for

module _ (world : World) (documents : List (List ℕ)) (name : List ℕ) where
  -- the document
  pub pushed_document : (tree : Option Content) (old new : List Told) → new ≡ document name tree ∷ old
      → TellsOnly (is_of_pushed world documents name) old new
  pushed_document tree old new = only_told _ (document name tree) old new
      (or_left (is_among (name ∷ sources_of world documents name) name) _
      (among_first name (sources_of world documents name)))

  -- the pushes into it
  pub pushed_pushes : (answer : PushList) (old new : List Told) → new ≡ pushes documents name answer ∷ old
      → TellsOnly (is_of_pushed world documents name) old new
  pushed_pushes answer old new = only_told _ (pushes documents name answer) old new
      (or_right false (is_among (name ∷ []) name) (among_first name []))

  -- the documents from which pushes come that are those of the world
  pub pushed_sources : (answer : PushList) (old new : List Told) → pushes_into world documents name ≡ answer
      → TellsOnly (is_document_of (name ∷ map (λ (push : Push). push.from) answer.pushes)) old new
      → TellsOnly (is_of_pushed world documents name) old new
  pushed_sources answer old new is only =
      only_weaker (is_document_of (name ∷ sources_of world documents name)) (is_of_pushed world documents name) old new
      (λ t here. or_left (is_document_of (name ∷ sources_of world documents name) t) (is_pushes_of (name ∷ []) t) here)
      (subst (λ (list : PushList). TellsOnly (is_document_of (name ∷ map (λ (push : Push). push.from) list.pushes)) old new)
      (sym is) only)

-- The same of a call that ends with a value, of which the test may speak

pub only_held : {A E : Type 0} (r : Result A E) (test : Told → Bool) (old new : List Told) → TellsOnly test old new
    → IfOk r (λ x. TellsOnly test old new)
only_held (Ok x) test old new only = only
only_held (Err e) test old new only = tt

-- a question is told with the value
pub only_answered : {A E : Type 0} (r : Result A E) (test : Told → Bool) (told : A → Told) (old new : List Told)
    → ((x : A) → IsTrue (test (told x))) → IfOk r (λ x. new ≡ told x ∷ old) → IfOk r (λ x. TellsOnly test old new)
only_answered r test told old new passes =
    IfOk-weaker r _ _ (λ x. only_told test (told x) old new (passes x))

-- the title that a target leads to is asked for
pub only_title : {E : Type 0} (r : Result (List ℕ) E) (target : Target) (name : List ℕ) (reference : Reference)
    (old new : List Told) → target ≡ targets.Local name reference
    → IfOk r (λ text. new ≡ title name reference.topic text ∷ old) → IfOk r (λ text. TellsOnly (is_title_at target) old new)
only_title r target name reference old new is = only_answered r (is_title_at target) (title name reference.topic) old new
    (λ text. subst (λ t. IsTrue (is_title_at t (title name reference.topic text))) (sym is)
    (title_is_of name reference.topic text))

-- one call after another, each by a test that lets less through
pub only_then : {A E : Type 0} (r : Result A E) (one : Told → Bool) (other test : A → Told → Bool)
    (a b c : List Told) → ((x : A) (t : Told) → IsTrue (one t) → IsTrue (test x t))
    → ((x : A) (t : Told) → IsTrue (other x t) → IsTrue (test x t)) → TellsOnly one a b
    → IfOk r (λ x. TellsOnly (other x) b c) → IfOk r (λ x. TellsOnly (test x) a c)
only_then r one other test a b c of_one of_other before = IfOk-weaker r _ _ (λ x next.
    only_after (test x) a b c (only_weaker one (test x) a b (of_one x) before)
    (only_weaker (other x) (test x) b c (of_other x) next))

-- what closes most claims on the questions that are told
pub ruleset telling = (only_same, only_told, only_after, only_held)

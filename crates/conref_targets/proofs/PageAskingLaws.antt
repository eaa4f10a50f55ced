-- Questions that are told for a page, by calls one after another.
use Rattle.std.specs.Prelude.{◌≡◌, ◌++◌, ℕ, Bool, false, List, [], ◌∷◌, Option, Some, None, Result, Ok, Err, All, Contains, IfOk, IfSome, IsTrue, bytes_eq, codes, map, option_map}
use Rattle.std.specs.Arc.{arc_value}
use Rattle.std.specs.List.{list_all}
use Rattle.std.specs.Option.{option_and_then}
use Rattle.std.specs.declared.alloc.Global.{Global}
use Rattle.std.specs.declared.sync.Arc.{Arc}
use Rattle.std.proofs.Common.{refl, sym, ap, subst, ◌∙◌, inl, inr, append_assoc, arith}
use Rattle.std.proofs.Math.Logic.{∥∥₁_elim, ⊎_elim}
use Rattle.std.proofs.lemmas.Bool.{and_parts, false≢true, or_cases}
use Rattle.std.proofs.lemmas.List.{map-append}
use Rattle.std.proofs.lemmas.List.Elements.{All-append, All-cons, All-nil, Contains-append_left, Contains-append_right}
use Rattle.std.proofs.lemmas.Slice.Eq.{bytes_eq-Decides}
use Rattle.dita_doc.specs.Tree.{Content}
use Rattle.dita_doc.specs.declared.content.KeyAnswer.{KeyAnswer}
use Rattle.dita_doc.specs.declared.content.Push.{Push}
use Rattle.dita_doc.specs.declared.doc.Doc.{Doc}
use Rattle.dita_doc.specs.declared.plan.PageId.{PageId}
use Rattle.dita_doc.specs.declared.plan.Reference.{Reference}
use Rattle.dita_doc.specs.declared.stop.NoMemory.{NoMemory}
use Rattle.href_text.specs.Joined.{joined}
use Rattle.href_text.specs.Reference.{reference_of}
use Rattle.map_spec.specs.Elements.{attribute}
use Rattle.map_spec.specs.Keys.{key_answer, key_of}
use Rattle.map_spec.specs.Pages.{local_name}
use Rattle.map_spec.specs.Pushes.{pushed, pushes_into}
use Rattle.map_spec.specs.Target.{if_read, is_same_topic}
use Rattle.map_spec.specs.Written.{Element, Whole, Written, End, Chars, Node, elements_below}
use Rattle.conref_spec.specs.PageDocuments.{by_conref, by_key, key_in, own, pushing}
use Rattle.readers.specs.Founded.{is_among}
use Rattle.readers.specs.Named.{named_tree}
use Rattle.readers.specs.Only.{TellsOnly, is_document_of, is_of_pushed, is_pushes_of, sources_of}
use Rattle.readers.specs.Setting.{Setting, Stand}
use Rattle.readers.specs.Told.{Told, document, kind, title, first, key, pushes, page_of, pending, pending_document}
use Rattle.readers.proofs.FoundedLaws.{among_one}
use Rattle.conref_targets.specs.PageAsking.{AreMet, AsksPage, FindsOnly, IsAbout, IsAt, IsMet, IsOfPage, MayRead, PageAt, content_at}
use Rattle.conref_targets.specs.ResolveInput.{documents_in}
use Rattle.conref_targets.specs.declared.find.Found.{Found}

-- Where the page is

pub at_next : {page : PageAt} {stand later : Stand} {id other : PageId} → IsAt page stand id → later ≡ stand
    → other ≡ id → IsAt page later other
at_next at stands same = record {
  setting = at.setting ∙ ap (λ (s : Stand). s.setting) (sym stands);
  is = at.is ∙ sym same;
}

pub at_later : {page : PageAt} {stand later : Stand} {id : PageId} → IsAt page stand id → later ≡ stand
    → IsAt page later id
at_later at stands = at_next at stands refl

-- One call after another

module _ (page : PageAt) where
  pub asks_same : (old new : List Told) → new ≡ old → AsksPage page old new
  asks_same old new is = record { is = ∣ ([], (is, All-nil (IsAbout page))) ∣₁ }

  pub asks_one : (t : Told) (old new : List Told) → new ≡ t ∷ old → IsAbout page t → AsksPage page old new
  asks_one t old new is about =
      record { is = ∣ (t ∷ [], (is, All-cons (IsAbout page) t [] about (All-nil (IsAbout page)))) ∣₁ }

  pub asks_then : (a b c : List Told) → AsksPage page a b → AsksPage page b c → AsksPage page a c
  asks_then a b c before next = record {
    is = ∥∥₁_elim before.is (hlevel) (λ p. ∥∥₁_elim next.is (hlevel) (λ q. ∣ (
      q.0 ++ p.0,
      (
        q.1.0 ∙ ap (λ ts. q.0 ++ ts) p.1.0 ∙ sym (append_assoc q.0 p.0 a),
        All-append (IsAbout page) q.0 p.0 q.1.1 p.1.1,
      ),
    ) ∣₁));
  }

  all_tested : {X : Type 0} (test : X → Bool) (P : X → Type 0) → ((x : X) → IsTrue (test x) → P x) → (xs : List X)
      → IsTrue (list_all test xs) → All P xs
  all_tested test P each [] all = All-nil P
  all_tested test P each (x ∷ xs) all = let parts = and_parts (test x) (list_all test xs) all in
      All-cons P x xs (each x parts.0) (all_tested test P each xs parts.1)

  -- a call that tells questions of a test
  asks_only : (test : Told → Bool) (old new : List Told) → ((t : Told) → IsTrue (test t) → IsAbout page t)
      → TellsOnly test old new → AsksPage page old new
  asks_only test old new each only = record {
    is = ∥∥₁_elim only.is (hlevel) (λ p. ∣ (p.0, (p.1.0, all_tested test (IsAbout page) each p.0 p.1.1)) ∣₁);
  }

  documents_about : (names : List (List ℕ)) → ((m : List ℕ) → IsTrue (is_among names m) → MayRead page m) → (t : Told)
      → IsTrue (is_document_of names t) → IsAbout page t
  documents_about names may (document name tree) here = may name here
  documents_about names may (kind name answer) here = absurd (false≢true here)
  documents_about names may (title name topic text) here = absurd (false≢true here)
  documents_about names may (first name id) here = absurd (false≢true here)
  documents_about names may (key nodes scope text answer) here = absurd (false≢true here)
  documents_about names may (pushes documents name answer) here = absurd (false≢true here)
  documents_about names may (page_of pages name context answer) here = absurd (false≢true here)
  documents_about names may (pending about) here = all_tested (is_among names) (MayRead page) may about here
  documents_about names may (pending_document name) here = may name here

  pushes_about : (name : List ℕ) → IsOfPage page name → (t : Told) → IsTrue (is_pushes_of (name ∷ []) t)
      → IsAbout page t
  pushes_about name of (document other tree) here = absurd (false≢true here)
  pushes_about name of (kind other answer) here = absurd (false≢true here)
  pushes_about name of (title other topic text) here = absurd (false≢true here)
  pushes_about name of (first other id) here = absurd (false≢true here)
  pushes_about name of (key nodes scope text answer) here = absurd (false≢true here)
  pushes_about name of (pushes documents other answer) here = subst (IsOfPage page) (among_one name other here) of
  pushes_about name of (page_of pages other context answer) here = absurd (false≢true here)
  pushes_about name of (pending about) here = all_tested (is_among (name ∷ [])) (MayRead page)
      (λ m one. inl (subst (IsOfPage page) (among_one name m one) of)) about here
  pushes_about name of (pending_document other) here = absurd (false≢true here)

  -- a question for the page's document, or for a DITAVAL
  pub asks_ditavals : (names : List (List ℕ)) (old new : List Told) → page.ditavals ≡ names
      → TellsOnly (is_document_of names) old new → AsksPage page old new
  asks_ditavals names old new are = asks_only (is_document_of names) old new (documents_about names
      (λ m among. inr (subst (λ (all : List (List ℕ)). IsTrue (is_among all m)) (sym are) among)))

  pub asks_document : (name : List ℕ) (tree : Option Content) (old new : List Told) → IsOfPage page name
      → new ≡ document name tree ∷ old → AsksPage page old new
  asks_document name tree old new of is = asks_one (document name tree) old new is (inl of)

  -- a document that is read with the pushes into it
  module _ (name : List ℕ) (of : IsOfPage page name) where
    pushing_of : (some : List Push)
        → ((push : Push) → Contains some push
        → Contains (pushes_into page.world page.setting.documents name).pushes push)
        → (m : List ℕ) → IsTrue (is_among (map (λ (push : Push). push.from) some) m) → IsOfPage page m
    pushing_of [] within m among = absurd (false≢true among)
    pushing_of (push ∷ some) within m among = ⊎_elim
        (λ here. subst (IsOfPage page) ((bytes_eq-Decides push.from m).0 here)
        (pushing of (within push (Contains-append_left (push ∷ []) some push (0, omega arith, refl)))))
        (λ there. pushing_of some (λ one among. within one (Contains-append_right (push ∷ []) some one among)) m there)
        (or_cases (bytes_eq push.from m) _ among)

    may_read : (m : List ℕ) → IsTrue (is_among (name ∷ sources_of page.world page.setting.documents name) m)
        → MayRead page m
    may_read m among = ⊎_elim (λ here. inl (subst (IsOfPage page) ((bytes_eq-Decides name m).0 here) of))
        (λ there. inl (pushing_of (pushes_into page.world page.setting.documents name).pushes
        (λ push among. among) m there)) (or_cases (bytes_eq name m) _ among)

    pub asks_pushed : (stand : Stand) (id : PageId) (old new : List Told) → IsAt page stand id
        → TellsOnly (is_of_pushed page.world stand.setting.documents name) old new → AsksPage page old new
    asks_pushed stand id old new at only =
        asks_only (is_of_pushed page.world page.setting.documents name) old new
        (λ t here. ⊎_elim
        (documents_about (name ∷ sources_of page.world page.setting.documents name) may_read t)
        (pushes_about name of t)
        (or_cases (is_document_of (name ∷ sources_of page.world page.setting.documents name) t)
        (is_pushes_of (name ∷ []) t) here))
        (subst (λ (s : Setting). TellsOnly (is_of_pushed page.world s.documents name) old new) (sym at.setting) only)

    -- all its elements are met
    below_met : (all : Written) → documents_in page.world page.setting name ≡ Some all → (nodes : Written)
        → ((element : Element) → Contains (map (λ (whole : Whole). whole.0) (elements_below nodes)) element
        → Contains (map (λ (whole : Whole). whole.0) (elements_below all)) element) → AreMet page nodes
    below_met all stored End within = tt
    below_met all stored (Chars text doc rest) within = below_met all stored rest within
    below_met all stored (Node element inside rest) within =
        let f = λ (whole : Whole). whole.0 in
        let held = map f (elements_below inside) in
        let behind = map f (elements_below rest) in
        let split : map f (elements_below inside ++ elements_below rest) ≡ held ++ behind =
        map-append f (elements_below inside) (elements_below rest) in
        let later = λ (one : Element) (there : Contains (held ++ behind) one). within one
        (Contains-append_right (element ∷ []) _ one (subst (λ (es : List Element). Contains es one) (sym split) there)) in (
          record {
            doc = name;
            of = of;
            stands = record {
              nodes = all;
              pushed = stored;
              among = within element (0, omega arith, refl);
            };
          },
          below_met all stored inside (λ one there. later one (Contains-append_left held behind one there)),
          below_met all stored rest (λ one there. later one (Contains-append_right held behind one there)),
        )

    pub document_met : (stand : Stand) (id : PageId) (nodes : Written) → IsAt page stand id
        → Some nodes ≡ pushed page.world stand.setting.documents name → AreMet page nodes
    document_met stand id nodes at stored = below_met nodes
        (ap (λ (s : Setting). pushed page.world s.documents name) at.setting ∙ sym stored) nodes (λ element among. among)

-- Documents to which elements that were met lead

module _ {page : PageAt} where
  -- the page's own
  pub own_of : {stand : Stand} {id : PageId} {name : List ℕ} → IsAt page stand id → name ≡ id.doc → IsOfPage page name
  own_of at same = subst (IsOfPage page) (ap (λ (p : PageId). p.doc) at.is ∙ sym same) own

  module _ {element : Element} (met : IsMet page element) where
    -- the one that a `conref` is joined to
    pub conref_of : (conref : List ℕ) (reference : Reference) (name : List ℕ)
        → attribute (codes "conref") element ≡ Some conref → if_read (reference_of conref) ≡ Some reference
        → is_same_topic reference ≡ false → if_read (joined element.doc reference.file) ≡ Some name
        → IsOfPage page name
    conref_of conref reference name written read other is =
        by_conref met.of met.stands (rw (written, read, other, is) refl)

    module _ {stand : Stand} {id : PageId} (at : IsAt page stand id) (keyref text : List ℕ)
        (written : attribute (codes "conkeyref") element ≡ Some keyref) (same : text ≡ key_of keyref) where
      named : key_in element ≡ Some text
      named = ap (option_map key_of) written ∙ ap Some (sym same)

      -- the question for its key
      pub asks_key : (answer : KeyAnswer) (old new : List Told)
          → new ≡ key stand.setting.nodes id.scope text answer ∷ old → AsksPage page old new
      asks_key answer old new is = asks_one page (key stand.setting.nodes id.scope text answer) old new is (
        ap (λ (p : PageId). p.scope) (sym at.is),
        record { doc = met.doc; element = element; document = met.of; stands = met.stands; named = named },
      )

      -- and the one to which the key leads
      pub key_leads : (answer : KeyAnswer) (name : List ℕ)
          → key_answer page.world stand.setting.nodes id.scope text ≡ answer → local_name answer.target ≡ Some name
          → IsOfPage page name
      key_leads answer name is leads = by_key met.of met.stands
          (ap (option_and_then (λ k. local_name ((content_at page).key k).target)) named
          ∙ ap (λ (s : Setting). local_name (key_answer page.world s.nodes page.id.scope text).target) at.setting
          ∙ ap (λ (p : PageId). local_name (key_answer page.world stand.setting.nodes p.scope text).target) at.is
          ∙ ap (λ (a : KeyAnswer). local_name a.target) is ∙ leads)

-- What is found

pub finds_none : {page : PageAt} {old new : List Told} → AsksPage page old new → FindsOnly page old new None
finds_none asks = record { asks = asks; met = tt }

pub finds_then : {page : PageAt} (a b c : List Told) (found : Option Found) → AsksPage page a b
    → FindsOnly page b c found → FindsOnly page a c found
finds_then {page} a b c found before next =
    record { asks = asks_then page a b c before next.asks; met = next.met }

-- something in a document of which all elements are met
pub finds_in : {page : PageAt} (old new : List Told) (doc : Arc Doc Global) (result : Result (Option Found) NoMemory)
    → IfOk result (λ found. IfSome found (λ one. one.doc ≡ doc)) → AsksPage page old new
    → AreMet page (named_tree (arc_value doc)) → IfOk result (λ found. FindsOnly page old new found)
finds_in old new doc (Err stop) same asks met = tt
finds_in old new doc (Ok None) same asks met = finds_none asks
finds_in {page} old new doc (Ok (Some found)) same asks met = record {
  asks = asks;
  met = subst (λ (d : Arc Doc Global). AreMet page (named_tree (arc_value d))) (sym same) met;
}

-- Which documents are asked about by calls one after another.
use Rattle.std.specs.Prelude.{◌≡◌, ◌++◌, ℕ, false, List, [], ◌∷◌, Some, IsTrue, bytes_eq}
use Rattle.std.specs.Option.{option_to_list}
use Rattle.std.proofs.Common.{subst}
use Rattle.std.proofs.Math.Logic.{⊎_elim}
use Rattle.std.proofs.lemmas.Bool.{false≢true, or_cases, or_left, or_right}
use Rattle.dita_doc.specs.declared.content.KeyAnswer.{KeyAnswer}
use Rattle.dita_doc.specs.declared.doc.Doc.{Doc}
use Rattle.dita_doc.specs.declared.plan.PlanNode.{PlanNode}
use Rattle.map_spec.specs.Pages.{local_name}
use Rattle.readers.specs.Documents.{AsksOnly, Covers, IsGiven, may_ask, nothing, of_documents, of_pushes}
use Rattle.readers.specs.Founded.{AreAmong, Grows, StaysFounded, homes, is_allowed, is_among}
use Rattle.readers.specs.Named.{named_tree, reused_by, reused_in}
use Rattle.readers.specs.Told.{Told, document, kind, title, first, key, pushes, page_of, pending, pending_document}
use Rattle.readers.proofs.AmongLaws.{among_back, among_either, among_front}
use Rattle.readers.proofs.DocumentLaws.{asks_after, asks_among, asks_by, asks_grows, asks_none, asks_same, asks_when, covers_nothing, covers_same, follows_may}
use Rattle.readers.proofs.FoundedLaws.{given_allowed, stays_after, stays_among, stays_by, stays_grows, stays_same, stays_when}
use Rattle.readers.proofs.GivenLaws.{reused_allowed, reused_may}
use Rattle.readers.proofs.GrowthLaws.{growing}
use Rattle.conref_targets.specs.Asking.{AreGiven, Asks, of_content, reused_of_doc, reused_of_whole}
use Rattle.conref_targets.specs.Origin.{whole_of}
use Rattle.conref_targets.specs.declared.origin.Whole.{Whole}

-- What follows for content

-- what content references in documents name
covers_reused : Covers of_content (of_documents reused_by)
covers_reused = record { each = covers }
  where
    covers : (t : Told) (m : List ℕ) → IsTrue (is_among (of_documents reused_by t) m)
        → IsTrue (is_among (of_content t) m)
    covers (document name tree) m among = among
    covers (kind name answer) m among = absurd (false≢true among)
    covers (title name topic text) m among = absurd (false≢true among)
    covers (first name id) m among = absurd (false≢true among)
    covers (key nodes scope text answer) m among = absurd (false≢true among)
    covers (pushes documents name answer) m among = absurd (false≢true among)
    covers (page_of pages name context answer) m among = absurd (false≢true among)
    covers (pending names) m among = absurd (false≢true among)
    covers (pending_document name) m among = absurd (false≢true among)

-- where pushes come from
pub covers_pushes : Covers of_content of_pushes
covers_pushes = record { each = covers }
  where
    covers : (t : Told) (m : List ℕ) → IsTrue (is_among (of_pushes t) m) → IsTrue (is_among (of_content t) m)
    covers (document name tree) m among = absurd (false≢true among)
    covers (kind name answer) m among = absurd (false≢true among)
    covers (title name topic text) m among = absurd (false≢true among)
    covers (first name id) m among = absurd (false≢true among)
    covers (key nodes scope text answer) m among = absurd (false≢true among)
    covers (pushes documents name answer) m among = among
    covers (page_of pages name context answer) m among = absurd (false≢true among)
    covers (pending names) m among = absurd (false≢true among)
    covers (pending_document name) m among = absurd (false≢true among)

-- What answers name

-- all that the content references of a document name that is given
pub given_reused : (told : List Told) (doc : Doc) → IsGiven told (Some (named_tree doc))
    → AreGiven told (reused_of_doc doc)
given_reused told doc given = record {
  allowed = λ roots. reused_allowed roots told (Some (named_tree doc)) given;
  may = λ rule roots covers. reused_may rule roots told (Some (named_tree doc))
      (record { each = λ t m here. covers.each t m (covers_reused.each t m here) }) given;
}

-- the target of a key that was told last
pub given_target : (nodes : List PlanNode) (scope : ℕ) (text : List ℕ) (answer : KeyAnswer) (old new : List Told)
    → new ≡ key nodes scope text answer ∷ old → AreGiven new (option_to_list (local_name answer.target))
given_target nodes scope text answer old new is = record {
  allowed = λ roots. given_allowed roots (key nodes scope text answer) old new is;
  may = λ rule roots covers. follows_may rule of_content roots (key nodes scope text answer) old new covers is;
}

pub given_some : (told : List Told) (some names : List (List ℕ)) → AreAmong some names → AreGiven told names
    → AreGiven told some
given_some told some names among given = record {
  allowed = λ roots. record { each = λ m here. (given.allowed roots).each m (among.each m here) };
  may = λ rule roots covers. record { each = λ m here. (given.may rule roots covers).each m (among.each m here) };
}

pub given_none : (told : List Told) → AreGiven told []
given_none told = record {
  allowed = λ roots. record { each = λ m here. absurd (false≢true here) };
  may = λ rule roots covers. record { each = λ m here. absurd (false≢true here) };
}

pub whole_element : (whole : Whole) (names : List (List ℕ)) → AreAmong (reused_of_whole whole) names
    → AreAmong (reused_by (whole_of whole).0) names
whole_element whole names among = record {
  each = λ m here. among.each m
      (among_front (reused_by (whole_of whole).0) (reused_in (whole_of whole).1) m here);
}

pub whole_inside : (whole : Whole) (names : List (List ℕ)) → AreAmong (reused_of_whole whole) names
    → AreAmong (reused_in (whole_of whole).1) names
whole_inside whole names among = record {
  each = λ m here. among.each m
      (among_back (reused_by (whole_of whole).0) (reused_in (whole_of whole).1) m here);
}

-- Calls

pub among_both : (name : List ℕ) (some names : List (List ℕ)) → AreAmong some names
    → AreAmong (name ∷ some) (name ∷ names)
among_both name some names among = record {
  each = λ m here. ⊎_elim (λ h. or_left (bytes_eq name m) _ h)
      (λ h. or_right (bytes_eq name m) _ (among.each m h)) (or_cases (bytes_eq name m) _ here);
}

one_of : (name m : List ℕ) → IsTrue (is_among (name ∷ []) m) → IsTrue (bytes_eq name m)
one_of name m here = ⊎_elim (λ h. h) (λ no. absurd (false≢true no)) (or_cases (bytes_eq name m) false here)

pub among_same : (names : List (List ℕ)) → AreAmong names names
among_same names = record { each = λ m here. here }

pub first_page : (name page : List ℕ) (names : List (List ℕ)) → name ≡ page → AreAmong (name ∷ []) (page ∷ names)
first_page name page names is = record {
  each = λ m here. or_left (bytes_eq page m) _ (subst (λ (n : List ℕ). IsTrue (bytes_eq n m)) is (one_of name m here));
}

pub none_among : (names : List (List ℕ)) → AreAmong [] names
none_among names = record { each = λ m here. absurd (false≢true here) }

module _ (nodes : List PlanNode) where
  pub about_same : (names : List (List ℕ)) (old new : List Told) → new ≡ old → Asks nodes names old new
  about_same names old new is = record {
    founded = stays_same (homes nodes ++ names) old new is;
    asks = asks_same of_content names old new is;
  }

  pub about_after : (names : List (List ℕ)) (a b c : List Told) → Grows a b → Asks nodes names a b
      → Asks nodes names b c → Asks nodes names a c
  about_after names a b c grows before next = record {
    founded = stays_after (homes nodes ++ names) a b c grows before.founded next.founded;
    asks = asks_after of_content names a b c grows before.asks next.asks;
  }

  pub about_among : (some names : List (List ℕ)) (old new : List Told) → AreAmong some names
      → Asks nodes some old new → Asks nodes names old new
  about_among some names old new among call = record {
    founded = stays_among (homes nodes ++ some) (homes nodes ++ names) old new
        (λ m here. among_either (homes nodes) some m (IsTrue (is_among (homes nodes ++ names) m))
        (λ h. among_front (homes nodes) names m h) (λ h. among_back (homes nodes) names m (among.each m h)) here)
        call.founded;
    asks = asks_among of_content of_content some names old new (covers_same of_content) among.each call.asks;
  }

  -- a call about what answers name that were told before, and about others
  pub about_given : (names more : List (List ℕ)) (old new : List Told) → AreGiven old more
      → Asks nodes (names ++ more) old new → Asks nodes names old new
  about_given names more old new given call = record {
    founded = stays_when _ old new (stays_grows _ old new call.founded) (λ roots allowed founded.
        stays_by _ old new call.founded roots (record {
          each = λ m here. among_either (homes nodes) (names ++ more) m (IsTrue (is_allowed roots old m))
              (λ h. allowed.each m (among_front (homes nodes) names m h))
              (λ h. among_either names more m (IsTrue (is_allowed roots old m))
              (λ one. allowed.each m (among_back (homes nodes) names m one))
              (λ one. (given.allowed roots).each m one) h) here;
        }) founded);
    asks = asks_when of_content _ old new (asks_grows of_content _ old new call.asks) (λ rule roots covers may asked.
        asks_by of_content _ old new call.asks rule roots covers (record {
          each = λ m here. among_either names more m (IsTrue (may_ask rule roots old m)) (λ h. may.each m h)
              (λ h. (given.may rule roots covers).each m h) here;
        }) asked);
  }

  -- a question for the document that stands with pushes under one of these names
  pub about_pushed : (name : List ℕ) (old new : List Told) → StaysFounded (name ∷ []) old new
      → AsksOnly of_pushes (name ∷ []) old new → Asks nodes (name ∷ []) old new
  about_pushed name old new founded asks = record {
    founded = stays_among (name ∷ []) (homes nodes ++ name ∷ []) old new
        (λ m here. among_back (homes nodes) (name ∷ []) m here) founded;
    asks = asks_among of_content of_pushes (name ∷ []) (name ∷ []) old new covers_pushes (λ m here. here) asks;
  }

  -- a question for a document
  pub about_doc : (name : List ℕ) (old new : List Told) → StaysFounded (name ∷ []) old new
      → AsksOnly nothing (name ∷ []) old new → Asks nodes (name ∷ []) old new
  about_doc name old new founded asks = record {
    founded = stays_among (name ∷ []) (homes nodes ++ name ∷ []) old new
        (λ m here. among_back (homes nodes) (name ∷ []) m here) founded;
    asks = asks_among of_content nothing (name ∷ []) (name ∷ []) old new (covers_nothing of_content)
        (λ m here. here) asks;
  }

  -- a question for a key
  pub about_key : (old new : List Told) → StaysFounded (homes nodes) old new → AsksOnly nothing [] old new
      → Asks nodes [] old new
  about_key old new founded asks = record {
    founded = stays_among (homes nodes) (homes nodes ++ []) old new
        (λ m here. among_front (homes nodes) [] m here) founded;
    asks = asks_none of_content [] old new asks;
  }

  -- one call after another, where the second is about some of the same documents
  pub about_next : (page other : List ℕ) (names more : List (List ℕ)) (a b c : List Told) → other ≡ page
      → AreAmong more names → Grows a b → Asks nodes (page ∷ names) a b → Asks nodes (other ∷ more) b c
      → Asks nodes (page ∷ names) a c
  about_next page other names more a b c same among grows before next = about_after (page ∷ names) a b c grows before
      (about_among (page ∷ more) (page ∷ names) b c (among_both page more names among)
      (subst (λ (p : List ℕ). Asks nodes (p ∷ more) b c) same next))

  -- where the second is about what answers name that were told before it
  pub about_then : (page other : List ℕ) (names more : List (List ℕ)) (a b c : List Told) → other ≡ page
      → AreGiven b more → Grows a b → Asks nodes (page ∷ names) a b → Asks nodes (other ∷ more) b c
      → Asks nodes (page ∷ names) a c
  about_then page other names more a b c same given grows before next = about_after (page ∷ names) a b c grows before
      (about_given (page ∷ names) more b c given
      (about_among (page ∷ more) (page ∷ (names ++ more)) b c
      (among_both page more (names ++ more) (record { each = λ m here. among_back names more m here }))
      (subst (λ (p : List ℕ). Asks nodes (p ∷ more) b c) same next)))

  -- a call about some of the same documents
  pub about_part : (page other : List ℕ) (names more : List (List ℕ)) (old new : List Told) → other ≡ page
      → AreAmong more names → Asks nodes (other ∷ more) old new → Asks nodes (page ∷ names) old new
  about_part page other names more old new same among call =
      about_among (page ∷ more) (page ∷ names) old new (among_both page more names among)
      (subst (λ (p : List ℕ). Asks nodes (p ∷ more) old new) same call)

  -- a call about what answers name that were told before it
  pub about_call : (page other : List ℕ) (names more : List (List ℕ)) (old new : List Told) → other ≡ page
      → AreGiven old more → Asks nodes (other ∷ more) old new → Asks nodes (page ∷ names) old new
  about_call page other names more old new same given call = about_given (page ∷ names) more old new given
      (about_among (page ∷ more) (page ∷ (names ++ more)) old new
      (among_both page more (names ++ more) (record { each = λ m here. among_back names more m here }))
      (subst (λ (p : List ℕ). Asks nodes (p ∷ more) old new) same call))

  -- the page's document, and then its DITAVALs
  pub about_page : (page : List ℕ) (ditavals : List (List ℕ)) (a b : List Told) → StaysFounded (page ∷ []) a b
      → AsksOnly of_pushes (page ∷ []) a b → Asks nodes (page ∷ ditavals) a b
  about_page page ditavals a b founded asks = about_among (page ∷ []) (page ∷ ditavals) a b
      (among_both page [] ditavals (none_among ditavals)) (about_pushed page a b founded asks)

  -- the DITAVALs alone
  pub about_ditavals : (page : List ℕ) (ditavals : List (List ℕ)) (a b : List Told) → StaysFounded ditavals a b
      → AsksOnly nothing ditavals a b → Asks nodes (page ∷ ditavals) a b
  about_ditavals page ditavals a b stays reads =
      about_among ditavals (page ∷ ditavals) a b (record { each = λ m here. or_right (bytes_eq page m) _ here })
      (record {
        founded = stays_among ditavals (homes nodes ++ ditavals) a b
            (λ m here. among_back (homes nodes) ditavals m here) stays;
        asks = asks_among of_content nothing ditavals ditavals a b (covers_nothing of_content) (λ m here. here) reads;
      })

  pub about_rules : (page : List ℕ) (ditavals : List (List ℕ)) (a b c : List Told) → Grows a b
      → StaysFounded (page ∷ []) a b → AsksOnly of_pushes (page ∷ []) a b → StaysFounded ditavals b c
      → AsksOnly nothing ditavals b c → Asks nodes (page ∷ ditavals) a c
  about_rules page ditavals a b c grows founded asks stays reads =
      about_after (page ∷ ditavals) a b c grows (about_page page ditavals a b founded asks)
      (about_ditavals page ditavals b c stays reads)

  -- the DITAVALs, and then the page's document
  pub about_rules_first : (page : List ℕ) (ditavals : List (List ℕ)) (a b c : List Told) → Grows a b
      → StaysFounded ditavals a b → AsksOnly nothing ditavals a b → StaysFounded (page ∷ []) b c
      → AsksOnly of_pushes (page ∷ []) b c → Asks nodes (page ∷ ditavals) a c
  about_rules_first page ditavals a b c grows stays reads founded asks =
      about_after (page ∷ ditavals) a b c grows (about_ditavals page ditavals a b stays reads)
      (about_page page ditavals b c founded asks)

-- what closes most claims on what is asked about
pub ruleset following = (growing, about_same, about_doc, about_pushed)

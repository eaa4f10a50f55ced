-- Documents that were made with the pushes into them: how they are made, and that they stay right as more is told.
use Rattle.std.specs.Prelude.{◌≡◌, ℕ, false, List, [], ◌∷◌, ◌⊎◌, Option, Some, None, IfSome, IsTrue, cond, drop, bytes_eq, option_map}
use Rattle.std.specs.BTreeMap as tree
use Rattle.std.specs.Arc.{arc_value}
use Rattle.std.specs.Borrow.{Bor}
use Rattle.std.specs.Cmp.Lexicographic.{slice_cmp}
use Rattle.std.specs.Option.{option_copied}
use Rattle.std.specs.Ordering.{is_eq, nat_cmp}
use Rattle.std.specs.declared.alloc.Global.{Global}
use Rattle.std.specs.declared.sync.Arc.{Arc}
use Rattle.std.proofs.Common.{refl, sym, ap, subst, ◌∙◌}
use Rattle.std.proofs.Math.Logic.{⊎_elim}
use Rattle.std.proofs.lemmas.Bool.{false≢true, or_cases, or_left, or_right}
use Rattle.conref_push.specs.Into.{docs_of, froms, named_doc, pushed_by}
use Rattle.conref_push.specs.Targets.{AreKnown}
use Rattle.conref_push.proofs.DocLaws.{IsPut}
use Rattle.conref_push.proofs.UntouchedLaws.{pushed_as}
use Rattle.dita_doc.proofs.NameOrder.{equal_itself}
use Rattle.dita_doc.specs.declared.content.PushList.{PushList}
use Rattle.dita_doc.specs.declared.doc.Doc.{Doc}
use Rattle.map_spec.specs.Written.{Element, Written, document, written_in}
use Rattle.map_spec.specs.Pushes as page
use Rattle.map_spec.specs.Pushes.{pushed}
use Rattle.pushed_docs.specs.Made.{ArePushed, IsPushed, under}
use Rattle.pushed_docs.specs.declared.memo.PushedMemo.{PushedMemo}
use Rattle.pushed_docs.proofs.DocLaws.{found_named}
use Rattle.reader_spec.specs.World.{World}
use Rattle.readers.specs.Documents.{AsksOnly, IsGiven, may_ask, nothing, of_documents, of_pushes}
use Rattle.readers.specs.Founded.{Grows, StaysFounded, is_among}
use Rattle.readers.specs.Named.{named_found, named_tree, names_of_element, reused_by}
use Rattle.readers.specs.Noted.{told_of, told_onto}
use Rattle.readers.specs.Setting.{Setting}
use Rattle.readers.specs.Told as told_spec
use Rattle.readers.specs.Told.{Told, Agrees, Holds, doc_of, tree_found}
use Rattle.readers.specs.declared.questions.Note.{Note}
use Rattle.readers.proofs.DocumentLaws.{asks_none, asks_then, covers_nothing, follows_may, may_ask_before}
use Rattle.readers.proofs.FoundedLaws.{given_allowed, stays_then, stays_told}
use Rattle.readers.proofs.GivenLaws.{given_later, told_given}
use Rattle.readers.proofs.GrowthLaws.{agrees_before, are_allowed_before, grows_one}
use Rattle.readers.proofs.LayerLaws.{grows_put, grows_tried}

-- A document is its own pushed document

pub itself_known : (world : World) (documents : List (List ℕ)) (name : List ℕ) (found : Option (Arc Doc Global))
    → world name ≡ tree_found found → IfSome (doc_of found) (λ (stored : Doc). stored.origins ≡ name ∷ [])
    → pushed world documents name ≡ document world name → named_found found ≡ pushed world documents name
itself_known world documents name found there one same =
    found_named name found one ∙ ap (option_map (written_in name)) (sym there) ∙ sym same

-- its references are those of the document that was told
pub itself_given : (name : List ℕ) (found : Option (Arc Doc Global)) (old new : List Told)
    → new ≡ told_spec.document name (tree_found found) ∷ old
    → IfSome (doc_of found) (λ (stored : Doc). stored.origins ≡ name ∷ []) → IsGiven new (named_found found)
itself_given name found old new told one =
    subst (IsGiven new) (sym (found_named name found one)) (told_given name (tree_found found) old new told)

-- It is made with pushes that were told

pub made_given : (told : List Told) (found : Option Doc) (made : Doc) (stored : Arc Doc Global) → found ≡ Some made
    → arc_value stored ≡ made → IsGiven told (named_doc found) → IsGiven told (named_found (Some stored))
made_given told found made stored is same given =
    subst (λ (d : Doc). IsGiven told (named_doc (Some d))) (sym same)
    (subst (λ (o : Option Doc). IsGiven told (named_doc o)) is given)

pub touched_known : (world : World) (documents : List (List ℕ)) (name : List ℕ) (list : PushList)
    (named : Option Written) → page.pushes_into world documents name ≡ list
    → named ≡ pushed_by world list.pushes name → named ≡ pushed world documents name
touched_known world documents name list named told is =
    is ∙ pushed_as world documents name list.pushes (ap (λ (l : PushList). l.pushes) told)

module _ (documents : List (List ℕ)) (name : List ℕ) (list : PushList) where
  pub touched_founded : (old between new : List Told) → between ≡ told_spec.pushes documents name list ∷ old
      → StaysFounded (docs_of name list.pushes) between new → StaysFounded (name ∷ []) old new
  touched_founded old between new told stays =
      let t = told_spec.pushes documents name list in
      stays_then (name ∷ []) (docs_of name list.pushes) old between new (stays_told t (name ∷ []) old between refl told)
      (λ roots allowed. record {
        each = λ m among. ⊎_elim
            (λ here. (are_allowed_before roots old between (name ∷ []) (grows_one t old between told) allowed).each m
            (or_left (bytes_eq name m) false here))
            (λ there. (given_allowed roots t old between told).each m there)
            (or_cases (bytes_eq name m) (is_among (froms list.pushes) m) among);
      }) stays

  pub touched_asks : (old between new : List Told) → between ≡ told_spec.pushes documents name list ∷ old
      → AsksOnly nothing [] old between → AsksOnly nothing (docs_of name list.pushes) between new
      → AsksOnly of_pushes (name ∷ []) old new
  touched_asks old between new told first asks =
      let t = told_spec.pushes documents name list in
      asks_then of_pushes nothing (name ∷ []) (docs_of name list.pushes) old between new
      (λ rule covers. covers_nothing rule) (asks_none of_pushes (name ∷ []) old between first)
      (λ rule roots covers may. record {
        each = λ m among. ⊎_elim
            (λ here. may_ask_before rule roots old between m (grows_one t old between told)
            (may.each m (or_left (bytes_eq name m) false here)))
            (λ there. (follows_may rule of_pushes roots t old between covers told).each m there)
            (or_cases (bytes_eq name m) (is_among (froms list.pushes) m) among);
      }) asks

-- Those that were made

pub pushed_shared : (told : List Told) (documents : List (List ℕ)) (name : List ℕ) (found copy : Option (Arc Doc Global))
    → doc_of copy ≡ doc_of found → IsPushed told documents name found → IsPushed told documents name copy
pushed_shared told documents name found copy same is =
    let named_same : named_found copy ≡ named_found found = ap (option_map named_tree) same in
    record {
      known = λ world agrees. named_same ∙ is.known world agrees;
      given = subst (IsGiven told) (sym named_same) is.given;
    }

pub pushed_made : (told : List Told) (documents documents' : List (List ℕ)) (name : List ℕ)
    (found copy : Option (Arc Doc Global)) → documents' ≡ documents → doc_of copy ≡ doc_of found
    → ((world : World) → Agrees world told → named_found found ≡ pushed world documents name)
    → IsGiven told (named_found found) → IsPushed told documents' name copy
pushed_made told documents documents' name found copy plan same known given =
    subst (λ ds. IsPushed told ds name copy) (sym plan)
    (pushed_shared told documents name found copy same (record { known = known; given = given }))

pub known_found : (P : List ℕ → Option (Arc Doc Global) → Type 0)
    (docs : tree.BTreeMap (List ℕ) (Option (Arc Doc Global))) (name : List ℕ)
    (result : Option (Bor (Option (Arc Doc Global))))
    → option_copied result ≡ tree.get (slice_cmp nat_cmp) docs name → AreKnown P docs
    → IfSome result (λ found. P name found.now)
known_found P docs name None is known = tt
known_found P docs name (Some found) is known = known name found.now (sym is)

-- what is known of a map is known of one with the same entries
pub known_same : (P : List ℕ → Option (Arc Doc Global) → Type 0)
    (old new : tree.BTreeMap (List ℕ) (Option (Arc Doc Global))) → old.entries ≡ new.entries → AreKnown P old
    → AreKnown P new
known_same P old new same known = λ name found is. known name found (rw same is)

pub put_under : (old new : tree.BTreeMap (List ℕ) (Option (Arc Doc Global))) (name key : List ℕ)
    (found : Option (Arc Doc Global)) → IsPut old new key found → key ≡ name → under new name ≡ Some found
put_under old new name key found put same = subst (λ n. under new n ≡ Some found) same
    (put key ∙ ap (λ test. cond (is_eq test) (Some found) (under old key)) (equal_itself key))

pub pushed_more : (documents : List (List ℕ)) (memo : PushedMemo) (old new : List Told) → Grows old new
    → ArePushed old documents memo → ArePushed new documents memo
unfolding ArePushed
pushed_more documents memo old new grows pushed = λ name found is.
    let before = pushed name found is in record {
      known = λ world agrees. before.known world (agrees_before world old new grows agrees);
      given = given_later old new (named_found found) grows before.given;
    }

given_behind : (names : Element → List (List ℕ)) (t put : Told) (older : List Told) (m : List ℕ)
    → of_documents names put ≡ [] → IsTrue (may_ask (of_documents names) [] (put ∷ older) m)
    → IsTrue (may_ask (of_documents names) [] (t ∷ older) m)
given_behind names t put older m none may = or_right (is_among (of_documents names t) m) _ (⊎_elim
    (λ here. absurd (false≢true (subst (λ given. IsTrue (is_among given m)) none here))) (λ behind. behind)
    (or_cases (is_among (of_documents names put) m) (may_ask (of_documents names) [] older m) may))

-- a question that told nothing gets its answer
pushed_settled : (documents : List (List ℕ)) (memo : PushedMemo) (t put : Told) (older : List Told)
    → ((world : World) → Holds world put) → ((names : Element → List (List ℕ)) → of_documents names put ≡ [])
    → ArePushed (put ∷ older) documents memo → ArePushed (t ∷ older) documents memo
unfolding ArePushed
pushed_settled documents memo t put older holds none pushed = λ name found is.
    let before = pushed name found is in record {
      known = λ world agrees. before.known world (holds world, agrees.1);
      given = record {
        named = record {
          each = λ m among. given_behind names_of_element t put older m (none names_of_element)
              (before.given.named.each m among);
        };
        reused = record {
          each = λ m among. given_behind reused_by t put older m (none reused_by) (before.given.reused.each m among);
        };
      };
    }

module _ (setting : Setting) (start : List Told) (documents : List (List ℕ)) (memo : PushedMemo) where
  pub memo_put : (note : Note) (notes notes' : List Note) → notes' ≡ note ∷ notes
      → ArePushed (told_onto setting start notes) documents memo
      → ArePushed (told_onto setting start notes') documents memo
  memo_put note notes notes' is = pushed_more documents memo _ _ (grows_put setting start note notes notes' is)

  pub memo_tried : (note : Note) (notes notes' : List Note) → (notes' ≡ notes) ⊎ (notes' ≡ note ∷ notes)
      → ArePushed (told_onto setting start notes) documents memo
      → ArePushed (told_onto setting start notes') documents memo
  memo_tried note notes notes' either = pushed_more documents memo _ _ (grows_tried setting start note notes notes' either)

  pub memo_settled : (put note : Note) (older notes notes' : List Note) → notes ≡ put ∷ older
      → notes' ≡ note ∷ drop 1 notes → ((world : World) → Holds world (told_of setting put))
      → ((names : Element → List (List ℕ)) → of_documents names (told_of setting put) ≡ [])
      → ArePushed (told_onto setting start notes) documents memo
      → ArePushed (told_onto setting start notes') documents memo
  memo_settled put note older notes notes' was is holds none pushed =
      subst (λ ns. ArePushed (told_onto setting start ns) documents memo)
      (sym (is ∙ ap (λ ns. note ∷ drop 1 ns) was))
      (pushed_settled documents memo (told_of setting note) (told_of setting put) (told_onto setting start older) holds none
      (subst (λ ns. ArePushed (told_onto setting start ns) documents memo) was pushed))

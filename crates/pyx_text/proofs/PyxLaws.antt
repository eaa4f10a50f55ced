-- A text stands for one tree at most, and for one where it is read without a fault.
use Rattle.std.specs.Prelude.{◌≡◌, ℕ, List, [], ◌∷◌, Result, Ok, Err}
use Rattle.std.proofs.Common.{refl, sym, ◌∙◌, ap, subst, inr}
use Rattle.dita_doc.specs.declared.fault.PyxFault.{PyxFault}
use Rattle.dita_doc.specs.Tree.{Content, End}
use Rattle.dita_doc.specs.PyxEvent.{Event, Close, add_text, open_names}
use Rattle.dita_doc.specs.Pyx.{StandsFor, document_of, tree_built, reading, text_limit, lines_from, says, built, IsWritten, IsOneElement}
use Rattle.pyx_text.proofs.PyxKeeps.{IsInside, EndsAt, EndsInText, one_built, written_built, says_built, said, said_end, join}
use Rattle.pyx_text.proofs.PyxSteps.{Before, IsClosed, read_kept, closed_read}
use Rattle.pyx_text.proofs.PyxTells.{built_says, built_add_nothing}

-- the tree that a text stands for is the one that is built
pub document_of_stands : (text : List ℕ) (tree : Content) → StandsFor text tree → document_of text ≡ Ok tree
unfolding document_of
document_of_stands text tree stands =
    let told = built_says tree [] [] [] stands.written tt in
    let same = ap (λ (events : List Event). built events [] (End ∷ [])) stands.same in
    let tree_is : built stands.events [] (End ∷ []) ≡ tree = sym (built_add_nothing stands.events End [])
    ∙ (sym same ∙ told) in
    ap tree_built stands.read ∙ ap Ok tree_is

-- what is true of the tree of events whose root has been closed
pub record IsTreeOf (events : List Event) : Type 0 where
  pub same : says [] (built events [] (End ∷ [])) [] ≡ add_text [] events
  pub written : IsWritten (built events [] (End ∷ []))
  pub one : IsOneElement (built events [] (End ∷ []))

-- the root is the last that was closed
tree_of_closed : (name : List ℕ) (before : List Event) → IsInside before → EndsInText before
    → open_names before ≡ name ∷ [] → IsTreeOf (Close name ∷ before)
tree_of_closed name before inside text last =
    let ends : EndsAt (open_names before) (End ∷ []) = let P : List (List ℕ) → Type 0 =
    λ names. EndsAt names (End ∷ []) in subst P (sym last) refl in
    let told = says_built before [] End (End ∷ []) inside tt ends in
    let joined : join (open_names before) (End ∷ []) (said [] End before) ≡ add_text [] (Close name ∷ before) =
    rw (last, said_end before text) refl in
    record {
      same = told ∙ joined;
      written = written_built before [] End (End ∷ []) inside tt (tt, tt) (inr refl);
      one = one_built before [] End (End ∷ []) inside ends;
    }

-- the same of events that are known to be so
tree_of_read : (events : List Event) → IsClosed events → IsTreeOf events
tree_of_read events closed = subst IsTreeOf (sym closed.all)
    (tree_of_closed closed.name closed.before closed.inside closed.text closed.last)

-- a text that is read without a fault stands for the tree that is built
pub stands_for_read : (text : List ℕ) (events : List Event) → reading text ≡ Ok events
    → StandsFor text (built events [] (End ∷ []))
stands_for_read text events e =
    let tree =
    tree_of_read events (closed_read events
    (read_kept (lines_from text_limit [] text) 0 [] events (Before refl) e)) in
    record { events = events; read = e; same = tree.same; written = tree.written; one = tree.one }

-- a text stands for one tree at most
pub one_tree : (text : List ℕ) (tree other : Content) → StandsFor text tree → StandsFor text other → tree ≡ other
one_tree text tree other stands stands_too =
    let first = document_of_stands text tree stands in
    let second = document_of_stands text other stands_too in
    cc

-- by what was read
stands_from : (text : List ℕ) (tree : Content) (read : Result (List Event) PyxFault) → reading text ≡ read
    → tree_built read ≡ Ok tree → StandsFor text tree
stands_from text tree (Ok events) e built_so =
    let same : built events [] (End ∷ []) ≡ tree = cc in
    subst (StandsFor text) same (stands_for_read text events e)
stands_from text tree (Err fault) e built_so = absurd cc

-- and for the tree that `document_of` answers
pub stands_for_document : (text : List ℕ) (tree : Content) → document_of text ≡ Ok tree → StandsFor text tree
unfolding document_of
stands_for_document text tree e = stands_from text tree (reading text) refl e

-- The canonical lines of a tree are read as that tree, with the lines that its elements have there.
use Rattle.std.specs.Prelude.{◌≡◌, ◌==◌, ◌+◌, ◌-◌, ◌<◌, ◌≤◌, ℕ, true, false, List, [], ◌∷◌, ◌++◌, Some, None, Ok, length, drop, bytes_eq}
use Rattle.std.proofs.Common.{refl, sym, ◌∙◌, ap, subst, arith}
use Rattle.std.proofs.lemmas.List.{append-nil}
use Rattle.std.proofs.lemmas.Bool.Decides.{nat_tests}
use Rattle.std.proofs.lemmas.Slice.Eq.{bytes_eq-Decides}
use Rattle.dita_doc.specs.declared.doc.Attribute.{Attribute}
use Rattle.dita_doc.specs.Tree.{Content, End, Chars, Element}
use Rattle.dita_doc.specs.PyxLine.{Line, Opens, Gives, Says, Closes}
use Rattle.dita_doc.specs.PyxEvent.{Event, Open, Give, Text, Close, add_text, open_names, has_root, given_names, fault_of, fault_of_open, fault_of_close}
use Rattle.dita_doc.specs.Pyx.{StandsFor, reading, text_limit, lines_from, ends, reads, says, give_all, begins_with_text, IsWritten, IsOneElement}
use Rattle.dita_doc.specs.ReadTree.{AreReadAfter, IsReadWithin, IsReadTree}
use Rattle.pyx_text.specs.Canonical.{text_of, SameApartFromLines}
use Rattle.pyx_text.specs.Read.{StandsAgainFor}
use Rattle.pyx_text.proofs.Made.{has_root-add}
use Rattle.pyx_text.proofs.PyxKeeps.{EndsInNoText, open_names_add_text}
use Rattle.pyx_text.proofs.ReadTrees.{open_given}
use Rattle.pyx_text.proofs.ReaderLaws.{goes_on-none, lines-none}
use Rattle.pyx_text.proofs.Steps.{fault_of_inner}
use Rattle.pyx_text.proofs.WrittenLines.{given_then, said_then, written_lines}

-- the number of the last of its lines, where so many stand before them
abbrev pub number_after : Content → ℕ → ℕ
number_after End number = number
number_after (Chars text origin line rest) number = number_after rest (number + 1)
number_after (Element name attributes origin line inside rest) number =
    number_after rest (number_after inside ((number + 1) + length attributes) + 1)

-- the content with those lines
abbrev pub numbered : ℕ → Content → Content
numbered number End = End
numbered number (Chars text origin line rest) = Chars text origin line (numbered (number + 1) rest)
numbered number (Element name attributes origin line inside rest) =
    let first = (number + 1) + length attributes in
    Element name attributes origin (number + 1) (numbered first inside) (numbered (number_after inside first + 1) rest)

-- the events behind its lines
abbrev pub events_behind : ℕ → Content → List Event → List Event
events_behind number End before = before
events_behind number (Chars text origin line rest) before = events_behind (number + 1) rest (add_text text before)
events_behind number (Element name attributes origin line inside rest) before =
    let first = (number + 1) + length attributes in
    events_behind (number_after inside first + 1) rest
    (Close name ∷ add_text [] (events_behind first inside
    (give_all attributes (Open name (number + 1) ∷ add_text [] before))))

-- it opens nothing that stays open
open_behind : (c : Content) (number : ℕ) (before : List Event)
    → open_names (events_behind number c before) ≡ open_names before
open_behind End number before = refl
open_behind (Chars text origin line rest) number before = open_behind rest (number + 1) (add_text text before)
    ∙ open_names_add_text text before
open_behind (Element name attributes origin line inside rest) number before =
    let first = (number + 1) + length attributes in
    let front = Open name (number + 1) ∷ add_text [] before in
    let opened = give_all attributes front in
    let within = events_behind first inside opened in
    let names : open_names (add_text [] within) ≡ name ∷ open_names before =
    open_names_add_text [] within ∙ (open_behind inside first opened
    ∙ (open_given attributes front ∙ ap (λ (l : List (List ℕ)). name ∷ l) (open_names_add_text [] before))) in
    open_behind rest (number_after inside first + 1) (Close name ∷ add_text [] within) ∙ ap (drop 1) names

-- a root stays
root_given : (attributes : List Attribute) (before : List Event) → has_root before ≡ true
    → has_root (give_all attributes before) ≡ true
root_given [] before e = e
root_given (attribute ∷ attributes) before e = root_given attributes (Give attribute.name attribute.value ∷ before) e

root_behind : (c : Content) (number : ℕ) (before : List Event) → has_root before ≡ true
    → has_root (events_behind number c before) ≡ true
root_behind End number before e = e
root_behind (Chars text origin line rest) number before e =
    root_behind rest (number + 1) (add_text text before) (has_root-add text before ∙ e)
root_behind (Element name attributes origin line inside rest) number before e =
    let first = (number + 1) + length attributes in
    let opened = give_all attributes (Open name (number + 1) ∷ add_text [] before) in
    let within = events_behind first inside opened in
    root_behind rest (number_after inside first + 1) (Close name ∷ add_text [] within)
    (has_root-add [] within ∙ root_behind inside first opened (root_given attributes _ refl))

-- the lines of attributes
reads_given : (attributes : List Attribute) (names : List (List ℕ)) (number : ℕ) (before : List Event)
    (more : List Line) → given_names before ≡ Some names → AreReadAfter names attributes
    → reads number before (given_then attributes more)
    ≡ reads (number + length attributes) (give_all attributes before) more
reads_given [] names number before more e given = let same : number ≡ number + 0 = omega arith
    in ap (λ (n : ℕ). reads n before more) same
reads_given (attribute ∷ attributes) names number before more e given =
    let next = Give attribute.name attribute.value ∷ before in
    let after_it : given_names next ≡ Some (attribute.name ∷ names) = rw e refl in
    let rest = reads_given attributes (attribute.name ∷ names) (number + 1) next more after_it given.3 in
    let count : (number + 1) + length attributes ≡ number + length (attribute ∷ attributes) = omega arith in
    let step : reads number before (Gives attribute.name attribute.value ∷ given_then attributes more)
    ≡ reads (number + 1) next (given_then attributes more) = rw (e, given.2) refl in
    step ∙ (rest ∙ ap (λ (n : ℕ). reads n (give_all attributes next) more) count)

-- a name closes its element
closes_own : (name : List ℕ) (names outer : List (List ℕ)) → names ≡ name ∷ outer → fault_of_close name names ≡ None
closes_own name names outer e =
    let same : bytes_eq name name ≡ true = (bytes_eq-Decides name name).1 refl in
    rw (e, same) refl

-- what is open within an element, and behind it
open_front : (name : List ℕ) (attributes : List Attribute) (line : ℕ) (before : List Event)
    → open_names (give_all attributes (Open name line ∷ add_text [] before)) ≡ name ∷ open_names before
open_front name attributes line before = open_given attributes (Open name line ∷ add_text [] before)
    ∙ ap (λ (l : List (List ℕ)). name ∷ l) (open_names_add_text [] before)

open_within : (name : List ℕ) (inside : Content) (number : ℕ) (opened before : List Event)
    → open_names opened ≡ name ∷ open_names before
    → open_names (events_behind number inside opened) ≡ name ∷ open_names before
open_within name inside number opened before e = open_behind inside number opened ∙ e

open_shut : (name : List ℕ) (within before : List Event) → open_names within ≡ name ∷ open_names before
    → open_names (Close name ∷ add_text [] within) ≡ open_names before
open_shut name within before e = ap (drop 1) (open_names_add_text [] within ∙ e)

-- the lines of an element, where those of what it holds are read
reads_element : (name : List ℕ) (attributes : List Attribute) (inside : Content) (number : ℕ) (before : List Event)
    (more : List Line)
    → fault_of_open (has_root before) (open_names before) ≡ None → AreReadAfter [] attributes
    → let first = (number + 1) + length attributes in
    let opened = give_all attributes (Open name (number + 1) ∷ add_text [] before) in
    reads first opened (said_then inside (Closes name ∷ more))
    ≡ reads (number_after inside first) (events_behind first inside opened) (Closes name ∷ more)
    → reads number before (Opens name ∷ given_then attributes (said_then inside (Closes name ∷ more)))
    ≡ reads (number_after inside first + 1) (Close name ∷ add_text [] (events_behind first inside opened)) more
reads_element name attributes inside number before more sound given held =
    let first = (number + 1) + length attributes in
    let front = Open name (number + 1) ∷ add_text [] before in
    let opened = give_all attributes front in
    let within = events_behind first inside opened in
    let last = number_after inside first in
    let lines = said_then inside (Closes name ∷ more) in
    let begun = goes_on-none (fault_of before (Opens name)) (number + 1)
    (reads (number + 1) front (given_then attributes lines)) sound in
    let named = reads_given attributes [] (number + 1) front lines refl given in
    let names = open_within name inside first opened before (open_front name attributes (number + 1) before) in
    let ended = goes_on-none (fault_of within (Closes name)) (last + 1)
    (reads (last + 1) (Close name ∷ add_text [] within) more)
    (closes_own name (open_names within) (open_names before) names) in
    begun ∙ (named ∙ (held ∙ ended))

-- the lines of a content within an element
reads_said : (c : Content) (number : ℕ) (before : List Event) (more : List Line) → 0 < length (open_names before)
    → IsReadWithin (length (open_names before)) c
    → reads number before (said_then c more) ≡ reads (number_after c number) (events_behind number c before) more
reads_said End number before more some parts = refl
reads_said (Chars text origin line rest) number before more some parts =
    let outside : (length (open_names before) == 0) ≡ false = grind (arith, nat_tests, some) in
    let next = add_text text before in
    let names : open_names next ≡ open_names before = open_names_add_text text before in
    let step : reads number before (Says text ∷ said_then rest more) ≡ reads (number + 1) next (said_then rest more) =
    rw outside refl in
    step ∙ reads_said rest (number + 1) next more (omega (arith, ap length names, some))
    (subst (λ (l : List (List ℕ)). IsReadWithin (length l) rest) (sym names) parts.1)
reads_said (Element name attributes origin line inside rest) number before more some parts =
    let first = (number + 1) + length attributes in
    let opened = give_all attributes (Open name (number + 1) ∷ add_text [] before) in
    let within = events_behind first inside opened in
    let shut = Close name ∷ add_text [] within in
    let last = number_after inside first in
    let names : open_names opened ≡ name ∷ open_names before = open_front name attributes (number + 1) before in
    let outer : open_names shut ≡ open_names before =
    open_shut name within before (open_within name inside first opened before names) in
    let deeper : length (open_names before) + 1 ≡ length (open_names opened) = sym (ap length names ∙ omega arith) in
    let held = reads_said inside first opened (Closes name ∷ said_then rest more) (omega (arith, ap length names))
    (subst (λ n. IsReadWithin n inside) deeper parts.3) in
    let sound = fault_of_inner (has_root before) (open_names before) some parts.1 in
    reads_element name attributes inside number before (said_then rest more) sound parts.2 held
    ∙ reads_said rest (last + 1) shut more (omega (arith, ap length outer, some))
    (subst (λ (l : List (List ℕ)). IsReadWithin (length l) rest) (sym outer) parts.4)

-- attributes end in no text
given_no_text : (attributes : List Attribute) (before : List Event) → EndsInNoText before
    → EndsInNoText (give_all attributes before)
given_no_text [] before e = e
given_no_text (attribute ∷ attributes) before e =
    given_no_text attributes (Give attribute.name attribute.value ∷ before) tt

-- a text behind none
text_behind : (text : List ℕ) (before : List Event) → EndsInNoText before → add_text text before ≡ Text text ∷ before
text_behind text [] e = refl
text_behind text (Open name line ∷ before) e = refl
text_behind text (Give name value ∷ before) e = refl
text_behind text (Text first ∷ before) e = absurd e
text_behind text (Close name ∷ before) e = refl

nothing_behind : (text : List ℕ) (before : List Event) → add_text [] (Text text ∷ before) ≡ Text text ∷ before
nothing_behind text before = ap (λ (l : List ℕ). Text l ∷ before) (append-nil text)

-- the events behind the lines of a content are what it says with its new lines, behind a text or behind none
record IsToldAgain (c : Content) : Type 0 where
  pub text : (number : ℕ) (text : List ℕ) (before : List Event)
      → add_text [] (events_behind number c (Text text ∷ before)) ≡ says text (numbered number c) before
  pub none : (number : ℕ) (before : List Event) → EndsInNoText before
      → add_text [] (events_behind number c before) ≡ says [] (numbered number c) before

told_element : (name : List ℕ) (attributes : List Attribute) (origin line : ℕ) (inside rest : Content) (number : ℕ)
    (text : List ℕ) (before front : List Event) → IsToldAgain inside → IsToldAgain rest
    → add_text [] front ≡ Text text ∷ before
    → add_text [] (events_behind number (Element name attributes origin line inside rest) front)
    ≡ says text (numbered number (Element name attributes origin line inside rest)) before
told_element name attributes origin line inside rest number text before front held behind e =
    let first = (number + 1) + length attributes in
    let last = number_after inside first in
    let shut = λ (events : List Event). add_text []
    (events_behind (last + 1) rest (Close name ∷ add_text []
    (events_behind first inside (give_all attributes (Open name (number + 1) ∷ events))))) in
    let opened = give_all attributes (Open name (number + 1) ∷ Text text ∷ before) in
    let within = held.none first opened (given_no_text attributes (Open name (number + 1) ∷ Text text ∷ before) tt) in
    ap shut e
    ∙ (ap (λ (events : List Event). add_text [] (events_behind (last + 1) rest (Close name ∷ events))) within
    ∙ behind.none (last + 1) (Close name ∷ says [] (numbered first inside) opened) tt)

told_again : (c : Content) → IsToldAgain c
told_again End = record {
  text = λ number text before. nothing_behind text before;
  none =
      λ number before e. text_behind [] before e;
}
told_again (Chars more origin line rest) =
    let behind = told_again rest in
    record {
      text = λ number text before. behind.text (number + 1) (text ++ more) before;
      none = λ number before e. ap (λ (events : List Event). add_text [] (events_behind (number + 1) rest events))
          (text_behind more before e) ∙ behind.text (number + 1) more before;
    }
told_again (Element name attributes origin line inside rest) =
    let held = told_again inside in
    let behind = told_again rest in
    record {
      text = λ number text before. told_element name attributes origin line inside rest number text before
          (Text text ∷ before) held behind (nothing_behind text before);
      none = λ number before e. told_element name attributes origin line inside rest number
          [] before before held behind (text_behind [] before e);
    }

-- new lines change nothing else
numbered_same : (c : Content) (number : ℕ) → SameApartFromLines c (numbered number c)
numbered_same End number = tt
numbered_same (Chars text origin line rest) number = (refl, refl, numbered_same rest (number + 1))
numbered_same (Element name attributes origin line inside rest) number =
    let first = (number + 1) + length attributes in
    (refl, refl, refl, numbered_same inside first, numbered_same rest (number_after inside first + 1))

begins_numbered : (c : Content) (number : ℕ) → begins_with_text (numbered number c) ≡ begins_with_text c
begins_numbered End number = refl
begins_numbered (Chars text origin line rest) number = refl
begins_numbered (Element name attributes origin line inside rest) number = refl

written_numbered : (c : Content) (number : ℕ) → IsWritten c → IsWritten (numbered number c)
written_numbered End number written = tt
written_numbered (Chars text origin line rest) number written = (
  written.0,
  begins_numbered rest (number + 1)
      ∙ written.1,
  written.2,
  written.3,
  written_numbered rest (number + 1) written.4,
)
written_numbered (Element name attributes origin line inside rest) number written =
    let first = (number + 1) + length attributes in (
      written.0,
      written_numbered inside first written.1,
      written_numbered rest (number_after inside first + 1) written.2,
    )

one_numbered : (c : Content) (number : ℕ) → IsOneElement c → IsOneElement (numbered number c)
one_numbered End number one = one
one_numbered (Chars text origin line rest) number one = one
one_numbered (Element name attributes origin line inside rest) number one =
    ap (numbered (number_after inside ((number + 1) + length attributes) + 1)) one

-- at the end nothing is open, and the root was
ends_well : (number : ℕ) (events : List Event) → open_names events ≡ [] → has_root events ≡ true
    → ends number events ≡ Ok events
ends_well number events closed rooted = rw (closed, rooted) refl

-- the lines of a whole document
reads_root : (c : Content) → IsOneElement c → IsReadWithin 0 c → reads 0 [] (said_then c []) ≡ Ok (events_behind 0 c [])
reads_root End one parts = absurd one
reads_root (Chars text origin line rest) one parts = absurd one
reads_root (Element name attributes origin line inside rest) one parts =
    let first = (0 + 1) + length attributes in
    let opened = give_all attributes (Open name 1 ∷ Text [] ∷ []) in
    let within = events_behind first inside opened in
    let shut = Close name ∷ add_text [] within in
    let last = number_after inside first in
    let names : open_names opened ≡ name ∷ [] = open_front name attributes 1 [] in
    let outer : open_names shut ≡ [] = open_shut name within [] (open_within name inside first opened [] names) in
    let deeper : 0 + 1 ≡ length (open_names opened) = sym (ap length names) in
    let rooted : has_root shut ≡ true = has_root-add [] within
    ∙ root_behind inside first opened (root_given attributes (Open name 1 ∷ Text [] ∷ []) refl) in
    let held = reads_said inside first opened (Closes name ∷ []) (omega (arith, ap length names))
    (subst (λ n. IsReadWithin n inside) deeper parts.3) in
    let P : Content → Type 0 = λ rest. reads 0 [] (said_then (Element name attributes origin line inside rest) [])
    ≡ Ok (events_behind 0 (Element name attributes origin line inside rest) []) in
    subst P (sym one) (reads_element name attributes inside 0 [] [] refl parts.2 held
    ∙ ends_well (last + 1) shut outer rooted)

-- the lines of a whole text
canonical_lines : (c : Content) (depth limit : ℕ) → IsReadWithin depth c → length (text_of c) ≤ limit
    → lines_from limit [] (text_of c) ≡ said_then c []
canonical_lines c depth limit parts small =
    let left = limit - length (text_of c) in
    let size : limit ≡ length (text_of c) + left = omega arith in
    ap (lines_from limit []) (sym (append-nil (text_of c)))
    ∙ (written_lines c depth limit left [] parts size ∙ ap (said_then c) (lines-none left [] refl))

-- the canonical text of a tree that a text may stand for
pub again : (tree : Content) → IsReadTree tree → length (text_of tree) ≤ text_limit
    → StandsAgainFor (text_of tree) tree
again tree kept small =
    let read : reading (text_of tree) ≡ Ok (events_behind 0 tree []) =
    ap (reads 0 []) (canonical_lines tree 0 text_limit kept.parts small) ∙ reads_root tree kept.one kept.parts in
    let stands : StandsFor (text_of tree) (numbered 0 tree) = record {
      events = events_behind 0 tree [];
      read = read;
      same = sym ((told_again tree).none 0 [] tt);
      written = written_numbered tree 0 kept.written;
      one = one_numbered tree 0 kept.one;
    } in
    (numbered 0 tree, stands, numbered_same tree 0)

pub again_of : (text : List ℕ) (tree : Content) → text ≡ text_of tree → IsReadTree tree → length text ≤ text_limit
    → StandsAgainFor text tree
again_of text tree is kept small =
    subst (λ t. length t ≤ text_limit → StandsAgainFor t tree) (sym is) (again tree kept) small

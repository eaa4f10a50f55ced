-- What the tree that a text stands for keeps: its names, values and texts are those of lines, it is not too deep, and
-- no attribute is given twice.
use Rattle.std.specs.Prelude.{◌≡◌, ◌+◌, ℕ, true, false, List, [], ◌∷◌, ◌++◌, Some, None, length, drop, bytes_eq, if◌then◌else◌}
use Rattle.std.specs.List.{list_any}
use Rattle.std.proofs.Common.{refl, sym, ◌∙◌, ap, subst, arith, Bool}
use Rattle.dita_doc.specs.declared.doc.Attribute.{Attribute}
use Rattle.dita_doc.specs.declared.doc.Node.{Node}
use Rattle.dita_doc.specs.declared.fault.PyxCode.TheVariants as codes
use Rattle.dita_doc.specs.Tree.{Content, End, Chars, Element, tree_of}
use Rattle.dita_doc.specs.PyxEvent.{Event, Open, Give, Text, Close, open_names, given_names}
use Rattle.dita_doc.specs.Pyx.{StandsFor, text_limit, lines_from, says, give_all, IsWritten}
use Rattle.dita_doc.specs.ReadTree.{IsReadText, AreReadAfter, IsReadWithin, IsReadTree}
use Rattle.dita_doc.proofs.TreeLaws.{content_of_nodes}
use Rattle.pyx_text.specs.Read.{AreRead}
use Rattle.pyx_text.proofs.PyxTells.{IsApart, apart_from_false}
use Rattle.pyx_text.proofs.ReadLines.{AreSound, no_text, sound_add_text, sound_lines, sound_reads}

-- what is open behind attributes, and behind a content
pub open_given : (attributes : List Attribute) (before : List Event)
    → open_names (give_all attributes before) ≡ open_names before
open_given [] before = refl
open_given (attribute ∷ attributes) before = open_given attributes (Give attribute.name attribute.value ∷ before)

open_said : (c : Content) (text : List ℕ) (before : List Event)
    → open_names (says text c before) ≡ open_names before
open_said End text before = refl
open_said (Chars more origin line rest) text before = open_said rest (text ++ more) before
open_said (Element name attributes origin line inside rest) text before =
    let opened = give_all attributes (Open name line ∷ Text text ∷ before) in
    let within : open_names (says [] inside opened) ≡ name ∷ open_names before = open_said inside [] opened
    ∙ open_given attributes (Open name line ∷ Text text ∷ before) in
    open_said rest [] (Close name ∷ says [] inside opened) ∙ ap (drop 1) within

-- the attributes of events that are sound
record IsGivenBy (attributes : List Attribute) (names : List (List ℕ)) (before : List Event) : Type 0 where
  pub given : AreReadAfter names attributes
  pub sound : AreSound before

new_name : (name : List ℕ) (names : List (List ℕ)) (known : Bool) → list_any (bytes_eq name) names ≡ known
    → (if known then Some codes.AttributeTwice else None) ≡ None → list_any (bytes_eq name) names ≡ false
new_name name names true e sound = absurd cc
new_name name names false e sound = e

given_from : (attributes : List Attribute) (names : List (List ℕ)) (before : List Event)
    → given_names before ≡ Some names → AreSound (give_all attributes before) → IsGivenBy attributes names before
given_from [] names before e sound = record { given = tt; sound = sound }
given_from (attribute ∷ attributes) names before e sound =
    let more : given_names (Give attribute.name attribute.value ∷ before) ≡ Some (attribute.name ∷ names) = rw e refl in
    let rest = given_from attributes (attribute.name ∷ names) (Give attribute.name attribute.value ∷ before) more sound
    in
    let sure = rw e at rest.sound.2 in
    record {
      given = (rest.sound.0, rest.sound.1, new_name attribute.name names _ refl sure, rest.given);
      sound = rest.sound.3;
    }

-- the same of a whole content
record IsSaidBy (c : Content) (text : List ℕ) (before : List Event) : Type 0 where
  pub parts : IsReadWithin (length (open_names before)) c
  pub good : IsReadText text
  pub sound : AreSound before

said_from : (c : Content) (text : List ℕ) (before : List Event) → IsWritten c → IsApart text c
    → AreSound (says text c before) → IsSaidBy c text before
said_from End text before written apart sound = record { parts = tt; good = sound.0; sound = sound.1 }
said_from (Chars more origin line rest) [] before written apart sound =
    let behind = said_from rest more before written.4 (apart_from_false more rest written.1) sound in
    record { parts = (behind.good, behind.parts); good = no_text; sound = behind.sound }
said_from (Chars more origin line rest) (b ∷ text) before written apart sound = absurd cc
said_from (Element name attributes origin line inside rest) text before written apart sound =
    let front = Open name line ∷ Text text ∷ before in
    let opened = give_all attributes front in
    let shut = Close name ∷ says [] inside opened in
    let behind = said_from rest [] shut written.2 tt sound in
    let within = said_from inside [] opened written.1 tt behind.sound in
    let given = given_from attributes [] front refl within.sound in
    let names : open_names opened ≡ name ∷ open_names before = open_given attributes front in
    let outer : open_names shut ≡ open_names before = ap (drop 1) (open_said inside [] opened ∙ names) in
    let deeper : length (open_names opened) ≡ length (open_names before) + 1 = ap length names ∙ omega arith in
    record {
      parts = (
        given.sound.0,
        given.sound.1,
        given.given,
        subst (λ n. IsReadWithin n inside) deeper within.parts,
        subst (λ (l : List (List ℕ)). IsReadWithin (length l) rest) outer behind.parts,
      );
      good = given.sound.2.0;
      sound = given.sound.2.1;
    }

-- a tree of a text
pub read_tree : (text : List ℕ) (tree : Content) → StandsFor text tree → IsReadTree tree
read_tree text tree stands =
    let lines = lines_from text_limit [] text in
    let sound : AreSound stands.events = sound_reads lines 0 [] stands.events
    (sound_lines text_limit [] text refl refl) tt stands.read in
    let same = subst AreSound (sym stands.same) (sound_add_text [] stands.events no_text sound) in
    record { one = stands.one; written = stands.written; parts = (said_from tree [] [] stands.written tt same).parts }

-- and that of the nodes that were read of it
pub kept_tree : (nodes : List Node) (text : List ℕ) → AreRead nodes text → IsReadTree (tree_of nodes)
kept_tree nodes text read =
    let same : tree_of nodes ≡ read.0 = ap tree_of read.2 ∙ content_of_nodes read.0 0 in
    subst IsReadTree (sym same) (read_tree text read.0 read.1)

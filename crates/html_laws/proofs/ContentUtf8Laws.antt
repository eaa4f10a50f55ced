-- Texts that are read of content in UTF-8 are UTF-8.
use Rattle.std.specs.Prelude.{◌+◌, ◌-◌, ◌==◌, ℕ, List, [], ◌∷◌, ◌++◌, Option, Some, None, IfSome, filter, find, length, nat_lt, option_map, slice_get, codes, bytes_eq, if◌then◌else◌}
use Rattle.std.specs.List.{AllByRecursion, filter_map, flat_map}
use Rattle.std.specs.Str.{IsUtf8}
use Rattle.std.proofs.lemmas.Str.{IsUtf8-append, IsUtf8-from_is_utf8, IsUtf8-nil}
use Rattle.dita_doc.specs.ClassValue.{value_of}
use Rattle.dita_doc.specs.ReadTree.{AreReadAfter, IsReadTree, IsReadWithin}
use Rattle.dita_doc.specs.Tree as tree
use Rattle.dita_doc.specs.Tree.{Content}
use Rattle.dita_doc.specs.declared.doc.Attribute.{Attribute}
use Rattle.dita_doc.specs.declared.plan.PlanNode.{PlanNode}
use Rattle.dita_doc.proofs.EscapeUtf8Laws.{utf8_folded}
use Rattle.reader_spec.specs.World.{World}
use Rattle.map_spec.specs.Cascade.{attribute_at, whole_at}
use Rattle.map_spec.specs.Elements.{attribute, children, first_child, first_under, is_transparent, is_whole, plain_text, text_of, without_transparent}
use Rattle.map_spec.specs.Judged.{has_element}
use Rattle.map_spec.specs.Titles.{first_text, has_id, id_of, title_among, title_in, title_of_document, title_of_topic, topic_named, topics}
use Rattle.map_spec.specs.Written.{Element, Whole, Written, End, Chars, Node, characters, document, element_at, element_in, elements_below, side_by_side, siblings, size, written_in}
use Rattle.html_laws.specs.Utf8.{HasUtf8Value, IsUtf8Content, IsUtf8Element, IsUtf8World}
use Rattle.html_laws.proofs.EachLaws.{chosen, of_and_then, of_both, of_filter_map, of_found, of_kept, of_lists, of_map_or, of_option, of_option_map, of_place}

-- Attributes

pub utf8_value_of : (name : List ℕ) (attributes : List Attribute) → AllByRecursion HasUtf8Value attributes
    → IfSome (value_of name attributes) IsUtf8
utf8_value_of name [] all = tt
utf8_value_of name (given ∷ attributes) all =
    chosen (λ value. IfSome value IsUtf8) (bytes_eq given.name name) (Some given.value) (value_of name attributes) all.0
    (utf8_value_of name attributes all.1)

abbrev pub HasUtf8Values : Element → Type 0
HasUtf8Values element = AllByRecursion HasUtf8Value element.attributes

pub utf8_attribute_of : (name : List ℕ) (element : Element) → HasUtf8Values element
    → IfSome (attribute name element) IsUtf8
utf8_attribute_of name element all = utf8_value_of name element.attributes all

pub utf8_id : (element : Element) → HasUtf8Values element → IsUtf8 (id_of element)
utf8_id element all =
    of_option IsUtf8 (attribute (codes "id") element) [] (utf8_attribute_of (codes "id") element all) IsUtf8-nil

-- Elements

abbrev pub IsUtf8Whole : Whole → Type 0
IsUtf8Whole whole = IsUtf8Element whole.0 × IsUtf8Content whole.1

pub utf8_beside : (nodes more : Written) → IsUtf8Content nodes → IsUtf8Content more
    → IsUtf8Content (side_by_side nodes more)
utf8_beside End more first second = second
utf8_beside (Chars text doc rest) more first second = (first.0, utf8_beside rest more first.1 second)
utf8_beside (Node element inside rest) more first second =
    (first.0, first.1, utf8_beside rest more first.2 second)

utf8_untransparent : (nodes : Written) → IsUtf8Content nodes → IsUtf8Content (without_transparent nodes)
utf8_untransparent End all = tt
utf8_untransparent (Chars text doc rest) all = (all.0, utf8_untransparent rest all.1)
utf8_untransparent (Node element inside rest) all =
    let others = utf8_untransparent rest all.2 in
    chosen IsUtf8Content (is_transparent element) (side_by_side (without_transparent inside) (without_transparent rest))
    (Node element inside (without_transparent rest))
    (utf8_beside (without_transparent inside) (without_transparent rest) (utf8_untransparent inside all.1) others)
    (all.0, all.1, others)

utf8_siblings : (nodes : Written) → IsUtf8Content nodes → AllByRecursion IsUtf8Whole (siblings nodes)
utf8_siblings End all = tt
utf8_siblings (Chars text doc rest) all = utf8_siblings rest all.1
utf8_siblings (Node element inside rest) all = ((all.0, all.1), utf8_siblings rest all.2)

pub utf8_elements : (nodes : Written) → IsUtf8Content nodes → AllByRecursion IsUtf8Whole (elements_below nodes)
utf8_elements End all = tt
utf8_elements (Chars text doc rest) all = utf8_elements rest all.1
utf8_elements (Node element inside rest) all = (
  (all.0, all.1),
  of_both IsUtf8Whole (elements_below inside) (elements_below rest) (utf8_elements inside all.1)
      (utf8_elements rest all.2),
)

pub utf8_children : (inside : Written) → IsUtf8Content inside → AllByRecursion IsUtf8Whole (children inside)
utf8_children inside all = utf8_siblings (without_transparent inside) (utf8_untransparent inside all)

pub utf8_child : (token : List ℕ) (inside : Written) → IsUtf8Content inside
    → IfSome (first_child token inside) IsUtf8Whole
utf8_child token inside all = of_found IsUtf8Whole (is_whole token) (children inside) (utf8_children inside all)

pub utf8_under : (child token : List ℕ) (inside : Written) → IsUtf8Content inside
    → IfSome (first_under child token inside) IsUtf8Whole
utf8_under child token inside all =
    let kept = filter (is_whole child) (children inside) in
    of_found IsUtf8Whole (is_whole token) (flat_map (λ (whole : Whole). elements_below whole.1) kept)
    (of_lists IsUtf8Whole IsUtf8Whole (λ (whole : Whole). elements_below whole.1) kept
    (λ whole is. utf8_elements whole.1 is.1)
    (of_kept IsUtf8Whole (is_whole child) (children inside) (utf8_children inside all)))

-- Texts

utf8_characters : (nodes : Written) → IsUtf8Content nodes → IsUtf8 (characters nodes)
utf8_characters End all = IsUtf8-nil
utf8_characters (Chars text doc rest) all =
    IsUtf8-append text (characters rest) all.0 (utf8_characters rest all.1)
utf8_characters (Node element inside rest) all =
    IsUtf8-append (characters inside) (characters rest) (utf8_characters inside all.1) (utf8_characters rest all.2)

pub utf8_plain : (inside : Written) → IsUtf8Content inside → IsUtf8 (plain_text inside)
utf8_plain inside all = utf8_folded (characters inside) (utf8_characters inside all)

pub utf8_text_of : (whole : Option Whole) → IfSome whole IsUtf8Whole → IsUtf8 (text_of whole)
utf8_text_of None all = IsUtf8-nil
utf8_text_of (Some whole) all = utf8_plain whole.1 all.1

-- Titles

pub utf8_first : (texts : List (List ℕ)) → AllByRecursion IsUtf8 texts → IsUtf8 (first_text texts)
utf8_first [] all = IsUtf8-nil
utf8_first ([] ∷ texts) all = utf8_first texts all.1
utf8_first ((b ∷ text) ∷ texts) all = all.0

utf8_title_of_topic : (topic : Whole) → IsUtf8Whole topic → IsUtf8 (title_of_topic topic)
utf8_title_of_topic topic is =
    utf8_text_of (first_child (codes "topic/title") topic.1) (utf8_child (codes "topic/title") topic.1 is.1)

pub utf8_topics : (nodes : Written) → IsUtf8Content nodes → AllByRecursion IsUtf8Whole (topics nodes)
utf8_topics nodes all =
    of_kept IsUtf8Whole (is_whole (codes "topic/topic")) (elements_below nodes) (utf8_elements nodes all)

abbrev pub IsUtf8Root : Option Whole → Type 0
IsUtf8Root root = IfSome root IsUtf8Whole

utf8_title : (name topic : List ℕ) (all : List Whole) → IsUtf8 name → AllByRecursion IsUtf8Whole all
    → IsUtf8 (title_among name topic all)
utf8_title name topic all named each =
    let wholes : List (Option Whole) = topic_named topic all ∷ slice_get all 0 ∷ [] in
    let topic_is : IsUtf8Root (topic_named topic all) =
    chosen IsUtf8Root (length topic == 0) None (find (has_id topic) all) tt
    (of_found IsUtf8Whole (has_id topic) all each) in
    let titles : List (List ℕ) = filter_map (option_map title_of_topic) wholes in
    utf8_first (titles ++ name ∷ [])
    (of_both IsUtf8 titles (name ∷ [])
    (of_filter_map IsUtf8Root IsUtf8 (option_map title_of_topic) wholes
    (λ whole is. of_option_map IsUtf8Whole IsUtf8 title_of_topic whole utf8_title_of_topic is)
    (topic_is, (of_place IsUtf8Whole all 0 each, tt))) (named, tt))

-- Elements and titles in a world

pub utf8_title_in : (world : World) (name topic : List ℕ) → IsUtf8World world → IsUtf8 name
    → IsUtf8 (title_in world name topic)
utf8_title_in world name topic all named =
    of_map_or IsUtf8Content IsUtf8 (title_of_document name topic) (document world name) name
    (λ nodes is. utf8_title name topic (topics nodes) named (utf8_topics nodes is)) (all name named) named

utf8_element_at : (nodes : Written) (place : ℕ) → IsUtf8Content nodes → IfSome (element_at nodes place) IsUtf8Whole
utf8_element_at End place all = tt
utf8_element_at (Chars text doc rest) place all =
    chosen IsUtf8Root (place == 0) None (element_at rest (place - 1)) tt (utf8_element_at rest (place - 1) all.1)
utf8_element_at (Node element inside rest) place all =
    let behind = place - (1 + size inside) in
    let rest_is = utf8_element_at rest behind all.2 in
    let inside_is = utf8_element_at inside (place - 1) all.1 in
    chosen IsUtf8Root (place == 0) (Some (element, inside))
    (if nat_lt (size inside) place then element_at rest behind else element_at inside (place - 1)) (all.0, all.1)
    (chosen IsUtf8Root (nat_lt (size inside) place) (element_at rest behind) (element_at inside (place - 1)) rest_is
    inside_is)

pub utf8_element_in : (world : World) (name : List ℕ) (place : ℕ) → IsUtf8World world → IsUtf8 name
    → IfSome (element_in world name place) IsUtf8Whole
utf8_element_in world name place all named =
    of_and_then IsUtf8Content IsUtf8Whole (λ nodes. element_at nodes place) (document world name)
    (λ nodes is. utf8_element_at nodes place is) (all name named)

pub utf8_whole_at : (world : World) (node : PlanNode) → IsUtf8World world → IsUtf8 node.doc
    → IfSome (whole_at world node) IsUtf8Whole
utf8_whole_at world node all named =
    chosen IsUtf8Root (has_element node.kind) (element_in world node.doc node.place) None
    (utf8_element_in world node.doc node.place all named) tt

pub utf8_attribute_at : (world : World) (name : List ℕ) (node : PlanNode) → IsUtf8World world → IsUtf8 node.doc
    → IfSome (attribute_at world name node) IsUtf8
utf8_attribute_at world name node all named =
    of_and_then IsUtf8Whole IsUtf8 (λ (whole : Whole). attribute name whole.0) (whole_at world node)
    (λ whole is. utf8_attribute_of name whole.0 is.0.0) (utf8_whole_at world node all named)

-- What is read of PYX is UTF-8

utf8_read_values : (names : List (List ℕ)) (attributes : List Attribute) → AreReadAfter names attributes
    → AllByRecursion HasUtf8Value attributes
utf8_read_values names [] read = tt
utf8_read_values names (given ∷ attributes) read = (
  IsUtf8-from_is_utf8 given.value read.1.utf8,
  utf8_read_values (given.name ∷ names) attributes read.3,
)

utf8_read_within : (name : List ℕ) (depth : ℕ) (tree : Content) → IsUtf8 name → IsReadWithin depth tree
    → IsUtf8Content (written_in name tree)
utf8_read_within name depth tree.End named read = tt
utf8_read_within name depth (tree.Chars text origin line rest) named read =
    (IsUtf8-from_is_utf8 text read.0.utf8, utf8_read_within name depth rest named read.1)
utf8_read_within name depth (tree.Element own attributes origin line inside rest) named read = (
  (utf8_read_values [] attributes read.2, named, named),
  utf8_read_within name (depth + 1) inside named read.3,
  utf8_read_within name depth rest named read.4,
)

pub read_utf8 : (name : List ℕ) (tree : Content) → IsUtf8 name → IsReadTree tree → IsUtf8Content (written_in name tree)
read_utf8 name tree named read = utf8_read_within name 0 tree named read.parts

-- a world of documents that were read
pub world_utf8 : (world : World) → ((name : List ℕ) → IfSome (world name) IsReadTree) → IsUtf8World world
world_utf8 world all name named =
    of_option_map IsReadTree IsUtf8Content (written_in name) (world name) (λ tree is. read_utf8 name tree named is)
    (all name)

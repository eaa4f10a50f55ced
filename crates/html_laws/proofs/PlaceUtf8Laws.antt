-- Elements where they stand in content of UTF-8.
use Rattle.std.specs.Prelude.{◌+◌, ◌==◌, ℕ, List, Option, Some, None, IfSome, find, length}
use Rattle.std.specs.List.{AllByRecursion}
use Rattle.std.specs.Str.{IsUtf8}
use Rattle.map_spec.specs.Titles.{id_of}
use Rattle.map_spec.specs.Written.{Element, Written, End, Chars, Node, size}
use Rattle.map_spec.specs.Places.{Standing, TopicAt, all_standing, is_element_meant, is_topic, is_topic_there, is_topic_with, standing_from, target_in, topic_inside, topic_meant, first_topic}
use Rattle.html_laws.specs.Utf8.{IsUtf8Content, IsUtf8Element}
use Rattle.html_laws.proofs.ContentUtf8Laws.{IsUtf8Whole, utf8_id}
use Rattle.html_laws.proofs.EachLaws.{chosen, of_both, of_found}

abbrev HasUtf8Id : TopicAt → Type 0
HasUtf8Id topic = IsUtf8 topic.id

pub record IsUtf8Standing (standing : Standing) : Type 0 where
  pub whole : IsUtf8Whole standing.whole
  pub topic : IfSome standing.topic (λ (topic : TopicAt). IsUtf8 topic.id)
  pub before : IfSome standing.before IsUtf8Element
  pub behind : IsUtf8Content standing.behind

utf8_inside : (place : ℕ) (element : Element) (topic : Option TopicAt) → IsUtf8Element element
    → IfSome topic HasUtf8Id → IfSome (topic_inside place element topic) HasUtf8Id
utf8_inside place element topic is first =
    chosen (λ found. IfSome found HasUtf8Id) (is_topic element) (Some (record { place = place; id = id_of element })) topic
    (utf8_id element is.0) first

utf8_standing_from : (place : ℕ) (topic : Option TopicAt) (before : Option Element) (nodes : Written)
    → IfSome topic HasUtf8Id → IfSome before IsUtf8Element → IsUtf8Content nodes
    → AllByRecursion IsUtf8Standing (standing_from place topic before nodes)
utf8_standing_from place topic before End first second all = tt
utf8_standing_from place topic before (Chars text doc rest) first second all =
    utf8_standing_from (place + 1) topic before rest first second all.1
utf8_standing_from place topic before (Node element inside rest) first second all = (
  record { whole = (all.0, all.1); topic = first; before = second; behind = all.2 },
  of_both IsUtf8Standing (standing_from (place + 1) (topic_inside place element topic) None inside)
      (standing_from (place + 1 + size inside) topic (Some element) rest)
      (utf8_standing_from (place + 1) (topic_inside place element topic) None inside
      (utf8_inside place element topic all.0 first) tt all.1)
      (utf8_standing_from (place + 1 + size inside) topic (Some element) rest first all.0 all.2),
)

pub utf8_all_standing : (nodes : Written) → IsUtf8Content nodes → AllByRecursion IsUtf8Standing (all_standing nodes)
utf8_all_standing nodes all = utf8_standing_from 0 None None nodes tt tt all

abbrev IsUtf8Found : Option Standing → Type 0
IsUtf8Found standing = IfSome standing IsUtf8Standing

pub utf8_target_in : (nodes : Written) (topic element : List ℕ) → IsUtf8Content nodes
    → IfSome (target_in nodes topic element) IsUtf8Standing
utf8_target_in nodes topic element is =
    let all = all_standing nodes in
    let each = utf8_all_standing nodes is in
    chosen IsUtf8Found (length element == 0) (topic_meant all topic) (find (is_element_meant all topic element) all)
    (chosen IsUtf8Found (length topic == 0) (first_topic all) (find (is_topic_with topic) all)
    (of_found IsUtf8Standing is_topic_there all each) (of_found IsUtf8Standing (is_topic_with topic) all each))
    (of_found IsUtf8Standing (is_element_meant all topic element) all each)

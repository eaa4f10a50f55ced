-- What a key gives among nodes of UTF-8 is UTF-8.
use Rattle.std.specs.Prelude.{ℕ, List, [], ◌∷◌, ◌++◌, Option, Some, None, IfSome, map, slice_get, unwrap_or, codes}
use Rattle.std.specs.List.{AllByRecursion, after_first, list_any}
use Rattle.std.specs.Option.{option_and_then, option_map_or}
use Rattle.std.specs.Str.{IsUtf8}
use Rattle.std.proofs.lemmas.Str.{IsUtf8-nil}
use Rattle.dita_doc.specs.Bytes.{is_slash}
use Rattle.dita_doc.specs.declared.content.KeyAnswer.{KeyAnswer}
use Rattle.dita_doc.specs.declared.plan.PlanNode.{PlanNode}
use Rattle.dita_doc.specs.declared.plan.Target.{Target}
use Rattle.dita_doc.specs.declared.plan.Target.TheVariants as targets
use Rattle.reader_spec.specs.World.{World}
use Rattle.map_spec.specs.Cascade.{attribute_at, cascaded_value, walk, whole_at}
use Rattle.map_spec.specs.Elements.{first_under, text_of}
use Rattle.map_spec.specs.Keys.{Chain, answer_of_chain, chain, href_target, id_of_key, if_text, key_answer, key_of, label_or, last_of, metadata_texts, target_of_definition, target_of_chain, text_of_chain, text_of_definition, texts_of_node, title_of_target, undefined, untitled_at}
use Rattle.map_spec.specs.Target.{target_by}
use Rattle.map_spec.specs.Titles.{first_text}
use Rattle.map_spec.specs.Written.{Whole, Written}
use Rattle.html_laws.specs.Utf8.{IsUtf8Content, IsUtf8Target, IsUtf8World}
use Rattle.html_laws.proofs.ContentUtf8Laws.{IsUtf8Whole, utf8_attribute_at, utf8_first, utf8_text_of, utf8_title_in, utf8_under, utf8_whole_at}
use Rattle.html_laws.proofs.EachLaws.{always, chosen, of_and_then, of_any, of_both, of_map_or, of_mapped, of_option, of_place}
use Rattle.html_laws.proofs.ReferenceUtf8Laws.{IsUtf8Lead, slash_low, utf8_split, utf8_target_by}

-- Key references

pub utf8_key_of : (keyref : List ℕ) → IsUtf8 keyref → IsUtf8 (key_of keyref)
utf8_key_of keyref utf8 = (utf8_split is_slash keyref slash_low utf8).0

utf8_if_text : (text : List ℕ) → IsUtf8 text → IfSome (if_text text) IsUtf8
utf8_if_text [] utf8 = tt
utf8_if_text (b ∷ text) utf8 = utf8

pub utf8_id_of_key : (keyref : List ℕ) → IsUtf8 keyref → IfSome (id_of_key keyref) IsUtf8
utf8_id_of_key keyref utf8 =
    let behind = after_first is_slash keyref in
    chosen (λ id. IfSome id IsUtf8) (list_any is_slash keyref) (if_text behind) None
    (utf8_if_text behind (utf8_split is_slash keyref slash_low utf8).1) tt

-- Answers

abbrev pub IsUtf8Answer : KeyAnswer → Type 0
IsUtf8Answer answer = IsUtf8Target answer.target × IsUtf8 answer.label

abbrev pub HasUtf8Doc : PlanNode → Type 0
HasUtf8Doc node = IsUtf8 node.doc

utf8_label_or : (key text : List ℕ) → IsUtf8 key → IsUtf8 text → IsUtf8 (label_or key text)
utf8_label_or key [] first second = first
utf8_label_or key (b ∷ text) first second = second

module _ (world : World) (nodes : List PlanNode) (all : IsUtf8World world) (docs : AllByRecursion HasUtf8Doc nodes) where
  -- the target of the last definition
  utf8_target_at : (node : PlanNode) (around : List PlanNode) → IsUtf8 node.doc
      → IsUtf8Lead (target_of_definition world node around)
  utf8_target_at node around named =
      of_and_then IsUtf8 IsUtf8Target (λ href. target_by href (cascaded_value world (codes "format") around)
      (cascaded_value world (codes "scope") around) node.doc) (attribute_at world (codes "href") node)
      (λ href is. utf8_target_by href (cascaded_value world (codes "format") around)
      (cascaded_value world (codes "scope") around) node.doc is named)
      (utf8_attribute_at world (codes "href") node all named)

  utf8_href_target : (at : ℕ) → IsUtf8Lead (href_target world nodes at)
  utf8_href_target at =
      of_and_then HasUtf8Doc IsUtf8Target (λ node. target_of_definition world node (walk nodes at)) (slice_get nodes at)
      (λ node is. utf8_target_at node (walk nodes at) is) (of_place HasUtf8Doc nodes at docs)

  utf8_target_of_chain : (met : List ℕ) → IsUtf8Target (target_of_chain world nodes met)
  utf8_target_of_chain met =
      let any : ℕ → Type 0 = λ at. Unit {0} in
      of_option IsUtf8Target (option_and_then (href_target world nodes) (last_of met)) targets.Nothing
      (of_and_then any IsUtf8Target (href_target world nodes) (last_of met) (λ at is. utf8_href_target at)
      (always (last_of met))) tt

  -- the text
  utf8_metadata : (inside : Written) → IsUtf8Content inside → AllByRecursion IsUtf8 (metadata_texts inside)
  utf8_metadata inside is =
      let any : List ℕ → Type 0 = λ token. Unit {0} in
      let tokens = codes "topic/keyword" ∷ codes "map/linktext" ∷ codes "topic/navtitle" ∷ [] in
      of_mapped any IsUtf8 (λ token. text_of (first_under (codes "map/topicmeta") token inside)) tokens
      (λ token one. utf8_text_of (first_under (codes "map/topicmeta") token inside)
      (utf8_under (codes "map/topicmeta") token inside is)) (of_any any tokens (λ token. tt))

  utf8_texts_of : (node : PlanNode) → IsUtf8 node.doc → AllByRecursion IsUtf8 (texts_of_node world node)
  utf8_texts_of node named =
      let written = unwrap_or (attribute_at world (codes "navtitle") node) [] in
      of_both IsUtf8 (option_map_or (λ (whole : Whole). metadata_texts whole.1) (whole_at world node) []) (written ∷ [])
      (of_map_or IsUtf8Whole (AllByRecursion IsUtf8) (λ (whole : Whole). metadata_texts whole.1) (whole_at world node) []
      (λ whole is. utf8_metadata whole.1 is.1) (utf8_whole_at world node all named) tt) (
        of_option IsUtf8 (attribute_at world (codes "navtitle") node) []
            (utf8_attribute_at world (codes "navtitle") node all named) IsUtf8-nil,
        tt,
      )

  utf8_definition : (at : ℕ) → IsUtf8 (text_of_definition world nodes at)
  utf8_definition at =
      of_map_or HasUtf8Doc IsUtf8 (λ node. first_text (texts_of_node world node)) (slice_get nodes at) []
      (λ node is. utf8_first (texts_of_node world node) (utf8_texts_of node is)) (of_place HasUtf8Doc nodes at docs)
      IsUtf8-nil

  utf8_title_of_target : (target : Target) → IsUtf8Target target → IsUtf8 (title_of_target world target)
  utf8_title_of_target targets.Nothing is = IsUtf8-nil
  utf8_title_of_target (targets.Local name reference) is = utf8_title_in world name reference.topic all is.0
  utf8_title_of_target (targets.File name rest) is = IsUtf8-nil
  utf8_title_of_target (targets.Other value) is = IsUtf8-nil

  utf8_text_of_chain : (met : List ℕ) → IsUtf8 (text_of_chain world nodes met)
  utf8_text_of_chain met =
      let any : ℕ → Type 0 = λ at. Unit {0} in
      let texts = map (text_of_definition world nodes) met in
      let title = title_of_target world (target_of_chain world nodes met) in
      utf8_first (texts ++ title ∷ [])
      (of_both IsUtf8 texts (title ∷ [])
      (of_mapped any IsUtf8 (text_of_definition world nodes) met (λ at is. utf8_definition at)
      (of_any any met (λ at. tt)))
      (utf8_title_of_target (target_of_chain world nodes met) (utf8_target_of_chain met), tt))

  utf8_answer_by : (key : List ℕ) (met : Chain) (first : Option ℕ) → IsUtf8 key
      → IsUtf8Answer (option_map_or (λ first. record {
        node = Some first;
        target = target_of_chain world nodes met.met;
        label = label_or key (text_of_chain world nodes met.met);
        faults = met.faults ++ untitled_at nodes first key (text_of_chain world nodes met.met);
      }) first undefined)
  utf8_answer_by key met None named = (tt, IsUtf8-nil)
  utf8_answer_by key met (Some first) named = (
    utf8_target_of_chain met.met,
    utf8_label_or key (text_of_chain world nodes met.met) named (utf8_text_of_chain met.met),
  )

  utf8_answer_of : (key : List ℕ) (met : Chain) → IsUtf8 key → IsUtf8Answer (answer_of_chain world nodes key met)
  utf8_answer_of key met named = utf8_answer_by key met (slice_get met.met 0) named

  pub utf8_key_answer : (scope : ℕ) (key : List ℕ) → IsUtf8 key → IsUtf8Answer (key_answer world nodes scope key)
  utf8_key_answer scope key named = utf8_answer_of key (chain world nodes scope key) named

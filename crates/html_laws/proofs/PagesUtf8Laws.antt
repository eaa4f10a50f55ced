-- The targets, the documents and the pages of nodes of UTF-8 are UTF-8.
use Rattle.std.specs.Prelude.{◌≡◌, ◌+◌, ◌&&◌, ℕ, zero, suc, Bool, true, false, List, [], ◌∷◌, ◌++◌, Option, Some, None, IfSome, is_some, length, option_map, slice_get, unwrap_or, bytes_eq, codes, if◌then◌else◌}
use Rattle.std.specs.Fmt.{decimal}
use Rattle.std.specs.List.{AllByRecursion, filter_map, list_any}
use Rattle.std.specs.Option.{option_map_or}
use Rattle.std.specs.Str.{IsUtf8}
use Rattle.std.proofs.Common.{refl, arith}
use Rattle.std.proofs.lemmas.Bool.{eqb-true}
use Rattle.std.proofs.lemmas.Str.{IsUtf8-append, IsUtf8-nil}
use Rattle.dita_doc.specs.Bytes.{is_slash, parts_by}
use Rattle.dita_doc.specs.declared.content.KeyAnswer.{KeyAnswer}
use Rattle.dita_doc.specs.declared.plan.Affix.{Affix}
use Rattle.dita_doc.specs.declared.plan.PageId.{PageId}
use Rattle.dita_doc.specs.declared.plan.PlanNode.{PlanNode}
use Rattle.dita_doc.specs.declared.plan.Target.{Target}
use Rattle.dita_doc.specs.declared.plan.Target.TheVariants as targets
use Rattle.dita_doc.proofs.Utf8Laws.{utf8_cut_at}
use Rattle.href_text.specs.Joined.{without_last}
use Rattle.reader_spec.specs.World.{World}
use Rattle.map_spec.specs.Branches.{each_once}
use Rattle.map_spec.specs.Cascade.{attribute_at, cascaded_value, is_in_table, walk}
use Rattle.map_spec.specs.Included.{is_reference}
use Rattle.map_spec.specs.Keys.{key_answer, key_of}
use Rattle.map_spec.specs.Pages.{Aim, Use, aim_at, aim_by_href, aim_by_key, aim_of, aim_read, aim_with, base_of, before_last_dot, contents_name, documents_of, first_uses, folders, free_from, free_name, good_base, html, is_dot, is_normal, is_page_kind, is_page_name, last_segment, local_name, named_from, no_aim, on_last_segment, page_used_at, pages_of, node_targets, undefined_key, use_at, use_of, used_at, with_affix, with_affixes, with_more, with_number, without_extension}
use Rattle.map_spec.specs.Scopes.{places, scope_at}
use Rattle.map_spec.specs.Target.{target_by}
use Rattle.map_spec.specs.Titles.{kind_in}
use Rattle.html_laws.specs.Utf8.{IsUtf8Page, IsUtf8Target, IsUtf8World}
use Rattle.html_laws.proofs.ContentUtf8Laws.{utf8_attribute_at}
use Rattle.html_laws.proofs.EachLaws.{chosen, of_and_then, of_any, of_filter_map, of_kept, of_map_or, of_mapped, of_option_map, of_place}
use Rattle.html_laws.proofs.KeyUtf8Laws.{HasUtf8Doc, IsUtf8Answer, utf8_key_answer, utf8_key_of}
use Rattle.html_laws.proofs.CascadeUtf8Laws.{IsUtf8Planned}
use Rattle.html_laws.proofs.PageUtf8Laws.{utf8_each}
use Rattle.html_laws.proofs.ReferenceUtf8Laws.{IsUtf8Lead, utf8_segments, utf8_target_by, utf8_without_last}
use Rattle.html_laws.proofs.TextUtf8Laws.{IsUtf8If, utf8_codes, utf8_decimal, utf8_three}
use Rattle.html_laws.proofs.TreeUtf8Laws.{IsUtf8Affix}

-- Names

utf8_last : (segments : List (List ℕ)) → AllByRecursion IsUtf8 segments → IsUtf8 (last_segment segments)
utf8_last [] all = IsUtf8-nil
utf8_last (segment ∷ []) all = all.0
utf8_last (segment ∷ next ∷ segments) all = utf8_last (next ∷ segments) all.1

abbrev ChangesUtf8 : (List ℕ → List ℕ) → Type 0
ChangesUtf8 change = (segment : List ℕ) → IsUtf8 segment → IsUtf8 (change segment)

utf8_on_last : (change : List ℕ → List ℕ) (path : List ℕ) → ChangesUtf8 change → IsUtf8 path
    → IsUtf8 (on_last_segment change path)
utf8_on_last change path changes is =
    let segments = parts_by is_slash path in
    let segments_are = utf8_segments path is in
    IsUtf8-append (folders segments) (change (last_segment segments))
    (utf8_each IsUtf8 (λ segment. segment ++ 47 ∷ []) (without_last segments)
    (λ segment one. IsUtf8-append segment (47 ∷ []) one (utf8_codes (47 ∷ []) refl))
    (utf8_without_last segments segments_are))
    (changes (last_segment segments) (utf8_last segments segments_are))

-- what stands before a dot
record IsBeforeDot (text front : List ℕ) : Type 0 where
  back : List ℕ
  whole : text ≡ front ++ 46 ∷ back

abbrev CutsAtDot : List ℕ → Option (List ℕ) → Type 0
CutsAtDot text front = IfSome front (IsBeforeDot text)

dot_here : (b : ℕ) (text : List ℕ) (dot : Bool) → is_dot b ≡ dot
    → CutsAtDot (b ∷ text) (if dot then Some [] else None)
dot_here b text true e =
    let same : b ≡ 46 = eqb-true b 46 e in record { back = text; whole = rw same refl }
dot_here b text false e = tt

dot_later : (b : ℕ) (text : List ℕ) (front other : Option (List ℕ)) → CutsAtDot text front
    → CutsAtDot (b ∷ text) other → CutsAtDot (b ∷ text) (option_map_or (λ found. Some (b ∷ found)) front other)
dot_later b text None other first second = second
dot_later b text (Some front) other first second =
    record { back = first.back; whole = rw first.whole refl }

cut_at_dot : (text : List ℕ) → CutsAtDot text (before_last_dot text)
cut_at_dot [] = tt
cut_at_dot (b ∷ text) =
    dot_later b text (before_last_dot text) (if is_dot b then Some [] else None) (cut_at_dot text)
    (dot_here b text (is_dot b) refl)

utf8_before : (b : ℕ) (segment : List ℕ) (front : Option (List ℕ)) → CutsAtDot segment front → IsUtf8 (b ∷ segment)
    → IsUtf8 (b ∷ unwrap_or front segment)
utf8_before b segment None cut is = is
utf8_before b segment (Some front) cut is =
    let whole : b ∷ segment ≡ (b ∷ front) ++ 46 ∷ cut.back = rw cut.whole refl in
    (utf8_cut_at 46 (b ∷ segment) (b ∷ front) cut.back (omega arith) whole is).0

utf8_extension : ChangesUtf8 without_extension
utf8_extension [] is = IsUtf8-nil
utf8_extension (b ∷ segment) is = utf8_before b segment (before_last_dot segment) (cut_at_dot segment) is

utf8_with_affixes : (path : List ℕ) (affixes : List Affix) → IsUtf8 path → AllByRecursion IsUtf8Affix affixes
    → IsUtf8 (with_affixes path affixes)
utf8_with_affixes path [] first second = first
utf8_with_affixes path (affix ∷ affixes) first second =
    utf8_with_affixes (with_affix path affix) affixes
    (utf8_on_last (λ segment. affix.prefix ++ segment ++ affix.suffix) path
    (λ segment is. utf8_three affix.prefix segment affix.suffix second.0.0 is second.0.1) first) second.1

abbrev IsUtf8Id : PageId → Type 0
IsUtf8Id id = IsUtf8 id.doc × AllByRecursion IsUtf8Affix id.affixes

utf8_base : (id : PageId) → IsUtf8Id id → IsUtf8 (base_of id)
utf8_base id is =
    utf8_with_affixes (on_last_segment without_extension id.doc) id.affixes
    (utf8_on_last without_extension id.doc utf8_extension is.0) is.1

utf8_html : (base : List ℕ) → IsUtf8 base → IsUtf8 (html base)
utf8_html base is = IsUtf8-append base (codes ".html") is (utf8_codes (codes ".html") refl)

utf8_good_base : (index : ℕ) (base : List ℕ) → IsUtf8 base → IsUtf8 (good_base index base)
utf8_good_base index base is =
    chosen IsUtf8 (is_page_name (html base)) base (codes "page" ++ decimal index) is
    (IsUtf8-append (codes "page") (decimal index) (utf8_codes (codes "page") refl) (utf8_decimal index))

utf8_with_number : (base : List ℕ) (number : ℕ) → IsUtf8 base → IsUtf8 (with_number base number)
utf8_with_number base number is =
    utf8_html (base ++ codes "_" ++ decimal number)
    (utf8_three base (codes "_") (decimal number) is (utf8_codes (codes "_") refl) (utf8_decimal number))

utf8_free_from : (others number : ℕ) (taken : List (List ℕ)) (base : List ℕ) → IsUtf8 base
    → IsUtf8 (free_from others number taken base)
utf8_free_from zero number taken base is = utf8_with_number base number is
utf8_free_from (suc others) number taken base is =
    chosen IsUtf8 (list_any (bytes_eq (with_number base number)) taken) (free_from others (number + 1) taken base)
    (with_number base number) (utf8_free_from others (number + 1) taken base is) (utf8_with_number base number is)

utf8_free_name : (taken : List (List ℕ)) (base : List ℕ) → IsUtf8 base → IsUtf8 (free_name taken base)
utf8_free_name taken base is =
    chosen IsUtf8 (list_any (bytes_eq (html base)) taken) (free_from (length taken) 2 taken base) (html base)
    (utf8_free_from (length taken) 2 taken base is) (utf8_html base is)

-- Uses with their names

abbrev IsUtf8Use : Use → Type 0
IsUtf8Use made = IsUtf8Id made.id

utf8_first_uses : (uses : List Use) → AllByRecursion IsUtf8Use uses → AllByRecursion IsUtf8Use (first_uses uses)
utf8_first_uses [] all = tt
utf8_first_uses (first ∷ uses) all = (all.0, of_kept IsUtf8Use _ (first_uses uses) (utf8_first_uses uses all.1))

utf8_named_from : (index : ℕ) (taken : List (List ℕ)) (uses : List Use) → AllByRecursion IsUtf8Use uses
    → AllByRecursion IsUtf8Page (named_from index taken uses)
utf8_named_from index taken [] all = tt
utf8_named_from index taken (first ∷ uses) all =
    let base = good_base index (base_of first.id) in
    let name = free_name taken base in (
      (all.0.0, utf8_free_name taken base (utf8_good_base index (base_of first.id) (utf8_base first.id all.0))),
      utf8_named_from (index + 1) (name ∷ taken) uses all.1,
    )

utf8_each_once : (names : List (List ℕ)) → AllByRecursion IsUtf8 names → AllByRecursion IsUtf8 (each_once names)
utf8_each_once [] all = tt
utf8_each_once (name ∷ names) all = (all.0, of_kept IsUtf8 _ (each_once names) (utf8_each_once names all.1))

-- Targets

abbrev AimsAtUtf8 : Aim → Type 0
AimsAtUtf8 aim = IsUtf8Target aim.target

utf8_aim_read : (node : PlanNode) (href : List ℕ) (target : Option Target) → IsUtf8Lead target
    → AimsAtUtf8 (aim_read node href target)
utf8_aim_read node href None is = tt
utf8_aim_read node href (Some target) is = is

utf8_local_name : (target : Target) → IsUtf8Target target → IfSome (local_name target) IsUtf8
utf8_local_name targets.Nothing is = tt
utf8_local_name (targets.Local name reference) is = is.0
utf8_local_name (targets.File name rest) is = tt
utf8_local_name (targets.Other value) is = tt

planned_docs : (nodes : List PlanNode) → AllByRecursion IsUtf8Planned nodes → AllByRecursion HasUtf8Doc nodes
planned_docs [] is = tt
planned_docs (node ∷ nodes) is = (is.0.0, planned_docs nodes is.1)

module _ (world : World) (nodes : List PlanNode) (all : IsUtf8World world)
    (planned : AllByRecursion IsUtf8Planned nodes) where
  docs : AllByRecursion HasUtf8Doc nodes
  docs = planned_docs nodes planned

  utf8_by_href : (node : PlanNode) (around : List PlanNode) (href : Option (List ℕ)) → IsUtf8 node.doc
      → IfSome href IsUtf8 → AimsAtUtf8 (aim_by_href world node around href)
  utf8_by_href node around None named is = tt
  utf8_by_href node around (Some href) named is =
      let format = cascaded_value world (codes "format") around in
      let scope = cascaded_value world (codes "scope") around in
      utf8_aim_read node href (target_by href format scope node.doc) (utf8_target_by href format scope node.doc is named)

  utf8_by_key : (node : PlanNode) (around : List PlanNode) (key : List ℕ) (href : Option (List ℕ)) (answer : KeyAnswer)
      → IsUtf8 node.doc → IfSome href IsUtf8 → IsUtf8Answer answer
      → AimsAtUtf8 (aim_by_key world node around key href answer)
  utf8_by_key node around key href answer named is known =
      chosen AimsAtUtf8 (is_some answer.node) (record { target = answer.target; faults = answer.faults })
      (with_more (answer.faults ++ undefined_key node key href) (aim_by_href world node around href)) known.0
      (utf8_by_href node around href named is)

  utf8_aim_with : (at : ℕ) (node : PlanNode) (keyref : Option (List ℕ)) → IsUtf8 node.doc → IfSome keyref IsUtf8
      → AimsAtUtf8 (aim_with world nodes at node keyref)
  utf8_aim_with at node None named is =
      utf8_by_href node (walk nodes at) (attribute_at world (codes "href") node) named
      (utf8_attribute_at world (codes "href") node all named)
  utf8_aim_with at node (Some keyref) named is =
      utf8_by_key node (walk nodes at) (key_of keyref) (attribute_at world (codes "href") node)
      (key_answer world nodes (scope_at nodes at) (key_of keyref)) named
      (utf8_attribute_at world (codes "href") node all named)
      (utf8_key_answer world nodes all docs (scope_at nodes at) (key_of keyref) (utf8_key_of keyref is))

  utf8_aim_of : (at : ℕ) (node : PlanNode) → IsUtf8 node.doc → AimsAtUtf8 (aim_of world nodes at node)
  utf8_aim_of at node named =
      let keyref = attribute_at world (codes "keyref") node in
      chosen AimsAtUtf8 (is_reference node.kind) (aim_with world nodes at node keyref) no_aim
      (utf8_aim_with at node keyref named (utf8_attribute_at world (codes "keyref") node all named)) tt

  utf8_aim_at : (at : ℕ) → AimsAtUtf8 (aim_at world nodes at)
  utf8_aim_at at =
      of_map_or HasUtf8Doc AimsAtUtf8 (aim_of world nodes at) (slice_get nodes at) no_aim
      (λ node is. utf8_aim_of at node is) (of_place HasUtf8Doc nodes at docs) tt

  pub utf8_targets : AllByRecursion IsUtf8Target (node_targets world nodes)
  utf8_targets =
      let any : ℕ → Type 0 = λ at. Unit {0} in
      of_mapped any IsUtf8Target (λ at. (aim_at world nodes at).target) (places nodes) (λ at is. utf8_aim_at at)
      (of_any any (places nodes) (λ at. tt))

  -- Documents and pages

  utf8_used_at : (at : ℕ) → IfSome (used_at world nodes at) IsUtf8
  utf8_used_at at =
      let target = (aim_at world nodes at).target in
      chosen IsUtf8If (is_in_table (walk nodes at)) None (local_name target) tt (utf8_local_name target (utf8_aim_at at))

  pub utf8_documents : AllByRecursion IsUtf8 (documents_of world nodes)
  utf8_documents =
      let any : ℕ → Type 0 = λ at. Unit {0} in
      utf8_each_once (filter_map (used_at world nodes) (places nodes))
      (of_filter_map any IsUtf8 (used_at world nodes) (places nodes) (λ at is. utf8_used_at at)
      (of_any any (places nodes) (λ at. tt)))

  utf8_page_used : (at : ℕ) → IfSome (page_used_at world nodes at) IsUtf8
  utf8_page_used at =
      of_and_then IsUtf8 IsUtf8
      (λ name. if is_page_kind (kind_in world name) && is_normal world nodes at then Some name else None)
      (used_at world nodes at)
      (λ name is. chosen IsUtf8If (is_page_kind (kind_in world name) && is_normal world nodes at) (Some name) None is tt)
      (utf8_used_at at)

  utf8_use_at : (at : ℕ) → IfSome (use_at world nodes at) IsUtf8Use
  utf8_use_at at =
      of_and_then IsUtf8 IsUtf8Use (λ name. option_map (use_of nodes at name) (slice_get nodes at))
      (page_used_at world nodes at)
      (λ name is. of_option_map IsUtf8Planned IsUtf8Use (use_of nodes at name) (slice_get nodes at)
      (λ node one. (is, one.1)) (of_place IsUtf8Planned nodes at planned)) (utf8_page_used at)

  pub utf8_pages : AllByRecursion IsUtf8Page (pages_of world nodes)
  utf8_pages =
      let any : ℕ → Type 0 = λ at. Unit {0} in
      let uses = filter_map (use_at world nodes) (places nodes) in
      utf8_named_from 0 (contents_name ∷ []) (first_uses uses)
      (utf8_first_uses uses
      (of_filter_map any IsUtf8Use (use_at world nodes) (places nodes) (λ at is. utf8_use_at at)
      (of_any any (places nodes) (λ at. tt))))

-- Where the document and those that pushes come from are the same in two worlds, so is the document with its pushes.
use Rattle.std.specs.Prelude.{◌≡◌, ◌+◌, ℕ, Bool, true, false, List, [], ◌∷◌, Option, Some, None, IsTrue, find, map, option_map}
use Rattle.std.specs.Option.{option_and_then, option_map_or}
use Rattle.std.proofs.Common.{refl, ap, ap₂, ◌∙◌}
use Rattle.dita_doc.specs.Tree.{Content}
use Rattle.dita_doc.specs.declared.content.Push.{Push}
use Rattle.map_spec.specs.Written.{Element, Whole, Written, End, Chars, Node, element_at, element_in, side_by_side, size, written_in}
use Rattle.map_spec.specs.Pushes.{has_conaction, all_side_by_side, pushed_at, copy_beside, is_after, is_before, is_replace, itself_or, pushed_element, pushed_from, pushes_at, with_id_of, without_acting}
use Rattle.reader_spec.specs.World.{World}
use Rattle.readers.specs.Founded.{is_among}
use Rattle.conref_push.specs.Into.{froms, pushed_by}
use Rattle.conref_push.proofs.EachLaws.{EachPush, each_at, each_from}

module _ (one other : World) where
  abbrev IsAlike : Push → Type 0
  IsAlike push = one push.from ≡ other push.from

  same_element : (name : List ℕ) (place : ℕ) → one name ≡ other name
      → element_in one name place ≡ element_in other name place
  same_element name place same = ap (λ (found : Option Content).
      option_and_then (λ nodes. element_at nodes place) (option_map (written_in name) found)) same

  same_copy : (change : Element → Element) (push : Push) → IsAlike push
      → option_map_or (λ (whole : Whole). Node (change whole.0) (without_acting whole.1) End)
      (element_in one push.from push.place) End
      ≡ option_map_or (λ (whole : Whole). Node (change whole.0) (without_acting whole.1) End)
      (element_in other push.from push.place) End
  same_copy change push same = ap (λ (found : Option Whole).
      option_map_or (λ (whole : Whole). Node (change whole.0) (without_acting whole.1) End) found End)
      (same_element push.from push.place same)

  same_copies : (pushes : List Push) → EachPush IsAlike pushes
      → all_side_by_side (map (copy_beside one) pushes) ≡ all_side_by_side (map (copy_beside other) pushes)
  same_copies [] are = refl
  same_copies (push ∷ pushes) are =
      ap₂ side_by_side (same_copy pushed_element push are.0) (same_copies pushes are.1)

  same_itself : (element : Element) (inside : Written) (pushes : List Push) → EachPush IsAlike pushes
      → itself_or one element inside (find (λ push. true) pushes)
      ≡ itself_or other element inside (find (λ push. true) pushes)
  same_itself element inside [] are = refl
  same_itself element inside (push ∷ pushes) are =
      same_copy (λ copied. with_id_of element (pushed_element copied)) push are.0

  module _ (pushes : List Push) (are : EachPush IsAlike pushes) where
    same_place : (place : ℕ) (element : Element) (inside : Written)
        → pushed_at one pushes place element inside ≡ pushed_at other pushes place element inside
    same_place place element inside = ap₂ side_by_side
        (same_copies (pushes_at is_before place pushes) (each_at IsAlike is_before place pushes are))
        (ap₂ side_by_side
        (same_itself element inside (pushes_at is_replace place pushes) (each_at IsAlike is_replace place pushes are))
        (same_copies (pushes_at is_after place pushes) (each_at IsAlike is_after place pushes are)))

    same_by : (place : ℕ) (element : Element) (inside rest : Written) (told : Bool) → has_conaction element ≡ told
        → pushed_from one pushes (place + 1) inside ≡ pushed_from other pushes (place + 1) inside
        → pushed_from one pushes (place + 1 + size inside) rest
        ≡ pushed_from other pushes (place + 1 + size inside) rest
        → pushed_from one pushes place (Node element inside rest)
        ≡ pushed_from other pushes place (Node element inside rest)
    same_by place element inside rest true told within later = rw told later
    same_by place element inside rest false told within later = rw told (ap₂ side_by_side
        (same_place place element (pushed_from one pushes (place + 1) inside)
        ∙ ap (pushed_at other pushes place element) within) later)

    same_pushed : (place : ℕ) (nodes : Written)
        → pushed_from one pushes place nodes ≡ pushed_from other pushes place nodes
    same_pushed place End = refl
    same_pushed place (Chars text doc rest) = ap (Chars text doc) (same_pushed (place + 1) rest)
    same_pushed place (Node element inside rest) = same_by place element inside rest (has_conaction element) refl
        (same_pushed (place + 1) inside) (same_pushed (place + 1 + size inside) rest)

    same_found : (name : List ℕ) (found : Option Content)
        → option_map (pushed_from one pushes 0) (option_map (written_in name) found)
        ≡ option_map (pushed_from other pushes 0) (option_map (written_in name) found)
    same_found name None = refl
    same_found name (Some content) = ap (λ nodes. Some nodes) (same_pushed 0 (written_in name content))

  pub same_by_pushes : (pushes : List Push) (name : List ℕ) → one name ≡ other name
      → ((from : List ℕ) → IsTrue (is_among (froms pushes) from) → one from ≡ other from)
      → pushed_by one pushes name ≡ pushed_by other pushes name
  same_by_pushes pushes name same each =
      same_found pushes (each_from (λ from. one from ≡ other from) pushes each) name (one name)
      ∙ ap (λ (found : Option Content). option_map (pushed_from other pushes 0) (option_map (written_in name) found))
      same

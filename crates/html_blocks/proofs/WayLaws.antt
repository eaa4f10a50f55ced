-- Pages as they grow.
use Rattle.std.specs.Prelude.{◌≡◌, ◌+◌, ◌++◌, ℕ, List, []}
use Rattle.std.proofs.Common.{refl, sym, ap, ◌∙◌, append_assoc, subst}
use Rattle.std.proofs.lemmas.List.{append-nil}
use Rattle.dita_doc.specs.HtmlEscapes.{escaped}
use Rattle.dita_doc.specs.declared.fact.Html.{Html}
use Rattle.html_blocks.specs.Opened.{HasMore}
use Rattle.html_blocks.specs.declared.page.BodyText.{BodyText}
use Rattle.html_tables.specs.declared.groups.Groups.{Groups}
use Rattle.html_tables.specs.Walk.{HasColumns, KeepsGroups}
use Rattle.map_spec.specs.Written as written
use Rattle.map_spec.specs.Written.{Element, Written, size}
use Rattle.html_spec.specs.Blocks.{HtmlContext, Overlay, element_shown, shown, shown_beside, shown_from}

pub same_groups : (old new : Groups) → new ≡ old → KeepsGroups old new
same_groups old new same = λ group names has. subst (λ groups. HasColumns groups group names) (sym same) has

-- bytes alone
pub more_text : (old new : BodyText) (bytes : List ℕ) → KeepsGroups old.groups new.groups → new.text ≡ old.text ++ bytes
    → new.faults ≡ old.faults → HasMore old new (shown bytes)
more_text old new bytes kept text faults = record {
  kept = kept;
  text = text;
  faults = faults ∙ sym (append-nil old.faults);
}

-- faults alone
pub more_faults : (old new : BodyText) (html : Html) → html.bytes ≡ [] → KeepsGroups old.groups new.groups
    → new.text ≡ old.text → new.faults ≡ old.faults ++ html.faults → HasMore old new html
more_faults old new html none kept text faults = record {
  kept = kept;
  text = text ∙ sym (append-nil old.text) ∙ ap (λ bytes. old.text ++ bytes) (sym none);
  faults = faults;
}

pub more_as : (old new : BodyText) (one other : Html) → one ≡ other → HasMore old new one → HasMore old new other
more_as old new one other same more = subst (HasMore old new) same more

-- what is written, and what is left
pub record IsOnTheWay (old new : BodyText) (all left : Html) : Type 0 where
  pub kept : KeepsGroups old.groups new.groups
  pub text : old.text ++ all.bytes ≡ new.text ++ left.bytes
  pub faults : old.faults ++ all.faults ≡ new.faults ++ left.faults

pub way_ends : (old new : BodyText) (all left : Html) → left ≡ shown [] → IsOnTheWay old new all left
    → HasMore old new all
way_ends old new all left none way = record {
  kept = way.kept;
  text = sym (way.text ∙ ap (λ (html : Html). new.text ++ html.bytes) none ∙ append-nil new.text);
  faults = sym (way.faults ∙ ap (λ (html : Html). new.faults ++ html.faults) none ∙ append-nil new.faults);
}

pub way_more : (old new next : BodyText) (all left some more : Html) → left ≡ shown_beside some more
    → HasMore new next some → IsOnTheWay old new all left → IsOnTheWay old next all more
way_more old new next all left some more same has way = record {
  kept = λ group names known. has.kept group names (way.kept group names known);
  text = way.text
      ∙ ap (λ (html : Html). new.text ++ html.bytes) same
      ∙ sym (append_assoc new.text some.bytes more.bytes)
      ∙ ap (λ bytes. bytes ++ more.bytes) (sym has.text);
  faults = way.faults
      ∙ ap (λ (html : Html). new.faults ++ html.faults) same
      ∙ sym (append_assoc new.faults some.faults more.faults)
      ∙ ap (λ faults. faults ++ more.faults) (sym has.faults);
}

module _ (around : HtmlContext) (overlay : Overlay) (here : ℕ) (nodes : Written) where
  -- an element, and what comes behind it
  pub shown_first : (element : Element) (inside rest : Written) (past : ℕ) → nodes ≡ written.Node element inside rest
      → past ≡ here + 1 + size inside → shown_from around overlay here nodes
      ≡ shown_beside (element_shown around overlay here element inside
      (λ within. shown_from within overlay (here + 1) inside)) (shown_from around overlay past rest)
  shown_first element inside rest past first behind = rw (first, behind) refl

  pub shown_text : (text doc : List ℕ) (rest : Written) → nodes ≡ written.Chars text doc rest
      → shown_from around overlay here nodes
      ≡ shown_beside (shown (escaped text)) (shown_from around overlay (here + 1) rest)
  shown_text text doc rest first = ap (shown_from around overlay here) first

  pub shown_end : nodes ≡ written.End → shown_from around overlay here nodes ≡ shown []
  shown_end none = ap (shown_from around overlay here) none

-- all that was written of a new page
pub html_all : (new page : BodyText) (html all : Html) → new.text ≡ [] → new.faults ≡ [] → HasMore new page all
    → html.bytes ≡ page.text → html.faults ≡ page.faults → html ≡ all
html_all new page html all text faults more bytes met =
    ap (λ some. record html { bytes = some }) (bytes ∙ more.text ∙ ap (λ front. front ++ all.bytes) text)
    ∙ ap (λ some. record all { faults = some }) (met ∙ more.faults ∙ ap (λ front. front ++ all.faults) faults)

use Rattle.std.specs.Bool.{OnFalse}
use Rattle.std.specs.Prelude.{◌≡◌, [], ◌∷◌, ◌++◌, List, ℕ, bytes_eq}
use Rattle.std.specs.List.{list_any}
use Rattle.std.specs.Vec.Iter.{into_iter_items}
use Rattle.std.proofs.Common.{rules, sym, ap, subst, ◌∙◌, append-nil, arith, length}
use Rattle.branch_copies.specs.Seen.{AreSeen}
use Rattle.dita_doc.specs.declared.content.PageLink.{PageLink}
use Rattle.dita_doc.proofs.Lists.{no_more}
use Rattle.part_spec.specs.Parts.{hrefs_once}
use Rattle.branch_copies.proofs.SeenLaws.{seen_again, seen_push, seen_test}
use Rattle.clean_build.proofs.OnceLaws.{left_all, left_once, new_link, old_link}
use Rattle.clean_build.proofs.hrefs.hrefs_once.Goals as goal

pub loop-link-init : goal.loop-link-init
loop-link-init c = record {
  size = search rules;
  before = [];
  seen = λ name. ap (list_any (bytes_eq name)) (sym c.new-seen.ensures.empty);
  whole = ap (λ (all : List PageLink). all ++ left_once [] (into_iter_items c.into_iter-link-iterator.result)) c.new-once.ensures
      ∙ left_all (into_iter_items c.into_iter-link-iterator.result)
      ∙ ap hrefs_once (c.into_iter-link-iterator.ensures.into_iter_gives.0 ∙ c.into_vec-link-items.ensures);
}

pub loop-link-preserved-in_ok-push : goal.loop-link-preserved-in_ok-push
loop-link-preserved-in_ok-push c =
    let before = c.loop-link.invariant.before in
    let link = c.in-Some.link in
    let there = seen_test before c.loop-link.seen.keys c.in_ok-clone.field-0 c.in_ok-insert.field-0
    c.loop-link.invariant.seen c.in_ok-insert.ensures.added
    ∙ ap (λ (href : List ℕ). list_any (bytes_eq href) before) c.in_ok-clone.ensures.cases in
    record {
      size = omega (
        arith,
        c.in-Some.ensures.steps.1,
        c.loop-link.invariant.size,
        ap length c.in-Some.ensures.steps.0,
      );
      before = before ++ link.href ∷ [];
      seen = subst (λ (href : List ℕ). AreSeen (before ++ href ∷ []) c.insert.new.self.keys) c.in_ok-clone.ensures.cases
          (seen_push before c.loop-link.seen.keys c.insert.new.self.keys c.in_ok-clone.field-0 c.loop-link.invariant.seen
          c.in_ok-insert.ensures.keys);
      whole = new_link before link _ c.loop-link.once _ c.in_ok-insert.field-0 there
          (ap (λ links. c.loop-link.once ++ left_once before links) (sym c.in-Some.ensures.steps.0)
          ∙ c.loop-link.invariant.whole) c.if-branch.true c.push.new.self c.in_ok-push.ensures;
    }

pub loop-link-preserved : goal.loop-link-preserved
loop-link-preserved c =
    let before = c.loop-link.invariant.before in
    let link = c.in-Some.link in
    let there = seen_test before c.loop-link.seen.keys c.in_ok-clone.field-0 c.in_ok-insert.field-0
    c.loop-link.invariant.seen c.in_ok-insert.ensures.added
    ∙ ap (λ (href : List ℕ). list_any (bytes_eq href) before) c.in_ok-clone.ensures.cases in
    record {
      size = omega (
        arith,
        c.in-Some.ensures.steps.1,
        c.loop-link.invariant.size,
        ap length c.in-Some.ensures.steps.0,
      );
      before = before;
      seen = seen_again before c.loop-link.seen.keys c.insert.new.self.keys c.loop-link.invariant.seen
          (subst (λ added. OnFalse added (c.insert.new.self.keys ≡ c.loop-link.seen.keys)) c.if-branch.false
          c.in_ok-insert.ensures.unchanged);
      whole = old_link before link _ c.loop-link.once _ c.in_ok-insert.field-0 there
          (ap (λ links. c.loop-link.once ++ left_once before links) (sym c.in-Some.ensures.steps.0)
          ∙ c.loop-link.invariant.whole) c.if-branch.false;
    }

pub loop-link-preserved-else-branch : goal.loop-link-preserved-else-branch
loop-link-preserved-else-branch c =
    let before = c.loop-link.invariant.before in
    let link = c.in-Some.link in
    let there = seen_test before c.loop-link.seen.keys c.in_ok-clone.field-0 c.in_ok-insert.field-0
    c.loop-link.invariant.seen c.in_ok-insert.ensures.added
    ∙ ap (λ (href : List ℕ). list_any (bytes_eq href) before) c.in_ok-clone.ensures.cases in
    record {
      size = omega (
        arith,
        c.in-Some.ensures.steps.1,
        c.loop-link.invariant.size,
        ap length c.in-Some.ensures.steps.0,
      );
      before = before;
      seen = seen_again before c.loop-link.seen.keys c.insert.new.self.keys c.loop-link.invariant.seen
          (subst (λ added. OnFalse added (c.insert.new.self.keys ≡ c.loop-link.seen.keys)) c.if-branch.false
          c.in_ok-insert.ensures.unchanged);
      whole = old_link before link _ c.loop-link.once _ c.in_ok-insert.field-0 there
          (ap (λ links. c.loop-link.once ++ left_once before links) (sym c.in-Some.ensures.steps.0)
          ∙ c.loop-link.invariant.whole) c.if-branch.false;
    }

pub returns : goal.returns
returns c =
    let none = no_more (into_iter_items c.loop-link.link-iterator) _ c.loop-link.invariant.size c.in-None.ensures.steps.0 in
    sym (append-nil c.loop-link.once)
    ∙ ap (λ links. c.loop-link.once ++ left_once c.loop-link.invariant.before links) (sym none)
    ∙ c.loop-link.invariant.whole

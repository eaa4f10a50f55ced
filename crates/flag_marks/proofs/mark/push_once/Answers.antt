use Rattle.std.proofs.Common.{refl, sym, ap, subst, ◌∙◌, ◌+◌, ◌++◌, [], ◌∷◌, drop}
use Rattle.std.specs.Bool.{OnFalse}
use Rattle.std.specs.BTreeSet.{IsUnchanged}
use Rattle.flag_marks.specs.Marks.{at_place}
use Rattle.flag_marks.proofs.OnceLaws.{IsPut, cut_text, put_new, put_none, put_old}
use Rattle.flag_marks.proofs.mark.push_once.Goals.{then-branch+in_ok-clone+in_ok-push, else-branch}
use Rattle.flag_marks.proofs.mark.push_once.Goals as goal

pub loop-text-init : goal.loop-text-init
loop-text-init c =
    put_none c.args.place c.new-seen.result c.args.marks.now _ c.args.texts.now c.new-seen.ensures.empty refl

pub loop-text-preserved : goal.loop-text-preserved
loop-text-preserved c =
    let place = c.args.place in
    let old = c.args.marks.now in
    let all = c.args.texts.now in
    let rest = drop (c.loop-text.text-index + 1) all in
    let text = c.as_bytes.result in
    let marks = c.loop-text.marks in
    let seen = c.loop-text.seen in
    let new = c.insert.new.self in
    let cut = cut_text all c.loop-text.text-index c.text-item.result text.now c.loop-text-test.true c.text-item.is
    c.as_bytes.ensures.value in
    let put = subst (λ left. IsPut place seen marks old left all) cut c.loop-text.invariant in
    elim c.if-branch.branch [
      | then-branch+in_ok-clone+in_ok-push w ↦ subst (λ made. IsPut place new made old rest all) (sym w.marks-is)
          (put_new place seen new marks old text rest all c.in_ok-insert.field-0 put c.in_ok-insert.ensures.added
          w.if-branch.true c.in_ok-insert.ensures.updates w.push.new.self
          (w.in_ok-push.ensures ∙ ap (λ copy. marks ++ at_place place copy ∷ [])
          (w.in_ok-clone.ensures.cases ∙ sym c.as_bytes.ensures.value)))
      | else-branch w ↦ subst (λ made. IsPut place new made old rest all) (sym w.marks-is)
          (put_old place seen new marks old text rest all c.in_ok-insert.field-0 put c.in_ok-insert.ensures.added
          w.if-branch.false (subst (λ added. OnFalse added (IsUnchanged seen new)) w.if-branch.false
          c.in_ok-insert.ensures.unchanged))
    ]

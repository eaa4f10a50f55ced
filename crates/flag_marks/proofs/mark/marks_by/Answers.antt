use Rattle.std.proofs.Common.{◌≡◌, ◌∙◌, ap, sym, subst, map}
use Rattle.std.proofs.lemmas.Result.{IfOk-weaker}
use Rattle.dita_doc.specs.Shown.{shown}
use Rattle.flag_marks.specs.Marks.{attributes_at, marks_from}
use Rattle.flag_marks.specs.Places.{AreAtElements}
use Rattle.flag_marks.proofs.FlagLaws.{none_from}
use Rattle.flag_marks.proofs.PlaceLaws.{marks_at_elements}
use Rattle.flag_marks.proofs.mark.marks_by.Goals as goal

pub returns-then-not-has_flag : goal.returns-then-not-has_flag
returns-then-not-has_flag c =
    let rules = shown c.args.tables.now in
    let nodes = c.args.body.now.doc.nodes in
    let none = sym c.has_flag.ensures ∙ c.if-not-has_flag.true in
    let is = c.new.ensures ∙ sym (none_from rules none 0 c.args.declared.now (map attributes_at nodes)) in
    record {
      value = is;
      places = subst (AreAtElements nodes) (sym is) (marks_at_elements rules c.args.declared.now nodes);
    }

pub returns : goal.returns
returns c =
    let rules = shown c.args.tables.now in
    let declared = c.args.declared.now in
    let nodes = c.args.body.now.doc.nodes in
    let whole = marks_from rules 0 declared (map attributes_at nodes) in
    let names = c.as_slice.result.now in
    let given = c.as_slice-2.result.now in
    let is : marks_from rules 0 names (map attributes_at given) ≡ whole =
    ap (λ some. marks_from rules 0 some (map attributes_at given)) c.as_slice.ensures
    ∙ ap (λ some. marks_from rules 0 declared (map attributes_at some)) c.as_slice-2.ensures in
    record {
      value = IfOk-weaker c.marks_of.result _ (λ marks. marks ≡ whole) (λ marks e. e ∙ is) c.marks_of.ensures;
      places = IfOk-weaker c.marks_of.result _ (AreAtElements nodes)
          (λ marks e. subst (AreAtElements nodes) (sym (e ∙ is)) (marks_at_elements rules declared nodes))
          c.marks_of.ensures;
    }

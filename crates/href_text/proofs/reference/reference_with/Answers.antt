use Rattle.std.proofs.Common.{◌≡◌, ◌==◌, length, Ok, true, false, ap, sym, ◌∙◌}
use Rattle.dita_doc.specs.Bytes.{number_sign}
use Rattle.dita_doc.specs.Cut.{Lacks}
use Rattle.href_text.proofs.ReferenceLaws.{is_element, topic_alone, no_fragment, no_topic, no_element, with_element}
use Rattle.href_text.proofs.reference.reference_with.Goals as goal
use Rattle.href_text.proofs.reference.reference_with.Goals.{Else-contains, in_default-via-in-None+else-not-is_empty, in_default-via-in-Some+then-not-is_empty-2+else-is_element, in_default-via-in-Some+else-not-is_empty-2}

-- the fragment has no second `#`
once : (c : Else-contains) → Lacks number_sign c.args.fragment.now
once c = rw c.as_bytes.ensures.value at (sym c.contains.ensures.value ∙ c.if-contains.false)

pub returns-in_ok-reference-in-None : goal.returns-in_ok-reference-in-None
returns-in_ok-reference-in-None c =
    let some : (length c.args.fragment.now == 0) ≡ false = cc in
    let once = once (goal.at.returns-in_ok-reference-in-None c).Else-contains in
    topic_alone c.args.file.now c.args.fragment.now once c.in-None.ensures some
    ∙ ap Ok (sym c.in_ok-reference-in-None.ensures)

pub returns-in_ok-reference-in-Some : goal.returns-in_ok-reference-in-Some
returns-in_ok-reference-in-Some c =
    let some : (length c.in-Some.topic.now == 0) ≡ false = cc in
    let is : is_element c.in-Some.element.now ≡ true = cc in
    let once = once (goal.at.returns-in_ok-reference-in-Some c).Else-contains in
    with_element c.args.file.now c.args.fragment.now _ _ once c.in-Some.ensures some is
    ∙ ap Ok (sym c.in_ok-reference-in-Some.ensures)

pub returns-in_default : goal.returns-in_default
returns-in_default c =
    let once = once (goal.at.returns-in_default c).Else-contains in
    elim c.in_default.branch [
      | in_default-via-in-None+else-not-is_empty w ↦
          let none : (length c.args.fragment.now == 0) ≡ true = cc in
          no_fragment c.args.file.now c.args.fragment.now once w.in-None.ensures none
      | in_default-via-in-Some+then-not-is_empty-2+else-is_element w ↦
          let none : is_element w.in-Some.element.now ≡ false = cc in
          no_element c.args.file.now c.args.fragment.now _ _ once w.in-Some.ensures none
      | in_default-via-in-Some+else-not-is_empty-2 w ↦
          let none : (length w.in-Some.topic.now == 0) ≡ true = cc in
          no_topic c.args.file.now c.args.fragment.now _ _ once w.in-Some.ensures none
    ]

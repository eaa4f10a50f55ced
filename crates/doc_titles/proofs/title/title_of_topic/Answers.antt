use Rattle.doc_titles.proofs.title.title_of_topic.Goals as goal

pub returns-in-Some-first_child : goal.returns-in-Some-first_child
returns-in-Some-first_child c = λ name.
    rw (c.in-Some.is, ← c.in-Some-first_child.ensures name) (c.plain_text.ensures name)

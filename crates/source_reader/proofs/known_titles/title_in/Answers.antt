use Rattle.std.proofs.Common.{◌≡◌, rules, ◌∙◌}
use Rattle.source_reader.proofs.StoredLaws.{title_missing}
use Rattle.source_reader.proofs.known_titles.title_in.Goals as goal

pub returns-in_ok-from_str-in-None : goal.returns-in_ok-from_str-in-None
returns-in_ok-from_str-in-None c =
    let same : c.as_str.result.now ≡ c.args.name.now = search rules in
    title_missing c.args.sources.now c.args.name.now c.args.topic.now _ c.in-None.ensures.value
    (c.in_ok-from_str-in-None.ensures ∙ same)

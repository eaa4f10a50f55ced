use Rattle.std.proofs.Common.{◌≡◌, List, ℕ, Option, option_map, ap, rules, sym, ◌∙◌}
use Rattle.std.specs.Option.{option_map_or}
use Rattle.std.specs.declared.alloc.Global.{Global}
use Rattle.std.specs.declared.sync.Arc.{Arc}
use Rattle.dita_doc.specs.declared.doc.Doc.{Doc}
use Rattle.map_spec.specs.Titles.{title_of_document}
use Rattle.map_spec.specs.Written.{written_in}
use Rattle.readers.specs.Told.{tree_found}
use Rattle.title_layer.proofs.found.title_found.Goals as goal

abbrev title_if : List ℕ → List ℕ → Option (Arc Doc Global) → List ℕ
title_if name topic found =
    option_map_or (title_of_document name topic) (option_map (written_in name) (tree_found found)) name

pub returns-in_ok-from_str-in-None : goal.returns-in_ok-from_str-in-None
returns-in_ok-from_str-in-None c =
    let same : c.as_str.result.now ≡ c.args.name.now = search rules in
    ap (title_if c.args.name.now c.args.topic.now) c.in-None.is ∙ sym (c.in_ok-from_str-in-None.ensures ∙ same)

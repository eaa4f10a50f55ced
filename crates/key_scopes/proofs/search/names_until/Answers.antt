use Rattle.std.proofs.Common.{◌∙◌, ap, filter, not, option_map, sym}
use Rattle.key_scopes.specs.Ways.{is_earlier, is_later, way_of}
use Rattle.key_scopes.proofs.PartLaws.{all_pass, front_part}
use Rattle.key_scopes.proofs.search.names_until.Goals as goal

pub returns-in-Some : goal.returns-in-Some
returns-in-Some c = λ turn.
    let names = c.args.names.now in
    let child = c.in-Some.until.child in
    let rank = c.in-Some.until.rank in
    c.names_before.ensures
    ∙ front_part (λ name. not (is_later child rank name)) names c.count_until.result (c.count_until.ensures.place turn)
    ∙ sym (ap (λ a. filter (is_earlier (option_map way_of a)) names) c.in-Some.is)

pub returns-in-None : goal.returns-in-None
returns-in-None c = λ turn.
    let names = c.args.names.now in
    all_pass names ∙ sym (ap (λ a. filter (is_earlier (option_map way_of a)) names) c.in-None.is)

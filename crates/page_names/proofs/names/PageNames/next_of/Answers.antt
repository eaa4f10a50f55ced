use Rattle.std.proofs.Common.{◌∙◌, ap, subst, sym, unwrap_or}
use Rattle.page_names.specs.Taken.{IsTried}
use Rattle.page_names.proofs.NameLaws.{next_found}
use Rattle.page_names.proofs.names.PageNames.next_of.Goals as goal

pub returns : goal.returns
returns c = λ taken are.
    subst (IsTried taken c.args.base.now)
    (sym (c.unwrap_or.ensures ∙ ap (λ o. unwrap_or o 2) (c.copied.ensures ∙ c.get.ensures.value)))
    (next_found taken c.args.base.now c.args.self.now.next.entries are.tried)

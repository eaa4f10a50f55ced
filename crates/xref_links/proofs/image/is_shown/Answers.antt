use Rattle.xref_links.proofs.FormLaws.{not_shown}
use Rattle.xref_links.proofs.image.is_shown.Goals as goal

pub returns-in_default : goal.returns-in_default
returns-in_default c = not_shown c.args.form c.in_default.not-Image c.in_default.not-Reference

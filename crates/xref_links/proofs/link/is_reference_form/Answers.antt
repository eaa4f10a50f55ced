use Rattle.xref_links.proofs.FormLaws.{no_reference}
use Rattle.xref_links.proofs.link.is_reference_form.Goals as goal

pub returns-in_default : goal.returns-in_default
returns-in_default c = no_reference c.args.form c.in_default.not-Reference

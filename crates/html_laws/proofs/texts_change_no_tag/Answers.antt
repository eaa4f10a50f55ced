use Rattle.html_laws.proofs.BlocksTagLaws.{body_alike}
use Rattle.html_laws.proofs.texts_change_no_tag.Goals as goal

pub returns : goal.returns
returns c = body_alike

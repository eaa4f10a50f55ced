use Rattle.std.proofs.Common.{◌∷◌, ◌++◌, [], ap, sym, ◌∙◌}
use Rattle.dita_doc.specs.ClassValue.{words_of}
use Rattle.ditaval_rules.proofs.NameLaws.{names_more}
use Rattle.ditaval_rules.proofs.DomainLaws.{utf8_last}
use Rattle.ditaval_rules.proofs.domains.Names.put_last.Goals as goal

pub from_bytes-requires : goal.from_bytes-requires
from_bytes-requires c = utf8_last (words_of c.args.text.now) c.in-Some.name.now c.requires.utf8 (sym c.in-Some.ensures)

pub returns-in_ok-push-clause-seen : goal.returns-in_ok-push-clause-seen
returns-in_ok-push-clause-seen c =
    names_more c.args.self.now (record { list = c.push.new.self; seen = c.insert.new.self }) c.in-Some.name
    c.requires.seen c.in_ok-insert.ensures.updates
    (c.in_ok-push.ensures ∙ ap (λ name. c.args.self.now.list ++ name ∷ []) c.in_ok-from_bytes.ensures)

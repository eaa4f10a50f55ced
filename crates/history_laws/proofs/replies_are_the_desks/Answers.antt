use Rattle.std.proofs.Common.{[], ap, ◌∙◌, ◌+◌, arith}
use Rattle.dita_doc.specs.Desk.{reply}
use Rattle.dita_doc.specs.History.{sources}
use Rattle.version_store.proofs.HistoryLaws.{legal_at}
use Rattle.history_laws.proofs.replies_are_the_desks.Goals as goal

pub returns : goal.returns
returns c history n entry legal is = legal_at [] 0 history n entry legal is
    ∙ ap (λ place. reply (sources history n) place entry.request) {x = 0 + n} (omega arith)

use Rattle.pyx_text.specs.Reader.{IsReadSoFar}
use Rattle.std.proofs.Common.{Some, subst}
use Rattle.pyx_text.specs.declared.text_state.TextState.{TextState}
use Rattle.pyx_text.proofs.StateLaws.{ends_told}
use Rattle.pyx_text.proofs.text_state.TextState.finish.Goals as goal

pub returns-in-Stopped-clause-fault : goal.returns-in-Stopped-clause-fault
returns-in-Stopped-clause-fault c text stands =
    ends_told c.in-Stopped.stop text
    (subst (λ (state : TextState). IsReadSoFar state (Some text)) c.in-Stopped.is stands)

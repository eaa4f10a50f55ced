use Rattle.script_text.specs.declared.request_machine.RequestMachine.{RequestMachine}
use Rattle.std.proofs.Common.{refl}
use Rattle.script_text.proofs.ReaderLaws.{at_nothing}
use Rattle.script_text.proofs.request_machine.RequestMachine.new.Goals as goal

pub returns : goal.returns
returns c =
    let machine : RequestMachine = record { machine = c.new.result; line = c.new-2.result; number = 0 } in
    at_nothing machine refl c.new.ensures c.new-2.ensures.items

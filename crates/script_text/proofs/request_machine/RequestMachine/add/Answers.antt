use Rattle.std.proofs.Common.{refl}
use Rattle.script_text.specs.declared.request_machine.RequestMachine.{RequestMachine}
use Rattle.script_text.proofs.ReaderLaws.{add_behind, added_ok}
use Rattle.script_text.proofs.request_machine.RequestMachine.add.Goals as goal

pub returns : goal.returns
returns c text at =
    let old = c.args.self.now in
    let new : RequestMachine = record old { line = c.extend_from_slice.new.self } in
    added_ok c.extend_from_slice.result new.line.items old.line.items c.args.bytes.now _ c.extend_from_slice.ensures.items
    (λ added. add_behind old new text c.args.bytes.now at c.requires refl refl added)

use Rattle.std.proofs.Common.{◌≡◌, ℕ, List, [], ◌∷◌, ◌++◌, Ok, subst}
use Rattle.script_text.specs.Machine.{pending_seen, turned_seen}
use Rattle.script_text.specs.Requests.{request_line}
use Rattle.script_text.specs.Script.{turn}
use Rattle.script_text.specs.declared.request_machine.RequestMachine.{RequestMachine}
use Rattle.script_text.proofs.ReaderLaws.{end_behind, own_step, one_taken}
use Rattle.script_text.proofs.request_machine.RequestMachine.end_line.Goals as goal

pub returns-in-Ok-clause-ended : goal.returns-in-Ok-clause-ended
returns-in-Ok-clause-ended c text at =
    let old = c.args.self.now in
    let new : RequestMachine =
    record { machine = c.line.new.self; line = c.clear.new.self; number = c.saturating_add-self.result } in
    let turned =
    subst (λ (l : List ℕ). turn request_line 0 (pending_seen old.machine.begun) l
    ≡ Ok (turned_seen new.machine.begun c.in-Ok.step)) c.deref.ensures.value c.in-Ok.ensures.turn in
    end_behind old new text c.in-Ok.step c.request_of.result at turned c.saturating_add-self.ensures
    c.clear.ensures.items c.request_of.ensures

pub returns-in-Ok-clause-taken : goal.returns-in-Ok-clause-taken
returns-in-Ok-clause-taken c =
    let new : RequestMachine =
    record { machine = c.line.new.self; line = c.clear.new.self; number = c.saturating_add-self.result } in
    let text = c.requires.0 in
    one_taken new text (text ++ 10 ∷ []) c.request_of.result (returns-in-Ok-clause-ended c text c.requires.1)
    (own_step c.in-Ok.step c.request_of.result c.request_of.ensures c.in-Ok.ensures.own)

use Rattle.std.proofs.Common.{◌≡◌, ◌<◌, true, false, ◌++◌, length, refl, arith, rules}
use Rattle.std.proofs.lemmas.Bool.Decides.{nat_tests}
use Rattle.dita_doc.specs.PyxEscapes.{unescaped}
use Rattle.dita_doc.specs.PlainText.{is_blank}
use Rattle.pyx_text.specs.declared.machine.PyxMachine.{PyxMachine}
use Rattle.pyx_text.proofs.Steps.{text_outside, blank_outside, read-says}
use Rattle.pyx_text.proofs.machine.PyxMachine.says.Goals as goal

pub returns-then-not-is_blank : goal.returns-then-not-is_blank
returns-then-not-is_blank c number before read =
    let none : length c.args.self.now.places.items ≡ 0 = grind (arith, nat_tests) in
    let is : is_blank (unescaped c.args.text.now) ≡ false = search rules in
    text_outside c.args.self.now before (unescaped c.args.text.now) read none is

pub returns-else-not-is_blank : goal.returns-else-not-is_blank
returns-else-not-is_blank c number before read =
    let none : length c.args.self.now.places.items ≡ 0 = grind (arith, nat_tests) in
    let is : is_blank (unescaped c.args.text.now) ≡ true = search rules in
    blank_outside c.args.self.now number before (unescaped c.args.text.now) read none is

pub returns-in_ok-append_unescaped : goal.returns-in_ok-append_unescaped
returns-in_ok-append_unescaped c number before read =
    let m = c.args.self.now in
    let n : PyxMachine = record m { text = c.append_unescaped.new.out; fresh = false } in
    let some : 0 < length m.places.items = grind (arith, nat_tests) in
    let more : n.text ≡ m.text ++ unescaped c.args.text.now = search rules in
    read-says m n number before (unescaped c.args.text.now) read some refl refl more refl refl

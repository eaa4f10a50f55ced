use Rattle.std.proofs.Common.{◌≡◌, ◌+◌, ◌∷◌, ◌++◌, Err, IfErr, take, drop, get_or, sym, ap, ◌∙◌, subst, rules}
use Rattle.std.proofs.lemmas.List.{take-append-drop, drop_more}
use Rattle.pyx_text.specs.Reader.{IsTold}
use Rattle.pyx_text.proofs.ReaderLaws.{front_told}
use Rattle.pyx_text.proofs.text_machine.TextMachine.feed.Goals as goal

pub take_byte-requires : goal.take_byte-requires
take_byte-requires c =
    (c.requires.0 ++ take c.loop-byte.byte-index c.args.piece.now, c.loop-byte.invariant c.requires.0 c.requires.1)

pub returns-in_err-take_byte-clause-fault : goal.returns-in_err-take_byte-clause-fault
returns-in_err-take_byte-clause-fault c text rest at =
    let piece = c.args.piece.now in
    let i = c.loop-byte.byte-index in
    let stop = c.in_err-take_byte.field-0.0 in
    let is : c.from_residual.result ≡ Err stop = search rules in
    let front = take i piece in
    let b = get_or piece i 0 in
    let whole : piece ≡ front ++ b ∷ drop (i + 1) piece =
    sym (take-append-drop i piece) ∙ ap (λ rest. front ++ rest) (drop_more piece i 0 (search rules)) in
    let at_front = c.loop-byte.invariant text at in
    subst (λ r. IfErr r (λ stop. IsTold stop ((text ++ piece) ++ rest))) (sym is)
    (front_told text front (drop (i + 1) piece) piece rest b stop whole
    (λ behind. c.in_err-take_byte.ensures.fault (text ++ front) behind at_front))

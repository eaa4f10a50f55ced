use Rattle.std.proofs.lemmas.Slice.Eq.{bytes_eq-Decides, starts_is}
use Rattle.dita_class.proofs.specializes.Goals as goal

pub returns : goal.returns
returns c =
    let told = rw (c.as_slice-own.ensures, c.as_slice-first.ensures) at c.starts_with.ensures.value in
    let is = starts_is bytes_eq-Decides c.args.special.now.tokens c.args.base.now.tokens c.starts_with.result told in
    (λ yes. (_, is.0 yes), λ base. is.1 base.0 base.1)

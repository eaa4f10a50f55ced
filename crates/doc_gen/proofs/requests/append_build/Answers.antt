use Rattle.std.proofs.Common.{[], ◌∷◌, ◌++◌, codes}
use Rattle.script_text.specs.Printed.{step_text}
use Rattle.doc_gen.specs.Project.{builds}
use Rattle.doc_gen.proofs.Turns.{appended, build_joined}
use Rattle.doc_gen.proofs.requests.append_build.Goals as goal

pub returns : goal.returns
returns c =
    appended c.append.result c.append_number.new.out c.append.new.self
    (codes " build book.ditamap val.ditaval" ++ 10 ∷ []) (c.args.out.now ++ step_text (builds c.args.session))
    c.append.ensures
    (build_joined c.args.session c.args.out.now c.append_number.new.out c.in_ok-append_number.ensures)

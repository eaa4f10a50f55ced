use Rattle.std.proofs.Common.{ap, refl}
use Rattle.conref_push.specs.declared.target_docs.PushTarget as code
use Rattle.conref_push.proofs.ReplaceLaws.{if_kept, not_noted, not_told, noted_by, told_by}
use Rattle.conref_push.proofs.target_docs.Targets.note.Goals as goal

pub returns-then-not-replaces : goal.returns-then-not-replaces
returns-then-not-replaces c = record {
  told = not_told c.args.kind c.args.target.now c.args.self.now.replaced c.if-not-replaces.ensures;
  noted = not_noted c.args.kind c.args.target.now c.args.self.now.replaced c.if-not-replaces.ensures;
  docs = refl;
}

pub returns : goal.returns
returns c =
    let key : code.PushTarget = record { doc = c.in_ok-clone.field-0; place = c.args.target.now.place } in
    let same = ap (λ doc. (let made : code.PushTarget = record { doc = doc; place = c.args.target.now.place } in made))
    c.in_ok-clone.ensures.cases in
    record {
      told = told_by c.args.kind c.args.self.now.replaced key c.args.target.now c.in_ok-added.added
          c.if-not-replaces.ensures same c.in_ok-added.ensures.added;
      noted = noted_by c.args.kind c.args.self.now.replaced c.insert.new.self key c.args.target.now c.in_ok-added.added
          c.if-not-replaces.ensures same c.in_ok-added.ensures.updates.0
          (if_kept c.in_ok-added.added _ c.in_ok-added.ensures.unchanged);
      docs = refl;
    }

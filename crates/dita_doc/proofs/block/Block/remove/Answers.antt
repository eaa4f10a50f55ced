use Rattle.std.proofs.Common.{sym, ap, subst, option_map, length, arith}
use Rattle.std.proofs.lemmas.List.{length-map}
use Rattle.dita_doc.specs.Desk.{Stored, IsSortedByName}
use Rattle.dita_doc.specs.Sources.{document_seen}
use Rattle.dita_doc.proofs.NameOrder.{sorted_without, without_unfound}
use Rattle.dita_doc.proofs.SourcesLaws.{found_read, found_in_gap, taken_away}
use Rattle.dita_doc.proofs.block.Block.remove.Goals as goal

pub returns-in-Ok-clause-after : goal.returns-in-Ok-clause-after
returns-in-Ok-clause-after c = taken_away document_seen c.self.inside.documents.items c.args.self.now c.self.view_is
    c.remove.new.self.items c.args.name.now c.in-Ok.at c.in-Ok.ensures.found c.remove.ensures.items

pub invariant_of-self : goal.invariant_of-self
invariant_of-self c =
    let is = taken_away document_seen c.self.inside.documents.items c.args.self.now c.self.view_is
    c.remove.new.self.items c.args.name.now c.in-Ok.at c.in-Ok.ensures.found c.remove.ensures.items in
    let sorted = subst IsSortedByName (sym is) (sorted_without c.args.name.now c.args.self.now
    (subst IsSortedByName c.self.view_is c.self.invariant.sorted)) in
    let few = c.self.invariant.few in
    let before = ap length c.self.view_is in
    record {
      sorted = sorted;
      some = omega (
        arith,
        length-map c.remove.new.self.items document_seen,
        length-map c.self.inside.documents.items document_seen,
      );
      few = omega (
        arith,
        length-map c.remove.new.self.items document_seen,
        length-map c.self.inside.documents.items document_seen,
      );
    }

pub returns-in-Ok-clause-version : goal.returns-in-Ok-clause-version
returns-in-Ok-clause-version c =
    let is = found_read document_seen c.self.inside.documents.items c.args.self.now c.args.name.now c.in-Ok.at
    c.remove.result c.self.view_is c.in-Ok.ensures.found c.remove.ensures.value in
    sym (ap (option_map (λ (stored : Stored). stored.version)) is)

pub returns-in-Err-clause-version : goal.returns-in-Err-clause-version
returns-in-Err-clause-version c =
    sym (ap (option_map (λ (stored : Stored). stored.version)) (found_in_gap _ _ _ c.in-Err.ensures.absent))

pub returns-in-Err-clause-after : goal.returns-in-Err-clause-after
returns-in-Err-clause-after c =
    sym (without_unfound c.args.name.now c.args.self.now (found_in_gap _ _ _ c.in-Err.ensures.absent))

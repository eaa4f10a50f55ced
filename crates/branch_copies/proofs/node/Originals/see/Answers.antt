use Rattle.std.proofs.Common.{ap, ◌∙◌}
use Rattle.std.specs.Prelude.{min}
use Rattle.branch_copies.specs.declared.branches.Span.{Span}
use Rattle.branch_copies.proofs.SightLaws.{first_seen, original_there}
use Rattle.branch_copies.proofs.node.Originals.see.Goals as goal

pub returns-in_err-original-clause-first : goal.returns-in_err-original-clause-first
returns-in_err-original-clause-first c = λ world defined above head below more is stands have ends.
    absurd (original_there world c.args.self.now defined above c.args.walk.at head below more c.original.result is stands
    c.original.ensures.is c.in_err-original.was)

pub returns-clause-first : goal.returns-clause-first
returns-clause-first c = λ world defined above head below more is stands have ends.
    first_seen world c.args.self.now defined above c.args.walk.at head below more c.args.walk.end
    (record {
      original = c.in_ok-original.original;
      end = c.min-end.result;
      span = record { first = c.span-span.result.first; count = c.min-count.result };
    }) c.original.result c.span-span.result is stands have ends c.original.ensures.is c.in_ok-original.was
    (c.min-end.ensures ∙ ap (λ n. min n c.args.walk.end) c.next_sibling.ensures.is) c.span-span.ensures
    (ap (λ n. (let span : Span = record { first = c.span-span.result.first; count = n } in span)) c.min-count.ensures)

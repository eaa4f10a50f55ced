use Rattle.std.specs.Prelude.{◌≡◌, map, true, nat_le}
use Rattle.std.proofs.Common.{sym, ap, ◌∙◌}
use Rattle.std.proofs.lemmas.Bool.{le-leb, lt-leb}
use Rattle.std.proofs.lemmas.List.Elements.{All-from_recursion}
use Rattle.clean_build.specs.Clean.{HasPageName, page_seen}
use Rattle.part_spec.specs.Parts.{names_of_pages, total_limit, total_of}
use Rattle.clean_build.proofs.GatheredLaws.{built_done, built_large, good_after, names_seen, same_report}
use Rattle.clean_build.proofs.gathered.Gathered.finish.Goals as goal

pub returns-then-total-gt-TOTAL_LIMIT : goal.returns-then-total-gt-TOTAL_LIMIT
returns-then-total-gt-TOTAL_LIMIT c = λ plan parts faults has good. record {
  built = built_large plan parts _
      (ap (λ n. nat_le n total_limit) (sym has.put.total) ∙ lt-leb _ _ c.if-total-gt-TOTAL_LIMIT.true) has.put.total;
  names = λ named. tt;
}

pub returns : goal.returns
returns c = λ plan parts faults has good.
    let few : nat_le (total_of parts) total_limit ≡ true =
    ap (λ n. nat_le n total_limit) (sym has.put.total) ∙ le-leb _ _ c.if-total-gt-TOTAL_LIMIT.false in
    let seen = ap (map page_seen) c.pages.view_is ∙ has.put.pages few in record {
      built = built_done plan parts _ _ few seen
          (same_report c.args.self.faults _ _ c.in_ok-report.ensures (good_after _ _ _ has.good good));
      names = λ named. All-from_recursion HasPageName _ (names_seen (names_of_pages plan) parts _ seen named);
    }

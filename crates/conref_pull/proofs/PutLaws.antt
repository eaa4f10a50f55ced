-- Content that is put piece by piece.
use Rattle.std.specs.Prelude.{◌≡◌, ◌+◌, ◌++◌, ◌≤◌, ℕ, List, []}
use Rattle.std.proofs.Common.{sym, ap, ◌∙◌, arith, append_assoc, append-nil}
use Rattle.dita_doc.specs.declared.fault.Fault.{Fault}
use Rattle.doc_maker.specs.Building.{Building, behind}
use Rattle.doc_maker.proofs.BuildingLaws.{behind_behind, behind_end, beside_end}
use Rattle.map_spec.specs.Written.{Written}
use Rattle.conref_spec.specs.Content.{Made, count_limit, made_beside, nothing_made}
use Rattle.conref_pull.specs.Putting.{IsPut, IsSameMaker, built, declared_put}
use Rattle.conref_pull.specs.declared.resolver.Resolver.{Resolver}
use Rattle.conref_pull.proofs.StateLaws.{paging}

abbrev Names : Type 0
Names = List (List (List ℕ))

pub put_nothing : (a b : Resolver) → b ≡ a → a.count ≤ count_limit → IsPut nothing_made a b
put_nothing a b same room = record {
  nodes = ap built same ∙ sym (behind_end (built a));
  declared = ap declared_put same ∙ sym (append-nil (declared_put a));
  count = (let e : a.count ≡ a.count + 0 = omega arith in ap (λ (r : Resolver). r.count) same ∙ e);
  room = (let e = ap (λ (r : Resolver). r.count) same in omega (arith, e));
  faults = ap (λ (r : Resolver). r.faults) same ∙ sym (append-nil a.faults);
}

pub put_then : (first second : Made) (a b c : Resolver) → IsPut first a b → IsPut second b c
    → IsPut (made_beside first second) a c
put_then first second a b c one two = record {
  nodes = two.nodes ∙ ap (λ (x : Building). behind x second.nodes) one.nodes
      ∙ behind_behind (built a) first.nodes second.nodes;
  declared = two.declared ∙ ap (λ (names : Names). names ++ second.declared) one.declared
      ∙ append_assoc (declared_put a) first.declared second.declared;
  count = omega (arith, one.count, two.count);
  room = two.room;
  faults = two.faults ∙ ap (λ (fs : List Fault). fs ++ second.faults) one.faults
      ∙ append_assoc a.faults first.faults second.faults;
}

pub beside_nothing : (made : Made) → made_beside made nothing_made ≡ made
beside_nothing made =
    let count : made.count + 0 ≡ made.count = omega arith in
    ap (λ (nodes : Written). (let all : Made = record {
      nodes = nodes;
      declared = made.declared ++ [];
      count = made.count + 0;
      faults = made.faults ++ [];
    } in all)) (beside_end made.nodes)
    ∙ ap (λ (names : Names). (let all : Made =
    record { nodes = made.nodes; declared = names; count = made.count + 0; faults = made.faults ++ [] } in all))
    (append-nil made.declared)
    ∙ ap (λ n. (let all : Made =
    record { nodes = made.nodes; declared = made.declared; count = n; faults = made.faults ++ [] } in all)) count
    ∙ ap (λ (fs : List Fault). (let all : Made =
    record { nodes = made.nodes; declared = made.declared; count = made.count; faults = fs } in all))
    (append-nil made.faults)

pub nothing_beside : (made : Made) → made_beside nothing_made made ≡ made
nothing_beside made =
    let count : 0 + made.count ≡ made.count = omega arith in
    ap (λ n. (let all : Made =
    record { nodes = made.nodes; declared = made.declared; count = n; faults = made.faults } in all)) count

-- Where nothing is put

pub maker_same : (a b : Resolver) → b ≡ a → IsSameMaker a b
maker_same a b is = record { is = ap (λ (r : Resolver). r.maker) is }

pub maker_faults : (a b : Resolver) (faults : List Fault) → b ≡ record a { faults = faults } → IsSameMaker a b
maker_faults a b faults is = record { is = ap (λ (r : Resolver). r.maker) is }

pub maker_then : (a b c : Resolver) → IsSameMaker a b → IsSameMaker b c → IsSameMaker a c
maker_then a b c first next = record { is = next.is ∙ first.is }

-- what closes most claims that the page is the same, and that nothing is put
pub ruleset making = (paging, maker_same, maker_faults, maker_then)

-- Branches that were read stay read, and more are put behind them.
use Rattle.std.specs.Prelude.{◌≡◌, ◌++◌, ℕ, false, List, [], ◌∷◌, Option, Some, None, length, option_map, slice_get}
use Rattle.std.specs.Option.{option_map_or, option_to_list}
use Rattle.std.proofs.Common.{refl, sym, ap, subst, ◌∙◌, append-nil, append_assoc, arith}
use Rattle.std.proofs.lemmas.Grind.{flat_map-append}
use Rattle.dita_doc.specs.declared.plan.PlanNode.{PlanNode}
use Rattle.ditaval_rules.specs.declared.rules.RulesRead.{RulesRead}
use Rattle.doc_elements.specs.Walk as walk
use Rattle.doc_elements.specs.Walk.{FoundElement, content_in, element_of}
use Rattle.map_spec.specs.Branches as branches
use Rattle.map_spec.specs.Branches.{branch_of, is_ditavalref}
use Rattle.map_spec.specs.Judged.{whole_of}
use Rattle.map_spec.specs.MapTree.{Head, node_of}
use Rattle.reader_spec.specs.World.{World}
use Rattle.branch_copies.specs.Appended.{AreAppended, branches_for, if_ditavalref}
use Rattle.branch_copies.specs.BranchRead.{IsBranchOf, place_of}
use Rattle.plan_nodes.specs.HomeDocs.{IsWithin, Known}
use Rattle.branch_copies.specs.Ditavals.{AreKnown, Longer, rules_at}
use Rattle.branch_copies.specs.Placed.{faults_in}
use Rattle.branch_copies.specs.Read.{AreRead, IsRead}
use Rattle.branch_copies.specs.declared.branch.Branch.{Branch}
use Rattle.branch_copies.specs.declared.branches.Branches.{Branches}
use Rattle.branch_copies.proofs.DitavalLaws.{ditaval_more, within_longer}

-- More DITAVALs are read

rules_longer : (old more : List RulesRead) (place : Option ℕ) → IsWithin (length old) place
    → rules_at (old ++ more) place ≡ rules_at old place
rules_longer old more place within =
    ap (λ found. option_map_or (λ (d : RulesRead). d.rules) found []) (ditaval_more old more place within)

one_longer : (old more : List RulesRead) (nodes : List PlanNode) (branch : Branch) (defined : branches.Branch)
    → IsRead old nodes branch defined → IsRead (old ++ more) nodes branch defined
one_longer old more nodes branch defined is = record {
  parent = is.parent;
  end = is.end;
  here = is.here;
  within = within_longer old more (place_of branch.filter) is.within;
  name = is.name;
  rules = rules_longer old more (place_of branch.filter) is.within ∙ is.rules;
  resource = is.resource;
  keyscope = is.keyscope;
}

read_more : (old more : List RulesRead) (nodes : List PlanNode) (made : List Branch) (defined : List branches.Branch)
    → AreRead old nodes made defined → AreRead (old ++ more) nodes made defined
read_more old more nodes [] [] are = tt
read_more old more nodes (branch ∷ made) (own ∷ defined) are =
    (one_longer old more nodes branch own are.0, read_more old more nodes made defined are.1)
read_more old more nodes [] (own ∷ defined) are = absurd are
read_more old more nodes (branch ∷ made) [] are = absurd are

pub read_longer : (old new : List RulesRead) (nodes : List PlanNode) (made : List Branch)
    (defined : List branches.Branch) → Longer old new → AreRead old nodes made defined → AreRead new nodes made defined
read_longer old new nodes made defined longer are =
    subst (λ read. AreRead read nodes made defined) (sym longer.1) (read_more old longer.0 nodes made defined are)

-- One list behind another

pub read_append : (read : List RulesRead) (nodes : List PlanNode) (made more : List Branch)
    (defined others : List branches.Branch) → AreRead read nodes made defined → AreRead read nodes more others
    → AreRead read nodes (made ++ more) (defined ++ others)
read_append read nodes [] more [] others are behind = behind
read_append read nodes (branch ∷ made) more (own ∷ defined) others are behind =
    (are.0, read_append read nodes made more defined others are.1 behind)
read_append read nodes [] more (own ∷ defined) others are behind = absurd are
read_append read nodes (branch ∷ made) more [] others are behind = absurd are

pub read_length : (read : List RulesRead) (nodes : List PlanNode) (made : List Branch) (defined : List branches.Branch)
    → AreRead read nodes made defined → length made ≡ length defined
read_length read nodes [] [] are = refl
read_length read nodes (branch ∷ made) (own ∷ defined) are =
    let more = read_length read nodes made defined are.1 in omega (arith, more)
read_length read nodes [] (own ∷ defined) are = absurd are
read_length read nodes (branch ∷ made) [] are = absurd are

longer_then : (a b c : List RulesRead) → Longer a b → Longer b c → Longer a c
longer_then a b c first second =
    (first.0 ++ second.0, second.1 ∙ ap (λ l. l ++ second.0) first.1 ∙ append_assoc a first.0 second.0)

-- Branches are appended

pub appended_none : (world : World) (nodes : List PlanNode) (read : List RulesRead) (entries : List Known)
    (made : Branches) → AreKnown world read entries → AreAppended world nodes read read entries made made []
appended_none world nodes read entries made known = record {
  longer = ([], sym (append-nil read));
  known = known;
  more = [];
  branches = sym (append-nil made.branches.items);
  are = tt;
  faults = sym (append-nil made.faults);
  spans = refl;
}

pub appended_then : (world : World) (nodes : List PlanNode) (a b c : List RulesRead) (entries later : List Known)
    (first second third : Branches) (defined others : List branches.Branch)
    → AreAppended world nodes a b entries first second defined
    → AreAppended world nodes b c later second third others
    → AreAppended world nodes a c later first third (defined ++ others)
appended_then world nodes a b c entries later first second third defined others before next = record {
  longer = longer_then a b c before.longer next.longer;
  known = next.known;
  more = before.more ++ next.more;
  branches = next.branches ∙ ap (λ l. l ++ next.more) before.branches
      ∙ append_assoc first.branches.items before.more next.more;
  are = read_append c nodes before.more next.more defined others
      (read_longer b c nodes before.more defined next.longer before.are) next.are;
  faults = next.faults ∙ ap (λ l. l ++ faults_in others) before.faults
      ∙ append_assoc first.faults (faults_in defined) (faults_in others)
      ∙ ap (λ l. first.faults ++ l)
      (sym (flat_map-append (λ (branch : branches.Branch). branch.filter.faults) defined others));
  spans = next.spans ∙ before.spans;
}

pub branches_both : (world : World) (refs more : List Head)
    → branches_for world refs ++ branches_for world more ≡ branches_for world (refs ++ more)
branches_both world refs more =
    sym (flat_map-append (λ ref. option_to_list (option_map (branch_of world ref) (whole_of world ref))) refs more)

-- One ditavalref

-- its element is not there
pub none_appended : (world : World) (nodes : List PlanNode) (read : List RulesRead) (entries : List Known)
    (made : Branches) (head : Head) → whole_of world head ≡ None → AreKnown world read entries
    → AreAppended world nodes read read entries made made (branches_for world (head ∷ []))
none_appended world nodes read entries made head none known =
    subst (λ whole. AreAppended world nodes read read entries made made
    (option_to_list (option_map (branch_of world head) whole) ++ [])) (sym none)
    (appended_none world nodes read entries made known)

pub one_appended : (world : World) (nodes : List PlanNode) (old new : List RulesRead) (entries : List Known)
    (before after : Branches) (place parent end : ℕ) (head : Head) (found : FoundElement) (branch : Branch)
    → slice_get nodes place ≡ Some (node_of head parent end)
    → Some (walk.whole_of head.doc found) ≡ whole_of world head
    → IsBranchOf world old new entries before.faults after.faults place (element_of head.doc found.0.now)
    (content_in head.doc found.1) branch → after.branches.items ≡ before.branches.items ++ branch ∷ []
    → after.spans.items ≡ before.spans.items
    → AreAppended world nodes old new entries before after (branches_for world (head ∷ []))
one_appended world nodes old new entries before after place parent end head found branch here is read put spans =
    let defined : branches.Branch = branch_of world head (walk.whole_of head.doc found) in
    subst (λ whole. AreAppended world nodes old new entries before after
    (option_to_list (option_map (branch_of world head) whole) ++ [])) is (record {
      longer = read.filter.longer;
      known = read.filter.known;
      more = branch ∷ [];
      branches = put;
      are = (
        record {
          parent = parent;
          end = end;
          here = ap (slice_get nodes) read.at ∙ here;
          within = read.filter.within;
          name = read.filter.name;
          rules = read.filter.rules;
          resource = read.resource;
          keyscope = read.keyscope;
        },
        tt,
      );
      faults = read.filter.faults ∙ ap (λ l. before.faults ++ l) (sym (append-nil defined.filter.faults));
      spans = spans;
    })

-- a child that is none
pub other_appended : (world : World) (nodes : List PlanNode) (read : List RulesRead) (entries : List Known)
    (made : Branches) (head : Head) → is_ditavalref head.kind ≡ false → AreKnown world read entries
    → AreAppended world nodes read read entries made made (branches_for world (if_ditavalref head))
other_appended world nodes read entries made head other known =
    rw other (appended_none world nodes read entries made known)

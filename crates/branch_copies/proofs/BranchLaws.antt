-- What is read of a ditavalref.
use Rattle.std.specs.Prelude.{◌≡◌, ◌<◌, ◌++◌, ℕ, zero, suc, List, [], ◌∷◌, Option, Some, None, codes, length, slice_get}
use Rattle.std.specs.Option.{option_map_or}
use Rattle.std.proofs.Common.{refl, sym, ap, subst, ◌∙◌, append-nil, arith}
use Rattle.std.proofs.lemmas.Option.{none-some}
use Rattle.dita_doc.specs.declared.fault.Fault.{Fault}
use Rattle.dita_doc.specs.declared.fault.FaultCode.TheVariants as codes_of_faults
use Rattle.map_spec.specs.Branches as branches
use Rattle.map_spec.specs.Branches.{ditaval_in, filter_named, filter_of, filter_read, no_filter}
use Rattle.map_spec.specs.Elements.{attribute, fault_at}
use Rattle.map_spec.specs.Target.{Document, Named, named_of}
use Rattle.map_spec.specs.Written.{Element}
use Rattle.ditaval_rules.specs.declared.rules.RulesRead.{RulesRead}
use Rattle.reader_spec.specs.World.{World}
use Rattle.readers.specs.Documents.{AsksOnly, nothing}
use Rattle.readers.specs.Founded.{StaysFounded}
use Rattle.readers.specs.Told.{Told}
use Rattle.branch_copies.specs.BranchRead.{IsFilterOf, documents_named, targets_of}
use Rattle.plan_nodes.specs.HomeDocs.{Known}
use Rattle.branch_copies.specs.Ditavals.{AreKnown, IsDitavalOf, IsKnown, Longer, faults_at}

-- no place within a list is empty
not_none : {X : Type 0} (xs : List X) (at : ℕ) → at < length xs → slice_get xs at ≡ None → ⊥
not_none [] at within none = omega arith
not_none (x ∷ xs) zero within none = none-some x (sym none)
not_none (x ∷ xs) (suc at) within none = not_none xs at (omega arith) none

module _ (world : World) (old new : List RulesRead) (entries : List Known) (before after : List Fault) (element : Element)
    (val : List ℕ) (at : ℕ) where
  filter_by : (found : Option RulesRead) → slice_get new at ≡ found → at < length new → Longer old new
      → AreKnown world new entries → after ≡ before ++ faults_at new at
      → IsFilterOf world old new entries before after (filter_read element val found)
      (Some (record { name = val; ditaval = at }))
  filter_by None is within longer known put = absurd (not_none new at within is)
  filter_by (Some read) is within longer known put = record {
    longer = longer;
    known = known;
    within = within;
    name = refl;
    rules = ap (λ (r : Option RulesRead). option_map_or (λ (d : RulesRead). d.rules) r []) is;
    faults = put ∙ ap (λ (r : Option RulesRead). before ++ option_map_or (λ (d : RulesRead). d.faults) r []) is;
  }

  pub filter_found : (place : Option ℕ) → place ≡ Some at → after ≡ before ++ faults_at new at
      → IsDitavalOf world old new entries val place
      → IsFilterOf world old new entries before after (filter_read element val (ditaval_in world val))
      (Some (record { name = val; ditaval = at }))
  filter_found place is put found =
      let here : IsKnown world new val (Some at) = subst (IsKnown world new val) is found.here in
      filter_by (ditaval_in world val) here.is here.within found.longer found.known put

module _ (world : World) (old new : List RulesRead) (entries : List Known) (before after : List Fault) (element : Element)
  where
    -- nothing is filtered
    pub no_filter_of : (defined : branches.Filter) (faults : List Fault) → defined ≡ no_filter faults → Longer old new
        → AreKnown world new entries → after ≡ before ++ faults
        → IsFilterOf world old new entries before after defined None
    no_filter_of defined faults is longer known put =
        subst (λ (d : branches.Filter). IsFilterOf world old new entries before after d None) (sym is) (record {
          longer = longer;
          known = known;
          within = tt;
          name = refl;
          rules = refl;
          faults = put;
        })

    pub filter_missing : (val : List ℕ) (place : Option ℕ) (fault : Fault) → place ≡ None
        → fault ≡ fault_at element codes_of_faults.DitavalMissing val → after ≡ before ++ fault ∷ []
        → IsDitavalOf world old new entries val place
        → IsFilterOf world old new entries before after (filter_read element val (ditaval_in world val)) None
    filter_missing val place fault is same put found =
        let here : IsKnown world new val None = subst (IsKnown world new val) is found.here in
        no_filter_of (filter_read element val (ditaval_in world val)) (fault ∷ [])
        (ap (filter_read element val) (sym here.is)
        ∙ ap (λ (f : Fault). no_filter (f ∷ [])) (sym same)) found.longer found.known put

pub longer_same : (read : List RulesRead) → Longer read read
longer_same read = ([], sym (append-nil read))

pub none_written : (world : World) (element : Element) → None ≡ attribute (codes "href") element
    → filter_of world element ≡ no_filter []
none_written world element written = rw (← written) refl

pub named_so : (world : World) (element : Element) (href : List ℕ) (named : Named)
    → Some href ≡ attribute (codes "href") element → named ≡ named_of element href
    → filter_of world element ≡ filter_named world element href named
named_so world element href named written is = rw (← written, is) refl

pub targets_so : (element : Element) (href : List ℕ) (named : Named)
    → Some href ≡ attribute (codes "href") element → named ≡ named_of element href
    → targets_of element ≡ documents_named named
targets_so element href named written is = rw (← written, is) refl

-- a call about the document that the href names is one about the documents of the element
module _ (element : Element) (href val : List ℕ) (old new : List Told) where
  pub stays_named : Some href ≡ attribute (codes "href") element → Document val ≡ named_of element href
      → StaysFounded (val ∷ []) old new → StaysFounded (targets_of element) old new
  stays_named written is =
      subst (λ names. StaysFounded names old new) (sym (targets_so element href (Document val) written is))

  pub asks_named : Some href ≡ attribute (codes "href") element → Document val ≡ named_of element href
      → AsksOnly nothing (val ∷ []) old new → AsksOnly nothing (targets_of element) old new
  asks_named written is =
      subst (λ names. AsksOnly nothing names old new) (sym (targets_so element href (Document val) written is))

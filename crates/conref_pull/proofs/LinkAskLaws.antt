-- What is asked about where references are followed from target to target.
use Rattle.std.specs.Prelude.{◌≡◌, ◌<◌, ◌++◌, ℕ, zero, suc, List, [], ◌∷◌, Option, Some, None, Result, Ok, Err, IfOk, IfSome, length}
use Rattle.std.specs.Arc.{arc_value}
use Rattle.std.specs.declared.alloc.Global.{Global}
use Rattle.std.specs.declared.sync.Arc.{Arc}
use Rattle.std.proofs.Common.{arith, get_or, subst, sym}
use Rattle.dita_doc.specs.declared.doc.Doc.{Doc}
use Rattle.dita_doc.specs.declared.stop.NoMemory.{NoMemory}
use Rattle.readers.specs.Documents.{IsGiven}
use Rattle.readers.specs.Founded.{AreAmong, Grows}
use Rattle.readers.specs.Named.{named_tree}
use Rattle.readers.specs.Told.{Told}
use Rattle.readers.proofs.GivenLaws.{given_later}
use Rattle.conref_targets.specs.Asking.{AreGiven, IsGivenIn, reused_of_doc, reused_of_whole}
use Rattle.conref_targets.specs.declared.find.Found.{Found}
use Rattle.conref_targets.specs.declared.origin.Whole.{Whole}
use Rattle.conref_targets.proofs.AskingLaws.{given_reused, given_some}
use Rattle.conref_pull.specs.Linked.{AreGivenTo, IsGivenIf, IsGivenTo}
use Rattle.conref_pull.specs.declared.chain.TakenTarget.{TakenTarget}

pub links_later : (old new : List Told) (links : List TakenTarget) → Grows old new → AreGivenTo old links
    → AreGivenTo new links
links_later old new [] grows given = given
links_later old new (link ∷ links) grows given =
    (given_later old new _ grows given.0, links_later old new links grows given.1)

pub links_more : (told : List Told) (links : List TakenTarget) (link : TakenTarget) → AreGivenTo told links
    → IsGivenTo told link
    → AreGivenTo told (links ++ link ∷ [])
links_more told [] link given more = (more, tt)
links_more told (one ∷ links) link given more = (given.0, links_more told links link given.1 more)

-- the last of them, and those before it
pub links_apart : (told : List Told) (links : List TakenTarget) (link : TakenTarget)
    → AreGivenTo told (links ++ link ∷ [])
    → AreGivenTo told links × IsGivenTo told link
links_apart told [] link given = (tt, given.0)
links_apart told (one ∷ links) link given =
    let behind = links_apart told links link given.1 in
    ((given.0, behind.0), behind.1)

-- one of them
pub link_given : (told : List Told) (links : List TakenTarget) (at : ℕ) (link : TakenTarget) → AreGivenTo told links
    → at < length links → link ≡ get_or links at link → IsGivenTo told link
link_given told [] at link given within is = absurd (omega arith)
link_given told (one ∷ links) zero link given within is = subst (IsGivenTo told) (sym is) given.0
link_given told (one ∷ links) (suc at) link given within is =
    link_given told links at link given.1 (omega arith) is

pub first_given : (told : List Told) (links : List TakenTarget) (link : TakenTarget) (more : List TakenTarget)
    → links ≡ link ∷ more
    → AreGivenTo told links → IsGivenTo told link
first_given told links link more is given = (subst (AreGivenTo told) is given).0

pub whole_given : (told : List Told) (link : TakenTarget) (found : Option Whole) → IsGivenTo told link
    → IfSome found (λ whole. AreAmong (reused_of_whole whole) (reused_of_doc (arc_value link.doc)))
    → IfSome found (λ whole. AreGiven told (reused_of_whole whole))
whole_given told link None given among = tt
whole_given told link (Some whole) given among =
    given_some told (reused_of_whole whole) _ among (given_reused told (arc_value link.doc) given)

-- the link to a target that was found
pub given_link : (told : List Told) (found : Found) (result : Result (Option TakenTarget) NoMemory)
    → IfOk result (λ link. IfSome link (λ one. one.doc ≡ found.doc)) → IsGivenIn told (Some found)
    → IfOk result (λ link. IsGivenIf told link)
given_link told found (Err stop) same given = tt
given_link told found (Ok None) same given = tt
given_link told found (Ok (Some link)) same given =
    subst (λ (d : Arc Doc Global). IsGiven told (Some (named_tree (arc_value d)))) (sym same) given

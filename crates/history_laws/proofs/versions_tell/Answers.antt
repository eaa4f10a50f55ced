use Rattle.std.proofs.Common.{◌≡◌, ℕ, Some, ap, sym, ◌∙◌, subst, arith}
use Rattle.std.specs.List.{slice_get}
use Rattle.std.proofs.lemmas.Option.{same_Some}
use Rattle.dita_doc.specs.Bytes.{Bytes}
use Rattle.dita_doc.specs.Desk.{Stored, stored_under, nodes_in}
use Rattle.dita_doc.specs.History.{Entry, sources}
use Rattle.dita_doc.specs.Pyx.{document_of}
use Rattle.dita_doc.specs.Request.{Edit, Put, PutIf, Remove, Request, Single, Get, Names, Build, Group}
use Rattle.version_store.specs.Entries.{Entries, EditPuts, Puts}
use Rattle.dita_doc.proofs.NameOrder.{named_as_found}
use Rattle.version_store.proofs.HistoryLaws.{from_sources, slice_get-take}
use Rattle.history_laws.proofs.versions_tell.Goals as goal

-- an edit and a request put one body under a name
one_body_of_edit : (edit : Edit) (name x y : Bytes) → EditPuts edit name x → EditPuts edit name y → x ≡ y
one_body_of_edit (Put named body) name x y p q = sym p.1 ∙ q.1
one_body_of_edit (PutIf version named body) name x y p q = sym p.1 ∙ q.1
one_body_of_edit (Remove named) name x y p q = absurd p

one_body : (request : Request) (name x y : Bytes) → Puts request name x → Puts request name y → x ≡ y
one_body (Single edit) name x y p q = one_body_of_edit edit name x y p q
one_body (Get named) name x y p q = absurd p
one_body Names name x y p q = absurd p
one_body (Build root val) name x y p q = absurd p
one_body (Group edits) name x y p q =
    one_body_of_edit q.edit name x y
    (subst (λ (e : Edit). EditPuts e name x) (same_Some p.edit q.edit (sym p.last ∙ q.last)) p.puts) q.puts

same_stored : (s t : Stored) → s.name ≡ t.name → s.nodes ≡ t.nodes → s.bytes ≡ t.bytes → s.version ≡ t.version → s ≡ t
same_stored s t a b c d = λ i. record { name = a i; nodes = b i; bytes = c i; version = d i }

-- both come from one entry, and have the name
one_document : (history : Entries) (m n : ℕ) (name : Bytes) (stored again : Stored)
    → stored_under (sources history m) name ≡ Some stored → stored_under (sources history n) name ≡ Some again
    → stored.version ≡ again.version → stored ≡ again
one_document history m n name stored again is too same =
    let first = from_sources history m name stored is in
    let second = from_sources history n name again too in
    let named : stored.name ≡ again.name =
    named_as_found (sources history m) name stored is ∙ sym (named_as_found (sources history n) name again too) in
    let place : first.place ≡ second.place = omega (arith, first.version, second.version, same) in
    let one : first.entry ≡ second.entry =
    same_Some first.entry second.entry
    (sym (slice_get-take history m first.place first.entry first.stands)
    ∙ ap (slice_get history) place
    ∙ slice_get-take history n second.place second.entry second.stands) in
    let puts : Puts second.entry.request again.name stored.bytes =
    subst (λ (named : Bytes). Puts second.entry.request named stored.bytes) named
    (subst (λ (e : Entry). Puts e.request stored.name stored.bytes) one first.puts) in
    let bytes = one_body second.entry.request again.name stored.bytes again.bytes puts second.puts in
    let nodes = first.nodes ∙ ap (λ bytes. nodes_in (document_of bytes)) bytes ∙ sym second.nodes in
    same_stored stored again named nodes bytes same

pub returns : goal.returns
returns c = one_document

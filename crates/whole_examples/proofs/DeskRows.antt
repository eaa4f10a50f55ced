-- The definitions of the desk, run on small requests: replies that are known by hand.
use Rattle.std.specs.Prelude.{◌≡◌, List, [], ◌∷◌, ◌++◌, ℕ, refl, codes}
use Rattle.std.specs.Str.{is_utf8, chars}
use lib.Utf8.{encode}
use Rattle.dita_doc.specs.Desk.{State, OtherVersion, BodyFault, NotStored, IsStored, IsRemoved, IsRefused, Bytes, NameList, Conflict, Absent, IsGrouped, IsStopped, reply, next}
use Rattle.dita_doc.specs.Pyx.{document_of}
use Rattle.dita_doc.specs.Request.{Put, PutIf, Remove, Single, Get, Names, Group}
use Rattle.dita_doc.specs.declared.fault.PyxCode.TheVariants as fault

abbrev lf : List ℕ
lf = 10 ∷ []

-- what is stored is not what was refused
abbrev faulty : List ℕ
faulty = codes "(p" ++ lf ++ codes ")q" ++ lf

faulty_body : reply [] 0 (Single (Put (codes "t.dita") faulty)) ≡ IsRefused (record { code = fault.CloseMismatch; line = 2 })
unfolding document_of is_utf8 chars encode
faulty_body = refl

nothing_stored : next [] 0 (Single (Put (codes "t.dita") faulty)) ≡ []
unfolding document_of is_utf8 chars encode
nothing_stored = refl

nothing_found : reply [] 1 (Get (codes "t.dita")) ≡ Absent
nothing_found = refl

-- two that store under one name, each where nothing stands there
abbrev good : List ℕ
good = codes "(p" ++ lf ++ codes ")p" ++ lf

abbrev first : State
first = next [] 0 (Single (PutIf 0 (codes "t.dita") good))

first_stored : reply [] 0 (Single (PutIf 0 (codes "t.dita") good)) ≡ IsStored 1
unfolding document_of is_utf8 chars encode
first_stored = refl

second_conflict : reply first 1 (Single (PutIf 0 (codes "t.dita") good)) ≡ Conflict 1
unfolding document_of is_utf8 chars encode
second_conflict = refl

names_by_bytes : reply (next first 1 (Single (Put (codes "a") good))) 2 Names
    ≡ NameList ((codes "a", 2) ∷ (codes "t.dita", 1) ∷ [])
unfolding document_of is_utf8 chars encode
names_by_bytes = refl

removed : reply (next first 1 (Single (Put (codes "a") good))) 2 (Single (Remove (codes "t.dita"))) ≡ IsRemoved 1
unfolding document_of is_utf8 chars encode
removed = refl

got : reply first 1 (Get (codes "t.dita")) ≡ Bytes good
unfolding document_of is_utf8 chars encode
got = refl

-- Groups of edits

-- a name is stored, and a group removes it and puts another one: it is done whole or not at all
abbrev before : State
before = next [] 0 (Single (Put (codes "a.dita") good))

stopped : reply before 1 (Group (Remove (codes "a.dita") ∷ PutIf 1 (codes "b.dita") good ∷ []))
    ≡ IsStopped 2 (OtherVersion 0)
unfolding document_of is_utf8 chars encode
stopped = refl

stopped_names : reply (next before 1 (Group (Remove (codes "a.dita") ∷ PutIf 1 (codes "b.dita") good ∷ []))) 2 Names
    ≡ NameList ((codes "a.dita", 1) ∷ [])
unfolding document_of is_utf8 chars encode
stopped_names = refl

grouped : reply before 1 (Group (Remove (codes "a.dita") ∷ PutIf 0 (codes "b.dita") good ∷ [])) ≡ IsGrouped 2
unfolding document_of is_utf8 chars encode
grouped = refl

grouped_names : reply (next before 1 (Group (Remove (codes "a.dita") ∷ PutIf 0 (codes "b.dita") good ∷ []))) 2 Names
    ≡ NameList ((codes "b.dita", 2) ∷ [])
unfolding document_of is_utf8 chars encode
grouped_names = refl

-- each edit is tried on what those before it leave: what the first removes, the second does not find; what the first
-- puts has the group's version
tried_in_order : reply before 1 (Group (Remove (codes "a.dita") ∷ Remove (codes "a.dita") ∷ [])) ≡ IsStopped 2 NotStored
unfolding document_of is_utf8 chars encode
tried_in_order = refl

own_version : reply before 1 (Group (Put (codes "b.dita") good ∷ PutIf 2 (codes "b.dita") good ∷ [])) ≡ IsGrouped 2
unfolding document_of is_utf8 chars encode
own_version = refl

-- of several that are refused the first counts
first_counts : reply [] 0 (Group (Put (codes "a.dita") faulty ∷ Remove (codes "b.dita") ∷ []))
    ≡ IsStopped 1 (BodyFault (record { code = fault.CloseMismatch; line = 2 }))
unfolding document_of is_utf8 chars encode
first_counts = refl

-- a group without edits
no_edits : reply before 1 (Group []) ≡ IsGrouped 0
unfolding document_of is_utf8 chars encode
no_edits = refl

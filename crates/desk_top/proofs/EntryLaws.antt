-- An entry of a legal history: its reply says that a build has its place exactly if it is a build, and tells UTF-8.
use Rattle.std.proofs.Common.{◌≡◌, ◌<◌, ◌+◌, ℕ, List, [], Some, length, take, refl, sym, ap, ◌∙◌, subst, arith, is_some}
use Rattle.std.specs.List.{All, slice_get}
use Rattle.std.proofs.lemmas.List.{length-take-le, take_all}
use Rattle.std.proofs.lemmas.List.Elements.{All-take}
use Rattle.dita_doc.specs.Desk.{State, reply}
use Rattle.dita_doc.specs.History.{Entry, IsLegal, replay, sources}
use Rattle.dita_doc.specs.Request.{Request, Single, Get, Names, Build, Group}
use Rattle.run_spec.specs.Answers.{built_by}
use Rattle.run_spec.proofs.ShownLaws.{begun_built}
use Rattle.transcript_text.specs.Written.{IsText, is_begun}
use Rattle.version_store.proofs.HistoryLaws.{legal_at}
use Rattle.desk_top.specs.Runs.{IsUtf8Entry}
use Rattle.desk_top.specs.Served.{is_build}
use Rattle.desk_top.proofs.AnswerLaws.{reply_text}

entry_reply : (log : List Entry) (place : ℕ) (entry : Entry) → IsLegal log → slice_get log place ≡ Some entry
    → entry.reply ≡ reply (sources log place) place entry.request
entry_reply log place entry legal is =
    let same : 0 + place ≡ place = omega arith in
    legal_at [] 0 log place entry legal is ∙ ap (λ n. reply (sources log place) n entry.request) same

built_is : (state : State) (request : Request) → is_some (built_by state request) ≡ is_build request
built_is state (Single edit) = refl
built_is state (Get name) = refl
built_is state Names = refl
built_is state (Build root val) = refl
built_is state (Group edits) = refl

pub entry_begun : (log : List Entry) (place : ℕ) (entry : Entry) → IsLegal log → slice_get log place ≡ Some entry
    → is_begun entry.reply ≡ is_build entry.request
entry_begun log place entry legal is = ap is_begun (entry_reply log place entry legal is)
    ∙ sym (begun_built (sources log place) place entry.request) ∙ built_is (sources log place) entry.request

pub entry_utf8 : (log : List Entry) (place : ℕ) (entry : Entry) → IsLegal log → All IsUtf8Entry log → place < length log
    → slice_get log place ≡ Some entry → IsText entry.reply
entry_utf8 log place entry legal utf8 within is =
    let first = take place log in
    let here = reply_text first entry.request (All-take IsUtf8Entry place log utf8) in
    let whole = subst (λ entries. IsText (reply (replay [] 0 entries) (length first) entry.request)) (take_all (length first) first (omega arith)) here in
    subst IsText (sym (entry_reply log place entry legal is))
    (subst (λ n. IsText (reply (sources log place) n entry.request)) (length-take-le place log (omega (arith, within))) whole)

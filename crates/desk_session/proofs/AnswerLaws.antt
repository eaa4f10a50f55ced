-- Answered requests: what was answered stays answered as the session goes on, and one more stands behind.
use Rattle.std.proofs.Common.{◌≡◌, ◌≤◌, ◌<◌, ◌+◌, ◌++◌, ◌∙◌, ℕ, suc, List, [], ◌∷◌, Some, ap, arith, length, refl, subst, sym}
use Rattle.std.specs.List.{slice_get}
use Rattle.std.proofs.lemmas.List.Elements.{All-weaker}
use Rattle.std.proofs.lemmas.Option.{slice_get_within}
use Rattle.dita_doc.specs.Desk.{State, reply}
use Rattle.dita_doc.specs.History.{Entry, IsLegal, sources}
use Rattle.dita_doc.specs.Request.{Request}
use Rattle.facts.specs.Rows.{RowData}
use Rattle.transcript_text.specs.Transcript.{RowShown}
use Rattle.version_store.proofs.HistoryLaws.{legal_at, sources_prefix}
use Rattle.desk_lock.specs.Lists.{StartsWith}
use Rattle.desk_lock.specs.declared.view.View.{View}
use Rattle.desk_work.proofs.Lists.{stands_starts}
use Rattle.desk_session.proofs.Lists.{at_start}
use Rattle.desk_session.specs.Answers.{AreAnswered, CleanBuild, IsAnswered, SessionAnswer, SessionBasis, ShowsReply, entry_of}
use Rattle.desk_session.specs.Ends.{behind_all}
use Rattle.desk_session.specs.Pass.{IsAmong, basis_of}

-- Longer histories

pub sources_later : (log first : List Entry) (place : ℕ) → StartsWith log first → place ≤ length first
    → sources log place ≡ sources first place
sources_later log first place starts within = ap (λ (list : List Entry). sources list place) starts.1
    ∙ sources_prefix first starts.0 place within

-- the reply of an entry of a legal history
pub entry_reply : (log : List Entry) (place : ℕ) (entry : Entry) → IsLegal log → slice_get log place ≡ Some entry
    → entry.reply ≡ reply (sources log place) place entry.request
entry_reply log place entry legal is =
    let same : 0 + place ≡ place = omega arith in
    legal_at [] 0 log place entry legal is ∙ ap (λ n. reply (sources log place) n entry.request) same

among_later : (rows first : List RowData) (shown : RowShown) → StartsWith rows first → IsAmong first shown
    → IsAmong rows shown
among_later rows first shown starts among = (among.0, stands_starts rows first among.0 starts among.1, among.2)

module _ (clean : CleanBuild) (u v x w : View) (session : x.session ≡ u.session) (seen : StartsWith w.seen v.seen)
    (known : StartsWith w.rows v.rows) where
  entry_later : (number : ℕ) (request : Request) (place : ℕ) → place ≤ length v.seen
      → entry_of (basis_of clean u v) number request place ≡ entry_of (basis_of clean x w) number request place
  entry_later number request place within =
      let state = sources_later w.seen v.seen place seen within in
      λ i. record {
        session = sym session i;
        number = number;
        request = request;
        reply = reply (sym state i) place request;
      }

  -- of the same session, whose pass went on
  pub answered_later : (number : ℕ) (request : Request) (answered : SessionAnswer)
      → IsAnswered (basis_of clean u v) number request answered
      → IsAnswered (basis_of clean x w) number request answered
  answered_later number request answered is =
      let within : answered.place < length v.seen = slice_get_within v.seen answered.place answered.entry is.stands in
      record {
        entry_is = is.entry_is ∙ entry_later number request answered.place (omega (arith, within));
        stands = at_start w.seen v.seen answered.place answered.entry seen is.stands;
        shows = subst (λ (state : State). ShowsReply clean state request answered.entry.reply answered.shown answered.rows)
            (sym (sources_later w.seen v.seen answered.place seen (omega (arith, within)))) is.shows;
        known = All-weaker (IsAmong v.rows) (IsAmong w.rows)
            (λ shown among. among_later w.rows v.rows shown known among) answered.rows is.known;
      }

  pub all_later : (number behind : ℕ) (requests : List Request) (answers : List SessionAnswer)
      → AreAnswered (basis_of clean u v) number behind requests answers
      → AreAnswered (basis_of clean x w) number behind requests answers
  all_later number behind [] [] all = tt
  all_later number behind [] (answered ∷ more) all = all
  all_later number behind (request ∷ requests) [] all = all
  all_later number behind (request ∷ requests) (answered ∷ more) all = (
    answered_later number request answered all.0,
    all.1,
    all_later (number + 1) (answered.place + 1) requests more all.2,
  )

-- One more

module _ (on : SessionBasis) where
  pub answered_push : (number behind last : ℕ) (requests : List Request) (answers : List SessionAnswer) (request : Request)
      (answered : SessionAnswer) → AreAnswered on number behind requests answers → last ≡ number + length answers
      → IsAnswered on last request answered → behind_all behind answers ≤ answered.place
      → AreAnswered on number behind (requests ++ request ∷ []) (answers ++ answered ∷ [])
  answered_push number behind last [] [] request answered all at is above =
      let here : last ≡ number = omega (arith, at) in
      (subst (λ n. IsAnswered on n request answered) here is, above, tt)
  answered_push number behind last [] (first ∷ answers) request answered all at is above = absurd all
  answered_push number behind last (one ∷ requests) [] request answered all at is above = absurd all
  answered_push number behind last (one ∷ requests) (first ∷ answers) request answered all at is above = (
    all.0,
    all.1,
    answered_push (number + 1) (first.place + 1) last requests answers request answered all.2 (omega (arith, at)) is above,
  )

pub behind_push : (behind : ℕ) (answers : List SessionAnswer) (answered : SessionAnswer)
    → behind_all behind (answers ++ answered ∷ []) ≡ answered.place + 1
behind_push behind [] answered = refl
behind_push behind (first ∷ answers) answered = behind_push (first.place + 1) answers answered

-- as many answers as requests
pub as_many : (on : SessionBasis) (number behind : ℕ) (requests : List Request) (answers : List SessionAnswer)
    → AreAnswered on number behind requests answers → length requests ≡ length answers
as_many on number behind [] [] all = refl
as_many on number behind [] (answered ∷ more) all = absurd all
as_many on number behind (request ∷ requests) [] all = absurd all
as_many on number behind (request ∷ requests) (answered ∷ more) all =
    ap suc (as_many on (number + 1) (answered.place + 1) requests more all.2)

-- A session on a new desk, over two messages that cut a put in its body: its one request is answered by one message.
use Rattle.std.specs.Fmt.{digits}
use Rattle.std.specs.Prelude.{◌≡◌, ◌++◌, ℕ, List, [], ◌∷◌, None, Some, All, codes, length}
use Rattle.std.specs.Str.{is_utf8, chars}
use Rattle.std.proofs.Common.{refl, sym, ap, ◌∙◌, subst, arith}
use Rattle.std.proofs.lemmas.List.{append-nil}
use Rattle.std.proofs.lemmas.List.Elements.{All-from_recursion}
use lib.Utf8.{encode}
use Rattle.dita_doc.specs.Bytes.{Bytes}
use Rattle.dita_doc.specs.Desk.{IsStored}
use Rattle.dita_doc.specs.History.{Entry}
use Rattle.dita_doc.specs.Lines.{line}
use Rattle.dita_doc.specs.Pyx.{document_of}
use Rattle.dita_doc.specs.Request.{Put, Request, Single}
use Rattle.dita_outside.specs.Links.{LinkTold, Messages}
use Rattle.script_text.specs.Requests.{RequestsRead, requests_of}
use Rattle.transcript_text.specs.Transcript.{RowShown, StoredAt}
use Rattle.desk_core.specs.declared.limits.Limits.{Limits}
use Rattle.desk_lock.specs.Knows.{arrived, first_view, made, session_parts}
use Rattle.desk_lock.specs.declared.view.View.{View}
use Rattle.desk_session.specs.Answers.{SessionAnswer, AreAnswered, CleanBuild, IsAnswered, SessionBasis, all_messages}
use Rattle.desk_session.specs.Ends.{EndsClosed, read_of}
use Rattle.desk_session.specs.Pass.{IsAmong, ServesPass, basis_of}
use Rattle.desk_session.specs.declared.end.SessionEnd.TheVariants.{Closed}

-- What comes

abbrev pub name : Bytes
name = codes "t.dita"

abbrev pub body : Bytes
body = line (codes "(p") ++ line (codes ")p")

-- the put is cut behind the first line of its body
abbrev pub messages : Messages
messages = (line (codes "put t.dita") ++ line (codes "(p")) ∷ (line (codes ")p") ++ line (codes ".")) ∷ []

abbrev pub put : Request
put = Single (Put name body)

pub its_requests : read_of messages ≡ record { requests = put ∷ []; fault = None }
unfolding requests_of is_utf8 chars encode
its_requests = refl

-- What is answered

abbrev pub entry : Entry
entry = record { session = 1; number = 1; request = put; reply = IsStored 1 }

abbrev pub answer : SessionAnswer
answer = record { place = 0; entry = entry; shown = StoredAt 1; rows = [] }

abbrev pub told : Messages
told = line (codes "entry 0 1 1 stored 1") ∷ []

pub its_message : all_messages (answer ∷ []) ≡ told
unfolding digits
its_message = refl

-- the link before, and once these messages were sent on it
abbrev pub link_old : LinkTold
link_old = record { left = Some messages; sent = Some []; faults = 0 }

abbrev pub link_new : Messages → LinkTold
link_new sent = record { left = Some []; sent = Some sent; faults = 0 }

-- a pass of session 1 on a new desk, and what it knows once its put has its place
abbrev pub pass_old : Limits → View
pass_old limits = arrived (first_view limits) 1 session_parts

abbrev pub pass_new : Limits → View
pass_new limits = made (pass_old limits) (entry ∷ []) 0

-- what a session 1 is over whose put is the one entry of the history
abbrev pub basis : CleanBuild → (RowShown → Type 0) → SessionBasis
basis clean IsKnown = record { clean = clean; history = entry ∷ []; IsKnown = IsKnown; session = 1; behind = 0 }

pub is_answered : (clean : CleanBuild) (IsKnown : RowShown → Type 0) → IsAnswered (basis clean IsKnown) 1 put answer
unfolding document_of is_utf8 chars encode
is_answered clean IsKnown = record {
  entry_is = refl;
  stands = refl;
  shows = (refl, refl);
  known = All-from_recursion IsKnown [] tt;
}

its_session : (clean : CleanBuild) (limits : Limits)
    → ServesPass clean (pass_old limits) (pass_new limits) link_old (link_new told) Closed
its_session clean limits = record {
  places = 0 ∷ [];
  ends = record {
    received = messages;
    answers = answer ∷ [];
    serves = record {
      requests = put ∷ [];
      read = ap (λ (read : RequestsRead). read.requests) its_requests;
      answered = (is_answered clean (IsAmong []), omega arith, tt);
      got = refl;
      sent = sym its_message;
    };
    made = refl;
    sound = ap (λ (read : RequestsRead). read.fault) its_requests;
    at_end = refl;
    sure = refl;
  };
  mine = refl;
  seen = (entry ∷ [], refl);
  known = ([], refl);
  session = refl;
  theirs = refl;
  parts = refl;
  limits = refl;
}

-- No other message list will do

-- one put is answered by one message
one_message : (on : SessionBasis) (number behind : ℕ) (answers : List SessionAnswer)
    → AreAnswered on number behind (put ∷ []) answers → length (all_messages answers) ≡ 1
one_message on number behind [] none = absurd none
one_message on number behind (answered ∷ []) is =
    subst (λ (rows : List RowShown). length (all_messages (record answered { rows = rows } ∷ [])) ≡ 1)
    (sym is.0.shows.1) refl
one_message on number behind (answered ∷ other ∷ more) is = absurd is.2

-- all that was to come was received, if the link has nothing left
all_received : (received : Messages) → messages ≡ received ++ [] → received ≡ messages
all_received received is = sym (is ∙ append-nil received)

-- the requests that were read are all that were answered
all_answered : (requests : List Request) → put ∷ [] ≡ requests ++ [] → requests ≡ put ∷ []
all_answered requests is = sym (is ∙ append-nil requests)

-- so many messages were sent as one
pub sends_one : (clean : CleanBuild) (v w : View) (sent : Messages)
    → ServesPass clean v w link_old (link_new sent) Closed → length sent ≡ 1
sends_one clean v w sent serves =
    let ends : EndsClosed (basis_of clean v w) link_old (link_new sent) serves.places = serves.ends in
    let received : ends.received ≡ messages = all_received ends.received ends.serves.got in
    let read : (read_of ends.received).requests ≡ put ∷ [] =
    ap (λ (some : Messages). (read_of some).requests) received
    ∙ ap (λ (read : RequestsRead). read.requests) its_requests in
    let requests : ends.serves.requests ≡ put ∷ [] =
    all_answered ends.serves.requests (sym read ∙ ends.serves.read) in
    let answered : AreAnswered (basis_of clean v w) 1 (length v.seen) (put ∷ []) ends.answers =
    subst (λ (some : List Request). AreAnswered (basis_of clean v w) 1 (length v.seen) some ends.answers) requests
    ends.serves.answered in
    ap length (ends.serves.sent ∙ append-nil (all_messages ends.answers))
    ∙ one_message (basis_of clean v w) 1 (length v.seen) ends.answers answered

-- a reply that is sent twice
not_twice : (clean : CleanBuild) (v w : View)
    → ServesPass clean v w link_old (link_new (told ++ told)) Closed → ⊥
not_twice clean v w serves = absurd (omega (arith, sends_one clean v w (told ++ told) serves))

-- a session that ends unserved
not_unserved : (clean : CleanBuild) (v w : View)
    → ServesPass clean v w link_old (link_new []) Closed → ⊥
not_unserved clean v w serves = absurd (omega (arith, sends_one clean v w [] serves))

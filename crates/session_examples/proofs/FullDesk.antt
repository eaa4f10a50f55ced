-- A session on a desk whose history has room for one entry. Two requests come in one message: the first is answered,
-- and then the session says how much there is.
use Rattle.std.specs.Fmt.{digits}
use Rattle.std.specs.Prelude.{◌≡◌, ◌≤◌, ◌++◌, [], ◌∷◌, None, Some, codes, length}
use Rattle.std.specs.Str.{is_utf8, chars}
use Rattle.std.proofs.Common.{refl, sym, ap, inl, arith}
use Rattle.std.proofs.lemmas.List.Elements.{All-from_recursion}
use lib.Utf8.{encode}
use Rattle.dita_doc.specs.Desk.{Absent}
use Rattle.dita_doc.specs.History.{Entry}
use Rattle.dita_doc.specs.Lines.{line}
use Rattle.dita_doc.specs.Request.{Remove, Request, Single}
use Rattle.dita_outside.specs.Links.{LinkTold, Messages}
use Rattle.script_text.specs.Requests.{RequestsRead, requests_of}
use Rattle.transcript_text.specs.Transcript.{IsAbsent, Refuses}
use Rattle.version_store.specs.declared.full.Full as full_declared
use Rattle.desk_core.specs.declared.limits.Limits.{Limits}
use Rattle.desk_lock.specs.Knows.{arrived, first_view, made, session_parts}
use Rattle.desk_lock.specs.declared.view.View.{View}
use Rattle.desk_session.specs.Answers.{CleanBuild, SessionAnswer, all_messages}
use Rattle.desk_session.specs.Ends.{full_message, read_of}
use Rattle.desk_session.specs.Pass.{ServesPass, basis_of}
use Rattle.desk_session.specs.declared.end.SessionEnd.TheVariants.{Full}

abbrev messages : Messages
messages = (line (codes "remove a") ++ line (codes "remove a")) ∷ []

abbrev remove : Request
remove = Single (Remove (codes "a"))

its_requests : read_of messages ≡ record { requests = remove ∷ remove ∷ []; fault = None }
unfolding requests_of is_utf8 chars encode
its_requests = refl

nothing_read : read_of [] ≡ record { requests = []; fault = None }
unfolding requests_of
nothing_read = refl

nothing_waits : length (read_of []).requests ≤ 1
nothing_waits = omega (arith, ap (λ (read : RequestsRead). length read.requests) nothing_read)

abbrev limits : Limits
limits = record { entries = 1; text_bytes = 67108864; table_bytes = 1073741824 }

abbrev entry : Entry
entry = record { session = 1; number = 1; request = remove; reply = Absent }

abbrev answer : SessionAnswer
answer = record { place = 0; entry = entry; shown = Refuses IsAbsent; rows = [] }

-- one entry, whose text is one byte
abbrev full : full_declared.Full
full = record { entries = 1; bytes = 1 }

abbrev told : Messages
told = line (codes "entry 0 1 1 absent") ∷ line (codes "full 1 1") ∷ []

its_messages : all_messages (answer ∷ []) ++ full_message full ∷ [] ≡ told
unfolding digits
its_messages = refl

abbrev link_old : LinkTold
link_old = record { left = Some messages; sent = Some []; faults = 0 }

abbrev link_new : LinkTold
link_new = record { left = Some []; sent = Some told; faults = 0 }

abbrev pass_old : View
pass_old = arrived (first_view limits) 1 session_parts

abbrev pass_new : View
pass_new = made pass_old (entry ∷ []) 0

its_session : (clean : CleanBuild) → ServesPass clean pass_old pass_new link_old link_new (Full full)
its_session clean = record {
  places = 0 ∷ [];
  ends = record {
    before = [];
    message = line (codes "remove a") ++ line (codes "remove a");
    answers = answer ∷ [];
    next = remove;
    others = [];
    serves = record {
      requests = remove ∷ [];
      read = ap (λ (read : RequestsRead). read.requests) its_requests;
      answered = (
        record {
          entry_is = refl;
          stands = refl;
          shows = (refl, refl);
          known = All-from_recursion (basis_of clean pass_old pass_new).IsKnown [] tt;
        },
        omega arith,
        tt,
      );
      got = refl;
      sent = sym its_messages;
    };
    made = refl;
    waited = nothing_waits;
    passed = record { entries = refl; bytes = refl; passed = inl (omega arith) };
    sure = refl;
  };
  mine = refl;
  seen = (entry ∷ [], refl);
  known = ([], refl);
  session = refl;
  theirs = refl;
  parts = refl;
  limits = refl;
}

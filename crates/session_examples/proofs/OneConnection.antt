-- The mode `serve` with one connection, on which a put comes in two messages: it is served as session 1, the connection
-- is handed back, and the sink takes the line that counts them.
use Rattle.std.specs.Fmt.{digits}
use Rattle.std.specs.Prelude.{◌≡◌, ◌≢◌, ◌≤◌, [], ◌∷◌, Some, All, Contains, codes}
use Rattle.std.specs.Str.{is_utf8, chars}
use Rattle.std.proofs.Common.{refl, sym, ap, arith}
use Rattle.std.proofs.lemmas.List.Elements.{All-from_recursion}
use lib.Utf8.{encode}
use Rattle.dita_doc.specs.Bytes.{Bytes}
use Rattle.dita_doc.specs.History.{Entry, IsLegal}
use Rattle.dita_doc.specs.Lines.{line}
use Rattle.dita_doc.specs.Pyx.{document_of}
use Rattle.run_spec.specs.EndsServe.{EndsServe, Ports, ServesAll, served_line}
use Rattle.run_spec.specs.declared.status.Status.TheVariants as statuses
use Rattle.script_text.specs.Requests.{RequestsRead}
use Rattle.desk_session.specs.Answers.{CleanBuild}
use Rattle.desk_session.specs.Serving.{ServesDesk, breaks, serves}
use Rattle.desk_session.specs.declared.end.SessionEnd.TheVariants.{Closed, NoMemory}
use Rattle.session_examples.proofs.OnePut.{answer, entry, is_answered, its_message, its_requests, link_new, link_old, messages, put, told}

its_session : (clean : CleanBuild) → ServesDesk clean (entry ∷ []) [] 1 link_old (link_new told) Closed
its_session clean = record {
  seen = entry ∷ [];
  begins = ([], refl);
  ends = record {
    received = messages;
    answers = answer ∷ [];
    serves = record {
      requests = put ∷ [];
      read = ap (λ (read : RequestsRead). read.requests) its_requests;
      answered = (is_answered clean (Contains []), omega arith, tt);
      got = refl;
      sent = sym its_message;
    };
    made = refl;
    sound = ap (λ (read : RequestsRead). read.fault) its_requests;
    at_end = refl;
    sure = refl;
  };
}

is_no_loss : Closed ≢ NoMemory
is_no_loss is = cc is

its_history : IsLegal (entry ∷ [])
unfolding document_of is_utf8 chars encode
its_history = (refl, tt)

-- before, and once the line is written

abbrev ports_old : Ports
ports_old = record {
  sink = record { taken = Some []; faults = 0 };
  door = record { accepted = Some []; returned = Some []; faults = 0 };
}

abbrev written : Bytes
written = line (codes "served 1 1")

abbrev ports_new : Ports
ports_new = record {
  sink = record { taken = Some written; faults = 0 };
  door = record { accepted = Some (link_old ∷ []); returned = Some (link_new told ∷ []); faults = 0 };
}

all : (clean : CleanBuild) → ServesAll (serves clean) 1 ports_old.door ports_new.door
all clean = record {
  these = record {
    came = link_old ∷ [];
    went = link_new told ∷ [];
    accepted = refl;
    returned = refl;
    history = entry ∷ [];
    rows = [];
    legal = its_history;
    sessions = All-from_recursion (λ (entry : Entry). (1 ≤ entry.session) × (entry.session ≤ 1)) (entry ∷ [])
        ((omega arith, omega arith), tt);
    different = λ i j d before within. absurd (omega arith);
    served = ((Closed, its_session clean, is_no_loss), tt);
  };
  all = refl;
  sure = refl;
}

its_line : served_line 1 (entry ∷ []) ≡ written
unfolding digits
its_line = refl

its_end : (clean : CleanBuild) → EndsServe (serves clean) (breaks clean) 1 ports_old ports_new statuses.Done
unfolding all
its_end clean = (all clean, sym its_line, refl)

-- A session whose first line is no command: the one message tells the fault, and no request has an entry.
use Rattle.std.specs.Fmt.{digits}
use Rattle.std.specs.Prelude.{◌≡◌, [], ◌∷◌, None, Some, codes}
use Rattle.std.specs.Str.{is_utf8, chars}
use Rattle.std.proofs.Common.{refl, sym, ap, ◌∙◌}
use Rattle.std.proofs.lemmas.List.{append-nil}
use Rattle.std.proofs.lemmas.Option.{none-some}
use lib.Utf8.{encode}
use Rattle.dita_doc.specs.Lines.{line}
use Rattle.dita_outside.specs.Links.{LinkTold, Messages}
use Rattle.script_text.specs.Faults.{rejection_line}
use Rattle.script_text.specs.Requests.{RequestsRead, requests_of}
use Rattle.script_text.specs.declared.fault.ScriptCode.TheVariants as faults
use Rattle.script_text.specs.declared.fault.ScriptFault.{ScriptFault}
use Rattle.desk_core.specs.declared.limits.Limits.{Limits}
use Rattle.desk_lock.specs.Knows.{arrived, first_view, session_parts}
use Rattle.desk_lock.specs.declared.view.View.{View}
use Rattle.desk_session.specs.Answers.{CleanBuild}
use Rattle.desk_session.specs.Ends.{EndsClosed, read_of}
use Rattle.desk_session.specs.Pass.{ServesPass, basis_of}
use Rattle.desk_session.specs.declared.end.SessionEnd.TheVariants.{Closed, Script}

abbrev messages : Messages
messages = line (codes "fly") ∷ []

abbrev fault : ScriptFault
fault = record { code = faults.BadCommand; line = 1 }

its_reading : read_of messages ≡ record { requests = []; fault = Some fault }
unfolding requests_of is_utf8 chars encode
its_reading = refl

nothing_read : read_of [] ≡ record { requests = []; fault = None }
unfolding requests_of
nothing_read = refl

abbrev told : Messages
told = line (codes "script BadCommand 1") ∷ []

its_message : rejection_line fault ∷ [] ≡ told
unfolding digits
its_message = refl

abbrev link_old : LinkTold
link_old = record { left = Some messages; sent = Some []; faults = 0 }

abbrev link_new : LinkTold
link_new = record { left = Some []; sent = Some told; faults = 0 }

abbrev pass : Limits → View
pass limits = arrived (first_view limits) 1 session_parts

its_session : (clean : CleanBuild) (limits : Limits)
    → ServesPass clean (pass limits) (pass limits) link_old link_new (Script fault)
its_session clean limits = record {
  places = [];
  ends = record {
    before = [];
    message = line (codes "fly");
    answers = [];
    serves = record {
      requests = [];
      read = ap (λ (read : RequestsRead). read.requests) its_reading;
      answered = tt;
      got = refl;
      sent = sym its_message;
    };
    made = refl;
    sound = ap (λ (read : RequestsRead). read.fault) nothing_read;
    told = ap (λ (read : RequestsRead). read.fault) its_reading;
    sure = refl;
  };
  mine = refl;
  seen = ([], refl);
  known = ([], refl);
  session = refl;
  theirs = refl;
  parts = refl;
  limits = refl;
}

-- The link did not merely give its end: a line is faulty

not_closed : (clean : CleanBuild) (v w : View) → ServesPass clean v w link_old link_new Closed → ⊥
not_closed clean v w serves =
    let ends : EndsClosed (basis_of clean v w) link_old link_new serves.places = serves.ends in
    let received : ends.received ≡ messages = sym (ends.serves.got ∙ append-nil ends.received) in
    let sound : (read_of messages).fault ≡ None =
    ap (λ (some : Messages). (read_of some).fault) (sym received) ∙ ends.sound in
    none-some fault (sym sound ∙ ap (λ (read : RequestsRead). read.fault) its_reading)

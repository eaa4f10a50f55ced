-- The lines of a text, where none is faulty, keep what is known of the events.
use Rattle.std.specs.Prelude.{◌≡◌, ◌+◌, ◌==◌, ℕ, Bool, true, false, List, [], ◌∷◌, Option, Some, None, Result, Ok, Err, drop, bytes_eq, length, if◌then◌else◌}
use Rattle.std.proofs.Common.{refl, sym, ◌∙◌, ap, subst, inl, inr}
use Rattle.std.proofs.lemmas.Slice.Eq.{bytes_eq-Decides}
use Rattle.dita_doc.specs.declared.fault.PyxCode.{PyxCode}
use Rattle.dita_doc.specs.declared.fault.PyxFault.{PyxFault}
use Rattle.dita_doc.specs.declared.fault.PyxCode.TheVariants as codes
use Rattle.dita_doc.specs.PyxLine.{Line, Opens, Gives, Says, Closes, Passes, Breaks}
use Rattle.dita_doc.specs.PyxEvent.{Event, Open, Give, Text, Close, add_text, open_names, has_root, given_names, is_outside, fault_of, fault_of_open, fault_of_give, fault_of_close, after}
use Rattle.dita_doc.specs.Pyx.{is_none_open, goes_on, reads}
use Rattle.pyx_text.proofs.PyxKeeps.{IsFresh, EndsInText, IsSome, IsInside, some_open, root_inside, inside_add_text, text_added, open_names_add_text}

-- the root has been closed
pub record IsClosed (events : List Event) : Type 0 where
  pub name : List ℕ
  pub before : List Event
  pub all : events ≡ Close name ∷ before
  pub text : EndsInText before
  pub last : open_names before ≡ name ∷ []
  pub inside : IsInside before

-- the root has not been opened, is open, or has been closed
pub data IsKept (events : List Event) : Type 0 where
  Before : events ≡ [] → IsKept events
  Within : IsInside events → IsKept events
  Behind : IsClosed events → IsKept events

-- no element is open then
no_names_closed : (events : List Event) → IsClosed events → open_names events ≡ []
no_names_closed events closed = ap open_names closed.all ∙ ap (drop 1) closed.last

-- and the root is there
root_closed : (events : List Event) → IsClosed events → has_root events ≡ true
root_closed events closed = ap has_root closed.all ∙ root_inside closed.before closed.inside

-- an element is opened
kept_open : (number : ℕ) (name : List ℕ) (before : List Event) → IsKept before
    → fault_of_open (has_root before) (open_names before) ≡ None → IsKept (Open name number ∷ add_text [] before)
kept_open number name before (Before e) sound =
    let P : List Event → Type 0 = λ events. IsKept (Open name number ∷ add_text [] events) in
    subst P (sym e) (Within (tt, inl refl))
kept_open number name before (Within inside) sound =
    Within (text_added [] before, inr (inside_add_text [] before inside))
kept_open number name before (Behind closed) sound =
    absurd (let h = rw (root_closed before closed, no_names_closed before closed) at sound in cc)

-- an attribute is not faulty only where one may stand
fresh_given : (name : List ℕ) (before : List Event) → fault_of_give name (given_names before) ≡ None → IsFresh before
fresh_given name [] sound = absurd cc
fresh_given name (Open given line ∷ before) sound = tt
fresh_given name (Give given value ∷ before) sound = tt
fresh_given name (Text text ∷ before) sound = absurd cc
fresh_given name (Close given ∷ before) sound = absurd cc

-- an attribute is given
kept_give : (name value : List ℕ) (before : List Event) → IsKept before → IsFresh before
    → IsKept (Give name value ∷ before)
kept_give name value before (Before e) fresh = absurd (subst IsFresh e fresh)
kept_give name value before (Within inside) fresh = Within (fresh, inside)
kept_give name value before (Behind closed) fresh = absurd (subst IsFresh closed.all fresh)

-- a text is said, or passed over
kept_text : (text : List ℕ) (before : List Event) (outside : Bool) → is_outside before ≡ outside → IsKept before
    → IsKept (if outside then before else add_text text before)
kept_text text before true e kept = kept
kept_text text before false e (Before none) = absurd (let h = rw none at e in cc)
kept_text text before false e (Within inside) = Within (inside_add_text text before inside)
kept_text text before false e (Behind closed) =
    absurd (let h = ap (λ (names : List (List ℕ)). length names == 0) (no_names_closed before closed) in cc)

-- the names that were compared are the same
same_name : (name innermost : List ℕ) (same : Bool) → bytes_eq name innermost ≡ same
    → (if same then None else Some codes.CloseMismatch) ≡ None → innermost ≡ name
same_name name innermost true e sound = sym ((bytes_eq-Decides name innermost).0 e)
same_name name innermost false e sound = absurd cc

-- a close that is not faulty has the name of the innermost element
closed_by : (name innermost : List ℕ) (names : List (List ℕ)) → fault_of_close name (innermost ∷ names) ≡ None
    → innermost ≡ name
closed_by name innermost names sound = same_name name innermost (bytes_eq name innermost) refl sound

-- an element is closed, by what was open
kept_close : (name : List ℕ) (names : List (List ℕ)) (before : List Event) → IsInside before → EndsInText before
    → open_names before ≡ names → fault_of_close name names ≡ None → IsKept (Close name ∷ before)
kept_close name [] before inside text e sound = absurd cc
kept_close name (innermost ∷ []) before inside text e sound =
    Behind (record {
      name = name;
      before = before;
      all = refl;
      text = text;
      last = e
          ∙ ap (λ (n : List ℕ). n ∷ []) (closed_by name innermost [] sound);
      inside = inside;
    })
kept_close name (innermost ∷ second ∷ names) before inside text e sound =
    let same = closed_by name innermost (second ∷ names) sound in
    let rest : drop 1 (open_names before) ≡ second ∷ names = ap (drop 1) e in
    Within (text, rw (rest, e, same) refl, rw rest tt, inside)

-- the same, behind the text that ends its content
kept_after_close : (name : List ℕ) (before : List Event) → IsKept before
    → fault_of_close name (open_names before) ≡ None → IsKept (Close name ∷ add_text [] before)
kept_after_close name before (Before e) sound = absurd (let h = rw e at sound in cc)
kept_after_close name before (Within inside) sound =
    kept_close name (open_names before) (add_text [] before) (inside_add_text [] before inside) (text_added [] before)
    (open_names_add_text [] before) sound
kept_after_close name before (Behind closed) sound = absurd (let h = rw (no_names_closed before closed) at sound in cc)

-- a line that is not faulty
pub kept_after : (number : ℕ) (before : List Event) (line : Line) → IsKept before → fault_of before line ≡ None
    → IsKept (after number before line)
kept_after number before (Opens name) kept sound = kept_open number name before kept sound
kept_after number before (Gives name value) kept sound =
    kept_give name value before kept (fresh_given name before sound)
kept_after number before (Says text) kept sound = kept_text text before (is_outside before) refl kept
kept_after number before (Closes name) kept sound = kept_after_close name before kept sound
kept_after number before Passes kept sound = kept
kept_after number before (Breaks code) kept sound = absurd cc

-- what a reading without a fault ends with
pub record IsRead (events : List Event) : Type 0 where
  pub kept : IsKept events
  pub closed : is_none_open (open_names events) ≡ true
  pub rooted : has_root events ≡ true

-- the last judgement, by its two tests
abbrev pub ends_by : Bool → Bool → ℕ → List Event → Result (List Event) PyxFault
ends_by closed rooted number events =
    if closed
    then (if rooted then Ok events else Err (record { code = codes.NoRoot; line = number }))
    else Err (record { code = codes.Unclosed; line = number })

-- no fault at the end
read_at_end : (number : ℕ) (before events : List Event) (closed rooted : Bool)
    → is_none_open (open_names before) ≡ closed → has_root before ≡ rooted → IsKept before
    → ends_by closed rooted number before ≡ Ok events → IsRead events
read_at_end number before events true true c r kept e =
    let same : before ≡ events = cc in
    subst IsRead same (record { kept = kept; closed = c; rooted = r })
read_at_end number before events true false c r kept e = absurd cc
read_at_end number before events false rooted c r kept e = absurd cc

-- a line that is read on from is not faulty
pub goes_on_ok : (fault : Option PyxCode) (number : ℕ) (rest : Result (List Event) PyxFault) (events : List Event)
    → goes_on fault number rest ≡ Ok events → (fault ≡ None) × (rest ≡ Ok events)
goes_on_ok None number rest events e = (refl, e)
goes_on_ok (Some code) number rest events e = absurd cc

-- lines that are read without a fault
pub read_kept : (lines : List Line) (number : ℕ) (before events : List Event) → IsKept before
    → reads number before lines ≡ Ok events → IsRead events
read_kept [] number before events kept e = read_at_end number before events _ _ refl refl kept e
read_kept (line ∷ lines) number before events kept e =
    let sound = goes_on_ok (fault_of before line) (number + 1)
    (reads (number + 1) (after (number + 1) before line) lines) events e in
    read_kept lines (number + 1) (after (number + 1) before line) events
    (kept_after (number + 1) before line kept sound.0) sound.1

-- a name is open, or none
none_open : (names : List (List ℕ)) → IsSome names → is_none_open names ≡ true → ⊥
none_open [] some e = some
none_open (name ∷ names) some e = cc

-- at the end the root has been closed
pub closed_read : (events : List Event) → IsRead events → IsClosed events
closed_read events read = elim read.kept [
  | Before e ↦ absurd (let h = rw e at read.rooted in cc)
  | Within inside ↦ absurd (none_open (open_names events) (some_open events inside) read.closed)
  | Behind closed ↦ closed
]

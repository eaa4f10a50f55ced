-- What is received and sent on a link, one step after another.
use Rattle.std.proofs.Common.{◌≡◌, ◌++◌, ◌∙◌, List, [], ◌∷◌, Option, Some, None, Result, Ok, Err, ap, append-nil, append_assoc, arith, drop, refl, subst, sym}
use Rattle.dita_doc.specs.Bytes.{Bytes}
use Rattle.dita_outside.specs.Links.{HasFewer, HasMore, LinkTold, Messages}
use Rattle.desk_session.specs.Saying.{IsLinkEnd, Says, SaysAll, SaysFront}
use Rattle.desk_session.specs.declared.end.SessionEnd.{SessionEnd}

module _ {X : Type 0} where
  pub more_none : (old : Option (List X)) → HasMore old old []
  more_none None = tt
  more_none (Some items) = sym (append-nil items)

  pub more_then : (a b c : Option (List X)) (first more : List X) → HasMore a b first → HasMore b c more
      → HasMore a c (first ++ more)
  more_then None b c first more one two = tt
  more_then (Some a) None c first more one two = absurd one
  more_then (Some a) (Some b) None first more one two = absurd two
  more_then (Some a) (Some b) (Some c) first more one two =
      two ∙ ap (λ list. list ++ more) one ∙ append_assoc a first more

  pub fewer_none : (old : Option (List X)) → HasFewer old old []
  fewer_none None = tt
  fewer_none (Some items) = refl

  pub fewer_then : (a b c : Option (List X)) (first more : List X) → HasFewer a b first → HasFewer b c more
      → HasFewer a c (first ++ more)
  fewer_then None b c first more one two = tt
  fewer_then (Some a) None c first more one two = absurd one
  fewer_then (Some a) (Some b) None first more one two = absurd two
  fewer_then (Some a) (Some b) (Some c) first more one two =
      one ∙ ap (λ list. first ++ list) two ∙ sym (append_assoc first more c)

-- Messages that are sent

pub says_none : (told : LinkTold) → Says told told []
says_none told =
    record { left = fewer_none told.left; sent = more_none told.sent; later = omega arith }

pub says_then : (a b c : LinkTold) (first more : Messages) → Says a b first → Says b c more → Says a c (first ++ more)
says_then a b c first more one two = record {
  left = fewer_then a.left b.left c.left [] [] one.left two.left;
  sent = more_then a.sent b.sent c.sent first more one.sent two.sent;
  later = omega (arith, one.later, two.later);
}

pub all_none : (told : LinkTold) (done : Unit {0}) → SaysAll told told (Ok done) []
all_none told done = (says_none told, refl)

-- behind messages that were sent
pub all_then : (a b c : LinkTold) (result : Result (Unit {0}) SessionEnd) (first more : Messages) → Says a b first
    → b.faults ≡ a.faults → SaysAll b c result more → SaysAll a c result (first ++ more)
all_then a b c (Ok done) first more one sure two = (says_then a b c first more one two.0, two.1 ∙ sure)
all_then a b c (Err ended) first more one sure two = record {
  front = first ++ two.front;
  next = two.next;
  back = two.back;
  all = ap (λ list. first ++ list) two.all ∙ sym (append_assoc first two.front (two.next ∷ two.back));
  says = says_then a b c first two.front one two.says;
  why = subst (λ n. IsLinkEnd ended n c.faults) sure two.why;
}

-- one was not sent, nor any behind
pub front_longer : (old new : LinkTold) (ended : SessionEnd) (messages more : Messages) → SaysFront old new ended messages
    → SaysFront old new ended (messages ++ more)
front_longer old new ended messages more front = record {
  front = front.front;
  next = front.next;
  back = front.back ++ more;
  all = ap (λ list. list ++ more) front.all ∙ append_assoc front.front (front.next ∷ front.back) more;
  says = front.says;
  why = front.why;
}

-- of one message none was sent
pub front_of_one : (front : Messages) (message next : Bytes) (back : Messages) → message ∷ [] ≡ front ++ next ∷ back
    → front ≡ []
front_of_one [] message next back same = refl
front_of_one (first ∷ []) message next back same =
    let rest : [] ≡ next ∷ back = ap (drop 1) same in absurd cc
front_of_one (first ∷ other ∷ front) message next back same =
    let rest : [] ≡ other ∷ (front ++ next ∷ back) = ap (drop 1) same in absurd cc

-- out of memory before the first
pub said_none : (told : LinkTold) (message : Bytes) (more : Messages) (ended : SessionEnd)
    → IsLinkEnd ended told.faults told.faults → SaysFront told told ended (message ∷ more)
said_none told message more ended why =
    record { front = []; next = message; back = more; all = refl; says = says_none told; why = why }

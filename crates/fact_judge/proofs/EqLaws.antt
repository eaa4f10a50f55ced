-- What `==` says of nodes, and of the answers to questions: that it decides `≡`.
use Rattle.std.proofs.Common.{◌≡◌, ℕ, ◌==◌, List, Bool, Option, Some, None, refl, ap}
use Rattle.std.specs.Bool.{Decides}
use Rattle.std.specs.Cmp.Lexicographic.{pointwise}
use Rattle.std.specs.Option.{option_eq}
use Rattle.std.proofs.lemmas.Bool.Decides.{Decides-and, Decides-eqb, Decides-like}
use Rattle.std.proofs.lemmas.Slice.Eq.{bytes_eq-Decides, slice_eq-Decides}
use denote.Enum.Bare.{same_true, true_same}
use Rattle.dita_doc.specs.contracts.content.KeyAnswerPartialEq.TheImpl as answer_eq
use Rattle.dita_doc.specs.contracts.content.PushKind.{the_type as push_kinds}
use Rattle.dita_doc.specs.contracts.content.PushKindPartialEq.TheImpl as push_kind_eq
use Rattle.dita_doc.specs.contracts.content.PushPartialEq.TheImpl as push_eq
use Rattle.dita_doc.specs.contracts.doc.AttributePartialEq.TheImpl as attribute_eq
use Rattle.dita_doc.specs.contracts.doc.NodeKind.{the_type as node_kinds}
use Rattle.dita_doc.specs.contracts.doc.NodeKindPartialEq.TheImpl as node_kind_eq
use Rattle.dita_doc.specs.contracts.doc.NodePartialEq.TheImpl as node_eq
use Rattle.dita_doc.specs.contracts.fault.FaultCode.{the_type as fault_codes}
use Rattle.dita_doc.specs.contracts.fault.FaultCodePartialEq.TheImpl as fault_code_eq
use Rattle.dita_doc.specs.contracts.fault.FaultPartialEq.TheImpl as fault_eq
use Rattle.dita_doc.specs.contracts.plan.ReferencePartialEq.TheImpl as reference_eq
use Rattle.dita_doc.specs.contracts.plan.TargetPartialEq.TheImpl as target_eq
use Rattle.dita_doc.specs.contracts.question.DocKind.{the_type as doc_kinds}
use Rattle.dita_doc.specs.contracts.question.DocKindPartialEq.TheImpl as doc_kind_eq
use Rattle.dita_doc.specs.declared.content.KeyAnswer.{KeyAnswer}
use Rattle.dita_doc.specs.declared.content.Push.{Push}
use Rattle.dita_doc.specs.declared.content.PushKind.{PushKind}
use Rattle.dita_doc.specs.declared.doc.Attribute.{Attribute}
use Rattle.dita_doc.specs.declared.doc.Node.{Node}
use Rattle.dita_doc.specs.declared.doc.NodeKind.{NodeKind}
use Rattle.dita_doc.specs.declared.fault.Fault.{Fault}
use Rattle.dita_doc.specs.declared.fault.FaultCode.{FaultCode}
use Rattle.dita_doc.specs.declared.plan.Reference.{Reference}
use Rattle.dita_doc.specs.declared.plan.Target.{Target}
use Rattle.dita_doc.specs.declared.plan.Target.TheVariants as targets
use Rattle.dita_doc.specs.declared.question.DocKind.{DocKind}

-- Lists and options

lists_decide : {X : Type 0} {eq : X → X → Bool} → ((a b : X) → Decides (eq a b) (a ≡ b)) → (xs ys : List X)
    → Decides (pointwise eq xs ys) (xs ≡ ys)
lists_decide each xs ys = slice_eq-Decides each xs ys _ refl

some_same : {X : Type 0} (a b : X) → Some a ≡ Some b → a ≡ b
some_same a b same = cc

pub places_decide : (a b : Option ℕ) → Decides (option_eq (λ x y. x == y) a b) (a ≡ b)
places_decide None None = (λ _. refl, λ _. refl)
places_decide None (Some b) = (λ e. cc, λ e. cc)
places_decide (Some a) None = (λ e. cc, λ e. cc)
places_decide (Some a) (Some b) = Decides-like (a == b) (ap Some) (some_same a b) (Decides-eqb a b)

-- Kinds of documents

pub doc_kind_decides : (a b : DocKind) → Decides (doc_kind_eq.eq-value.it a b) (a ≡ b)
doc_kind_decides a b = (same_true doc_kinds tt a b, true_same doc_kinds a b)

-- Nodes

node_kind_decides : (a b : NodeKind) → Decides (node_kind_eq.eq-value.it a b) (a ≡ b)
node_kind_decides a b = (same_true node_kinds tt a b, true_same node_kinds a b)

attribute_decides : (a b : Attribute) → Decides (attribute_eq.eq-value.it a b) (a ≡ b)
attribute_decides a b = Decides-like (attribute_eq.eq-value.it a b)
    (λ (p : (a.name ≡ b.name) × (a.value ≡ b.value)). λ i. record { name = p.0 i; value = p.1 i })
    (λ e. (ap (λ (x : Attribute). x.name) e, ap (λ (x : Attribute). x.value) e))
    (Decides-and _ _ (bytes_eq-Decides a.name b.name) (bytes_eq-Decides a.value b.value))

node_decides : (a b : Node) → Decides (node_eq.eq-value.it a b) (a ≡ b)
node_decides a b = Decides-like (node_eq.eq-value.it a b)
    (λ (p : (a.kind ≡ b.kind) × ((a.text ≡ b.text) × ((a.attributes ≡ b.attributes) × ((a.origin ≡ b.origin)
    × ((a.line ≡ b.line) × (a.end ≡ b.end)))))). λ i. record {
      kind = p.0 i;
      text = p.1.0 i;
      attributes = p.1.1.0 i;
      origin = p.1.1.1.0 i;
      line = p.1.1.1.1.0 i;
      end = p.1.1.1.1.1 i;
    })
    (λ e. (
      ap (λ (x : Node). x.kind) e,
      (
        ap (λ (x : Node). x.text) e,
        (
          ap (λ (x : Node). x.attributes) e,
          (ap (λ (x : Node). x.origin) e, (ap (λ (x : Node). x.line) e, ap (λ (x : Node). x.end) e)),
        ),
      ),
    ))
    (Decides-and _ _ (node_kind_decides a.kind b.kind) (Decides-and _ _ (bytes_eq-Decides a.text b.text)
    (Decides-and _ _ (lists_decide attribute_decides a.attributes b.attributes)
    (Decides-and _ _ (Decides-eqb a.origin b.origin)
    (Decides-and _ _ (Decides-eqb a.line b.line) (Decides-eqb a.end b.end))))))

pub nodes_decide : (xs ys : List Node) → Decides (pointwise node_eq.eq-value.it xs ys) (xs ≡ ys)
nodes_decide = lists_decide node_decides

-- Faults

fault_code_decides : (a b : FaultCode) → Decides (fault_code_eq.eq-value.it a b) (a ≡ b)
fault_code_decides a b = (same_true fault_codes tt a b, true_same fault_codes a b)

fault_decides : (a b : Fault) → Decides (fault_eq.eq-value.it a b) (a ≡ b)
fault_decides a b = Decides-like (fault_eq.eq-value.it a b)
    (λ (p : (a.name ≡ b.name) × ((a.line ≡ b.line) × ((a.code ≡ b.code) × (a.detail ≡ b.detail)))).
    λ i. record { name = p.0 i; line = p.1.0 i; code = p.1.1.0 i; detail = p.1.1.1 i })
    (λ e. (
      ap (λ (x : Fault). x.name) e,
      (
        ap (λ (x : Fault). x.line) e,
        (
          ap (λ (x : Fault). x.code) e,
          ap (λ (x : Fault). x.detail) e,
        ),
      ),
    ))
    (Decides-and _ _ (bytes_eq-Decides a.name b.name) (Decides-and _ _ (Decides-eqb a.line b.line)
    (Decides-and _ _ (fault_code_decides a.code b.code) (bytes_eq-Decides a.detail b.detail))))

pub faults_decide : (xs ys : List Fault) → Decides (pointwise fault_eq.eq-value.it xs ys) (xs ≡ ys)
faults_decide = lists_decide fault_decides

-- Pushes

push_kind_decides : (a b : PushKind) → Decides (push_kind_eq.eq-value.it a b) (a ≡ b)
push_kind_decides a b = (same_true push_kinds tt a b, true_same push_kinds a b)

push_decides : (a b : Push) → Decides (push_eq.eq-value.it a b) (a ≡ b)
push_decides a b = Decides-like (push_eq.eq-value.it a b)
    (λ (p : (a.kind ≡ b.kind) × ((a.at ≡ b.at) × ((a.from ≡ b.from) × (a.place ≡ b.place)))).
    λ i. record { kind = p.0 i; at = p.1.0 i; from = p.1.1.0 i; place = p.1.1.1 i })
    (λ e. (
      ap (λ (x : Push). x.kind) e,
      (
        ap (λ (x : Push). x.at) e,
        (
          ap (λ (x : Push). x.from) e,
          ap (λ (x : Push). x.place) e,
        ),
      ),
    ))
    (Decides-and _ _ (push_kind_decides a.kind b.kind) (Decides-and _ _ (Decides-eqb a.at b.at)
    (Decides-and _ _ (bytes_eq-Decides a.from b.from) (Decides-eqb a.place b.place))))

pub pushes_decide : (xs ys : List Push) → Decides (pointwise push_eq.eq-value.it xs ys) (xs ≡ ys)
pushes_decide = lists_decide push_decides

-- What keys give

reference_decides : (a b : Reference) → Decides (reference_eq.eq-value.it a b) (a ≡ b)
reference_decides a b = Decides-like (reference_eq.eq-value.it a b)
    (λ (p : (a.file ≡ b.file) × ((a.topic ≡ b.topic) × (a.element ≡ b.element))).
    λ i. record { file = p.0 i; topic = p.1.0 i; element = p.1.1 i })
    (λ e. (ap (λ (x : Reference). x.file) e, (ap (λ (x : Reference). x.topic) e, ap (λ (x : Reference). x.element) e)))
    (Decides-and _ _ (bytes_eq-Decides a.file b.file) (Decides-and _ _ (bytes_eq-Decides a.topic b.topic)
    (bytes_eq-Decides a.element b.element)))

module _ (name other : List ℕ) where
  local_same : (a b : Reference) → targets.Local name a ≡ targets.Local other b → (name ≡ other) × (a ≡ b)
  local_same a b same = (cc, cc)

  file_same : (a b : List ℕ) → targets.File name a ≡ targets.File other b → (name ≡ other) × (a ≡ b)
  file_same a b same = (cc, cc)

other_same : (a b : List ℕ) → targets.Other a ≡ targets.Other b → a ≡ b
other_same a b same = cc

target_decides : (a b : Target) → Decides (target_eq.eq-value.it a b) (a ≡ b)
target_decides targets.Nothing targets.Nothing = (λ _. refl, λ _. refl)
target_decides (targets.Local name a) (targets.Local other b) =
    Decides-like (target_eq.eq-value.it (targets.Local name a) (targets.Local other b))
    (λ (p : (name ≡ other) × (a ≡ b)). λ i. targets.Local (p.0 i) (p.1 i)) (local_same name other a b)
    (Decides-and _ _ (bytes_eq-Decides name other) (reference_decides a b))
target_decides (targets.File name a) (targets.File other b) =
    Decides-like (target_eq.eq-value.it (targets.File name a) (targets.File other b))
    (λ (p : (name ≡ other) × (a ≡ b)). λ i. targets.File (p.0 i) (p.1 i)) (file_same name other a b)
    (Decides-and _ _ (bytes_eq-Decides name other) (bytes_eq-Decides a b))
target_decides (targets.Other a) (targets.Other b) =
    Decides-like (target_eq.eq-value.it (targets.Other a) (targets.Other b)) (ap targets.Other) (other_same a b)
    (bytes_eq-Decides a b)
target_decides a b = (λ e. cc, λ e. cc)

pub answer_decides : (a b : KeyAnswer) → Decides (answer_eq.eq-value.it a b) (a ≡ b)
answer_decides a b = Decides-like (answer_eq.eq-value.it a b)
    (λ (p : (a.node ≡ b.node) × ((a.target ≡ b.target) × ((a.label ≡ b.label) × (a.faults ≡ b.faults)))).
    λ i. record { node = p.0 i; target = p.1.0 i; label = p.1.1.0 i; faults = p.1.1.1 i })
    (λ e. (
      ap (λ (x : KeyAnswer). x.node) e,
      (
        ap (λ (x : KeyAnswer). x.target) e,
        (
          ap (λ (x : KeyAnswer). x.label) e,
          ap (λ (x : KeyAnswer). x.faults) e,
        ),
      ),
    ))
    (Decides-and _ _ (places_decide a.node b.node) (Decides-and _ _ (target_decides a.target b.target)
    (Decides-and _ _ (bytes_eq-Decides a.label b.label) (faults_decide a.faults b.faults))))

-- That a record is active where the list of calls as a whole says so.
use Rattle.std.proofs.Common.{◌≡◌, ℕ, List, [], ◌∷◌, ◌++◌, Option, Some, None, All, inl, inr, refl, ap, sym, ◌∙◌, subst}
use Rattle.std.proofs.lemmas.List.Elements.{All-head, All-tail, All-cons, All-nil}
use Rattle.std.proofs.lemmas.Option.{same_Some}
use Rattle.kl_registrar.specs.Calls.{Call, Register, Activate, Remove, Registration, Log, agent_of, own}
use Rattle.kl_registrar.specs.Records.{registered, Matches, IsActive}
use Rattle.kl_registrar.specs.Activations.{Leaves, WasActivated, WasRegistered}
use Rattle.kl_registrar.proofs.Names.{same_or_not, own_ours, own_theirs, same_self}

-- a call on another agent leaves this one
leaves_other : (call : Call) (id : List ℕ) → (agent_of call ≡ id → ⊥) → Leaves id call
leaves_other (Register other r) id apart = apart
leaves_other (Activate other tag) id apart = tt
leaves_other (Remove other) id apart = apart

-- ---- the latest register

registered_before : (call : Call) (past : Log) (id : List ℕ) (r : Registration) → Leaves id call → WasRegistered past id r → WasRegistered (call ∷ past) id r
registered_before call past id r leaves was = record {
  between = call ∷ was.between;
  before = was.before;
  order = ap (λ (l : Log). call ∷ l) was.order;
  earlier = All-cons (Leaves id) call was.between leaves was.earlier;
}

registered_ours : (call : Call) (past : Log) (id : List ℕ) (r : Registration) → agent_of call ≡ id → registered (call ∷ own past id) ≡ Some r
    → (registered (own past id) ≡ Some r → WasRegistered past id r) → WasRegistered (call ∷ past) id r
registered_ours (Register other t) past id r ours is earlier = record {
  between = [];
  before = past;
  order = ap (λ (k : List ℕ). Register k t ∷ past) ours ∙ ap (λ (x : Registration). Register id x ∷ past) (same_Some t r is);
  earlier = All-nil (Leaves id);
}
registered_ours (Activate other tag) past id r ours is earlier = registered_before (Activate other tag) past id r tt (earlier is)
registered_ours (Remove other) past id r ours is earlier = cc is

pub was_registered : (past : Log) (id : List ℕ) (r : Registration) → registered (own past id) ≡ Some r → WasRegistered past id r
was_registered [] id r is = cc is
was_registered (call ∷ past) id r is = elim (same_or_not (agent_of call) id) [
  | inl e ↦ registered_ours call past id r e.1 (ap registered (sym (own_ours call past id e.0)) ∙ is) (was_registered past id r)
  | inr ne ↦ registered_before call past id r (leaves_other call id ne.1) (was_registered past id r (ap registered (sym (own_theirs call past id ne.0)) ∙ is))
]

-- ---- from the look-back to the whole list

activated_before : (call : Call) (past : Log) (id : List ℕ) → Leaves id call → WasActivated past id → WasActivated (call ∷ past) id
activated_before call past id leaves was = record {
  since = call ∷ was.since;
  between = was.between;
  before = was.before;
  last = was.last;
  tag = was.tag;
  order = ap (λ (l : Log). call ∷ l) was.order;
  later = All-cons (Leaves id) call was.since leaves was.later;
  earlier = was.earlier;
  spelled = was.spelled;
}

activated_now : (past : Log) (id tag : List ℕ) (found : Option Registration) → registered (own past id) ≡ found → Matches id tag found
    → WasActivated (Activate id tag ∷ past) id
activated_now past id tag None is matched = absurd matched
activated_now past id tag (Some r) is matched =
    let was = was_registered past id r is in
    record {
      since = [];
      between = was.between;
      before = was.before;
      last = r;
      tag = tag;
      order = ap (λ (l : Log). Activate id tag ∷ l) was.order;
      later = All-nil (Leaves id);
      earlier = was.earlier;
      spelled = matched;
    }

activated_ours : (call : Call) (past : Log) (id : List ℕ) → agent_of call ≡ id → IsActive (call ∷ own past id)
    → (IsActive (own past id) → WasActivated past id) → WasActivated (call ∷ past) id
activated_ours (Register other t) past id ours active earlier = absurd active
activated_ours (Activate other tag) past id ours (inl matched) earlier =
    subst (λ (k : List ℕ). WasActivated (Activate k tag ∷ past) id) (sym ours)
    (activated_now past id tag (registered (own past id)) refl (subst (λ (k : List ℕ). Matches k tag (registered (own past id))) ours matched))
activated_ours (Activate other tag) past id ours (inr active) earlier = activated_before (Activate other tag) past id tt (earlier active)
activated_ours (Remove other) past id ours active earlier = absurd active

pub was_activated : (past : Log) (id : List ℕ) → IsActive (own past id) → WasActivated past id
was_activated [] id active = absurd active
was_activated (call ∷ past) id active = elim (same_or_not (agent_of call) id) [
  | inl e ↦ activated_ours call past id e.1 (subst IsActive (own_ours call past id e.0) active) (was_activated past id)
  | inr ne ↦ activated_before call past id (leaves_other call id ne.1) (was_activated past id (subst IsActive (own_theirs call past id ne.0) active))
]

-- ---- and back

theirs : (call : Call) (past : Log) (id : List ℕ) → (agent_of call ≡ id → ⊥) → own (call ∷ past) id ≡ own past id
theirs call past id apart = elim (same_or_not (agent_of call) id) [
  | inl e ↦ absurd (apart e.1)
  | inr ne ↦ own_theirs call past id ne.0
]

-- what the calls on the agent say stays as a call leaves it
registered_left : (call : Call) (past : Log) (id : List ℕ) → Leaves id call → registered (own (call ∷ past) id) ≡ registered (own past id)
registered_left (Register other r) past id leaves = ap registered (theirs (Register other r) past id leaves)
registered_left (Activate other tag) past id leaves = elim (same_or_not other id) [
  | inl e ↦ ap registered (own_ours (Activate other tag) past id e.0)
  | inr ne ↦ ap registered (own_theirs (Activate other tag) past id ne.0)
]
registered_left (Remove other) past id leaves = ap registered (theirs (Remove other) past id leaves)

active_left : (call : Call) (past : Log) (id : List ℕ) → Leaves id call → IsActive (own past id) → IsActive (own (call ∷ past) id)
active_left (Register other r) past id leaves active = subst IsActive (sym (theirs (Register other r) past id leaves)) active
active_left (Activate other tag) past id leaves active = elim (same_or_not other id) [
  | inl e ↦ subst IsActive (sym (own_ours (Activate other tag) past id e.0)) (inr active)
  | inr ne ↦ subst IsActive (sym (own_theirs (Activate other tag) past id ne.0)) active
]
active_left (Remove other) past id leaves active = subst IsActive (sym (theirs (Remove other) past id leaves)) active

registered_behind : (between before : Log) (id : List ℕ) (r : Registration) → All (Leaves id) between
    → registered (own (between ++ Register id r ∷ before) id) ≡ Some r
registered_behind [] before id r left = ap registered (own_ours (Register id r) before id (same_self id))
registered_behind (call ∷ between) before id r left =
    registered_left call (between ++ Register id r ∷ before) id (All-head (Leaves id) call between left)
    ∙ registered_behind between before id r (All-tail (Leaves id) call between left)

pub is_registered : (past : Log) (id : List ℕ) (r : Registration) → WasRegistered past id r → registered (own past id) ≡ Some r
is_registered past id r was = ap (λ (l : Log). registered (own l id)) was.order ∙ registered_behind was.between was.before id r was.earlier

active_behind : (since past : Log) (id : List ℕ) → All (Leaves id) since → IsActive (own past id) → IsActive (own (since ++ past) id)
active_behind [] past id left active = active
active_behind (call ∷ since) past id left active =
    active_left call (since ++ past) id (All-head (Leaves id) call since left) (active_behind since past id (All-tail (Leaves id) call since left) active)

pub is_active : (past : Log) (id : List ℕ) → WasActivated past id → IsActive (own past id)
is_active past id was =
    let behind : Log = was.between ++ Register id was.last ∷ was.before in
    let given : IsActive (own (Activate id was.tag ∷ behind) id) =
    subst IsActive (sym (own_ours (Activate id was.tag) behind id (same_self id)))
    (inl (subst (Matches id was.tag) (sym (registered_behind was.between was.before id was.last was.earlier)) was.spelled)) in
    subst (λ (l : Log). IsActive (own l id)) (sym was.order) (active_behind was.since (Activate id was.tag ∷ behind) id was.later given)

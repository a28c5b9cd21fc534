-- What is kept stays what the calls say, as one more is done.
use Rattle.std.proofs.Common.{◌≡◌, ℕ, ◌+◌, ◌-◌, true, false, cond, List, [], ◌∷◌, length, Option, Some, None, is_some, if◌then◌else◌, inl, inr, refl, ap, sym, ◌∙◌, subst, arith}
use Rattle.std.specs.Ordering.{nat_cmp, is_eq}
use Rattle.std.specs.Cmp.Lexicographic.{slice_cmp}
use Rattle.std.proofs.lemmas.Map.Text.{is_eq-slice_cmp}
use Rattle.std.proofs.lemmas.Bool.{cond-true, cond-false, both_ways}
use Rattle.kl_keys.specs.Tags.{SpellsTag}
use Rattle.kl_registrar.specs.declared.record.RegRecord.{RegRecord}
use Rattle.kl_registrar.specs.Calls.{Call, Register, Activate, Remove, Registration, Log, agent_of, own}
use Rattle.kl_registrar.specs.Records.{registered, Matches, has_record, records, told_of, IsKept, kept_of, Keeps}
use Rattle.kl_registrar.specs.Inner.Parts.{Puts, Marks, activated}
use Rattle.kl_registrar.proofs.Names.{same_or_not, own_ours, own_theirs}

abbrev pub Entries : Type 0
Entries = List (List ℕ × RegRecord)

-- what is kept of one agent changes
abbrev pub Sets : List ℕ → Entries → Entries → Option RegRecord → Type 0
Sets id old new w = (other : List ℕ) → kept_of other new ≡ cond (is_eq (slice_cmp nat_cmp id other)) w (kept_of other old)

kept_each : (old new : Entries) (call : Call) (past : Log) (w : Option RegRecord) → Sets (agent_of call) old new w
    → ((id : List ℕ) → IsKept (own past id) (kept_of id old)) → IsKept (call ∷ own past (agent_of call)) w
    → (id : List ℕ) → IsKept (own (call ∷ past) id) (kept_of id new)
kept_each old new call past w sets kept here id = elim (same_or_not (agent_of call) id) [
  | inl e ↦
      let at : kept_of id new ≡ w = sets id ∙ cond-true (is_eq (slice_cmp nat_cmp (agent_of call) id)) w (kept_of id old) (is_eq-slice_cmp (agent_of call) id ∙ e.0) in
      subst (λ (o : Option RegRecord). IsKept (own (call ∷ past) id) o) (sym at)
      (subst (λ (l : Log). IsKept l w) (sym (own_ours call past id e.0)) (subst (λ (k : List ℕ). IsKept (call ∷ own past k) w) e.1 here))
  | inr ne ↦
      let at : kept_of id new ≡ kept_of id old = sets id ∙ cond-false (is_eq (slice_cmp nat_cmp (agent_of call) id)) w (kept_of id old) (is_eq-slice_cmp (agent_of call) id ∙ ne.0) in
      subst (λ (o : Option RegRecord). IsKept (own (call ∷ past) id) o) (sym at)
      (subst (λ (l : Log). IsKept l (kept_of id old)) (sym (own_theirs call past id ne.0)) (kept id))
]

kept_some : (past : Log) (o : Option RegRecord) → IsKept past o → is_some o ≡ is_some (registered past)
kept_some past None kept = ap is_some (sym kept)
kept_some past (Some r) kept = ap is_some (sym kept.0)

-- an agent has a record where one is kept of it
pub has_kept : (entries : Entries) (past : Log) (id : List ℕ) → Keeps entries past → is_some (kept_of id entries) ≡ has_record past id
has_kept entries past id keeps = kept_some (own past id) (kept_of id entries) (keeps.each id)

pub keeps_register : (old new : Entries) (past : Log) (id : List ℕ) (t : Registration) (r : RegRecord) → Keeps old past → told_of r ≡ t → r.active ≡ false
    → Puts id r old new → Keeps new (Register id t ∷ past)
keeps_register old new past id t r keeps told inactive puts = record {
  each = kept_each old new (Register id t) past (Some r) puts.0 keeps.each
      (ap Some (sym told), (λ is. absurd (both_ways r.active inactive is), λ is. absurd is));
  counted = puts.1 ∙ ap (λ n. n + (if is_some (kept_of id old) then 0 else 1)) keeps.counted
      ∙ ap (λ b. records past + (if b then 0 else 1)) (has_kept old past id keeps);
}

activated_kept : (past : Log) (id tag : List ℕ) (r : RegRecord) → IsKept past (Some r) → SpellsTag r.secret id tag
    → IsKept (Activate id tag ∷ past) (activated (Some r))
activated_kept past id tag r kept spelled = (
  kept.0,
  (λ _. inl (subst (Matches id tag) (sym kept.0) spelled), λ _. refl),
)

pub keeps_activate : (old new : Entries) (past : Log) (id tag : List ℕ) (r : RegRecord) → Keeps old past → kept_of id old ≡ Some r
    → SpellsTag r.secret id tag → Marks id old new → Keeps new (Activate id tag ∷ past)
keeps_activate old new past id tag r keeps found spelled marks = record {
  each = kept_each old new (Activate id tag) past (activated (kept_of id old)) marks.0 keeps.each
      (subst (λ (o : Option RegRecord). IsKept (Activate id tag ∷ own past id) (activated o)) (sym found)
      (activated_kept (own past id) id tag r (subst (IsKept (own past id)) found (keeps.each id)) spelled));
  counted = marks.1 ∙ keeps.counted;
}

pub keeps_remove : (old new : Entries) (past : Log) (id : List ℕ) → Keeps old past → is_some (kept_of id old) ≡ true
    → Sets id old new None → length new + 1 ≡ length old → Keeps new (Remove id ∷ past)
keeps_remove old new past id keeps found sets long = record {
  each = kept_each old new (Remove id) past None sets keeps.each refl;
  counted =
      let less : length new ≡ records past - 1 = omega (arith, long, keeps.counted) in
      less ∙ ap (λ b. records past - (if b then 1 else 0)) (sym found ∙ has_kept old past id keeps);
}

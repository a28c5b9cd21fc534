-- What is kept of an agent answers for what the calls say of it.
use Rattle.std.proofs.Common.{◌≡◌, ◌↔◌, ℕ, List, Option, Some, None, IsTrue, sym, ◌∙◌, subst}
use Rattle.kl_registrar.specs.declared.record.RegRecord.{RegRecord}
use Rattle.kl_registrar.specs.Calls.{Log, own}
use Rattle.kl_registrar.specs.Records.{registered, IsActive, told_of, IsKept, kept_of, Keeps}
use Rattle.kl_registrar.proofs.Keeping.{Entries}

kept_now : (entries : Entries) (past : Log) (id : List ℕ) (o : Option RegRecord) → Keeps entries past → kept_of id entries ≡ o → IsKept (own past id) o
kept_now entries past id o keeps is = subst (IsKept (own past id)) is (keeps.each id)

pub none_registered : (entries : Entries) (past : Log) (id : List ℕ) → Keeps entries past → kept_of id entries ≡ None → registered (own past id) ≡ None
none_registered entries past id keeps is = kept_now entries past id None keeps is

pub one_registered : (entries : Entries) (past : Log) (id : List ℕ) (r : RegRecord) → Keeps entries past → kept_of id entries ≡ Some r
    → registered (own past id) ≡ Some (told_of r)
one_registered entries past id r keeps is = (kept_now entries past id (Some r) keeps is).0

pub one_active : (entries : Entries) (past : Log) (id : List ℕ) (r : RegRecord) → Keeps entries past → kept_of id entries ≡ Some r
    → IsTrue r.active ↔ IsActive (own past id)
one_active entries past id r keeps is = (kept_now entries past id (Some r) keeps is).1

-- it has a record, so it is not so that it has none
pub not_none : (entries : Entries) (past : Log) (id : List ℕ) (r : RegRecord) → Keeps entries past → kept_of id entries ≡ Some r
    → registered (own past id) ≡ None → ⊥
not_none entries past id r keeps is none = cc (sym (one_registered entries past id r keeps is) ∙ none)

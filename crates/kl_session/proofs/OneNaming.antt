-- An add names one terms at most, or has one reason to name none: where no pattern was refused as too large.
use Rattle.std.proofs.Common.{◌≡◌, ℕ, List, ◌++◌, Option, codes, refl, sym, ap, ◌∙◌, subst}
use Rattle.kl_bank.specs.declared.bank.Bank.{Bank}
use Rattle.kl_io.specs.Calls.{Rose}
use Rattle.kl_pcr.specs.declared.statics.Static.{Static}
use Rattle.kl_pcr.specs.Statics.{AreStatics}
use Rattle.kl_policy.specs.PolicyFields.{PolicyFields}
use Rattle.kl_policy.specs.Reading.{IsPolicy}
use Rattle.kl_policy.specs.declared.fault.PolicyFault.{PolicyFault}
use Rattle.kl_policy.proofs.OneFault.{one_policy, no_fault, one_named}
use Rattle.kl_states.specs.declared.policy_kind.PolicyKind.{PolicyKind}
use Rattle.kl_appraise.specs.Terms.{AreTerms, IsMask, TermsFields}
use Rattle.kl_history.specs.Records.{History}
use Rattle.kl_script.specs.declared.command.Add.{Add}
use Rattle.kl_session.specs.Outside.{Outside}
use Rattle.kl_session.specs.Texts.{no_terms_text}
use Rattle.kl_session.specs.declared.naming.NoTerms.{NoTerms}
use Rattle.kl_session.specs.declared.naming.NoTerms.TheVariants.{Policy, Mask, Static as StaticPcrs}
use Rattle.kl_session.specs.Terms.{NamesTerms, Refuses, NamesNoTerms}
use Rattle.kl_session.proofs.Readings.{settled}

-- no pattern was refused as too large
abbrev pub NoRise : Outside → Outside → Type 0
NoRise o o' = ¬ (Rose o.maker.calls.faults o'.maker.calls.faults)

terms_by : List ℕ → Bank → ℕ → List Static → List ℕ → Option (List ℕ) → PolicyFields → TermsFields
terms_by contact bank mask statics ak v policy =
    record { contact = contact; bank = bank; mask = mask; statics = statics; ak = ak; v = v; policy = policy }

pub one_terms : (a : Add) (t u : TermsFields) → NamesTerms a t → NamesTerms a u → t ≡ u
unfolding terms_by
one_terms a t u f g =
    let contact = f.contact ∙ sym g.contact in
    let bank = f.bank ∙ sym g.bank in
    let mask = f.mask ∙ sym g.mask in
    let statics = f.statics ∙ sym g.statics in
    let ak = f.ak ∙ sym g.ak in
    let v = f.v ∙ sym g.v in
    let policy = one_policy a.kind a.policy t.policy u.policy f.policy g.policy in
    let same : terms_by t.contact t.bank t.mask t.statics t.ak t.v t.policy ≡ terms_by u.contact u.bank u.mask u.statics u.ak u.v u.policy = cc in same

statics_at : (b c : Bank) (m n : ℕ) (s t : List Static) → b ≡ c → m ≡ n → s ≡ t → AreStatics b m s → AreStatics c n t
statics_at b c m n s t banks masks same are =
    subst (λ (x : List Static). AreStatics c n x) same (subst (λ (x : ℕ). AreStatics c x s) masks (subst (λ (x : Bank). AreStatics x m s) banks are))

-- a text that is a policy has no fault
pub no_policy_fault : (o o' : Outside) → NoRise o o' → (kind : PolicyKind) (text : List ℕ) (p : PolicyFields) (why : PolicyFault) → IsPolicy kind text p → ¬ (Refuses o o' kind text why)
no_policy_fault o o' calm kind text p why is bad =
    no_fault kind text o.maker o'.maker p why is bad.because (settled kind text o.maker o'.maker why calm bad.because bad.named)

pub one_policy_fault : (o o' p p' : Outside) → NoRise o o' → NoRise p p' → (kind : PolicyKind) (text : List ℕ) (x y : PolicyFault) → Refuses o o' kind text x → Refuses p p' kind text y
    → no_terms_text (Policy x) ≡ no_terms_text (Policy y)
one_policy_fault o o' p p' calm still kind text x y f g =
    ap (λ (name : List ℕ). codes "policy " ++ name)
    (one_named kind text o.maker o'.maker p.maker p'.maker x y f.because g.because
    (settled kind text o.maker o'.maker x calm f.because f.named) (settled kind text p.maker p'.maker y still g.because g.named))

-- an add that names terms has no reason to name none
pub no_terms_fault : (o o' : Outside) → NoRise o o' → (H : History) (a : Add) (t : TermsFields) (why : NoTerms) → NamesTerms a t → AreTerms t → ¬ (NamesNoTerms o o' H a why)
no_terms_fault o o' calm H a t (Policy why) named are bad = no_policy_fault o o' calm a.kind a.policy t.policy why named.policy bad
no_terms_fault o o' calm H a t Mask named are (_, other) = other (subst IsMask named.mask are.mask)
no_terms_fault o o' calm H a t StaticPcrs named are (_, mask, other) =
    other (statics_at t.bank a.bank t.mask a.mask t.statics a.statics named.bank named.mask named.statics are.statics)

pub one_terms_fault : (o o' p p' : Outside) → NoRise o o' → NoRise p p' → (H : History) (a : Add) (x y : NoTerms) → NamesNoTerms o o' H a x → NamesNoTerms p p' H a y → no_terms_text x ≡ no_terms_text y
one_terms_fault o o' p p' calm still H a (Policy f) (Policy g) r s = one_policy_fault o o' p p' calm still a.kind a.policy f g r s
one_terms_fault o o' p p' calm still H a (Policy f) Mask r ((c, is, _), _) = absurd (no_policy_fault o o' calm a.kind a.policy c f is r)
one_terms_fault o o' p p' calm still H a (Policy f) StaticPcrs r ((c, is, _), _, _) = absurd (no_policy_fault o o' calm a.kind a.policy c f is r)
one_terms_fault o o' p p' calm still H a Mask (Policy g) ((c, is, _), _) s = absurd (no_policy_fault p p' still a.kind a.policy c g is s)
one_terms_fault o o' p p' calm still H a Mask Mask r s = refl
one_terms_fault o o' p p' calm still H a Mask StaticPcrs (_, other) (_, mask, _) = absurd (other mask)
one_terms_fault o o' p p' calm still H a StaticPcrs (Policy g) ((c, is, _), _, _) s = absurd (no_policy_fault p p' still a.kind a.policy c g is s)
one_terms_fault o o' p p' calm still H a StaticPcrs Mask (_, mask, _) (_, other) = absurd (other mask)
one_terms_fault o o' p p' calm still H a StaticPcrs StaticPcrs r s = refl

-- From one moment to a later one the objects of the outside go on as they were.
use Rattle.std.proofs.Common.{◌≡◌, ℕ, ◌≤◌, Bool, List, ◌++◌, Option, Some, None, inl, inr, refl, sym, ap, ◌∙◌, arith}
use Rattle.std.specs.Io.KnownBytes.{Consumes}
use Rattle.std.proofs.lemmas.Option.{same_Some, none-some}
use Rattle.kl_exclude.specs.Told.{MakerTold}
use Rattle.kl_io.specs.Told.{WordsTold}
use Rattle.kl_keys.specs.Told.{KeysTold}
use Rattle.kl_appraise.specs.Asking.{Asked}
use Rattle.kl_registrar.specs.Asking.{Asked as AskedBlob}
use Rattle.kl_session.specs.Outside.{Outside}
use Rattle.kl_session.specs.Drawing.{Draws, DrawsNone}
use Rattle.kl_session.specs.Polls.{HasNonce}
use Rattle.kl_session.specs.Registering.{AsksKeys}
use Rattle.kl_session.specs.Unique.{GoesOn}

-- ---- what was known of the words stays known

pub consumed : (w : List ℕ) (old new : Option (List ℕ)) (drawn : List ℕ) → old ≡ Some w → Consumes old new drawn
    → (v : List ℕ) × (new ≡ Some v) × (w ≡ drawn ++ v)
consumed w None new drawn is h = absurd (none-some w is)
consumed w (Some u) None drawn is h = absurd h
consumed w (Some u) (Some v) drawn is h = (v, refl, sym (same_Some u w is) ∙ h)

pub same_on : (o o' : Outside) → o' ≡ o → GoesOn o o'
same_on o o' same = record {
  related = ap (λ (z : Outside). z.keys.relations) same;
  keys = omega (arith, ap (λ (z : Outside). z.keys.calls.faults) same);
  drawn = omega (arith, ap (λ (z : Outside). z.words.calls.faults) same);
  left = λ w is. (w, ap (λ (z : Outside). z.words.left) same ∙ is);
  made = omega (arith, ap (λ (z : Outside). z.maker.calls.faults) same);
}

pub and_on : (o then o' : Outside) → GoesOn o then → GoesOn then o' → GoesOn o o'
and_on o then o' f g = record {
  related = g.related ∙ f.related;
  keys = omega (arith, f.keys, g.keys);
  drawn = omega (arith, f.drawn, g.drawn);
  left = λ w is. let known = f.left w is in g.left known.0 known.1;
  made = omega (arith, f.made, g.made);
}

pub draws_on : (n : ℕ) (o o' : Outside) (drawn : List ℕ) → Draws n o o' drawn → GoesOn o o'
draws_on n o o' drawn d = record {
  related = ap (λ (k : KeysTold). k.relations) d.keys;
  keys = omega (arith, ap (λ (k : KeysTold). k.calls.faults) d.keys);
  drawn = d.once.later;
  left = λ w is. let known = consumed w o.words.left o'.words.left drawn is d.taken in (known.0, known.1);
  made = omega (arith, ap (λ (m : MakerTold). m.calls.faults) d.maker);
}

pub nonce_on : (o o' : Outside) (named : Option (List ℕ)) (nonce : List ℕ) → HasNonce o o' named nonce → GoesOn o o'
nonce_on o o' (Some n) nonce h = same_on o o' h.0
nonce_on o o' None nonce h = draws_on 16 o o' h.0 h.1

pub none_on : (n : ℕ) (o o' : Outside) → DrawsNone n o o' → GoesOn o o'
none_on n o o' d = record {
  related = ap (λ (k : KeysTold). k.relations) d.keys;
  keys = omega (arith, ap (λ (k : KeysTold). k.calls.faults) d.keys);
  drawn = elim d.cause [ inl met ↦ met.later | inr few ↦ few.1.later ];
  left = λ w is. (w, d.left ∙ is);
  made = omega (arith, ap (λ (m : MakerTold). m.calls.faults) d.maker);
}

-- ---- the keys are asked, or are not

-- the key object keeps its relations, and its count of faults does not fall
pub record KeysOn (k k' : KeysTold) : Type 0 where
  pub related : k'.relations ≡ k.relations
  pub later : k.calls.faults ≤ k'.calls.faults

pub spared : (k k' : KeysTold) → k' ≡ k → KeysOn k k'
spared k k' same = record { related = ap (λ (x : KeysTold). x.relations) same; later = omega (arith, ap (λ (x : KeysTold). x.calls.faults) same) }

pub asked : (k k' : KeysTold) (ak quote : List ℕ) (answer : Option Bool) → Asked k k' ak quote answer → KeysOn k k'
asked k k' ak quote answer a = record { related = a.relations; later = a.counted.later }

pub asked_blob : (k k' : KeysTold) (ek ak secret : List ℕ) (answer : Option (List ℕ)) (Failed : Type 0) → AskedBlob k k' ek ak secret answer Failed → KeysOn k k'
asked_blob k k' ek ak secret answer Failed a = record { related = a.relations; later = a.counted.later }

pub asks_on : (o o' : Outside) → AsksKeys o o' → KeysOn o.keys o'.keys → GoesOn o o'
asks_on o o' alone on = record {
  related = on.related;
  keys = on.later;
  drawn = omega (arith, ap (λ (w : WordsTold). w.calls.faults) alone.words);
  left = λ w is. (w, ap (λ (x : WordsTold). x.left) alone.words ∙ is);
  made = omega (arith, ap (λ (m : MakerTold). m.calls.faults) alone.maker);
}

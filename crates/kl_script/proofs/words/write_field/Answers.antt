use Rattle.std.proofs.Common.{◌≡◌, ◌≢◌, ℕ, List, [], ◌∷◌, length, flat_map, refl, sym, subst, ◌∙◌}
use Rattle.std.proofs.lemmas.Bool.{eqb-false}
use Rattle.std.proofs.lemmas.Result.{IfOk-weaker}
use Rattle.kl_script.specs.Words.{HasNo, IsField, field_of, spelling_of}
use Rattle.kl_script.proofs.Writing.{field_spells, field_lineless}
use Rattle.kl_script.proofs.words.write_field.Goals as goal

some : (text : List ℕ) → length text ≢ 0 → flat_map spelling_of text ≡ field_of text
some [] other = absurd (other refl)
some (byte ∷ text) other = refl

pub returns-clause-spells : goal.returns-clause-spells
returns-clause-spells c =
    let text = c.args.text.now in
    let whole = some text (eqb-false (length text) 0 (sym c.is_empty.ensures ∙ c.if-is_empty.false)) in
    IfOk-weaker c.write_chars.result _ _ (λ field is. subst (λ (w : List ℕ). IsField w text) (sym (is ∙ whole)) (field_spells text)) c.write_chars.ensures

pub returns-clause-lineless : goal.returns-clause-lineless
returns-clause-lineless c =
    let text = c.args.text.now in
    let whole = some text (eqb-false (length text) 0 (sym c.is_empty.ensures ∙ c.if-is_empty.false)) in
    IfOk-weaker c.write_chars.result _ _ (λ field is. subst (HasNo 10) (sym (is ∙ whole)) (field_lineless text)) c.write_chars.ensures

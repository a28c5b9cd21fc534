-- What the type of terms shows of its fields.
use Rattle.kl_appraise.specs.declared.terms.Terms.TheInside.{Inside}
use Rattle.kl_appraise.specs.Terms.{TermsFields}

abbrev pub fields_of : Inside → TermsFields
fields_of t = record { contact = t.contact; bank = t.bank; mask = t.mask; statics = t.statics; ak = t.ak; v = t.v; policy = t.policy }

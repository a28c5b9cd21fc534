use Rattle.std.proofs.Common.{sym, subst, arith, List, ℕ}
use Rattle.std.specs.String.{string_bytes}
use Rattle.kl_script.specs.Commands.{ReplyFields}
use Rattle.kl_script.specs.Words.{IsField, IsEscaped, IsNumber}
use Rattle.kl_script.proofs.Faults.{at_exit}
use Rattle.kl_script.proofs.Arguments.{word, AreReplyWords, reply_words, spells_reply, reply_fits}
use Rattle.kl_script.proofs.verifying.read_reply.Goals as goal

pub returns-in_err-words-clause-none : goal.returns-in_err-words-clause-none
returns-in_err-words-clause-none c = λ is said s. at_exit _ c.in_err-words.ensures.none _ c.from_residual.ensures.1 is _ s.list s.split

pub returns-in_default-read_number-clause-none : goal.returns-in_default-read_number-clause-none
returns-in_default-read_number-clause-none c = λ _ said s.
    c.in_default-read_number.ensures.none said.poll (reply_words said c.as_slice.ensures.value c.in_ok-words.ensures.found s).poll

pub returns-in_default-read_number-2-clause-none : goal.returns-in_default-read_number-2-clause-none
returns-in_default-read_number-2-clause-none c = λ _ said s.
    c.in_default-read_number-2.ensures.none said.start (reply_words said c.as_slice.ensures.value c.in_ok-words.ensures.found s).start

pub returns-in_err-bank-clause-none : goal.returns-in_err-bank-clause-none
returns-in_err-bank-clause-none c = λ is said s.
    at_exit _ c.in_err-bank.ensures.none _ c.from_residual-in_err-bank.ensures.1 is said.bank
    (reply_words said c.as_slice.ensures.value c.in_ok-words.ensures.found s).bank

pub returns-in_err-public-clause-none : goal.returns-in_err-public-clause-none
returns-in_err-public-clause-none c = λ is said s.
    at_exit _ c.in_err-public.ensures.none _ c.from_residual-in_err-public.ensures.1 is said.public
    (reply_words said c.as_slice.ensures.value c.in_ok-words.ensures.found s).public

pub returns-in_err-quote-clause-none : goal.returns-in_err-quote-clause-none
returns-in_err-quote-clause-none c = λ is said s.
    at_exit _ c.in_err-quote.ensures.none _ c.from_residual-in_err-quote.ensures.1 is said.quote
    (reply_words said c.as_slice.ensures.value c.in_ok-words.ensures.found s).quote

pub returns-in_err-list-clause-none : goal.returns-in_err-list-clause-none
returns-in_err-list-clause-none c = λ is said s.
    at_exit _ c.in_err-list.ensures.none _ c.from_residual-in_err-list.ensures.1 is said.list
    (reply_words said c.as_slice.ensures.value c.in_ok-words.ensures.found s).list

pub unreachable-requires : goal.unreachable-requires
unreachable-requires c =
    let read : ReplyFields = record {
      poll = c.in-Some.poll;
      bank = string_bytes c.in_ok-bank.bank;
      start = c.in-Some-read_number.start;
      public = string_bytes c.in_ok-public.public;
      quote = string_bytes c.in_ok-quote.quote;
      list = string_bytes c.in_ok-list.list;
    } in
    let words : AreReplyWords c.as_slice.result.now c.in_ok-words.list.now read = record {
      poll = c.in-Some.ensures.found;
      bank = c.in_ok-bank.ensures.found;
      start = c.in-Some-read_number.ensures.found;
      public = c.in_ok-public.ensures.found;
      quote = c.in_ok-quote.ensures.found;
      list = c.in_ok-list.ensures.found;
    } in
    let fits = reply_fits read (spells_reply read c.as_slice.ensures.value c.in_ok-words.ensures.found words) in
    omega (arith, fits, c.in-None.ensures.none, c.requires)

pub returns-clause-found : goal.returns-clause-found
returns-clause-found c = spells_reply _ c.as_slice.ensures.value c.in_ok-words.ensures.found record {
  poll = c.in-Some.ensures.found;
  bank = subst (λ (t : List ℕ). IsField (word c.as_slice.result.now 1) t) (sym c.in-Some-new.ensures.bank) c.in_ok-bank.ensures.found;
  start = subst (λ (n : ℕ). IsNumber (word c.as_slice.result.now 2) n) (sym c.in-Some-new.ensures.start) c.in-Some-read_number.ensures.found;
  public = subst (λ (t : List ℕ). IsField (word c.as_slice.result.now 3) t) (sym c.in-Some-new.ensures.public) c.in_ok-public.ensures.found;
  quote = subst (λ (t : List ℕ). IsField (word c.as_slice.result.now 4) t) (sym c.in-Some-new.ensures.quote) c.in_ok-quote.ensures.found;
  list = subst (λ (t : List ℕ). IsEscaped c.in_ok-words.list.now t) (sym c.in-Some-new.ensures.list) c.in_ok-list.ensures.found;
}

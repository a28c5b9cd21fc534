use Rattle.std.proofs.Common.{ℕ, List, ◌++◌, ◌∷◌, [], ◌∙◌, ap, arith}
use Rattle.std.specs.Int.{w16, w64}
use Rattle.kl_attest.specs.Grammar.{Field, number, counted, header_fields, clock_fields, selections_fields, text_of, joined, IsSelection, IsQuoted}
use Rattle.kl_attest.specs.Views.{quoted_of, selections_of}
use Rattle.kl_attest.proofs.Joins.{put_one, put_more}
use Rattle.kl_attest.proofs.Masks.{mask_set, three_of, three_fit}
use Rattle.kl_attest.proofs.writing.write_attest.Goals as goal

pub returns-clause-set : goal.returns-clause-set
returns-clause-set c = λ some. mask_set c.args.parts.now.alg c.args.parts.now.mask c.requires.mask some

pub returns-clause-spelled : goal.returns-clause-spelled
unfolding text_of
returns-clause-spelled c =
    let p = c.args.parts.now in
    let head = c.in_ok-put_head.ensures in
    let clock = c.in_ok-put_clock.ensures in
    let selection = c.in_ok-put_selection.ensures in
    let digest = c.in_ok-put_sized.ensures in
    let one : IsSelection (record { alg = p.alg; select = three_of p.mask }) = record { alg = selection.alg; select = record { len = omega arith; each = three_fit p.mask } } in
    let ok : IsQuoted (quoted_of p) = record {
      signer = head.signer;
      extra = head.extra;
      clock = clock.clock;
      reset = clock.reset;
      restart = clock.restart;
      firmware = omega arith;
      count = omega arith;
      selections = (one, tt);
      pcr_digest = digest.fits;
    } in
    let front : List Field = header_fields ++ counted w16 p.signer.now ++ counted w16 p.extra.now in
    let times : List Field = clock_fields p.clock p.reset p.restart p.safe in
    let firmware : List Field = number w64 p.firmware ∷ [] in
    let chosen : List Field = selections_fields (selections_of p) in
    let start : List ℕ = c.new-out.result.items in
    let x1 = put_more front times start c.put_head.new.out.items _ head.text clock.text in
    let x2 = put_more (front ++ times) firmware start c.put_clock.new.out.items _ x1 (put_one (number w64 p.firmware) _ c.extend_from_slice.new.self.items _ c.in_ok-extend_from_slice.ensures.items c.to_be_bytes.ensures) in
    let x3 = put_more (front ++ times ++ firmware) chosen start c.extend_from_slice.new.self.items _ x2 selection.text in
    let x4 = put_more (front ++ times ++ firmware ++ chosen) (counted w16 p.pcr_digest.now) start c.put_selection.new.out.items _ x3 digest.text in
    record { fits = ok; text = x4 ∙ ap (λ (t : List ℕ). t ++ joined (front ++ times ++ firmware ++ chosen ++ counted w16 p.pcr_digest.now)) c.new-out.ensures.items }

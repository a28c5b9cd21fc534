use Rattle.std.proofs.Common.{rules, ◌≡◌, ◌∙◌, [], reverse, ap, sym, subst}
use Rattle.std.proofs.lemmas.List.{reverse-reverse}
use Rattle.kl_core.specs.Books.{past}
use Rattle.kl_session.specs.Closing.{withdrawn}
use Rattle.kl_session.proofs.Opened.{shares, Ending, next_ending, ends_none, ends_all, head_opened}
use Rattle.kl_session.proofs.Ended.{withdraw_more}
use Rattle.kl_session.proofs.closing.withdraw_all.Goals as goal

pub loop-share-init : goal.loop-share-init
loop-share-init c =
    let first = c.args.book.now in
    let same = ap reverse c.turned-row.ensures ∙ reverse-reverse c.args.shares.items in
    subst (Ending shares (withdrawn (past first)) first first c.args.shares.items) (sym same)
    (ends_none shares (withdrawn (past first)) first c.args.shares.items c.requires)

pub settle_own-requires : goal.settle_own-requires
settle_own-requires c =
    let first = c.args.book.now in
    let made = withdrawn (past first) in
    (head_opened shares made first c.loop-share.book c.args.shares.items (reverse c.pop.new.self.items) c.in-Some.share
    (next_ending shares made first c.loop-share.book c.args.shares.items c.loop-share.row.items c.pop.new.self.items c.in-Some.share
    c.in-Some.ensures.items c.loop-share.invariant)).1

pub unreachable-requires : goal.unreachable-requires
unreachable-requires c =
    let first = c.args.book.now in
    let made = withdrawn (past first) in
    let opened = (head_opened shares made first c.loop-share.book c.args.shares.items (reverse c.pop.new.self.items) c.in-Some.share
    (next_ending shares made first c.loop-share.book c.args.shares.items c.loop-share.row.items c.pop.new.self.items c.in-Some.share
    c.in-Some.ensures.items c.loop-share.invariant)).0 in
    let settled = c.in-Err.ensures.answer.0 in
    cc

pub loop-share-preserved : goal.loop-share-preserved
loop-share-preserved c =
    let first = c.args.book.now in
    let made = withdrawn (past first) in
    withdraw_more first c.loop-share.book _ c.args.shares.items (reverse c.pop.new.self.items) c.in-Some.share _
    c.in-Ok.ensures.answer.1 c.in-Ok.ensures.history c.len-len.ensures.legal
    (next_ending shares made first c.loop-share.book c.args.shares.items c.loop-share.row.items c.pop.new.self.items c.in-Some.share
    c.in-Some.ensures.items c.loop-share.invariant)

pub returns : goal.returns
returns c =
    let first = c.args.book.now in
    let none : c.loop-share.row.items ≡ [] = search rules in
    record {
      withdrawn = ends_all shares (withdrawn (past first)) first c.loop-share.book c.args.shares.items c.requires
          (subst (λ row. Ending shares (withdrawn (past first)) first c.loop-share.book c.args.shares.items (reverse row)) none c.loop-share.invariant);
    }

use Rattle.std.proofs.Common.{◌≡◌, ℕ, ◌+◌, List, length, Some, None, ◌∙◌, arith, ap, sym, refl, subst}
use Rattle.std.specs.Prelude.{vec_capacity}
use Rattle.std.specs.BTreeMap.{btree_map_len, Updates}
use Rattle.std.specs.Ordering.{nat_cmp}
use Rattle.std.specs.Cmp.Lexicographic.{slice_cmp}
use Rattle.kl_history.specs.Records.{past_of}
use Rattle.kl_core.specs.Books.{BookFields}
use Rattle.kl_agents.specs.declared.entry.Handed.{Handed}
use Rattle.kl_agents.specs.declared.reached.Target.{Target}
use Rattle.kl_core.specs.Inner.Keeping.{IsBook}
use Rattle.kl_core.specs.Inner.Handing.{IsReady, release_with}
use Rattle.kl_agents.specs.Reached.{target_of, Reserves}
use Rattle.kl_agents.specs.Steps.{handed}
use Rattle.kl_core.proofs.Standing.{entry_at}
use Rattle.kl_core.proofs.Growing.{in_order, book_roomier}
use Rattle.kl_core.proofs.Downfalls.{told_more}
use Rattle.kl_core.proofs.Handing.{marks_same, next_is_unmade, handing_roomier, handing_released}
use Rattle.kl_core.proofs.Holding.{handing_in_order}
use Rattle.kl_core.proofs.Releasing.{book_released}
use Rattle.kl_core.proofs.Giving.{rule_at}
use Rattle.kl_core.proofs.book.Book.hand.Goals as goal

pub invariant_of-self : goal.invariant_of-self
invariant_of-self c =
    let b = c.self.inside in
    let same = marks_same b.reached c.reserve_release.new.reached c.in-Err.ensures.same in
    rw c.reserve_release.ensures.items (
      book_roomier b.records.items (past_of b.records.items) b.agents b.polls b.polls b.drawn b.begun b.weight _ _ _ c.self.invariant.0 refl (omega (arith, c.reserve_release.ensures.capacity)),
      record { posted = c.reserve_release.ensures.posted ∙ c.self.invariant.1.posted; room = omega (arith, c.reserve_release.ensures.spare, c.self.invariant.1.room) },
      handing_roomier b.records.items (past_of b.records.items) b.agents b.releases b.releases b.reached c.reserve_release.new.reached b.drawn b.made c.self.invariant.2 refl
          (λ t is. (same t).1 ∙ is) (λ t. (same t).0),
    )

pub put_one-requires : goal.put_one-requires
put_one-requires c =
    let b = c.self.inside in
    next_is_unmade b.records.items (past_of b.records.items) b.agents b.releases b.reached b.drawn b.made c.self.invariant.0.legal c.self.invariant.2

pub invariant_of-self-in-Err-put_one : goal.invariant_of-self-in-Err-put_one
invariant_of-self-in-Err-put_one c =
    let b = c.self.inside in
    let reserves = c.in-Ok.ensures.place in
    let len : btree_map_len c.put_one.new.kept ≡ btree_map_len c.self.inside.releases = ap (λ (es : List (ℕ × Handed)). length es) c.in-Err-put_one.ensures.same in
    rw c.reserve_release.ensures.items (
      subst (λ (n : ℕ). IsBook c.self.inside.records.items (past_of c.self.inside.records.items) c.self.inside.agents c.self.inside.polls c.self.inside.drawn c.self.inside.begun c.self.inside.weight (vec_capacity c.reserve_release.new.records) n)
          (sym len)
          (book_roomier b.records.items (past_of b.records.items) b.agents b.polls b.polls b.drawn b.begun b.weight _ _ _ c.self.invariant.0 refl (omega (arith, c.reserve_release.ensures.capacity))),
      record { posted = c.reserve_release.ensures.posted ∙ c.self.invariant.1.posted; room = omega (arith, c.in-Ok.ensures.notices, c.ends-ends.ensures, len) },
      handing_roomier b.records.items (past_of b.records.items) b.agents b.releases c.put_one.new.kept b.reached c.reserve_release.new.reached b.drawn b.made c.self.invariant.2
          c.in-Err-put_one.ensures.same reserves.places reserves.marks,
    )

pub invariant_of-self-2 : goal.invariant_of-self-2
invariant_of-self-2 c =
    let b = c.self.inside in
    let h = c.args.handed in
    let e = c.kept_at-entry.result in
    let here = ap (λ (v : BookFields). v.history) c.self.view_is in
    let ready : IsReady c.self.inside.records.items (past_of c.self.inside.records.items) c.args.handed = rw here c.requires.ready in
    let entry = entry_at b.records.items (past_of b.records.items) h.agent _ e (c.self.invariant.0.agents_are h.agent) c.kept_at-entry.ensures in
    let reserves : Reserves c.self.inside.reached c.reserve_release.new.reached (target_of c.args.handed.agent c.kept_at-entry.result.added c.args.handed.pass.boot) =
    subst (λ (t : Target). Reserves c.self.inside.reached c.reserve_release.new.reached t) c.new-target.ensures c.in-Ok.ensures.place in
    let up : Updates (slice_cmp nat_cmp) c.self.inside.agents c.note.new.agents c.args.handed.agent (Some (handed (c.self.inside.made + 1) c.kept_at-entry.result)) =
    rw (← c.handed.ensures) c.note.ensures.updates in
    let book =
    book_released b.records.items (past_of b.records.items) b.agents c.note.new.agents b.polls b.drawn b.begun b.weight (vec_capacity b.records) (vec_capacity c.reserve_release.new.records)
    (btree_map_len b.releases) (btree_map_len c.put_one.new.kept) (b.made + 1) h.agent h.generation h.pass.poll e
    c.self.invariant.0
    entry
    (rule_at b.records.items (past_of b.records.items) h ready (b.made + 1) (ap (λ n. n + 1) c.self.invariant.2.made_is))
    up
    c.note.ensures.len
    c.in-Ok-put_one.ensures.len
    (rw here c.requires.room)
    (omega (arith, c.in-Ok.ensures.records, c.ends-ends.ensures)) in
    rw (c.push_reserved.ensures.items, c.push_reserved.ensures.capacity, c.reserve_release.ensures.items) (
      in_order b.records.items _ c.note.new.agents b.polls b.drawn b.begun b.weight _ _ book,
      told_more b.records.items (release_with (b.made + 1) h) b.outbox c.reserve_release.new.outbox b.polls b.polls (btree_map_len b.releases) (btree_map_len c.put_one.new.kept) None refl
          c.self.invariant.1 c.reserve_release.ensures.posted
          (omega (arith, c.in-Ok-put_one.ensures.len, c.in-Ok.ensures.notices, c.ends-ends.ensures)),
      handing_in_order b.records.items _ c.note.new.agents c.put_one.new.kept c.reserve_release.new.reached b.drawn (b.made + 1)
          (handing_released b.records.items (past_of b.records.items) b.agents b.releases b.reached c.reserve_release.new.reached b.drawn b.made h e (b.made + 1) c.self.invariant.2 ready book.legal
          c.kept_at-entry.ensures reserves c.note.new.agents c.put_one.new.kept refl up c.in-Ok-put_one.ensures.updates),
    )

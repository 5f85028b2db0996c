-- A pair is written where a pass ends, and there is room for it.
use Rattle.std.proofs.Common.{◌≡◌, refl, sym, ◌∙◌, [], get_or, arith}
use Rattle.std.proofs.Math.ListN.{length-set}
use Rattle.bitset.specs.Set.{with_of, all_of}
use Rattle.schedule.specs.PassesLaws.{all_known}
use Rattle.schedule.proofs.Walk.{seen_none}
use Rattle.schedule.proofs.Writing.{written, two-more, ended, not_yet}
use Rattle.schedule.proofs.write.Goals as goal
use Rattle.schedule.proofs.write.Goals.{then-seen-every, else-seen-every}

pub loop-i-init : goal.loop-i-init
loop-i-init c =
    record {
      since = [];
      named = seen_none c.args.n;
      walked = omega arith;
      within = omega arith;
      room = omega arith;
      same = refl;
      whole = refl;
    }

pub bounds-pairs-at : goal.bounds-pairs-at
bounds-pairs-at c =
    let turn = (all_known c.args.n c.args.schedule.now).0 c.requires.schedule_value c.loop-i.i c.loop-i-test.true in
    let full : with_of c.loop-i.seen (get_or c.args.schedule.now c.loop-i.i 0) ≡ all_of c.args.n
    = sym c.with-seen.ensures ∙ c.if-seen-every.true ∙ c.all-every.ensures in
    omega (arith, two-more c.loop-i.invariant c.requires.n_bound c.loop-i-test.true turn full)

pub bounds-pairs-at-then-seen-every : goal.bounds-pairs-at-then-seen-every
bounds-pairs-at-then-seen-every c =
    let turn = (all_known c.args.n c.args.schedule.now).0 c.requires.schedule_value c.loop-i.i c.loop-i-test.true in
    let full : with_of c.loop-i.seen (get_or c.args.schedule.now c.loop-i.i 0) ≡ all_of c.args.n
    = sym c.with-seen.ensures ∙ c.if-seen-every.true ∙ c.all-every.ensures in
    rw length-set (omega (arith, two-more c.loop-i.invariant c.requires.n_bound c.loop-i-test.true turn full))

pub loop-i-preserved : goal.loop-i-preserved
loop-i-preserved c =
    let turn = (all_known c.args.n c.args.schedule.now).0 c.requires.schedule_value c.loop-i.i c.loop-i-test.true in
    elim c.if-seen-every.branch [
      | then-seen-every w ↦
          rw (w.seen-is, w.pairs-is, w.begin-is, w.at-is)
          (ended c.loop-i.invariant c.requires.n_bound c.loop-i-test.true turn (sym c.with-seen.ensures ∙ w.if-seen-every.true ∙ c.all-every.ensures))
      | else-seen-every w ↦
          rw (w.seen-is, w.pairs-is, w.begin-is, w.at-is, c.with-seen.ensures)
          (not_yet c.loop-i.invariant c.requires.n_bound c.loop-i-test.true turn
          (λ e. w.if-seen-every.false (c.with-seen.ensures ∙ e ∙ sym c.all-every.ensures)))
    ]

pub returns : goal.returns
returns c = written c.loop-i.invariant c.loop-i-test.false

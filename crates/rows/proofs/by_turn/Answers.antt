use Rattle.std.proofs.Common.{◌≡◌, ◌*◌, ◌/◌, ◌≤◌, ℕ, leb, le-leb, leb-true, length, length-take-le, sym, ◌∙◌, arith}
use Rattle.std.proofs.lemmas.Bool.{lt-leb}
use Rattle.std.proofs.Math.Decide.{dec_le}
use Rattle.rows.specs.RowsLaws.{told_valid, turns_written}
use Rattle.rows.proofs.Answers.{listed_refused, listed_made, listed_written, listed_hands}
use Rattle.rows.proofs.by_turn.Goals as goal

-- the room, as the code asks for it
sixth : (k m n : ℕ) → k ≡ m → leb k (n / 6) ≡ leb (6 * m) n
sixth k m n e = go (dec_le (6 * m) n)
  where
    go : Dec (6 * m ≤ n) → leb k (n / 6) ≡ leb (6 * m) n
    go (yes h) = le-leb k (n / 6) (omega arith) ∙ sym (le-leb (6 * m) n h)
    go (no h) = lt-leb k (n / 6) (omega arith) ∙ sym (lt-leb (6 * m) n (omega arith))

pub returns-then-refused-clause-rows_after : goal.returns-then-refused-clause-rows_after
returns-then-refused-clause-rows_after c =
    let a = c.args in
    rw (← sixth _ _ (length a.rows.now) c.min-count.ensures)
    (listed_refused a.state a.schedule.now a.allowance a.log.now _ _ c.listed-ran.ensures.value (sym c.if-refused.ensures) _ a.rows.now)

pub slice_bounds-write_turns-end : goal.slice_bounds-write_turns-end
slice_bounds-write_turns-end c =
    let a = c.args in
    let h = listed_hands a.state a.schedule.now a.allowance a.log.now _ _ c.listed-ran.ensures.value (sym c.if-refused.ensures) _ c.listed-ran.ensures.log_after in
    sym (length-take-le _ _ (omega (arith, h.few)))

pub overflow_mul-turns : goal.overflow_mul-turns
overflow_mul-turns c =
    let a = c.args in
    let h = listed_hands a.state a.schedule.now a.allowance a.log.now _ _ c.listed-ran.ensures.value (sym c.if-refused.ensures) _ c.listed-ran.ensures.log_after in
    omega (arith, h.few)

pub slice_bounds-write_turns-end-2 : goal.slice_bounds-write_turns-end-2
slice_bounds-write_turns-end-2 c =
    let a = c.args in
    let h = listed_hands a.state a.schedule.now a.allowance a.log.now _ _ c.listed-ran.ensures.value (sym c.if-refused.ensures) _ c.listed-ran.ensures.log_after in
    h.room

pub slice_bounds-write_turns-end-3 : goal.slice_bounds-write_turns-end-3
slice_bounds-write_turns-end-3 c =
    let a = c.args in
    let h = listed_hands a.state a.schedule.now a.allowance a.log.now _ _ c.listed-ran.ensures.value (sym c.if-refused.ensures) _ c.listed-ran.ensures.log_after in
    sym (length-take-le _ _ h.room)

pub invariant_of-begin : goal.invariant_of-begin
invariant_of-begin c =
    let a = c.args in
    let told = sym c.if-refused.ensures in
    let made = listed_made a.state a.schedule.now a.allowance a.log.now _ _ c.listed-ran.ensures.value told in
    record { valid = told_valid a.state a.schedule.now a.allowance a.log.now _ made.1 told }

pub write_turns-requires : goal.write_turns-requires
write_turns-requires c =
    let a = c.args in
    let r = c.listed-ran.ensures.value in
    let told = sym c.if-refused.ensures in
    let made = listed_made a.state a.schedule.now a.allowance a.log.now _ _ r told in
    let h = listed_hands a.state a.schedule.now a.allowance a.log.now _ _ r told _ c.listed-ran.ensures.log_after in
    let long = length-take-le c.listed-ran.result.turns a.schedule.now (omega (arith, h.few)) in
    record {
      tasks_value = h.on;
      log_value = h.logged;
      tasks_in_bounds = omega (arith, long, h.few, leb-true _ _ made.0, c.min-count.ensures);
    }

pub returns-clause-rows_after : goal.returns-clause-rows_after
returns-clause-rows_after c =
    let a = c.args in
    let r = c.listed-ran.ensures.value in
    let told = sym c.if-refused.ensures in
    let hands = listed_hands a.state a.schedule.now a.allowance a.log.now _ _ r told _ c.listed-ran.ensures.log_after in
    rw (← sixth _ _ (length a.rows.now) c.min-count.ensures)
    (listed_written a.state a.schedule.now a.allowance a.log.now _ _ r told _ a.rows.now _ (turns_written hands a.rows.now _ c.write_turns.ensures))

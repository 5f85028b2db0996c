-- Rounds (02, P2): what a turn makes of the counts, and so of the least count.
use Rattle.std.specs.Prelude.{◌≡◌, refl, List, ◌≢◌, ℕ, ◌+◌, ◌≤◌, ◌<◌, ltb, length, get_or, take, Ok}
use Rattle.std.proofs.Common.{sym, ap, ◌∙◌, ltb-true, ltb-false, arith}
use Rattle.bitset.specs.ChoiceLaws.{by_test}
use Rattle.bitset.specs.TableLaws.{length_table}
use Rattle.counts.specs.Counts.{least_among, closes_of}
use Rattle.counts.specs.CountsLaws.{KeptOrRaised, least_lent, least_table, rise_closes}
use Rattle.lines.specs.declared.Task.{Task}
use Rattle.machine.specs.declared.State.{State}
use Rattle.machine.specs.declared.Move.{Move}
use Rattle.machine.specs.declared.Move.TheVariants.{Moved, Waited}
use Rattle.machine.specs.declared.Turned.{Turned}
use Rattle.machine.specs.Tally.{wait_tallied}
use Rattle.machine.specs.Range.{Valid}
use Rattle.machine.specs.RangeLaws.{range, present}
use Rattle.machine.specs.Least.{count_of, counts_of, least, closed_by}
use Rattle.machine.specs.LeastLaws.{least_le, least_attained}
use Rattle.machine.specs.Turn.{effect_of, moved_to, turn_of, closed_number}
use Rattle.machine.proofs.TurnLaws.{turn_answer, turn_moves, turn_makes, waited_tallied, moved_tallied, turn_constants, moved_n, stored_moved, turn_made, own_field, other_field}
use Rattle.machine.proofs.CountLaws.{kept_or_raised, turn_rises, turn_least}

-- ---- the counts as they are lent

module _ (s : State) (n : ℕ) (few : n ≤ 64) (all : List ℕ) (is : all ≡ counts_of s) where
  -- the first n of them are there
  pub lent_there : n ≤ length all
  lent_there = omega (arith, ap length is, length_table 64 (count_of s))

  -- and their least is that of the n tasks
  pub lent_least : 0 < n → least_among (λ q. get_or (take n all) q 0) (length (take n all)) ≡ least_among (count_of s) n
  lent_least some =
      least_lent all n some lent_there ∙ ap (λ (l : List ℕ). least_among (λ q. get_or l q 0) n) is ∙ least_table (count_of s) n 64 some few

-- ---- the counts after a move

module _ (s : State) (p : ℕ) (ok : Valid s) (h : p < s.n) where
  -- the state with what the effect has stored
  abbrev after : State
  after = moved_to s p (effect_of s p).task (effect_of s p).write

  abbrev count : Task → ℕ
  count t = t.count

  own_count : count_of after p ≡ (effect_of s p).task.count
  own_count = own_field count (λ x y. (refl, refl)) (effect_of s p).write s p (effect_of s p).task (present s p ((range s ok).tasks p h).line_from)

  other_count : (q : ℕ) → q ≢ p → count_of after q ≡ count_of s q
  other_count q ne = other_field count (λ x y. (refl, refl)) (effect_of s p).write s p q (effect_of s p).task ne

  rises_count : KeptOrRaised (count_of s p) (count_of after p)
  rises_count = rw own_count (kept_or_raised s p)

  -- whether it closes a round is told by the least count, how many stand at it, and the own count
  pub closed_is : closes_of (least_among (count_of s) s.n) (count_of s p) (effect_of s p).task.count ≡ closed_by s after
  unfolding least
  closed_is =
      rw (moved_n s p (effect_of s p).task (effect_of s p).write, ← own_count)
      (sym (rise_closes (count_of s) (count_of after) s.n p h other_count rises_count))

  -- after a turn that is made the own task has the effect's count, and every other the one it had
  module _ (how : Move) (made : (turn_of s p).outcome ≡ Ok how) where
    -- but for the tallies, which have no counts
    after_turn : (q : ℕ) → count_of (turn_of s p).state q ≡ count_of after q
    after_turn q =
        ap (λ (r : Turned). count_of r.state q) (turn_made s p ok h how (sym (turn_answer s p ok h) ∙ made))
        ∙ ap (λ (x : State). count_of x q) (stored_moved s p (effect_of s p) how)

    pub own_made : count_of (turn_of s p).state p ≡ (effect_of s p).task.count
    own_made = after_turn p ∙ own_count

    pub other_made : (q : ℕ) → q ≢ p → count_of (turn_of s p).state q ≡ count_of s q
    other_made q ne = after_turn q ∙ other_count q ne

-- ---- what the answer carries

-- 02, P2: "1 if the least count rose in that turn, else 0"
pub turn_closed_lem : (s : State) (p c : ℕ) → (turn_of s p).outcome ≡ Ok (Moved c) → c ≡ closed_by s (turn_of s p).state
unfolding least
turn_closed_lem s p c e =
    let m = turn_makes s p (Moved c) e in
    let told = turn_moves s p m.valid m.known m.act m.room in
    let same : c ≡ closed_by s (moved_to s p (effect_of s p).task (effect_of s p).write) = cc in
    rw (moved_tallied s p c e) same

-- a turn raises the least count by one at most
pub turn_least_one : (s : State) (p : ℕ) → 0 < s.n → least (turn_of s p).state ≤ least s + 1
turn_least_one s p h =
    let a = least_attained s h in
    omega (arith, a.2, turn_rises s p a.0, least_le (turn_of s p).state a.0 (rw (turn_constants s p).n a.1))

-- by what a turn that is made carries, the least count rises
pub turn_round : (s : State) (p : ℕ) (how : Move) → (turn_of s p).outcome ≡ Ok how → least (turn_of s p).state ≡ least s + closed_number how
turn_round s p (Moved c) e =
    rw (turn_closed_lem s p c e)
    (by_test (λ x. least (turn_of s p).state ≡ least s + x) (ltb (least s) (least (turn_of s p).state))
    (λ up. omega (arith, ltb-true (least s) (least (turn_of s p).state) up, turn_least_one s p known))
    (λ no. omega (arith, ltb-false (least s) (least (turn_of s p).state) no, turn_least s p known)))
  where
    known : 0 < s.n
    known = omega (arith, (turn_makes s p (Moved c) e).known)
turn_round s p Waited e = rw (waited_tallied s p e) (waits s p)
  where
    -- a tally has no count
    waits : (s : State) (p : ℕ) → least (wait_tallied s p) ≡ least s + 0
    waits s p = unfold least in omega arith

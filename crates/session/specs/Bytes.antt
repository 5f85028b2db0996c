-- The numbers of a reached state fit the types of its fields, so that the state can be kept as a list.
use Rattle.std.specs.Prelude.{◌≡◌, Bool, true, false, ◌||◌, ℕ, zero, suc, ◌+◌, ◌≤◌, ◌<◌, eqb, leb, ltb, length, get_or}
use Rattle.std.proofs.Common.{◌∙◌, arith, leb-true, eqb-true}
use Rattle.std.proofs.Math.Decide.{dec_lt}
use Rattle.bitset.specs.Choice.{pick}
use Rattle.bitset.specs.SetLaws.{within_lt}
use Rattle.setup.specs.Kinds.{has_sense}
use Rattle.setup.specs.RangeLaws.{Zeros, zeros, line_18, field_byte, modulus_byte}
use Rattle.machine.specs.declared.State.{State}
use Rattle.machine.specs.Setters.{task_at, moves_at, waits_at}
use Rattle.machine.specs.Fresh.{Inputs, fresh_reason, fresh_state}
use Rattle.machine.specs.FreshLaws.{accepted_inputs, fresh_bytes, fresh_lengths}
use Rattle.machine.specs.Tally.{max_tally}
use Rattle.machine.specs.Range.{tally_ok, Valid}
use Rattle.machine.specs.RangeLaws.{TaskIn, InRange, range}
use Rattle.machine.specs.Turn.{turn_of}
use Rattle.machine.proofs.TurnLaws.{turn_constants, turn_work, turn_length}
use Rattle.snapshot.specs.Snapshot.{head_numbers, most_in}
use Rattle.snapshot.specs.RoundTrip.{numbers, Sized, all_fit}
use Rattle.guarantee.specs.Calls.{Reached}
use Rattle.guarantee.proofs.Reach.{reached_by, reached_valid}

-- what is not in the range of a state, since the code's types ensure it
record Bytes (s : State) : Type 0 where
  parents : length s.parents ≡ 64
  tasks : length s.tasks ≡ 64
  entries : (q : ℕ) → get_or s.parents q 0 ≤ 255
  works : (q : ℕ) → q < s.n → (task_at s q).work ≤ 255

bytes_fresh : (i : Inputs) → fresh_reason i ≡ 0 → Bytes (fresh_state i)
bytes_fresh i e =
    let a = accepted_inputs i e in
    let long = fresh_lengths i a in
    record { parents = long.0; tasks = long.1; entries = λ q. (fresh_bytes i a q).1; works = λ q h. (fresh_bytes i a q).0 h }

bytes_turn : (s : State) (p : ℕ) → Bytes s → Bytes (turn_of s p).state
bytes_turn s p b =
    let c = turn_constants s p in
    record {
      parents = rw c.parents b.parents;
      tasks = turn_length s p ∙ b.tasks;
      entries = λ q. rw c.parents (b.entries q);
      works = λ q h. rw (turn_work s p q) (b.works q (rw c.n at h));
    }

-- ---- the numbers of a state in range

module _ (s : State) (ok : Valid s) (b : Bytes s) where
  abbrev r : InRange s
  r = range s ok

  modulus_small : s.modulus ≤ 255
  modulus_small = modulus_byte s.kind s.modulus r.modulus

  head : (k : ℕ) → k < 5 → get_or (head_numbers s) k 0 ≤ 255
  head zero h = omega (arith, r.kind)
  head (suc zero) h = omega (arith, r.few)
  head (suc (suc zero)) h = modulus_small
  head (suc (suc (suc zero))) h = field_byte (has_sense s.kind) (s.n + 1) s.arrivals (omega (arith, r.few)) r.arrivals
  head (suc (suc (suc (suc zero)))) h = field_byte (has_sense s.kind) 2 s.sense (omega arith) r.sense
  head (suc (suc (suc (suc (suc k))))) h = absurd (omega arith)

  -- a tally has 32 bits
  tally_word : (q tally : ℕ) → tally_ok s.n q tally ≡ true → tally ≤ 4294967295
  tally_word q tally e = go (ltb q s.n) e
    where
      go : (here : Bool) → pick here (leb tally max_tally) (eqb tally 0) ≡ true → tally ≤ 4294967295
      go true e = omega (arith, leb-true tally max_tally e)
      go false e = omega (arith, eqb-true tally 0 e)

  -- the numbers of a task that is there
  module _ (q : ℕ) (here : q < s.n) where
    abbrev t : TaskIn s q (task_at s q)
    t = r.tasks q here

    small : (k : ℕ) → k < 15 → q < 64 → get_or (numbers s q) k 0 ≤ most_in k
    small zero h l = omega (arith, t.line_to, line_18 s.kind)
    small (suc zero) h l = omega (arith, t.count)
    small (suc (suc zero)) h l = field_byte (eqb s.kind 0) s.modulus (task_at s q).tag (omega (arith, modulus_small)) t.tag
    small (suc (suc (suc zero))) h l = field_byte (eqb s.kind 0) s.modulus (task_at s q).old (omega (arith, modulus_small)) t.old
    small (suc (suc (suc (suc zero)))) h l = omega (arith, within_lt 64 (task_at s q).list _ t.list)
    small (suc (suc (suc (suc (suc zero))))) h l = field_byte (eqb s.kind 0 || eqb s.kind 3) s.n (task_at s q).looked (omega (arith, r.few)) t.looked
    small (suc (suc (suc (suc (suc (suc zero)))))) h l = field_byte (eqb s.kind 1) 2 (task_at s q).aim (omega arith) t.aim
    small (suc (suc (suc (suc (suc (suc (suc zero))))))) h l = field_byte (eqb s.kind 2) 2 (task_at s q).toggle (omega arith) t.toggle
    small (suc (suc (suc (suc (suc (suc (suc (suc zero)))))))) h l = field_byte (eqb s.kind 3) 2 (task_at s q).flag (omega arith) t.flag
    small (suc (suc (suc (suc (suc (suc (suc (suc (suc zero))))))))) h l = field_byte (eqb s.kind 0) s.n (task_at s q).start (omega (arith, r.few)) t.start
    small (suc (suc (suc (suc (suc (suc (suc (suc (suc (suc zero)))))))))) h l = tally_word q (moves_at s q) (r.moves.each q l)
    small (suc (suc (suc (suc (suc (suc (suc (suc (suc (suc (suc zero))))))))))) h l = tally_word q (waits_at s q) (r.waits.each q l)
    small (suc (suc (suc (suc (suc (suc (suc (suc (suc (suc (suc (suc zero)))))))))))) h l = b.works q here
    small (suc (suc (suc (suc (suc (suc (suc (suc (suc (suc (suc (suc (suc zero))))))))))))) h l = omega (arith, t.left_to_lem, b.works q here)
    small (suc (suc (suc (suc (suc (suc (suc (suc (suc (suc (suc (suc (suc (suc zero)))))))))))))) h l = field_byte (eqb s.kind 4) 2 (task_at s q).own (omega arith) t.own
    small (suc (suc (suc (suc (suc (suc (suc (suc (suc (suc (suc (suc (suc (suc (suc k))))))))))))))) h l = absurd (omega arith)

  -- and of one that is not
  module _ (q : ℕ) (past : s.n ≤ q) (l : q < 64) where
    abbrev z : Zeros (task_at s q)
    z = zeros (task_at s q) (r.rest q past l)

    none : (k : ℕ) → k < 15 → get_or (numbers s q) k 0 ≤ most_in k
    none zero h = omega (arith, z.line)
    none (suc zero) h = omega (arith, z.count)
    none (suc (suc zero)) h = omega (arith, z.tag)
    none (suc (suc (suc zero))) h = omega (arith, z.old)
    none (suc (suc (suc (suc zero)))) h = omega (arith, z.list)
    none (suc (suc (suc (suc (suc zero))))) h = omega (arith, z.looked)
    none (suc (suc (suc (suc (suc (suc zero)))))) h = omega (arith, z.aim)
    none (suc (suc (suc (suc (suc (suc (suc zero))))))) h = omega (arith, z.toggle)
    none (suc (suc (suc (suc (suc (suc (suc (suc zero)))))))) h = omega (arith, z.flag)
    none (suc (suc (suc (suc (suc (suc (suc (suc (suc zero))))))))) h = omega (arith, z.start)
    none (suc (suc (suc (suc (suc (suc (suc (suc (suc (suc zero)))))))))) h = tally_word q (moves_at s q) (r.moves.each q l)
    none (suc (suc (suc (suc (suc (suc (suc (suc (suc (suc (suc zero))))))))))) h = tally_word q (waits_at s q) (r.waits.each q l)
    none (suc (suc (suc (suc (suc (suc (suc (suc (suc (suc (suc (suc zero)))))))))))) h = omega (arith, z.work)
    none (suc (suc (suc (suc (suc (suc (suc (suc (suc (suc (suc (suc (suc zero))))))))))))) h = omega (arith, z.left)
    none (suc (suc (suc (suc (suc (suc (suc (suc (suc (suc (suc (suc (suc (suc zero)))))))))))))) h = omega (arith, z.own)
    none (suc (suc (suc (suc (suc (suc (suc (suc (suc (suc (suc (suc (suc (suc (suc k))))))))))))))) h = absurd (omega arith)

  all : (q k : ℕ) → q < 64 → k < 15 → get_or (numbers s q) k 0 ≤ most_in k
  all q k h l = go (dec_lt q s.n)
    where
      go : Dec (q < s.n) → get_or (numbers s q) k 0 ≤ most_in k
      go (yes here) = small q here k l h
      go (no past) = none q (omega arith) h k l

-- a reached state has 64 entries in each array, and numbers that fit
pub reached_sized : (s : State) → Reached s → Sized s
reached_sized s r =
    let ok = reached_valid s r in
    let b = reached_by Bytes bytes_fresh bytes_turn s r in
    record {
      parents = b.parents;
      moves = (range s ok).moves.long;
      waits = (range s ok).waits.long;
      tasks = b.tasks;
      fit = all_fit s (head s ok b) (λ q _. b.entries q) (all s ok b);
    }

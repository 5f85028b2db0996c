-- Laws of ready: none exactly if no task below N would move; task p exactly if p would and no smaller one.
use Rattle.std.specs.Prelude.{◌≡◌, refl, Bool, true, false, ℕ, zero, suc, ◌+◌, ◌≤◌, ◌<◌, Ok, Some, None}
use Rattle.std.proofs.Common.{sym, ◌∙◌, arith, eq-eqb}
use Rattle.std.proofs.lemmas.Bool.{false≢true}
use Rattle.std.proofs.Math.Decide.{dec_lt, ℕ_discrete}
use Rattle.bitset.specs.Choice.{pick}
use Rattle.machine.specs.declared.State.{State}
use Rattle.machine.specs.Answers.{Ready}
use Rattle.machine.specs.Range.{check_state, Valid}
use Rattle.machine.specs.Turn.{turn_of, is_moved}
use Rattle.machine.specs.Ready.{ready_from, ready_of}

-- whether a turn of the task would be answered moved
abbrev pub would_move : State → ℕ → Bool
would_move s p = is_moved (turn_of s p).outcome

-- ---- of the k tasks from p on

-- the first answer is one of the two
pub data Found (s : State) (k p : ℕ) : Ready → Type 0 where
  nobody : ((q : ℕ) → p ≤ q → q < p + k → would_move s q ≡ false) → Found s k p (Ok None)
  task : (r : ℕ) → p ≤ r → r < p + k → would_move s r ≡ true → ((q : ℕ) → p ≤ q → q < r → would_move s q ≡ false) → Found s k p (Ok (Some r))

found : (s : State) (k p : ℕ) → Found s k p (ready_from s k p)
unfolding ready_from
found s zero p = nobody (λ q l h. absurd (omega arith))
found s (suc k) p = go (would_move s p) refl (ready_from s k (p + 1)) (found s k (p + 1))
  where
    first : {q : ℕ} (b : Bool) → would_move s p ≡ b → (p + 1 ≤ q → would_move s q ≡ b) → p ≤ q → would_move s q ≡ b
    first {q} b e later l = split (ℕ_discrete q p)
      where
        split : Dec (q ≡ p) → would_move s q ≡ b
        split (yes same) = rw same e
        split (no ne) = later (omega arith)

    go : (b : Bool) → would_move s p ≡ b → (rest : Ready) → Found s k (p + 1) rest → Found s (suc k) p (pick b (Ok (Some p)) rest)
    go true e rest f = task p (omega arith) (omega arith) e (λ q l h. absurd (omega arith))
    go false e _ (nobody none) = nobody (λ q l h. first false e (λ m. none q m (omega arith)) l)
    go false e _ (task r l h m none) = task r (omega arith) (omega arith) m (λ q n h. first false e (λ i. none q i h) n)

-- ---- of a state in range

-- ready asks only for the outcomes of turns
pub ready_alike : (s s' : State) → ((p : ℕ) → (turn_of s p).outcome ≡ (turn_of s' p).outcome) → (k p : ℕ) → ready_from s k p ≡ ready_from s' k p
unfolding ready_from
ready_alike s s' same zero p = refl
ready_alike s s' same (suc k) p = rw (same p, ready_alike s s' same k (p + 1))

pub ready_is : (s : State) → Valid s → (ready_of s).ready ≡ ready_from s s.n 0
unfolding ready_of
ready_is s ok = rw (eq-eqb (check_state s) 0 ok)

pub ready_found : (s : State) → Valid s → Found s s.n 0 (ready_of s).ready
ready_found s ok = rw (ready_is s ok) (found s s.n 0)

module _ (s : State) (ok : Valid s) where
  -- "none if there is no such task", and only then
  pub ready_none : ((ready_of s).ready ≡ Ok None → (q : ℕ) → q < s.n → would_move s q ≡ false)
      × (((q : ℕ) → q < s.n → would_move s q ≡ false) → (ready_of s).ready ≡ Ok None)
  ready_none = (λ e. forth (ready_of s).ready (ready_found s ok) e, back (ready_of s).ready (ready_found s ok))
    where
      forth : (r : Ready) → Found s s.n 0 r → r ≡ Ok None → (q : ℕ) → q < s.n → would_move s q ≡ false
      forth _ (nobody none) e q h = none q (omega arith) (omega arith)
      forth _ (task r l h m none) e q k = let z : ◌≡◌ {A = ℕ} 0 1 = cc in absurd (omega arith)

      back : (r : Ready) → Found s s.n 0 r → ((q : ℕ) → q < s.n → would_move s q ≡ false) → r ≡ Ok None
      back _ (nobody none) f = refl
      back _ (task r l h m none) f = absurd (false≢true (sym (f r (omega arith)) ∙ m))

  -- "the least task whose turn would answer moved"
  pub record Least (p : ℕ) : Type 0 where
    pub known : p < s.n
    pub moves : would_move s p ≡ true
    pub first : (q : ℕ) → q < p → would_move s q ≡ false

  pub ready_task : (p : ℕ) → ((ready_of s).ready ≡ Ok (Some p) → Least p) × (Least p → (ready_of s).ready ≡ Ok (Some p))
  ready_task p = (λ e. forth (ready_of s).ready (ready_found s ok) e, back (ready_of s).ready (ready_found s ok))
    where
      forth : (r : Ready) → Found s s.n 0 r → r ≡ Ok (Some p) → Least p
      forth _ (nobody none) e = let z : ◌≡◌ {A = ℕ} 0 1 = cc in absurd (omega arith)
      forth _ (task r l h m none) e =
          let same : r ≡ p = cc in
          record { known = omega arith; moves = rw same at m; first = λ q k. none q (omega arith) (omega arith) }

      back : (r : Ready) → Found s s.n 0 r → Least p → r ≡ Ok (Some p)
      back _ (nobody none) f = absurd (false≢true (sym (none p (omega arith) (omega (arith, f.known))) ∙ f.moves))
      back _ (task r l h m none) f = go (dec_lt r p) (dec_lt p r)
        where
          go : Dec (r < p) → Dec (p < r) → ◌≡◌ {A = Ready} (Ok (Some r)) (Ok (Some p))
          go (yes a) b = absurd (false≢true (sym (f.first r a) ∙ m))
          go (no a) (yes b) = absurd (false≢true (sym (none p (omega arith) b) ∙ f.moves))
          go (no a) (no b) = let same : r ≡ p = omega arith in rw same

  -- where a task would move, ready answers a task
  pub ready_some : (p : ℕ) → p < s.n → would_move s p ≡ true → (r : ℕ) × ((ready_of s).ready ≡ Ok (Some r))
  ready_some p h e = go (ready_of s).ready (ready_found s ok)
    where
      go : (r : Ready) → Found s s.n 0 r → (x : ℕ) × (r ≡ Ok (Some x))
      go _ (nobody none) = absurd (false≢true (sym (none p (omega arith) (omega arith)) ∙ e))
      go _ (task r l k m none) = (r, refl)

-- Laws of the tallies (02, P3): what a turn makes of them, and their limit.
use Rattle.std.specs.Prelude.{◌≡◌, refl, List, ℕ, ◌+◌, ◌≤◌, ◌<◌, eqb, length, get_or, Ok, Err}
use Rattle.std.proofs.Common.{sym, ◌∙◌, arith, get_or-set_same, get_or-set_other, eq-eqb, ne_eqb, lt-ltb, leb-true}
use Rattle.std.proofs.Math.Decide.{ℕ_discrete}
use Rattle.bitset.specs.Choice.{pick}
use Rattle.bitset.specs.ChoiceLaws.{by_test}
use Rattle.machine.specs.declared.State.{State}
use Rattle.machine.specs.declared.Move.{Move}
use Rattle.machine.specs.declared.Move.TheVariants.{Moved, Waited}
use Rattle.machine.specs.Answers.{Outcome}
use Rattle.machine.specs.Setters.{moves_at, waits_at}
use Rattle.machine.specs.Tally.{max_tally, tallied}
use Rattle.machine.specs.Range.{Valid}
use Rattle.machine.specs.RangeLaws.{Tallies, range}
use Rattle.machine.specs.Turn.{effect_of, turn_of, move_number, wait_number}
use Rattle.machine.proofs.TurnLaws.{move_le, wait_le, Makes, turn_makes, refused_still, waited_tallied, moved_tallied, written_tallies}

-- ---- what a turn adds

-- what an answer is counted as: a turn that is made by its number, a refused one as 0
abbrev pub weighed : (Move → ℕ) → Outcome → ℕ
weighed weight (Ok how) = weight how
weighed weight (Err k) = 0

-- the tallies of every task, where that of p is raised
tallied_at : (l : List ℕ) (p q more : ℕ) → p < length l → get_or (tallied l p more) q 0 ≡ get_or l q 0 + pick (eqb p q) more 0
tallied_at l p q more h = go (ℕ_discrete q p)
  where
    go : Dec (q ≡ p) → get_or (tallied l p more) q 0 ≡ get_or l q 0 + pick (eqb p q) more 0
    go (yes e) = rw (e, eq-eqb p p refl) (get_or-set_same l p (get_or l p 0 + more) 0 h)
    go (no ne) = rw (ne_eqb p q (λ e. ne (sym e))) (get_or-set_other l p q (get_or l p 0 + more) 0 ne ∙ omega arith)

-- where nothing is added
none : (p q x : ℕ) → x ≡ x + pick (eqb p q) 0 0
none p q x = by_test (λ k. x ≡ x + k) (eqb p q) (λ _. omega arith) (λ _. omega arith)

module _ (s : State) (p : ℕ) where
  -- a task of a turn that is made has its tallies
  there : {how : Move} → Makes s p how → (p < length s.moves) × (p < length s.waits)
  there m = let r = range s m.valid in (omega (arith, r.moves.long, r.few, m.known), omega (arith, r.waits.long, r.few, m.known))

  -- every turn, of every state, adds to its task's tallies what it answers, and to no other's
  pub turn_tallies : (q : ℕ)
      → (moves_at (turn_of s p).state q ≡ moves_at s q + pick (eqb p q) (weighed move_number (turn_of s p).outcome) 0)
      × (waits_at (turn_of s p).state q ≡ waits_at s q + pick (eqb p q) (weighed wait_number (turn_of s p).outcome) 0)
  turn_tallies q = go (turn_of s p).outcome refl
    where
      go : (o : Outcome) → (turn_of s p).outcome ≡ o
          → (moves_at (turn_of s p).state q ≡ moves_at s q + pick (eqb p q) (weighed move_number o) 0)
          × (waits_at (turn_of s p).state q ≡ waits_at s q + pick (eqb p q) (weighed wait_number o) 0)
      go (Ok (Moved c)) e =
          let kept = written_tallies (effect_of s p).write s p (effect_of s p).task in
          rw (moved_tallied s p c e, kept.0, kept.1)
          (tallied_at s.moves p q 1 (there (turn_makes s p (Moved c) e)).0, none p q (waits_at s q))
      go (Ok Waited) e =
          rw (waited_tallied s p e)
          (none p q (moves_at s q), tallied_at s.waits p q 1 (there (turn_makes s p Waited e)).1)
      go (Err k) e = rw (refused_still s p k e) (none p q (moves_at s q), none p q (waits_at s q))

-- so no tally rises by more than one
pub tallies_rise : (s : State) (p q : ℕ) → (moves_at (turn_of s p).state q ≤ moves_at s q + 1) × (waits_at (turn_of s p).state q ≤ waits_at s q + 1)
tallies_rise s p q = (omega (arith, (turn_tallies s p q).0, at_most move_number move_le), omega (arith, (turn_tallies s p q).1, at_most wait_number wait_le))
  where
    at_most : (weight : Move → ℕ) → ((how : Move) → weight how ≤ 1) → pick (eqb p q) (weighed weight (turn_of s p).outcome) 0 ≤ 1
    at_most weight light = by_test (λ k. k ≤ 1) (eqb p q) (λ _. go (turn_of s p).outcome) (λ _. omega arith)
      where
        go : (o : Outcome) → weighed weight o ≤ 1
        go (Ok how) = light how
        go (Err k) = omega arith

-- ---- their limit

-- no tally of a task in a state in range is past it
limit : (n q : ℕ) (l : List ℕ) → Tallies n l → q < n → n ≤ 64 → get_or l q 0 ≤ max_tally
limit n q l t h few = leb-true (get_or l q 0) max_tally (rw (lt-ltb q n h) at (t.each q (omega arith)))

pub moves_limit : (s : State) (q : ℕ) → Valid s → q < s.n → moves_at s q ≤ max_tally
moves_limit s q ok h = let r = range s ok in limit s.n q s.moves r.moves h r.few

pub waits_limit : (s : State) (q : ℕ) → Valid s → q < s.n → waits_at s q ≤ max_tally
waits_limit s q ok h = let r = range s ok in limit s.n q s.waits r.waits h r.few

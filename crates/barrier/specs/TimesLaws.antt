-- What a turn of any task is to a task: its own move, or none that it sees but for its toggle and flag.
use Rattle.std.specs.Prelude.{◌≡◌, refl, ℕ, eqb, Ok, Err}
use Rattle.std.proofs.Common.{sym, ap, ◌∙◌, subst, eq-eqb, ne_eqb}
use Rattle.std.proofs.Math.Decide.{ℕ_discrete}
use Rattle.bitset.specs.Choice.{pick}
use Rattle.lines.specs.declared.Task.{Task}
use Rattle.lines.specs.Setters.{with_toggle, with_flag}
use Rattle.machine.specs.declared.State.{State}
use Rattle.machine.specs.declared.Move.TheVariants.{Moved, Waited}
use Rattle.machine.specs.Answers.{Outcome}
use Rattle.machine.specs.Setters.{task_at}
use Rattle.machine.specs.Range.{Valid}
use Rattle.machine.specs.Turn.{effect_of, turn_of}
use Rattle.machine.proofs.TurnLaws.{refused_still, waited_tallied, moved_tallied}
use Rattle.barrier.specs.Barrier.{Able}
use Rattle.barrier.specs.Moves.{moved_able, own_after, other_after}
use Rattle.barrier.specs.Times.{move_at}

-- a task but for its toggle and flag, which other tasks write
abbrev pub core : Task → Task
core t = with_toggle (with_flag t 0) 0

-- a turn of q is a move of the task p, or it is none and leaves it, but for toggle and flag
pub data Turns (s : State) (p q : ℕ) : Type 0 where
  moves : q ≡ p → Able s p → ((l : ℕ) → move_at p l s q ≡ pick (eqb (task_at s p).line l) 1 0)
      → core (task_at (turn_of s q).state p) ≡ core (effect_of s p).task → Turns s p q
  stays : ((l : ℕ) → move_at p l s q ≡ 0) → core (task_at (turn_of s q).state p) ≡ core (task_at s p) → Turns s p q

pub turns : (s : State) (p q : ℕ) → Valid s → Turns s p q
turns s p q ok = go (turn_of s q).outcome refl (ℕ_discrete q p)
  where
    -- the task r in the state after the turn, which is s'
    after : {s' : State} (r : ℕ) → (turn_of s q).state ≡ s' → core (task_at (turn_of s q).state r) ≡ core (task_at s' r)
    after r e = ap (λ (x : State). core (task_at x r)) e

    go : (o : Outcome) → (turn_of s q).outcome ≡ o → Dec (q ≡ p) → Turns s p q
    go (Ok (Moved c)) e (yes eq) =
        let able = moved_able s q c e in
        subst (λ (x : ℕ). Turns s x q) eq
        (moves refl able (λ l. rw (e, eq-eqb q q refl)) (after q (moved_tallied s q c e) ∙ own_after core (λ t x. (refl, refl)) s q ok able))
    go (Ok (Moved c)) e (no ne) =
        stays (λ l. rw (e, ne_eqb q p ne))
        (after p (moved_tallied s q c e) ∙ other_after core (λ t x. (refl, refl)) s q ok (moved_able s q c e) p (λ eq. ne (sym eq)))
    go (Ok Waited) e d = stays (λ l. rw e) (after p (waited_tallied s q e))
    go (Err k) e d = stays (λ l. rw e) (after p (refused_still s q k e))

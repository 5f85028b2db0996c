-- 02, P6, after a turn by which a task comes to its own work.
use Rattle.std.specs.Prelude.{◌≡◌, List, ◌≢◌, ℕ, ◌<◌}
use Rattle.std.proofs.Common.{◌∙◌}
use Rattle.machine.specs.declared.State.{State}
use Rattle.machine.specs.Setters.{task_at}
use Rattle.machine.specs.Turn.{turn_of}
use Rattle.machine.proofs.TurnLaws.{turn_work}
use Rattle.barrier.specs.Times.{times_at}
use Rattle.barrier.specs.Work.{Stays}
use Rattle.guarantee.specs.Calls.{Reached}
use Rattle.guarantee.specs.Reach.{back}
use Rattle.guarantee.proofs.Reach.{comes_works}

-- so after a turn, of any task, by which p comes to 11 in a reached state
pub reached_works : (s : State) → Reached s → (p q : ℕ) → p < s.n → (task_at s p).line ≢ 11 → (task_at (turn_of s q).state p).line ≡ 11
    → (ts : List ℕ) → Stays p (turn_of s q).state ts → times_at p 11 (turn_of s q).state ts ≡ (task_at s p).work
reached_works s r p q below away at ts stays = comes_works p (turn_of s q).state (back s r below away q at) ts stays ∙ turn_work s q p

-- The coupling of kinds 1 and 4 (02, P7). A coupling is, as in data refinement, a relation between the states of two machines that every step keeps.
use Rattle.std.specs.Prelude.{◌≡◌, ℕ, ◌+◌, ◌≤◌, ◌<◌}
use Rattle.lines.specs.declared.Task.{Task}
use Rattle.lines.specs.Setters.{with_aim, with_own}
use Rattle.machine.specs.declared.State.{State}
use Rattle.machine.specs.Setters.{task_at}
use Rattle.machine.specs.Range.{Valid}
use Rattle.barrier.specs.Barrier.{Holds}
use Rattle.increment.specs.Invariant.{Inv}

-- an aim of kind 1 and a task of kind 4: "the aim equals the own sense on lines 13 to 16"
abbrev pub Aimed : ℕ → Task → Type 0
Aimed aim t₄ = 13 ≤ t₄.line → t₄.line ≤ 16 → aim ≡ t₄.own

-- at 11 and 12 the own sense is the shared one: what 12 inverts is what kind 1 negates
abbrev pub Outside : ℕ → Task → Type 0
Outside sense t₄ = t₄.line ≤ 12 → t₄.own ≡ sense

-- a task of kind 1 and one of kind 4 are the same but for aim and own sense
pub record Matching (t₁ t₄ : Task) : Type 0 where
  pub same : t₁ ≡ with_own (with_aim t₄ t₁.aim) t₁.own
  pub aim : Aimed t₁.aim t₄

-- a state of kind 1 and one of kind 4 that show the same
pub record Coupled (s₁ s₄ : State) : Type 0 where
  pub n : s₁.n ≡ s₄.n
  -- "the arrivals of one are N minus the other's"
  pub arrivals : s₁.arrivals + s₄.arrivals ≡ s₄.n
  pub sense : s₁.sense ≡ s₄.sense
  pub moves : s₁.moves ≡ s₄.moves
  pub waits : s₁.waits ≡ s₄.waits
  pub tasks : (q : ℕ) → q < s₄.n → Matching (task_at s₁ q) (task_at s₄ q)
  pub outside : (q : ℕ) → q < s₄.n → Outside s₄.sense (task_at s₄ q)

-- coupled states, that of kind 1 with its invariant
pub record Pair (s₁ s₄ : State) : Type 0 where
  pub first : Holds 1 Inv s₁
  pub valid : Valid s₄
  pub kind : s₄.kind ≡ 4
  pub coupled : Coupled s₁ s₄

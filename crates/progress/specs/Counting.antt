-- What the counting argument asks of a machine. One number Φ says how far a state is, and the window bounds its rise while the least
-- count stays. A waiting turn may change the state, and not every turn of an able task need count.
use Rattle.std.specs.Prelude.{◌≡◌, List, [], ◌∷◌, ◌⊎◌, ℕ, ◌+◌, ◌≤◌, ◌<◌}

-- a turn of p takes the state s to turn s p; Counts s p says that the turn counts
pub record Counting (S : Type 0) (n : ℕ) (turn : S → ℕ → S) (Counts : S → ℕ → Type 0) : Type 1 where
  pub Inv : S → Type 0
  pub least : S → ℕ
  pub limit : ℕ
  pub window : ℕ
  pub Φ : S → ℕ
  pub Able : S → ℕ → Type 0
  pub keeps : (s : S) (p : ℕ) → Inv s → Inv (turn s p)
  -- a counted turn of an able task raises Φ: by exactly one where Φ counts the moves, but any rise will do
  pub moves : (s : S) (p : ℕ) → Inv s → Able s p → Counts s p → Φ s < Φ (turn s p)
  -- a turn raises Φ, or changes neither Φ nor who is able
  pub either : (s : S) (p : ℕ) → Inv s → (Φ s < Φ (turn s p)) ⊎ ((Φ (turn s p) ≡ Φ s) × ((q : ℕ) → Able s q → Able (turn s p) q))
  pub rises : (s : S) (p : ℕ) → Inv s → least s ≤ least (turn s p)
  -- a state whose least count is no higher is less than a window further. For an M with least * M ≤ Φ < (least + 2) * M,
  -- 2 * M is a window; a later change gives a sharper one
  pub near : (s s' : S) → Inv s → Inv s' → least s' ≤ least s → Φ s' < Φ s + window
  -- while the least count is below its limit, some task is able
  pub someone : (s : S) → Inv s → least s < limit → (p : ℕ) × (p < n) × Able s p

-- the state after the turns
abbrev pub after : {S : Type 0} → (S → ℕ → S) → S → List ℕ → S
after turn s [] = s
after turn s (p ∷ ts) = after turn (turn s p) ts

-- each of the turns counts
abbrev pub AllCount : {S : Type 0} → (S → ℕ → S) → (S → ℕ → Type 0) → S → List ℕ → Type 0
AllCount turn Counts s [] = Unit {0}
AllCount turn Counts s (p ∷ ts) = Counts s p × AllCount turn Counts (turn s p) ts

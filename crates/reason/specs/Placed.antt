-- A refusal, by its number, and a place; and what a check answers by both, 0 where nothing is refused.
use Rattle.std.specs.Prelude.{◌≡◌, ℕ, zero, suc, ◌≢◌, Result, Ok, Err}
use Rattle.std.proofs.Common.{refl, arith}
use Rattle.reason.specs.declared.PlacedRefusal.{PlacedRefusal}

abbrev pub placed : ℕ → ℕ → PlacedRefusal
placed k place = record { refusal = k; place = place }

abbrev pub checked_at : ℕ → ℕ → Result Unit PlacedRefusal
checked_at zero place = Ok tt
checked_at (suc k) place = Err (placed (suc k) place)

pub checked_at_ok : {u : Unit} (k place : ℕ) → checked_at k place ≡ Ok u → k ≡ 0
checked_at_ok zero place e = refl
checked_at_ok (suc k) place e = cc

pub checked_at_err : {r : PlacedRefusal} (k place : ℕ) → checked_at k place ≡ Err r → placed k place ≡ r
checked_at_err zero place e = cc
checked_at_err (suc k) place e = cc

pub checked_at_some : {r : PlacedRefusal} (k place : ℕ) → checked_at k place ≡ Err r → k ≢ 0
checked_at_some zero place e = cc
checked_at_some (suc k) place e = λ z. absurd (omega arith)

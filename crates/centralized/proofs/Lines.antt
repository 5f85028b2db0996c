-- Matching tasks do alike at every line.
use Rattle.std.specs.Prelude.{◌≡◌, refl, Bool, true, false, ◌≢◌, ℕ, ◌+◌, ◌-◌, ◌<◌, eqb, ltb}
use Rattle.std.proofs.Common.{sym, ap, subst, arith, eq-eqb, ne_eqb, le-leb, eqb-true}
use Rattle.std.proofs.lemmas.Bool.{lt-leb, eqb-false}
use Rattle.bitset.specs.Choice.{pick}
use Rattle.bitset.specs.ChoiceLaws.{by_one_test}
use Rattle.lines.specs.declared.Task.{Task}
use Rattle.lines.specs.declared.Effect.{Effect}
use Rattle.lines.specs.declared.Act.{Act}
use Rattle.lines.specs.declared.Act.TheVariants.{Waits, Refuses}
use Rattle.lines.specs.declared.Write.{Write}
use Rattle.lines.specs.declared.Write.TheVariants.{Nothing, Arrivals, Sense}
use Rattle.lines.specs.Setters.{with_line, with_aim, with_own}
use Rattle.lines.specs.Common.{max_count, negated, moves, awaits, raised, work}
use Rattle.lines.specs.Increment.{increment13, increment16, increment_line}
use Rattle.lines.specs.Centralized.{centralized13, centralized16, centralized_line}
use Rattle.lines.specs.LineLaws.{by_both}
use Rattle.lines.specs.Words.{sense_after}
use Rattle.centralized.specs.Coupling.{Aimed, Outside, Matching}

-- what two lines write: the sense at 15 alone
pub data Wrote (n line : ℕ) : Write → Write → Type 0 where
  nothing : Wrote n line Nothing Nothing
  arrived : {x y : ℕ} → x + y ≡ n → Wrote n line (Arrivals x) (Arrivals y)
  turned : {x y : ℕ} → line ≡ 15 → x ≡ y → Wrote n line (Sense x) (Sense y)

-- what two lines do, of tasks at `line`
pub record AlikeEffects (n line sense : ℕ) (e₁ e₄ : Effect) : Type 0 where
  pub act : e₁.act ≡ e₄.act
  pub task : Matching e₁.task e₄.task
  pub write : Wrote n line e₁.write e₄.write
  pub outside : Outside (sense_after e₄.write sense) e₄.task

-- the task t of kind 4; its match of kind 1 has another aim and another own sense
module _ (n sense : ℕ) (t : Task) (aim own : ℕ) (equal : Aimed aim t) (outside : Outside sense t) where
  abbrev u : Task
  u = with_own (with_aim t aim) own

  abbrev A : Effect → Effect → Type 0
  A e₁ e₄ = AlikeEffects n t.line sense e₁ e₄

  -- a wait, or a refusal
  staying : (a : Act) → A (record { act = a; task = u; write = Nothing }) (record { act = a; task = t; write = Nothing })
  staying a = record { act = refl; task = record { same = refl; aim = equal }; write = nothing; outside = outside }

  working : t.line ≡ 11 → A (work u) (work t)
  working l =
      by_one_test A (ltb 1 t.left)
      (λ _. record { act = refl; task = record { same = refl; aim = equal }; write = nothing; outside = outside })
      (λ _. record { act = refl; task = record { same = refl; aim = λ a b. absurd (omega arith) }; write = nothing; outside = λ _. outside (omega arith) })

  -- a move to a line, where the aim is the own sense
  moving : (l : ℕ) {w₁ w₄ : Write} → aim ≡ t.own → Wrote n t.line w₁ w₄ → Outside (sense_after w₄ sense) (with_line t l)
      → A (moves (with_line u l) w₁) (moves (with_line t l) w₄)
  moving l e w out = record { act = refl; task = record { same = refl; aim = λ _ _. e }; write = w; outside = out }

  at_12 : t.line ≡ 12 → A (moves (with_line (with_aim u (negated sense)) 13) Nothing) (moves (with_line (with_own t (negated t.own)) 13) Nothing)
  at_12 l =
      record {
        act = refl;
        task = record { same = refl; aim = λ _ _. ap negated (sym (outside (omega arith))) };
        write = nothing;
        outside = λ h. absurd (omega arith);
      }

  at_13 : (a₁ a₄ : ℕ) → a₁ + a₄ ≡ n → t.line ≡ 13 → A (increment13 n a₁ u) (centralized13 a₄ t)
  at_13 a₁ a₄ sum here = go (eqb a₄ 0) refl
    where
      -- the last task to arrive is the same one
      last : a₄ ≢ 0 → (b : Bool) → eqb a₄ 1 ≡ b → eqb (a₁ + 1) n ≡ eqb a₄ 1
      last some true e = rw e (eq-eqb (a₁ + 1) n (omega (arith, eqb-true a₄ 1 e)))
      last some false e = rw e (ne_eqb (a₁ + 1) n (λ z. absurd (omega (arith, eqb-false a₄ 1 e))))

      onward : (b : Bool) → 12 < pick b 14 16
      onward true = omega arith
      onward false = omega arith

      raise : (l : ℕ) → a₄ ≢ 0 → 12 < l → A (moves (with_line (raised u) l) (Arrivals (a₁ + 1))) (moves (with_line (raised t) l) (Arrivals (a₄ - 1)))
      raise l some on =
          record {
            act = refl;
            task = record { same = refl; aim = λ _ _. equal (omega arith) (omega arith) };
            write = arrived {x = a₁ + 1} {y = a₄ - 1} (omega arith);
            outside = λ h. absurd (omega arith);
          }

      go : (b : Bool) → eqb a₄ 0 ≡ b → A (increment13 n a₁ u) (centralized13 a₄ t)
      go true e = rw (e, le-leb n a₁ (omega (arith, eqb-true a₄ 0 e))) (staying (Refuses 7))
      go false e =
          let some = eqb-false a₄ 0 e in
          rw (e, lt-leb n a₁ (omega arith), last some (eqb a₄ 1) refl)
          (by_one_test A (ltb t.count max_count) (λ _. raise (pick (eqb a₄ 1) 14 16) some (onward (eqb a₄ 1))) (λ _. staying (Refuses 11)))

  at_16 : t.line ≡ 16 → A (increment16 sense u) (centralized16 sense t)
  at_16 l =
      let e = equal (omega arith) (omega arith) in
      subst (λ (b : Bool). A (awaits b u (moves (with_line u 11) Nothing)) (centralized16 sense t)) (ap (eqb sense) (sym e))
      (by_one_test A (eqb sense t.own) (λ same. moving 11 e nothing (λ _. sym (eqb-true sense t.own same))) (λ _. staying Waits))

  pub lines : (a₁ a₄ : ℕ) → a₁ + a₄ ≡ n → A (increment_line t.line n a₁ sense u) (centralized_line t.line n a₄ sense t)
  lines a₁ a₄ sum =
      by_both A t.line u t n a₁ a₄ sense working at_12 (at_13 a₁ a₄ sum)
      (λ l. moving 15 (equal (omega arith) (omega arith)) (arrived {x = 0} {y = n} (omega arith)) (λ h. absurd (omega arith)))
      (λ l. let e = equal (omega arith) (omega arith) in moving 11 e (turned l e) (λ _. refl))
      at_16 (staying Waits)

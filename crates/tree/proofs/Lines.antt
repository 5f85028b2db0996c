-- The moves of the tree barrier, line by line (001, section 2.4.1).
use Rattle.std.specs.Prelude.{◌≡◌, refl, Bool, true, false, ◌||◌, ◌≢◌, ◌⊎◌, ℕ, eqb}
use Rattle.std.proofs.Common.{inl, inr, eqb-true}
use Rattle.std.proofs.lemmas.Bool.{eqb-false}
use Rattle.bitset.specs.ChoiceLaws.{by_test}
use Rattle.bitset.specs.Set.{bit, least_of, without_of}
use Rattle.parents.specs.Parents.{children_of}
use Rattle.lines.specs.declared.Task.{Task}
use Rattle.lines.specs.declared.Effect.{Effect}
use Rattle.lines.specs.declared.Write.TheVariants.{Nothing, Flag}
use Rattle.lines.specs.Setters.{with_line, with_list, with_looked, with_flag}
use Rattle.lines.specs.Common.{moves, raised}
use Rattle.lines.specs.LineLaws.{by_tree}
use Rattle.machine.specs.declared.State.{State}
use Rattle.machine.specs.Setters.{task_at}
use Rattle.machine.specs.Range.{table_of, Valid}
use Rattle.machine.specs.Turn.{effect_of}
use Rattle.machine.proofs.TurnLaws.{effect_3}
use Rattle.barrier.specs.Barrier.{Able}
use Rattle.barrier.specs.Lines.{Moving, no_wait, Worked, if_worked, if_awaited, if_counted, if_chosen}
use Rattle.tree.proofs.TreeRange.{chosen}

-- what holds of each line's move holds of the effect of a task that can move; 13 and 18 take any task k that is on the list
pub by_line : (P : Effect → Type 0) (s : State) (p : ℕ) → Valid s → s.kind ≡ 3 → Able s p
    → (let t = task_at s p in
    (t.line ≡ 11 → Worked P t)
    → (t.line ≡ 12 → P (moves (with_line (with_list t (children_of (table_of s) p)) 13) Nothing))
    → (t.line ≡ 13 → t.list ≡ 0 → P (moves (with_line t 15) Nothing))
    → ((k : ℕ) → t.line ≡ 13 → bit t.list k ≡ 1 → P (moves (with_line (with_looked t k) 14) Nothing))
    → (t.line ≡ 14 → (task_at s t.looked).flag ≡ 1 → P (moves (with_line (with_list t (without_of t.list t.looked)) 13) Nothing))
    → (t.line ≡ 15 → p ≡ 0 → P (moves (with_line (raised t) 16) Nothing))
    → (t.line ≡ 15 → p ≢ 0 → P (moves (with_line (raised (with_flag t 1)) 16) Nothing))
    → (t.line ≡ 16 → (p ≡ 0) ⊎ (t.flag ≡ 0) → P (moves (with_line t 17) Nothing))
    → (t.line ≡ 17 → P (moves (with_line (with_list t (children_of (table_of s) p)) 18) Nothing))
    → (t.line ≡ 18 → t.list ≡ 0 → P (moves (with_line t 11) Nothing))
    → ((k : ℕ) → t.line ≡ 18 → bit t.list k ≡ 1 → P (moves (with_list t (without_of t.list k)) (Flag k 0)))
    → P (effect_of s p))
by_line P s p ok kind able l11 l12 l13_none l13_some l14 l15_root l15_other l16 l17 l18_none l18_some =
    rw (effect_3 s p kind)
    (by_tree (Moving P) t.line t (λ _. no_wait P t) (λ l. if_worked P t l (l11 l)) (table_of s) p (task_at s t.looked).flag
    (λ l _. l12 l)
    (λ l. if_chosen P 15 (least_of t.list) t (l13_none l) (λ ne. l13_some (least_of t.list) l (taken ne)))
    (λ l. if_awaited P (eqb (task_at s t.looked).flag 1) t (λ up. l14 l (eqb-true _ 1 up)))
    (λ l. if_counted P t (λ _. by_test (λ f. P (moves (with_line (raised (with_flag t f)) 16) Nothing)) (eqb p 0)
    (λ z. l15_root l (eqb-true p 0 z)) (λ z. l15_other l (eqb-false p 0 z))))
    (λ l. if_awaited P (eqb p 0 || eqb t.flag 0) t (λ w. l16 l (either (eqb p 0) refl w)))
    (λ l _. l17 l)
    (λ l. by_test (Moving P) (eqb t.list 0) (λ z _. l18_none l (eqb-true t.list 0 z))
    (λ z _. l18_some (least_of t.list) l (taken (eqb-false t.list 0 z))))
    (rw (effect_3 s p kind) at able.1))
  where
    t : Task
    t = task_at s p

    -- the least task on a list is on it
    taken : t.list ≢ 0 → bit t.list (least_of t.list) ≡ 1
    taken = chosen s ok kind p able.0

    -- the condition of 16
    either : (b : Bool) → eqb p 0 ≡ b → b || eqb t.flag 0 ≡ true → (p ≡ 0) ⊎ (t.flag ≡ 0)
    either true z w = inl (eqb-true p 0 z)
    either false z w = inr (eqb-true t.flag 0 w)

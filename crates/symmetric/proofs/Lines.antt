-- The moves of the symmetric barrier, line by line (001, section 2.1).
use Rattle.std.specs.Prelude.{◌≡◌, not, ◌≢◌, ℕ, eqb}
use Rattle.std.proofs.Common.{sym, subst}
use Rattle.std.proofs.lemmas.Bool.{eqb-false, not-true}
use Rattle.bitset.specs.Set.{bit, all_of, first_from, without_of}
use Rattle.bitset.specs.SetLaws.{within_lt, first_member}
use Rattle.lines.specs.declared.Task.{Task}
use Rattle.lines.specs.declared.Effect.{Effect}
use Rattle.lines.specs.declared.Write.TheVariants.{Nothing}
use Rattle.lines.specs.Setters.{with_line, with_tag, with_old, with_list, with_looked}
use Rattle.lines.specs.Common.{moves, raised}
use Rattle.lines.specs.Symmetric.{next_tag}
use Rattle.lines.specs.LineLaws.{by_symmetric}
use Rattle.setup.specs.Range.{list_room}
use Rattle.machine.specs.declared.State.{State}
use Rattle.machine.specs.Setters.{task_at}
use Rattle.machine.specs.Range.{shared_of, table_of, Valid}
use Rattle.machine.specs.Turn.{effect_of}
use Rattle.machine.proofs.TurnLaws.{effect_0}
use Rattle.machine.specs.RangeLaws.{range}
use Rattle.barrier.specs.Barrier.{Able}
use Rattle.barrier.specs.Lines.{Moving, no_wait, Worked, if_worked, if_awaited, if_counted, if_chosen}

-- what holds of each line's move holds of the effect of a task that can move; 13 takes any task k that is on the list
pub by_line : (P : Effect → Type 0) (s : State) (p : ℕ) → Valid s → s.kind ≡ 0 → Able s p
    → (let t = task_at s p in
    (t.line ≡ 11 → Worked P t)
    → (t.line ≡ 12 → P (moves (with_line (with_list (raised (with_tag (with_old t t.tag) (next_tag s.modulus t.tag))) (all_of s.n)) 13) Nothing))
    → (t.line ≡ 13 → t.list ≡ 0 → P (moves (with_line t 11) Nothing))
    → ((k : ℕ) → t.line ≡ 13 → bit t.list k ≡ 1 → P (moves (with_line (with_looked t k) 14) Nothing))
    → (t.line ≡ 14 → (task_at s t.looked).tag ≢ t.old → P (moves (with_line (with_list t (without_of t.list t.looked)) 13) Nothing))
    → P (effect_of s p))
by_line P s p ok kind able l11 l12 l13_none l13_some l14 =
    subst P (sym (effect_0 s p kind))
    (by_symmetric (Moving P) t.line t (λ _. no_wait P t) (λ l. if_worked P t l (l11 l)) s.n s.modulus (task_at s t.looked).tag
    (λ l. if_counted P t (λ _. l12 l))
    (λ l. if_chosen P 11 (first_from t.list t.start) t (l13_none l) (λ ne. l13_some (first_from t.list t.start) l (taken ne)))
    (λ l. if_awaited P (not (eqb (task_at s t.looked).tag t.old)) t (λ d. l14 l (eqb-false _ _ (not-true _ d))))
    (rw (effect_0 s p kind) at able.1))
  where
    t : Task
    t = task_at s p

    -- whatever the start, the first task of a list is on it
    taken : t.list ≢ 0 → bit t.list (first_from t.list t.start) ≡ 1
    taken = (first_member t.list t.start (within_lt 64 t.list (list_room (shared_of s) (table_of s) p) ((range s ok).tasks p able.0).list)).1

use Rattle.std.proofs.Common.{◌≡◌, ap, ◌∙◌, List, ℕ, ◌++◌, length, take, drop, take_at}
use Rattle.std.proofs.Math.Seq.{paste}
use Rattle.snapshot.specs.Snapshot.{head_numbers, parent_numbers, tasks_numbers}
use Rattle.snapshot.specs.SnapshotLaws.{headed, tabled, write_head, write_parents, before}
use Rattle.snapshot.proofs.save.write_state.Goals as goal

-- the list with numbers written to it
abbrev written : List ℕ → ℕ → List ℕ → List ℕ
written list place numbers = paste list place numbers (length numbers)

pub returns : goal.returns
returns c =
    let s = c.args.state.now in
    let list = c.args.list.now in
    let one : c.write.new.list ≡ headed s list = c.write.ensures ∙ ap (written list 0) c.head_numbers.ensures ∙ write_head s list in
    let two : c.write-2.new.list ≡ tabled s list
    = c.write-2.ensures
    ∙ ap (λ (xs : List ℕ). written xs 5 c.parent_numbers.result) one
    ∙ ap (written (headed s list) 5) c.parent_numbers.ensures
    ∙ write_parents s list in
    let front = take_at (head_numbers s ++ parent_numbers s) (drop 69 list) 69 (before s list) in
    c.write_tasks.ensures ∙ ap (λ (xs : List ℕ). take 69 xs ++ tasks_numbers s 64) two ∙ ap (λ (xs : List ℕ). xs ++ tasks_numbers s 64) front

use Rattle.std.proofs.Common.{◌≤◌, ◌<◌, ap, List, ℕ, ◌++◌, length, drop, le-leb, rules}
use Rattle.std.proofs.lemmas.Bool.{lt-leb}
use Rattle.snapshot.specs.Snapshot.{size, saved_to}
use Rattle.snapshot.proofs.save.save.Goals as goal

pub returns-in_err-numbers-clause-list_after : goal.returns-in_err-numbers-clause-list_after
unfolding saved_to
returns-in_err-numbers-clause-list_after c =
    let short : length c.args.list.now < size = search rules in
    rw (lt-leb size (length c.args.list.now) short)

pub returns-clause-value : goal.returns-clause-value
returns-clause-value c =
    let room : size ≤ length c.args.list.now = search rules in
    rw (le-leb size (length c.args.list.now) room)

pub returns-clause-list_after : goal.returns-clause-list_after
unfolding saved_to
returns-clause-list_after c =
    let room : size ≤ length c.args.list.now = search rules in
    rw (le-leb size (length c.args.list.now) room) (ap (λ (xs : List ℕ). xs ++ drop size c.args.list.now) c.write_state.ensures)

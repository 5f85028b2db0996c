use Rattle.std.proofs.Common.{◌≡◌, ◌≤◌, ◌<◌, sym, ap, ◌∙◌, List, ℕ, [], length, take, append-nil, length-take-le, true, false, rules, arith}
use Rattle.std.specs.Prelude.{Err}
use Rattle.machine.specs.Fresh.{zero_state}
use Rattle.snapshot.specs.Snapshot.{size, fits, state_from, load_answer, load_of}
use Rattle.snapshot.specs.SnapshotLaws.{load_short, load_unfit, load_fits}
use Rattle.snapshot.specs.RoundTrip.{load_first}
use Rattle.snapshot.proofs.load.load.Goals as goal

-- the numbers that a list begins with are loaded as the list is
module _ (list numbers : List ℕ) (room : size ≤ length list) (first : numbers ≡ take size list) where
  long : size ≤ length numbers
  long = omega (arith, ap length first, length-take-le size list room)

  same : load_of numbers ≡ load_of list
  same = ap load_of first ∙ rw append-nil at (load_first list [] room)

  unfit : fits numbers ≡ false → record { state = zero_state; reason = 7 } ≡ load_of list
  unfit e = sym (load_unfit numbers long e) ∙ same

  fit : fits numbers ≡ true → record { state = state_from numbers; reason = 0 } ≡ load_of list
  fit e = sym (load_fits numbers long e) ∙ same

pub returns-in_err-list : goal.returns-in_err-list
returns-in_err-list c =
    let short : length c.args.list.now < size = search rules in
    rw (load_short c.args.list.now short) (search rules)

pub returns-in_err-numbers : goal.returns-in_err-numbers
returns-in_err-numbers c =
    let told : c.from_residual-in_err-numbers.result ≡ Err 7 = search rules in
    told ∙ ap load_answer (unfit c.args.list.now c.in_ok-list.list.now (search rules) (search rules) (search rules))

pub returns : goal.returns
returns c =
    let numbers = c.in_ok-numbers.numbers in
    rw c.state.ensures (ap load_answer (fit c.args.list.now numbers.list.now (search rules) (search rules) numbers.fit))

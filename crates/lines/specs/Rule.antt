-- Which rule applies: "decided by the kind and the line number" (01, "The state and a turn").
use Rattle.std.specs.Prelude.{List, ℕ, eqb}
use Rattle.bitset.specs.Choice.{pick}
use Rattle.lines.specs.declared.Task.{Task}
use Rattle.lines.specs.declared.Shared.{Shared}
use Rattle.lines.specs.declared.Effect.{Effect}
use Rattle.lines.specs.Common.{waits}
use Rattle.lines.specs.Symmetric.{symmetric_line}
use Rattle.lines.specs.Increment.{increment_line}
use Rattle.lines.specs.Ring.{ring_line}
use Rattle.lines.specs.Tree.{tree_line}
use Rattle.lines.specs.Centralized.{centralized_line}

-- What the line of the task `own`, whose number is p, does; `seen` is the task that it looks at. Another kind is no barrier and waits.
abbrev pub effect_from : Shared → List ℕ → ℕ → Task → Task → Effect
effect_from s table p own seen =
    pick (eqb s.kind 0) (symmetric_line own.line s.n s.modulus seen.tag own)
    (pick (eqb s.kind 1) (increment_line own.line s.n s.arrivals s.sense own)
    (pick (eqb s.kind 2) (ring_line own.line s.n p own)
    (pick (eqb s.kind 3) (tree_line own.line table p seen.flag own)
    (pick (eqb s.kind 4) (centralized_line own.line s.n s.arrivals s.sense own)
    (waits own)))))

-- the line whose move raises the count: 12 for kind 0, 15 for kind 3, else 13
abbrev pub counting_line : ℕ → ℕ
counting_line kind = pick (eqb kind 0) 12 (pick (eqb kind 3) 15 13)

-- What scanning a text leaves, before a buffer of a bad text is cleared.
use Rattle.std.specs.Prelude.{◌≡◌, List, ℕ, length, Option as Answer, Some, None}
use Rattle.std.proofs.Math.Option.{Option, none, some}
use Rattle.text.specs.Numbers.{over}

abbrev pub Scans : Option (List ℕ) → Answer ℕ → List ℕ → List ℕ → Type 0
Scans none r before after = r ≡ None
Scans (some ns) r before after = (r ≡ Some (length ns)) × (after ≡ over ns before)

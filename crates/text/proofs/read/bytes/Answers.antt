use Rattle.std.specs.Prelude.{◌≡◌, ℕ, ◌<◌, Result, Ok, Err, OkIff}
use Rattle.std.specs.Result.{result_unwrap_or}
use Rattle.std.proofs.Common.{arith, ◌∙◌, le-leb}
use Rattle.std.proofs.lemmas.Bool.{lt-leb}
use Rattle.text.specs.Numbers.{byte_or}
use Rattle.text.specs.CopyLaws.{more}
use Rattle.text.proofs.read.bytes.Goals as goal

-- what a number becomes: itself if it is below 256, and `wide` otherwise
chosen : {E : Type 0} (r : Result ℕ E) (x wide : ℕ) → OkIff r (x < 256) x → result_unwrap_or r wide ≡ byte_or wide x
chosen (Ok y) x wide f = rw (le-leb x 255 (omega (arith, f.0))) f.1
chosen (Err e) x wide f = rw (lt-leb x 255 (grind (arith, f)))

pub loop-i-preserved : goal.loop-i-preserved
loop-i-preserved c = more c.loop-i.invariant c.loop-i-test.true _ (c.unwrap_or.ensures ∙ chosen c.try_from.result _ c.args.wide c.try_from.ensures)

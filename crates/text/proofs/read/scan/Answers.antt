use Rattle.std.proofs.Common.{◌≡◌, refl, arith, List, ℕ, ◌≤◌, length, le-leb, inl, inr}
use Rattle.std.proofs.Math.Option.{none}
use Rattle.std.specs.Prelude.{None}
use Rattle.text.specs.Numbers.{numbers_from, max_text, numbers_of}
use Rattle.text.specs.Scan.{Scans}
use Rattle.text.proofs.Scanning.{ends, between, sixth, digit, another, last, no_last}
use Rattle.text.proofs.read.scan.Goals as goal
use Rattle.text.proofs.read.scan.Goals.{in-32+then-digits-ne0, in-32+else-digits-ne0, in-48-to-57+else-digits-eq5}

-- a text that is not too long
allowed : (text : List ℕ) → length text ≤ max_text → numbers_of text ≡ numbers_from 0 0 text
allowed text h = rw (le-leb (length text) max_text h)

-- an answer that the text is bad
refused : (text before after : List ℕ) → length text ≤ max_text → numbers_from 0 0 text ≡ none → Scans (numbers_of text) None before after
refused text before after h e = rw (allowed text h, e) refl

pub returns-then-digits-eq5 : goal.returns-then-digits-eq5
returns-then-digits-eq5 c =
    refused c.args.text.now _ _ c.if-text-gt65536.false (sixth c.loop-b.invariant c.loop-b-test.true (omega arith) (omega arith) c.if-digits-eq5.true)

pub loop-b-preserved : goal.loop-b-preserved
loop-b-preserved c =
    elim c.match-b.branch [
      | in-32+then-digits-ne0 w ↦ rw (w.count-is, w.digits-is, w.value-is) (ends c.loop-b.invariant c.loop-b-test.true w.in-32.is w.if-digits-ne0.true _ (rw w.buffer-is w.store.ensures))
      | in-32+else-digits-ne0 w ↦ rw (w.buffer-is, w.count-is, w.digits-is, w.value-is) (between c.loop-b.invariant c.loop-b-test.true w.in-32.is w.if-digits-ne0.false)
      | in-48-to-57+else-digits-eq5 w ↦ rw (w.buffer-is, w.count-is, w.digits-is, w.value-is) (digit c.loop-b.invariant c.loop-b-test.true (omega arith) (omega arith) w.if-digits-eq5.false)
    ]

pub returns-in_default : goal.returns-in_default
returns-in_default c =
    refused c.args.text.now _ _ c.if-text-gt65536.false
    (another c.loop-b.invariant c.loop-b-test.true (λ e. grind arith) (λ e. grind arith) (inl (omega arith)))

pub returns-in_default-2 : goal.returns-in_default-2
returns-in_default-2 c =
    refused c.args.text.now _ _ c.if-text-gt65536.false
    (another c.loop-b.invariant c.loop-b-test.true (λ e. omega arith) (λ e. omega arith) (inr (omega arith)))

pub returns-then-digits-ne0-2 : goal.returns-then-digits-ne0-2
returns-then-digits-ne0-2 c = rw (allowed c.args.text.now c.if-text-gt65536.false) (last c.loop-b.invariant _ c.store-then-digits-ne0-2.ensures c.loop-b-test.false c.if-digits-ne0-2.true)

pub returns-else-digits-ne0-2 : goal.returns-else-digits-ne0-2
returns-else-digits-ne0-2 c = rw (allowed c.args.text.now c.if-text-gt65536.false) (no_last c.loop-b.invariant c.loop-b-test.false c.if-digits-ne0-2.false)

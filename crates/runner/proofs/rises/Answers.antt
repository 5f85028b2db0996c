-- `runner::rises`: the store of the next rise.
use Rattle.std.proofs.Common.{◌≡◌, ℕ, suc, ◌+◌, ◌-◌, ◌<◌, List, [], ◌∷◌, ◌++◌, length, get_or, set, replicate, sym, ap, ◌∙◌, arith}
use Rattle.std.proofs.Math.Seq.{append_snoc}
use Rattle.std.proofs.lemmas.List.{set_at}
use Rattle.bitset.specs.TableLaws.{length_table, table_none, table_more}
use Rattle.bitset.specs.Table.{table}
use Rattle.runner.proofs.rises.Goals as goal

-- the store after q stores, of an array of n that was all d
store_next : (ys : List ℕ) (n q a d : ℕ) → length ys ≡ q → q < n
    → set (ys ++ replicate (n - q) d) q a ≡ (ys ++ (a ∷ [])) ++ replicate (n - (q + 1)) d
store_next ys n q a d long h =
    ap (λ (k : ℕ). set (ys ++ replicate k d) q a) more ∙ set_at ys d (replicate (n - (q + 1)) d) a q long ∙ sym (append_snoc ys a (replicate (n - (q + 1)) d))
  where
    more : n - q ≡ suc (n - (q + 1))
    more = omega arith

-- one rise more
risen_more : (f : ℕ → ℕ) (q : ℕ) (all : List ℕ) → q < 64 → all ≡ table q f ++ replicate (64 - q) 0 → set all q (f q) ≡ table (q + 1) f ++ replicate (64 - (q + 1)) 0
risen_more f q all h e = rw (table_more q f, e) (store_next (table q f) 64 q (f q) 0 (length_table q f) h)

pub loop-q-init : goal.loop-q-init
loop-q-init c = rw (table_none (λ q. get_or c.args.after q 0 - get_or c.args.before q 0))

pub loop-q-preserved : goal.loop-q-preserved
loop-q-preserved c =
    risen_more (λ q. get_or c.args.after q 0 - get_or c.args.before q 0) c.loop-q.q c.loop-q.all (omega arith) c.loop-q.invariant

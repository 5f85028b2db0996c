use Rattle.std.proofs.Common.{arith}
use Rattle.bitset.specs.Table.{table}
use Rattle.bitset.specs.TableLaws.{length_table, table_none, table_more}
use Rattle.machine.specs.Least.{count_of}
use Rattle.machine.proofs.Arrays.{store_next}
use Rattle.machine.proofs.State.all_counts.Goals as goal

pub loop-q-init : goal.loop-q-init
loop-q-init c = record { in_range = omega arith; filled = rw (table_none (count_of c.args.self.now)) }

pub loop-q-preserved : goal.loop-q-preserved
loop-q-preserved c =
    let f = count_of c.args.self.now in
    let q = c.loop-q.q in
    record {
      in_range = omega arith;
      filled = rw (table_more q f, c.loop-q.invariant.filled) (store_next (table q f) 64 q (f q) 0 (length_table q f) (omega arith));
    }

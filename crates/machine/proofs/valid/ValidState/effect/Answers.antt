use Rattle.std.proofs.Common.{arith, sym}
use Rattle.std.proofs.lemmas.List.{length-take-le}
use Rattle.machine.specs.Turn.{effect_of}
use Rattle.machine.specs.RangeLaws.{range}
use Rattle.machine.proofs.KeepLaws.{looked_known}
use Rattle.machine.proofs.valid.ValidState.effect.Goals as goal

-- the task, the one that it looks at and the table are there
pub bounds-state-task : goal.bounds-state-task
bounds-state-task c = omega (arith, (range c.args.self.now.state c.args.self.now.valid).few)

pub bounds-state-looked : goal.bounds-state-looked
bounds-state-looked c =
    omega (arith, (range c.args.self.now.state c.args.self.now.valid).few, looked_known c.args.self.now.state c.args.task c.args.self.now.valid c.requires)

pub slice_bounds-parents-end : goal.slice_bounds-parents-end
slice_bounds-parents-end c = omega (arith, (range c.args.self.now.state c.args.self.now.valid).few)

pub slice_bounds-effect_of-end : goal.slice_bounds-effect_of-end
slice_bounds-effect_of-end c = sym (length-take-le _ _ (omega (arith, (range c.args.self.now.state c.args.self.now.valid).few)))

pub returns : goal.returns
unfolding effect_of
returns c = rw c.shared.ensures at c.effect_of.ensures

pub offset_bounds-state-task : goal.offset_bounds-state-task
offset_bounds-state-task c = omega (arith, (range c.args.self.now.state c.args.self.now.valid).few)

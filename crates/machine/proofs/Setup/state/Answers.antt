-- What is accepted fits the state's fields.
use Rattle.std.proofs.Common.{arith}
use Rattle.setup.specs.RangeLaws.{modulus_byte}
use Rattle.machine.specs.Fresh.{given}
use Rattle.machine.specs.FreshLaws.{accepted_inputs, parents_few}
use Rattle.machine.proofs.Setup.state.Goals as goal

pub padded-requires : goal.padded-requires
padded-requires c = parents_few _ (accepted_inputs _ c.requires)

pub fresh_tasks-requires : goal.fresh_tasks-requires
fresh_tasks-requires c = (accepted_inputs _ c.requires).few

pub overflow_cast-n : goal.overflow_cast-n
overflow_cast-n c = omega (arith, (accepted_inputs _ c.requires).few)

pub overflow_cast-result : goal.overflow_cast-result
overflow_cast-result c = omega (arith, (accepted_inputs _ c.requires).kind)

pub overflow_cast-result-2 : goal.overflow_cast-result-2
overflow_cast-result-2 c =
    let a = c.args in
    let i = given a.self a.tables in
    omega (arith, modulus_byte i.kind i.modulus (accepted_inputs i c.requires).modulus)

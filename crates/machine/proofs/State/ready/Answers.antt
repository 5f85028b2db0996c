use Rattle.machine.specs.Ready.{ready_of}
use Rattle.machine.proofs.State.ready.Goals as goal

pub returns : goal.returns
unfolding ready_of
returns c = rw c.asked.ensures

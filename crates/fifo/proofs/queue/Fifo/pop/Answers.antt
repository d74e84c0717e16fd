use Rattle.std.proofs.Common.{arith}
use Rattle.fifo.specs.Queue.{lying}
use Rattle.fifo.proofs.Round.{held_rest}
use Rattle.fifo.proofs.queue.Fifo.pop.Goals as goal

pub returns-clause-held : goal.returns-clause-held
returns-clause-held g c = rw c.place-self.ensures.value (held_rest _ (lying c.args.self.now) (omega (arith, c.args.self.now.fits, c.args.self.now.within)) c.args.self.now.fits (omega arith))

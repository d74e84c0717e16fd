use Rattle.std.proofs.Common.{arith}
use Rattle.fifo.specs.Queue.{lying}
use Rattle.fifo.proofs.Round.{held_joined}
use Rattle.fifo.proofs.queue.Fifo.push.Goals as goal

pub returns-clause-held : goal.returns-clause-held
returns-clause-held g c = rw c.place-place.ensures.value (held_joined c.args.element (lying c.args.self.now) (omega (arith, c.args.self.now.fits, c.args.self.now.within)) (omega (arith, c.args.self.now.fits, c.args.self.now.within)))

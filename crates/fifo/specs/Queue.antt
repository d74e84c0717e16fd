-- A queue in slots that a caller lends, first in, first out.
use Rattle.std.specs.Prelude.{ℕ, ◌+◌, ◌-◌, ◌%◌, List, ◌++◌, length, take, drop, set}
use Rattle.fifo.specs.declared.queue.Fifo.{Fifo}

-- How a queue lies: the slots, the place of the oldest element, and how many elements there are. They stand from that place on, and
-- go on at place 0 behind the last slot.
pub record Lying (X : Type 0) : Type 0 where
  pub slots : List X
  pub head : ℕ
  pub count : ℕ

module _ {X : Type 0} where
  -- and as the code holds them
  abbrev pub lying : Fifo X → Lying X
  lying q = record { slots = q.slots.now; head = q.head; count = q.count }

  -- the elements, the oldest first
  abbrev pub held : Lying X → List X
  held q = take q.count (drop q.head q.slots ++ q.slots)

  -- the place that lies so far from the oldest element's
  abbrev pub place : ℕ → Lying X → ℕ
  place far q = (q.head + far) % length q.slots

  -- no element, in slots as they are
  abbrev pub unused : List X → Lying X
  unused xs = record { slots = xs; head = 0; count = 0 }

  -- an element behind the others: one slot is written
  abbrev pub joined : X → Lying X → Lying X
  joined x q = record q { slots = set q.slots (place q.count q) x; count = q.count + 1 }

  -- the oldest element gone: no slot is written
  abbrev pub rest : Lying X → Lying X
  rest q = record q { head = place 1 q; count = q.count - 1 }

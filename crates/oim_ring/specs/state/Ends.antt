-- The ring of each end of a queue of the `rtrb` crate.
use Rattle.rtrb.specs.declared.producer.Producer.{Producer}
use Rattle.rtrb.specs.declared.consumer.Consumer.{Consumer}
use Rattle.rtrb.specs.declared.finished.Finished.{Finished}
use Rattle.oim_ring.specs.Ends.{Ring}

module _ {T A P : Type 0} where
  abbrev pub sender_ring : Producer T A P → Ring
  sender_ring p = (p.end.words, p.end.slots, p.end.names)

  abbrev pub taker_ring : Consumer T A P → Ring
  taker_ring c = (c.end.words, c.end.slots, c.end.names)

  abbrev pub finished_ring : Finished T A P → Ring
  finished_ring f = (f.end.words, f.end.slots, f.end.names)

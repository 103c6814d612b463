-- What contracts see of an event reader.
use Rattle.cbor_machine.specs.NextEvent.{ItemEventsView}

-- the reader, and the events that were read from it
pub record EventReaderView (R : Type 0) : Type 0 where
  pub reader : R
  pub events : ItemEventsView

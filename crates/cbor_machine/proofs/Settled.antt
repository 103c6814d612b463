-- What the steps know about containers between two bytes.
pub use Rattle.cbor_machine.proofs.Frames.{settled_fit}

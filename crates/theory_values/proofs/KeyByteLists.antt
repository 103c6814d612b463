-- Lists of bytes, for the crates above that know of keys and not of the grammar. Declares nothing.
pub use Rattle.theory_values.proofs.ByteLists.{are_bytes, bytes_take, bytes_drop, bytes_slice}

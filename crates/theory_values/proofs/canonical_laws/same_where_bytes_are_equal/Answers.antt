use Rattle.theory_values.proofs.canonical_laws.same_where_bytes_are_equal.Goals as goal
use Rattle.theory_values.proofs.{Sound.sound, Keys.same_exactly}

pub returns : goal.returns
returns c = λ o v w h g h' g'. same_exactly o v w (sound v h g) (sound w h' g')

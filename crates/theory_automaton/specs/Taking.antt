-- Which mark can come next from a state of the machine, and the state after it.
use Rattle.std.specs.Prelude.{◌≡◌, ℕ, zero, suc, ◌+◌, ◌<◌, true, false, List, [], ◌∷◌, length}
use Rattle.cbor_head.specs.Prelude.{Holds, IsSimple, head, shortest}
use Rattle.cbor_head.specs.declared.major.Major.TheVariants.{Unsigned, Negative, Bytes, Text, Array, Map, Tag, Simple}
use Rattle.cbor_head.specs.declared.{major.Major.Major, width.Width.Width, width.Width.TheVariants.Indefinite}
use Rattle.theory_automaton.specs.Trace.{Mark, a_head, a_chunk, a_byte, a_break}
use Rattle.theory_automaton.specs.Automaton.{Frame, indefinite_array, indefinite_map, State, at_item, in_payload, in_chunks, close, expect, close_string, payload}

-- after a definite head of an item
abbrev pub Follows : ℕ → List Frame → Major → Width → ℕ → State → Type 0
Follows d fs Unsigned w n to = to ≡ close fs
Follows d fs Negative w n to = to ≡ close fs
Follows d fs Bytes w n to = to ≡ payload false Bytes n fs
Follows d fs Text w n to = to ≡ payload false Text n fs
Follows d fs Array w n to = (length fs < d) × (to ≡ expect n fs)
Follows d fs Map w n to = (length fs < d) × (to ≡ expect (n + n) fs)
Follows d fs Tag w n to = (length fs < d) × (to ≡ expect 1 fs)
Follows d fs Simple w n to = IsSimple n × (w ≡ shortest n) × (to ≡ close fs)

-- after the initial byte of an item of indefinite length
abbrev pub Opens : ℕ → List Frame → Major → State → Type 0
Opens d fs Bytes to = to ≡ in_chunks Bytes fs
Opens d fs Text to = to ≡ in_chunks Text fs
Opens d fs Array to = (length fs < d) × (to ≡ at_item (indefinite_array ∷ fs))
Opens d fs Map to = (length fs < d) × (to ≡ at_item (indefinite_map false ∷ fs))
Opens d fs _ to = ⊥

-- after a break where an item is expected
abbrev pub Ends : List Frame → State → Type 0
Ends (indefinite_array ∷ fs) to = to ≡ close fs
Ends (indefinite_map false ∷ fs) to = to ≡ close fs
Ends _ to = ⊥

-- from this state these bytes are this mark, and lead to that state
abbrev pub IsTaking : ℕ → State → Mark → List ℕ → State → Type 0
IsTaking d (at_item fs) (a_head m Indefinite n) bs to = (n ≡ 0) × (bs ≡ head m Indefinite 0) × Opens d fs m to
IsTaking d (at_item fs) (a_head m w n) bs to = (bs ≡ head m w n) × Holds w n × Follows d fs m w n to
IsTaking d (at_item fs) a_break bs to = (bs ≡ 0xff ∷ []) × Ends fs to
IsTaking d (in_chunks m fs) (a_chunk w n) bs to = (bs ≡ head m w n) × Holds w n × (to ≡ payload true m n fs)
IsTaking d (in_chunks m fs) a_break bs to = (bs ≡ 0xff ∷ []) × (to ≡ close fs)
IsTaking d (in_payload chunk m zero fs) a_byte bs to = (length bs ≡ 1) × (to ≡ close_string chunk m fs)
IsTaking d (in_payload chunk m (suc n) fs) a_byte bs to = (length bs ≡ 1) × (to ≡ in_payload chunk m n fs)
IsTaking d _ _ bs to = ⊥

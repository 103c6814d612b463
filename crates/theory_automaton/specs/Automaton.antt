-- An automaton that reads an item byte by byte (RFC 8949, section 3 and appendix C).
use Rattle.std.specs.Prelude.{ℕ, zero, suc, ◌+◌, ◌*◌, ◌-◌, ◌/◌, ◌%◌, Bool, true, false, not, nat_lt, if◌then◌else◌, List, [], ◌∷◌, length}
use Rattle.cbor_head.specs.declared.major.Major.TheVariants.{Unsigned, Negative, Bytes, Text, Array, Map, Tag, Simple}
use Rattle.cbor_head.specs.declared.width.Width.TheVariants.{Direct, One, Two, Four, Eight, Indefinite}
use Rattle.cbor_head.specs.declared.reason.Reason.TheVariants.{BadSimple, BadChunk, Trailing}
use Rattle.cbor_head.specs.{Prelude.initial_reason, declared.major.Major.Major, declared.width.Width.Width, declared.reason.Reason.Reason}
use Rattle.theory_automaton.specs.Trace.{Mark, a_head, a_chunk, a_byte, a_break, more_bytes}

-- an open container
pub data Frame : Type 0 where
  -- this number of members after the one that is expected
  counted : ℕ → Frame
  indefinite_array : Frame
  -- true: a value is expected
  indefinite_map : Bool → Frame

-- Where the next byte belongs, and the open containers, the innermost first. A string's flag is true in a chunk.
pub data State : Type 0 where
  at_item : List Frame → State
  -- this number of bytes of the argument after the next one, and the number so far
  in_head : Bool → Major → Width → ℕ → ℕ → List Frame → State
  in_simple : List Frame → State
  -- this number of bytes of the payload after the next one
  in_payload : Bool → Major → ℕ → List Frame → State
  in_chunks : Major → List Frame → State
  done : State

-- before the first byte of an item
abbrev pub start : State
start = at_item []

-- what a first byte begins
pub data Opening : Type 0 where
  direct : Major → ℕ → Opening
  long : Major → Width → Opening
  indefinite_string : Major → Opening
  indefinite_container : Major → Frame → Opening
  long_simple : Opening
  breaks : Opening
  bad : Opening

-- the result of a byte
pub data Next : Type 0 where
  refuses : Reason → Next
  goes : State → Next
  reports : Mark → State → Next

-- the type with the number in the high three bits
abbrev pub major_at : ℕ → Major
major_at zero = Unsigned
major_at (suc zero) = Negative
major_at (suc (suc zero)) = Bytes
major_at (suc (suc (suc zero))) = Text
major_at (suc (suc (suc (suc zero)))) = Array
major_at (suc (suc (suc (suc (suc zero))))) = Map
major_at (suc (suc (suc (suc (suc (suc zero)))))) = Tag
major_at _ = Simple

-- what a first byte begins whose low five bits are 31
abbrev pub indefinite_length : Major → Opening
indefinite_length Bytes = indefinite_string Bytes
indefinite_length Text = indefinite_string Text
indefinite_length Array = indefinite_container Array indefinite_array
indefinite_length Map = indefinite_container Map (indefinite_map false)
indefinite_length _ = bad

-- What a first byte begins whose low five bits are above 23, from those bits less 24. Simple values have a rule
-- of their own, `simple_tail`.
abbrev pub numbered_tail : Major → ℕ → Opening
numbered_tail major zero = long major One
numbered_tail major (suc zero) = long major Two
numbered_tail major (suc (suc zero)) = long major Four
numbered_tail major (suc (suc (suc zero))) = long major Eight
numbered_tail major (suc (suc (suc (suc (suc (suc (suc zero))))))) = indefinite_length major
numbered_tail major _ = bad

abbrev pub simple_tail : ℕ → Opening
simple_tail zero = long_simple
simple_tail (suc (suc (suc (suc (suc (suc (suc zero))))))) = breaks
simple_tail _ = bad

abbrev pub tail : Major → ℕ → Opening
tail Simple k = simple_tail k
tail major k = numbered_tail major k

-- what a first byte begins, from its type and its low five bits
abbrev pub opening_of : Major → ℕ → Opening
opening_of major low = if nat_lt low 24 then direct major low else tail major (low - 24)

abbrev pub opening : ℕ → Opening
opening c = opening_of (major_at (c / 32)) (c % 32)

-- the state after an item
abbrev pub close : List Frame → State
close [] = done
close (counted zero ∷ fs) = close fs
close (counted (suc n) ∷ fs) = at_item (counted n ∷ fs)
close (indefinite_array ∷ fs) = at_item (indefinite_array ∷ fs)
close (indefinite_map expected ∷ fs) = at_item (indefinite_map (not expected) ∷ fs)

-- the state in which this number of members is expected
abbrev pub expect : ℕ → List Frame → State
expect zero fs = close fs
expect (suc n) fs = at_item (counted n ∷ fs)

-- the state after a definite string
abbrev pub close_string : Bool → Major → List Frame → State
close_string true major fs = in_chunks major fs
close_string false major fs = close fs

-- the state in which this number of bytes of a definite string is expected
abbrev pub payload : Bool → Major → ℕ → List Frame → State
payload chunk major zero fs = close_string chunk major fs
payload chunk major (suc n) fs = in_payload chunk major n fs

-- the state after a definite head
abbrev pub after : Bool → Major → ℕ → List Frame → State
after true major n fs = payload true major n fs
after false Bytes n fs = payload false Bytes n fs
after false Text n fs = payload false Text n fs
after false Array n fs = expect n fs
after false Map n fs = expect (n + n) fs
after false Tag n fs = expect 1 fs
after false _ n fs = close fs

-- the mark of a definite head
abbrev pub mark : Bool → Major → Width → ℕ → Mark
mark true major w n = a_chunk w n
mark false major w n = a_head major w n

-- whether an item of this type is within the depth limit
abbrev pub has_space : ℕ → List Frame → Major → Bool
has_space d fs Array = nat_lt (length fs) d
has_space d fs Map = nat_lt (length fs) d
has_space d fs Tag = nat_lt (length fs) d
has_space d fs _ = true

-- the head of an item, if the item is within the depth limit
abbrev pub enter : ℕ → List Frame → Major → ℕ → Next → Next
enter d fs major c next = if has_space d fs major then next else refuses (initial_reason c)

-- a break where an item is expected
abbrev pub break_at : List Frame → ℕ → Next
break_at (indefinite_array ∷ fs) c = reports a_break (close fs)
break_at (indefinite_map false ∷ fs) c = reports a_break (close fs)
break_at _ c = refuses (initial_reason c)

-- a byte where an item may begin
abbrev pub begin : ℕ → List Frame → ℕ → Opening → Next
begin d fs c (direct major n) = enter d fs major c (reports (a_head major Direct n) (after false major n fs))
begin d fs c (long major w) = enter d fs major c (goes (in_head false major w (more_bytes w - 1) 0 fs))
begin d fs c (indefinite_string major) = reports (a_head major Indefinite 0) (in_chunks major fs)
begin d fs c (indefinite_container major frame) = enter d fs major c (reports (a_head major Indefinite 0) (at_item (frame ∷ fs)))
begin d fs c long_simple = goes (in_simple fs)
begin d fs c breaks = break_at fs c
begin d fs c bad = refuses (initial_reason c)

-- whether both types are the same
abbrev pub is_major : Major → Major → Bool
is_major Bytes Bytes = true
is_major Text Text = true
is_major _ _ = false

-- a byte where a chunk may begin
abbrev pub in_string : Major → List Frame → Opening → Next
in_string major fs (direct m n) = if is_major major m then reports (a_chunk Direct n) (payload true major n fs) else refuses BadChunk
in_string major fs (long m w) = if is_major major m then goes (in_head true major w (more_bytes w - 1) 0 fs) else refuses BadChunk
in_string major fs breaks = reports a_break (close fs)
in_string major fs _ = refuses BadChunk

-- the next byte, within a depth
abbrev pub take_byte : ℕ → State → ℕ → Next
take_byte d (at_item fs) c = begin d fs c (opening c)
take_byte d (in_head chunk major w zero acc fs) c = reports (mark chunk major w (acc * 256 + c)) (after chunk major (acc * 256 + c) fs)
take_byte d (in_head chunk major w (suc k) acc fs) c = goes (in_head chunk major w k (acc * 256 + c) fs)
take_byte d (in_simple fs) c = if nat_lt c 32 then refuses BadSimple else reports (a_head Simple One c) (close fs)
take_byte d (in_payload chunk major zero fs) c = reports a_byte (close_string chunk major fs)
take_byte d (in_payload chunk major (suc n) fs) c = reports a_byte (in_payload chunk major n fs)
take_byte d (in_chunks major fs) c = in_string major fs (opening c)
take_byte d done c = refuses Trailing

-- the state after some bytes, and the marks that they complete
pub data Outcome : Type 0 where
  refused : Reason → Outcome
  reached : State → List Mark → Outcome

-- a mark before those of a run
abbrev pub reporting : Mark → Outcome → Outcome
reporting m (refused r) = refused r
reporting m (reached q ms) = reached q (m ∷ ms)

-- what a byte leads to, and then the run of the bytes after it
abbrev pub and_then : Next → (State → Outcome) → Outcome
and_then (refuses r) f = refused r
and_then (goes q) f = f q
and_then (reports m q) f = reporting m (f q)

-- the run of some bytes from a state
abbrev pub run : ℕ → State → List ℕ → Outcome
run d q [] = reached q []
run d q (c ∷ cs) = and_then (take_byte d q c) (λ t. run d t cs)

-- The position in an item between two events: which containers are open and what is expected; and the position after
-- each event (RFC 8949, section 3).
use Rattle.std.specs.Prelude.{◌≡◌, ℕ, zero, suc, ◌+◌, ◌<◌, ◌++◌, Bool, true, false, not, List, [], ◌∷◌, length}
use Rattle.cbor_head.specs.Prelude.{Holds, IsSimple, head, shortest}
use Rattle.cbor_head.specs.declared.major.Major.TheVariants.{Unsigned, Negative, Bytes, Text, Array, Map, Tag, Simple}
use Rattle.cbor_head.specs.declared.{major.Major.Major, width.Width.Width, width.Width.TheVariants.Indefinite}
-- An open container. In one of definite length, this number of items is expected after the one that is expected now:
-- members, or keys and values; in a tag none.
pub use Rattle.theory_automaton.specs.Automaton.{Frame as Container, counted, indefinite_array, indefinite_map}
use Rattle.cbor_head.specs.declared.event.Event.{Event}
use Rattle.theory_automaton.specs.Trace.{Mark, a_head, a_chunk, a_byte, a_break}
use Rattle.theory_automaton.specs.Marks.{mark_of, marks_of}
use Rattle.cbor_machine.specs.NextEvent.{Call, IsExpected}

-- What is expected within the open containers, the innermost first. A string's flag is true in a chunk.
pub data Place : Type 0 where
  -- an item, or a break
  at_item : List Container → Place
  -- a byte of a payload, and this number after it
  in_payload : Bool → Major → ℕ → List Container → Place
  -- a chunk, or the break
  in_chunks : Major → List Container → Place
  -- nothing: the item is complete
  done : Place

-- the containers that are open at a position
abbrev pub open_at : Place → List Container
open_at (at_item cs) = cs
open_at (in_payload chunk m n cs) = cs
open_at (in_chunks m cs) = cs
open_at done = []

-- ---- positions after an item, or within one

-- after an item that is complete
abbrev pub close : List Container → Place
close [] = done
close (counted zero ∷ cs) = close cs
close (counted (suc n) ∷ cs) = at_item (counted n ∷ cs)
close (indefinite_array ∷ cs) = at_item (indefinite_array ∷ cs)
close (indefinite_map expected ∷ cs) = at_item (indefinite_map (not expected) ∷ cs)

-- before this number of members
abbrev pub expect : ℕ → List Container → Place
expect zero cs = close cs
expect (suc n) cs = at_item (counted n ∷ cs)

-- after a definite string that is complete
abbrev pub close_string : Bool → Major → List Container → Place
close_string true m cs = in_chunks m cs
close_string false m cs = close cs

-- before this number of bytes of a definite string
abbrev pub payload : Bool → Major → ℕ → List Container → Place
payload chunk m zero cs = close_string chunk m cs
payload chunk m (suc n) cs = in_payload chunk m n cs

-- ---- positions after an event

-- after a definite head of an item
abbrev pub Follows : ℕ → List Container → Major → Width → ℕ → Place → Type 0
Follows d cs Unsigned w n to = to ≡ close cs
Follows d cs Negative w n to = to ≡ close cs
Follows d cs Bytes w n to = to ≡ payload false Bytes n cs
Follows d cs Text w n to = to ≡ payload false Text n cs
Follows d cs Array w n to = (length cs < d) × (to ≡ expect n cs)
Follows d cs Map w n to = (length cs < d) × (to ≡ expect (n + n) cs)
Follows d cs Tag w n to = (length cs < d) × (to ≡ expect 1 cs)
Follows d cs Simple w n to = IsSimple n × (w ≡ shortest n) × (to ≡ close cs)

-- after the opener of an item of indefinite length
abbrev pub Opens : ℕ → List Container → Major → Place → Type 0
Opens d cs Bytes to = to ≡ in_chunks Bytes cs
Opens d cs Text to = to ≡ in_chunks Text cs
Opens d cs Array to = (length cs < d) × (to ≡ at_item (indefinite_array ∷ cs))
Opens d cs Map to = (length cs < d) × (to ≡ at_item (indefinite_map false ∷ cs))
Opens d cs _ to = ⊥

-- after a break where an item is expected
abbrev pub Ends : List Container → Place → Type 0
Ends (indefinite_array ∷ cs) to = to ≡ close cs
Ends (indefinite_map false ∷ cs) to = to ≡ close cs
Ends _ to = ⊥

-- these bytes at the first position are this mark, and the second position follows
abbrev pub IsTaking : ℕ → Place → Mark → List ℕ → Place → Type 0
IsTaking d (at_item cs) (a_head m Indefinite n) bs to = (n ≡ 0) × (bs ≡ head m Indefinite 0) × Opens d cs m to
IsTaking d (at_item cs) (a_head m w n) bs to = (bs ≡ head m w n) × Holds w n × Follows d cs m w n to
IsTaking d (at_item cs) a_break bs to = (bs ≡ 0xff ∷ []) × Ends cs to
IsTaking d (in_chunks m cs) (a_chunk w n) bs to = (bs ≡ head m w n) × Holds w n × (to ≡ payload true m n cs)
IsTaking d (in_chunks m cs) a_break bs to = (bs ≡ 0xff ∷ []) × (to ≡ close cs)
IsTaking d (in_payload chunk m zero cs) a_byte bs to = (length bs ≡ 1) × (to ≡ close_string chunk m cs)
IsTaking d (in_payload chunk m (suc n) cs) a_byte bs to = (length bs ≡ 1) × (to ≡ in_payload chunk m n cs)
IsTaking d _ _ bs to = ⊥

-- ---- positions after the events reported

-- the position in an item whose bytes so far are these, with these marks
pub data IsPlaced (d : ℕ) : List ℕ → List Mark → Place → Type 0 where
  begins : IsPlaced d [] [] (at_item [])
  leads_on : (t bs : List ℕ) (ms : List Mark) (m : Mark) (p q : Place) → IsPlaced d t ms p → IsTaking d p m bs q → IsPlaced d (t ++ bs) (ms ++ m ∷ []) q

-- an event was reported at this position, and there is a position after it
pub record LeadsOn (e : Event) (c : Call) (bs : List ℕ) (p : Place) : Type 0 where
  pub to : Place
  pub placed : IsPlaced c.new.depth (c.taken ++ bs) (c.reported ++ marks_of e.width e.kind) to
  -- a head or a break is one mark; a piece has one mark for each of its bytes
  pub taking : IsExpected false e.kind → IsTaking c.old.depth p (mark_of e.width e.kind) bs to

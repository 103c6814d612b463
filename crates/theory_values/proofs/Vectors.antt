-- Examples of canonical bytes and of sameness.
use Rattle.std.proofs.Common.{◌≡◌, [], ◌∷◌, inl, inr, refl, sym, subst, arith}
use Rattle.cbor_head.specs.Prelude.{Value, Same, IsInRange, IsValid, map, no_values, a_value, canonical}
use Rattle.cbor_head.specs.Value.{unsigned, negative, bytes, text, array, simple, no_entries, entry}
use Rattle.cbor_head.specs.declared.order.KeyOrder.TheVariants.{Bytewise, LengthFirst}

-- the eight keys of RFC 8949, sections 4.2.1 and 4.2.3: {"aa": 1, 10: 2, 100: 3, -1: 4, "z": 5, [100]: 6, [-1]: 7, false: 8}
abbrev eight_keys : Value
eight_keys = map (entry (text (0x61 ∷ 0x61 ∷ [])) (unsigned 1) (entry (unsigned 10) (unsigned 2) (entry (unsigned 100) (unsigned 3) (entry (negative 0) (unsigned 4)
    (entry (text (0x7a ∷ [])) (unsigned 5) (entry (array (a_value (unsigned 100) no_values)) (unsigned 6) (entry (array (a_value (negative 0) no_values)) (unsigned 7) (entry (simple 20) (unsigned 8) no_entries))))))))

bytewise : canonical Bytewise eight_keys ≡ 0xa8 ∷ 0x0a ∷ 0x02 ∷ 0x18 ∷ 0x64 ∷ 0x03 ∷ 0x20 ∷ 0x04 ∷ 0x61 ∷ 0x7a ∷ 0x05 ∷ 0x62 ∷ 0x61 ∷ 0x61 ∷ 0x01 ∷ 0x81 ∷ 0x18 ∷ 0x64 ∷ 0x06 ∷ 0x81 ∷ 0x20 ∷ 0x07 ∷ 0xf4 ∷ 0x08 ∷ []
bytewise = refl

length_first : canonical LengthFirst eight_keys ≡ 0xa8 ∷ 0x0a ∷ 0x02 ∷ 0x20 ∷ 0x04 ∷ 0xf4 ∷ 0x08 ∷ 0x18 ∷ 0x64 ∷ 0x03 ∷ 0x61 ∷ 0x7a ∷ 0x05 ∷ 0x81 ∷ 0x20 ∷ 0x07 ∷ 0x62 ∷ 0x61 ∷ 0x61 ∷ 0x01 ∷ 0x81 ∷ 0x18 ∷ 0x64 ∷ 0x06 ∷ []
length_first = refl

-- {1: 2, -4: h''}, and its pairs exchanged
abbrev two_keys : Value
two_keys = map (entry (unsigned 1) (unsigned 2) (entry (negative 3) (bytes []) no_entries))

abbrev exchanged : Value
exchanged = map (entry (negative 3) (bytes []) (entry (unsigned 1) (unsigned 2) no_entries))

in_range : IsInRange two_keys
in_range = (omega arith, (omega arith, omega arith, (omega arith, (omega arith, tt), tt)))

valid : IsValid two_keys
valid = ((tt, tt, (tt, tt, tt)), ((λ k v h s. elim h [ inl e ↦ subst (Same (unsigned 1)) e.0 s | inr n ↦ n ]), ((λ k v h s. h), tt)))

same : Same two_keys exchanged
same = (
  (inr (inl (refl, refl)), (inl (refl, refl), tt)),
  λ k v h. elim h [
    | inl e ↦ inr (inl (subst (Same (negative 3)) (sym e.0) refl, subst (Same (bytes [])) (sym e.1) refl))
    | inr n ↦ elim n [ inl e ↦ inl (subst (Same (unsigned 1)) (sym e.0) refl, subst (Same (unsigned 2)) (sym e.1) refl) | inr m ↦ absurd m ]
  ],
)

-- {1: 2, 1: 2} is the same as {1: 2}, in other bytes: it is the maps without repeated keys whose bytes agree
abbrev once : Value
once = map (entry (unsigned 1) (unsigned 2) no_entries)

abbrev twice : Value
twice = map (entry (unsigned 1) (unsigned 2) (entry (unsigned 1) (unsigned 2) no_entries))

repeated : Same twice once
repeated = (
  (inl (refl, refl), (inl (refl, refl), tt)),
  λ k v h. elim h [
    | inl e ↦ inl (subst (Same (unsigned 1)) (sym e.0) refl, subst (Same (unsigned 2)) (sym e.1) refl)
    | inr m ↦ absurd m
  ],
)

other_bytes : canonical Bytewise twice ≡ canonical Bytewise once → ⊥
other_bytes e = cc

-- The first of several items, or of several pairs, and the others.
use Rattle.std.specs.Prelude.{ℕ, ◌≡◌, ◌-◌, List}
use Rattle.cbor_head.specs.{Value.a_value, Value.entry, declared.order.KeyOrder.KeyOrder}
use Rattle.cbor_cursor.specs.Decoded.{decoded, encoded, members_in, pairs_in}
use Rattle.cbor_cursor.specs.inner.Canonical.{IsCanonical, encoded_items, AreCanonical, AreCanonicalPairs}

pub record IsFirstMember (o : KeyOrder) (bytes : List ℕ) (count : ℕ) (item rest : List ℕ) : Type 0 where
  pub item_is : IsCanonical (encoded o item)
  pub rest_are : AreCanonical (encoded_items o rest (count - 1))
  pub values_are : members_in (encoded_items o bytes count) ≡ a_value (decoded item) (members_in (encoded_items o rest (count - 1)))

pub record IsFirstPair (o : KeyOrder) (bytes : List ℕ) (count : ℕ) (key value rest : List ℕ) : Type 0 where
  pub key_is : IsCanonical (encoded o key)
  pub value_is : IsCanonical (encoded o value)
  pub rest_are : AreCanonicalPairs (encoded_items o rest (count - 1))
  pub pairs_are : pairs_in (encoded_items o bytes count) ≡ entry (decoded key) (decoded value) (pairs_in (encoded_items o rest (count - 1)))

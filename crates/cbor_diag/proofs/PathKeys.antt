-- The text of a key.
use Rattle.std.proofs.Common.{ℕ, ◌<◌, ◌≤◌, ◌≡◌, ◌≢◌, ◌⊎◌, true, false, inl, inr, min, Option, List, ◌++◌, ◌-◌, length, take, drop, refl, sym, ap, ◌∙◌, subst, arith, codes}
use Rattle.std.{specs.Io.KnownBytes.Appends, proofs.KnownBytes.Appends-trans, proofs.lemmas.List.drop_all, proofs.lemmas.List.take_rest}
use Rattle.std.proofs.lemmas.Bool.{cases_lt}
use Rattle.cbor_head.specs.Prelude.{plain, Bounds, bounds, Value}
use Rattle.cbor_head.specs.declared.reason.{Reason.TheVariants.Memory, Refusal.Refusal}
use Rattle.theory_verdicts.specs.Readers.{IsReadAs, IsUnread}
use Rattle.cbor_diag.specs.ItemPath.{by_place, IsKeyText, short, hidden, long}
use Rattle.cbor_diag.specs.{Hidden.has_hidden, Text.text, inner.Written.Writes}

drop_within : (item : List ℕ) (place : ℕ) → drop (min (length item) place) item ≡ drop place item
drop_within item place = by (cases_lt place (length item))
  where
    by : (place < length item) ⊎ (length item ≤ place) → drop (min (length item) place) item ≡ drop place item
    by (inl l) = ap (λ n. drop n item) (omega (arith, l))
    by (inr l) = drop_all (min (length item) place) item (omega (arith, l)) ∙ sym (drop_all place item l)

-- what holds for a read from that offset
read_at : (P : Bounds → List ℕ → Type 0) (item : List ℕ) (place start : ℕ) (limits : Bounds) → start ≡ min (length item) place → limits ≡ bounds 256 64
    → P limits (take (length item - start) (drop start item)) → P (bounds 256 64) (drop place item)
read_at P item place start limits start_is limits_is read =
    let rest = take_rest item start ∙ ap (λ k. drop k item) start_is ∙ drop_within item place in
    subst (λ (l : Bounds). P l (drop place item)) limits_is (subst (P limits) rest read)

pub short_key : (item : List ℕ) (place start : ℕ) (limits : Bounds) → start ≡ min (length item) place → limits ≡ bounds 256 64 → (v : Value) (count : ℕ) (t : List ℕ) (a b c : Option (List ℕ))
    → IsReadAs limits plain (take (length item - start) (drop start item)) v count → t ≡ text v → has_hidden t ≡ false → Appends a b (codes ".") → Appends b c t
    → Writes (IsKeyText item place) a c
short_key item place start limits start_is limits_is v count t a b c read is shown p q = record {
  text = codes "." ++ t;
  is = short v count (read_at (λ l t. IsReadAs l plain t v count) item place start limits start_is limits_is read) (sym (ap has_hidden is) ∙ shown) (ap (λ t. codes "." ++ t) is);
  written = Appends-trans a b c (codes ".") t p q;
}

pub hidden_key : (item : List ℕ) (place start : ℕ) (limits : Bounds) → start ≡ min (length item) place → limits ≡ bounds 256 64 → (v : Value) (count : ℕ) (t : List ℕ)
    → IsReadAs limits plain (take (length item - start) (drop start item)) v count → t ≡ text v → has_hidden t ≡ true → IsKeyText item place (by_place place)
hidden_key item place start limits start_is limits_is v count t read is unshown =
    hidden v count (read_at (λ l t. IsReadAs l plain t v count) item place start limits start_is limits_is read) (sym (ap has_hidden is) ∙ unshown) refl

pub unread_key : (item : List ℕ) (place start : ℕ) (limits : Bounds) → start ≡ min (length item) place → limits ≡ bounds 256 64 → (f : Refusal)
    → IsUnread limits plain (take (length item - start) (drop start item)) f → f.reason ≢ Memory → IsKeyText item place (by_place place)
unread_key item place start limits start_is limits_is f u known = long f (read_at (λ l t. IsUnread l plain t f) item place start limits start_is limits_is u) known refl

-- Where bytes are refused by their form.
use Rattle.std.proofs.Common.{ℕ, ◌≤◌, inl, inr, List, [], ◌∷◌, length, ap, arith, length-append, length-take}
use Rattle.cbor_head.specs.Prelude.{form, Bounds, refused, IsFormError, IsVerdict}
use Rattle.cbor_head.specs.{Laws.Decides, declared.reason.Refusal.Refusal}
use Rattle.cbor_machine.proofs.Form.{never}

form_place : (limits : Bounds) (p following : List ℕ) (f : Refusal) → IsFormError limits p following f → f.place ≤ length p
form_place limits p (c ∷ rest) f (reason, why, e) = omega (arith, ap (λ (x : Refusal). x.place) e)
form_place limits p [] f (inl h) = omega (arith, h.0, ap (λ (x : Refusal). x.place) h.1)
form_place limits p [] f (inr h) = omega (arith, ap (λ (x : Refusal). x.place) h.1)

-- the form of an input is refused at an offset within it
pub place_within : (limits : Bounds) (prefix : List ℕ) (f : Refusal) → IsVerdict limits form prefix (refused f) → f.place ≤ length prefix
place_within limits prefix f v = by v.decides
  where
    by : Decides limits form v.p v.longest.rest v.item (refused f) → f.place ≤ length prefix
    by (inl (c, first, e)) = absurd (never limits v.item c first.holds)
    by (inr h) =
        omega (
          arith,
          form_place limits v.p v.longest.rest f h.2,
          ap length v.longest.splits,
          length-append v.p v.longest.rest,
          length-take limits.bytes prefix,
        )

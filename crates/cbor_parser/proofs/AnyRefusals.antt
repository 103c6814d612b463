-- What is returned where an item is expected, and which string is refused.
use Rattle.std.proofs.Common.{◌≡◌, ℕ, ◌+◌, ◌-◌, ◌≤◌, Bool, List, ◌∷◌, length, take, get_or, refl, sym, ap, ◌∙◌, subst, inl, inr, arith}
use Rattle.std.specs.Str.Lossy.{utf8_valid_len}
use Rattle.cbor_head.specs.declared.reason.Reason.TheVariants as reasons
use Rattle.cbor_head.specs.{Prelude.refusal, declared.reason.Refusal.Refusal, declared.argument.Argument.Argument}
use Rattle.theory_verdicts.proofs.RefusedHere.{refused_same, payload_cut_here, no_text_here}
use Rattle.cbor_parser.specs.Strings.{IsStringHead, IsStringFault, IsStringRefused}
use Rattle.cbor_parser.specs.{inner.Items.IsStart, declared.item_start.ItemStart.ItemStart}

-- what is returned
pub returned : (space : Bool) (b c : List ℕ) (result outcome : ItemStart) → b ≡ c → result ≡ outcome → IsStart c space outcome → IsStart b space result
returned space b c result outcome e is h = subst (IsStart b space) (sym is) (subst (λ (x : List ℕ). IsStart x space outcome) (sym e) h)

-- the string with this head
pub string_refused : (b : List ℕ) (h : Argument) (at : ℕ) (f : Refusal) → IsStringHead b h → IsStringFault b h at f → IsStringRefused b h at f
string_refused b h at f s (inl x) = λ r space texts quiet.
    refused_same r space at b (s.first ∷ s.following) _ f s.is x.is
    (payload_cut_here r space s.first s.following at h.width h.number h.rest.now s.argument s.fewer quiet s.low s.high x.less (at + length b) (ap (λ (y : List ℕ). at + length y) s.is))
string_refused b h at f s (inr x) = λ r space texts quiet.
    let used = length b - length h.rest.now in
    let text : 96 ≤ s.first = let high = x.text in omega (arith, high, ap (λ (y : List ℕ). get_or y 0 0) s.is) in
    let end : at + used + h.number ≡ at + (used + h.number) = omega arith in
    refused_same r space at b (s.first ∷ s.following) _ f s.is (x.is ∙ ap (refusal reasons.InvalidText (at + used + utf8_valid_len (take h.number h.rest.now))) end)
    (no_text_here r space s.first s.following at h.width h.number h.rest.now s.argument s.fewer quiet s.low s.high texts text x.inside used _ _ (ap (λ (y : List ℕ). length y - length h.rest.now) s.is) x.none refl refl)

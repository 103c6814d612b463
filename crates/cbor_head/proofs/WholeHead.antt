-- Which bytes are one definite head.
use Rattle.std.proofs.Common.{ℕ, ◌≡◌, List, ◌++◌, Some, refl, sym, ap, ◌∙◌, subst}
use Rattle.cbor_head.specs.Prelude.{Holds, IsHead, head, HoldsOrIndefinite}
use Rattle.cbor_head.specs.Read.{Prefix, prefix, read_head}
use Rattle.cbor_head.specs.declared.{major.Major.Major, major.Major.TheVariants.Simple, width.Width.Width}
use Rattle.cbor_head.specs.declared.width.Width.TheVariants.{One, Indefinite}
use Rattle.cbor_head.proofs.{HeadLaws.reported, HeadLaws.read_head-head, Least.least}

-- a definite head has space for its argument
pub head_holds : (m : Major) (w : Width) (n : ℕ) → IsHead m w n → Holds w n
head_holds Simple w n h = subst (λ (v : Width). Holds v n) (sym h.1) (least Simple One n h.0.0).0
head_holds m w n h = h

reported_of : (w : Width) (n : ℕ) → Holds w n → HoldsOrIndefinite w n × (reported w n ≡ n)
reported_of Indefinite n h = absurd h
reported_of w n h = (h, refl)

-- a definite head is read, whatever follows it
pub head_reads : (m : Major) (w : Width) (n : ℕ) (x : List ℕ) → IsHead m w n → read_head (head m w n ++ x) ≡ Some (prefix m w n x)
head_reads m w n x h =
    let t = reported_of w n (head_holds m w n h) in
    read_head-head m w n x t.0 ∙ ap (λ (k : ℕ). Some (prefix m w k x)) t.1

some_prefix : {f g : Prefix} → Some f ≡ Some g → f ≡ g
some_prefix e = cc e

-- two definite heads that bytes begin with are the same
pub one_head : (l m : Major) (v w : Width) (k n : ℕ) (x y : List ℕ) → IsHead l v k → IsHead m w n → head l v k ++ x ≡ head m w n ++ y → (l ≡ m) × (v ≡ w) × (k ≡ n) × (x ≡ y)
one_head l m v w k n x y g h e =
    let same : prefix l v k x ≡ prefix m w n y = some_prefix (sym (head_reads l v k x g) ∙ ap read_head e ∙ head_reads m w n y h) in
    (ap (λ (f : Prefix). f.major) same, ap (λ (f : Prefix). f.width) same, ap (λ (f : Prefix). f.argument) same, ap (λ (f : Prefix). f.rest) same)

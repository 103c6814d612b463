-- The head that any bytes begin with: its first byte, and that there is only one.
use Rattle.std.proofs.Common.{◌≡◌, ◌↔◌, ℕ, ◌+◌, ◌-◌, ◌*◌, ◌/◌, ◌%◌, ◌^◌, ◌<◌, ◌≤◌, List, ◌∷◌, ◌++◌, length, drop, length-drop, refl, sym, ap, ◌∙◌, arith, subst}
use Rattle.std.specs.Int.{bytes_high_first}
use Rattle.cbor_head.specs.Head.{Holds, head, major_number}
use Rattle.cbor_head.specs.declared.width.Width.TheVariants.{Direct, One, Two, Four, Eight, Indefinite}
use Rattle.cbor_head.specs.{Argument.IsArgument, Read.major_of, declared.major.Major.Major, declared.major.Major.TheVariants.Unsigned}
use Rattle.cbor_head.{specs.declared.width.Width.Width, proofs.Arguments.reads_head, proofs.Arguments.head_here}
use Rattle.cbor_cursor.specs.WellFormed.{BeginsWithHead}

-- the low bits of its first byte, and its argument, which follows that byte
record Starts (m : Major) (w : Width) (n : ℕ) (bytes content : List ℕ) : Type 0 where
  low : ℕ
  small : low < 28
  after : List ℕ
  bytes_are : bytes ≡ (32 * major_number m + low) ∷ after
  argument : IsArgument low after w n content
  two_bytes : (low ≡ 24) ↔ (w ≡ One)

starts : (m : Major) (w : Width) (n : ℕ) (bytes content : List ℕ) → Holds w n → bytes ≡ head m w n ++ content → Starts m w n bytes content
starts m Direct n bytes content h e = record { low = n; small = omega (arith, h); after = content; bytes_are = e; argument = record { spelled = λ f. refl; holds = h }; two_bytes = (λ e. absurd (omega (arith, e, h)), λ e. absurd (cc e)) }
starts m One n bytes content h e = record { low = 24; small = omega (arith, h); after = bytes_high_first 1 n ++ content; bytes_are = e; argument = record { spelled = λ f. refl; holds = h }; two_bytes = (λ _. refl, λ _. refl) }
starts m Two n bytes content h e = record { low = 25; small = omega (arith, h); after = bytes_high_first 2 n ++ content; bytes_are = e; argument = record { spelled = λ f. refl; holds = h }; two_bytes = (λ e. absurd (omega (arith, e)), λ e. absurd (cc e)) }
starts m Four n bytes content h e = record { low = 26; small = omega (arith, h); after = bytes_high_first 4 n ++ content; bytes_are = e; argument = record { spelled = λ f. refl; holds = h }; two_bytes = (λ e. absurd (omega (arith, e)), λ e. absurd (cc e)) }
starts m Eight n bytes content h e = record { low = 27; small = omega (arith, h); after = bytes_high_first 8 n ++ content; bytes_are = e; argument = record { spelled = λ f. refl; holds = h }; two_bytes = (λ e. absurd (omega (arith, e)), λ e. absurd (cc e)) }
starts m Indefinite n bytes content h e = absurd h

first_is : (a b : ℕ) (xs ys : List ℕ) → a ∷ xs ≡ b ∷ ys → a ≡ b
first_is a b xs ys e = cc e

others_are : (a b : ℕ) (xs ys : List ℕ) → a ∷ xs ≡ b ∷ ys → xs ≡ ys
others_are a b xs ys e = cc e

-- none begins at the end
pub none_at_end : (bytes : List ℕ) (offset kind argument : ℕ) (content : List ℕ) → length bytes ≤ offset → BeginsWithHead (drop offset bytes) kind argument content → ⊥
none_at_end bytes offset kind argument content l b =
    omega (arith, l, length-drop offset bytes, ap length (starts b.major b.width argument (drop offset bytes) content b.holds b.bytes_are).bytes_are)

moved_argument : (low lower : ℕ) (after later : List ℕ) (w : Width) (n : ℕ) (x : List ℕ) → low ≡ lower → after ≡ later → IsArgument low after w n x → IsArgument lower later w n x
moved_argument low lower after later w n x e f a = subst (λ (l : ℕ). IsArgument l later w n x) e (subst (λ (ys : List ℕ). IsArgument low ys w n x) f a)

moved_space : (low lower : ℕ) (after later : List ℕ) → low ≡ lower → after ≡ later → (24 ≤ lower → 2 ^ (lower - 24) ≤ length later) → 24 ≤ low → 2 ^ (low - 24) ≤ length after
moved_space low lower after later e f s =
    subst (λ (ys : List ℕ). 24 ≤ low → 2 ^ (low - 24) ≤ length ys) (sym f) (subst (λ (l : ℕ). 24 ≤ l → 2 ^ (l - 24) ≤ length later) (sym e) s)

-- the head that is read: its argument is the only one, and a simple value of two bytes is at least 32
pub record IsRead (first : ℕ) (after : List ℕ) (kind argument : ℕ) (content : List ℕ) : Type 0 where
  pub type : first / 32 ≡ kind
  pub low : first % 32 < 28
  pub space : 24 ≤ first % 32 → 2 ^ (first % 32 - 24) ≤ length after
  pub only : (w : Width) (n : ℕ) (x : List ℕ) → IsArgument (first % 32) after w n x → (n ≡ argument) × (x ≡ content)
  pub simple : first ≡ 248 → 32 ≤ argument

pub is_read : (first : ℕ) (after : List ℕ) (kind argument : ℕ) (content : List ℕ) → BeginsWithHead (first ∷ after) kind argument content → IsRead first after kind argument content
is_read first after kind argument content b =
    let s = starts b.major b.width argument (first ∷ after) content b.holds b.bytes_are in
    let r = reads_head (0 + s.low) s.after Unsigned b.width argument content s.argument.holds (s.argument.spelled 0) in
    let f = first_is _ _ _ _ s.bytes_are in
    let same = others_are _ _ _ _ s.bytes_are in
    let low : first % 32 ≡ (0 + s.low) % 32 = omega (arith, f, s.small) in
    record {
      type = omega (arith, f, s.small, b.kind_is);
      low = omega (arith, low, s.small);
      space = moved_space (first % 32) ((0 + s.low) % 32) after s.after low same r.space;
      only = λ w n x a. (
          let t = r.only w n x (moved_argument (first % 32) ((0 + s.low) % 32) after s.after w n x low same a) in
          (t.1, t.2));
      simple = λ e. b.simple (omega (arith, e, f, s.small, b.kind_is)) (s.two_bytes.0 (omega (arith, e, low, s.small)));
    }

-- the head that an argument ends
pub a_head_of : (first : ℕ) (after : List ℕ) (w : Width) (n : ℕ) (x : List ℕ) → first < 256 → IsArgument (first % 32) after w n x → (first ≡ 248 → 32 ≤ n) → BeginsWithHead (first ∷ after) (first / 32) n x
a_head_of first after w n x small a l =
    let e = head_here first after w n x small a in
    let s = starts (major_of (first / 32)) w n (first ∷ after) x a.holds e in
    let f = first_is _ _ _ _ s.bytes_are in
    record {
      major = major_of (first / 32);
      width = w;
      holds = a.holds;
      kind_is = omega (arith, f, s.small);
      simple = λ k one. l (omega (arith, k, f, s.small, s.two_bytes.1 one));
      bytes_are = e;
    }

-- there is only one
pub same_head : (bytes : List ℕ) (k n : ℕ) (x : List ℕ) (l m : ℕ) (y : List ℕ) → BeginsWithHead bytes k n x → BeginsWithHead bytes l m y → (k ≡ l) × (n ≡ m) × (x ≡ y)
same_head bytes k n x l m y a b =
    let s = starts a.major a.width n bytes x a.holds a.bytes_are in
    let t = starts b.major b.width m bytes y b.holds b.bytes_are in
    let both = sym s.bytes_are ∙ t.bytes_are in
    let first = first_is _ _ _ _ both in
    let low : t.low ≡ (0 + s.low) % 32 = omega (arith, first, s.small, t.small) in
    let u = (reads_head (0 + s.low) s.after Unsigned a.width n x s.argument.holds (s.argument.spelled 0)).only b.width m y (moved_argument t.low ((0 + s.low) % 32) t.after s.after b.width m y low (sym (others_are _ _ _ _ both)) t.argument) in
    (omega (arith, first, s.small, t.small, a.kind_is, b.kind_is), sym u.1, sym u.2)

-- One put after another.
use Rattle.std.proofs.Common.{◌≡◌, ℕ, ◌+◌, ◌<◌, List, [], ◌++◌, length, take, drop, Option, Bool, false, Result, Ok, Err, sym, ap, ◌∙◌, subst, append_assoc, append-nil, length-append, length-drop, take-append-drop, arith, length-take-le, MatchResult}
use Rattle.std.specs.Result.{OnErr, is_ok}
use lib.Seq.{take-append_seam}
use Rattle.std.{specs.Io.KnownBytes.Appends, proofs.KnownBytes.Appends-nil, proofs.KnownBytes.Appends-trans}
use Rattle.cbor_item.specs.Sent.{stopped_at}
use Rattle.cbor_listing.specs.Written.{capped}
use Rattle.cbor_diag.specs.inner.Outbox.{HasPut, HasStopped, Puts}
use Rattle.cbor_diag.specs.{declared.outbox.Stopped.Stopped, Written.Writes, declared.outbox.Outbox.Outbox}

-- what the writer accepted, and then the rest of it
regroup : (took more waits w xs ys : List ℕ) (mid : List ℕ) → took ++ mid ≡ w ++ xs → more ++ waits ≡ mid ++ ys → (took ++ more) ++ waits ≡ w ++ (xs ++ ys)
regroup took more waits w xs ys mid p q =
    append_assoc took more waits ∙ ap (λ (l : List ℕ). took ++ l) q ∙ sym (append_assoc took mid ys) ∙ ap (λ (l : List ℕ). l ++ ys) p ∙ append_assoc w xs ys

counts : (m n : List ℕ) (k : ℕ) → capped ((k + length m) + length n) ≡ capped (k + length (m ++ n))
counts m n k = let l = length-append m n in omega (arith, l)

pub puts-nothing : (a : Option (List ℕ)) (s : Outbox) → HasPut a a s s []
puts-nothing a s = record {
  took = [];
  appended = Appends-nil a;
  others = sym (append-nil s.waiting.items);
  counted = λ k e. e ∙ omega arith;
}

pub puts-then : (a b c : Option (List ℕ)) (s t u : Outbox) (xs ys : List ℕ) → HasPut a b s t xs → HasPut b c t u ys → HasPut a c s u (xs ++ ys)
puts-then a b c s t u xs ys p q = record {
  took = p.took ++ q.took;
  appended = Appends-trans a b c p.took q.took p.appended q.appended;
  others = regroup p.took q.took u.waiting.items s.waiting.items xs ys t.waiting.items p.others q.others;
  counted = λ k e. q.counted (k + length p.took) (p.counted k e) ∙ counts p.took q.took k;
}

pub puts-stops : (a b c : Option (List ℕ)) (s t : Outbox) (xs ys : List ℕ) (e : Outbox) → HasPut a b s t xs → HasStopped b c t ys e → HasStopped a c s (xs ++ ys) e
puts-stops a b c s t xs ys e p q = record {
  took = p.took ++ q.took;
  others = q.others;
  appended = Appends-trans a b c p.took q.took p.appended q.appended;
  prefix = regroup p.took q.took q.others s.waiting.items xs ys t.waiting.items p.others q.prefix;
  not_all = q.not_all;
  counted = λ k f. q.counted (k + length p.took) (p.counted k f) ∙ counts p.took q.took k;
}

pub puts-next : (a b c : Option (List ℕ)) (s t u : Outbox) (xs ys : List ℕ) (r : Result (Unit {0}) Stopped) → HasPut a b s t xs → Puts b c t u ys r → Puts a c s u (xs ++ ys) r
puts-next a b c s t u xs ys (Ok x) p q = puts-then a b c s t u xs ys p q
puts-next a b c s t u xs ys (Err e) p q = puts-stops a b c s t xs ys u p q

-- a writer that stopped stops for more bytes too
pub stops-more : (a b : Option (List ℕ)) (s : Outbox) (xs ys : List ℕ) (e : Outbox) → HasStopped a b s xs e → HasStopped a b s (xs ++ ys) e
stops-more a b s xs ys e p =
    let not_all = p.not_all in
    record {
      took = p.took;
      others = p.others ++ ys;
      appended = p.appended;
      prefix = sym (append_assoc p.took p.others ys) ∙ ap (λ (l : List ℕ). l ++ ys) p.prefix ∙ append_assoc s.waiting.items xs ys;
      not_all = omega (arith, length-append p.others ys);
      counted = p.counted;
    }

-- ---- the bytes that waited were written, or some of them

abbrev pub SentSome : Option (List ℕ) → Option (List ℕ) → ℕ → List ℕ → ℕ → Type 0
SentSome a b taken bytes total = (n : ℕ) × (total ≡ capped (taken + n)) × (n < length bytes) × Appends a b (take n bytes)

-- some of the bytes were written, with nothing waiting before them
pub sent-some : (a b : Option (List ℕ)) (s : Outbox) (bytes whole : List ℕ) (e : Outbox) → bytes ≡ s.waiting.items ++ whole → SentSome a b s.taken bytes e.taken → HasStopped a b s whole e
sent-some a b s bytes whole e is sent =
    let few = sent.2 in
    let exactly : length (take sent.0 bytes) ≡ sent.0 = length-take-le sent.0 bytes (omega arith) in
    record {
      took = take sent.0 bytes;
      others = drop sent.0 bytes;
      appended = sent.3;
      prefix = take-append-drop sent.0 bytes ∙ is;
      not_all = omega (arith, length-drop sent.0 bytes);
      counted = λ k f. sent.1 ∙ omega (arith, f, exactly);
    }

-- nothing waited, and the bytes were written
pub sent-past : (a b : Option (List ℕ)) (s t : Outbox) (bytes : List ℕ) → s.waiting.items ≡ [] → t.waiting.items ≡ [] → t.taken ≡ capped (s.taken + length bytes) → Appends a b bytes → HasPut a b s t bytes
sent-past a b s t bytes none still counted out = record {
  took = bytes;
  appended = out;
  others = ap (λ (l : List ℕ). bytes ++ l) still ∙ append-nil bytes ∙ ap (λ (l : List ℕ). l ++ bytes) (sym none);
  counted = λ k e. counted ∙ omega (arith, e);
}

-- the bytes that waited were written, and then the new ones, or not all of them
pub sends-past : (a b c : Option (List ℕ)) (s t u : Outbox) (bytes : List ℕ) (r : Result (Unit {0}) Stopped) → HasPut a b s t [] → t.waiting.items ≡ [] → u.waiting.items ≡ []
    → MatchResult r (λ x. (u.taken ≡ capped (t.taken + length bytes)) × Appends b c bytes) (λ e. SentSome b c t.taken bytes u.taken) → Puts a c s u bytes r
sends-past a b c s t u bytes (Ok x) p none still h = puts-then a b c s t u [] bytes p (sent-past b c t u bytes none still h.0 h.1)
sends-past a b c s t u bytes (Err e) p none still h = puts-stops a b c s t [] bytes u p (sent-some b c t bytes bytes u (ap (λ (l : List ℕ). l ++ bytes) (sym none)) h)

pub where_err : {T E P : Type 0} (r : Result T E) (b : Bool) → b ≡ false → b ≡ is_ok r → OnErr r P → P
where_err (Ok x) b f e h = absurd (cc (sym f ∙ e))
where_err (Err x) b f e h = h

pub puts-from : (a b : Option (List ℕ)) (s t u : Outbox) (xs : List ℕ) (r : Result (Unit {0}) Stopped) → t ≡ s → Puts a b t u xs r → Puts a b s u xs r
puts-from a b s t u xs r is p = subst (λ (o : Outbox). Puts a b o u xs r) is p

-- ---- from an empty outbox to the whole text

pub writes-stopped : (a b : Option (List ℕ)) (s e : Outbox) (text : List ℕ) (place : ℕ) → place ≡ e.taken → s.waiting.items ≡ [] → s.taken ≡ 0 → HasStopped a b s text e → Writes a b text (Err (stopped_at place))
writes-stopped a b s e text place is none start p =
    let not_all = p.not_all in
    let prefix : p.took ++ p.others ≡ text = p.prefix ∙ ap (λ (l : List ℕ). l ++ text) none in
    let taken : take (length p.took) text ≡ p.took = ap (take (length p.took)) (sym prefix) ∙ take-append_seam p.took p.others in (
      length p.took,
      ap stopped_at (is ∙ p.counted 0 start ∙ omega arith),
      omega (arith, ap length prefix, length-append p.took p.others),
      subst (λ (l : List ℕ). Appends a b l) (sym taken) p.appended,
    )

pub writes-all : (a b : Option (List ℕ)) (s t : Outbox) (text : List ℕ) → s.waiting.items ≡ [] → s.taken ≡ 0 → t.waiting.items ≡ [] → HasPut a b s t text → (t.taken ≡ capped (length text)) × Appends a b text
writes-all a b s t text none start gone p =
    let took : p.took ≡ text = sym (append-nil p.took) ∙ ap (λ (l : List ℕ). p.took ++ l) (sym gone) ∙ p.others ∙ ap (λ (l : List ℕ). l ++ text) none in (
      p.counted 0 start ∙ omega (arith, ap length took),
      subst (λ (l : List ℕ). Appends a b l) took p.appended,
    )

-- the bytes that waited at the end of the text were written, or not all of them
pub flush-puts : (a b c : Option (List ℕ)) (s t u : Outbox) (text : List ℕ) (r : Result (Unit {0}) Stopped) → HasPut a b s t text → Puts b c t u [] r → Puts a c s u text r
flush-puts a b c s t u text r p q = subst (λ (l : List ℕ). Puts a c s u l r) (append-nil text) (puts-next a b c s t u text [] r p q)

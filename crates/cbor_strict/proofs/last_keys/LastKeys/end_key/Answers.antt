use Rattle.std.proofs.Common.{◌≡◌, ◌<◌, ◌+◌, ◌-◌, ℕ, zero, suc, List, [], ◌∷◌, ◌++◌, length, take, drop, IsTrue, ◌∙◌, true≢false, refl, sym, ap, subst, arith, take-append-drop, slice_index_or}
use Rattle.cbor_head.specs.Prelude.{key_lt, Spelling, SpelledEntries, spell}
use Rattle.cbor_head.specs.declared.{order.KeyOrder.KeyOrder, width.Width.Width}
use Rattle.theory_verdicts.specs.Frame.{Frame, a_key, a_content}
use Rattle.theory_verdicts.{specs.LastKey.last_key, proofs.LastKey.nothing-below}
use Rattle.cbor_strict.specs.inner.LastKeys.{KeysView, IsKept, view_value, with_key}
use Rattle.cbor_strict.proofs.KeptPairs.{key_bounds, key_compared, key_put_in, key_put_out, ended_bounds}
use Rattle.cbor_strict.proofs.last_keys.LastKeys.end_key.Goals as goal
use Rattle.cbor_strict.{specs.declared.last_keys.KeySpan.KeySpan, proofs.KeptKeys.none_open}

pub rises-requires-clause-last : goal.rises-requires-clause-last
rises-requires-clause-last c =
    let q = ended_bounds (view_value c.args.self.now) c.requires c.in-Some.last.now (rw c.deref.ensures.value at c.in-Some.ensures.item.1) in
    omega (arith, q.1, q.2)

pub rises-requires-clause-next : goal.rises-requires-clause-next
rises-requires-clause-next c = (ended_bounds (view_value c.args.self.now) c.requires c.in-Some.last.now (rw c.deref.ensures.value at c.in-Some.ensures.item.1)).2

pub overflow_sub-result : goal.overflow_sub-result
overflow_sub-result c =
    let q = ended_bounds (view_value c.args.self.now) c.requires c.in-Some.last.now (rw c.deref.ensures.value at c.in-Some.ensures.item.1) in
    omega (arith, q.2, c.len.ensures, c.args.self.now.bytes.ok.0)

pub cut_out-requires-clause-order : goal.cut_out-requires-clause-order
cut_out-requires-clause-order c =
    let q = ended_bounds (view_value c.args.self.now) c.requires c.in-Some.last.now (rw c.deref.ensures.value at c.in-Some.ensures.item.1) in
    omega (arith, q.0, q.1)

pub cut_out-requires-clause-within : goal.cut_out-requires-clause-within
cut_out-requires-clause-within c = (ended_bounds (view_value c.args.self.now) c.requires c.in-Some.last.now (rw c.deref.ensures.value at c.in-Some.ensures.item.1)).2

module _ (k : KeysView) (w : Width) (a : SpelledEntries) (v : Spelling) (b : SpelledEntries) (fs : List Frame) (s : Spelling) (sp : KeySpan) (h : IsKept k (a_key w a v b ∷ fs) (spell s))
    (g : sp ≡ slice_index_or k.spans (length k.spans - 1) sp) (first : sp.from ≡ sp.next) where
  -- the first key of a map is stored where it is
  first_kept : (keys : ℕ) → keys + 1 ≡ k.open_keys → IsKept (with_key (record k { open_keys = keys }) sp.next) (a_content w a s b ∷ fs) []
  first_kept zero less =
      subst (λ n. IsKept (with_key (record k { open_keys = 0 }) n) (a_content w a s b ∷ fs) []) first
      (key_put_out k w a v b fs s sp h g 0 k.bytes less refl (sym (take-append-drop sp.from k.bytes) ∙ ap (λ n. take sp.from k.bytes ++ drop n k.bytes) first))
  first_kept (suc n) less = key_put_in k w a v b fs s sp h g (suc n) less (omega arith)

  -- and is compared with none
  first_rises : (o : KeyOrder) → sp.next < length k.bytes → IsTrue (key_lt o (last_key a) (spell s))
  first_rises o some =
      let q = key_bounds k w a v b fs s sp h g in
      let m = key_compared k w a v b fs s sp h g in
      let none : sp.to - sp.from ≡ 0 = omega (arith, q.0, q.1, first) in
      let last : last_key a ≡ [] = sym m.0 ∙ ap (λ n. take n (drop sp.from k.bytes)) none in
      subst (λ xs. IsTrue (key_lt o xs (spell s))) (sym last) (nothing-below o (spell s) (omega (arith, q.2, some)))

pub returns-then-is_first : goal.returns-then-is_first
returns-then-is_first c = λ w a v b fs s h.
    let g = rw c.deref.ensures.value at c.in-Some.ensures.item.1 in
    let k = view_value c.args.self.now in
    let sp = c.in-Some.last.now in
    let f = c.is_first.ensures.0 c.if-is_first.true in (
      first_rises k w a v b fs s sp h g f.0 c.args.order f.1,
      rw c.put_key.ensures (first_kept k w a v b fs s sp h g f.0 _ (omega (arith, h.open_keys))),
    )

pub returns-then-not-rises : goal.returns-then-not-rises
returns-then-not-rises c = λ w a v b fs s h.
    let g = rw c.deref.ensures.value at c.in-Some.ensures.item.1 in
    let q = key_bounds (view_value c.args.self.now) w a v b fs s c.in-Some.last.now h g in
    let m = key_compared (view_value c.args.self.now) w a v b fs s c.in-Some.last.now h g in (
      λ y. true≢false (sym (c.rises.ensures.1 (rw (m.0, m.1) y)) ∙ c.if-not-rises.true),
      omega (arith, q.2, c.len.ensures, c.args.self.now.bytes.ok.0),
    )

pub returns-then-is_inside : goal.returns-then-is_inside
returns-then-is_inside c = λ w a v b fs s h.
    let g = rw c.deref.ensures.value at c.in-Some.ensures.item.1 in
    let m = key_compared (view_value c.args.self.now) w a v b fs s c.in-Some.last.now h g in (
      rw (← m.0, ← m.1) (c.rises.ensures.0 c.if-not-rises.false),
      rw c.put_key-then-is_inside.ensures (key_put_in (view_value c.args.self.now) w a v b fs s c.in-Some.last.now h g _ (omega (arith, h.open_keys)) (c.is_inside.ensures.0 c.if-is_inside.true)),
    )

pub returns : goal.returns
returns c = λ w a v b fs s h.
    let g = rw c.deref.ensures.value at c.in-Some.ensures.item.1 in
    let m = key_compared (view_value c.args.self.now) w a v b fs s c.in-Some.last.now h g in (
      rw (← m.0, ← m.1) (c.rises.ensures.0 c.if-not-rises.false),
      rw c.put_key-2.ensures (key_put_out (view_value c.args.self.now) w a v b fs s c.in-Some.last.now h g _ c.cut_out.new.bytes.items (omega (arith, h.open_keys)) (none_open _ c.is_inside.result c.is_inside.ensures c.if-is_inside.false) c.cut_out.ensures),
    )

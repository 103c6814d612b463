-- How the parts of a payload change the state.
use Rattle.std.proofs.Common.{◌≡◌, ℕ, ◌+◌, ◌-◌, ◌<◌, ◌≤◌, Bool, true, false, Option, List, ◌++◌, length, refl, sym, ap, ◌∙◌, subst, inl, inr, arith, append_assoc, IsUtf8, length-append}
use Rattle.std.specs.Str.Lossy.{utf8_valid_len}
use Rattle.cbor_head.specs.Prelude.{Holds, head, Bounds, AreBytes, spell, strict, OfHead, Complains, refusal}
use Rattle.cbor_head.specs.declared.{order.KeyOrder.KeyOrder, reason.Reason.TheVariants.Memory, reason.Reason.TheVariants.InvalidText, reason.Refusal.Refusal}
use Rattle.theory_values.proofs.ByteLists.{bytes_join}
use Rattle.cbor_text.specs.TextCheck.{HasChecked}
use Rattle.cbor_machine.specs.NextEvent.{ItemEventsView}
use Rattle.theory_verdicts.specs.Reading.{AreRefused, IsAt, string_major}
use Rattle.theory_verdicts.proofs.WholeStrings.{StringHead, made_of, made-spells, made-spelled, made-flat, made-clean, string-undecided, text-judged}
use Rattle.theory_verdicts.{specs.Place.close, specs.Place.payload, specs.Frame.Frame, specs.Judged.Never, proofs.Scalars.at-as, proofs.Steps.at-reached}
use Rattle.theory_verdicts.proofs.Undecided.{is-part}
use Rattle.cbor_strict.specs.inner.OpenItems.{frames_in, bytes_before, Agrees, HasEnded, HasPartCome}
use Rattle.cbor_strict.specs.{declared.last_keys.LastKeys.LastKeys, declared.open_items.OpenItems.OpenItems, inner.LastKeys.view_value, inner.LastKeys.IsKept}
use Rattle.cbor_strict.proofs.{OpenHeads.refused_part, OpenHeads.memory_part, OpenStates.around_as}

module _ (v : OpenItems) (b : Bounds) (old : ItemEventsView) (t x : List ℕ) (e : ItemEventsView) (h : HasPartCome v b old t x e) where
  abbrev hd : List ℕ
  hd = head (string_major v.is_text) h.expected.w h.expected.n

  bytes_so : t ++ x ≡ bytes_before h.expected.fs ++ (hd ++ (h.expected.q ++ x))
  bytes_so = ap (λ (y : List ℕ). y ++ x) h.expected.taken ∙ append_assoc (bytes_before h.expected.fs) (hd ++ h.expected.q) x ∙ ap (λ (y : List ℕ). bytes_before h.expected.fs ++ y) (append_assoc hd h.expected.q x)

  all_bytes : AreBytes (h.expected.q ++ x)
  all_bytes = bytes_join h.expected.q x h.expected.are_bytes h.are_bytes

  head_is : StringHead (strict v.order) b (frames_in h.expected.fs) (bytes_before h.expected.fs) hd h.expected.w v.is_text h.expected.n (payload false (string_major v.is_text) h.expected.n (frames_in h.expected.fs))
  head_is = record { bytes_are = refl; holds = h.expected.holds; follows = refl; clean = h.expected.clean }

  -- the payload is among what was taken
  pub part_space : (taken : ℕ) → taken ≡ e.machine.taken → length (h.expected.q ++ x) ≤ taken
  part_space taken all =
      omega (arith, all, h.at.agrees.agrees.taken, ap length bytes_so, length-append (bytes_before h.expected.fs) (hd ++ (h.expected.q ++ x)), length-append hd (h.expected.q ++ x))

  pub part_no_memory : (f : Refusal) (taken : ℕ) (to : Option (List ℕ)) → taken ≡ e.machine.taken → f ≡ refusal Memory taken taken → AreRefused (strict v.order) b (t ++ x) to f
  part_no_memory f taken to all is =
      let part = is-part h.expected.n (h.expected.q ++ x) (omega (arith, length-append h.expected.q x, h.some)) (omega (arith, length-append h.expected.q x, h.expected.count, h.fits)) all_bytes in
      memory_part v.order b h.expected.fs h.expected.around.are h.expected.around.distinct (hd ++ (h.expected.q ++ x)) (t ++ x) to f taken bytes_so (all ∙ h.at.agrees.agrees.taken) is (at-reached b e (t ++ x) _ h.at)
      (string-undecided (strict v.order) b (frames_in h.expected.fs) (bytes_before h.expected.fs) hd h.expected.w v.is_text h.expected.n _ head_is (h.expected.q ++ x) part)

  module _ (new : OpenItems) (keys : LastKeys) (same_order : new.order ≡ v.order) (same_keys : new.keys ≡ keys) (same_text : new.is_text ≡ v.is_text) (left : new.left + length x ≡ v.left)
      (kept : (fs : List Frame) (p : List ℕ) → IsKept (view_value v.keys) fs p → IsKept (view_value keys) fs (p ++ x)) where
    kept_so : IsKept (view_value new.keys) h.expected.fs (hd ++ (h.expected.q ++ x))
    kept_so = subst (λ (y : LastKeys). IsKept (view_value y) h.expected.fs (hd ++ (h.expected.q ++ x))) (sym same_keys) (subst (IsKept (view_value keys) h.expected.fs) (append_assoc hd h.expected.q x) (kept h.expected.fs (hd ++ h.expected.q) h.expected.kept))

    at_so : IsAt b e (t ++ x) (payload false (string_major v.is_text) new.left (frames_in h.expected.fs))
    at_so =
        let rest : v.left - length x ≡ new.left = omega (arith, left) in
        at-as b e (t ++ x) (t ++ x) _ (payload false (string_major v.is_text) new.left (frames_in h.expected.fs)) refl (ap (λ (n : ℕ). payload false (string_major v.is_text) n (frames_in h.expected.fs)) rest) h.at

    -- more is expected
    pub part_goes_on : 0 < new.left → ((q : List ℕ) → v.is_text ≡ true → HasChecked v.check q → HasChecked new.check (q ++ x)) → Agrees new b e (t ++ x)
    part_goes_on some checked =
        let heads : head (string_major v.is_text) h.expected.w h.expected.n ≡ head (string_major new.is_text) h.expected.w h.expected.n = ap (λ (y : Bool). head (string_major y) h.expected.w h.expected.n) (sym same_text) in
        inr (inl (record {
          fs = h.expected.fs;
          around = around_as v.order new b h.expected.fs (sym same_order) h.expected.around.are h.expected.around.distinct;
          w = h.expected.w;
          n = h.expected.n;
          q = h.expected.q ++ x;
          some = some;
          count = omega (arith, h.expected.count, left, length-append h.expected.q x);
          holds = h.expected.holds;
          clean = subst (λ (o : KeyOrder). Never (OfHead (strict o) (length (bytes_before h.expected.fs)) (string_major new.is_text) h.expected.w h.expected.n)) (sym same_order)
              (subst (λ (y : Bool). Never (OfHead (strict v.order) (length (bytes_before h.expected.fs)) (string_major y) h.expected.w h.expected.n)) (sym same_text) h.expected.clean);
          are_bytes = all_bytes;
          kept = subst (λ (y : List ℕ). IsKept (view_value new.keys) h.expected.fs (y ++ (h.expected.q ++ x))) heads kept_so;
          taken = bytes_so ∙ ap (λ (y : List ℕ). bytes_before h.expected.fs ++ (y ++ (h.expected.q ++ x))) heads;
          at = at-as b e (t ++ x) (t ++ x) _ (payload false (string_major new.is_text) new.left (frames_in h.expected.fs)) refl (ap (λ (y : Bool). payload false (string_major y) new.left (frames_in h.expected.fs)) (sym same_text)) at_so;
          checked = λ y. checked h.expected.q (sym same_text ∙ y) (h.expected.checked (sym same_text ∙ y));
        }))

    size_so : new.left ≡ 0 → length (h.expected.q ++ x) ≡ h.expected.n
    size_so none = let count = h.expected.count in omega (arith, none, count, left, length-append h.expected.q x)

    -- it is whole
    pub part_ends : new.left ≡ 0 → (v.is_text ≡ true → IsUtf8 (h.expected.q ++ x)) → HasEnded new b e (t ++ x)
    part_ends none utf8 =
        let q = h.expected.q ++ x in
        let size : h.expected.n ≡ length q = sym (size_so none) in
        let it = made_of v.is_text h.expected.w q in
        let it_is : hd ++ q ≡ spell it = ap (λ (k : ℕ). head (string_major v.is_text) h.expected.w k ++ q) size ∙ sym (made-spells v.is_text h.expected.w q) in
        record {
          fs = h.expected.fs;
          around = around_as v.order new b h.expected.fs (sym same_order) h.expected.around.are h.expected.around.distinct;
          item = it;
          spelled = made-spelled v.is_text h.expected.w q (subst (Holds h.expected.w) size h.expected.holds) all_bytes;
          within = omega (arith, made-flat v.is_text h.expected.w q);
          clean = subst (λ (o : KeyOrder). Never (Complains (strict o) (length (bytes_before h.expected.fs)) it)) (sym same_order)
              (made-clean v.is_text h.expected.w q (strict v.order) (length (bytes_before h.expected.fs)) (subst (λ (k : ℕ). Never (OfHead (strict v.order) (length (bytes_before h.expected.fs)) (string_major v.is_text) h.expected.w k)) size h.expected.clean) utf8);
          none = none;
          kept = subst (IsKept (view_value new.keys) h.expected.fs) it_is kept_so;
          taken = bytes_so ∙ ap (λ (y : List ℕ). bytes_before h.expected.fs ++ y) it_is;
          at = at-as b e (t ++ x) (t ++ x) _ (close (frames_in h.expected.fs)) refl (ap (λ (n : ℕ). payload false (string_major v.is_text) n (frames_in h.expected.fs)) none) at_so;
        }

    -- it is not UTF-8
    pub part_no_text : (f : Refusal) (taken place : ℕ) (to : Option (List ℕ)) → new.left ≡ 0 → v.is_text ≡ true → ¬ IsUtf8 (h.expected.q ++ x) → taken ≡ e.machine.taken → place + length (h.expected.q ++ x) ≡ taken + utf8_valid_len (h.expected.q ++ x)
        → f ≡ refusal InvalidText place taken → AreRefused (strict v.order) b (t ++ x) to f
    part_no_text f taken place to none text_so no_text all place_is is =
        let q = h.expected.q ++ x in
        let y = bytes_before h.expected.fs in
        let cs = frames_in h.expected.fs in
        let read : taken ≡ length (t ++ x) = all ∙ h.at.agrees.agrees.taken in
        let sized : taken ≡ length (y ++ hd) + length q = omega (arith, read, ap length bytes_so, length-append y (hd ++ q), length-append hd q, length-append y hd) in
        let here : place ≡ length (y ++ hd) + utf8_valid_len q = omega (arith, place_is, sized) in
        refused_part v.order b h.expected.fs h.expected.around.are h.expected.around.distinct (hd ++ q) (t ++ x) to f bytes_so (ap (λ (z : Refusal). z.read) is ∙ read)
        (text-judged (strict v.order) b cs y hd h.expected.w h.expected.n _ to f refl (subst (λ (z : Bool). StringHead (strict v.order) b cs y hd h.expected.w z h.expected.n (payload false (string_major v.is_text) h.expected.n cs)) text_so head_is) q (record {
          count = size_so none;
          are_bytes = all_bytes;
          no_text = no_text;
          is = is ∙ ap (λ (n : ℕ). refusal InvalidText n taken) here ∙ ap (refusal InvalidText (length (y ++ hd) + utf8_valid_len q)) sized;
          within = subst (λ (z : List ℕ). length z ≤ b.bytes) (bytes_so ∙ sym (append_assoc y hd q)) (at-reached b e (t ++ x) _ h.at).within;
        }))

-- What holds of a prefix that decides the verdict holds of the whole input.
use Rattle.std.proofs.Common.{ℕ, ◌≡◌, ◌≢◌, ◌≤◌, inl, inr, Option, List, [], ◌++◌, length, take, sym, ap, ◌∙◌, arith, subst, append_assoc, append-nil, length-append}
use Rattle.std.proofs.lemmas.List.{take-append-le}
use Rattle.cbor_head.specs.Prelude.{Rules, form, plain, Bounds, Value, Spelling, spell, IsItem, Decision, accepted, refused, refusal, IsVerdict}
use Rattle.cbor_head.specs.declared.reason.Reason.TheVariants.{CanonicalTooLong, Truncated, Read}
use Rattle.cbor_head.specs.declared.{order.KeyOrder.KeyOrder, reason.Refusal.Refusal}
use Rattle.theory_values.proofs.Agree.{split_prefix}
use Rattle.theory_verdicts.proofs.Further.{IsFinal, further, more, splits_further}
use Rattle.theory_verdicts.specs.Readers as readers
use Rattle.theory_verdicts.{proofs.SpelledBytes.longest_always, specs.Readers.IsUnread, specs.Readers.IsReadAs}
use Rattle.cbor_reader.specs.Canonicalise.{IsCanonicalOf, IsRefusal, of_item, canonical_too_long}
use Rattle.cbor_reader.specs.WholeItem.{IsWholeItem, IsItemRefusal, unread, trailing}
use Rattle.cborc_words.specs.declared.request.EventStyle.{EventStyle}
use Rattle.cborc_commands.specs.EventStyles.{AreLines, AreLinesCut, AreListed, AreUnlisted}
use Rattle.cborc_commands.specs.EventStyles as styles
use Rattle.cborc_commands.specs.declared.fault.Fault.TheVariants as faults
use Rattle.cborc_commands.{specs.inner.Decided.IsDecided, specs.inner.Decided.IsEnough, proofs.Places.place_within, specs.declared.fault.Fault.Fault}
use Rattle.cborc_commands.{specs.Check.IsWhole, specs.Events.IsFollowed, specs.Events.IsNotListed, proofs.Whole.AreAccepted}

module _ (r : Rules) (limits : Bounds) (prefix following : List ℕ) (enough : IsEnough r limits prefix following) where
  final : (a : Decision) → IsVerdict limits r prefix a → IsDecided r limits prefix → IsFinal a
  final (accepted s) v d = tt
  final (refused f) v d = d.within f v

  none_following : following ≡ [] → prefix ≡ prefix ++ following
  none_following e = sym (append-nil prefix) ∙ ap (λ (xs : List ℕ). prefix ++ xs) (sym e)

  verdict_whole : (a : Decision) → IsVerdict limits r prefix a → IsVerdict limits r (prefix ++ following) a
  verdict_whole a v = elim enough [
    | inl e ↦ subst (λ (xs : List ℕ). IsVerdict limits r xs a) (none_following e) v
    | inr d ↦ further limits r prefix following a v (final a v d)
  ]

  -- an item that is all of the prefix is all of the whole
  all_of : (s : Spelling) → IsVerdict limits r prefix (accepted s) → length (spell s) ≡ length prefix → prefix ≡ prefix ++ following
  all_of s v l = elim enough [
    | inl e ↦ none_following e
    | inr d ↦ absurd (omega (arith, l, d.longer s v))
  ]

  no_longer : length prefix ≤ length (prefix ++ following)
  no_longer = omega (arith, length-append prefix following)

  same_prefix : (k : ℕ) → k ≤ length prefix → take k prefix ≡ take k (prefix ++ following)
  same_prefix k l = sym (take-append-le k prefix following l)

  -- ---- what refuses an item

  unread_whole : (f : Refusal) → f.reason ≢ Read → IsUnread limits r prefix f → IsUnread limits r (prefix ++ following) f
  unread_whole f apart (readers.of_verdict v) = readers.of_verdict (verdict_whole (refused f) v)
  unread_whole f apart (readers.of_reader e v) = absurd (apart (ap (λ (x : Refusal). x.reason) e))
  unread_whole f apart (readers.of_memory p l h e free) =
      let (q, g) = longest_always limits.depth (take limits.bytes (prefix ++ following)) in
      let rest = l.rest ++ more limits r prefix following in
      let splits : take limits.bytes (prefix ++ following) ≡ p ++ rest = splits_further limits r prefix following p l.rest l.splits in
      let (k, is, other) = split_prefix p rest q g.rest (sym splits ∙ g.splits) (g.longest p rest l.beginning splits) in
      readers.of_memory q g (omega (arith, h, ap length is, length-append p k)) e
      (λ s c starts holds.
      free s c (k ++ starts.0, subst (IsItem limits.depth s) (ap (λ (xs : List ℕ). xs ++ starts.0) is ∙ append_assoc p k starts.0) starts.1) holds)

  pub item_refusal_whole : (f : Refusal) → IsItemRefusal limits r prefix f → IsItemRefusal limits r (prefix ++ following) f
  item_refusal_whole f (unread h e) = unread (unread_whole f e h) e
  item_refusal_whole f (trailing size h l e) =
      trailing size (record { item = h.item; verdict = verdict_whole (accepted h.item) h.verdict; size = h.size }) (omega (arith, l, no_longer)) e

  -- ---- what `check` finds

  pub is_whole : (size : ℕ) → IsWhole limits r prefix size → IsWhole limits r (prefix ++ following) size
  is_whole size (h, e) =
      let same = all_of h.item h.verdict (sym h.size ∙ e) in
      (record { item = h.item; verdict = verdict_whole (accepted h.item) h.verdict; size = h.size }, e ∙ ap length same)

-- by the plain rules
module _ (limits : Bounds) (prefix following : List ℕ) (enough : IsEnough plain limits prefix following) where
  -- ---- what `canonicalise` returns

  pub canonical_whole : (o : KeyOrder) (out : List ℕ) → IsCanonicalOf limits o prefix out → IsCanonicalOf limits o (prefix ++ following) out
  canonical_whole o out c = record {
    item = c.item;
    verdict = verdict_whole plain limits prefix following enough (accepted c.item) c.verdict;
    whole = c.whole ∙ all_of plain limits prefix following enough c.item c.verdict (ap length c.whole);
    canonical_bytes = c.canonical_bytes;
    fits = c.fits;
  }

  pub refusal_whole : (o : KeyOrder) (f : Refusal) → IsRefusal limits o prefix f → IsRefusal limits o (prefix ++ following) f
  refusal_whole o f (of_item h) = of_item (item_refusal_whole plain limits prefix following enough f h)
  refusal_whole o f (canonical_too_long item v w l e) =
      let same = all_of plain limits prefix following enough item v (ap length w) in
      canonical_too_long item (verdict_whole plain limits prefix following enough (accepted item) v) (w ∙ same) l (e ∙ ap (λ (b : List ℕ). refusal CanonicalTooLong (length b) (length b)) same)

  -- ---- what `show` finds

  pub is_all_of : (v : Value) → IsReadAs limits plain prefix v (length prefix) → IsReadAs limits plain (prefix ++ following) v (length (prefix ++ following))
  is_all_of v h =
      let same = all_of plain limits prefix following enough h.read.item h.read.verdict (sym h.read.size) in
      subst (IsReadAs limits plain (prefix ++ following) v) (ap length same) (record {
        read = record { item = h.read.item; verdict = verdict_whole plain limits prefix following enough (accepted h.read.item) h.read.verdict; size = h.read.size };
        value = h.value;
      })

  -- ---- what `compare` finds

  pub whole_item : AreAccepted limits prefix → IsWholeItem limits prefix → prefix ≡ prefix ++ following
  whole_item are (s, valid) = let h = (are s).0 valid in all_of plain limits prefix following enough s h.0 (ap length h.1)

-- by the form
module _ (limits : Bounds) (prefix following : List ℕ) (enough : IsEnough form limits prefix following) where
  -- ---- what `events` finds

  pub listed_whole : (style : EventStyle) (old new : Option (List ℕ)) → AreListed style 0 limits prefix (length prefix) old new → AreListed style 0 limits (prefix ++ following) (length (prefix ++ following)) old new
  listed_whole style old new h =
      let same = all_of form limits prefix following enough h.item h.verdict (sym h.size) in
      record {
        item = h.item;
        verdict = verdict_whole form limits prefix following enough (accepted h.item) h.verdict;
        size = ap length (sym same) ∙ h.size;
        written = h.written;
      }

  unlisted_whole : (style : EventStyle) (f : Refusal) (old new : Option (List ℕ)) → AreUnlisted style 0 limits prefix f old new → f.read ≤ length prefix → AreUnlisted style 0 limits (prefix ++ following) f old new
  unlisted_whole style f old new (styles.of_verdict out v l w) h =
      styles.of_verdict out (verdict_whole form limits prefix following enough (refused f) v)
      (subst (λ (t : List ℕ). AreLines style 0 limits.depth t out) (same_prefix form limits prefix following enough f.place (place_within limits prefix f v)) l) w
  unlisted_whole style f old new (styles.of_reader out e v l w) h =
      styles.of_reader out e
      (subst (λ (t : List ℕ). IsVerdict limits form t (refused (refusal Truncated f.read f.read))) (same_prefix form limits prefix following enough f.read h) v)
      (subst (λ (t : List ℕ). AreLines style 0 limits.depth t out) (same_prefix form limits prefix following enough f.read h) l) w
  unlisted_whole style f old new (styles.of_writer out e l w) h =
      styles.of_writer out e (subst (λ (t : List ℕ). AreLinesCut style 0 limits.depth t out) (same_prefix form limits prefix following enough f.read h) l) w

  followed_whole : (style : EventStyle) (f : Refusal) (old new : Option (List ℕ)) → IsFollowed style limits prefix old new f → IsFollowed style limits (prefix ++ following) old new f
  followed_whole style f old new h = record {
    size = h.size;
    listed = record {
      item = h.listed.item;
      verdict = verdict_whole form limits prefix following enough (accepted h.listed.item) h.listed.verdict;
      size = h.listed.size;
      written = h.listed.written;
    };
    followed = omega (arith, h.followed, no_longer form limits prefix following enough);
    is = h.is;
  }

  pub not_listed_whole : (style : EventStyle) (old new : Option (List ℕ)) (fault : Fault) → IsNotListed style limits prefix old new fault → IsNotListed style limits (prefix ++ following) old new fault
  not_listed_whole style old new (faults.Refused f) (own, reported, inl (u, l)) = (own, reported, inl (unlisted_whole style f old new u l, omega (arith, l, no_longer form limits prefix following enough)))
  not_listed_whole style old new (faults.Refused f) (own, reported, inr h) = (own, reported, inr (followed_whole style f old new h))
  not_listed_whole style old new faults.CannotPrint (f, u, l, e) = (f, unlisted_whole style f old new u l, omega (arith, l, no_longer form limits prefix following enough), e)
  not_listed_whole style old new faults.Memory (f, u, l, e) = (f, unlisted_whole style f old new u l, omega (arith, l, no_longer form limits prefix following enough), e)
  not_listed_whole style old new _ h = absurd h

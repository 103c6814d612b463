-- What is clean by the strict rules is clean by the plain ones, in the open containers too; and a key that has the bytes of the
-- one before it is repeated.
use Rattle.std.proofs.Common.{◌≡◌, ℕ, suc, ◌+◌, Some, List, [], ◌∷◌, ◌++◌, length, inl, inr, refl, sym, ap, ◌∙◌, arith}
use Rattle.cbor_head.specs.Prelude.{plain, strict, complaint, Complains, IsRepeated, Spelling, Spellings, SpelledEntries, no_entries, entry, spell, spellings_count, entries_count, value_of, IsSpelled, AreSpelled, AreEntriesSpelled}
use Rattle.cbor_head.specs.declared.{order.KeyOrder.KeyOrder, major.Major.TheVariants.Array, major.Major.TheVariants.Map, reason.Reason.TheVariants.RepeatedKey}
use Rattle.cbor_head.specs.declared.width.Width.{Width}
use Rattle.theory_values.proofs.PlainRules.{no_count, AreRising, below_key, no_repeat, next_key, none_plainly, none_plainly_in, none_plainly_in_entries}
use Rattle.theory_values.{specs.MemberComplaints.ComplainsIn, specs.MemberComplaints.ComplainsInEntries, proofs.ReadLaws.length_spell, proofs.Keys.same_exactly}
use Rattle.theory_values.proofs.Strict.{IsStrict, strict_spelling}
use Rattle.theory_verdicts.specs.Path.{Level, a_member, a_key, a_value, tagged, bytes_before, IsClean, AreClean, HasEnded}
use Rattle.theory_verdicts.specs.{Frame.keys_onto, Judged.IsJudged, Judged.Never, LastKey.last_key, LastKey.IsLastKey, SoFar.IsMapSoFar}
use Rattle.theory_verdicts.proofs.{LastKey.last_is, PathLevels.judged_key_path}

module _ (o : KeyOrder) where
  -- ---- items

  plain_item : (s : Spelling) (at : ℕ) → IsSpelled s → Never (Complains (strict o) at s) → Never (Complains plain at s)
  plain_item s at i f c h = none_plainly o c.end s at i (λ e x l. f e x) c h (omega arith)

  plain_members : (ss : Spellings) (at : ℕ) → AreSpelled ss → Never (ComplainsIn (strict o) at ss) → Never (ComplainsIn plain at ss)
  plain_members ss at i f c h = none_plainly_in o c.end ss at i (λ e x l. f e x) c h (omega arith)

  plain_pairs : (es : SpelledEntries) (at : ℕ) → AreEntriesSpelled es → Never (ComplainsInEntries (strict o) at [] es) → Never (ComplainsInEntries plain at [] es)
  plain_pairs es at i f c h = none_plainly_in_entries o c.end es [] at i tt (λ e x l. f e x) c h (omega arith)

  -- the keys of clean pairs rise
  keys_rise : (es : SpelledEntries) (bs : List Spelling) (at : ℕ) → AreEntriesSpelled es → AreRising o bs → Never (ComplainsInEntries (strict o) at bs es) → AreRising o (keys_onto bs es)
  keys_rise no_entries bs at i rise f = rise
  keys_rise (entry k v es) bs at i rise f =
      keys_rise es (k ∷ bs) (at + length (spell k) + length (spell v)) i.2 (next_key o (at + length (spell k)) k v es bs at i rise (λ e x l. f e x) (omega arith)) (λ e x. f e (inr (inr (inr x))))

  -- ---- the open containers

  plain_map : (at d : ℕ) (w : Width) (n : ℕ) (done : SpelledEntries) → IsMapSoFar (strict o) at d w n done → IsMapSoFar plain at d w n done
  plain_map at d w n done h = record { holds = h.holds; spelled = h.spelled; within = h.within; head_clean = no_count at Map w n; clean = plain_pairs done _ h.spelled h.clean }

  plain_level : (at d : ℕ) (l : Level) → IsClean (strict o) at d l → IsClean plain at d l
  plain_level at d (a_member w left done) h =
      record { holds = h.holds; spelled = h.spelled; within = h.within; head_clean = no_count at Array w (spellings_count done + suc left); clean = plain_members done _ h.spelled h.clean }
  plain_level at d (a_key w left done) h = plain_map at d w (entries_count done + suc left) done h
  plain_level at d (a_value w left done k) h =
      let rise = keys_rise done [] _ h.so_far.spelled tt h.so_far.clean in
      record {
        so_far = plain_map at d w (entries_count done + suc left) done h.so_far;
        spelled = h.spelled;
        within = h.within;
        clean = plain_item k _ h.spelled h.clean;
        fits = λ c x. no_repeat o (keys_onto [] done) k (strict_spelling o k _ h.spelled h.clean) (below_key o (keys_onto [] done) k _ rise (λ e y l. h.fits e y)) x.0;
      }
  plain_level at d (tagged w n) h = (h.0, λ c x. cc x.0)

  plain_levels : (d : ℕ) (ls : List Level) → AreClean (strict o) d ls → AreClean plain d ls
  plain_levels d [] h = tt
  plain_levels d (l ∷ ls) h = (h.0, plain_level _ _ l h.1, plain_levels d ls h.2)

  pub plain_ended : (d : ℕ) (ls : List Level) (s : Spelling) → HasEnded (strict o) d ls s → HasEnded plain d ls s
  plain_ended d ls s h = record { around = plain_levels d ls h.around; spelled = h.spelled; within = h.within; clean = plain_item s _ h.spelled h.clean }

  -- ---- a key of the same bytes as the last one

  same_as_last : (ks : List Spelling) (last : List ℕ) (k : Spelling) → IsLastKey last ks → AreRising o ks → IsStrict o k → last ≡ spell k → IsRepeated ks k
  same_as_last [] last k is rise s e = absurd (omega (arith, ap length (sym is ∙ e), length_spell k))
  same_as_last (p ∷ ps) last k is rise s e = inl ((same_exactly o (value_of p) (value_of k) rise.0.sound s.sound).1 (sym rise.0.bytes_are ∙ sym is ∙ e ∙ s.bytes_are))

  -- the plain rules refuse it, at the end of the key
  pub judged_repeat : (d : ℕ) (w : Width) (left : ℕ) (done : SpelledEntries) (ls : List Level) (k : Spelling) → HasEnded (strict o) d (a_key w left done ∷ ls) k → last_key done ≡ spell k
      → IsJudged plain 0 d (bytes_before (a_key w left done ∷ ls) ++ spell k) (Some (complaint (length (bytes_before (a_key w left done ∷ ls)) + length (spell k)) (length (bytes_before (a_key w left done ∷ ls))) RepeatedKey))
  judged_repeat d w left done ls k h e =
      let repeated = same_as_last (keys_onto [] done) (last_key done) k (last_is done) (keys_rise done [] _ h.around.1.spelled tt h.around.1.clean) (strict_spelling o k _ h.spelled h.clean) e in
      judged_key_path plain d w left done ls k _ (plain_ended d (a_key w left done ∷ ls) k h) (repeated, refl)

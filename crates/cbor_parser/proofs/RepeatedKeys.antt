-- The items that are skipped before a key that is reported, and its refusal.
use Rattle.std.proofs.Common.{◌≡◌, ℕ, suc, ◌+◌, ◌-◌, ◌*◌, ◌^◌, ◌<◌, ◌≤◌, List, ◌∷◌, ◌++◌, length, take, drop, refl, sym, ap, ap₂, ◌∙◌, subst, arith, append_assoc, append-nil, length-append, take_all}
use Rattle.std.proofs.Math.Seq.{drop-append-add}
use Rattle.cbor_head.specs.Prelude.{plain, Bounds, Spelling, SpelledEntries, no_spellings, a_spelling, no_entries, entry, spell, spell_entries, entries_count, IsVerdict, refused, refusal}
use Rattle.cbor_head.specs.declared.reason.{Reason.TheVariants.RepeatedKey, Refusal.Refusal}
use Rattle.theory_values.proofs.ReadLaws.{length_spell}
use Rattle.theory_automaton.proofs.Members.{members, members-count, members-bytes}
use Rattle.theory_verdicts.specs.Levels.{IsTaken, AreTaken, ArePairsTaken, bytes_before}
use Rattle.cbor_parser.specs.inner.{OpenContainer.opener, Repeated.IsKeyReported, Skip.HasItemsAtStart}
use Rattle.cbor_parser.proofs.{Repeats.pairs_taken, Repeats.opened, ReportedMaps.reported_verdict}

-- ---- pairs, as items

deeper : (d e : ℕ) (s : Spelling) → d ≤ e → IsTaken d s → IsTaken e s
deeper d e s l h = let low = h.within in record { spelled = h.spelled; within = omega (arith, low, l); clean = h.clean }

items_taken : (d e : ℕ) (es : SpelledEntries) → d ≤ e → ArePairsTaken d es → AreTaken e (members es)
items_taken d e no_entries l h = tt
items_taken d e (entry k v es) l h = (deeper d e k l h.0, (deeper d e v l h.1, items_taken d e es l h.2))

-- each has at least one byte
items_short : (es : SpelledEntries) → 2 * entries_count es ≤ length (spell_entries es)
items_short no_entries = omega arith
items_short (entry k v es) = omega (arith, items_short es, length_spell k, length_spell v, length-append (spell k ++ spell v) (spell_entries es), length-append (spell k) (spell v))

-- ---- the input, from where the content of the map begins

module _ (limits : Bounds) (input : List ℕ) (following pair : ℕ) (h : IsKeyReported limits input following pair) where
  abbrev head_before : List ℕ
  head_before = bytes_before h.outer ++ opener h.level

  abbrev content : List ℕ
  content = spell_entries h.es ++ (spell h.key ++ h.more)

  split_there : input ≡ head_before ++ content
  split_there =
      h.bytes
      ∙ ap (λ (x : List ℕ). (bytes_before h.outer ++ x) ++ (spell h.key ++ h.more)) (opened h.level h.es h.is_after)
      ∙ ap (λ (x : List ℕ). x ++ (spell h.key ++ h.more)) (sym (append_assoc (bytes_before h.outer) (opener h.level) (spell_entries h.es)))
      ∙ append_assoc head_before (spell_entries h.es) (spell h.key ++ h.more)

  content_there : take (length input - (length input - following)) (drop (length input - following) input) ≡ content
  content_there =
      let size = ap length split_there ∙ length-append head_before content in
      let begins = h.begins in
      let place : length input - following ≡ length head_before + 0 = omega (arith, begins, size) in
      let rest : drop (length input - following) input ≡ content = ap₂ (λ (n : ℕ) (x : List ℕ). drop n x) place split_there ∙ drop-append-add head_before content 0 in
      take_all _ _ (omega (arith, ap length rest, begins, size)) ∙ rest

  pub pairs_fit : 2 * pair < 2 ^ 64
  pairs_fit =
      omega (arith, h.small, h.count, items_short h.es, ap length split_there, length-append head_before content, length-append (spell_entries h.es) (spell h.key ++ h.more))

  pub content_short : length (take (length input - (length input - following)) (drop (length input - following) input)) ≤ 2 ^ 62
  content_short =
      omega (arith, h.small, ap length content_there, ap length split_there, length-append head_before content)

  pub content_shorter : length (take (length input - (length input - following)) (drop (length input - following) input)) ≤ length input
  content_shorter = omega (arith, ap length content_there, ap length split_there, length-append head_before content)

  pub pairs_at_start : (d : ℕ) → d ≡ limits.depth → HasItemsAtStart d (take (length input - (length input - following)) (drop (length input - following) input)) (2 * pair) (spell h.key ++ h.more)
  pairs_at_start d e =
      record {
        items = members h.es;
        taken = items_taken (limits.depth - suc (length h.outer)) (d - 1) h.es (omega (arith, e)) (pairs_taken (limits.depth - suc (length h.outer)) h.level h.es h.is_after h.levels.1);
        space = omega (arith, e, h.levels.0);
        count_is = omega (arith, members-count h.es, h.count);
        bytes_are = content_there ∙ ap (λ (x : List ℕ). x ++ (spell h.key ++ h.more)) (sym (members-bytes h.es));
      }

  pub key_at_start : (d : ℕ) (found : List ℕ) → d ≡ limits.depth → found ≡ spell h.key ++ h.more → HasItemsAtStart d found 1 h.more
  key_at_start d found e is =
      record {
        items = a_spelling h.key no_spellings;
        taken = (deeper (limits.depth - suc (length h.outer)) (d - 1) h.key (omega (arith, e)) h.taken, tt);
        space = omega (arith, e, h.levels.0);
        count_is = refl;
        bytes_are = is ∙ ap (λ (x : List ℕ). x ++ h.more) (sym (append-nil (spell h.key)));
      }

  module _ (key rest : List ℕ) (key_is : key ≡ spell h.key ++ h.more) (rest_is : rest ≡ h.more) where
    pub key_shorter : length key ≤ length input
    key_shorter = omega (arith, ap length key_is, ap length h.bytes, length-append (bytes_before (h.level ∷ h.outer)) (spell h.key ++ h.more))

    pub rest_shorter : length rest ≤ length input
    rest_shorter = omega (arith, ap length rest_is, ap length h.bytes, length-append (bytes_before (h.level ∷ h.outer)) (spell h.key ++ h.more), length-append (spell h.key) h.more)

    pub refused_there : (f : Refusal) → f ≡ refusal RepeatedKey (length input - length key) (length input - length rest) → (bytes : List ℕ) → input ≡ take limits.bytes bytes → IsVerdict limits plain bytes (refused f)
    refused_there f is bytes within =
        let before = bytes_before (h.level ∷ h.outer) in
        let all = length-append before (spell h.key ++ h.more) in
        let size = ap length h.bytes in
        let part = length-append (spell h.key) h.more in
        let at : length input - length key ≡ length before = omega (arith, ap length key_is, size, all) in
        let end : length input - length rest ≡ length before + length (spell h.key) = omega (arith, ap length rest_is, size, all, part) in
        subst (λ (x : Refusal). IsVerdict limits plain bytes (refused x)) (sym (is ∙ ap₂ (refusal RepeatedKey) at end)) (reported_verdict limits input following pair bytes h within)

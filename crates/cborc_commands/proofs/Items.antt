-- The items of a sequence, for each of which something was written.
use Rattle.std.proofs.Common.{ℕ, inl, inr, ◌+◌, ◌<◌, ◌≤◌, ◌≡◌, true, Option, List, [], ◌∷◌, ◌++◌, length, drop, refl, sym, ap, ◌∙◌, arith, subst, append_assoc, append-nil, length-append, length-drop}
use Rattle.std.{proofs.lemmas.List.nil_from_length, specs.List.AllByRecursion, specs.Io.KnownBytes.Appends}
use Rattle.cbor_head.specs.Prelude.{Spelling, spell}
use Rattle.theory_values.proofs.ReadLaws.{length_spell}
use Rattle.cbor_reader.specs.Sequence.{sequence_bytes, EndsBefore}
use Rattle.cborc_files.specs.Folder.{Files, KeepsFiles}
use Rattle.cborc_words.specs.declared.request.Options.{Options}
use Rattle.cborc_commands.specs.inner.Items.{IsWritten, AreWrittenOf, AreStopped, AreStoppedOf, no_input, after_no_input, within}
use Rattle.cborc_commands.specs.inner.Parts.{PartsView, IsReadTo, IsNextPart}
use Rattle.cborc_commands.specs.inner.Sources.{IsNoPart, HasInput, HasNoInput}
use Rattle.cborc_commands.proofs.ReadParts.{next_part, took, prefix_there, input_ended, input_there, no_input_there, no_next_part, weight}
use Rattle.cborc_commands.{proofs.Lists.all_with, proofs.Lists.joined_with, proofs.Outputs.appends_more, proofs.Outputs.appends_none, specs.Fault.at_item}
use Rattle.cborc_commands.{specs.Sequences.texts_from, specs.declared.fault.Fault.Fault, specs.NoInput.IsNoInput, proofs.Sources.unread}
use Rattle.cborc_commands.proofs.Files.{same_files}

-- ---- lists

-- the same of texts by where items start
texts_with : (text : ℕ → Spelling → List ℕ) (start : ℕ) (items : List Spelling) (item : Spelling)
    → texts_from text start (items ++ item ∷ []) ≡ texts_from text start items ++ text (start + length (sequence_bytes items)) item
texts_with text start [] item = append-nil (text start item) ∙ ap (λ (k : ℕ). text k item) (omega arith)
texts_with text start (s ∷ ss) item =
    let there : start + length (spell s) + length (sequence_bytes ss) ≡ start + length (sequence_bytes (s ∷ ss)) = omega (arith, length-append (spell s) (sequence_bytes ss)) in
    ap (λ (x : List ℕ). text start s ++ x) (texts_with text (start + length (spell s)) ss item ∙ ap (λ (k : ℕ). texts_from text (start + length (spell s)) ss ++ text k item) there)
    ∙ sym (append_assoc (text start s) (texts_from text (start + length (spell s)) ss) (text (start + length (sequence_bytes (s ∷ ss))) item))

-- ---- the items so far

-- each item has a byte
items_within : (items : List Spelling) → length items ≤ length (sequence_bytes items)
items_within [] = omega arith
items_within (s ∷ ss) = omega (arith, items_within ss, length_spell s, length-append (spell s) (sequence_bytes ss))

-- this number of items of the input at a path were accepted, their texts were written, and this is left of the input
pub record AreTaken (takes : Spelling → Type 0) (text : ℕ → Spelling → List ℕ) (options : Options) (source : List ℕ) (held : Option Files) (p : PartsView)
    (before middle : Option (List ℕ)) (count : ℕ) : Type 0 where
  pub items : List Spelling
  pub each : AllByRecursion takes items
  pub read : IsReadTo held source options.hex (sequence_bytes items) p
  pub count_is : count ≡ length items
  pub written : Appends before middle (texts_from text 0 items)

module _ (takes : Spelling → Type 0) (text : ℕ → Spelling → List ℕ) (options : Options) (source : List ℕ) (held : Option Files) (before : Option (List ℕ)) where
  pub none_taken : (p : PartsView) → IsReadTo held source options.hex [] p → AreTaken takes text options source held p before before 0
  none_taken p r = record { items = []; each = tt; read = r; count_is = refl; written = appends_none before }

  pub not_begun : (stops : ℕ → List ℕ → Fault → Option (List ℕ) → Option (List ℕ) → Type 0) (fault : Fault) → IsNoInput held source options.hex fault
      → AreStoppedOf takes text stops options source held before before fault
  not_begun stops fault why = no_input why (record { items = []; first = inl refl; written = appends_none before })

  module _ (old : PartsView) (middle : Option (List ℕ)) (count : ℕ) (h : AreTaken takes text options source held old before middle count) where
    pub count_within : count ≤ old.start
    count_within = omega (arith, h.count_is, items_within h.items, h.read.start_is)

    -- a part was read, and nothing written
    pub read_too : (now : Option Files) (new : PartsView) (after : Option (List ℕ)) → after ≡ middle → KeepsFiles held now → IsNextPart now source old new
        → AreTaken takes text options source held new before after count
    read_too now new after same keeps n = record {
      items = h.items;
      each = h.each;
      read = next_part held now source options.hex (sequence_bytes h.items) old new keeps h.read n;
      count_is = h.count_is;
      written = subst (λ (out : Option (List ℕ)). Appends before out (texts_from text 0 h.items)) (sym same) h.written;
    }

    pub one_more : (new : PartsView) (after : Option (List ℕ)) (size : ℕ) → IsWritten takes (text old.start) old.rest size middle after → new.rest ≡ drop size old.rest
        → new.start ≡ old.start + size → new.source ≡ old.source → AreTaken takes text options source held new before after (count + 1)
    one_more new after size w rest start same = record {
      items = h.items ++ w.item ∷ [];
      each = all_with takes h.items w.item h.each w.taken;
      read = subst (λ (xs : List ℕ). IsReadTo held source options.hex xs new) (sym (joined_with spell h.items w.item))
          (took held held source options.hex (sequence_bytes h.items) old new (same_files held) h.read (spell w.item) w.rest w.bytes_are
          (rest ∙ ap (λ (k : ℕ). drop k old.rest) w.size_is) (start ∙ ap (λ (k : ℕ). old.start + k) w.size_is) same);
      count_is = omega (arith, h.count_is, length-append h.items (w.item ∷ []));
      written = subst (Appends before after) (sym (texts_with text 0 h.items w.item ∙ ap (λ (k : ℕ). texts_from text 0 h.items ++ text k w.item) (omega (arith, h.read.start_is))))
          (appends_more before middle after (texts_from text 0 h.items) (text old.start w.item) h.written w.written);
    }

    -- the input ends there
    pub all_written : EndsBefore options.limits.bytes old.rest → (old.rest ≡ [] → old.source.ended ≡ true) → AreWrittenOf takes text options source held before middle count
    all_written (none, some) ends = record {
      input = sequence_bytes h.items ++ old.rest;
      is = input_ended held held source options.hex (sequence_bytes h.items) old (same_files held) h.read (ends none);
      written = record {
        items = h.items;
        all = record {
          starts = record { each = h.each; bytes = ap (λ (xs : List ℕ). sequence_bytes h.items ++ xs) (sym none) };
          some = some;
        };
        count_is = h.count_is;
        written = h.written;
      };
    }

    -- no more of the input can be read, and nothing was written since
    pub not_read_on : (stops : ℕ → List ℕ → Fault → Option (List ℕ) → Option (List ℕ) → Type 0) (after : Option (List ℕ)) → after ≡ middle → (now : Option Files) (fault : Fault)
        → KeepsFiles held now → IsNoPart now source old.source fault → AreStoppedOf takes text stops options source held before after fault
    not_read_on stops after same now fault keeps none = no_input (no_next_part held now source options.hex (sequence_bytes h.items) old keeps h.read fault none) (record {
      items = h.items;
      first = inr (sequence_bytes h.items ++ old.rest, old.rest, prefix_there held source options.hex (sequence_bytes h.items) old h.read, record { each = h.each; bytes = refl });
      written = subst (λ (out : Option (List ℕ)). Appends before out (texts_from text 0 h.items)) (sym same) h.written;
    })

    -- no item is accepted there, however the input continues
    module _ (stops : ℕ → List ℕ → Fault → Option (List ℕ) → Option (List ℕ) → Type 0) (begun : ¬ EndsBefore options.limits.bytes old.rest) (after : Option (List ℕ)) (fault : Fault)
        (why : (following : List ℕ) → (old.source.ended ≡ true → following ≡ []) → stops old.start (old.rest ++ following) fault middle after) where
      stopped_at : (following input : List ℕ) → (old.source.ended ≡ true → following ≡ []) → (sequence_bytes h.items ++ old.rest) ++ following ≡ input
          → AreStopped takes text stops options.limits.bytes input before after (at_item (count + 1) old.start fault)
      stopped_at following input end is = record {
        items = h.items;
        rest = old.rest ++ following;
        index = count + 1;
        start = old.start;
        goes_on = record {
          starts = record { each = h.each; bytes = sym (append_assoc (sequence_bytes h.items) old.rest following) ∙ is };
          index_is = omega (arith, h.count_is);
          start_is = h.read.start_is;
          begun = λ e. begun (nil_from_length old.rest (omega (arith, ap length e.0, length-append old.rest following)), e.1);
        };
        middle = middle;
        written = h.written;
        cause = fault;
        stopped = why following end;
        fault_is = refl;
      }

      pub stopped_there : (now : Option Files) → KeepsFiles held now → HasInput now source old.source
          → AreStoppedOf takes text stops options source held before after (at_item (count + 1) old.start fault)
      stopped_there now keeps there =
          let k = input_there held now source options.hex (sequence_bytes h.items) old keeps h.read there in
          within ((sequence_bytes h.items ++ old.rest) ++ k.following) k.is (stopped_at k.following ((sequence_bytes h.items ++ old.rest) ++ k.following) k.end refl)

      -- and then the input is found to be missing
      pub stopped_without : (now : Option Files) (other : Fault) → KeepsFiles held now → HasNoInput now source old.source other
          → AreStoppedOf takes text stops options source held before after other
      stopped_without now other keeps none =
          after_no_input (no_input_there held now source options.hex (sequence_bytes h.items) old keeps h.read other none) (sequence_bytes h.items ++ old.rest)
          (prefix_there held source options.hex (sequence_bytes h.items) old h.read) (at_item (count + 1) old.start fault)
          (stopped_at [] (sequence_bytes h.items ++ old.rest) (λ e. refl) (append-nil (sequence_bytes h.items ++ old.rest)))

-- the rest becomes less as an item is consumed
pub taken_less : (takes : Spelling → Type 0) (text : Spelling → List ℕ) (old new : PartsView) (size : ℕ) (before after : Option (List ℕ)) → IsWritten takes text old.rest size before after
    → new.rest ≡ drop size old.rest → new.source ≡ old.source → weight new < weight old
taken_less takes text old new size before after w rest same =
    omega (
      arith,
      w.size_is,
      length_spell w.item,
      length-append (spell w.item) w.rest,
      ap length w.bytes_are,
      ap length rest,
      length-drop size old.rest,
      ap unread same,
    )

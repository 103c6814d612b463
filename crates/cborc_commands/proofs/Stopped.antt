-- Which fault of a sequence follows from the fault of an item.
use Rattle.std.proofs.Common.{ℕ, ◌≡◌, ◌≢◌, ◌⊎◌, ◌∙◌, inl, inr, true, false, List, [], ◌∷◌, ◌++◌, take, Option, flat_map, refl, sym, ap, subst, arith, IfSome, length-append}
use Rattle.std.{specs.Borrow.Bor, specs.Io.KnownBytes.Appends, proofs.KnownBytes.Keeps-refl}
use Rattle.cbor_head.specs.Prelude.{Rules, form, plain, Spelling}
use Rattle.cbor_head.specs.declared.order.KeyOrder.{KeyOrder}
use Rattle.cbor_reader.specs.Sequence.{IsAccepted}
use Rattle.cborc_files.specs.Folder.{Files, is_stream, IsBlank, KeepsFiles, ReplacesFile}
use Rattle.cborc_files.specs.declared.folder.FileFault.TheVariants as file_faults
use Rattle.cborc_files.specs.declared.folder.FileFault.{FileFault}
use Rattle.cborc_words.specs.declared.request.{TextStyle.TextStyle, EventStyle.EventStyle, Options.Options, Output.Output}
use Rattle.cborc_commands.specs.Sequences.{texts_from, IsCutIn, IsCutShort, IsTakenSoFar, of_items, of_cut}
use Rattle.cborc_commands.specs.declared.fault.Fault.TheVariants as faults
use Rattle.cborc_commands.specs.inner.Items.{AreStopped, AreWrittenOf, AreStoppedOf, no_input, after_no_input, within}
use Rattle.cborc_commands.specs.CanonSequence.{HasCanonicalBytes, canonical_text, canonical_texts, IsSequenceCanonised, IsSent, HasFirstTexts, IsSequenceNotCanonised}
use Rattle.cborc_commands.specs.EventsSequence.{item_lines, all_lines, IsListedInPart, listed_to, listed_short, IsListedSoFar, items_listed, prefix_listed, IsSequenceNotListed}
use Rattle.cborc_commands.specs.ShowSequence.{item_text, IsSequenceShown, IsSequenceNotShown}
use Rattle.cborc_commands.specs.inner.SequenceItems.{IsCutText, IsUncounted, IsUnwritten, IsItemNotShown, IsItemNotListed}
use Rattle.cborc_commands.proofs.Files.{input_is_there, input_prefix, replaced_by}
use Rattle.cborc_commands.{specs.Input.IsInput, specs.Input.IsPrefix, proofs.Outputs.appends_more, specs.Put.printed, specs.Put.written, specs.Fault.at_item}
use Rattle.cborc_commands.specs.{NoInput.IsNoInput, declared.fault.Fault.Fault, CheckSequence.IsSequenceNotChecked}
use Rattle.cborc_commands.proofs.SequenceItems.{texts_anywhere, one_more_starts}

-- ---- any sequence

-- after items of these bytes, whose texts were accepted, comes one that is refused, or a part of its text was accepted
module _ (takes : Spelling → Type 0) (text : Spelling → List ℕ) (from to : Option (List ℕ)) where
  took : (middle : Option (List ℕ)) (items : List Spelling) → Appends from middle (texts_from (λ start. text) 0 items) → Appends from middle (flat_map text items)
  took middle items w = subst (Appends from middle) (texts_anywhere text 0 items) w

  module _ (stops : ℕ → List ℕ → Fault → Option (List ℕ) → Option (List ℕ) → Type 0) (n : ℕ) (bytes : List ℕ) (fault : Fault)
      (h : AreStopped takes (λ start. text) stops n bytes from to fault) where
    took_so_far : to ≡ h.middle → Appends from to (flat_map text h.items)
    took_so_far same = subst (λ (x : Option (List ℕ)). Appends from x (flat_map text h.items)) (sym same) (took h.middle h.items h.written)

    cut_in : IsCutText takes text h.rest h.middle to → IsCutIn takes text bytes from to
    cut_in t = record {
      items = h.items;
      last = t.item;
      rest = t.rest;
      starts = (one_more_starts takes bytes h.items h.rest h.goes_on.starts t.item t.rest t.has t.bytes_are).0;
      count = t.taken.0;
      part = t.taken.1;
      taken = appends_more from h.middle to (flat_map text h.items) (take t.taken.0 (text t.item)) (took h.middle h.items h.written) t.taken.2;
    }

    so_far : (options : Options) (source : List ℕ) (held : Option Files) → IsPrefix held source options.hex bytes → (to ≡ h.middle) ⊎ IsCutText takes text h.rest h.middle to
        → IsTakenSoFar takes text options source held from to
    so_far options source held is (inl same) = of_items h.items (inr (bytes, h.rest, is, h.goes_on.starts)) (took_so_far same)
    so_far options source held is (inr cut) = of_cut bytes is (cut_in cut)

-- ---- `canon --seq`

module _ (o : KeyOrder) (options : Options) (source : List ℕ) (output : Output) (held : Option Files) where
  abbrev Has : Spelling → Type 0
  Has = HasCanonicalBytes options.limits o

  abbrev text_of : Spelling → List ℕ
  text_of = canonical_text o output.form

  abbrev Unwritten : ℕ → List ℕ → Fault → Option (List ℕ) → Option (List ℕ) → Type 0
  Unwritten start = IsUnwritten options.limits o output.form

  -- nothing goes to standard output if the output is a file
  unless_stream : is_stream output.path.now ≡ false → (taken : Type 0) → IsSent output.path.now taken
  unless_stream s taken t = let two : false ≡ true = sym s ∙ t in cc two

  -- an item that is not written leaves the output unchanged, or a part of its text was accepted
  left : (bytes : List ℕ) (middle to : Option (List ℕ)) (cause : Fault) → IsUnwritten options.limits o output.form bytes cause middle to → (to ≡ middle) ⊎ IsCutText Has text_of bytes middle to
  left bytes middle to (faults.Refused f) why = inl why.1
  left bytes middle to faults.CannotPrint why = inr why
  left bytes middle to faults.Memory why = inl why
  left bytes middle to _ why = absurd why

  module _ (from to : Option (List ℕ)) where
    -- all was written
    module _ (count : ℕ) (w : AreWrittenOf Has (λ start. text_of) options source held from to count) where
      pub all_first : HasFirstTexts o options source held
      all_first = record { input = w.input; is = w.is; items = w.written.items; rest = []; starts = w.written.all.starts; some = inr w.written.all }

      pub all_printed : (new : Option Files) → is_stream output.path.now ≡ true → KeepsFiles held new → IsSequenceCanonised o options source output held new from to
      all_printed new s k = record {
        input = w.input;
        is = w.is;
        items = w.written.items;
        all = w.written.all;
        put = printed s (took Has text_of from to to w.written.items w.written.written) k;
      }

      pub all_replaced : (mid new : Option Files) → is_stream output.path.now ≡ false → IsBlank held from → KeepsFiles held mid → IfSome to (ReplacesFile mid new output.path.now)
          → (out : Option (List ℕ)) → IsSequenceCanonised o options source output held new out out
      all_replaced mid new s blank k r out = record {
        input = w.input;
        is = w.is;
        items = w.written.items;
        all = w.written.all;
        put = written s (replaced_by held mid new from to output.path.now (canonical_texts o output.form w.written.items) blank k (took Has text_of from to to w.written.items w.written.written) r) (Keeps-refl out);
      }

    module _ (fault : Fault) where
      cut_there : (input : List ℕ) (h : AreStopped Has (λ start. text_of) Unwritten options.limits.bytes input from to fault) (cause : Fault)
          → IsUnwritten options.limits o output.form h.rest cause h.middle to → at_item h.index h.start cause ≡ faults.CannotPrint → IsCutIn Has text_of input from to
      cut_there input h (faults.Refused f) why is = cc is
      cut_there input h faults.CannotPrint why is = cut_in Has text_of from to Unwritten options.limits.bytes input fault h why
      cut_there input h faults.Memory why is = cc is
      cut_there input h _ why is = absurd why

      cut_of : AreStoppedOf Has (λ start. text_of) Unwritten options source held from to fault → fault ≡ faults.CannotPrint → IsCutShort Has text_of options source held from to
      cut_of (no_input why w) e = absurd (subst (IsNoInput held source options.hex) e why)
      cut_of (after_no_input why prefix is cause h) e = absurd (subst (IsNoInput held source options.hex) e why)
      cut_of (within input is h) e = (input, is, cut_there input h h.cause h.stopped (sym h.fault_is ∙ e))

      pub first_written : AreStoppedOf Has (λ start. text_of) Unwritten options source held from to fault → fault ≡ faults.CannotPrint → HasFirstTexts o options source held
      first_written h e =
          let c = cut_of h e in
          record {
            input = c.0;
            is = c.1;
            items = c.2.items ++ c.2.last ∷ [];
            rest = c.2.rest;
            starts = c.2.starts;
            some = inl (omega (arith, length-append c.2.items (c.2.last ∷ [])));
          }

      -- what standard output accepted, by what was written
      module _ (before after : Option (List ℕ)) (sends : (Took : Option (List ℕ) → Option (List ℕ) → Type 0) → Took from to → IsSent output.path.now (Took before after))
          (cut : fault ≡ faults.CannotPrint → IsSequenceNotCanonised o options source output held before after faults.CannotPrint) where
        none_more : (x : Fault) → IsNoInput held source options.hex x → IsTakenSoFar Has text_of options source held from to → IsSequenceNotCanonised o options source output held before after x
        none_more (faults.CannotRead named) why w = (why, sends (IsTakenSoFar Has text_of options source held) w)
        none_more (faults.NotHex named) why w = (why, sends (IsTakenSoFar Has text_of options source held) w)
        none_more faults.Memory why w = (inr why, sends (IsTakenSoFar Has text_of options source held) w)
        none_more _ why w = absurd why

        by_cause : (input : List ℕ) → IsInput held source options.hex input → (h : AreStopped Has (λ start. text_of) Unwritten options.limits.bytes input from to fault) (cause : Fault)
            → h.cause ≡ cause → IsUnwritten options.limits o output.form h.rest cause h.middle to → IsSequenceNotCanonised o options source output held before after (at_item h.index h.start cause)
        by_cause input is h (faults.Refused f) e why = record {
          input = input;
          is = is;
          items = h.items;
          rest = h.rest;
          goes_on = h.goes_on;
          refused = why.0;
          sent = sends (λ (x y : Option (List ℕ)). Appends x y (canonical_texts o output.form h.items)) (took_so_far Has text_of from to Unwritten options.limits.bytes input fault h why.1);
        }
        by_cause input is h faults.CannotPrint e why = cut (h.fault_is ∙ ap (at_item h.index h.start) e)
        by_cause input is h faults.Memory e why =
            none_more faults.Memory (input_is_there held source options.hex input is) (so_far Has text_of from to Unwritten options.limits.bytes input fault h options source held (input_prefix held source options.hex input is) (inl why))
        by_cause input is h _ e why = absurd why

        by_stop : AreStoppedOf Has (λ start. text_of) Unwritten options source held from to fault → IsSequenceNotCanonised o options source output held before after fault
        by_stop (no_input why w) = none_more fault why (of_items w.items w.first (took Has text_of from to to w.items w.written))
        by_stop (after_no_input why prefix is cause h) =
            none_more fault why (so_far Has text_of from to Unwritten options.limits.bytes prefix cause h options source held is (left h.rest h.middle to h.cause h.stopped))
        by_stop (within input is h) =
            subst (IsSequenceNotCanonised o options source output held before after) (sym h.fault_is) (by_cause input is h h.cause refl h.stopped)

      pub not_printed : is_stream output.path.now ≡ true → AreStoppedOf Has (λ start. text_of) Unwritten options source held from to fault
          → IsSequenceNotCanonised o options source output held from to fault
      not_printed s h = by_stop from to (λ Took w t. w) (λ e. (s, cut_of h e)) h

      pub not_replaced : is_stream output.path.now ≡ false → AreStoppedOf Has (λ start. text_of) Unwritten options source held from to fault → fault ≢ faults.CannotPrint
          → (out : Option (List ℕ)) → IsSequenceNotCanonised o options source output held out out fault
      not_replaced s h other out = by_stop out out (λ Took w. unless_stream s (Took out out)) (λ e. absurd (other e)) h

  -- the file failed, or memory was refused
  module _ (s : is_stream output.path.now ≡ false) (t : HasFirstTexts o options source held) (path : Bor (List ℕ)) (same : path.now ≡ output.path.now) (fault : Fault) (out : Option (List ℕ)) where
    pub not_written : (cause : FileFault) → (cause ≡ file_faults.Failed → fault ≡ faults.CannotWrite path) → (cause ≡ file_faults.Memory → fault ≡ faults.Memory)
        → IsSequenceNotCanonised o options source output held out out fault
    not_written file_faults.Failed failed memory =
        subst (IsSequenceNotCanonised o options source output held out out) (sym (failed refl)) ((s, same), t)
    not_written file_faults.Memory failed memory =
        subst (IsSequenceNotCanonised o options source output held out out) (sym (memory refl)) (inl s, unless_stream s (IsTakenSoFar Has text_of options source held out out))

  -- memory was refused before anything was read
  pub none_begun : is_stream output.path.now ≡ false → (out : Option (List ℕ)) → IsSequenceNotCanonised o options source output held out out faults.Memory
  none_begun s out = (inl s, unless_stream s (IsTakenSoFar Has text_of options source held out out))

-- ---- `show --seq`

module _ (text_style : TextStyle) (options : Options) (source : List ℕ) (held : Option Files) (before after : Option (List ℕ)) where
  abbrev Valid : Spelling → Type 0
  Valid = IsAccepted options.limits plain

  abbrev Unshown : ℕ → List ℕ → Fault → Option (List ℕ) → Option (List ℕ) → Type 0
  Unshown start = IsItemNotShown options.limits text_style

  pub sequence_shown : (count : ℕ) → AreWrittenOf Valid (λ start. item_text text_style) options source held before after count
      → IsSequenceShown text_style options source held before after
  sequence_shown count w = record {
    input = w.input;
    is = w.is;
    items = w.written.items;
    all = w.written.all;
    shown = took Valid (item_text text_style) before after after w.written.items w.written.written;
  }

  unshown_left : (bytes : List ℕ) (middle : Option (List ℕ)) (cause : Fault) → IsItemNotShown options.limits text_style bytes cause middle after
      → (after ≡ middle) ⊎ IsCutText Valid (item_text text_style) bytes middle after
  unshown_left bytes middle (faults.Refused f) why = inl why.1
  unshown_left bytes middle faults.CannotPrint why = inr why
  unshown_left bytes middle faults.Memory why = inl why
  unshown_left bytes middle _ why = absurd why

  module _ (fault : Fault) where
    not_shown_by : (input : List ℕ) → IsInput held source options.hex input → (h : AreStopped Valid (λ start. item_text text_style) Unshown options.limits.bytes input before after fault)
        → (cause : Fault) → IsItemNotShown options.limits text_style h.rest cause h.middle after → IsSequenceNotShown text_style options source held before after (at_item h.index h.start cause)
    not_shown_by input is h (faults.Refused f) why = record {
      input = input;
      is = is;
      items = h.items;
      rest = h.rest;
      goes_on = h.goes_on;
      verdict = why.0;
      shown = took_so_far Valid (item_text text_style) before after Unshown options.limits.bytes input fault h why.1;
    }
    not_shown_by input is h faults.CannotPrint why = (input, is, cut_in Valid (item_text text_style) before after Unshown options.limits.bytes input fault h why)
    not_shown_by input is h faults.Memory why =
        (input_is_there held source options.hex input is, so_far Valid (item_text text_style) before after Unshown options.limits.bytes input fault h options source held (input_prefix held source options.hex input is) (inl why))
    not_shown_by input is h _ why = absurd why

    none_shown : (x : Fault) → IsNoInput held source options.hex x → IsTakenSoFar Valid (item_text text_style) options source held before after
        → IsSequenceNotShown text_style options source held before after x
    none_shown (faults.CannotRead named) why w = (why, w)
    none_shown (faults.NotHex named) why w = (why, w)
    none_shown faults.Memory why w = (why, w)
    none_shown _ why w = absurd why

    pub sequence_not_shown : AreStoppedOf Valid (λ start. item_text text_style) Unshown options source held before after fault
        → IsSequenceNotShown text_style options source held before after fault
    sequence_not_shown (no_input why w) = none_shown fault why (of_items w.items w.first (took Valid (item_text text_style) before after after w.items w.written))
    sequence_not_shown (after_no_input why prefix is cause h) =
        none_shown fault why
        (so_far Valid (item_text text_style) before after Unshown options.limits.bytes prefix cause h options source held is (unshown_left h.rest h.middle h.cause h.stopped))
    sequence_not_shown (within input is h) = subst (IsSequenceNotShown text_style options source held before after) (sym h.fault_is) (not_shown_by input is h h.cause h.stopped)

-- ---- `events --seq`

module _ (style : EventStyle) (options : Options) (source : List ℕ) (held : Option Files) (before after : Option (List ℕ)) (fault : Fault) where
  listed_part : (start : ℕ) (bytes : List ℕ) (middle : Option (List ℕ)) (cause : Fault) → IsItemNotListed style options.limits start bytes cause middle after
      → (shown : List ℕ) × IsListedInPart style start options.limits bytes shown × Appends middle after shown
  listed_part start bytes middle (faults.Refused f) (shown, why, a) = (shown, listed_to f.place why.so_far why.lines why.is, a)
  listed_part start bytes middle faults.CannotPrint (shown, why, a) = (shown, listed_short why, a)
  listed_part start bytes middle faults.Memory why = why
  listed_part start bytes middle _ why = absurd why

  lines_so_far : (prefix : List ℕ) → IsPrefix held source options.hex prefix → (reported : Fault)
      → AreStopped (IsAccepted options.limits form) (item_lines style) (IsItemNotListed style options.limits) options.limits.bytes prefix before after reported
      → IsListedSoFar style options source held before after
  lines_so_far prefix is reported h =
      let part = listed_part h.start h.rest h.middle h.cause h.stopped in
      prefix_listed prefix is h.items h.rest h.goes_on.starts part.0 (subst (λ (k : ℕ). IsListedInPart style k options.limits h.rest part.0) h.goes_on.start_is part.1)
      (appends_more before h.middle after (all_lines style h.items) part.0 h.written part.2)

  not_listed_by : (input : List ℕ) → IsInput held source options.hex input
      → (h : AreStopped (IsAccepted options.limits form) (item_lines style) (IsItemNotListed style options.limits) options.limits.bytes input before after fault)
      → (cause : Fault) → h.cause ≡ cause → IsSequenceNotListed style options source held before after (at_item h.index h.start cause)
  not_listed_by input is h (faults.Refused f) e =
      let why = subst (λ (x : Fault). IsItemNotListed style options.limits h.start h.rest x h.middle after) e h.stopped in
      record {
        input = input;
        is = is;
        items = h.items;
        rest = h.rest;
        goes_on = h.goes_on;
        shown = why.0;
        refused = why.1;
        listed = appends_more before h.middle after (all_lines style h.items) why.0 h.written why.2;
      }
  not_listed_by input is h faults.CannotPrint e =
      let why = subst (λ (x : Fault). IsItemNotListed style options.limits h.start h.rest x h.middle after) e h.stopped in
      record {
        input = input;
        is = is;
        items = h.items;
        rest = h.rest;
        index = h.index;
        start = h.start;
        goes_on = h.goes_on;
        shown = why.0;
        cut = why.1;
        listed = appends_more before h.middle after (all_lines style h.items) why.0 h.written why.2;
      }
  not_listed_by input is h faults.Memory e = (input_is_there held source options.hex input is, lines_so_far input (input_prefix held source options.hex input is) fault h)
  not_listed_by input is h _ e = absurd (subst (λ (x : Fault). IsItemNotListed style options.limits h.start h.rest x h.middle after) e h.stopped)

  none_listed : (x : Fault) → IsNoInput held source options.hex x → IsListedSoFar style options source held before after → IsSequenceNotListed style options source held before after x
  none_listed (faults.CannotRead named) why w = (why, w)
  none_listed (faults.NotHex named) why w = (why, w)
  none_listed faults.Memory why w = (why, w)
  none_listed _ why w = absurd why

  pub sequence_not_listed : AreStoppedOf (IsAccepted options.limits form) (item_lines style) (IsItemNotListed style options.limits) options source held before after fault
      → IsSequenceNotListed style options source held before after fault
  sequence_not_listed (no_input why w) = none_listed fault why (items_listed w.items w.first w.written)
  sequence_not_listed (after_no_input why prefix is cause h) = none_listed fault why (lines_so_far prefix is cause h)
  sequence_not_listed (within input is h) = subst (IsSequenceNotListed style options source held before after) (sym h.fault_is) (not_listed_by input is h h.cause refl)

-- ---- `check --seq`: what is written of the items, which is nothing, goes elsewhere than to standard output

module _ (rules : Rules) (options : Options) (source : List ℕ) (held : Option Files) (from to before after : Option (List ℕ)) (fault : Fault) where
  abbrev Uncounted : ℕ → List ℕ → Fault → Option (List ℕ) → Option (List ℕ) → Type 0
  Uncounted start bytes cause old new = IsUncounted options.limits rules bytes cause

  not_checked_by : (input : List ℕ) → IsInput held source options.hex input
      → (h : AreStopped (IsAccepted options.limits rules) (λ start item. []) Uncounted options.limits.bytes input from to fault)
      → (cause : Fault) → h.cause ≡ cause → IsSequenceNotChecked rules options source held before after (at_item h.index h.start cause)
  not_checked_by input is h (faults.Refused f) e =
      let why = subst (IsUncounted options.limits rules h.rest) e h.stopped in
      (input, is, record { items = h.items; rest = h.rest; goes_on = h.goes_on; verdict = why })
  not_checked_by input is h faults.Memory e = input_is_there held source options.hex input is
  not_checked_by input is h _ e = absurd (subst (IsUncounted options.limits rules h.rest) e h.stopped)

  none_checked : (x : Fault) → IsNoInput held source options.hex x → IsSequenceNotChecked rules options source held before after x
  none_checked (faults.CannotRead named) h = h
  none_checked (faults.NotHex named) h = h
  none_checked faults.Memory h = h
  none_checked _ h = absurd h

  pub sequence_not_checked : AreStoppedOf (IsAccepted options.limits rules) (λ start item. []) Uncounted options source held from to fault
      → IsSequenceNotChecked rules options source held before after fault
  sequence_not_checked (no_input h w) = none_checked fault h
  sequence_not_checked (after_no_input h prefix is cause w) = none_checked fault h
  sequence_not_checked (within input is h) = subst (IsSequenceNotChecked rules options source held before after) (sym h.fault_is) (not_checked_by input is h h.cause refl)

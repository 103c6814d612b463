-- Which fault a part of a subcommand passes on, and what it says about the whole input.
use Rattle.std.proofs.Common.{ℕ, ◌≡◌, ◌++◌, inl, List, length, Option, refl, sym, subst}
use Rattle.std.{specs.Io.KnownBytes.Appends, specs.Io.KnownBytes.Keeps, proofs.KnownBytes.Keeps-refl}
use Rattle.cbor_head.specs.Prelude.{Rules, form, plain, Bounds, accepted, IsVerdict, Spelling, value_of}
use Rattle.cbor_head.specs.declared.{order.KeyOrder.KeyOrder, reason.Refusal.Refusal}
use Rattle.theory_verdicts.specs.Readers.{IsReadAs}
use Rattle.cbor_reader.specs.{Canonicalise.IsCanonicalOf, Canonicalise.IsRefusal, Comparing.IsSideRefusal, WholeItem.IsWholeItem, WholeItem.IsItemRefusal}
use Rattle.cbor_reader.specs.declared.comparison.Side.{Side, TheVariants.Left, TheVariants.Right}
use Rattle.cborc_files.specs.Folder.{Files, KeepsFiles}
use Rattle.cborc_words.specs.declared.request.{EventStyle.EventStyle, TextStyle.TextStyle, Options.Options, Output.Output}
use Rattle.cborc_commands.specs.Texts.{GoesInPart, IsCanonicalText, shown_text}
use Rattle.cborc_commands.specs.declared.status.Status.TheVariants as statuses
use Rattle.cborc_commands.specs.declared.fault.Fault.TheVariants as faults
use Rattle.cborc_commands.proofs.Prefixes.{canonical_whole, refusal_whole, is_whole, is_all_of, listed_whole, not_listed_whole, whole_item, item_refusal_whole}
use Rattle.cborc_commands.specs.Check.{accepted_bytes, IsWhole, IsNoWholeInput, IsChecked, IsNotChecked}
use Rattle.cborc_commands.specs.Compare.{IsReported, IsUnreported, AreInputs, AreCompared, AreNotCompared}
use Rattle.cborc_commands.specs.Events.{IsNotListed, IsListedOf, IsNotListedOf}
use Rattle.cborc_commands.{specs.EventStyles.AreListed, proofs.Files.input_before, proofs.Files.input_is_there, specs.inner.Decided.IsEnough}
use Rattle.cborc_commands.specs.{inner.WholeInput.IsWholeInput, NoInput.IsNoInput, inner.NotWritten.IsNoText, inner.NotWritten.IsNotTaken}
use Rattle.cborc_commands.specs.{Put.IsPut, Put.IsNotPut, inner.Start.StartsInput, Fault.IsOfInput, Fault.refusal_fault, declared.status.Status.Status}
use Rattle.cborc_commands.{specs.declared.fault.Fault.Fault, proofs.Faults.refusal_is, proofs.ItemFiles.put_kept}
use Rattle.cborc_commands.{proofs.Whole.AreAccepted, proofs.Whole.read_as, specs.Canon.HasText, specs.Canon.IsNotCanonised}
use Rattle.cborc_commands.specs.Show.{IsShownOf, IsNotShown}

module _ (o : KeyOrder) (options : Options) (source : List ℕ) (output : Output) (held : Option Files) where
  text_whole : (bytes text : List ℕ) (s : StartsInput plain held source options bytes) → IsCanonicalText options.limits o output.form bytes text
      → IsCanonicalText options.limits o output.form s.input text
  text_whole bytes text s t = record {
    canonical = t.canonical;
    is = subst (λ (b : List ℕ). IsCanonicalOf options.limits o b t.canonical) s.splits (canonical_whole options.limits bytes s.following s.enough o t.canonical t.is);
    formed = t.formed;
  }

  pub canonised : (mid new : Option Files) (before after : Option (List ℕ)) (bytes text : List ℕ) → StartsInput plain held source options bytes
      → IsCanonicalText options.limits o output.form bytes text → KeepsFiles held mid → IsPut output.path.now mid new before after text
      → HasText o options source output.form held (IsPut output.path.now held new before after)
  canonised mid new before after bytes text s t k p =
      record { input = s.input; is = s.is; text = text; canonical = text_whole bytes text s t; reported = put_kept output.path.now held mid new before after text k p }

  pub not_put : (before after : Option (List ℕ)) (bytes text : List ℕ) → StartsInput plain held source options bytes → IsCanonicalText options.limits o output.form bytes text
      → (fault : Fault) → IsNotPut output.path.now fault × (fault ≡ faults.CannotPrint → GoesInPart before after text)
      → IsNotCanonised o options source output held before after fault
  not_put before after bytes text s t faults.CannotPrint (h, cut) =
      (record { input = s.input; is = s.is; text = text; canonical = text_whole bytes text s t; reported = cut refl }, h)
  not_put before after bytes text s t (faults.CannotWrite named) (h, cut) = record { input = s.input; is = s.is; text = text; canonical = text_whole bytes text s t; reported = h }
  not_put before after bytes text s t faults.Memory h = input_is_there held source options.hex s.input s.is
  not_put before after bytes text s t _ h = absurd h.0

  pub no_text : (before after : Option (List ℕ)) (bytes : List ℕ) → StartsInput plain held source options bytes → (fault : Fault)
      → IsNoText options.limits o bytes fault → IsNotCanonised o options source output held before after fault
  no_text before after bytes s (faults.Refused f) h = (
    s.input,
    s.is,
    subst (λ (b : List ℕ). IsRefusal options.limits o b f) s.splits (refusal_whole options.limits bytes s.following s.enough o f h.0),
    h.1,
  )
  no_text before after bytes s faults.Memory h = input_is_there held source options.hex s.input s.is
  no_text before after bytes s _ h = absurd h

-- ---- `check`

module _ (rules : Rules) (options : Options) (source : List ℕ) (held : Option Files) where
  pub no_input : (fault : Fault) → IsNoInput held source options.hex fault → IsNoWholeInput rules options source held fault
  no_input (faults.Refused f) h = absurd h
  no_input _ h = h

  pub checked : (size : ℕ) → IsWholeInput rules options source held size → (Reported : List ℕ → Type 0) → Reported (accepted_bytes size) → IsChecked rules options source held Reported
  checked size w Reported t = record { input = w.input; is = w.is; size = size; whole = w.whole; reported = t }

  pub unreported : (size : ℕ) (before after : Option (List ℕ)) → IsWholeInput rules options source held size → (fault : Fault)
      → IsNotTaken (accepted_bytes size) before after fault → IsNotChecked rules options source held before after fault
  unreported size before after w faults.CannotPrint h = checked size w (GoesInPart before after) h
  unreported size before after w faults.Memory h = input_is_there held source options.hex w.input w.is
  unreported size before after w _ h = absurd h

module _ (rules : Rules) (options : Options) (source : List ℕ) (held : Option Files) (bytes : List ℕ)
    (s : StartsInput rules held source options bytes) where
  pub whole_input : (size : ℕ) → IsWhole options.limits rules bytes size → IsWholeInput rules options source held size
  whole_input size w = record {
    input = s.input;
    is = s.is;
    whole = subst (λ (b : List ℕ). IsWhole options.limits rules b size) s.splits (is_whole rules options.limits bytes s.following s.enough size w);
  }

  pub not_whole : (f : Refusal) → (IsOfInput f.reason → IsItemRefusal options.limits rules bytes f) → (fault : Fault) → fault ≡ refusal_fault f
      → IsNoWholeInput rules options source held fault
  not_whole f h fault e =
      refusal_is (IsNoWholeInput rules options source held) f fault e (λ own. (
        s.input,
        s.is,
        subst (λ (b : List ℕ). IsItemRefusal options.limits rules b f) s.splits (item_refusal_whole rules options.limits bytes s.following s.enough f (h own)),
        own,
      )) (λ other. input_is_there held source options.hex s.input s.is)

module _ (options : Options) (source : List ℕ) (held : Option Files) (bytes : List ℕ) (s : StartsInput plain held source options bytes) where
  -- ---- `show`

  -- an item that is all of the bytes
  module _ (size : ℕ) (w : IsWhole options.limits plain bytes size) where
    read_whole : IsReadAs options.limits plain s.input (value_of w.0.item) (length s.input)
    read_whole =
        subst (λ (b : List ℕ). IsReadAs options.limits plain b (value_of w.0.item) (length b)) s.splits
        (is_all_of options.limits bytes s.following s.enough (value_of w.0.item) (read_as options.limits bytes size w))

    shown_by : (text_style : TextStyle) (Reported : List ℕ → Type 0) → Reported (shown_text text_style (value_of w.0.item)) → IsShownOf text_style options source held Reported
    shown_by text_style Reported h = record { input = s.input; is = s.is; value = value_of w.0.item; whole = read_whole; reported = h }

    pub shown_of : (text_style : TextStyle) (before after : Option (List ℕ))
        → ((item : Spelling) → IsVerdict options.limits plain bytes (accepted item) → Appends before after (shown_text text_style (value_of item)))
        → IsShownOf text_style options source held (Appends before after)
    shown_of text_style before after h = shown_by text_style (Appends before after) (h w.0.item w.0.verdict)

    unshown_by : (text_style : TextStyle) (before after : Option (List ℕ)) (fault : Fault) → IsNotTaken (shown_text text_style (value_of w.0.item)) before after fault
        → IsNotShown text_style options source held before after fault
    unshown_by text_style before after faults.CannotPrint h = shown_by text_style (GoesInPart before after) h
    unshown_by text_style before after faults.Memory h = (input_is_there held source options.hex s.input s.is, subst (Keeps before) (sym h) (Keeps-refl before))
    unshown_by text_style before after _ h = absurd h

    pub unshown : (text_style : TextStyle) (before after : Option (List ℕ)) (fault : Fault)
        → ((item : Spelling) → IsVerdict options.limits plain bytes (accepted item) → IsNotTaken (shown_text text_style (value_of item)) before after fault)
        → IsNotShown text_style options source held before after fault
    unshown text_style before after fault h = unshown_by text_style before after fault (h w.0.item w.0.verdict)

  pub not_shown : (text_style : TextStyle) (before after : Option (List ℕ)) → Keeps before after → (f : Refusal) → (IsOfInput f.reason → IsItemRefusal options.limits plain bytes f) → (fault : Fault) → fault ≡ refusal_fault f
      → IsNotShown text_style options source held before after fault
  not_shown text_style before after keeps f h fault e =
      refusal_is (IsNotShown text_style options source held before after) f fault e (λ own. (
        s.input,
        s.is,
        subst (λ (b : List ℕ). IsItemRefusal options.limits plain b f) s.splits (item_refusal_whole plain options.limits bytes s.following s.enough f (h own)),
        own,
      )) (λ other. (input_is_there held source options.hex s.input s.is, keeps))

-- ---- `events`

module _ (options : Options) (source : List ℕ) (held : Option Files) (bytes : List ℕ) (s : StartsInput form held source options bytes) where
  pub listed_of : (style : EventStyle) (before after : Option (List ℕ)) → AreListed style 0 options.limits bytes (length bytes) before after
      → IsListedOf style options source held before after
  listed_of style before after h = record {
    input = s.input;
    is = s.is;
    listed = subst (λ (b : List ℕ). AreListed style 0 options.limits b (length b) before after) s.splits (listed_whole options.limits bytes s.following s.enough style before after h);
  }

  listed_so : (style : EventStyle) (before after : Option (List ℕ)) (fault : Fault) → IsNotListed style options.limits bytes before after fault
      → IsNotListed style options.limits s.input before after fault
  listed_so style before after fault h = subst (λ (b : List ℕ). IsNotListed style options.limits b before after fault) s.splits (not_listed_whole options.limits bytes s.following s.enough style before after fault h)

  pub not_listed_of : (style : EventStyle) (before after : Option (List ℕ)) (fault : Fault) → IsNotListed style options.limits bytes before after fault
      → IsNotListedOf style options source held before after fault
  not_listed_of style before after fault h = inl (s.input, s.is, listed_so style before after fault h)

-- ---- `compare`

module _ (limits : Bounds) (left after_left right after_right : List ℕ) (enough : IsEnough plain limits left after_left) (enough_too : IsEnough plain limits right after_right)
    (are : AreAccepted limits left) (are_too : AreAccepted limits right) where
  prefixes_equal : IsWholeItem limits left × IsWholeItem limits right → (left ≡ left ++ after_left) × (right ≡ right ++ after_right)
  prefixes_equal (l, r) = (whole_item limits left after_left enough are l, whole_item limits right after_right enough_too are_too r)

  same_prefixes : (Reported : List ℕ → Type 0) (status : Status) → IsReported limits left right Reported status
      → (left ≡ left ++ after_left) × (right ≡ right ++ after_right) → IsReported limits (left ++ after_left) (right ++ after_right) Reported status
  same_prefixes Reported status h (l, r) =
      subst (λ (x : List ℕ). IsReported limits (left ++ after_left) x Reported status) r
      (subst (λ (x : List ℕ). IsReported limits x right Reported status) l h)

  pub reported_whole : (Reported : List ℕ → Type 0) (status : Status) → IsReported limits left right Reported status → IsReported limits (left ++ after_left) (right ++ after_right) Reported status
  reported_whole Reported statuses.Accepted h = same_prefixes Reported statuses.Accepted h (prefixes_equal h.0)
  reported_whole Reported statuses.Refused h = same_prefixes Reported statuses.Refused h (prefixes_equal h.0)
  reported_whole Reported _ h = absurd h

  left_whole : IsWholeItem limits left → IsWholeItem limits (left ++ after_left)
  left_whole l = subst (IsWholeItem limits) (whole_item limits left after_left enough are l) l

  side_whole : (side : Side) (f : Refusal) → IsSideRefusal limits left right side f → IsSideRefusal limits (left ++ after_left) (right ++ after_right) side f
  side_whole Left f h = item_refusal_whole plain limits left after_left enough f h
  side_whole Right f (l, h) = (left_whole l, item_refusal_whole plain limits right after_right enough_too f h)

  pub unreported_whole : (before after : Option (List ℕ)) (fault : Fault) → IsUnreported limits left right before after fault
      → IsUnreported limits (left ++ after_left) (right ++ after_right) before after fault
  unreported_whole before after (faults.LeftRefused f) (h, own) = (side_whole Left f h, own)
  unreported_whole before after (faults.RightRefused f) (h, own) = (side_whole Right f h, own)
  unreported_whole before after faults.Memory (side, f, h, e) = (side, f, side_whole side f h, e)
  unreported_whole before after faults.CannotPrint (status, h) = (status, reported_whole (GoesInPart before after) status h)
  unreported_whole before after _ h = absurd h

module _ (options : Options) (left right : List ℕ) (old mid : Option Files) (keeps : KeepsFiles old mid) (first second : List ℕ)
    (s : StartsInput plain old left options first) (t : StartsInput plain mid right options second) (are : AreAccepted options.limits first) (are_too : AreAccepted options.limits second) where
  both : AreInputs old left right options s.input t.input
  both = record { left_is = s.is; right_is = input_before old mid right options.hex t.input keeps t.is }

  pub compared : (before after : Option (List ℕ)) (status : Status) → IsReported options.limits first second (Appends before after) status
      → AreCompared options left right old before after status
  compared before after status h = record {
    first = s.input;
    second = t.input;
    are = both;
    reported = subst (λ (x : List ℕ). IsReported options.limits s.input x (Appends before after) status) t.splits
        (subst (λ (x : List ℕ). IsReported options.limits x (second ++ t.following) (Appends before after) status) s.splits
        (reported_whole options.limits first s.following second t.following s.enough t.enough are are_too (Appends before after) status h));
  }

  pub not_compared : (before after : Option (List ℕ)) (fault : Fault) → IsUnreported options.limits first second before after fault
      → AreNotCompared options left right old before after fault
  not_compared before after fault h =
      inl (record {
        first = s.input;
        second = t.input;
        are = both;
        unreported = subst (λ (x : List ℕ). IsUnreported options.limits s.input x before after fault) t.splits
            (subst (λ (x : List ℕ). IsUnreported options.limits x (second ++ t.following) before after fault) s.splits
            (unreported_whole options.limits first s.following second t.following s.enough t.enough are are_too before after fault h));
      })

-- What holds of a sequence in a later state of the same files holds in an earlier one.
use Rattle.std.proofs.Common.{ℕ, inl, inr, List, Option}
use Rattle.cbor_head.specs.Prelude.{Spelling}
use Rattle.cborc_files.specs.Folder.{Files, KeepsFiles}
use Rattle.cborc_words.specs.declared.request.Options.{Options}
use Rattle.cborc_commands.specs.inner.Items.{AreWrittenOf, AreStoppedOf, no_input, after_no_input, within}
use Rattle.cborc_commands.{proofs.Files.input_before, proofs.Files.prefix_before, specs.Sequences.AreFirst, specs.declared.fault.Fault.Fault}
use Rattle.cborc_commands.proofs.NoInput.{no_input_before}

-- what holds in a later state of the same files holds in an earlier one
module _ (takes : Spelling → Type 0) (text : ℕ → Spelling → List ℕ) (options : Options) (source : List ℕ) (a b : Option Files) (keeps : KeepsFiles a b) (from to : Option (List ℕ)) where
  pub written_before : (count : ℕ) → AreWrittenOf takes text options source b from to count → AreWrittenOf takes text options source a from to count
  written_before count w = record { input = w.input; is = input_before a b source options.hex w.input keeps w.is; written = w.written }

  first_before : (items : List Spelling) → AreFirst takes options source b items → AreFirst takes options source a items
  first_before items (inl none) = inl none
  first_before items (inr (prefix, rest, is, starts)) = inr (prefix, rest, prefix_before a b source options.hex prefix keeps is, starts)

  pub stopped_before : (stops : ℕ → List ℕ → Fault → Option (List ℕ) → Option (List ℕ) → Type 0) (fault : Fault) → AreStoppedOf takes text stops options source b from to fault
      → AreStoppedOf takes text stops options source a from to fault
  stopped_before stops fault (no_input why w) =
      no_input (no_input_before a b source options.hex fault keeps why) (record { items = w.items; first = first_before w.items w.first; written = w.written })
  stopped_before stops fault (after_no_input why prefix is cause h) =
      after_no_input (no_input_before a b source options.hex fault keeps why) prefix (prefix_before a b source options.hex prefix keeps is) cause h
  stopped_before stops fault (within input is h) = within input (input_before a b source options.hex input keeps is) h

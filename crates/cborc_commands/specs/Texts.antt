-- What is written for an item: canonical bytes in a form, and diagnostic text in a layout.
use Rattle.std.specs.Prelude.{ℕ, ◌≡◌, ◌<◌, ◌++◌, List, length, take, codes, Option}
use Rattle.std.specs.Io.KnownBytes.{Appends}
use Rattle.hex.specs.Hex.{encode_lower}
use Rattle.cbor_head.specs.{Prelude.Bounds, Prelude.Value, declared.order.KeyOrder.KeyOrder}
use Rattle.cbor_reader.specs.Canonicalise.{IsCanonicalOf}
use Rattle.cbor_diag.specs.{Text.text, IndentedText.indented}
use Rattle.cborc_words.specs.declared.request.{Form.Form, Form.TheVariants.Raw, Form.TheVariants.Hex, TextStyle.TextStyle}
use Rattle.cborc_words.specs.declared.request.TextStyle.TheVariants.{OneLine, Indented}

-- bytes in a form: unchanged, or two lower-case hex digits each and a line feed
abbrev pub in_form : Form → List ℕ → List ℕ
in_form Raw bytes = bytes
in_form Hex bytes = encode_lower bytes ++ codes "\n"

-- the canonical bytes of the input, in a form
pub record IsCanonicalText (limits : Bounds) (o : KeyOrder) (form : Form) (input text : List ℕ) : Type 0 where
  pub canonical : List ℕ
  pub is : IsCanonicalOf limits o input canonical
  pub formed : text ≡ in_form form canonical

-- the text of a value in a layout, and a line feed
abbrev pub shown_text : TextStyle → Value → List ℕ
shown_text OneLine v = text v ++ codes "\n"
shown_text Indented v = indented 0 v ++ codes "\n"

-- only the first bytes of a text were written, not all
abbrev pub GoesInPart : Option (List ℕ) → Option (List ℕ) → List ℕ → Type 0
GoesInPart before after text = (count : ℕ) × (count < length text) × Appends before after (take count text)

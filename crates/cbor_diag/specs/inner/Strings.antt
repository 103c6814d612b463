-- The text of a string, in the parts in which it is written.
use Rattle.std.specs.Prelude.{ℕ, Bool, true, false, List, ◌++◌, flat_map, codes}
use Rattle.hex.specs.Hex.{encode_lower}
use Rattle.cbor_diag.specs.Text.{escaped}

-- the text before the content of a text or of a byte string
abbrev pub opening : Bool → List ℕ
opening true = codes "\""
opening false = codes "h'"

abbrev pub content_text : Bool → List ℕ → List ℕ
content_text true content = flat_map escaped content
content_text false content = encode_lower content

abbrev pub closing : Bool → List ℕ
closing true = codes "\""
closing false = codes "'"

abbrev pub string_text : Bool → List ℕ → List ℕ
string_text is_text content = opening is_text ++ content_text is_text content ++ closing is_text

-- What a builder of views holds after some parts of an item.
use Rattle.std.specs.Prelude.{◌≡◌, ℕ, Bool, true, IsUtf8, List}
use Rattle.cbor_item.specs.ViewValue.{open_levels}
use Rattle.theory_verdicts.specs.Levels.{Level, ParseState, item_expected}
use Rattle.cbor_tree_reader.specs.TreeValues.{level_values, values_at, IsFullRight}
use Rattle.cbor_reader.specs.{inner.KeyBytes.keys_agree, declared.view_sink.ViewSink.ViewSink}

-- it holds the canonical bytes of keys, and the views of what is complete
abbrev pub view_agrees : ViewSink → ViewSink → ParseState → Type 0
view_agrees start g st = keys_agree start.keys g.keys st × IsFullRight st × (open_levels g.views ≡ values_at st)

-- within a string, it also holds the content so far
abbrev pub view_holds : ViewSink → ViewSink → List Level → Bool → List ℕ → Type 0
view_holds start g ls is_text content =
    keys_agree start.keys g.keys (item_expected ls) × (open_levels g.views ≡ level_values ls) × (g.joined ≡ content) × (is_text ≡ true → IsUtf8 content)

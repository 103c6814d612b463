use Rattle.std.proofs.Common.{ℕ, Bool, List, length, ◌∙◌, ap₂, sym, subst, arith, IsUtf8, take_all}
use Rattle.cbor_item.specs.{OpenValues.give, ViewValue.open_levels}
use Rattle.theory_verdicts.specs.Reading.{string_value}
use Rattle.cbor_parser.specs.Sink.{Gives}
use Rattle.cbor_reader.proofs.ViewGiven.{expected, takes, utf8-expected, whole-expected, string-ended}
use Rattle.cbor_reader.proofs.view_sink.ViewSinkSink.end_string.Goals as goal
use Rattle.cbor_reader.specs.{inner.KeyBytes.keys_agree, declared.key_bytes.KeyBytes.KeyBytes}

pub string-requires : goal.string-requires
string-requires c =
    let content = c.as_slice-content.result.now in
    let whole = take_all (length content) content (omega arith) ∙ c.as_slice-content.ensures in
    record {
      within = omega arith;
      utf8 = λ e. subst IsUtf8 (sym whole) (utf8-expected c.args.is_key c.args.is_text c.args.self.now c.requires.expected e);
      expected = expected c.args.is_key c.args.self.now (whole-expected c.args.is_key c.args.is_text c.args.self.now c.requires.expected);
    }

pub copied_text-requires : goal.copied_text-requires
copied_text-requires c = record { takes = takes c.args.is_key c.args.self.now (whole-expected c.args.is_key c.args.is_text c.args.self.now c.requires.expected) }

pub copied_bytes-requires : goal.copied_bytes-requires
copied_bytes-requires c = record { takes = takes c.args.is_key c.args.self.now (whole-expected c.args.is_key c.args.is_text c.args.self.now c.requires.expected) }

pub returns-in_ok-copied_text-clause-given : goal.returns-in_ok-copied_text-clause-given
returns-in_ok-copied_text-clause-given c =
    let old = c.args.self.now in
    let t = c.args.is_text in
    let whole = take_all (length c.as_slice-content.result.now) c.as_slice-content.result.now (omega arith) ∙ c.as_slice-content.ensures in
    string-ended c.args.is_key t old (record { keys = c.string.new.self; views = c.copied_text.new.self; joined = old.joined })
    (subst (λ (x : List ℕ). Gives KeyBytes keys_agree c.args.is_key (string_value t x) old.keys c.string.new.self) whole c.in_ok-string.ensures.given)
    (c.in_ok-copied_text.ensures.given
    ∙ ap₂ (λ (b : Bool) (x : List ℕ). give (string_value b x) (open_levels old.views)) (sym c.if-is_text.true) (c.from_utf8_unchecked-text.ensures ∙ c.as_slice-content.ensures))

pub returns-in_ok-copied_bytes-clause-given : goal.returns-in_ok-copied_bytes-clause-given
returns-in_ok-copied_bytes-clause-given c =
    let old = c.args.self.now in
    let t = c.args.is_text in
    let whole = take_all (length c.as_slice-content.result.now) c.as_slice-content.result.now (omega arith) ∙ c.as_slice-content.ensures in
    string-ended c.args.is_key t old (record { keys = c.string.new.self; views = c.copied_bytes.new.self; joined = old.joined })
    (subst (λ (x : List ℕ). Gives KeyBytes keys_agree c.args.is_key (string_value t x) old.keys c.string.new.self) whole c.in_ok-string.ensures.given)
    (c.in_ok-copied_bytes.ensures.given ∙ ap₂ (λ (b : Bool) (x : List ℕ). give (string_value b x) (open_levels old.views)) (sym c.if-is_text.false) c.as_slice-content.ensures)
